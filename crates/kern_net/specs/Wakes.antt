-- Which of a reader's calls may give the worker something to do, and what the others leave unchanged.
use Rattle.std.specs.Prelude.{◌≡◌, ◌⊎◌, ℕ, ◌∷◌, [], List, Bool, true, false, not, is_some, All}
use Rattle.dap_talk.specs.declared.command.DapCommand.{DapCommand}
use Rattle.dap_talk.specs.declared.command.DapCommand.TheVariants as command
use Rattle.kern_request.specs.declared.request.RequestBody.{RequestBody}
use Rattle.kern_request.specs.declared.request.RequestBody.TheVariants as body
use Rattle.kern_peers.specs.Connections.{Connections, subscribers}
use Rattle.kern_post.specs.declared.post.Letter.{Letter}
use Rattle.kern_calls.specs.declared.call.Call.{Call}
use Rattle.kern_calls.specs.declared.call.Call.TheVariants.{Subscribe, Arrive}
use Rattle.kern_core.specs.Requests.{plain_reply}
use Rattle.kern_core.specs.States.{KernelState, Turn}
use Rattle.kern_core.specs.Turns.{turn}

-- the debug commands that steer a run, or change the board, its breakpoints or the texts that it keeps
abbrev pub steers : DapCommand → Bool
steers command.Attach = true
steers command.Disconnect = true
steers (command.SetBreakpoints path lines) = true
steers (command.SetVariable reference name value) = true
steers command.Continue = true
steers (command.Step kind granularity) = true
steers command.Pause = true
steers (command.DumpCell code) = true
steers (command.BoardSwitches value) = true
steers (command.BoardPress vector) = true
steers (command.BoardType text) = true
steers command.BoardReset = true
steers (command.BoardAliases aliases) = true
steers _ = false

-- the requests that are answered by one reply, or by nothing between busy and idle but the end of a comm
abbrev pub spared_by : RequestBody → Bool
spared_by (body.Debug d) = not (steers d.command)
spared_by (body.CommOpen comm_id) = true
spared_by (body.BadContent lacking) = true
spared_by body.Unknown = true
spared_by other = is_some (plain_reply 0 other)

-- the call gives the worker nothing to do, which is only said of the calls that a reader makes
abbrev pub spares_worker : Call → Bool
spares_worker (Subscribe connection subscription) = true
spares_worker (Arrive connection arrival) = spared_by arrival.request.body
spares_worker _ = false

abbrev pub concerns_worker : Call → Bool
concerns_worker call = not (spares_worker call)

-- to this connection alone, or to those on iopub who subscribe to some topic
abbrev pub GoesTo : ℕ → Connections → Letter → Type 0
GoesTo connection c letter =
    (letter.envelope.to ≡ connection ∷ [])
    ⊎ ((topic : List ℕ) × (letter.envelope.to ≡ subscribers topic c.peers))

-- The turn changes nothing that a Slice depends on, so a worker that had nothing to do still has nothing to
-- do; and its letters go to this connection, or to iopub.
pub record LeavesWork (connection : ℕ) (s : KernelState) (t : Turn) : Type 0 where
  pub board : t.state.board ≡ s.board
  pub work : t.state.work ≡ s.work
  pub is_shut : t.state.is_shut ≡ s.is_shut
  pub letters : All (GoesTo connection s.connections) t.letters

abbrev pub GivesNone : Call → KernelState → Type 0
GivesNone (Subscribe connection subscription) s =
    LeavesWork connection s (turn (Subscribe connection subscription) s)
GivesNone (Arrive connection arrival) s = LeavesWork connection s (turn (Arrive connection arrival) s)
GivesNone _ s = ⊥
