-- Which states a session represents.
use Rattle.std.specs.Prelude.{◌≡◌, ℕ, Option, Result, List, OnErr, IfOk, true}
use Rattle.dap_history.specs.declared.input.Input.{Input}
use Rattle.dap_prompt.specs.Inputs.{is_success}
use Rattle.dap_prompt.specs.declared.outcome.InputReply.{InputReply}
use Rattle.dap_prompt.specs.declared.outcome.RequestOutcome.{RequestOutcome}
use Rattle.dap_session.specs.Effects.{ToldOutcome}
use Rattle.std.specs.declared.alloc.AllocError.{AllocError}
use Rattle.lab_core.specs.Labs.{LabState, RepresentsBoard}
use Rattle.dap_messages.specs.declared.message.Message.{Message}
use Rattle.dap_session.specs.declared.settings.SessionSettings.{SessionSettings}
use Rattle.dap_slice.specs.declared.conditions.ConditionalBreakpoint.{ConditionalBreakpoint}
use Rattle.dap_run.specs.declared.program.Program.{Program}
use Rattle.dap_run.specs.declared.reply.Reply.{Reply}
use Rattle.dap_session.specs.Breakpoints.{SetList, armed_where, kept_or, conditional_where}
use Rattle.dap_session.specs.States.{SessionState, with_board, wants_slice}
use Rattle.dap_session.specs.Turns.{Replied}
use Rattle.dap_session.specs.Slices.{Told, slicing, slice_end_in}
use Rattle.dap_session.specs.declared.session.RunSlice.{RunSlice}

-- what a contract sees of a session
pub record SessionFields : Type 0 where
  pub lab : LabState
  pub settings : SessionSettings

pub record RepresentsSession (v : SessionFields) (s : SessionState) : Type 0 where
  pub board : RepresentsBoard v.lab s.board
  pub settings : v.settings ≡ s.settings

-- it represents some state
abbrev pub RepresentsSome : SessionFields → Type 0
RepresentsSome v = (s : SessionState) × RepresentsSession v s

-- the reply is this one, and the session represents the state after it
pub record Replies (r : Replied) (reply : Reply) (new : SessionFields) : Type 0 where
  pub outcome : reply.outcome ≡ r.outcome
  pub follow : reply.follow ≡ r.follow
  pub represents : RepresentsSession new r.state

-- The reply is that of `f` for each state that the session represents. If memory runs out the session stays
-- as it was.
abbrev pub RepliesAs : (SessionState → Replied) → SessionFields → Result Reply AllocError → SessionFields
    → Type 0
RepliesAs f old result new =
    ((s : SessionState) → RepresentsSession old s → IfOk result (λ reply. Replies (f s) reply new))
    × OnErr result (new ≡ old)

-- the same with the input that the request is, if it is carried out
pub record Makes (r : Replied) (i : Option Input) (made : InputReply) (new : SessionFields) : Type 0 where
  pub replies : Replies r made.reply new
  pub input : is_success r.outcome ≡ true → made.input ≡ i

abbrev pub MakesAs : (SessionState → Replied) → (SessionState → Option Input) → SessionFields
    → Result InputReply AllocError → SessionFields
    → Type 0
MakesAs f i old result new =
    ((s : SessionState) → RepresentsSession old s → IfOk result (λ made. Makes (f s) (i s) made new))
    × OnErr result (new ≡ old)

-- these messages go out, and the session represents the state after them
abbrev pub Tells : Told → List Message → SessionFields → Type 0
Tells t messages new = (messages ≡ t.messages) × RepresentsSession new t.state

-- The messages are those of `f` for each state that the session represents. If memory runs out the session
-- stays as it was.
abbrev pub TellsAs : (SessionState → Told) → SessionFields → Result (List Message) AllocError → SessionFields
    → Type 0
TellsAs f old result new =
    ((s : SessionState) → RepresentsSession old s → IfOk result (λ messages. Tells (f s) messages new))
    × OnErr result (new ≡ old)

-- the same with what the request did
pub record Takes (t : ToldOutcome) (o : RequestOutcome) (new : SessionFields) : Type 0 where
  pub messages : o.messages ≡ t.messages
  pub effect : o.effect ≡ t.effect
  pub represents : RepresentsSession new t.state

abbrev pub TakesAs : (SessionState → ToldOutcome) → SessionFields → Result RequestOutcome AllocError
    → SessionFields
    → Type 0
TakesAs f old result new =
    ((s : SessionState) → RepresentsSession old s → IfOk result (λ outcome. Takes (f s) outcome new))
    × OnErr result (new ≡ old)

-- a run goes on
abbrev pub WantsSlice : SessionFields → Type 0
WantsSlice v = (s : SessionState) → RepresentsSession v s → wants_slice s ≡ true

-- a slice of at most n steps was made
pub record SlicesWithin (n : ℕ) (s : SessionState) (slice : RunSlice) (new : SessionFields) : Type 0 where
  pub executed : slice.executed ≡ (slice_end_in n s).0
  pub told : Tells (slicing (slice_end_in n s) s) slice.messages new

-- ---- breakpoints

-- These are new breakpoints at which the program's run stops, now that this list is set; `None` means that
-- they stay what they were.
abbrev pub FindsWanted : SetList → SessionFields → Result (Option (List ConditionalBreakpoint)) AllocError
    → Type 0
FindsWanted l old result = (s : SessionState) → RepresentsSession old s → IfOk result (λ points.
    kept_or (l.number s.settings.points) points s.settings.conditional
    ≡ conditional_where l s.settings.program s)

-- the same of the program that is found, whose board stops there
abbrev pub ArmsWanted : SetList → (Option Program → Option Program) → SessionFields
    → Result (Option (List ConditionalBreakpoint)) AllocError → SessionFields
    → Type 0
ArmsWanted l find old result new = (s : SessionState) → RepresentsSession old s → IfOk result (λ points.
    (kept_or (l.number s.settings.points) points s.settings.conditional
    ≡ conditional_where l (find s.settings.program) s)
    × RepresentsSession new
    (with_board (armed_where (find s.settings.program) (l.wanted s.settings.points) s.board) s))
