-- What a pump wrote, and how it ended.
use Rattle.std.specs.Prelude.{◌≡◌, ℕ, ◌-◌, ◌≤◌, ◌⊎◌, Bool, true, false, List, ◌++◌, length, drop, Ok, Err}
use Rattle.zmtp_wire.specs.Wire.{Bytes}
use Rattle.lab_turn.specs.History.{PassState, TurnstileState}
use Rattle.base_streams.specs.States.{OutletState, IsWritable}
use Rattle.base_streams.specs.Told.{Took, TookPrefix}
use Rattle.kern_post.specs.declared.post.Post.{Post}
use Rattle.kern_calls.specs.declared.call.Call.{Call}
use Rattle.kern_calls.specs.declared.call.Call.TheVariants.{Fetch}
use Rattle.kern_calls.specs.declared.call.Reply.TheVariants as reply
use Rattle.kern_calls.specs.declared.fault.KernelFault.TheVariants as fault
use Rattle.kern_core.specs.Kernels.{is_entry}
use Rattle.kern_net.specs.declared.end.PumpEnd.{PumpEnd}
use Rattle.kern_net.specs.declared.end.PumpEnd.TheVariants as end
use Rattle.kern_net.specs.declared.routes.OutgoingRoute.{OutgoingRoute}
use Rattle.kern_net.specs.Routes.{Target, target_of}
use Rattle.kern_net.specs.Gates.{WriterPolls, FetchedAll, PolledForEach}
use Rattle.kern_net.specs.Calls.{TurnedBy}
use Rattle.kern_net.specs.Streams.{posts_in, window, IsStreamOf}

-- what is written to, the pass of the calls that fetch, and what the writer's gate was polled
pub record Writer : Type 0 where
  pub outlet : OutletState
  pub pass : PassState Call
  pub polls : WriterPolls

abbrev pub writer_with : OutletState → PassState Call → WriterPolls → Writer
writer_with outlet pass polls = record { outlet = outlet; pass = pass; polls = polls }

-- the pass is of this desk, no write has failed, and the gate hasn't said no
pub record CanWrite (desk : TurnstileState) (writer : Writer) : Type 0 where
  pub pass : writer.pass.turnstile ≡ desk
  pub good : IsWritable writer.outlet
  pub gate : writer.polls.idle.no ≡ 0

-- These Fetches were made and answered, one turn after the other: the first from this number, each other from
-- where the one before it said to go on. The last number is where to go on now.
pub data FetchedOn (connection from : ℕ) (old : PassState Call) : PassState Call → ℕ → Type 0 where
  NoFetch : FetchedOn connection from old old from
  OneFetch : (mid new : PassState Call) (at next : ℕ) (posts : List Post) (ended : Bool)
      → FetchedOn connection from old mid at
      → TurnedBy mid (Fetch connection at) (Ok (reply.Fetched posts next ended)) new
      → FetchedOn connection from old new next

-- what came after them, by the end: nothing, or one more Fetch that was refused for this cause, or for which
-- there was no turn
abbrev pub StopsFetching : ℕ → ℕ → PassState Call → PassState Call → PumpEnd → Type 0
StopsFetching connection next mid new end.Ended = new ≡ mid
StopsFetching connection next mid new end.WriteFailed = new ≡ mid
StopsFetching connection next mid new end.OutOfMemory =
    (new ≡ mid) ⊎ TurnedBy mid (Fetch connection next) (Err fault.OutOfMemory) new
StopsFetching connection next mid new end.JournalFull =
    TurnedBy mid (Fetch connection next) (Err fault.JournalFull) new
StopsFetching connection next mid new end.Lagged =
    (first : ℕ) × TurnedBy mid (Fetch connection next) (Err (fault.Lagged first)) new
StopsFetching connection next mid new (end.Refused fault) =
    TurnedBy mid (Fetch connection next) (Err fault) new × (is_entry (Err fault) ≡ true)
StopsFetching connection next mid new end.OutOfTickets = new ≡ record mid { out_of_tickets = true }
StopsFetching connection next mid new _ = ⊥

-- no write failed, and memory didn't run out
abbrev pub is_whole : PumpEnd → Bool
is_whole end.OutOfMemory = false
is_whole end.WriteFailed = false
is_whole _ = true

-- what was written is a prefix of the messages of these posts
pub record WrotePrefix (target : Target) (to to' : OutletState) (posts : List Post) : Type 0 where
  pub begun : List Post
  pub others : List Post
  pub split : posts ≡ begun ++ others
  pub bytes : Bytes
  pub stream : IsStreamOf target.key target.session begun bytes
  pub front : TookPrefix to to' bytes

-- what was written are the messages of these posts
pub record WroteAll (target : Target) (to to' : OutletState) (posts : List Post) : Type 0 where
  pub bytes : Bytes
  pub stream : IsStreamOf target.key target.session posts bytes
  pub took : Took to to' bytes

-- The pass has fetched all posts to a connection, and the last messages that were written are those of the
-- posts to it from one number on and below the other, at which to go on.
pub record HasCaughtUp (pass : PassState Call) (outlet : OutletState) (from next : ℕ) : Type 0 where
  pub target : Target
  pub ended : Bool
  pub fetched : FetchedAll target.connection pass next ended
  pub before : OutletState
  pub wrote : WroteAll target before outlet (window target.connection from next (posts_in pass.seen))

-- The last Fetch reached the last post that there was. Then the gate said no, once; or that Fetch told of a
-- shutdown, and the gate hasn't said no.
abbrev pub EndsAll : ℕ → ℕ → PassState Call → WriterPolls → Type 0
EndsAll connection next pass polls = (ended : Bool)
    × FetchedAll connection pass next ended
    × ((polls.idle.no ≡ 1) ⊎ ((polls.idle.no ≡ 0) × (ended ≡ true)))

-- Why it ended, where the next post has this number. The gate may have said no only at Ended, and a write has
-- failed only at WriteFailed.
abbrev pub OutEnds : ℕ → ℕ → Writer → PumpEnd → Type 0
OutEnds connection next writer end.Ended =
    IsWritable writer.outlet × EndsAll connection next writer.pass writer.polls
OutEnds connection next writer end.WriteFailed =
    (writer.outlet.failed ≡ true) × (writer.polls.idle.no ≡ 0)
OutEnds connection next writer _ = IsWritable writer.outlet × (writer.polls.idle.no ≡ 0)

-- Only Fetches were called, up to the first that was refused. What was written are the posts to the
-- connection that they cover, in the history that the pass has seen, or a prefix of them.
pub record WroteOut (target : Target) (from : ℕ) (old new : Writer) (e : PumpEnd) : Type 0 where
  pub mid : PassState Call
  pub next : ℕ
  pub onward : from ≤ next
  pub within : next - from ≤ length (drop (from - 1) (posts_in new.pass.seen))
  pub fetched : FetchedOn target.connection from old.pass mid next
  pub last : StopsFetching target.connection next mid new.pass e
  pub front : WrotePrefix target old.outlet new.outlet
      (window target.connection from next (posts_in new.pass.seen))
  pub whole : is_whole e ≡ true → WroteAll target old.outlet new.outlet
      (window target.connection from next (posts_in new.pass.seen))
  pub cause : OutEnds target.connection next new e

-- A connection's posts were written from this number on, to this end, by calls of one seat at the route's
-- desk. The gate's `idle` was polled at most once for each Fetch.
pub record PumpsOut (route : OutgoingRoute) (from : ℕ) (old new : Writer) (e : PumpEnd) : Type 0 where
  pub same : (new.pass.turnstile ≡ route.desk.now) × (new.pass.seat ≡ old.pass.seat)
  pub wrote : WroteOut (target_of route) from old new e
  pub idle : PolledForEach old.pass new.pass old.polls new.polls
