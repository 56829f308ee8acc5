-- How often gates were polled, how often each answer came, and how often they woke others.
use Rattle.std.specs.Prelude.{◌≡◌, ℕ, ◌+◌, ◌<◌, ◌≤◌, Bool, true, false, length, count_by, List, [], ◌∷◌, ◌++◌}
use Rattle.std.specs.Prelude.{Option, Some, None, Ok}
use Rattle.lab_turn.specs.History.{PassState}
use Rattle.kern_post.specs.declared.post.Post.{Post}
use Rattle.kern_calls.specs.declared.call.Call.{Call}
use Rattle.kern_calls.specs.declared.call.Call.TheVariants.{Fetch, Subscribe, Arrive, Slice}
use Rattle.kern_calls.specs.declared.call.Reply.TheVariants.{Fetched}
use Rattle.kern_net.specs.Calls.{LastCall}
use Rattle.kern_net.specs.Streams.{posts_in}
use Rattle.kern_net.specs.Wakes.{concerns_worker, spares_worker}

-- how often a question was answered yes, and how often no
pub record AnswerCounts : Type 0 where
  pub yes : ℕ
  pub no : ℕ

abbrev pub with_answer : Bool → AnswerCounts → AnswerCounts
with_answer true a = record a { yes = a.yes + 1 }
with_answer false a = record a { no = a.no + 1 }

-- how often it was asked
abbrev pub times : AnswerCounts → ℕ
times a = a.yes + a.no

-- a worker's gate
pub record WorkerPolls : Type 0 where
  pub before : AnswerCounts
  pub idle : AnswerCounts
  pub wakes : ℕ

-- a reader's: how often it woke others, and the moment that it told last if it hasn't woken others since
pub record ReaderPolls : Type 0 where
  pub wakes : ℕ
  pub own_wakes : ℕ
  pub due : Option ℕ

-- a writer's: its answers, and the number of the first post that it hasn't been told is written
pub record WriterPolls : Type 0 where
  pub idle : AnswerCounts
  pub next : ℕ

-- with one more answer, or one more call of `wake`
abbrev pub before_polled : Bool → WorkerPolls → WorkerPolls
before_polled answer p = record p { before = with_answer answer p.before }

abbrev pub idle_polled : Bool → WorkerPolls → WorkerPolls
idle_polled answer p = record p { idle = with_answer answer p.idle }

abbrev pub with_wake : WorkerPolls → WorkerPolls
with_wake p = record p { wakes = p.wakes + 1 }

-- `wake` was called once more, or `wake_own_writers`, by whether the call concerns the worker
abbrev pub after_wake : Bool → ReaderPolls → ReaderPolls
after_wake true p = record p { wakes = p.wakes + 1; due = None }
after_wake false p = record p { own_wakes = p.own_wakes + 1; due = None }

-- a moment was told
abbrev pub with_moment : ℕ → ReaderPolls → ReaderPolls
with_moment moment p = record p { due = Some moment }

-- `idle` was polled once more, with the posts below this number written
abbrev pub after_idle : Bool → ℕ → WriterPolls → WriterPolls
after_idle answer next p = record p { idle = with_answer answer p.idle; next = next }

-- a gate that hasn't been polled yet, and has woken nobody
abbrev pub no_polls : WorkerPolls
no_polls = record { before = record { yes = 0; no = 0 }; idle = record { yes = 0; no = 0 }; wakes = 0 }

-- how often a worker's gate has said no
abbrev pub noes : WorkerPolls → ℕ
noes p = p.before.no + p.idle.no

-- it hasn't said no
abbrev pub IsOpen : WorkerPolls → Type 0
IsOpen p = (p.before.no ≡ 0) × (p.idle.no ≡ 0)

-- others were woken after each moment that was told
abbrev pub HasWoken : ReaderPolls → Type 0
HasWoken p = p.due ≡ None

-- the moment of a call that has one
abbrev pub moment_of : Call → Option ℕ
moment_of (Subscribe connection subscription) = Some subscription.unix_seconds
moment_of (Arrive connection arrival) = Some arrival.unix_seconds
moment_of (Slice unix_seconds) = Some unix_seconds
moment_of _ = None

-- the moment that was told last is the call's, and others weren't woken since
pub record IsDue (call : Call) (p : ReaderPolls) : Type 0 where
  pub moment : ℕ
  pub told : p.due ≡ Some moment
  pub dated : moment_of call ≡ Some moment

-- others are to be woken for the last call of the pass, by whether it may give the worker something to do
pub record IsToWake (has_work : Bool) (p : ReaderPolls) (pass : PassState Call) : Type 0 where
  pub earlier : List Call
  pub call : Call
  pub calls : pass.calls ≡ earlier ++ call ∷ []
  pub concerns : concerns_worker call ≡ has_work
  pub due : IsDue call p

-- `idle` was polled at most once for each call that was added
abbrev pub PolledForEach : PassState Call → PassState Call → WriterPolls → WriterPolls → Type 0
PolledForEach old new a b = times b.idle + length old.calls ≤ times a.idle + length new.calls

-- `wake` was called once for each call that was added and may give the worker something to do
abbrev pub WokeForEach : PassState Call → PassState Call → ReaderPolls → ReaderPolls → Type 0
WokeForEach old new a b =
    b.wakes + count_by concerns_worker old.calls ≡ a.wakes + count_by concerns_worker new.calls

-- and `wake_own_writers` once for each other call that was added
abbrev pub WokeOwnForEach : PassState Call → PassState Call → ReaderPolls → ReaderPolls → Type 0
WokeOwnForEach old new a b =
    b.own_wakes + count_by spares_worker old.calls ≡ a.own_wakes + count_by spares_worker new.calls

-- The last call of the pass was a Fetch for this connection. It was answered with this number to go on at,
-- after the last post that there was, and with whether a shutdown had come.
pub record FetchedAll (connection : ℕ) (pass : PassState Call) (next : ℕ) (ended : Bool) : Type 0 where
  pub from : ℕ
  pub posts : List Post
  pub last : LastCall pass (Fetch connection from) (Ok (Fetched posts next ended))
  pub all : length (posts_in last.before) < next
