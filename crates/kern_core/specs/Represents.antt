-- Which states of the kernel its fields represent.
use Rattle.std.specs.Prelude.{◌≡◌, ◌≢◌, ◌+◌, ◌<◌, ◌≤◌, ◌^◌, Bool, Result, Err, OnErr}
use Rattle.lab_core.specs.Labs.{LabState, RepresentsBoard}
use Rattle.lab_core.specs.declared.run_state.RunState.{RunState}
use Rattle.kern_post.specs.Posts.{StoreState, Keeps}
use Rattle.kern_peers.specs.Connections.{Connections}
use Rattle.kern_exec.specs.Executions.{Work}
use Rattle.kern_calls.specs.declared.call.Reply.{Reply}
use Rattle.kern_calls.specs.declared.fault.KernelFault.{KernelFault}
use Rattle.kern_calls.specs.declared.fault.KernelFault.TheVariants.{OutOfMemory}
use Rattle.kern_core.specs.States.{KernelState, Turn, after}

-- what contracts see of the fields
pub record KernelFields : Type 0 where
  pub lab : LabState
  pub connections : Connections
  pub work : Work
  pub store : StoreState
  pub is_shut : Bool

pub record RepresentsKernel (v : KernelFields) (s : KernelState) : Type 0 where
  pub board : RepresentsBoard v.lab s.board
  pub connections : v.connections ≡ s.connections
  pub work : v.work ≡ s.work
  pub posts : Keeps s.posts v.store
  pub is_shut : v.is_shut ≡ s.is_shut

-- the same, with the run in this state
abbrev pub RepresentsInRun : RunState → KernelFields → KernelState → Type 0
RepresentsInRun run v s = RepresentsKernel v s × (s.board.run ≡ run)

-- whatever state held before, the answer is the turn's, and the fields represent the state after the turn;
-- or memory ran out
abbrev pub MakesTurnFrom : (KernelState → Type 0) → (KernelState → Turn) → Result Reply KernelFault
    → KernelFields → Type 0
MakesTurnFrom holds f answer new =
    (s : KernelState) → holds s → answer ≢ Err OutOfMemory
    → (answer ≡ (f s).answer) × RepresentsKernel new (after (f s))

-- the fields represent some state
abbrev pub RepresentsSomeState : KernelFields → Type 0
RepresentsSomeState v = (s : KernelState) × RepresentsKernel v s

-- the counts are so small that one more call can't make them overflow
pub record HasRoom (v : KernelFields) : Type 0 where
  pub posts : v.store.made + 8 < 2 ^ 63
  pub peers : v.connections.joined + 1 < 2 ^ 32
  pub count : v.work.count + 1 < 2 ^ 63

-- how much the counts grow in one call, at most
pub record Grows (old new : KernelFields) : Type 0 where
  pub posts : new.store.made ≤ old.store.made + 8
  pub peers : new.connections.joined ≤ old.connections.joined + 1
  pub count : new.work.count ≤ old.work.count + 1

-- the counts grow by what one call can add, and if the answer is an `Err`, nothing changes
abbrev pub IsOneCall : KernelFields → Result Reply KernelFault → KernelFields → Type 0
IsOneCall old answer new = Grows old new × OnErr answer (new ≡ old)

-- from whatever state the fields represented
abbrev pub MakesTurn : (KernelState → Turn) → KernelFields → Result Reply KernelFault → KernelFields → Type 0
MakesTurn f old answer new = MakesTurnFrom (RepresentsKernel old) f answer new

-- and the turn is that of one call
abbrev pub TakesTurn : (KernelState → Turn) → KernelFields → Result Reply KernelFault → KernelFields → Type 0
TakesTurn f old answer new = MakesTurn f old answer new × IsOneCall old answer new

-- the same, with the run in this state before
abbrev pub TakesTurnIn : RunState → (KernelState → Turn) → KernelFields → Result Reply KernelFault
    → KernelFields → Type 0
TakesTurnIn run f old answer new = MakesTurnFrom (RepresentsInRun run old) f answer new
    × IsOneCall old answer new
