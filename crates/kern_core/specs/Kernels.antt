-- What contracts see of a kernel, what a call does to it, and when its fields represent its entries.
use Rattle.std.specs.Prelude.{◌≡◌, ℕ, ◌*◌, ◌<◌, ◌≤◌, Bool, true, false, List, [], ◌∷◌, ◌++◌, length}
use Rattle.std.specs.Prelude.{Result, Err}
use Rattle.kern_calls.specs.declared.call.Call.{Call}
use Rattle.kern_calls.specs.declared.call.Reply.{Reply}
use Rattle.kern_calls.specs.declared.fault.KernelFault.{KernelFault}
use Rattle.kern_calls.specs.declared.fault.KernelFault.TheVariants.{OutOfMemory, JournalFull}
use Rattle.kern_core.specs.Turns.{answer_after, state_after}
use Rattle.kern_core.specs.Represents.{KernelFields, RepresentsKernel}

pub record JournalState : Type 0 where
  pub entries : List Call
  pub limit : ℕ

-- a call is an entry unless memory ran out or the journal is full
abbrev pub is_entry : Result Reply KernelFault → Bool
is_entry (Err OutOfMemory) = false
is_entry (Err JournalFull) = false
is_entry _ = true

abbrev pub is_full : Result Reply KernelFault → Bool
is_full (Err JournalFull) = true
is_full _ = false

-- a call becomes the last entry and gets the stated answer, or nothing changes; if the journal is full, the
-- answer says so
pub record MakesCall (call : Call) (old : JournalState) (answer : Result Reply KernelFault)
    (new : JournalState) : Type 0 where
  pub limit : new.limit ≡ old.limit
  pub entered : is_entry answer ≡ true → new.entries ≡ old.entries ++ call ∷ []
  pub answered : is_entry answer ≡ true → answer ≡ answer_after old.entries call
  pub room : is_entry answer ≡ true → length old.entries < old.limit
  pub refused : is_entry answer ≡ false → new ≡ old
  pub full : is_full answer ≡ true → (is_entry answer ≡ false) × (length old.entries ≡ old.limit)
  pub limited : length old.entries ≡ old.limit → answer ≡ Err JournalFull

-- the fields represent the entries, of which there are no more than the limit
pub record IsKept (state : KernelFields) (entries : List Call) (limit : ℕ) : Type 0 where
  pub represents : RepresentsKernel state (state_after entries)
  pub posts : state.store.made ≤ 8 * length entries
  pub peers : state.connections.joined ≤ length entries
  pub count : state.work.count ≤ length entries
  pub fits : length entries ≤ limit
  pub bounded : limit ≤ 4194304
