-- What one Fetch and its writing did.
use Rattle.std.specs.Prelude.{◌≡◌, ℕ, Bool, true, List, Result, Ok, Err}
use Rattle.base_streams.specs.States.{OutletState, IsWritable}
use Rattle.lab_turn.specs.History.{PassState}
use Rattle.kern_post.specs.declared.post.Post.{Post}
use Rattle.kern_calls.specs.declared.call.Call.{Call}
use Rattle.kern_calls.specs.declared.call.Call.TheVariants.{Fetch}
use Rattle.kern_calls.specs.declared.call.Reply.{Reply}
use Rattle.kern_calls.specs.declared.call.Reply.TheVariants as reply
use Rattle.kern_calls.specs.declared.fault.KernelFault.{KernelFault}
use Rattle.kern_net.specs.declared.end.PumpEnd.{PumpEnd}
use Rattle.kern_net.specs.declared.end.PumpEnd.TheVariants as end
use Rattle.kern_net.specs.Ends.{end_by_kernel}
use Rattle.kern_net.specs.Calls.{TurnedBy}
use Rattle.kern_net.specs.declared.pump_out.Batch.{Batch}
use Rattle.kern_net.specs.declared.pump_out.Cursor.{Cursor}
use Rattle.kern_net.specs.Routes.{Target}
use Rattle.kern_net.specs.Out.{WrotePrefix, WroteAll}

-- the answer is posts, or a refusal
abbrev pub IsFetchAnswer : Result Reply KernelFault → Type 0
IsFetchAnswer (Ok (reply.Fetched posts next ended)) = Unit {0}
IsFetchAnswer (Ok _) = ⊥
IsFetchAnswer (Err fault) = Unit {0}

-- the answer gives the batch, or is a refusal, which is how the pump ends
abbrev pub GivesBatch : Result Reply KernelFault → Result Batch PumpEnd → Type 0
GivesBatch answer (Ok b) = answer ≡ Ok (reply.Fetched b.posts b.next b.ended)
GivesBatch answer (Err e) = (fault : KernelFault) × (answer ≡ Err fault) × (e ≡ end_by_kernel fault)

-- there was no turn for the Fetch, or it was refused
pub data FetchFails (connection : ℕ) (old new : PassState Call) (from : ℕ) : PumpEnd → Type 0 where
  IsOutOfTickets : (e : PumpEnd) → e ≡ end.OutOfTickets → new ≡ record old { out_of_tickets = true }
      → FetchFails connection old new from e
  IsRefused : (e : PumpEnd) (fault : KernelFault) → e ≡ end_by_kernel fault
      → TurnedBy old (Fetch connection from) (Err fault) new → FetchFails connection old new from e

-- there was no memory for the posts' bytes, or a write failed
pub data WriteFails (target : Target) (to to' : OutletState) (posts : List Post) : PumpEnd → Type 0 where
  IsUnfit : (e : PumpEnd) → e ≡ end.OutOfMemory → to' ≡ to → IsWritable to' → WriteFails target to to' posts e
  IsFailed : (e : PumpEnd) → e ≡ end.WriteFailed → WrotePrefix target to to' posts → to'.failed ≡ true
      → WriteFails target to to' posts e

-- what is written to, and the pass of the calls that fetch
pub record Sender : Type 0 where
  pub outlet : OutletState
  pub pass : PassState Call

-- a Fetch was answered with this cursor, and its posts are written
pub record WritesBatch (target : Target) (from : ℕ) (old new : Sender) (cursor : Cursor) : Type 0 where
  pub posts : List Post
  pub turned : TurnedBy old.pass (Fetch target.connection from)
      (Ok (reply.Fetched posts cursor.next cursor.ended)) new.pass
  pub all : WroteAll target old.outlet new.outlet posts

-- the Fetch failed, or its posts aren't all written
pub data RoundFails (target : Target) (from : ℕ) (old new : Sender) : PumpEnd → Type 0 where
  IsDenied : (e : PumpEnd) → FetchFails target.connection old.pass new.pass from e → new.outlet ≡ old.outlet
      → IsWritable new.outlet → RoundFails target from old new e
  IsCut : (e : PumpEnd) (posts : List Post) (next : ℕ) (ended : Bool)
      → TurnedBy old.pass (Fetch target.connection from) (Ok (reply.Fetched posts next ended)) new.pass
      → WriteFails target old.outlet new.outlet posts e → RoundFails target from old new e
