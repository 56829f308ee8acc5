-- Executions: the queue, and the current one.
use Rattle.std.specs.Prelude.{ℕ, ◌+◌, List, [], ◌∷◌, ◌++◌, not, ◌&&◌, Option, Some, None, if◌then◌else◌}
use Rattle.base_text.specs.Bytes.{Bytes}
use Rattle.kern_request.specs.declared.request.Request.{Request}
use Rattle.kern_request.specs.declared.request.ExecuteRequest.{ExecuteRequest}
use Rattle.kern_exec.specs.declared.execution.Execution.{Execution}
use Rattle.kern_exec.specs.declared.execution.Current.{Current}
use Rattle.kern_exec.specs.declared.loading.Loading.{Loading}
use Rattle.kern_exec.specs.declared.loading.Loading.TheVariants.{Starts, Ends}

pub record Work : Type 0 where
  pub queue : List Execution
  pub current : Option Current
  -- the address at which its run is to start, if it hasn't started yet
  pub pending : Option ℕ
  -- the execution count: executions so far that were not silent and stored history
  pub count : ℕ

abbrev pub nothing : Work
nothing = record { queue = []; current = None; pending = None; count = 0 }

-- the execution that a connection requests; the identity is the one with which the connection joined
abbrev pub execution_of : ℕ → Bytes → Request → ExecuteRequest → Execution
execution_of n identity r x = record {
  connection = n;
  identity = identity;
  identities = r.identities;
  header = r.header;
  request = x;
}

abbrev pub enqueue : Execution → Work → Work
enqueue x w = record w { queue = w.queue ++ x ∷ [] }

-- the execution count of an execution, by the count before it
abbrev pub count_with : Execution → ℕ → ℕ
count_with x n = if not x.request.is_silent && x.request.stores_history then n + 1 else n

abbrev pub current_of : Execution → ℕ → Current
current_of x n = record { execution = x; count = count_with x n }

abbrev pub under_way : Execution → ℕ → Loading → Option Current
under_way x n (Starts address) = Some (current_of x n)
under_way x n (Ends ending) = None

abbrev pub start_of : Loading → Option ℕ
start_of (Starts address) = Some address
start_of (Ends ending) = None

-- the first execution of the queue was loaded
abbrev pub load_first : Execution → List Execution → Loading → Work → Work
load_first x rest loading w = record w {
  queue = rest;
  current = under_way x w.count loading;
  pending = start_of loading;
  count = count_with x w.count;
}

-- the run of the current execution has started
abbrev pub clear_pending : Work → Work
clear_pending w = record w { pending = None }

-- the current execution has ended
abbrev pub clear_current : Work → Work
clear_current w = record w { current = None }
