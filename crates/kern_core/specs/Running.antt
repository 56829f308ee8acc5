-- What is allocated before a slice of the run.
use Rattle.std.specs.Prelude.{Option, Some, None}
use Rattle.kern_peers.specs.Connections.{Connections}
use Rattle.kern_exec.specs.declared.execution.Current.{Current}
use Rattle.kern_exec.specs.declared.slices.PreparedSlice.{PreparedSlice}
use Rattle.kern_exec.specs.Prepared.{IsPreparedSlice}

-- what a slice of the current execution needs, if there is one
abbrev pub IsPreparedFor : Connections → Option Current → Option PreparedSlice → Type 0
IsPreparedFor connections None None = Unit {0}
IsPreparedFor connections (Some c) (Some k) = IsPreparedSlice connections c k
IsPreparedFor connections None (Some k) = ⊥
IsPreparedFor connections (Some c) None = ⊥
