use Rattle.std.proofs.Common.{◌≡◌, drop}
use Rattle.dap_reading.specs.Table.{first_named}
use Rattle.dap_reading.proofs.name.first_named.Given as goal

abbrev pub invariant-loop-name : goal.invariant-loop-name
invariant-loop-name l = first_named (drop l.name-index l.names) l.text ≡ first_named l.names l.text
