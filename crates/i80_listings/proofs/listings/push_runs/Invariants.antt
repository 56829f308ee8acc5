use Rattle.std.proofs.Common.{◌≤◌, ◌++◌, length, string_bytes}
use Rattle.i80_listings_laws.specs.Runs.{runs_of}
use Rattle.i80_listings_laws.specs.Text.{runs_text}
use Rattle.i80_listings.proofs.Progress.{Holds}
use Rattle.i80_listings.proofs.listings.push_runs.Given as goal

-- the text lacks what the run so far and the cells from the address on give
abbrev pub invariant-loop-address : goal.invariant-loop-address
invariant-loop-address l = record {
  run : length l.run.items ≤ l.address;
  text :
      Holds (string_bytes l.fn.text ++ runs_text (runs_of l.cells)) (string_bytes l.text) l.run.items
      l.address l.cells;
}
