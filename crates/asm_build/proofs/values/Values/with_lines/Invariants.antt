use Rattle.std.proofs.Common.{◌≡◌, ℕ, List, [], take, Ok}
use Rattle.asm_build.specs.Reading.{symbol_at, last_set}
use Rattle.asm_build.specs.Meaning.{output_of}
use Rattle.asm_build.specs.State.{lines_of, output_in}
use Rattle.asm_build.proofs.values.Values.with_lines.Given as goal

abbrev pub invariant-loop-i : goal.invariant-loop-i
invariant-loop-i l = record {
  done : output_of l.kept (lines_of [] l.statements l.layout.rows.items)
      (lines_of [] l.statements (take l.i l.layout.rows.items)) ≡ Ok (output_in l.self);
  sets : (x : List ℕ)
      → symbol_at l.sets x ≡ last_set (lines_of [] l.statements (take l.i l.layout.rows.items)) x;
}
