use Rattle.std.proofs.Common.{◌≡◌, ◌≤◌, [], length, drop}
use Rattle.asm_build.specs.Layout.{layout}
use Rattle.asm_build.specs.State.{lines_of, IsLayoutAfter}
use Rattle.asm_build.proofs.layout.Layout.lay_all.Given as goal

abbrev pub invariant-loop-i : goal.invariant-loop-i
invariant-loop-i l = record {
  small : l.self.place ≤ 65536;
  rows : length l.self.rows.items ≡ l.i;
  represents : IsLayoutAfter (lines_of [] l.statements l.self.rows.items) l.self;
  goes_on : layout l.kept (lines_of [] l.statements l.self.rows.items) (drop l.i l.statements)
      ≡ layout l.kept [] l.statements;
}
