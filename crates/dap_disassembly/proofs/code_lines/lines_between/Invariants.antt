use Rattle.std.proofs.Common.{◌≡◌, ◌++◌, ℕ, Bool, filter, nat_le, ◌&&◌}
use Rattle.dap_disassembly.proofs.code_lines.lines_between.Given as goal

abbrev pub invariant-loop-line : goal.invariant-loop-line
invariant-loop-line l =
    let between : ℕ → Bool = λ line. nat_le l.first line && nat_le line l.last in
    l.found ++ filter between l.line-iterator ≡ filter between l.lines.keys
