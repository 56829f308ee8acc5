-- The value of a text that the assembler takes.
use Rattle.std.proofs.Common.{◌≡◌, ◌≤◌, ℕ, List, true, Option, Some, None, Ok, length, refl}
use Rattle.std.specs.Prelude.{is_some, replicate}
use Rattle.asm_expr.specs.Tree.{Tree}
use Rattle.asm_expr.specs.Value.{value_of}
use Rattle.asm_syntax.specs.declared.statement.Operand.{Operand}
use Rattle.asm_syntax.specs.Lexemes.{Piece}
use Rattle.asm_lex.specs.Climb.{expression}
use Rattle.asm_lex.specs.Tokens.{tokens_of}
use Rattle.asm_text.specs.Lines.{placed_well}
use Rattle.lab_core.specs.Board.{Board}
use Rattle.dap_expr.specs.Expressions.{plain_expression}
use Rattle.dap_expr.specs.Values.{named_on, values_from, value_on, symbol_value, HasValue}
use Rattle.dap_expr.proofs.NameLemmas.{IsOrdinary, no_part_owns, no_read, TreeOrdinary, tokens_ordinary}
use Rattle.dap_expr.proofs.NameLemmas.{tree_ordinary, value_same}
use Rattle.dap_expr.proofs.PlainLemmas.{plain_is_kept, operand_spelled}

-- a name that only symbols and plain parts have
ordinary_same : (b : Board) (x : List ℕ) → IsOrdinary x → is_some (symbol_value b x) ≡ true
    → named_on b (replicate 16 0) x ≡ symbol_value b x
ordinary_same b x o h = by (symbol_value b x) refl
  where
    by : (v : Option ℕ) → symbol_value b x ≡ v → named_on b (replicate 16 0) x ≡ symbol_value b x
    by None e = let h' = rw e at h in absurd cc
    by (Some v) e = rw (no_read x o, no_part_owns x o, e) refl

plain_value : (b : Board) (t : Tree) (value : ℕ) → TreeOrdinary t
    → value_of (symbol_value b) b.machine.regs.pc t ≡ Ok value → value_on b (plain_expression t) ≡ Ok value
unfolding values_from
plain_value b t value o h =
    let same = value_same (symbol_value b) (named_on b (replicate 16 0)) (ordinary_same b) b.machine.regs.pc t
    value o h in
    rw same refl

pub plain_is_assembler : (b : Board) (text : List ℕ) (ps : List Piece) (o : Operand) (value : ℕ)
    → length text ≤ 1024 → tokens_of text ≡ Ok ps → placed_well ps ≡ Ok ps → expression 1 ps ≡ Ok o
    → value_of (symbol_value b) b.machine.regs.pc o.expr ≡ Ok value → HasValue b text value
plain_is_assembler b text ps o value short tokens well read h =
    let ordinary = tree_ordinary o.expr _ (operand_spelled 1 ps o read) (tokens_ordinary text ps tokens) in (
      plain_expression o.expr,
      plain_is_kept text ps o short tokens well read,
      plain_value b o.expr value ordinary h,
    )
