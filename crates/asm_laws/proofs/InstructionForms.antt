-- What is known of an operation once its operands were read.
use Rattle.std.proofs.Common.{◌≡◌, ℕ, inl, inr, List, [], ◌∷◌, refl, sym, ap, ◌∙◌}
use Rattle.std.proofs.Common.{Option, Some, None, Result, Ok, Err}
use Rattle.std.specs.Prelude.{option_and_then}
use Rattle.i80_base.specs.declared.instruction.Instr.{Instr}
use Rattle.i80_base.specs.declared.instruction.Reg.{Reg}
use Rattle.asm_expr.specs.Tree.{Tree}
use Rattle.asm_syntax.specs.declared.fault.FaultKind.TheVariants as kind
use Rattle.asm_syntax.specs.declared.keyword.Mnemonic.{Mnemonic}
use Rattle.asm_syntax.specs.declared.keyword.Mnemonic.TheVariants as mnemonic
use Rattle.asm_syntax.specs.declared.keyword.RegisterWord.{RegisterWord}
use Rattle.i80_base.specs.declared.instruction.ByteOperation.TheVariants.{Mvi}
use Rattle.asm_syntax.specs.declared.statement.Instruction.{Instruction}
use Rattle.asm_syntax.specs.declared.statement.Instruction.TheVariants as instruction
use Rattle.asm_syntax.specs.declared.statement.Operand.{Operand}
use Rattle.i80_base.specs.declared.instruction.WordOperation.TheVariants.{Lxi}
use Rattle.asm_syntax.specs.Lexemes.{Piece}
use Rattle.asm_syntax.specs.Outcome.{Fault, ◌>>=◌}
use Rattle.asm_lex.specs.Climb.{expression, first_column}
use Rattle.asm_lex.specs.Commas.{register_of, pair, split_commas}
use Rattle.asm_lex.specs.Reading.{IsTreeOf}
use Rattle.asm_text.specs.Faults.{IsDeep}
use Rattle.asm_text.specs.Forms.{fitting, named_by, two_operands, move_of, move_between, instruction_of}
use Rattle.asm_text.specs.Forms.{register_instruction, pair_instruction, index_instruction, stack_instruction}
use Rattle.asm_text.specs.Grammar.{Names, Tells, Both, InstructionSays}
use Rattle.asm_text.specs.Registers as word
use Rattle.asm_laws.proofs.OperandForms.{Judged, judged, shallow, named, names, no_tree, none_some, some_same}
use Rattle.asm_laws.proofs.OperandForms.{Verdict, not_deep, same_column, one_expression, one_named, none}

-- ---- a register or pair, then an expression

abbrev SaysBoth : {A B : Type 0} → (RegisterWord → Option B) → (B → Operand → A) → List (List Piece) → A
    → Type 0
SaysBoth {A} {B} meaning f os said =
    (r : B) × (e : Operand) × Both (Names meaning r) (Tells e) os × (said ≡ f r e)

abbrev both_read : {A B : Type 0} → ℕ → (B → Operand → A) → Option B → Result Operand Fault → Result A Fault
both_read column f o read = fitting column o >>= λ r. read >>= λ e. Ok (f r e)

both_deep : (o p : List Piece) (k : ℕ) → ((t : Tree) → IsTreeOf t o → ⊥) → IsDeep (o ∷ p ∷ []) k
    → IsDeep (p ∷ []) k
both_deep o p k none (inl d) = absurd (none d.1 d.2)
both_deep o p k none (inr d) = d

both_lifted : {A B : Type 0} (meaning : RegisterWord → Option B) (f : B → Operand → A) (column : ℕ)
    (o p : List Piece) (x : Option B) → option_and_then meaning (register_of o) ≡ x
    → (r : Result Operand Fault) → Judged column p r
    → Verdict (SaysBoth meaning f (o ∷ p ∷ [])) (o ∷ p ∷ []) column (both_read column f x r)
both_lifted meaning f column o p None is r j =
    inl (refl, λ b s. none_some s.0 (sym is ∙ named meaning s.0 o s.2.0))
both_lifted {A} {B} meaning f column o p (Some a) is (Ok e) j = (
  (a, e, (names meaning a o is, j.0), refl),
  λ k d.
      not_deep p k (shallow column p e j)
      (both_deep o p k (λ t r. no_tree meaning a o (names meaning a o is) t r) d),
  λ b s.
      s.3 ∙ ap (λ (r : B). f r s.1) (some_same _ _ (sym (named meaning s.0 o s.2.0) ∙ is))
      ∙ ap (λ (x : Operand). f a x) (j.2 s.1 s.2.1),
)
both_lifted meaning f column o p (Some a) is (Err g) (inl x) = inl (x.0, λ b s. x.1 s.1 s.2.1)
both_lifted meaning f column o p (Some a) is (Err g) (inr x) =
    let column_is : g.0 ≡ first_column p = ap (λ (y : Fault). y.0) x.0 in
    let kind_is : g.1 ≡ kind.Nesting = ap (λ (y : Fault). y.1) x.0 in
    inr (
      kind_is,
      inr (inl (column_is, x.1, x.2, x.3)),
      λ k d.
          same_column p g.0 k column_is
          (both_deep o p k (λ t r. no_tree meaning a o (names meaning a o is) t r) d),
      f a (record { column = first_column p; expr = x.1 }),
      (a, record { column = first_column p; expr = x.1 }, (names meaning a o is, (refl, x.2)), refl),
    )

both_by : {A B : Type 0} (meaning : RegisterWord → Option B) (f : B → Operand → A) (column : ℕ)
    (os : List (List Piece))
    → Verdict (SaysBoth meaning f os) os column
    (fitting column (pair os) >>= λ x. named_by column meaning x.0 >>= λ r. expression column x.1 >>= λ e.
    Ok (f r e))
both_by meaning f column [] = inl (refl, λ b s. s.2)
both_by meaning f column (o ∷ []) = inl (refl, λ b s. s.2)
both_by meaning f column (o ∷ p ∷ []) =
    both_lifted meaning f column o p (option_and_then meaning (register_of o)) refl (expression column p)
    (judged column p)
both_by meaning f column (o ∷ p ∷ q ∷ os) = inl (refl, λ b s. s.2)

both : {A B : Type 0} (meaning : RegisterWord → Option B) (f : B → Operand → A) (column : ℕ) (ps : List Piece)
    → Verdict (λ said. (r : B) × (e : Operand) × Both (Names meaning r) (Tells e) (split_commas ps) ×
    (said ≡ f r e))
    (split_commas ps) column
    (two_operands column ps >>= λ x. named_by column meaning x.0 >>= λ r. expression column x.1 >>= λ e.
    Ok (f r e))
both meaning f column ps = both_by meaning f column (split_commas ps)

-- ---- MOV

abbrev SaysMove : List (List Piece) → Instruction → Type 0
SaysMove os said =
    (to : Reg) × (from : Reg) × (i : Instr) × Both (Names word.reg_of to) (Names word.reg_of from) os
    × (move_between (word.register_of to) (word.register_of from) ≡ Some i)
    × (said ≡ instruction.Alone i)

abbrev moved : ℕ → Option Reg → Option Reg → Result Instruction Fault
moved column x y =
    (fitting column x >>= λ to. fitting column y >>= λ from.
    fitting column (move_between (word.register_of to) (word.register_of from))) >>= λ i. Ok
    (instruction.Alone i)

abbrev move_made : ℕ → Option Instr → Result Instruction Fault
move_made column x = fitting column x >>= λ i. Ok (instruction.Alone i)

move_made_is : (column : ℕ) (o p : List Piece) (to from : Reg) → Names word.reg_of to o
    → Names word.reg_of from p
    → (x : Option Instr) → move_between (word.register_of to) (word.register_of from) ≡ x
    → Verdict (SaysMove (o ∷ p ∷ [])) (o ∷ p ∷ []) column (move_made column x)
move_made_is column o p to from n m None is =
    inl (
      refl,
      λ b s.
          let a : s.0 ≡ to = some_same _ _ (sym (named word.reg_of s.0 o s.3.0) ∙ named word.reg_of to o n) in
          let c : s.1 ≡ from = some_same _ _ (sym (named word.reg_of s.1 p s.3.1) ∙ named word.reg_of from
          p m) in
          let there : move_between (word.register_of to) (word.register_of from) ≡ Some s.2 = rw
          (← a, ← c) s.4 in
          none_some s.2 (sym is ∙ there),
    )
move_made_is column o p to from n m (Some i) is = (
  (to, from, i, (n, m), is, refl),
  λ k d.
      not_deep p k (λ t r. absurd (no_tree word.reg_of from p m t r))
      (both_deep o p k (λ t r. no_tree word.reg_of to o n t r) d),
  λ b s.
      let a : s.0 ≡ to = some_same _ _ (sym (named word.reg_of s.0 o s.3.0) ∙ named word.reg_of to o n) in
      let c : s.1 ≡ from = some_same _ _ (sym (named word.reg_of s.1 p s.3.1) ∙ named word.reg_of from p m) in
      let there : move_between (word.register_of to) (word.register_of from) ≡ Some s.2 = rw (← a, ← c) s.4 in
      s.5 ∙ ap (λ (j : Instr). instruction.Alone j) (some_same _ _ (sym there ∙ is)),
)

move_two : (column : ℕ) (o p : List Piece) (x y : Option Reg)
    → option_and_then word.reg_of (register_of o) ≡ x → option_and_then word.reg_of (register_of p) ≡ y
    → Verdict (SaysMove (o ∷ p ∷ [])) (o ∷ p ∷ []) column (moved column x y)
move_two column o p None y is at =
    inl (refl, λ b s. none_some s.0 (sym is ∙ named word.reg_of s.0 o s.3.0))
move_two column o p (Some to) None is at =
    inl (refl, λ b s. none_some s.1 (sym at ∙ named word.reg_of s.1 p s.3.1))
move_two column o p (Some to) (Some from) is at =
    move_made_is column o p to from (names word.reg_of to o is) (names word.reg_of from p at)
    (move_between (word.register_of to) (word.register_of from)) refl

move_by : (column : ℕ) (os : List (List Piece))
    → Verdict (SaysMove os) os column
    (fitting column (pair os) >>= λ x. move_of column x >>= λ i. Ok (instruction.Alone i))
move_by column [] = inl (refl, λ b s. s.3)
move_by column (o ∷ []) = inl (refl, λ b s. s.3)
move_by column (o ∷ p ∷ []) =
    move_two column o p (option_and_then word.reg_of (register_of o))
    (option_and_then word.reg_of (register_of p))
    refl refl
move_by column (o ∷ p ∷ q ∷ os) = inl (refl, λ b s. s.3)

-- ---- instructions

pub instructed : (column : ℕ) (m : Mnemonic) (ps : List Piece)
    → Verdict (InstructionSays m (split_commas ps)) (split_commas ps) column (instruction_of column m ps)
unfolding instruction_of
instructed column (mnemonic.Alone i) ps = none (instruction.Alone i) column ps
instructed column (mnemonic.Register op) ps =
    one_named word.reg_of (λ r. instruction.Alone (register_instruction op r)) column ps
instructed column mnemonic.Move ps = move_by column (split_commas ps)
instructed column mnemonic.MoveImmediate ps = both word.reg_of (λ r e. instruction.Byte (Mvi r) e) column ps
instructed column mnemonic.LoadPair ps = both word.pair_of (λ p e. instruction.Word (Lxi p) e) column ps
instructed column (mnemonic.Pair op) ps =
    one_named word.pair_of (λ p. instruction.Alone (pair_instruction op p)) column ps
instructed column (mnemonic.Index op) ps =
    one_named word.index_of (λ p. instruction.Alone (index_instruction op p)) column ps
instructed column (mnemonic.Stack op) ps =
    one_named word.stack_of (λ p. instruction.Alone (stack_instruction op p)) column ps
instructed column (mnemonic.Byte op) ps = one_expression (λ e. instruction.Byte op e) column ps
instructed column (mnemonic.Word op) ps = one_expression (λ e. instruction.Word op e) column ps
instructed column mnemonic.Restart ps = one_expression (λ e. instruction.Restart e) column ps
