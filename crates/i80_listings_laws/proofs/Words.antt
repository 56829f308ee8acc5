-- Printed words are keywords of the language.
use Rattle.std.proofs.Common.{◌≡◌, ℕ, List, [], ◌∷◌, Bool, true, false, ◌&&◌, length, map, refl}
use Rattle.std.specs.Prelude.{not, nat_le}
use Rattle.std.specs.List.{list_all}
use Rattle.std.specs.Char.{to_ascii_uppercase}
use Rattle.i80_base.specs.declared.instruction.Cond.{Cond}
use Rattle.i80_base.specs.declared.instruction.IndexPair.{IndexPair}
use Rattle.i80_base.specs.declared.instruction.Instr.TheVariants as instr
use Rattle.i80_base.specs.declared.instruction.Operation.{Operation}
use Rattle.i80_base.specs.declared.instruction.Pair.{Pair}
use Rattle.i80_base.specs.declared.instruction.Reg.{Reg}
use Rattle.i80_base.specs.declared.instruction.Rotation.{Rotation}
use Rattle.i80_base.specs.declared.instruction.StackPair.{StackPair}
use Rattle.asm_syntax.specs.declared.keyword.Keyword.{Keyword}
use Rattle.asm_syntax.specs.declared.keyword.Keyword.TheVariants as keyword
use Rattle.asm_syntax.specs.declared.keyword.Mnemonic.{Mnemonic}
use Rattle.asm_syntax.specs.declared.keyword.Mnemonic.TheVariants as mnemonic
use Rattle.asm_syntax.specs.declared.keyword.RegisterOperation.TheVariants as register_op
use Rattle.i80_base.specs.declared.instruction.ByteOperation.TheVariants as byte_op
use Rattle.i80_base.specs.declared.instruction.WordOperation.TheVariants as word_op
use Rattle.asm_syntax.specs.Lexemes.{Lexeme, word_lexeme}
use Rattle.asm_syntax.specs.Lexemes as lexeme
use Rattle.asm_syntax.specs.Words.{keyword_of}
use Rattle.std.specs.Char.{is_ascii_digit}
use Rattle.asm_lex.specs.Characters.{is_word_part}
use Rattle.i80_listings_laws.proofs.PlainLines.{register_for, pair_for, index_for, stack_for}
use Rattle.i80_rows.proofs.Each.{each_reg, each_pair, each_index, each_stack, each_cond, each_operation}
use Rattle.i80_rows.proofs.Each.{each_rotation}
use Rattle.i80_dis.specs.Text.{register_word, pair_word, index_word, stack_word, condition_word}
use Rattle.i80_dis.specs.Text.{operation_word, immediate_word, rotation_word}
use Rattle.std.specs.Prelude.{codes, ◌++◌}

-- a word of at most so many characters
abbrev pub is_word : List ℕ → ℕ → Bool
is_word [] most = false
is_word (c ∷ cs) most =
    not (is_ascii_digit c) && (list_all is_word_part (c ∷ cs) && nat_le (length (c ∷ cs)) most)

-- whether a text is such a word, and what word it is
abbrev pub word_in : List ℕ → ℕ → Bool × Lexeme
word_in text most = (is_word text most, word_lexeme (map to_ascii_uppercase text))

-- such a word is a keyword
abbrev pub IsNamed : List ℕ → Keyword → ℕ → Type 0
IsNamed text k most = word_in text most ≡ (true, lexeme.Keyword k)

-- ---- operands

pub register_named : (r : Reg) → IsNamed (register_word r) (keyword.Register (register_for r)) 3
unfolding keyword_of
register_named = each_reg _ refl refl refl refl refl refl refl refl

pub pair_named : (p : Pair) → IsNamed (pair_word p) (keyword.Register (pair_for p)) 3
unfolding keyword_of
pair_named = each_pair _ refl refl refl refl

pub index_named : (p : IndexPair) → IsNamed (index_word p) (keyword.Register (index_for p)) 3
unfolding keyword_of
index_named = each_index _ refl refl

pub stack_named : (p : StackPair) → IsNamed (stack_word p) (keyword.Register (stack_for p)) 3
unfolding keyword_of
stack_named = each_stack _ refl refl refl refl

-- ---- mnemonics

abbrev pub Means : List ℕ → Mnemonic → Type 0
Means text m = IsNamed text (keyword.Mnemonic m) 4

pub operation_means : (o : Operation) → Means (operation_word o) (mnemonic.Register (register_op.Alu o))
unfolding keyword_of
operation_means = each_operation _ refl refl refl refl refl refl refl refl

pub immediate_means : (o : Operation) → Means (immediate_word o) (mnemonic.Byte (byte_op.AluImmediate o))
unfolding keyword_of
immediate_means = each_operation _ refl refl refl refl refl refl refl refl

pub rotation_means : (o : Rotation) → Means (rotation_word o) (mnemonic.Alone (instr.Rotate o))
unfolding keyword_of
rotation_means = each_rotation _ refl refl refl refl

pub jump_means : (c : Cond) → Means (codes "J" ++ condition_word c) (mnemonic.Word (word_op.JumpIf c))
unfolding keyword_of
jump_means = each_cond _ refl refl refl refl refl refl refl refl

pub call_means : (c : Cond) → Means (codes "C" ++ condition_word c) (mnemonic.Word (word_op.CallIf c))
unfolding keyword_of
call_means = each_cond _ refl refl refl refl refl refl refl refl

pub return_means : (c : Cond) → Means (codes "R" ++ condition_word c) (mnemonic.Alone (instr.RetIf c))
unfolding keyword_of
return_means = each_cond _ refl refl refl refl refl refl refl refl
