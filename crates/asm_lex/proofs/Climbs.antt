-- One step along a chain of operators.
use Rattle.std.proofs.Common.{◌≡◌, ℕ, zero, suc, ◌+◌, ◌-◌, ◌≢◌, List, Some, None, Result, Ok, Err, refl}
use Rattle.std.proofs.Common.{arith}
use Rattle.asm_expr.specs.Tree.{Tree, Infix}
use Rattle.asm_expr.specs.declared.expression.Binary.{Binary}
use Rattle.asm_syntax.specs.declared.fault.FaultKind.TheVariants as kind
use Rattle.asm_syntax.specs.Lexemes.{Lexeme}
use Rattle.asm_syntax.specs.declared.fault.LineFault.{LineFault}
use Rattle.asm_syntax.specs.declared.fault.LineFault.TheVariants as line
use Rattle.asm_syntax.specs.Outcome.{Fault, LineFails}
use Rattle.asm_lex.specs.Operators.{infix_strength}
use Rattle.asm_lex.specs.Climb.{Found, tree_or_nesting, infix_at, operand_at, chain, expr_at}

pub chain_begins : (first n level : ℕ) (ls rest : List Lexeme) (a : Tree) → n ≢ 0
    → operand_at first (expr_at first (n - 1)) ls ≡ Ok (a, rest)
    → chain first (expr_at first (n - 1)) 65 level a rest ≡ expr_at first n level ls
unfolding expr_at
chain_begins first zero level ls rest a some h = absurd (some refl)
chain_begins first (suc n) level ls rest a some h =
    let less : suc n - 1 ≡ n = omega arith in
    rw less (rw (rw less at h) refl)

pub chain_faults : (first n level : ℕ) (ls : List Lexeme) (e : Fault) → n ≢ 0
    → operand_at first (expr_at first (n - 1)) ls ≡ Err e → expr_at first n level ls ≡ Err e
unfolding expr_at
chain_faults first zero level ls e some h = absurd (some refl)
chain_faults first (suc n) level ls e some h =
    let less : suc n - 1 ≡ n = omega arith in
    rw (rw less at h) refl

pub chain_stops : (first : ℕ) (expr : ℕ → List Lexeme → Found) (count level : ℕ) (a : Tree) (ls : List Lexeme)
    → count ≢ 0 → infix_at level ls ≡ None → chain first expr count level a ls ≡ Ok (a, ls)
unfolding chain
chain_stops first expr zero level a ls some h = absurd (some refl)
chain_stops first expr (suc count) level a ls some h = rw h refl

pub chain_right_faults : (first : ℕ) (expr : ℕ → List Lexeme → Found) (count level : ℕ) (a : Tree)
    (ls rest : List Lexeme) (op : Binary) (e : Fault)
    → count ≢ 0 → infix_at level ls ≡ Some (op, rest) → expr (infix_strength op + 1) rest ≡ Err e
    → chain first expr count level a ls ≡ Err e
unfolding chain
chain_right_faults first expr zero level a ls rest op e some h right = absurd (some refl)
chain_right_faults first expr (suc count) level a ls rest op e some h right = rw (h, right) refl

pub chain_made_faults : (first : ℕ) (expr : ℕ → List Lexeme → Found) (count level : ℕ) (a b : Tree)
    (ls rest after : List Lexeme) (op : Binary) (e : Fault)
    → count ≢ 0 → infix_at level ls ≡ Some (op, rest) → expr (infix_strength op + 1) rest ≡ Ok (b, after)
    → tree_or_nesting first (Infix op a b) ≡ Err e → chain first expr count level a ls ≡ Err e
unfolding chain
chain_made_faults first expr zero level a b ls rest after op e some h right m = absurd (some refl)
chain_made_faults first expr (suc count) level a b ls rest after op e some h right m = rw (h, right, m) refl

pub chain_goes_on : (first : ℕ) (expr : ℕ → List Lexeme → Found) (count level : ℕ) (a b t : Tree)
    (ls rest after : List Lexeme) (op : Binary)
    → count ≢ 0 → infix_at level ls ≡ Some (op, rest) → expr (infix_strength op + 1) rest ≡ Ok (b, after)
    → tree_or_nesting first (Infix op a b) ≡ Ok t
    → chain first expr count level a ls ≡ chain first expr (count - 1) level t after
unfolding chain
chain_goes_on first expr zero level a b t ls rest after op some h right m = absurd (some refl)
chain_goes_on first expr (suc count) level a b t ls rest after op some h right m =
    let less : suc count - 1 ≡ count = omega arith in
    rw (h, right, m, less) refl

pub chain_ends : (first : ℕ) (expr : ℕ → List Lexeme → Found) (count level : ℕ) (a : Tree) (ls : List Lexeme)
    → count ≡ 0 → chain first expr count level a ls ≡ Err (first, kind.Nesting)
unfolding chain
chain_ends first expr count level a ls h = rw h refl

-- a fault of a part is a fault of the whole
pub fails_along : {Y Z : Type 0} → (e : LineFault) (part : Result Y Fault) (all : Result Z Fault)
    → ((f : Fault) → part ≡ Err f → all ≡ Err f) → LineFails e part → LineFails e all
fails_along line.OutOfMemory part all along h = tt
fails_along (line.At column what) part all along h = along (column, what) h
