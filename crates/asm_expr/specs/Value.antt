-- The value of an expression (8080/8085 Assembly Language Programming Manual, chapter 2,
-- "Assembly-time expression evaluation"): unsigned arithmetic, modulo 65,536.
use Rattle.std.specs.Prelude.{ℕ, ◌+◌, ◌-◌, ◌*◌, ◌/◌, ◌%◌, ◌^◌, List, Bool, not, Option, Some, None, Result}
use Rattle.std.specs.Prelude.{Ok, Err, if◌then◌else◌, nat_lt, nat_le, ◌==◌, is_some, unwrap_or, bit_and}
use Rattle.std.specs.Prelude.{bit_or, bit_xor}
use Rattle.std.specs.List.{list_all}
use Rattle.asm_expr.specs.declared.expression.Unary.{Unary}
use Rattle.asm_expr.specs.declared.expression.Unary.TheVariants as unary
use Rattle.asm_expr.specs.declared.expression.Binary.{Binary}
use Rattle.asm_expr.specs.declared.expression.Binary.TheVariants as binary
use Rattle.asm_expr.specs.Tree.{Tree, Number, Here, Named, Prefix, Infix, Parens, names_of}
use Rattle.asm_expr.specs.declared.evaluation.ExprFault.{ExprFault}
use Rattle.asm_expr.specs.declared.evaluation.ExprFault.TheVariants.{Undefined, Divisor}

-- a comparison is FFFFh if it holds, else 0
abbrev pub truth : Bool → ℕ
truth b = if b then 65535 else 0

-- what an operator before an operand gives
abbrev pub unary_of : Unary → ℕ → ℕ
unary_of unary.Plus x = x
unary_of unary.Minus x = (65536 - x) % 65536
unary_of unary.Not x = 65535 - x
unary_of unary.High x = x / 256
unary_of unary.Low x = x % 256

-- what an operator between two operands gives: none if it divides by 0
abbrev pub binary_of : Binary → ℕ → ℕ → Option ℕ
binary_of binary.Multiply x y = Some (x * y % 65536)
binary_of binary.Divide x y = if y == 0 then None else Some (x / y)
binary_of binary.Modulo x y = if y == 0 then None else Some (x % y)
binary_of binary.ShiftLeft x y = Some (x * 2 ^ y % 65536)
binary_of binary.ShiftRight x y = Some (x / 2 ^ y)
binary_of binary.Add x y = Some ((x + y) % 65536)
binary_of binary.Subtract x y = Some ((x + (65536 - y)) % 65536)
binary_of binary.Equal x y = Some (truth (x == y))
binary_of binary.NotEqual x y = Some (truth (not (x == y)))
binary_of binary.Less x y = Some (truth (nat_lt x y))
binary_of binary.LessOrEqual x y = Some (truth (nat_le x y))
binary_of binary.Greater x y = Some (truth (nat_lt y x))
binary_of binary.GreaterOrEqual x y = Some (truth (nat_le y x))
binary_of binary.And x y = Some (bit_and x y)
binary_of binary.Or x y = Some (bit_or x y)
binary_of binary.Xor x y = Some (bit_xor x y)

-- what two numbers give together, where both are there
abbrev pub on_both : (ℕ → ℕ → Option ℕ) → Option ℕ → Option ℕ → Option ℕ
on_both f (Some x) (Some y) = f x y
on_both f _ _ = None

-- what a number gives, where it is there
abbrev pub on_one : (ℕ → ℕ) → Option ℕ → Option ℕ
on_one f (Some x) = Some (f x)
on_one f None = None

-- the number of a tree, where each name has a value, and none where a part divides by 0
abbrev pub number_of : (List ℕ → ℕ) → ℕ → Tree → Option ℕ
number_of names here (Number n) = Some n
number_of names here Here = Some here
number_of names here (Named x) = Some (names x)
number_of names here (Prefix op a) = on_one (unary_of op) (number_of names here a)
number_of names here (Infix op a b) =
    on_both (binary_of op) (number_of names here a) (number_of names here b)
number_of names here (Parens a) = number_of names here a

-- a number, else Divisor
abbrev pub or_divisor : Option ℕ → Result ℕ ExprFault
or_divisor (Some x) = Ok x
or_divisor None = Err Divisor

-- the value of a tree under an assignment: Undefined where a name in it has no value, else Divisor
-- where a part divides by 0
abbrev pub value_of : (List ℕ → Option ℕ) → ℕ → Tree → Result ℕ ExprFault
value_of values here tree =
    if list_all (λ x. is_some (values x)) (names_of tree)
    then or_divisor (number_of (λ x. unwrap_or (values x) 0) here tree)
    else Err Undefined

-- what two parts that were evaluated by themselves give together
abbrev pub combine : (ℕ → ℕ → Option ℕ) → Result ℕ ExprFault → Result ℕ ExprFault → Result ℕ ExprFault
combine f (Ok x) (Ok y) = or_divisor (f x y)
combine f (Err Undefined) y = Err Undefined
combine f x (Err Undefined) = Err Undefined
combine f _ _ = Err Divisor
