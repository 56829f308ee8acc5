use Rattle.std.proofs.Common.{◌≡◌, ◌<◌, drop}
use Rattle.std.specs.Prelude.{nat_lt}
use Rattle.std.specs.List.{list_all}
use Rattle.std.specs.Char.{digit_value}
use Rattle.asm_lex.specs.Numbers.{with_digits}
use Rattle.asm_lex.proofs.number.in_base.Given as goal

abbrev pub invariant-loop-d : goal.invariant-loop-d
invariant-loop-d l = record {
  fits : l.n < 65536;
  digits_left : list_all (λ d. nat_lt (digit_value d) l.base) l.digits
      ≡ list_all (λ d. nat_lt (digit_value d) l.base) (drop l.d-index l.digits);
  goes_on : with_digits l.base 0 l.digits ≡ with_digits l.base l.n (drop l.d-index l.digits);
}
