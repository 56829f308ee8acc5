use Rattle.std.proofs.Common.{rules, arith, refl}
use Rattle.dap_conditions.proofs.HitLemmas.{no_sign, next_of_last, next_of}
use Rattle.dap_conditions.proofs.hits.above.Goals as goal

pub returns-in_err-number_of-in-None : goal.returns-in_err-number_of-in-None
unfolding lib.Utf8.encode
returns-in_err-number_of-in-None c = rw (no_sign 61 c.args.text.now c.in-None.ensures.cases) (search rules)

pub returns-in_err-checked_add-in-None : goal.returns-in_err-checked_add-in-None
unfolding lib.Utf8.encode
returns-in_err-checked_add-in-None c =
    let text = c.args.text.now in
    let number = c.in_ok-number_of-in-None.field-0 in
    rw (
      no_sign 61 text c.in-None.ensures.cases,
      ← c.number_of-in-None.ensures,
      c.in_ok-number_of-in-None.was,
      next_of_last number (omega arith) (omega (arith, c.in_err-checked_add-in-None.ensures)),
    ) c.from_residual-in_err-checked_add-in-None.ensures

pub returns-in_ok-checked_add-in-None : goal.returns-in_ok-checked_add-in-None
unfolding lib.Utf8.encode
returns-in_ok-checked_add-in-None c =
    let text = c.args.text.now in
    let number = c.in_ok-number_of-in-None.field-0 in
    let told = c.in_ok-checked_add-in-None.ensures in
    rw (
      no_sign 61 text c.in-None.ensures.cases,
      ← c.number_of-in-None.ensures,
      c.in_ok-number_of-in-None.was,
      next_of number told.0,
      told.1,
    ) refl
