use Rattle.std.proofs.Common.{refl}
use Rattle.std.proofs.lemmas.Result.{err_from_is_err_and}
use Rattle.jup_wire.proofs.VerdictLemmas.{json_refused, header_refused}
use Rattle.jup_wire.proofs.opening.read_signed.Goals as goal

pub returns-in_err-value-clause-refused : goal.returns-in_err-value-clause-refused
returns-in_err-value-clause-refused c =
    let p = err_from_is_err_and c.from_residual.result c.from_residual.ensures.1 in
    rw (p.1, p.2) (λ frames parts. json_refused c.args.key.now frames _ _ parts
    (c.if-not-is_accepted.ensures.0 refl) _ c.in_err-value.ensures.fault)

pub returns-in-Ok-clause-read : goal.returns-in-Ok-clause-read
returns-in-Ok-clause-read c = record {
  json = c.in_ok-value.ensures.json;
  header_value = _;
  header_json = c.in_ok-value.ensures.header;
  header = c.in-Ok.ensures.header;
  content_json = c.in_ok-value.ensures.content;
}

pub returns-clause-refused : goal.returns-clause-refused
returns-clause-refused c frames parts =
    header_refused c.args.key.now frames _ _ _ parts (c.if-not-is_accepted.ensures.0 refl)
    c.in_ok-value.ensures.json c.in_ok-value.ensures.header _ c.in-Err.ensures.fault
