use Rattle.std.proofs.lemmas.Result.{err_from_is_err_and}
use Rattle.jup_wire.proofs.opening.open.Goals as goal

pub returns-in_err-digits-clause-refused : goal.returns-in_err-digits-clause-refused
returns-in_err-digits-clause-refused c =
    let p = err_from_is_err_and c.from_residual.result c.from_residual.ensures.1 in
    rw (p.1, p.2) (c.in_err-digits.ensures.refused c.args.key.now)

pub returns-in-Ok-clause-message : goal.returns-in-Ok-clause-message
returns-in-Ok-clause-message c = record {
  digits = c.in_ok-digits.digits;
  parts = c.in_ok-digits.ensures.parts;
  signed = c.in-Ok.ensures.signed;
  json = c.in-Ok.ensures.read.json;
  header_value = _;
  header_json = c.in-Ok.ensures.read.header_json;
  header = c.in-Ok.ensures.read.header;
  content_json = c.in-Ok.ensures.read.content_json;
}

pub returns-clause-refused : goal.returns-clause-refused
returns-clause-refused c = c.in-Err.ensures.refused _ c.in_ok-digits.ensures.parts
