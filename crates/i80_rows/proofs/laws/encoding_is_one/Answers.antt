use Rattle.i80_rows.proofs.Encoded.{encoded}
use Rattle.i80_rows.proofs.OnlyEncoding.{encoding_only}
use Rattle.i80_rows.proofs.laws.encoding_is_one.Goals as goal

pub returns-clause-some : goal.returns-clause-some
returns-clause-some c i = encoded i

pub returns-clause-only : goal.returns-clause-only
returns-clause-only c i bytes all = encoding_only i bytes all
