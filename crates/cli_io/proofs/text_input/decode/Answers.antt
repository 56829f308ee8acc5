use Rattle.cli_io.proofs.TextLemmas.{decoded_right, decoded_wrong}
use Rattle.cli_io.proofs.text_input.decode.Goals as goal

pub returns-in-Ok : goal.returns-in-Ok
returns-in-Ok c = decoded_right c.in-Ok.text c.args.bytes c.in-Ok.ensures.ok

pub returns : goal.returns
returns c = decoded_wrong c.args.bytes.items (λ text. c.in-Err.ensures.succeeds text)
