use Rattle.std.proofs.Common.{◌++◌, append_assoc, string_bytes}
use Rattle.std.specs.Prelude.{codes}
use Rattle.asm_syntax.specs.Numerals.{word_text}
use Rattle.i80_dis.proofs.listing.push_origin.Goals as goal

pub returns : goal.returns
returns c =
    rw (c.in_ok-push_str.ensures.bytes, c.in_ok-push_directive.ensures, c.in_ok-reserve.ensures.bytes)
    (append_assoc (string_bytes c.args.text.now) (codes "ORG " ++ word_text c.args.address) (codes "\n"))
