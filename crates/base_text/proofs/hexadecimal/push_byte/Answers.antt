use Rattle.std.proofs.Common.{ap, ◌∙◌, ◌++◌, true, string_bytes}
use Rattle.std.proofs.lemmas.Fmt.{hex_byte}
use Rattle.base_text.proofs.hexadecimal.push_byte.Goals as goal

pub returns : goal.returns
returns c =
    let told = c.in_ok-write.ensures.bytes in
    let padded = rw (c.laid_out.ensures, c.in_radix.ensures) at told in
    padded ∙ ap (λ bytes. string_bytes c.args.text.now ++ bytes)
    (hex_byte true c.args.byte c.ranges.byte.fits)
