use Rattle.std.proofs.Common.{◌++◌, ◌∙◌, ap, append_assoc, string_bytes}
use Rattle.std.specs.Prelude.{codes}
use Rattle.asm_syntax.specs.Numerals.{word_text}
use Rattle.i80_listings.proofs.listings.push_start.Goals as goal

pub returns : goal.returns
returns c =
    let text = string_bytes c.args.text.now in
    let word = word_text c.args.start in
    rw (c.in_ok-push_str-2.ensures.bytes, c.in_ok-push_word.ensures, c.in_ok-push_str.ensures.bytes)
    (ap (λ t. t ++ codes "\n") (append_assoc text (codes "END ") word)
    ∙ append_assoc text (codes "END " ++ word) (codes "\n"))
