-- The loop took the characters of the text, each of them once.
use Rattle.std.proofs.Common.{map, ap, sym, ◌∙◌}
use Rattle.std.proofs.lemmas.Iterator.{YieldsList-from_chars}
use Rattle.std.proofs.lemmas.Iterator.Consumers.{YieldsList-end}
use Rattle.std.proofs.lemmas.List.{map-id}
use Rattle.base_text.specs.Latin.{latin_byte, latin_bytes}
use Rattle.base_text.proofs.latin.to_bytes.Goals as goal

pub returns : goal.returns
unfolding latin_bytes
returns c =
    let taken = YieldsList-end
    (YieldsList-from_chars c.args.text.now c.utf8.text cc) c.loop-character.yielded _
    c.loop-character.yielded_by _ _ c.in-None.is c.next.ensures.steps in
    c.from.ensures ∙ c.loop-character.invariant ∙ ap (map latin_byte)
    (sym (map-id c.loop-character.yielded) ∙ taken.0)
