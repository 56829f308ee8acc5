use Rattle.std.proofs.Common.{◌≡◌, ◌+◌, ◌<◌, length, arith, sym, ◌∙◌}
use Rattle.jup_wire.proofs.WireLemmas.{five_last, whole_parts}
use Rattle.jup_wire.proofs.opening.take_apart.Goals as goal

pub returns : goal.returns
returns c =
    let behind = sym c.truncate.ensures.items ∙ five_last _ _ _ _ _ _ _ _ _ _ _
    c.take_last-content.ensures.items c.take_last-metadata.ensures.items
    c.take_last-parent_header.ensures.items
    c.take_last-header.ensures.items c.take_last-digits.ensures.items in
    let long : length c.take_last-digits.new.frames.items ≡ c.args.at + 1 = omega arith in
    let inside : c.args.at < length c.args.frames.items = omega arith in
    rw (c.from-identities.ensures, c.truncate-2.ensures.items)
    (whole_parts _ _ c.args.at _ _ _ _ _ behind long inside c.requires.delimiter)
