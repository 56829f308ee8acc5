use Rattle.lab_image.proofs.MarkLemmas.{met_among}
use Rattle.lab_image.proofs.breakpoints.mark.Goals as goal

pub returns : goal.returns
returns c loads represents a within =
    rw (c.mark_among.ensures a, c.clear.ensures a)
    (met_among c.args.lists.now loads c.mapped_addresses.result a
    (c.mapped_addresses.ensures loads represents)
    within)
