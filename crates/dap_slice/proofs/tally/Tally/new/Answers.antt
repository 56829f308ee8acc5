use Rattle.std.proofs.Common.{◌∙◌, ap}
use Rattle.dap_slice.specs.Counts.{without_hits}
use Rattle.dap_slice.specs.Tallies.{hits_in}
use Rattle.dap_slice.proofs.TallyLemmas.{no_hits_in}
use Rattle.dap_slice.proofs.tally.Tally.new.Goals as goal

pub returns : goal.returns
returns c =
    no_hits_in c.args.points.now c.in_ok-hits.hits.items
    (c.in_ok-hits.ensures ∙ ap (λ ps. hits_in (without_hits ps)) c.points.ensures)
