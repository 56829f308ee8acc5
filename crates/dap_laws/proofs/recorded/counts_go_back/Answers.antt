use Rattle.std.proofs.Common.{◌∙◌, ap, sym}
use Rattle.dap_slice.specs.Tallies.{is_any_full}
use Rattle.dap_search.specs.Recounts.{without_hits_between}
use Rattle.dap_search.proofs.RecountLemmas.{taken_back}
use Rattle.dap_laws.proofs.recorded.counts_go_back.Goals as goal

pub returns : goal.returns
returns c = λ points r s count is room.
    ap (λ ps. without_hits_between ps r.start r.log s.board count r.count) is
    ∙ taken_back points r.start s.board r.log count r.count (sym (ap is_any_full is) ∙ room)
