use Rattle.std.proofs.Common.{nat_le, rules}
use Rattle.std.proofs.lemmas.Fn.{filter_same}
use Rattle.dap_history.specs.declared.saved.SavedMoment.{SavedMoment}
use Rattle.dap_history.proofs.saved.keep_up_to.Goals as goal

pub returns : goal.returns
returns c =
    let test : SavedMoment → _ = λ saved. nat_le saved.count c.args.count in
    filter_same _ test _ (λ x b f h. let s = h.shows in let m = h.called.met in search (rules, s, m)) _ _
    c.retain.ensures.filtered
