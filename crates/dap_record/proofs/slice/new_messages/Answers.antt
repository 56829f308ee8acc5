use Rattle.std.proofs.Common.{not, rules}
use Rattle.std.proofs.lemmas.Fn.{filter_same}
use Rattle.dap_messages.specs.declared.message.Message.{Message}
use Rattle.dap_record.specs.Slices.{is_output}
use Rattle.dap_record.proofs.slice.new_messages.Goals as goal

pub returns : goal.returns
returns c =
    let test : Message → _ = λ m. not (is_output m) in
    let kept =
    filter_same _ test _ (λ x b f h. let s = h.shows in let m = h.called.met in search (rules, s, m)) _ _
    c.retain.ensures.filtered in
    let into = c.into_vec-rest.ensures in
    let from = c.from.ensures in
    let behind = c.if-not-is_behind.false in
    search (rules, kept, into, from, behind)
