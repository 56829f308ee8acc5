use Rattle.std.proofs.Common.{◌∙◌, sym}
use Rattle.kern_host.specs.Visits.{house_of}
use Rattle.kern_host.proofs.VisitLemmas.{visited}
use Rattle.kern_host.proofs.visiting.visit.Goals as goal

pub returns : goal.returns
returns g c =
    let desk = c.args.server.now.desk.now in
    visited (house_of c.args.server.now.seal desk.limit) c.args.guest.now c.rise.new.self
    c.visit_with-end.new.guest c.finish.new.self c.in-Some.passes c.visit_with-end.new.passes
    c.visit_with-end.result (sym c.rise.ensures.passes ∙ c.in-Some.is) c.rise.ensures.guest c.finish.ensures
    c.visit_with-end.ensures.reading c.visit_with-end.ensures.writing c.visit_with-end.ensures.channel
    c.visit_with-end.ensures.visit
