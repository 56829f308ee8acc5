use Rattle.std.proofs.Common.{◌≡◌, ◌∙◌, ap}
use Rattle.lab_image.specs.Mapped.{mapped_by}
use Rattle.lab_image.proofs.MappedLemmas.{mapped_of_spans}
use Rattle.lab_image.proofs.origins.Origins.mapped_addresses.Goals as goal

pub returns : goal.returns
returns c loads represents address within =
    let is : c.deref.result.now ≡ c.args.self.now = c.deref.ensures.value ∙ c.self.view_is in
    let are = rw c.self.view_is at c.self.invariant in
    rw (c.new.ensures, is)
    (mapped_of_spans 0 65536 c.args.self.now address are ∙ ap (mapped_by address) (represents address within))
