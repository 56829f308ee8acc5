use Rattle.std.proofs.Common.{◌<◌, arith, length}
use Rattle.lab_image.proofs.AddressLemmas.{has_one_more}
use Rattle.lab_image.proofs.address_set.AddressSet.insert.Goals as goal

pub returns : goal.returns
returns c a =
    let within : c.args.address < length c.self.inside.members.items = omega arith in
    rw (c.from.ensures, ← c.self.view_is) (has_one_more c.self.inside.members.items c.args.address a within)
