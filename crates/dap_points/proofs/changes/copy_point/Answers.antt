use Rattle.std.proofs.Common.{◌≡◌, refl, rules}
use Rattle.dap_points.proofs.changes.copy_point.Goals as goal

pub returns : goal.returns
returns c =
    let options : c.in_ok-options.options ≡ c.args.point.now.options = search rules in
    let note : c.in_ok-note.note ≡ c.args.point.now.note = search rules in
    rw (options, note) refl
