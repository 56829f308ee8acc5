use Rattle.std.proofs.Common.{◌≡◌, ◌∙◌, ◌+◌, Some, sym, ap, reverse, slice_get, arith}
use Rattle.lab_views.specs.Parts.{parts_with}
use Rattle.lab_views.specs.Frames.{frame_at}
use Rattle.lab_views.proofs.StackLemmas.{name_in, slice_get-frames_from}
use Rattle.lab_views.proofs.frames.frame.Goals as goal

pub returns : goal.returns
returns c = λ past loads represents.
    let p = parts_with c.args.parts.now past loads in
    let fs = reverse c.args.parts.now.frames.now in
    let address = c.address_of-address.result in
    let name = name_in p (slice_get fs c.args.index) in
    let id : 1 + c.args.index ≡ c.args.index + 1 = omega arith in
    slice_get-frames_from p 1 c.args.parts.now.machine.now.regs.pc fs c.args.index address
    c.address_of-address.ensures
    ∙ ap (λ n. Some (frame_at p n name address)) id
    ∙ ap (λ t. Some (frame_at p (c.args.index + 1) t address)) (sym c.in_ok-name.ensures)
    ∙ ap Some (sym (c.in_ok-frame.ensures past loads represents))
