use Rattle.std.proofs.Common.{refl}
use Rattle.dap_slice.proofs.SliceLemmas.{few_made}
use Rattle.dap_slice.proofs.slice.board_slice.Goals as goal

pub returns-clause-few : goal.returns-clause-few
returns-clause-few c = λ b represents.
    let n = c.args.most in
    few_made c.apply-answer.result c.slice_in.result n c.requires.1
    (c.apply-answer.ensures.few n b refl represents) c.slice_in.ensures.ok
