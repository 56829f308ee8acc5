use Rattle.std.proofs.Common.{◌≡◌, ◌∙◌, sym, ap, subst, nat_lt}
use Rattle.std.proofs.lemmas.Bool.{lt-ltb, le-ltb}
use Rattle.lab_core.specs.Changes.{request_left}
use Rattle.lab_core.specs.Labs.{LabState, RepresentsBoard}
use Rattle.lab_core.proofs.ChangeLemmas.{stands_registers}
use Rattle.lab_core.proofs.lab.Lab.set_registers.Goals.{then-rises, else-rises}
use Rattle.lab_core.proofs.lab.Lab.set_registers.Goals as goal

pub returns : goal.returns
returns c = λ b s-now.
    let Q : LabState → Type 0 = λ lab. RepresentsBoard lab b in
    let asked = c.self.inside.context.request in
    let left : c.if-rises.request ≡ request_left (nat_lt c.sp.result c.args.registers.sp) asked =
    elim c.if-rises.branch [
      | then-rises w ↦ w.request-is
          ∙ ap (λ rises. request_left rises asked)
          (sym (lt-ltb c.sp.result c.args.registers.sp w.if-rises.true))
      | else-rises w ↦ w.request-is
          ∙ ap (λ rises. request_left rises asked)
          (sym (le-ltb c.sp.result c.args.registers.sp w.if-rises.false))
    ] in
    stands_registers _ b c.args.registers _ _ (subst Q (sym c.self.view_is) s-now) c.set_regs.ensures
    (left ∙ ap (λ sp. request_left (nat_lt sp c.args.registers.sp) asked) c.sp.ensures)
