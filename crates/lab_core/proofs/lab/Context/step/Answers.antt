use Rattle.std.proofs.Common.{◌++◌, refl, sym, subst}
use Rattle.i80_exec.specs.Step.{operation_list}
use Rattle.lab_core.specs.declared.lab.Context.{Context}
use Rattle.lab_core.specs.Board.{next_change, after_next_step}
use Rattle.lab_core.specs.Labs.{RepresentsDuringSlice, in_slice}
use Rattle.lab_core.proofs.StandsLemmas.{stands_step, finds_undefined, finds_no_undefined, stands_undefined}
use Rattle.lab_core.proofs.lab.Context.step.Goals as goal

pub returns-in-Undefined-clause-undefined : goal.returns-in-Undefined-clause-undefined
returns-in-Undefined-clause-undefined c = λ lab b traffic s.
    let did = c.board_step-answer.ensures.step b.past s.devices in
    finds_undefined _ b traffic _ _ c.in-Undefined.opcode c.pc-pc.result s (rw c.in-Undefined.is at did)
    c.pc-pc.ensures

pub returns-in-Undefined-clause-some : goal.returns-in-Undefined-clause-some
returns-in-Undefined-clause-some c = λ some lab b traffic s.
    let did = c.board_step-answer.ensures.step b.past s.devices in
    stands_undefined _ b traffic _ _ c.in-Undefined.opcode s (rw c.in-Undefined.is at did)

pub returns-clause-undefined : goal.returns-clause-undefined
returns-clause-undefined c = λ lab b traffic s.
    finds_no_undefined _ b traffic _ _ c.board_step-answer.result s
    (c.board_step-answer.ensures.step b.past s.devices) c.in_default.not-Undefined

pub returns-clause-none : goal.returns-clause-none
returns-clause-none c = λ lab b traffic s.
    let Q : Context → Type 0 =
    λ context. RepresentsDuringSlice (in_slice lab c.board_step-answer.new.machine context)
    (after_next_step b)
    (traffic ++ operation_list (next_change b).operation) in
    subst Q (sym c.follow.ensures.rest) (stands_step _ _ b traffic c.board_step-answer.result
    c.advance-left.result s (c.board_step-answer.ensures.step b.past s.devices) (record {
      rest = rw c.is_halt-self.ensures refl;
      frames = rw (← c.sp-sp.ensures, ← c.pc-pc.ensures) c.advance-left.ensures.live;
      oldest = rw (← c.sp-sp.ensures) c.advance-left.ensures.oldest;
      tells = c.board_step-answer.ensures.sp;
      older = c.follow.ensures.older;
      gone = rw (← c.sp-sp.ensures) c.follow.ensures.gone;
    }))
