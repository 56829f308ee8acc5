use Rattle.std.proofs.Common.{◌≡◌, ◌∙◌, ◌+◌, ◌∷◌, ◌++◌, [], sym, ap, refl}
use Rattle.std.proofs.lemmas.List.FromFn.{map-range_with_len_more}
use Rattle.i80_exec.specs.declared.registers.Registers.{Registers}
use Rattle.dap_scopes.specs.Stack.{stack_address, word_row}
use Rattle.dap_scopes.proofs.stack.stack.Goals as goal

pub loop-offset-preserved : goal.loop-offset-preserved
loop-offset-preserved c = λ b s.
    let index = c.args.start + c.loop-offset.offset in
    let row = word_row c.args.format b in
    c.in_ok-push_word.ensures b s
    ∙ ap (λ address. c.loop-offset.rows ++ row address ∷ [])
    (c.stack_address.ensures ∙ ap (λ (r : Registers). stack_address r.sp index) (c.regs-sp.ensures b s))
    ∙ ap (λ made. made ++ row (stack_address b.machine.regs.sp index) ∷ []) (c.loop-offset.invariant b s)
    ∙ sym (map-range_with_len_more (λ i. row (stack_address b.machine.regs.sp i)) c.args.start
    c.loop-offset.offset index refl)
