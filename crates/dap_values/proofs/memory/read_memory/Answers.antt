use Rattle.std.proofs.Common.{◌≡◌, ◌∙◌, ◌+◌, ◌∷◌, ◌++◌, [], sym, ap}
use Rattle.std.proofs.lemmas.List.FromFn.{map-range_with_len_more}
use Rattle.i80_exec.specs.State.{byte_at}
use Rattle.dap_values.proofs.memory.read_memory.Goals as goal

pub loop-offset-preserved : goal.loop-offset-preserved
loop-offset-preserved c = λ b s.
    let address = c.from-start.result + c.loop-offset.offset in
    let behind : c.args.address + c.loop-offset.offset ≡ address =
    ap (λ start. start + c.loop-offset.offset) (sym c.from-start.ensures) in
    c.in_ok-push.ensures.ok
    ∙ ap (λ byte. c.loop-offset.bytes ++ byte ∷ []) (c.peek.ensures b s)
    ∙ ap (λ bytes. bytes ++ byte_at b.machine address ∷ []) (c.loop-offset.invariant b s)
    ∙ sym (map-range_with_len_more (byte_at b.machine) c.args.address c.loop-offset.offset address behind)
