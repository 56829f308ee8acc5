use Rattle.std.proofs.Common.{◌∙◌, ap, bit_and, bit_or}
use Rattle.std.specs.Int.{from_bool}
use Rattle.i80_base.specs.FlagValues.{FlagValues}
use Rattle.i80_base.proofs.FlagLemmas.{recarried_byte, recarried_flags, shown_small}
use Rattle.i80_base.proofs.flags.Flags.with_carry.Goals as goal

pub invariant_of-result : goal.invariant_of-result
invariant_of-result c =
    let small = shown_small c.self.inside.byte c.self.invariant in
    recarried_byte c.self.inside.byte c.args.carry small
    ∙ ap (λ b. bit_or (bit_and b 254) (from_bool c.args.carry)) c.self.invariant

pub returns : goal.returns
returns c =
    let small = shown_small c.self.inside.byte c.self.invariant in
    recarried_flags c.self.inside.byte c.args.carry small ∙ ap (λ (f : FlagValues). let g : FlagValues =
    record f { cy = c.args.carry } in g) c.self.view_is
