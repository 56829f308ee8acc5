use Rattle.std.proofs.Common.{ap, ◌∙◌, ◌+◌, ℕ}
use Rattle.asm_hex.specs.Contents.{Contents}
use Rattle.asm_hex.proofs.ContentsLemmas.{placed_next}
use Rattle.asm_hex.proofs.contents.Contents.place.Goals as goal

pub loop-offset-preserved : goal.loop-offset-preserved
loop-offset-preserved c = record {
  bytes =
      placed_next _ _ _ c.args.address c.loop-offset.offset _ c.args.bytes.now c.loop-offset-test.true
      (ap (λ (n : ℕ). n + c.loop-offset.offset) c.from.ensures) (ap (λ
      (s : Contents). s.bytes) c.in_ok-place_byte.ensures)
      c.loop-offset.invariant.bytes;
  end = ap (λ (s : Contents). s.end_address) c.in_ok-place_byte.ensures ∙ c.loop-offset.invariant.end;
}
