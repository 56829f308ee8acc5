use Rattle.std.proofs.Common.{List, ℕ, ap, sym, ◌∙◌}
use Rattle.cli_io.specs.HexInput.{Bytes, byte_pairs}
use Rattle.cli_io.specs.HexState.{HexState}
use Rattle.cli_io.proofs.HexLemmas.{found_long, found_bytes}
use Rattle.cli_io.proofs.hex_input.HexInput.digits.Goals as goal

pub returns-then-self-2-clause-found : goal.returns-then-self-2-clause-found
returns-then-self-2-clause-found c text represents =
    found_long c.args.self.now text represents
    (ap (λ (h : HexState). h.is_odd) (sym c.self.view_is) ∙ c.if-self.false)
    (ap (λ (h : HexState). h.is_long) (sym c.self.view_is) ∙ c.if-self-2.true)

pub returns-clause-found : goal.returns-clause-found
returns-clause-found c text represents =
    found_bytes c.args.self.now text represents
    (ap (λ (h : HexState). h.is_odd) (sym c.self.view_is) ∙ c.if-self.false)
    (ap (λ (h : HexState). h.is_long) (sym c.self.view_is) ∙ c.if-self-2.false)
    ∙ ap (λ (ds : List ℕ). Bytes (byte_pairs ds)) (ap (λ (h : HexState). h.digits) (sym c.self.view_is)
    ∙ sym c.as_slice.ensures.value)
