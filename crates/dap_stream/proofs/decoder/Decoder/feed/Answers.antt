use Rattle.std.proofs.Common.{subst, ◌∙◌, ap, sym, ◌≡◌, ◌++◌, drop, None}
use Rattle.dap_stream.specs.Stream.{DecoderState}
use Rattle.dap_stream.specs.Reading.{IsReading}
use Rattle.dap_stream.specs.Feeding.{Leads}
use Rattle.dap_stream.proofs.StreamLemmas.{feeds_broken, feeds_on}
use Rattle.dap_stream.proofs.decoder.Decoder.feed.Goals as goal

pub returns-in-Some : goal.returns-in-Some
returns-in-Some c =
    rw c.new-before.ensures (feeds_broken c.args.self.now c.args.piece.now c.in-Some.cause
    (ap (λ (s : DecoderState). s.fault) (sym c.self.view_is) ∙ c.in-Some.is))

pub returns-in-Ok : goal.returns-in-Ok
returns-in-Ok c =
    let old = c.args.self.now in
    let r = c.in-Ok.reading in
    let good : old.fault ≡ None = ap (λ (s : DecoderState). s.fault) (sym c.self.view_is) ∙ c.in_default.is in
    let whole : c.extend_from_slice.new.self.items ≡ old.rest ++ c.args.piece.now =
    rw c.if-is_err.ensures.negation at c.extend_from_slice.ensures.items
    ∙ ap (λ (s : DecoderState). s.rest ++ c.args.piece.now) c.self.view_is in
    feeds_on old c.go_on.new.self c.args.piece.now r.used r.bodies.items r.fault c.go_on.result good
    (subst (λ l. IsReading l r.bodies.items r.used r.fault) (c.as_slice.ensures.value
    ∙ whole) c.in-Ok.ensures)
    (subst (λ l. Leads r.bodies.items (drop r.used l) r.fault c.go_on.new.self c.go_on.result) whole
    c.go_on.ensures)
