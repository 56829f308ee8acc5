use Rattle.std.proofs.Common.{subst, sym, ◌∙◌, ap, refl, Some, None, ◌≡◌, ◌++◌, drop, rules}
use Rattle.zmtp_wire.specs.declared.progress.Progress.{Progress}
use Rattle.zmtp_wire.specs.contracts.decoder.Decoder.{the_view}
use Rattle.zmtp_wire.specs.Stream.{DecoderState, Completes}
use Rattle.zmtp_wire.proofs.FeedLemmas.{feed_completes, stays_broken, decoder_after}
use Rattle.zmtp_wire.proofs.decoder.Decoder.feed.Goals as goal

pub returns-in-Some : goal.returns-in-Some
returns-in-Some c =
    let P : DecoderState → Type 0 =
    λ s. Completes s c.args.piece.now c.new-before.result s × (s.fault ≡ Some c.in-Some.cause) in
    let stays = stays_broken (the_view c.self.inside) c.args.piece.now c.in-Some.cause c.in-Some.is in
    record {
      ok = tt;
      good = tt;
      err = subst P c.self.view_is (rw c.new-before.ensures stays, c.in-Some.is);
      stored = search rules;
    }

pub returns-in-Ok-default-None : goal.returns-in-Ok-default-None
returns-in-Ok-default-None c =
    let old : DecoderState = the_view c.self.inside in
    let buffer = c.as_slice.result.now in
    let rest = drop c.in-Ok-default-None.used buffer in
    let before : Progress =
    record { stage = old.stage; accepted = None; frames = c.replace.result; messages = c.new-2.result } in
    let after = c.take_items.new.progress in
    let whole : buffer ≡ old.rest ++ c.args.piece.now =
    c.as_slice.ensures.value ∙ rw c.if-is_err.ensures.negation at c.extend_from_slice.ensures.items in
    let kept : c.keep_from.new.bytes.items ≡ rest =
    c.keep_from.ensures ∙ ap (drop c.in-Ok-default-None.used) (sym c.as_slice.ensures.value) in
    let done = feed_completes old c.args.piece.now buffer rest before after None c.in_default.is refl refl
    c.replace.ensures.value c.new-2.ensures.items whole c.in-Ok-default-None.ensures.reads
    (rw c.in-Ok-default-None.field-0-1-is at c.in-Ok-default-None.ensures.ends) in
    let new : c.go_on.new.self ≡ decoder_after old after rest None =
    (let s = c.go_on.ensures.state in let f = c.in_default.is in cc (s, f, kept)) in
    record {
      ok = rw (← c.self.view_is, c.go_on.ensures.messages, new) done;
      good = search rules;
      err = tt;
      stored = search rules;
    }

pub returns-in-Ok-default-Some : goal.returns-in-Ok-default-Some
returns-in-Ok-default-Some c =
    let old : DecoderState = the_view c.self.inside in
    let buffer = c.as_slice.result.now in
    let rest = drop c.in-Ok-default-Some.field-0-0 buffer in
    let before : Progress =
    record { stage = old.stage; accepted = None; frames = c.replace.result; messages = c.new-2.result } in
    let after = c.take_items.new.progress in
    let whole : buffer ≡ old.rest ++ c.args.piece.now =
    c.as_slice.ensures.value ∙ rw c.if-is_err.ensures.negation at c.extend_from_slice.ensures.items in
    let kept = c.clear.ensures.items in
    let fault = Some c.in-Ok-default-Some.cause in
    let done = feed_completes old c.args.piece.now buffer rest before after fault c.in_default.is refl refl
    c.replace.ensures.value c.new-2.ensures.items whole c.in-Ok-default-Some.ensures.reads
    (rw c.in-Ok-default-Some.field-0-1-is at c.in-Ok-default-Some.ensures.ends) in
    let new : c.go_on-before.new.self ≡ decoder_after old after rest fault =
    (let s = c.go_on-before.ensures.state in cc (s, kept)) in
    record {
      ok = tt;
      good = tt;
      err = rw (← c.self.view_is, c.go_on-before.ensures.messages, new) (done, refl);
      stored = search rules;
    }
