use Rattle.std.proofs.Common.{◌∙◌, ◌+◌, refl}
use Rattle.lab_term.specs.declared.subscriber.Subscriber.{Subscriber}
use Rattle.lab_term.proofs.CourseLemmas.{holds_on}
use Rattle.lab_term.proofs.subscriber.refill.Goals as goal

pub returns-clause-holds : goal.returns-clause-holds
returns-clause-holds g c = λ before passed h.
    let new : Subscriber = record {
      decoder = c.feed.new.decoder;
      queue = c.from.result;
      broken = c.in-Ok-feed.field-0.broken;
      reads = c.args.subscriber.now.reads + 1;
    } in
    holds_on before _ _ c.args.subscriber.now new passed _ _ c.requires.empty
    c.in-Ok-feed.ensures.completes c.in-Ok.ensures.given c.read_piece.ensures.reads c.requires.left
    (c.from.ensures.0 ∙ c.into_vec.ensures) c.in-Ok-feed.ensures.broken refl h
