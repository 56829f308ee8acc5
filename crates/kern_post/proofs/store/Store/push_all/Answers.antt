use Rattle.std.proofs.Common.{◌≡◌, ◌∙◌, [], ◌∷◌, ap, sym, length, arith, subst, List, append-nil}
use Rattle.kern_post.specs.declared.post.Post.{Post}
use Rattle.kern_post.specs.Posts.{Keeps, with_posts}
use Rattle.kern_post.proofs.PostLemmas.{posted-cons}
use Rattle.kern_post.proofs.store.Store.push_all.Goals as goal

pub loop-letter-preserved : goal.loop-letter-preserved
loop-letter-preserved c =
    let inv = c.loop-letter.invariant in
    let falls : c.loop-letter.letters ≡ c.in-Some.letter ∷ c.pop.new.self = c.in-Some.ensures in
    record {
      made = let m = inv.made in let p = c.push.ensures.made in omega (arith, ap length falls);
      keeps = λ posts k.
          let so_far = inv.keeps posts k in (
            with_posts c.args.unix_seconds (c.in-Some.letter ∷ []) so_far.0,
            c.push.ensures.keeps so_far.0 so_far.1,
            posted-cons c.args.unix_seconds c.in-Some.letter c.pop.new.self so_far.0
                ∙ (ap (λ ls. with_posts c.args.unix_seconds ls so_far.0) (sym falls) ∙ so_far.2),
          );
    }

pub returns-clause-made : goal.returns-clause-made
returns-clause-made c =
    let m = c.loop-letter.invariant.made in
    let empty : c.loop-letter.letters ≡ [] = c.in_default.ensures in
    let none = ap length empty in
    omega arith

pub returns-clause-keeps : goal.returns-clause-keeps
returns-clause-keeps c = λ posts k.
    let so_far = c.loop-letter.invariant.keeps posts k in
    let P : List Post → Type 0 = λ ps. Keeps ps c.loop-letter.self in
    let empty : c.loop-letter.letters ≡ [] = c.in_default.ensures in
    let all = ap (λ ls. with_posts c.args.unix_seconds ls so_far.0) (sym empty) ∙ so_far.2 in
    subst P (sym (append-nil so_far.0) ∙ all) so_far.1
