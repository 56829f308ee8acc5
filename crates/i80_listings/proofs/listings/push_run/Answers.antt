use Rattle.std.proofs.Common.{◌≡◌, ◌-◌, ◌++◌, ◌∙◌, length, sym, ap, string_bytes, rules}
use Rattle.std.proofs.lemmas.List.{append-nil}
use Rattle.i80_dis.proofs.Lines.{listing_none}
use Rattle.i80_listings.proofs.listings.push_run.Goals as goal

pub returns-then-is_empty : goal.returns-then-is_empty
returns-then-is_empty c =
    let none : length c.args.run.now ≡ 0 = search rules in
    sym (ap (λ t. string_bytes c.args.text.now ++ t)
    (listing_none (c.args.end - length c.args.run.now) c.args.run.now none)
    ∙ append-nil (string_bytes c.args.text.now))
