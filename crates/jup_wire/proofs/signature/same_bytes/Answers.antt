use Rattle.std.proofs.Common.{◌≡◌, get_or, arith, ap, rules}
use Rattle.std.proofs.lemmas.List.{ext_get_or}
use Rattle.jup_wire.proofs.SignatureLemmas.{same_more, none_more}
use Rattle.jup_wire.proofs.signature.same_bytes.Goals as goal

pub loop-i-preserved : goal.loop-i-preserved
loop-i-preserved c = record {
  same = λ h. same_more _ _ _ _ c.loop-i.invariant.same h;
  none = λ e. none_more _ _ _ (ap (λ xs. get_or xs c.loop-i.i 0) e) (c.loop-i.invariant.none e);
}

pub returns : goal.returns
returns c = (
  λ h. ext_get_or 0 _ _ c.if-a-b.false (λ k below. c.loop-i.invariant.same (search (rules, h)) k
      (omega arith)),
  λ e. let none : c.loop-i.difference ≡ 0 = c.loop-i.invariant.none e in rw none (search rules),
)
