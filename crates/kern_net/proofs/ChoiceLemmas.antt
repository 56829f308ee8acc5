-- What holds of two values holds of the one that a condition chooses.
use Rattle.std.proofs.Common.{Bool, if◌then◌else◌}
use Rattle.std.proofs.lemmas.Bool.{cond_both}

pub either : {A : Type 0} (P : A → Type 0) (b : Bool) (x y : A) → P x → P y → P (if b then x else y)
either P b x y p q = cond_both b x y P (λ _. p) (λ _. q)
