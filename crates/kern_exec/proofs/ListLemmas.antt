-- Lists one after the other.
use Rattle.std.proofs.Common.{◌≡◌, ◌∙◌, List, [], ◌∷◌, ◌++◌, sym, ap, append_assoc}

pub grouped : {A : Type 0} (first second third : List A) (x : A)
    → ((first ++ second) ++ third) ++ x ∷ [] ≡ first ++ ((second ++ third) ++ x ∷ [])
grouped first second third x =
    append_assoc (first ++ second) third (x ∷ []) ∙ (append_assoc first second (third ++ x ∷ [])
    ∙ ap (λ rest. first ++ rest) (sym (append_assoc second third (x ∷ []))))
