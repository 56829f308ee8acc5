-- The beginning of a line of the prompt.
use Rattle.std.proofs.Common.{◌≡◌, ◌≢◌, ◌∙◌, ℕ, List, ◌++◌, length, take, drop, Some, None, true, refl, sym}
use Rattle.std.proofs.Common.{ap, inl, inr}
use Rattle.std.proofs.Math.Seq.{take-append_seam}
use Rattle.std.proofs.lemmas.Bool.{cases_Bool}
use Rattle.std.proofs.lemmas.List.{take-append-drop}
use Rattle.std.proofs.lemmas.Slice.Eq.{bytes_eq-Decides}
use Rattle.std.specs.Str.{bytes_eq}
use Rattle.dap_prompt.specs.Prompt.{behind}

pub behind_some : (beginning text rest : List ℕ) (n : ℕ) → n ≡ length beginning
    → text ≡ beginning ++ drop n text → rest ≡ drop n text → Some rest ≡ behind beginning text
behind_some beginning text rest n count split is =
    let same : take (length beginning) text ≡ beginning =
    ap (λ t. take (length beginning) t) split ∙ take-append_seam beginning (drop n text) in
    let test : bytes_eq (take (length beginning) text) beginning ≡ true =
    (bytes_eq-Decides (take (length beginning) text) beginning).1 same in
    rw test (ap (λ t. Some t) (is ∙ ap (λ k. drop k text) count))

pub behind_none : (beginning text : List ℕ) → ((rest : List ℕ) → text ≢ beginning ++ rest)
    → None ≡ behind beginning text
behind_none beginning text lacks = elim (cases_Bool (bytes_eq (take (length beginning) text) beginning)) [
  | inl same ↦ absurd (lacks (drop (length beginning) text) (sym (take-append-drop (length beginning) text)
      ∙ ap (λ t. t ++ drop (length beginning) text)
      ((bytes_eq-Decides (take (length beginning) text) beginning).0 same)))
  | inr other ↦ rw other refl
]
