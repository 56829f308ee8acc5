-- Completions, more and more.
use Rattle.std.proofs.Common.{◌≡◌, ◌∙◌, ◌<◌, ◌≤◌, List, [], ◌∷◌, ◌++◌, length, true, false, nat_eq}
use Rattle.std.proofs.Common.{refl, sym, ap, arith, append_assoc, append-nil}
use Rattle.std.specs.List.{All, filter}
use Rattle.std.proofs.lemmas.List.{length-take}
use Rattle.std.proofs.lemmas.List.Elements.{All-take, filter_passes}
use Rattle.base_text.specs.Bytes.{Text}
use Rattle.asm_build.specs.Reading.{Entries}
use Rattle.dap_messages.specs.declared.message.Completion.{Completion}
use Rattle.dap_scopes.specs.Completions.{Completes, begins_with, completions_for, part_completions}
use Rattle.dap_scopes.specs.Completions.{symbol_completions, value_names}
use Rattle.dap_scopes.proofs.ListLemmas.{first_fails, first_full, first_passes}

-- ---- more and more

pub completes_none : (word : Text) (items : List Completion) → Completes word [] items items
completes_none word items cs is = is ∙ ap (completions_for word) (sym (append-nil cs))

pub completes_both : (word : Text) (more others items items' items'' : List Completion)
    → Completes word more items items' → Completes word others items' items''
    → Completes word (more ++ others) items items''
completes_both word more others items items' items'' front back cs is =
    back (cs ++ more) (front cs is) ∙ ap (completions_for word) (append_assoc cs more others)

pub begins : (word : Text) (c : Completion) (items items' : List Completion)
    → begins_with c.label word ≡ true → length items < 256 → items' ≡ items ++ c ∷ []
    → Completes word (c ∷ []) items items'
begins word c items items' passes room pushed cs is =
    let few : length (completions_for word cs) < 256 = rw (← is) room in
    pushed
    ∙ ap (λ xs. xs ++ c ∷ []) is
    ∙ sym (first_passes (λ x. begins_with x.label word) cs c passes few)

pub begins_otherwise : (word : Text) (c : Completion) (items : List Completion)
    → begins_with c.label word ≡ false → Completes word (c ∷ []) items items
begins_otherwise word c items other cs is =
    is ∙ sym (first_fails (λ x. begins_with x.label word) cs c other)

pub is_full : (word : Text) (more items : List Completion) → 256 ≤ length items
    → Completes word more items items
is_full word more items full cs is =
    is ∙ sym (first_full (λ x. begins_with x.label word) cs more (rw (← is) full))

-- ---- the first 256 that begin with the word

pub all_begin : (word : Text) (cs : List Completion)
    → All (λ c. begins_with c.label word ≡ true) (completions_for word cs)
all_begin word cs =
    All-take (λ c. begins_with c.label word ≡ true) 256 (filter (λ c. begins_with c.label word) cs)
    (filter_passes (λ c. begins_with c.label word) cs)

pub few_completions : (word : Text) (cs : List Completion) → length (completions_for word cs) ≤ 256
few_completions word cs = omega (arith, length-take 256 (filter (λ c. begins_with c.label word) cs))

-- ---- values

-- a word that isn't empty may mean a value
pub values_of : (word : Text) (symbols : Entries) → nat_eq (length word) 0 ≡ false
    → value_names word symbols ≡ part_completions word ++ symbol_completions symbols
values_of [] symbols some = absurd cc
values_of (c ∷ cs) symbols some = refl
