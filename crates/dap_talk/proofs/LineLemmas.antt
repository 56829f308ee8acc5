-- Lines of breakpoints, one by one.
use Rattle.std.proofs.Common.{
  ◌≡◌,
  ℕ,
  ◌+◌,
  ◌<◌,
  List,
  [],
  ◌∷◌,
  ◌++◌,
  length,
  get_or,
  drop,
  true,
  Option,
  Some,
  None,
  is_some,
  option_map,
  option_and_then,
  refl,
  sym,
  ap,
  ◌∙◌,
  append_assoc,
  cond,
  nat_le,
}
use Rattle.std.proofs.lemmas.List.{at_drop_more}
use Rattle.std.proofs.lemmas.Bool.{false≢true}
use Rattle.serde_json.proofs.Views.{items_len-items_view}
use Rattle.serde_json.specs.View.{view, items_view}
use Rattle.serde_json.specs.declared.value.Value.{Value}
use Rattle.dap_talk.specs.Argument.{line_of, lines_of, at_most_256}

abbrev pub all_lines : List Value → Option (List ℕ)
all_lines bs = lines_of (items_view bs)

-- these lines, then the others
abbrev pub then_lines : List ℕ → Option (List ℕ) → Option (List ℕ)
then_lines lines rest = option_map (λ more. lines ++ more) rest

some_by : (line : Option ℕ) (rest : Option (List ℕ)) → is_some line ≡ true
    → is_some (option_and_then (λ n. option_map (λ ns. n ∷ ns) rest) line) ≡ is_some rest
some_by None rest is = absurd (false≢true is)
some_by (Some n) None is = refl
some_by (Some n) (Some ns) is = refl

pub one_more_has : (bs : List Value) (i : ℕ) (b : Value) → i < length bs → b ≡ get_or bs i b
    → is_some (line_of (view b)) ≡ true
    → is_some (all_lines (drop (i + 1) bs)) ≡ is_some (all_lines (drop i bs))
one_more_has bs i b inside at is =
    let step = at_drop_more (λ (xs : List Value). is_some (all_lines xs)) bs i b inside in
    sym (step ∙ ap (λ (x : Value). is_some (all_lines (x ∷
    drop (i + 1) bs))) (sym at) ∙ some_by (line_of (view b)) (all_lines (drop (i + 1) bs)) is)

pub one_has_none : (bs : List Value) (i : ℕ) (b : Value) → i < length bs → b ≡ get_or bs i b
    → line_of (view b) ≡ None
    → all_lines (drop i bs) ≡ None
one_has_none bs i b inside at none =
    at_drop_more all_lines bs i b inside ∙ ap (λ (x : Value). all_lines (x ∷
    drop (i + 1) bs)) (sym at)
    ∙ ap (option_and_then (λ n. option_map (λ ns. n ∷ ns) (all_lines (drop (i + 1) bs)))) none

then_one : (lines : List ℕ) (n : ℕ) (rest : Option (List ℕ))
    → then_lines lines (option_map (λ ns. n ∷ ns) rest) ≡ then_lines (lines ++ n ∷ []) rest
then_one lines n None = refl
then_one lines n (Some ns) = ap Some (sym (append_assoc lines (n ∷ []) ns))

pub one_more_line : (bs : List Value) (i : ℕ) (b : Value) (lines : List ℕ) (n : ℕ)
    → i < length bs → b ≡ get_or bs i b → line_of (view b) ≡ Some n
    → then_lines (lines ++ n ∷ []) (all_lines (drop (i + 1) bs)) ≡ then_lines lines (all_lines (drop i bs))
one_more_line bs i b lines n inside at is =
    let here : all_lines (drop i bs) ≡ option_map (λ ns. n ∷ ns) (all_lines (drop (i + 1) bs)) =
    at_drop_more all_lines bs i b inside ∙ ap (λ (x : Value). all_lines (x ∷
    drop (i + 1) bs)) (sym at)
    ∙ ap (option_and_then (λ n. option_map (λ ns. n ∷ ns) (all_lines (drop (i + 1) bs)))) is in
    sym (ap (then_lines lines) here ∙ then_one lines n (all_lines (drop (i + 1) bs)))

pub few_items : (bs : List Value) → at_most_256 (items_view bs) ≡ cond (nat_le (length bs) 256)
    (Some (items_view bs)) None
few_items bs = ap (λ (n : ℕ). cond (nat_le n 256) (Some (items_view bs)) None)
    (items_len-items_view bs)
