-- Sorted spans: where they end, what an address lies in, and what is left of them.
use Rattle.std.proofs.Common.{◌≡◌, ◌⊎◌, ℕ, ◌<◌, ◌≤◌, ◌+◌, List, [], ◌∷◌, ◌++◌, Some, None, true, false, refl}
use Rattle.std.proofs.Common.{ap, ◌∙◌, arith, length, zero, suc, slice_index_or, drop, inl, inr, min, max}
use Rattle.std.proofs.Common.{sym, subst, append_assoc, append-nil}
use Rattle.std.proofs.lemmas.Bool.{cases_order, cases_lt, lt-ltb, le-ltb}
use Rattle.std.proofs.lemmas.List.{get_or-drop, length-drop, drop_more, drop_all}
use Rattle.std.proofs.lemmas.Bool.Decides.{nat_tests}
use Rattle.std.specs.Option.{option_or}
use Rattle.lab_image.specs.declared.spans.Span.{Span}
use Rattle.lab_image.specs.Spans.{AreSpans, EndBy, lies_in, origin_at, origin_in, no_span, part, between}
use Rattle.lab_image.specs.Spans.{overlay}

-- ---- order

from_above : (low high : ℕ) (spans : List Span) (i : ℕ) → AreSpans low spans high → i < length spans
    → low ≤ (slice_index_or spans i no_span).from
from_above low high [] i are h = absurd (omega arith)
from_above low high (r ∷ rs) zero are h = are.0
from_above low high (r ∷ rs) (suc i) are h =
    let next = from_above r.to high rs i are.2 (omega arith) in let p = are.0 in let q = are.1 in omega arith

longer : (low high : ℕ) (spans : List Span) (i : ℕ) → AreSpans low spans high → i < length spans
    → (slice_index_or spans i no_span).from < (slice_index_or spans i no_span).to
longer low high [] i are h = absurd (omega arith)
longer low high (r ∷ rs) zero are h = are.1
longer low high (r ∷ rs) (suc i) are h = longer r.to high rs i are.2 (omega arith)

-- an earlier span ends before a later one begins
apart : (low high : ℕ) (spans : List Span) (i j : ℕ) → AreSpans low spans high → i < j → j < length spans
    → (slice_index_or spans i no_span).to ≤ (slice_index_or spans j no_span).from
apart low high [] i j are h l = absurd (omega arith)
apart low high (r ∷ rs) i zero are h l = absurd (omega arith)
apart low high (r ∷ rs) zero (suc j) are h l = from_above r.to high rs j are.2 (omega arith)
apart low high (r ∷ rs) (suc i) (suc j) are h l = apart r.to high rs i j are.2 (omega arith) (omega arith)

-- those up to a span that ends in time
pub ended_to : (low high : ℕ) (spans : List Span) (m a : ℕ) → AreSpans low spans high → m < length spans
    → (slice_index_or spans m no_span).to ≤ a → (i : ℕ) → i < m + 1 → (slice_index_or spans i no_span).to ≤ a
ended_to low high spans m a are l t i h =
    elim (cases_order i m) [
      | inl e ↦ rw e t
      | inr o ↦
          elim o [
            | inl less ↦
                let p = apart low high spans i m are less l in
                let q = longer low high spans m are l in
                omega arith
            | inr more ↦ absurd (omega arith)
          ]
    ]

-- those from a span on that ends beyond an address
pub beyond_from : (low high : ℕ) (spans : List Span) (m a : ℕ) → AreSpans low spans high
    → a < (slice_index_or spans m no_span).to → (i : ℕ) → m ≤ i → i < length spans
    → a < (slice_index_or spans i no_span).to
beyond_from low high spans m a are t i h k =
    elim (cases_order i m) [
      | inl e ↦ rw e t
      | inr o ↦
          elim o [
            | inl less ↦ absurd (omega arith)
            | inr more ↦
                let p = apart low high spans m i are more k in
                let q = longer low high spans i are k in
                omega arith
          ]
    ]

-- ---- looking up

covered : (r : Span) (a : ℕ) → r.from ≤ a → a < r.to → lies_in r a ≡ true
covered r a h k = grind (arith, nat_tests)

past : (r : Span) (a : ℕ) → r.to ≤ a → lies_in r a ≡ false
past r a h = grind (arith, nat_tests)

before : (r : Span) (a : ℕ) → a < r.from → lies_in r a ≡ false
before r a h = grind (arith, nat_tests)

-- below the first span there is no origin
pub none_below : (low high : ℕ) (spans : List Span) (a : ℕ) → AreSpans low spans high → a < low
    → origin_in spans a ≡ None
none_below low high [] a are h = refl
none_below low high (r ∷ rs) a are h =
    let p = are.0 in let q = are.1 in
    rw (before r a (omega arith)) (none_below r.to high rs a are.2 (omega arith))

pub origin_found : (low high : ℕ) (spans : List Span) (a i : ℕ) → AreSpans low spans high → i < length spans
    → ((k : ℕ) → k < i → (slice_index_or spans k no_span).to ≤ a)
    → (slice_index_or spans i no_span).from ≤ a → a < (slice_index_or spans i no_span).to
    → origin_in spans a ≡ Some (origin_at (slice_index_or spans i no_span) a)
origin_found low high [] a i are h ended f t = absurd (omega arith)
origin_found low high (r ∷ rs) a zero are h ended f t = rw (covered r a f t) refl
origin_found low high (r ∷ rs) a (suc i) are h ended f t =
    rw (past r a (ended 0 (omega arith))) (origin_found r.to high rs a i are.2 (omega arith)
    (λ k l. ended (suc k) (omega arith)) f t)

pub origin_missed : (low high : ℕ) (spans : List Span) (a i : ℕ) → AreSpans low spans high → i < length spans
    → ((k : ℕ) → k < i → (slice_index_or spans k no_span).to ≤ a)
    → a < (slice_index_or spans i no_span).from → origin_in spans a ≡ None
origin_missed low high [] a i are h ended f = absurd (omega arith)
origin_missed low high (r ∷ rs) a zero are h ended f =
    let q = are.1 in rw (before r a f) (none_below r.to high rs a are.2 (omega arith))
origin_missed low high (r ∷ rs) a (suc i) are h ended f =
    rw (past r a (ended 0 (omega arith))) (origin_missed r.to high rs a i are.2 (omega arith)
    (λ k l. ended (suc k) (omega arith)) f)

pub origin_past : (spans : List Span) (a : ℕ)
    → ((k : ℕ) → k < length spans → (slice_index_or spans k no_span).to ≤ a)
    → origin_in spans a ≡ None
origin_past [] a ended = refl
origin_past (r ∷ rs) a ended =
    rw (past r a (ended 0 (omega arith))) (origin_past rs a (λ k l. ended (suc k) (omega arith)))

-- ---- order, for lists

spans_lower : (low middle high : ℕ) (spans : List Span) → low ≤ middle → AreSpans middle spans high
    → AreSpans low spans high
spans_lower low middle high [] h are = omega (arith, are)
spans_lower low middle high (r ∷ rs) h are = (let p = are.0 in omega arith, are.1, are.2)

spans_within : (low high : ℕ) (spans : List Span) → AreSpans low spans high → low ≤ high
spans_within low high [] are = are
spans_within low high (r ∷ rs) are =
    let p = are.0 in let q = are.1 in let rest = spans_within r.to high rs are.2 in omega arith

spans-append : (low middle high : ℕ) (xs ys : List Span) → AreSpans low xs middle → AreSpans middle ys high
    → AreSpans low (xs ++ ys) high
spans-append low middle high [] ys h k = spans_lower low middle high ys h k
spans-append low middle high (x ∷ xs) ys h k = (h.0, h.1, spans-append x.to middle high xs ys h.2 k)

spans_drop : (low high : ℕ) (spans : List Span) (i : ℕ) → AreSpans low spans high
    → AreSpans low (drop i spans) high
spans_drop low high spans zero are = are
spans_drop low high [] (suc i) are = are
spans_drop low high (r ∷ rs) (suc i) are =
    let p = are.0 in let q = are.1 in
    spans_lower low r.to high (drop i rs) (omega arith) (spans_drop r.to high rs i are.2)

-- ---- what spans have between two addresses

abbrev cut_span : ℕ → ℕ → Span → Span
cut_span low high r = record r { from = max low r.from; to = min r.to high }

part_some : (low high : ℕ) (r : Span) → max low r.from < min r.to high
    → part low high r ≡ cut_span low high r ∷ []
part_some low high r h = rw (lt-ltb (max low r.from) (min r.to high) h) refl

part_none : (low high : ℕ) (r : Span) → min r.to high ≤ max low r.from → part low high r ≡ []
part_none low high r h = rw (le-ltb (max low r.from) (min r.to high) h) refl

cut_same : (low high : ℕ) (r : Span) (a : ℕ) → low ≤ a → a < high
    → lies_in (cut_span low high r) a ≡ lies_in r a
cut_same low high r a h k = grind (arith, nat_tests)

cut_past : (low high : ℕ) (r : Span) (a : ℕ) → (a < low) ⊎ (high ≤ a)
    → lies_in (cut_span low high r) a ≡ false
cut_past low high r a (inl h) = before (cut_span low high r) a (omega arith)
cut_past low high r a (inr h) = past (cut_span low high r) a (omega arith)

none_there : (low high : ℕ) (r : Span) (a : ℕ) → min r.to high ≤ max low r.from → low ≤ a → a < high
    → lies_in r a ≡ false
none_there low high r a h k l = grind (arith, nat_tests)

-- within the two addresses a look-up finds what the spans have
between_at : (spans ys : List Span) (low high a : ℕ) → low ≤ a → a < high → origin_in ys a ≡ None
    → origin_in (between low high spans ++ ys) a ≡ origin_in spans a
between_at [] ys low high a h k none = none
between_at (r ∷ rs) ys low high a h k none = elim (cases_lt (max low r.from) (min r.to high)) [
  | inl some ↦
      rw (part_some low high r some, cut_same low high r a h k, between_at rs ys low high a h k none) refl
  | inr gone ↦
      rw (part_none low high r gone, none_there low high r a gone h k) (between_at rs ys low high a h k none)
]

-- and elsewhere it goes on behind them
between_past : (spans ys : List Span) (low high a : ℕ) → (a < low) ⊎ (high ≤ a)
    → origin_in (between low high spans ++ ys) a ≡ origin_in ys a
between_past [] ys low high a h = refl
between_past (r ∷ rs) ys low high a h = elim (cases_lt (max low r.from) (min r.to high)) [
  | inl some ↦ rw (part_some low high r some, cut_past low high r a h) (between_past rs ys low high a h)
  | inr gone ↦ rw (part_none low high r gone) (between_past rs ys low high a h)
]

spans_between_from : (first last low high : ℕ) (spans : List Span) → AreSpans first spans last → low ≤ high
    → AreSpans (max low (min first high)) (between low high spans) high
spans_between_from first last low high [] are h = omega arith
spans_between_from first last low high (r ∷ rs) are h =
    let p = are.0 in let q = are.1 in let rest = spans_between_from r.to last low high rs are.2 h in
    elim (cases_lt (max low r.from) (min r.to high)) [
      | inl some ↦
          let more = spans_lower (min r.to high) (max low (min r.to high)) high (between low high rs) in
          rw (part_some low high r some) (omega arith, some, more (omega arith) rest)
      | inr gone ↦
          rw (part_none low high r gone) (spans_lower (max low (min first high)) (max low (min r.to high))
          high (between low high rs) (omega arith) rest)
    ]

spans_between : (last low high : ℕ) (spans : List Span) → AreSpans 0 spans last → low ≤ high
    → AreSpans low (between low high spans) high
spans_between last low high spans are h =
    spans_lower low (max low (min 0 high)) high (between low high spans) (omega arith)
    (spans_between_from 0 last low high spans are h)

-- ---- new spans over old ones

pub spans_overlay : (low : ℕ) (old new : List Span) → AreSpans 0 old 65536 → AreSpans low new 65536
    → AreSpans low (overlay low old new) 65536
spans_overlay low old [] are news = spans_between 65536 low 65536 old are news
spans_overlay low old (r ∷ rs) are news =
    spans-append low r.from 65536 (between low r.from old) (r ∷ overlay r.to old rs)
    (spans_between 65536 low r.from old are news.0)
    (omega arith, news.1, spans_overlay r.to old rs are news.2)

-- one more new span, and what the old ones have up to it
pub overlay_step : (old new all cut more whole : List Span) (low k : ℕ) → k < length new
    → cut ≡ all ++ between low (slice_index_or new k no_span).from old
    → more ≡ cut ++ slice_index_or new k no_span ∷ []
    → all ++ overlay low old (drop k new) ≡ whole
    → more ++ overlay (slice_index_or new k no_span).to old (drop (k + 1) new) ≡ whole
overlay_step old new all cut more whole low k h first last was =
    let next = rw (drop_more new k no_span h) at was in
    rw (last, first) (simp append_assoc next)

-- what the old ones have behind the last new one
pub overlay_end : (old new all more whole : List Span) (low k : ℕ) → length new ≤ k
    → more ≡ all ++ between low 65536 old → all ++ overlay low old (drop k new) ≡ whole → more ≡ whole
overlay_end old new all more whole low k h last was =
    last ∙ (rw (drop_all k new h) at was)

overlay_before : (low : ℕ) (old new : List Span) (a : ℕ) → AreSpans low new 65536 → a < low
    → origin_in (overlay low old new) a ≡ None
overlay_before low old [] a news h =
    ap (λ xs. origin_in xs a) (sym (append-nil (between low 65536 old)))
    ∙ between_past old [] low 65536 a (inl h)
overlay_before low old (r ∷ rs) a news h =
    let start = news.0 in let some = news.1 in
    between_past old (r ∷ overlay r.to old rs) low r.from a (inl h)
    ∙ rw (before r a (omega arith)) (overlay_before r.to old rs a news.2 (omega arith))

pub origin_overlay : (low : ℕ) (old new : List Span) (a : ℕ) → AreSpans low new 65536 → low ≤ a → a < 65536
    → origin_in (overlay low old new) a ≡ option_or (origin_in new a) (origin_in old a)
origin_overlay low old [] a news h k =
    ap (λ xs. origin_in xs a) (sym (append-nil (between low 65536 old)))
    ∙ between_at old [] low 65536 a h k refl
origin_overlay low old (r ∷ rs) a news h k = elim (cases_lt a r.from) [
  | inl below_it ↦ (let some = news.1 in
      let none : origin_in (r ∷ overlay r.to old rs) a ≡ None =
      rw (before r a below_it) (overlay_before r.to old rs a news.2 (omega arith)) in
      between_at old (r ∷ overlay r.to old rs) low r.from a h below_it none
      ∙ rw (before r a below_it, none_below r.to 65536 rs a news.2 (omega arith)) refl)
  | inr from_it ↦
      between_past old (r ∷ overlay r.to old rs) low r.from a (inr from_it) ∙ elim (cases_lt a r.to) [
        | inl inside ↦ rw (covered r a from_it inside) refl
        | inr past_it ↦ rw (past r a past_it) (origin_overlay r.to old rs a news.2 past_it k)
      ]
]

-- ---- what spans have between two addresses, span by span

-- spans from a high address on have none
between_none : (first last low high : ℕ) (spans : List Span) → AreSpans first spans last
    → high ≤ max low first → between low high spans ≡ []
between_none first last low high [] are h = refl
between_none first last low high (r ∷ rs) are h =
    let p = are.0 in let q = are.1 in
    rw (part_none low high r (omega arith)) (between_none r.to last low high rs are.2 (omega arith))

-- where the first one begins there or beyond, they are such
pub between_beyond : (spans : List Span) (high : ℕ) → AreSpans 0 spans 65536
    → high ≤ (slice_index_or spans 0 no_span).from → (low : ℕ) → between low high spans ≡ []
between_beyond [] high are h low = refl
between_beyond (r ∷ rs) high are h low =
    between_none r.from 65536 low high (r ∷ rs) (omega arith, are.1, are.2) (omega arith)

-- nor have those that end below
between-drop : (low high : ℕ) (spans : List Span) (i : ℕ)
    → ((k : ℕ) → k < i → (slice_index_or spans k no_span).to ≤ low)
    → between low high (drop i spans) ≡ between low high spans
between-drop low high spans zero ended = refl
between-drop low high [] (suc i) ended = refl
between-drop low high (r ∷ rs) (suc i) ended =
    let gone = ended 0 (omega arith) in
    rw (part_none low high r (omega arith)) (between-drop low high rs i (λ k l. ended (suc k) (omega arith)))

-- the spans that end beyond an address
pub record AreLater (spans rest : List Span) (low high : ℕ) : Type 0 where
  pub sorted : AreSpans 0 rest 65536
  pub later : (k : ℕ) → k < length rest → low < (slice_index_or rest k no_span).to
  pub same : between low high rest ≡ between low high spans

pub later_spans : (spans rest : List Span) (low high i : ℕ) → AreSpans 0 spans 65536 → EndBy spans low i
    → rest ≡ drop i spans → AreLater spans rest low high
later_spans spans rest low high i are ends e =
    let P : List Span → Type 0 = λ xs. AreLater spans xs low high in
    subst P (sym e) (record {
      sorted = spans_drop 0 65536 spans i are;
      later =
          λ k h. rw (get_or-drop i spans k no_span) (ends.beyond (i + k) (omega arith)
          (omega (arith, length-drop i spans)));
      same = between-drop low high spans i ends.ended;
    })

-- one more span is appended
pub between_step : (spans rest all more whole : List Span) (low high k from to : ℕ)
    → AreLater spans rest low high → k < length rest
    → from ≡ max low (slice_index_or rest k no_span).from → to ≡ min (slice_index_or rest k no_span).to high
    → from < to
    → more ≡ all ++ (let r : Span = slice_index_or rest k no_span in (record r { from = from; to = to })) ∷ []
    → all ++ between low high (drop k rest) ≡ whole → more ++ between low high (drop (k + 1) rest) ≡ whole
between_step spans rest all more whole low high k from to are h first last f pushed was =
    let next : between low high (drop k rest) ≡ cut_span low high (slice_index_or rest k no_span)
    ∷ between low high (drop (k + 1) rest) =
    rw (drop_more rest k no_span h, part_some low high (slice_index_or rest k no_span) (omega arith)) refl in
    rw (pushed, append_assoc, first, last) (rw next at was)

-- no span that follows has any
pub between_last : (spans rest : List Span) (low high k from to : ℕ) → AreLater spans rest low high
    → k < length rest
    → from ≡ max low (slice_index_or rest k no_span).from → to ≡ min (slice_index_or rest k no_span).to high
    → to ≤ from
    → between low high (drop k rest) ≡ []
between_last spans rest low high k from to are h first last f =
    let e = drop_more rest k no_span h in
    let ahead = rw e at (spans_drop 0 65536 rest k are.sorted) in
    let some = ahead.1 in let later = are.later k h in
    rw e (between_none (slice_index_or rest k no_span).from 65536 low high
    (slice_index_or rest k no_span ∷ drop (k + 1) rest) (omega arith, some, ahead.2) (omega arith))

pub between_end : (spans rest all old : List Span) (low high : ℕ) → AreLater spans rest low high
    → all ++ [] ≡ old ++ between low high rest → all ≡ old ++ between low high spans
between_end spans rest all old low high are h = sym (append-nil all) ∙ h ∙ ap (λ xs. old ++ xs) are.same

-- ---- a span behind all others

-- spans that end in time are all there
between_all : (first last high : ℕ) (spans : List Span) → AreSpans first spans last
    → ((k : ℕ) → k < length spans → (slice_index_or spans k no_span).to ≤ high) → between 0 high spans ≡ spans
between_all first last high [] are ended = refl
between_all first last high (r ∷ rs) are ended =
    let some = are.1 in let done = ended 0 (omega arith) in
    let from : max 0 r.from ≡ r.from = omega arith in let to : min r.to high ≡ r.to = omega arith in
    rw (part_some 0 high r (omega arith), from, to) (ap (λ xs. r ∷ xs)
    (between_all r.to last high rs are.2 (λ k h. ended (suc k) (omega arith))))

pub overlay_last : (spans : List Span) (r : Span) (count : ℕ) → AreSpans 0 spans 65536 → r.from < r.to
    → EndBy spans r.from count → count ≡ length spans
    → overlay 0 spans (r ∷ []) ≡ spans ++ r ∷ []
overlay_last spans r count are h ends all =
    let none : between r.to 65536 spans ≡ [] =
    sym (between-drop r.to 65536 spans count (λ k l. omega (arith, ends.ended k l)))
    ∙ ap (between r.to 65536) (drop_all count spans (omega arith)) in
    rw (between_all 0 65536 r.from spans are (λ k l. ends.ended k (omega arith)), none) refl
