-- What rows tell, one behind another, and what the span of a row gives.
use Rattle.std.proofs.Common.{◌≡◌, ℕ, ◌<◌, ◌+◌, ◌==◌, List, [], ◌∷◌, ◌++◌, Option, Some, None, Bool, true}
use Rattle.std.proofs.Common.{false, refl, sym, ap, ◌∙◌, arith, cond, take, length, slice_index_or, subst}
use Rattle.std.proofs.Common.{append_assoc, append-nil, length-append}
use Rattle.std.specs.List.{last_or, filter_map, flat_map, cons_option}
use Rattle.std.specs.Option.{option_or}
use Rattle.std.proofs.lemmas.List.{take_more}
use Rattle.std.proofs.lemmas.Grind.{flat_map-append}
use Rattle.std.proofs.lemmas.List.Elements.{filter_map-append}
use Rattle.std.proofs.lemmas.Bool.Decides.{nat_tests}
use Rattle.asm_build.specs.declared.built.Row.{Row}
use Rattle.lab_image.specs.declared.spans.Span.{Span}
use Rattle.lab_image.specs.Spans.{AreSpans, lies_in, origin_at, origin_in, overlay, whole_span, span_of}
use Rattle.lab_image.specs.Loads.{covers, told_by, told_in, Load, Tells, Fronts, Appends}
use Rattle.lab_image.proofs.SpanLemmas.{origin_overlay}

pub last_or-append : {A : Type 0} (o : Option A) (xs ys : List A)
    → last_or o (xs ++ ys) ≡ last_or (last_or o xs) ys
last_or-append o [] ys = refl
last_or-append o (x ∷ xs) ys = last_or-append (Some x) xs ys

-- one row behind the others
pub tells_more : (source : ℕ) (xs ys : List Row) (old middle new : List Span) → Tells source xs old middle
    → Tells source ys middle new → Tells source (xs ++ ys) old new
tells_more source xs ys old middle new first second a h =
    second a h ∙ ap (λ o. last_or o (filter_map (told_by a source) ys)) (first a h)
    ∙ sym (ap (last_or (origin_in old a)) (filter_map-append (told_by a source) xs ys)
    ∙ last_or-append (origin_in old a) (filter_map (told_by a source) xs) (filter_map (told_by a source) ys))

-- one more row of a slice
pub tells_next : (source : ℕ) (rows : List Row) (i : ℕ) (d : Row) (old middle new : List Span)
    → i < length rows
    → Tells source (take i rows) old middle → Tells source (slice_index_or rows i d ∷ []) middle new
    → Tells source (take (i + 1) rows) old new
tells_next source rows i d old middle new h first second =
    let P : List Row → Type 0 = λ xs. Tells source xs old new in
    subst P (sym (take_more rows i d h)) (tells_more source (take i rows) (slice_index_or rows i d ∷ []) old
    middle new first second)

last_or_none : {A : Type 0} (x : A) (xs : List A) (o : Option A)
    → last_or (Some x) xs ≡ option_or (last_or (Some x) xs) o
last_or_none x [] o = refl
last_or_none x (y ∷ ys) o = last_or_none y ys o

last_or_other : {A : Type 0} (xs : List A) (o : Option A) → last_or o xs ≡ option_or (last_or None xs) o
last_or_other [] o = refl
last_or_other (x ∷ xs) o = last_or_none x xs o

-- what rows tell alone, put over what was there
pub tells_over : (source : ℕ) (rows : List Row) (old own : List Span) → AreSpans 0 own 65536
    → Tells source rows [] own → Tells source rows old (overlay 0 old own)
tells_over source rows old own are tells a h =
    origin_overlay 0 old own a are (omega arith) h ∙ ap (λ o. option_or o (origin_in old a)) (tells a h)
    ∙ sym (last_or_other (filter_map (told_by a source) rows) (origin_in old a))

last_of_one : {A : Type 0} (b : Bool) (x : A)
    → last_or None (cons_option (cond b (Some x) None) []) ≡ cond b (Some x) None
last_of_one true x = refl
last_of_one false x = refl

-- the span of a row tells what the row does
tells_alone : (source : ℕ) (row : Row) → Tells source (row ∷ []) [] (whole_span source row ∷ [])
tells_alone source row a h =
    let same : lies_in (whole_span source row) a ≡ covers row a = grind (arith, nat_tests) in
    rw same (sym (last_of_one (covers row a) (origin_at (whole_span source row) a)))

some_is : {A : Type 0} (b : Bool) (x y : A) → cond b None (Some x) ≡ Some y → x ≡ y
some_is true x y e = cc
some_is false x y e = cc

pub tells_span : (source : ℕ) (row : Row) (old : List Span) (r : Span) → Some r ≡ span_of source row
    → AreSpans 0 (r ∷ []) 65536
    → Tells source (row ∷ []) old (overlay 0 old (r ∷ []))
tells_span source row old r e are =
    let is : whole_span source row ≡ r = some_is (row.length == 0) (whole_span source row) r (sym e) in
    let P : Span → Type 0 = λ x. Tells source (row ∷ []) [] (x ∷ []) in
    tells_over source (row ∷ []) old (r ∷ []) are (subst P is (tells_alone source row))

told-append : (loads : List Load) (load : Load) (a : ℕ)
    → flat_map (told_in a) (loads ++ load ∷ []) ≡ flat_map (told_in a) loads ++ told_in a load
told-append loads load a =
    flat_map-append (told_in a) loads (load ∷ []) ∙ ap (λ xs. flat_map (told_in a) loads ++ xs)
    (append-nil (told_in a load))

-- what the rows of a load tell is that load, behind those before
pub appends_load : (load : Load) (old new : List Span) → Tells load.source load.rows old new
    → Appends load old new
appends_load load old new tells loads represents a h =
    tells a h ∙ ap (λ o. last_or o (told_in a load)) (represents a h)
    ∙ sym (ap (last_or None) (told-append loads load a)
    ∙ last_or-append None (flat_map (told_in a) loads) (told_in a load))

-- the rows in order and the next one are in front
pub fronts_one : (source : ℕ) (rows later : List Row) (i : ℕ) (row : Row) (old middle new : List Span)
    → rows ≡ take i rows ++ row ∷ later
    → Tells source (take i rows) old middle → Tells source (row ∷ []) middle new → AreSpans 0 new 65536
    → Fronts source rows later old new
fronts_one source rows later i row old middle new e told one are = record {
  done = take i rows ++ row ∷ [];
  whole = rw append_assoc e;
  told = tells_more source (take i rows) (row ∷ []) old middle new told one;
  sorted = are;
  fewer = λ h. omega (arith, ap length e, length-append (take i rows) (row ∷ later));
}

-- all rows came in order
pub fronts_all : (source : ℕ) (rows later : List Row) (i : ℕ) (old new : List Span)
    → rows ≡ take i rows ++ later → length later ≡ 0
    → Tells source (take i rows) old new → AreSpans 0 new 65536 → Fronts source rows later old new
fronts_all source rows later i old new e none told are = record {
  done = take i rows;
  whole = e;
  told = told;
  sorted = are;
  fewer = λ h. absurd (omega arith);
}

-- where none is later, all are told
pub tells_front : (source : ℕ) (rows later : List Row) (old new : List Span)
    → Fronts source rows later old new → length later ≡ 0 → Tells source rows old new
tells_front source rows [] old new front none =
    subst (λ xs. Tells source xs old new) (sym (front.whole ∙ append-nil front.done)) front.told
tells_front source rows (row ∷ later) old new front none = absurd (omega arith)

-- Rows are told by those in front, and two parts of the others, each over what was there.
pub tells_halves : (source : ℕ) (rows later first second : List Row) (old front a b : List Span)
    → Fronts source rows later old front → later ≡ first ++ second
    → AreSpans 0 a 65536 → Tells source first [] a → AreSpans 0 b 65536 → Tells source second [] b
    → Tells source rows old (overlay 0 (overlay 0 front a) b)
tells_halves source rows later first second old front a b in_front e are h are' h' =
    let over = overlay 0 (overlay 0 front a) b in
    let one = tells_over source first front a are h in
    let other = tells_over source second (overlay 0 front a) b are' h' in
    let both = tells_more source first second front (overlay 0 front a) over one other in
    let all = tells_more source in_front.done (first ++ second) old front over in_front.told both in
    let P : List Row → Type 0 = λ xs. Tells source xs old over in
    subst P (sym (in_front.whole ∙ ap (λ (xs : List Row). in_front.done ++ xs) e)) all
