-- What is known of a cell once it was built: that no fault stands, or which fault comes first.
use Rattle.std.proofs.Common.{◌≡◌, ◌↔◌, ◌+◌, ◌≤◌, ◌⊎◌, inl, inr, List, [], ◌∷◌, ◌++◌, length}
use Rattle.std.proofs.Common.{refl, sym, ap, ◌∙◌, subst, arith, Result, Ok, Err}
use Rattle.std.proofs.lemmas.Bool.{false≢true}
use Rattle.asm_syntax.specs.declared.statement.Statement.{Statement}
use Rattle.asm_syntax.specs.Outcome.{Fault, CellFault, ◌>>=◌, at_line}
use Rattle.asm_syntax.proofs.FirstFaults.{one_first}
use Rattle.asm_build.specs.declared.laid.Laid.{Laid}
use Rattle.asm_build.specs.Reading.{Entries, Lines, IsReading, late_value}
use Rattle.asm_build.specs.Layout.{layout}
use Rattle.asm_build.specs.Meaning.{Output, Meaning, with_line, output_of, symbols_after, meaning_of}
use Rattle.asm_build.specs.Meaning.{built_of}
use Rattle.asm_build.specs.Refusals.{Part, StandsOn, LayoutFault, ValueFault, rank, NoneStands}
use Rattle.asm_build.specs.Refusals.{IsFirst, IsFaultOf, IsFaultless}
use Rattle.asm_build.proofs.ReadingLemmas.{one_reading, found, only}
use Rattle.asm_build.specs.Cells.{CellGives}
use Rattle.asm_laws.proofs.LayoutRounds.{Next, on_line, LayoutVerdict, layout_judged}
use Rattle.asm_laws.proofs.ByteFaults.{GivenBy, IsImageOf, LineVerdict, line_judged}

-- ---- the value round, line by line

-- a fault of the values stands on one of these lines
Among : Entries → Lines → Lines → Part → CellFault → Type 0
Among kept all [] part f = ⊥
Among kept all (p ∷ ps) part f =
    ((f.0 ≡ length ps + 1) × StandsOn kept all ps p part (f.1, f.2)) ⊎ Among kept all ps part f

-- what the split form says of it
abbrev Split : Entries → Lines → Lines → Part → CellFault → Type 0
Split kept all ps part f =
    (after : Lines) × (p : Statement × Laid) × (earlier : Lines)
    × (ps ≡ after ++ (p ∷ earlier)) × (f.0 ≡ length earlier + 1)
    × StandsOn kept all earlier p part (f.1, f.2)

out_of : (ps : Lines) (kept : Entries) (all : Lines) (part : Part) (f : CellFault) → Among kept all ps part f
    → Split kept all ps part f
unfolding Among
out_of [] kept all part f h = absurd h
out_of (p ∷ ps) kept all part f (inl x) = ([], p, ps, refl, x.0, x.1)
out_of (p ∷ ps) kept all part f (inr x) =
    let m = out_of ps kept all part f x in
    (p ∷ m.0, m.1, m.2, ap (λ (qs : Lines). p ∷ qs) m.3, m.4, m.5)

into : (after : Lines) (kept : Entries) (all : Lines) (p : Statement × Laid) (earlier : Lines) (part : Part)
    (f : CellFault) → f.0 ≡ length earlier + 1 → StandsOn kept all earlier p part (f.1, f.2)
    → Among kept all (after ++ (p ∷ earlier)) part f
unfolding Among
into [] kept all p earlier part f at represents = inl (at, represents)
into (q ∷ after) kept all p earlier part f at represents =
    inr (into after kept all p earlier part f at represents)

among_line : (ps : Lines) (kept : Entries) (all : Lines) (part : Part) (f : CellFault)
    → Among kept all ps part f → f.0 ≤ length ps
unfolding Among
among_line [] kept all part f h = absurd h
among_line (p ∷ ps) kept all part f (inl x) = let at = x.0 in omega (arith, at)
among_line (p ∷ ps) kept all part f (inr x) =
    let more = among_line ps kept all part f x in omega (arith, more)

abbrev RoundVerdict : Entries → Lines → Lines → Result Output CellFault → Type 0
RoundVerdict kept all ps (Ok out) = IsImageOf out.image ps × NoneStands (Among kept all ps)
RoundVerdict kept all ps (Err f) = IsFirst (Among kept all ps) f

goes_on : (kept : Entries) (all : Lines) (p : Statement × Laid) (ps : Lines)
    → NoneStands (Among kept all ps) → (r : Result Output Fault) → LineVerdict kept all ps p r
    → RoundVerdict kept all (p ∷ ps) (at_line (length ps + 1) r)
unfolding Among
goes_on kept all p ps before (Ok out) v = (v.0, none)
  where
    none : (part : Part) (g : CellFault) → Among kept all (p ∷ ps) part g → ⊥
    none part g (inl x) = v.1 part (g.1, g.2) x.1
    none part g (inr x) = before part g x
goes_on kept all p ps before (Err f) v = (v.0, inl (refl, v.1), after)
  where
    after : (other : Part) (g : CellFault) → Among kept all (p ∷ ps) other g
        → Next v.0 (length ps + 1, f.0, f.1) other g
    after other g (inl x) = on_line (length ps + 1) v.0 f other g x.0 (v.2 other (g.1, g.2) x.1)
    after other g (inr x) = absurd (before other g x)

stopped : (kept : Entries) (all : Lines) (p : Statement × Laid) (ps : Lines) (f : CellFault)
    → IsFirst (Among kept all ps) f → IsFirst (Among kept all (p ∷ ps)) f
unfolding Among
stopped kept all p ps f v = (v.0, inr v.1, after)
  where
    after : (other : Part) (g : CellFault) → Among kept all (p ∷ ps) other g → Next v.0 f other g
    after other g (inl x) =
        let at = x.0 in
        let before = among_line ps kept all v.0 f v.1 in
        inr (inl (omega (arith, at, before)))
    after other g (inr x) = v.2 other g x

nothing_yet : IsImageOf [] []
unfolding GivenBy
nothing_yet a = (λ h. false≢true h, λ x. absurd x)

all_valued : (ps : Lines) (kept : Entries) (all : Lines) → RoundVerdict kept all ps (output_of kept all ps)
unfolding output_of Among
all_valued [] kept all = (nothing_yet, λ part g h. h)
all_valued (p ∷ ps) kept all = by (output_of kept all ps) (all_valued ps kept all)
  where
    by : (r : Result Output CellFault) → RoundVerdict kept all ps r
        → RoundVerdict kept all (p ∷ ps)
        (r >>= λ out. at_line (length ps + 1) (with_line (late_value kept all ps) out (length ps + 1) p))
    by (Ok out) v =
        goes_on kept all p ps v.1 (with_line (late_value kept all ps) out (length ps + 1) p)
        (line_judged kept all ps p out (length ps + 1) v.0)
    by (Err f) v = stopped kept all p ps f v

-- ---- the values of a cell

to_fault : (kept : Entries) (ss : List Statement) (all : Lines) → IsReading kept ss all → (part : Part)
    (f : CellFault) → Among kept all all part f → ValueFault kept ss part f
to_fault kept ss all reading part f h =
    let m = out_of all kept all part f h in (all, reading, m.0, m.1, m.2, m.3, m.4, m.5)

of_fault : (kept : Entries) (ss : List Statement) (all : Lines) → IsReading kept ss all → (part : Part)
    (f : CellFault) → ValueFault kept ss part f → Among kept all all part f
of_fault kept ss all reading part f m =
    subst (λ (ps : Lines). Among kept ps ps part f) (one_reading ss kept [] m.0 all m.1 reading)
    (subst (λ (ps : Lines). Among kept m.0 ps part f) (sym m.5)
    (into m.2 kept m.0 m.3 m.4 part f m.6 m.7))

abbrev CellVerdict : Entries → List Statement → Result Meaning CellFault → Type 0
CellVerdict kept ss (Ok m) = IsFaultless kept ss
CellVerdict kept ss (Err f) = IsFaultOf kept ss f

valued : (kept : Entries) (ss : List Statement) (all : Lines) → IsReading kept ss all
    → NoneStands (LayoutFault kept ss) → (r : Result Output CellFault) → RoundVerdict kept all all r
    → CellVerdict kept ss (r >>= λ out. Ok (record { output = out; symbols = symbols_after kept all }))
valued kept ss all reading laid (Ok out) v =
    (laid, λ part f h. v.1 part f (of_fault kept ss all reading part f h))
valued kept ss all reading laid (Err f) v =
    inr (
      laid,
      (
        v.0,
        to_fault kept ss all reading v.0 f v.1,
        λ other g h. v.2 other g (of_fault kept ss all reading other g h),
      ),
    )

cell_judged : (kept : Entries) (ss : List Statement) → CellVerdict kept ss (built_of kept ss)
cell_judged kept ss = by (layout kept [] ss) (layout_judged kept ss)
  where
    by : (r : Result Lines CellFault) → LayoutVerdict kept ss r
        → CellVerdict kept ss (r >>= λ all. meaning_of kept all)
    by (Ok all) v = valued kept ss all v.0 v.1 (output_of kept all all) (all_valued all kept all)
    by (Err f) v = inl v

-- ---- the laws

same_first : (represents : Part → CellFault → Type 0) (f g : CellFault) → IsFirst represents f
    → IsFirst represents g
    → f ≡ g
same_first represents f g a b =
    one_first f g (f.0 ∷ rank a.0 f.2) (g.0 ∷ rank b.0 g.2) (a.2 b.0 g b.1) (b.2 a.0 f a.1)

one_fault : (kept : Entries) (ss : List Statement) (f g : CellFault) → IsFaultOf kept ss f
    → IsFaultOf kept ss g → f ≡ g
one_fault kept ss f g (inl a) (inl b) = same_first (LayoutFault kept ss) f g a b
one_fault kept ss f g (inl a) (inr b) = absurd (b.0 a.0 f a.1)
one_fault kept ss f g (inr a) (inl b) = absurd (a.0 b.0 g b.1)
one_fault kept ss f g (inr a) (inr b) = same_first (ValueFault kept ss) f g a.1 b.1

no_fault : (kept : Entries) (ss : List Statement) (f : CellFault) → IsFaultless kept ss
    → IsFaultOf kept ss f → ⊥
no_fault kept ss f none (inl a) = none.0 a.0 f a.1
no_fault kept ss f none (inr a) = none.1 a.1.0 f a.1.1

pub gives : (kept : Entries) (ss : List Statement)
    → ((m : Meaning) × (built_of kept ss ≡ Ok m)) ↔ IsFaultless kept ss
gives kept ss = (
  λ m. subst (CellVerdict kept ss) m.1 (cell_judged kept ss),
  λ none. by none (built_of kept ss) refl (cell_judged kept ss),
)
  where
    by : IsFaultless kept ss → (r : Result Meaning CellFault) → built_of kept ss ≡ r
        → CellVerdict kept ss r → (m : Meaning) × (built_of kept ss ≡ Ok m)
    by none (Ok m) is v = (m, is)
    by none (Err f) is v = absurd (no_fault kept ss f none v)

pub faulted : (kept : Entries) (ss : List Statement) (f : CellFault)
    → (built_of kept ss ≡ Err f) ↔ IsFaultOf kept ss f
faulted kept ss f = (
  λ is. subst (CellVerdict kept ss) is (cell_judged kept ss),
  λ first. by first (built_of kept ss) refl (cell_judged kept ss),
)
  where
    by : IsFaultOf kept ss f → (r : Result Meaning CellFault) → built_of kept ss ≡ r → CellVerdict kept ss r
        → built_of kept ss ≡ Err f
    by first (Ok m) is v = absurd (no_fault kept ss f v first)
    by first (Err g) is v = is ∙ ap (λ (h : CellFault). Err h) (one_fault kept ss g f v first)

-- ---- what is given by readings, as one relation

pub judged_so : (kept : Entries) (ss : List Statement) (r : Result Meaning CellFault) → built_of kept ss ≡ r
    → CellGives kept ss r
judged_so kept ss (Ok m) is = record {
  faultless = (gives kept ss).0 (m, is);
  found = found kept ss m is;
  only = only kept ss m is;
}
judged_so kept ss (Err f) is = (faulted kept ss f).0 is

so_judged : (kept : Entries) (ss : List Statement) (r : Result Meaning CellFault) → CellGives kept ss r
    → built_of kept ss ≡ r
so_judged kept ss (Ok m) so =
    let built = (gives kept ss).1 so.faultless in
    let one = so.found in
    built.1 ∙ sym (only kept ss built.0 built.1 one.0 one.1) ∙ one.2
so_judged kept ss (Err f) so = (faulted kept ss f).1 so

pub judged : (kept : Entries) (ss : List Statement) (r : Result Meaning CellFault)
    → (built_of kept ss ≡ r) ↔ CellGives kept ss r
judged kept ss r = (judged_so kept ss r, so_judged kept ss r)
