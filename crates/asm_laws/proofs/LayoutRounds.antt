-- What is known of statements once they were laid out: their lines, or which fault comes first.
use Rattle.std.proofs.Common.{◌≡◌, ℕ, ◌+◌, ◌<◌, ◌⊎◌, inl, inr, List, [], ◌∷◌, ◌++◌, length}
use Rattle.std.proofs.Common.{refl, sym, ap, ◌∙◌, subst, arith, Result, Ok, Err}
use Rattle.asm_syntax.specs.declared.statement.Statement.{Statement}
use Rattle.asm_syntax.specs.Outcome.{Fault, CellFault, ComesBefore, ◌>>=◌, at_line}
use Rattle.asm_build.specs.declared.laid.Laid.{Laid}
use Rattle.asm_build.specs.Reading.{Entries, Lines, Fits, LaysOut, IsReading}
use Rattle.asm_build.specs.Layout.{laid_after, layout}
use Rattle.asm_build.specs.Refusals.{Part, StandsAfter, LayoutFault, rank, NoneStands, IsFirst}
use Rattle.asm_build.proofs.ReadingLemmas.{one_row}
use Rattle.asm_laws.proofs.DefinitionFaults.{Follows}
use Rattle.asm_laws.proofs.LayoutFaults.{StatementVerdict, statement_judged}

-- ---- statement by statement

-- a fault of the layout stands on one of these statements after these lines
From : Entries → Lines → List Statement → Part → CellFault → Type 0
From kept earlier [] part f = ⊥
From kept earlier (s ∷ ss) part f =
    ((f.0 ≡ length earlier + 1) × StandsAfter kept earlier s part (f.1, f.2))
    ⊎ ((r : Laid) × Fits kept earlier s r × From kept ((s, r) ∷ earlier) ss part f)

-- what the split form says of it
abbrev Split : Entries → Lines → List Statement → Part → CellFault → Type 0
Split kept earlier ss part f =
    (before : List Statement) × (s : Statement) × (after : List Statement)
    × (ss ≡ before ++ (s ∷ after)) × (upto : Lines) × (f.0 ≡ length upto + 1)
    × LaysOut kept earlier before upto × StandsAfter kept upto s part (f.1, f.2)

reads_length : (ss : List Statement) (kept : Entries) (earlier all : Lines) → LaysOut kept earlier ss all
    → length all ≡ length ss + length earlier
reads_length [] kept earlier all h = let e = ap length h in omega (arith, e)
reads_length (s ∷ ss) kept earlier all h =
    let more = reads_length ss kept ((s, h.0) ∷ earlier) all h.2 in omega (arith, more)

into : (before : List Statement) (kept : Entries) (earlier upto : Lines) (s : Statement)
    (after : List Statement) (part : Part) (f : CellFault) → LaysOut kept earlier before upto
    → f.0 ≡ length upto + 1 → StandsAfter kept upto s part (f.1, f.2)
    → From kept earlier (before ++ (s ∷ after)) part f
unfolding From
into [] kept earlier upto s after part f h at represents =
    inl (
      at ∙ ap (λ (ps : Lines). length ps + 1) h,
      subst (λ (ps : Lines). StandsAfter kept ps s part (f.1, f.2)) h represents,
    )
into (t ∷ before) kept earlier upto s after part f h at represents =
    inr (h.0, h.1, into before kept ((t, h.0) ∷ earlier) upto s after part f h.2 at represents)

out_of : (ss : List Statement) (kept : Entries) (earlier : Lines) (part : Part) (f : CellFault)
    → From kept earlier ss part f → Split kept earlier ss part f
unfolding From
out_of [] kept earlier part f h = absurd h
out_of (s ∷ ss) kept earlier part f (inl x) = ([], s, ss, refl, earlier, x.0, refl, x.1)
out_of (s ∷ ss) kept earlier part f (inr x) =
    let m = out_of ss kept ((s, x.0) ∷ earlier) part f x.2 in (
      s ∷ m.0,
      m.1,
      m.2,
      ap (λ (ts : List Statement). s ∷ ts) m.3,
      m.4,
      m.5,
      (x.0, x.1, m.6),
      m.7,
    )

from_line : (ss : List Statement) (kept : Entries) (earlier : Lines) (part : Part) (f : CellFault)
    → From kept earlier ss part f → length earlier < f.0
unfolding From
from_line [] kept earlier part f h = absurd h
from_line (s ∷ ss) kept earlier part f (inl x) = let at = x.0 in omega (arith, at)
from_line (s ∷ ss) kept earlier part f (inr x) =
    let more = from_line ss kept ((s, x.0) ∷ earlier) part f x.2 in omega (arith, more)

-- ---- the round

abbrev RoundVerdict : Entries → Lines → List Statement → Result Lines CellFault → Type 0
RoundVerdict kept earlier ss (Ok all) = LaysOut kept earlier ss all × NoneStands (From kept earlier ss)
RoundVerdict kept earlier ss (Err f) = IsFirst (From kept earlier ss) f

-- what follows a fault of a line
abbrev pub Next : Part → CellFault → Part → CellFault → Type 0
Next part f other g = (g ≡ f) ⊎ ComesBefore (f.0 ∷ rank part f.2) (g.0 ∷ rank other g.2)

pub on_line : (n : ℕ) (part : Part) (f : Fault) (other : Part) (g : CellFault) → g.0 ≡ n
    → Follows part f other (g.1, g.2) → Next part (n, f.0, f.1) other g
on_line n part f other g at (inl e) =
    inl (ap (λ (m : ℕ). (m, g.1, g.2)) at ∙ ap (λ (h : Fault). (n, h.0, h.1)) e)
on_line n part f other g at (inr c) = inr (inr (sym at, c))

stopped : (kept : Entries) (earlier : Lines) (s : Statement) (ss : List Statement) (f : Fault)
    → StatementVerdict kept earlier s (Err f)
    → RoundVerdict kept earlier (s ∷ ss) (Err (length earlier + 1, f.0, f.1))
unfolding From
stopped kept earlier s ss f v = (v.0, inl (refl, v.1), after)
  where
    after : (other : Part) (g : CellFault) → From kept earlier (s ∷ ss) other g
        → Next v.0 (length earlier + 1, f.0, f.1) other g
    after other g (inl x) = on_line (length earlier + 1) v.0 f other g x.0 (v.2 other (g.1, g.2) x.1)
    after other g (inr x) =
        let more = from_line ss kept ((s, x.0) ∷ earlier) other g x.2 in inr (inl (omega (arith, more)))

goes_on : (kept : Entries) (earlier : Lines) (s : Statement) (ss : List Statement) (q : Laid)
    → StatementVerdict kept earlier s (Ok q) → (r : Result Lines CellFault)
    → RoundVerdict kept ((s, q) ∷ earlier) ss r → RoundVerdict kept earlier (s ∷ ss) r
unfolding From
goes_on kept earlier s ss q v (Ok all) m = ((q, v.0, m.0), none)
  where
    none : (part : Part) (g : CellFault) → From kept earlier (s ∷ ss) part g → ⊥
    none part g (inl x) = v.1 part (g.1, g.2) x.1
    none part g (inr x) =
        m.1 part g (subst (λ (r : Laid). From kept ((s, r) ∷ earlier) ss part g)
        (one_row kept earlier s x.0 q x.1 v.0) x.2)
goes_on kept earlier s ss q v (Err f) m = (m.0, inr (q, v.0, m.1), after)
  where
    after : (other : Part) (g : CellFault) → From kept earlier (s ∷ ss) other g → Next m.0 f other g
    after other g (inl x) = absurd (v.1 other (g.1, g.2) x.1)
    after other g (inr x) =
        m.2 other g (subst (λ (r : Laid). From kept ((s, r) ∷ earlier) ss other g)
        (one_row kept earlier s x.0 q x.1 v.0) x.2)

all_laid : (ss : List Statement) (kept : Entries) (earlier : Lines)
    → RoundVerdict kept earlier ss (layout kept earlier ss)
unfolding layout From
all_laid [] kept earlier = (refl, λ part f h. h)
all_laid (s ∷ ss) kept earlier =
    by (λ r. all_laid ss kept ((s, r) ∷ earlier)) (laid_after kept earlier s)
    (statement_judged kept earlier s)
  where
    by : ((r : Laid) → RoundVerdict kept ((s, r) ∷ earlier) ss (layout kept ((s, r) ∷ earlier) ss))
        → (o : Result Laid Fault) → StatementVerdict kept earlier s o
        → RoundVerdict kept earlier (s ∷ ss)
        (at_line (length earlier + 1) o >>= λ r. layout kept ((s, r) ∷ earlier) ss)
    by more (Ok q) v = goes_on kept earlier s ss q v (layout kept ((s, q) ∷ earlier) ss) (more q)
    by more (Err f) v = stopped kept earlier s ss f v

-- ---- the layout of a cell

to_fault : (kept : Entries) (ss : List Statement) (part : Part) (f : CellFault) → From kept [] ss part f
    → LayoutFault kept ss part f
to_fault kept ss part f h =
    let m = out_of ss kept [] part f h in
    let long = reads_length m.0 kept [] m.4 m.6 in
    let at = m.5 in
    (m.0, m.1, m.2, m.3, omega (arith, long, at), m.4, m.6, m.7)

of_fault : (kept : Entries) (ss : List Statement) (part : Part) (f : CellFault)
    → LayoutFault kept ss part f → From kept [] ss part f
of_fault kept ss part f m =
    let long = reads_length m.0 kept [] m.5 m.6 in
    let at = m.4 in
    subst (λ (ts : List Statement). From kept [] ts part f) (sym m.3)
    (into m.0 kept [] m.5 m.1 m.2 part f m.6 (omega (arith, long, at)) m.7)

abbrev pub LayoutVerdict : Entries → List Statement → Result Lines CellFault → Type 0
LayoutVerdict kept ss (Ok all) = IsReading kept ss all × NoneStands (LayoutFault kept ss)
LayoutVerdict kept ss (Err f) = IsFirst (LayoutFault kept ss) f

pub layout_judged : (kept : Entries) (ss : List Statement) → LayoutVerdict kept ss (layout kept [] ss)
layout_judged kept ss = by (layout kept [] ss) (all_laid ss kept [])
  where
    by : (r : Result Lines CellFault) → RoundVerdict kept [] ss r → LayoutVerdict kept ss r
    by (Ok all) v = (v.0, λ part f h. v.1 part f (of_fault kept ss part f h))
    by (Err f) v = (
      v.0,
      to_fault kept ss v.0 f v.1,
      λ other g h. v.2 other g (of_fault kept ss other g h),
    )
