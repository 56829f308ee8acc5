-- The relation on events and the function agree.
use Rattle.std.proofs.Common.{◌≡◌, ℕ, zero, suc, ◌+◌, ◌<◌, ◌≤◌, List, [], ◌∷◌, Option, Some, None, Result, Ok}
use Rattle.std.proofs.Common.{Err, refl, sym, ◌∙◌, arith, inl, inr, subst}
use Rattle.std.proofs.lemmas.Bool.{cases_lt}
use borrow.Author.Count.{below_more}
use Rattle.std.specs.Option.{unwrap_or}
use Rattle.lab_core.specs.declared.run_state.RunState.{RunState}
use Rattle.lab_core.specs.declared.run_state.RunState.TheVariants.{NoRun, Running, Stopped}
use Rattle.lab_core.specs.declared.event.Event.{Event}
use Rattle.lab_core.specs.declared.event.Event.TheVariants as event
use Rattle.lab_core.specs.declared.answer.SliceOutcome.{SliceOutcome}
use Rattle.lab_core.specs.declared.answer.SliceOutcome.TheVariants.{More}
use Rattle.lab_core.specs.declared.answer.Answer.{Answer}
use Rattle.lab_core.specs.declared.fault.EventFault.{EventFault}
use Rattle.lab_core.specs.Board.{Board}
use Rattle.lab_core.specs.Slices.{IsSlice, reason, reason_after_step, after_steps}
use Rattle.asm_syntax.specs.declared.statement.Statement.{Statement}
use Rattle.asm_syntax.specs.Outcome.{CellFault, ◌>>=◌}
use Rattle.asm_text.specs.Statements.{statements_of}
use Rattle.asm_laws.proofs.FirstFaults.{text_says, text_faulted}
use Rattle.asm_build.specs.Reading.{Entries}
use Rattle.asm_build.specs.Meaning.{Meaning, built_of}
use Rattle.asm_laws.proofs.CellFaults.{judged}
use Rattle.lab_image.specs.declared.sources.Source.{Source}
use Rattle.lab_core.specs.Cells.{TextGives}
use Rattle.lab_core.specs.SliceEnds.{or_goes_on, slice_from, sliced_at}
use Rattle.lab_core.specs.Events.{EventResult, Gives, SlicesRun, Loads, Applies, Runs, while_running}
use Rattle.lab_core.specs.Events.{without_run}
use Rattle.lab_core.specs.Events.{cell_meaning, loaded_as, result_of}

-- ---- a slice ends where the function says

slice-from : (n : ℕ) (b : Board) (k : ℕ) (e : SliceOutcome) → IsSlice n b k e
    → (more j : ℕ) → j ≤ k → j + more ≡ n → slice_from more j b ≡ (k, e)
unfolding slice_from
slice-from n b k e s zero j le is =
    let within = s.within in
    let all : k ≡ n = omega arith in
    let here : j ≡ n = omega arith in
    rw (here, all, s.last all) refl
slice-from n b k e s (suc more) j le is = elim (cases_lt j k) [
  | inl less ↦ rw (s.none_before j less) (slice-from n b k e s more (j + 1) (omega arith) (omega arith))
  | inr late ↦
      (let here : j ≡ k = omega arith in let below : k < n = omega arith in rw (here, s.early below) refl)
]

-- and conversely
abbrev Ends : ℕ → Board → ℕ × SliceOutcome → Type 0
Ends n b end = IsSlice n b end.0 end.1

-- there is no reason at a count below this
abbrev NoneBelow : Board → ℕ → Type 0
NoneBelow b k = (i : ℕ) → i < k → reason (after_steps i b) ≡ None

ends-all : (n : ℕ) (b : Board) (j : ℕ) → j ≡ n → NoneBelow b j
    → Ends n b (j, unwrap_or (reason_after_step (after_steps j b)) More)
ends-all n b j here none = record {
  within = omega arith;
  none_before = none;
  early = λ below. absurd (omega arith);
  last = λ all. rw here refl;
}

ends-here : (n : ℕ) (b : Board) (j : ℕ) (e : SliceOutcome) → j < n → NoneBelow b j
    → reason (after_steps j b) ≡ Some e → Ends n b (j, e)
ends-here n b j e below none is = record {
  within = omega arith;
  none_before = none;
  early = λ _. is;
  last = λ all. absurd (omega arith);
}

ends-by : (r : Option SliceOutcome) (n : ℕ) (b : Board) (j : ℕ) (on : ℕ × SliceOutcome) → j < n
    → NoneBelow b j
    → reason (after_steps j b) ≡ r → (NoneBelow b (j + 1) → Ends n b on) → Ends n b (or_goes_on r j on)
ends-by (Some e) n b j on below none is goes = ends-here n b j e below none is
ends-by None n b j on below none is goes = goes (below_more (λ i. reason (after_steps i b) ≡ None) j none is)

ends : (n : ℕ) (b : Board) (more j : ℕ) → j + more ≡ n → NoneBelow b j → Ends n b (slice_from more j b)
unfolding slice_from
ends n b zero j is none = ends-all n b j (omega arith) none
ends n b (suc more) j is none =
    ends-by (reason (after_steps j b)) n b j (slice_from more (j + 1) b) (omega arith) none refl
    (ends n b more (j + 1) (omega arith))

-- a slice makes at most n steps
pub slice_within : (n : ℕ) (b : Board) → (slice_from n 0 b).0 ≤ n
slice_within n b = (ends n b n 0 (omega arith) (λ i below. absurd (omega arith))).within

-- ---- a text assembles to the same by its readings and by the function

text-gives : (kept : Entries) (text : List ℕ) → TextGives kept text (cell_meaning kept text)
text-gives kept text = by (statements_of text) refl
  where
    by : (said : Result (List Statement) CellFault) → statements_of text ≡ said
        → TextGives kept text (said >>= λ ss. built_of kept ss)
    by (Ok ss) is = inl (ss, (text_says text ss).0 is, (judged kept ss (built_of kept ss)).0 refl)
    by (Err fault) is = inr (fault, (text_faulted text fault).0 is, refl)

so-assembled : (kept : Entries) (text : List ℕ) (cell : Result Meaning CellFault) → TextGives kept text cell
    → cell_meaning kept text ≡ cell
so-assembled kept text cell (inl x) =
    let said : statements_of text ≡ Ok x.0 = (text_says text x.0).1 x.1 in
    rw said ((judged kept x.0 cell).1 x.2)
so-assembled kept text cell (inr x) =
    let said : statements_of text ≡ Err x.0 = (text_faulted text x.0).1 x.1 in
    rw (said, x.2) refl

-- ---- an event

loads-given : (s : Source) (b new : Board) (reply : Result Answer EventFault) → Loads s b reply new
    → Gives b (without_run b.run (loaded_as (cell_meaning b.symbols s.text) s b)) reply new
loads-given s b new reply h =
    let P : Result Meaning CellFault → Type 0 =
    λ cell. Gives b (without_run b.run (loaded_as cell s b)) reply new in
    subst P (sym (so-assembled b.symbols s.text h.0 h.1)) h.2

given-loads : (s : Source) (b new : Board) (reply : Result Answer EventFault)
    → Gives b (without_run b.run (loaded_as (cell_meaning b.symbols s.text) s b)) reply new
    → Loads s b reply new
given-loads s b new reply h = (cell_meaning b.symbols s.text, text-gives b.symbols s.text, h)

slices-given : (run : RunState) (n : ℕ) (b new : Board) (reply : Result Answer EventFault)
    → SlicesRun run n b reply new
    → Gives b (while_running run (Ok (sliced_at b (slice_from n 0 b)))) reply new
slices-given NoRun n b new reply h = h
slices-given Stopped n b new reply h = h
slices-given Running n b new reply h =
    let end = slice-from n b h.k h.ending h.slice n 0 (omega arith) (omega arith) in
    rw end (h.reply_is, h.board_is)

given-slices : (run : RunState) (n : ℕ) (b new : Board) (reply : Result Answer EventFault)
    → Gives b (while_running run (Ok (sliced_at b (slice_from n 0 b)))) reply new
    → SlicesRun run n b reply new
given-slices NoRun n b new reply h = h
given-slices Stopped n b new reply h = h
given-slices Running n b new reply h = record {
  k = (slice_from n 0 b).0;
  ending = (slice_from n 0 b).1;
  slice = ends n b n 0 (omega arith) (λ i below. absurd (omega arith));
  reply_is = h.0;
  board_is = h.1;
}

-- the relation and the function agree
alike : (b new : Board) (e : Event) (reply : Result Answer EventFault)
    → (Applies b e reply new → Gives b (result_of e b) reply new)
    × (Gives b (result_of e b) reply new → Applies b e reply new)
alike b new (event.Slice n) reply = (slices-given b.run n b new reply, given-slices b.run n b new reply)
alike b new (event.Load path text) reply =
    let s : Source = record { path = path; text = text } in
    (loads-given s b new reply, given-loads s b new reply)
alike b new _ reply = (λ h. h, λ h. h)

pub applies-given : (b new : Board) (e : Event) (reply : Result Answer EventFault) → Applies b e reply new
    → Gives b (result_of e b) reply new
applies-given b new e reply = (alike b new e reply).0

pub given-applies : (b new : Board) (e : Event) (reply : Result Answer EventFault)
    → Gives b (result_of e b) reply new → Applies b e reply new
given-applies b new e reply = (alike b new e reply).1

-- ---- lists of events

gives-once : (b new new' : Board) (g : EventResult) (r r' : Result Answer EventFault) → Gives b g r new
    → Gives b g r' new' → (r ≡ r') × (new ≡ new')
gives-once b new new' (Ok (a, after)) r r' h h' = (h.0 ∙ sym h'.0, h.1 ∙ sym h'.1)
gives-once b new new' (Err e) r r' h h' = (h.0 ∙ sym h'.0, h.1 ∙ sym h'.1)

pub runs_once : (b : Board) (events : List Event) (rs rs' : List (Result Answer EventFault))
    (new new' : Board)
    → Runs b events rs new → Runs b events rs' new' → (rs ≡ rs') × (new ≡ new')
runs_once b [] [] [] new new' g g' = (refl, g ∙ sym g')
runs_once b (e ∷ es) (r ∷ rs) (r' ∷ rs') new new' g g' =
    let first =
    gives-once b g.0 g'.0 (result_of e b) r r' (applies-given b g.0 e r g.1)
    (applies-given b g'.0 e r' g'.1) in
    let P : Board → Type 0 = λ mid. Runs mid es rs' new' in
    let rest = runs_once g.0 es rs rs' new new' g.2 (subst P (sym first.1) g'.2) in
    (rw (first.0, rest.0) refl, rest.1)
runs_once b [] (r ∷ rs) rs' new new' g g' = absurd g
runs_once b [] [] (r' ∷ rs') new new' g g' = absurd g'
runs_once b (e ∷ es) [] rs' new new' g g' = absurd g
runs_once b (e ∷ es) (r ∷ rs) [] new new' g g' = absurd g'
