-- Which breakpoints at instructions are met.
use Rattle.std.proofs.Common.{◌≡◌, ◌+◌, ℕ, List, refl, sym, ap, ◌∙◌}
use Rattle.std.proofs.Common.{Bool, true, false, if◌then◌else◌, Option, Some, None}
use Rattle.std.proofs.lemmas.Option.{slice_get-get_or, slice_get_within, get_or_from_slice_get}
use Rattle.std.specs.Prelude.{slice_get}
use Rattle.std.specs.List.{Contains}
use Rattle.lab_core.specs.Board.{Board}
use Rattle.dap_slice.specs.declared.conditions.ConditionalBreakpoint.{ConditionalBreakpoint}
use Rattle.dap_slice.specs.declared.conditions.Trigger.TheVariants.{Address}
use Rattle.dap_messages.specs.declared.message.BreakpointNote.{BreakpointNote}
use Rattle.dap_messages.specs.declared.message.PlacedBreakpoint.{PlacedBreakpoint}
use Rattle.dap_requests.specs.declared.request.InstructionBreakpoint.{InstructionBreakpoint}
use Rattle.dap_points.specs.declared.placed.CheckedInstruction.{CheckedInstruction}
use Rattle.dap_points.specs.Placed.{id_at, met_where, instruction_point_unless, instruction_point}
use Rattle.dap_conditions.specs.Conditions.{objection, stop_at}
use Rattle.dap_breakpoints.specs.Instructions.{address_objection, instruction_objection, checked_instruction}
use Rattle.dap_breakpoints.specs.Instructions.{instructions_on, break_at, break_of, breaks_on}
use Rattle.dap_breakpoints.specs.Laws.{IsToldAs, HoldsOfVerified, HoldsOfEachVerified, IsMetAsTold, IsBreakOf}
use Rattle.dap_breakpoints.proofs.ToldLemmas.{in_all, from_all, told_is, asked_at, Stops, stops_if}

-- ---- a verified one

fine_if : (o : Option BreakpointNote) (id : ℕ) (c : CheckedInstruction)
    → (instruction_point_unless o id c).is_verified ≡ true → o ≡ None
fine_if (Some why) id c is = absurd cc
fine_if None id c is = refl

address_if : (b : Board) (i : InstructionBreakpoint) (found : Option ℕ) → address_objection b i found ≡ None
    → (address : ℕ) × (found ≡ Some address) × (objection b i.options i.has_texts ≡ None)
address_if b i None none = absurd cc
address_if b i (Some address) none = (address, refl, none)

point_is : (b : Board) (index : ℕ) (i : InstructionBreakpoint) (address : ℕ)
    → instruction_objection b i ≡ None → i.address ≡ Some address
    → instruction_point index (checked_instruction b i)
    ≡ met_where (id_at 1026 index) (Some address) i.options
point_is b index i address none is = rw (none, is) refl

-- where it is met, as an editor is told, and by what
record IsMet (i : InstructionBreakpoint) (p : PlacedBreakpoint) : Type 0 where
  address : ℕ
  address_is : i.address ≡ Some address
  told : p.address ≡ Some address
  stops : Stops i.options
  break : break_of p ≡ Some (stop_at p.id (Address address) stops.condition stops.hits)

met_by : (i : InstructionBreakpoint) (p : PlacedBreakpoint) (address : ℕ) (stops : Stops i.options)
    → i.address ≡ Some address → p.is_verified ≡ true → p.address ≡ Some address → p.options ≡ i.options
    → IsMet i p
met_by i p address stops address_is is told options = record {
  address = address;
  address_is = address_is;
  told = told;
  stops = stops;
  break = rw (is, told, options) (stops.stop p.id (Address address));
}

met_if : (b : Board) (asked : List InstructionBreakpoint) (i : InstructionBreakpoint) (p : PlacedBreakpoint)
    → IsToldAs asked (instructions_on b asked) i p → p.is_verified ≡ true → IsMet i p
met_if b asked i p told is =
    let same = told_is instruction_point (checked_instruction b) asked i p told in
    let verified : (instruction_point (0 + told.index) (checked_instruction b i)).is_verified ≡ true =
    rw same is in
    let none = fine_if (instruction_objection b i) (id_at 1026 (0 + told.index)) (checked_instruction b i)
    verified in
    let at = address_if b i i.address none in
    let point = sym same ∙ point_is b (0 + told.index) i at.0 none at.1 in
    met_by i p at.0 (stops_if b i.options i.has_texts at.2) at.1 is
    (ap (λ (p : PlacedBreakpoint). p.address) point) (ap (λ (p : PlacedBreakpoint). p.options) point)

verified_if : (is : Bool) (given : Option ConditionalBreakpoint) (w : ConditionalBreakpoint)
    → (if is then given else None) ≡ Some w → is ≡ true
verified_if true given w gives = refl
verified_if false given w gives = absurd cc

-- ---- the two laws

pub verified_is_met : (b : Board) (asked : List InstructionBreakpoint)
    → HoldsOfEachVerified asked (instructions_on b asked) (IsMetAsTold (breaks_on b asked))
verified_is_met b asked i p told is =
    let this = met_if b asked i p told is in
    let stop = stop_at p.id (Address this.address) this.stops.condition this.stops.hits in
    let ps = instructions_on b asked in
    let has : Contains ps p = (
      told.index,
      slice_get_within ps told.index p told.of_answer,
      get_or_from_slice_get ps told.index p p told.of_answer,
    ) in (
      this.address,
      this.stops.condition,
      this.stops.hits,
      this.address_is,
      this.stops.read,
      this.told,
      in_all break_of ps p stop has this.break,
    )

pub others_are_not : (b : Board) (asked : List InstructionBreakpoint) (w : ConditionalBreakpoint)
    → Contains (breaks_on b asked) w → HoldsOfVerified asked (instructions_on b asked) (IsBreakOf w)
others_are_not b asked w has =
    let ps = instructions_on b asked in
    let one = from_all break_of ps w has in
    let p = one.item in
    let is = verified_if p.is_verified (break_at p p.address) w one.gives in
    let index = one.has.0 in
    let of_answer : slice_get ps index ≡ Some p =
    slice_get-get_or ps index p one.has.1 ∙ ap (λ p. Some p) one.has.2 in
    let of_request = asked_at instruction_point (checked_instruction b) asked 0 index p of_answer in
    let i = of_request.0 in
    let told : IsToldAs asked ps i p =
    record { index = index; of_request = of_request.1; of_answer = of_answer } in
    let this = met_if b asked i p told is in
    let break = this.break in
    let same : w ≡ stop_at p.id (Address this.address) this.stops.condition this.stops.hits =
    cc (one.gives) in (
      i,
      p,
      told,
      is,
      (this.address, this.stops.condition, this.stops.hits, this.address_is, this.stops.read, same),
    )
