-- Steps made in several parts.
use Rattle.std.proofs.Common.{◌≡◌, ℕ, zero, suc, ◌+◌, ◌-◌, ◌<◌, ◌≤◌, List, [], ◌++◌, Option, Some, None, Bool}
use Rattle.std.proofs.Common.{refl, sym, ap, ◌∙◌, subst, append_assoc, append-nil, arith, inl, inr, true}
use Rattle.std.proofs.Common.{false, ◌&&◌, if◌then◌else◌}
use Rattle.std.specs.Option.{is_none}
use Rattle.i80_base.specs.Rows.{is_undefined}
use Rattle.i80_base.specs.AliasRows.{row_on}
use Rattle.std.proofs.lemmas.Bool.{cases_lt}
use Rattle.std.specs.Option.{option_or, IfSome}
use Rattle.i80_base.specs.declared.ports.PortOperation.{PortOperation}
use Rattle.i80_exec.specs.State.{MachineState, byte_at}
use Rattle.i80_exec.specs.Step.{operation_list}
use Rattle.lab_core.specs.declared.answer.SliceOutcome.{SliceOutcome}
use Rattle.lab_core.specs.declared.lab.Context.{Context}
use Rattle.lab_core.specs.Board.{Board, next_change, after_next_step}
use Rattle.lab_core.specs.Slices.{after_steps, traffic_of, reason, reason_before_fetch, reason_after_step}
use Rattle.lab_core.specs.Slices.{waiting, end_by_undefined}
use Rattle.lab_core.specs.Labs.{LabState, RepresentsDuringSlice, Makes, MakesAtMost, OneStepOnIn, ComputesIn}
use Rattle.lab_core.specs.Labs.{SameBoardIn, in_slice, undefined_end}
use Rattle.lab_frames.specs.Steps.{acceptance_due}
use Rattle.lab_core.specs.Labs.{KeepsAsked, Watches}
use Rattle.lab_core.proofs.QuietLemmas.{or_or}

pub after_more : (j k : ℕ) (b : Board) → after_steps (j + k) b ≡ after_steps j (after_steps k b)
after_more zero k b = let none : 0 + k ≡ k = omega arith in rw none refl
after_more (suc j) k b =
    let more : suc j + k ≡ suc (j + k) = omega arith in
    rw more (ap after_next_step (after_more j k b))

pub traffic_more : (j k : ℕ) (b : Board)
    → traffic_of k b ++ traffic_of j (after_steps k b) ≡ traffic_of (j + k) b
traffic_more zero k b = let none : 0 + k ≡ k = omega arith in rw none (append-nil (traffic_of k b))
traffic_more (suc j) k b =
    let more : suc j + k ≡ suc (j + k) = omega arith in
    sym (append_assoc (traffic_of k b) (traffic_of j (after_steps k b))
    (operation_list (next_change (after_steps j (after_steps k b))).operation))
    ∙ rw (traffic_more j k b, ← after_more j k b, more) refl

-- a reason is one known before the fetch, or an undefined opcode
pub reason_parts : (b : Board) → reason b ≡ option_or (reason_before_fetch b) (end_by_undefined b)
reason_parts b = or_or (reason_after_step b) (waiting b) (end_by_undefined b)

pub no_reason : (b : Board) → None ≡ reason_before_fetch b → None ≡ end_by_undefined b → reason b ≡ None
no_reason b apart none = reason_parts b ∙ rw (← apart, ← none) refl

pub reason_undefined : (b : Board) (o : SliceOutcome) → None ≡ reason_before_fetch b
    → Some o ≡ end_by_undefined b
    → reason b ≡ Some o
reason_undefined b o apart is = reason_parts b ∙ rw (← apart, ← is) refl

pub reason_stands : (b : Board) (o : SliceOutcome) → Some o ≡ reason_before_fetch b → reason b ≡ Some o
reason_stands b o is = reason_parts b ∙ rw (← is) refl

-- for each count up to `made`
before : (made : ℕ) (b : Board) (j : ℕ) → (j < made → reason (after_steps j b) ≡ None)
    → reason (after_steps made b) ≡ None → j < suc made → reason (after_steps j b) ≡ None
before made b j earlier last below = elim (cases_lt j made) [
  | inl less ↦ earlier less
  | inr more ↦ (let same : j ≡ made = omega arith in rw same last)
]

-- no step
pub makes_none : (lab : LabState) (b : Board) (traffic : List PortOperation)
    → RepresentsDuringSlice lab b traffic
    → Makes 0 None b traffic lab
makes_none lab b traffic s =
    let T : List PortOperation → Type 0 = λ all. RepresentsDuringSlice lab b all in
    record {
      represents = subst T (sym (append-nil traffic)) s;
      none_before = λ j below. absurd (omega arith);
      found_is = tt;
    }

-- one more step, with no reason before it
pub makes_more : (made : ℕ) (b : Board) (traffic : List PortOperation) (lab : LabState)
    (machine : MachineState) (context : Context) (machine' : MachineState) (context' : Context)
    → Makes made None b traffic (in_slice lab machine context)
    → ComputesIn reason_before_fetch None machine context → ComputesIn end_by_undefined None machine context
    → OneStepOnIn machine context machine' context'
    → Makes (made + 1) None b traffic (in_slice lab machine' context')
makes_more made b traffic lab machine context machine' context' m free defined advances =
    let now = after_steps made b in
    let all = traffic ++ traffic_of made b in
    let T : List PortOperation → Type 0 =
    λ all. RepresentsDuringSlice (in_slice lab machine' context') (after_steps (suc made) b) all in
    let joined = append_assoc traffic (traffic_of made b) (operation_list (next_change now).operation) in
    let none = no_reason now (free lab now all m.represents) (defined lab now all m.represents) in
    let one : made + 1 ≡ suc made = omega arith in
    rw one (record {
      represents = subst T joined (advances lab now all m.represents);
      none_before = λ j below. before made b j (m.none_before j) none below;
      found_is = tt;
    })

-- no further step, because the opcode at PC is undefined
pub makes_end : (made : ℕ) (o : SliceOutcome) (b : Board) (traffic : List PortOperation) (lab : LabState)
    (machine : MachineState) (context : Context) (machine' : MachineState) (context' : Context)
    → Makes made None b traffic (in_slice lab machine context)
    → ComputesIn reason_before_fetch None machine context
    → ComputesIn end_by_undefined (Some o) machine context
    → SameBoardIn machine context machine' context'
    → Makes made (Some o) b traffic (in_slice lab machine' context')
makes_end made o b traffic lab machine context machine' context' m free undefined keeps =
    let now = after_steps made b in
    let all = traffic ++ traffic_of made b in
    record {
      represents = keeps lab now all m.represents;
      none_before = m.none_before;
      found_is = reason_undefined now o (free lab now all m.represents) (undefined lab now all m.represents);
    }

chosen : (b : Bool) (x o : SliceOutcome) → Some o ≡ (if b then Some x else None) → o ≡ x
chosen true x o is = cc
chosen false x o is = cc

-- that end is known of the machine alone
pub undefined_is : (b : Board) (o : SliceOutcome) → Some o ≡ end_by_undefined b → o ≡ undefined_end b.machine
undefined_is b o is =
    chosen
    (is_undefined (row_on b.machine.board (byte_at b.machine b.machine.regs.pc))
    && is_none (acceptance_due b.machine b.past))
    (undefined_end b.machine) o is

-- and it is read off the machine that is left
pub makes_undefined : (made : ℕ) (o : SliceOutcome) (b : Board) (traffic : List PortOperation)
    (lab : LabState) (machine : MachineState) (context : Context) (machine' : MachineState)
    (context' : Context)
    → Makes made None b traffic (in_slice lab machine context)
    → ComputesIn reason_before_fetch None machine context
    → ComputesIn end_by_undefined (Some o) machine context
    → SameBoardIn machine context machine' context'
    → Makes made (Some (undefined_end machine')) b traffic (in_slice lab machine' context')
makes_undefined made o b traffic lab machine context machine' context' m free undefined keeps =
    let now = after_steps made b in
    let all = traffic ++ traffic_of made b in
    let m' = makes_end made o b traffic lab machine context machine' context' m free undefined keeps in
    let is : o ≡ undefined_end now.machine = undefined_is now o (undefined lab now all m.represents) in
    let left : undefined_end now.machine ≡ undefined_end machine' =
    ap undefined_end (sym m'.represents.machine) in
    let R : SliceOutcome → Type 0 = λ o. reason now ≡ Some o in
    record {
      represents = m'.represents;
      none_before = m'.none_before;
      found_is = subst R (is ∙ left) m'.found_is;
    }

-- or because there is another reason
pub makes_found : (o : SliceOutcome) (b : Board) (traffic : List PortOperation) (lab : LabState)
    → RepresentsDuringSlice lab b traffic → Some o ≡ reason_before_fetch b → Makes 0 (Some o) b traffic lab
makes_found o b traffic lab s is =
    let m = makes_none lab b traffic s in
    record { represents = m.represents; none_before = m.none_before; found_is = reason_stands b o is }

-- further steps after the first k
pub makes_on : (k made : ℕ) (found : Option SliceOutcome) (b : Board) (lab : LabState)
    → ((j : ℕ) → j < k → reason (after_steps j b) ≡ None)
    → Makes made found (after_steps k b) (traffic_of k b) lab
    → Makes (k + made) found b [] lab
makes_on k made found b lab earlier m =
    let swap : k + made ≡ made + k = omega arith in
    let S : Board → Type 0 = λ board. RepresentsDuringSlice lab board (traffic_of (made + k) b) in
    let T : List PortOperation → Type 0 =
    λ all. RepresentsDuringSlice lab (after_steps made (after_steps k b)) all in
    let F : Board → Type 0 = λ board. IfSome found (λ o. reason board ≡ Some o) in
    rw swap (record {
      represents = subst S (sym (after_more made k b)) (subst T (traffic_more made k b) m.represents);
      none_before = λ j below. (elim (cases_lt j k) [
        | inl less ↦ earlier j less
        | inr more ↦ (let at : j - k + k ≡ j = omega arith in
            let there = m.none_before (j - k) (omega arith) in
            let R : Board → Type 0 = λ board. reason board ≡ None in
            let J : ℕ → Type 0 = λ n. reason (after_steps n b) ≡ None in
            subst J at (subst R (sym (after_more (j - k) k b)) there))
      ]);
      found_is = subst F (sym (after_more made k b)) m.found_is;
    })

-- at most one step is at most `most` steps
pub makes_within : {result : ℕ × Option SliceOutcome} {old new : MachineState × Context} (most : ℕ) → 1 ≤ most
    → MakesAtMost 1 result old new → MakesAtMost most result old new
makes_within most some m =
    let few = m.few in
    record {
      makes = m.makes;
      few = omega arith;
      some = λ is. (let less = m.some is in omega arith);
      progress = λ one none. m.progress (omega arith) none;
      room = m.room;
      kept = m.kept;
    }

-- ---- what the debugger requested

pub kept_on : {old between new : Context} → KeepsAsked old between → KeepsAsked between new
    → KeepsAsked old new
kept_on first second = record {
  attached = second.attached ∙ first.attached;
  breakpoints = second.breakpoints ∙ first.breakpoints;
  request = second.request ∙ first.request;
}

pub watches_kept : {old new : Context} (is_watched : Bool) → KeepsAsked old new
    → Watches is_watched old.is_attached old.request → Watches is_watched new.is_attached new.request
watches_kept true kept watches = tt
watches_kept false kept watches = (kept.attached ∙ watches.0, kept.request ∙ watches.1)
