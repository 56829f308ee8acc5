-- A run that is printed step by step is the run's text.
use Rattle.std.proofs.Common.{◌≡◌, ℕ, zero, suc, ◌+◌, ◌-◌, ◌<◌, List, ◌++◌, Bool, true, false, Option, Some}
use Rattle.std.proofs.Common.{None, ◌==◌, refl, ap, sym, ◌∙◌, subst, arith, append-nil, append_assoc}
use Rattle.std.proofs.lemmas.Bool.Decides.{nat_tests}
use Rattle.i80_exec.specs.State.{MachineState}
use Rattle.cli_run.specs.declared.ending.Ending.{Ending}
use Rattle.cli_run.specs.Computer.{Computer, next, after, end_of, end_at, least_from, run_length}
use Rattle.cli_io.specs.Report.{line}
use Rattle.cli_run.specs.Printed.{register_line}
use Rattle.cli_run.specs.Runner.{RunnerState, RepresentsComputer, HasRun}
use Rattle.cli_run.specs.RunText.{lines_of, word_of, end_line, run_text, run_end_text}

-- after k steps: the board, and no end before
pub record IsAt (limit : ℕ) (start : Computer) (k : ℕ) (r : RunnerState) : Type 0 where
  pub represents : RepresentsComputer r (after k start)
  pub least : least_from (end_at limit start) k (limit - k) ≡ run_length limit start

-- and the lines of the steps are printed
pub record HasPrinted (limit : ℕ) (start : Computer) (k : ℕ) (r : RunnerState) (before text : List ℕ) : Type 0
  where
    pub is_at : IsAt limit start k r
    pub lines : text ≡ before ++ lines_of k start

pub at_start : (limit : ℕ) (start : Computer) (r : RunnerState) → RepresentsComputer r start
    → IsAt limit start 0 r
unfolding after
at_start limit start r s =
    record { represents = s; least = ap (λ n. least_from (end_at limit start) 0 n) (omega arith) }

pub printed_start : (limit : ℕ) (start : Computer) (r : RunnerState) (text : List ℕ)
    → RepresentsComputer r start
    → HasPrinted limit start 0 r text text
unfolding lines_of
printed_start limit start r text s =
    record { is_at = at_start limit start r s; lines = sym (append-nil text) }

-- where there is an end, it is the least
least_here : (f : ℕ → Option Ending) (k n : ℕ) (e : Ending) → f k ≡ Some e → least_from f k n ≡ k
unfolding least_from
least_here f k zero e h = refl
least_here f k (suc n) e h = rw h refl

least_later : (f : ℕ → Option Ending) (k n : ℕ) → f k ≡ None → least_from f k (suc n) ≡ least_from f (k + 1) n
unfolding least_from
least_later f k n h = rw h refl

-- the end at a board that a runner represents
end_seen : (limit : ℕ) (start : Computer) (k : ℕ) (r : RunnerState) → RepresentsComputer r (after k start)
    → end_at limit start k ≡ end_of (k == limit) r.last r.machine
unfolding end_at
end_seen limit start k r s = rw (s.last, s.machine) refl

not_last : (k limit : ℕ) → k < limit → (k == limit) ≡ false
not_last k limit lt = grind (arith, nat_tests)

pub at_next : (limit : ℕ) (start : Computer) (k : ℕ) (r r' : RunnerState) → k < limit
    → IsAt limit start k r → end_of false r.last r.machine ≡ None
    → RepresentsComputer r' (next (after k start)) → IsAt limit start (k + 1) r'
unfolding after
at_next limit start k r r' lt here no-end s =
    let one : suc k ≡ k + 1 = omega arith in
    let left : limit - k ≡ suc (limit - (k + 1)) = omega arith in
    let goes_on : end_at limit start k ≡ None =
    end_seen limit start k r here.represents ∙ ap (λ (b : Bool). end_of b r.last r.machine)
    (not_last k limit lt) ∙ no-end in
    record {
      represents = subst (λ (j : ℕ). RepresentsComputer r' (after j start)) one s;
      least =
          sym (least_later (end_at limit start) k (limit - (k + 1)) goes_on)
          ∙ ap (λ (n : ℕ). least_from (end_at limit start) k n) (sym left) ∙ here.least;
    }

pub printed_next : (limit : ℕ) (start : Computer) (k : ℕ) (r r' : RunnerState) (before text text' : List ℕ)
    → k < limit
    → HasPrinted limit start k r before text → end_of false r.last r.machine ≡ None
    → RepresentsComputer r' (next (after k start)) → text' ≡ text ++ register_line r'.machine.regs
    → HasPrinted limit start (k + 1) r' before text'
unfolding after lines_of
printed_next limit start k r r' before text text' lt here no-end s added =
    let one : suc k ≡ k + 1 = omega arith in
    let line : register_line r'.machine.regs ≡ register_line (next (after k start)).machine.regs =
    ap (λ (m : MachineState). register_line m.regs) s.machine in
    record {
      is_at = at_next limit start k r r' lt here.is_at no-end s;
      lines = subst (λ (j : ℕ). text' ≡ before ++ lines_of j start) one
          (added ∙ ap (λ (x : List ℕ). x ++ register_line r'.machine.regs) here.lines
          ∙ append_assoc before (lines_of k start) (register_line r'.machine.regs)
          ∙ ap (λ (x : List ℕ). before ++ (lines_of k start ++ x)) line);
    }

-- the end that is seen before a step
end_before : (limit : ℕ) (start : Computer) (k : ℕ) (r : RunnerState) (e : Ending) → k < limit
    → IsAt limit start k r → end_of false r.last r.machine ≡ Some e → end_at limit start k ≡ Some e
end_before limit start k r e lt here ends =
    end_seen limit start k r here.represents
    ∙ ap (λ (b : Bool). end_of b r.last r.machine) (not_last k limit lt)
    ∙ ends

is_last : (limit : ℕ) → (limit == limit) ≡ true
is_last limit = grind (arith, nat_tests)

-- what is seen after the last step
end_behind : (limit : ℕ) (start : Computer) (k : ℕ) (r : RunnerState) → k ≡ limit
    → IsAt limit start k r → end_at limit start k ≡ end_of true r.last r.machine
end_behind limit start k r same here =
    let last : (k == limit) ≡ true = ap (λ (j : ℕ). j == limit) same ∙ is_last limit in
    end_seen limit start k r here.represents ∙ ap (λ (b : Bool). end_of b r.last r.machine) last

stops : (limit : ℕ) (start : Computer) (k : ℕ) (r : RunnerState) (e : Ending) → IsAt limit start k r
    → end_at limit start k ≡ Some e → k ≡ run_length limit start
stops limit start k r e here ends = sym (least_here (end_at limit start) k (limit - k) e ends) ∙ here.least

-- a run that ends before its last step may be done
pub has_run_before : (limit : ℕ) (start : Computer) (k : ℕ) (r : RunnerState) (e : Ending) → k < limit
    → IsAt limit start k r → end_of false r.last r.machine ≡ Some e → HasRun limit start r (Some e)
has_run_before limit start k r e lt here ends =
    let end : end_at limit start k ≡ Some e = end_before limit start k r e lt here ends in
    let steps : k ≡ run_length limit start = stops limit start k r e here end in
    record {
      represents = subst (λ (j : ℕ). RepresentsComputer r (after j start)) steps here.represents;
      ending_is = sym end ∙ ap (end_at limit start) steps;
    }

-- a run that has had all of its steps
pub has_run_all : (limit : ℕ) (start : Computer) (k : ℕ) (r : RunnerState) (e : Option Ending) → k ≡ limit
    → IsAt limit start k r → e ≡ end_of true r.last r.machine → HasRun limit start r e
unfolding least_from
has_run_all limit start k r e same here ends =
    let none : limit - k ≡ 0 = omega (arith, same) in
    let steps : k ≡ run_length limit start =
    ap (λ (n : ℕ). least_from (end_at limit start) k n) (sym none) ∙ here.least in
    record {
      represents = subst (λ (j : ℕ). RepresentsComputer r (after j start)) steps here.represents;
      ending_is = ends ∙ sym (end_behind limit start k r same here) ∙ ap (end_at limit start) steps;
    }

printed_stop : (limit : ℕ) (start : Computer) (k : ℕ) (r : RunnerState) (before text text' : List ℕ)
    (e : Ending)
    → HasPrinted limit start k r before text → end_at limit start k ≡ Some e
    → text' ≡ text ++ line (word_of e)
    → text' ≡ before ++ run_text limit start
unfolding run_text
printed_stop limit start k r before text text' e here ends added =
    let steps : k ≡ run_length limit start = stops limit start k r e here.is_at ends in
    let last : line (word_of e) ≡ end_line (end_at limit start k) = ap end_line (sym ends) in
    added ∙ ap (λ (x : List ℕ). x ++ line (word_of e)) here.lines
    ∙ append_assoc before (lines_of k start) (line (word_of e))
    ∙ ap (λ (x : List ℕ). before ++ (lines_of k start ++ x)) last
    ∙ ap (λ (j : ℕ). before ++ (lines_of j start ++ end_line (end_at limit start j))) steps

pub printed_end : (limit : ℕ) (start : Computer) (k : ℕ) (r : RunnerState) (before text text' : List ℕ)
    (e : Ending) → k < limit
    → HasPrinted limit start k r before text → end_of false r.last r.machine ≡ Some e
    → text' ≡ text ++ line (word_of e)
    → text' ≡ before ++ run_text limit start
printed_end limit start k r before text text' e lt here ends added =
    printed_stop limit start k r before text text' e here (end_before limit start k r e lt here.is_at ends)
    added

pub printed_limit : (limit : ℕ) (start : Computer) (k : ℕ) (r : RunnerState) (before text text' : List ℕ)
    (e : Ending) → k ≡ limit
    → HasPrinted limit start k r before text → end_of true r.last r.machine ≡ Some e
    → text' ≡ text ++ line (word_of e)
    → text' ≡ before ++ run_text limit start
printed_limit limit start k r before text text' e same here ends added =
    printed_stop limit start k r before text text' e here (end_behind limit start k r same here.is_at ∙ ends)
    added

-- the registers and the end of a run, added to a text
pub end_printed : (limit : ℕ) (start : Computer) (r : RunnerState) (e : Option Ending) (text : List ℕ)
    → HasRun limit start r e
    → text ++ register_line r.machine.regs ++ end_line e ≡ text ++ run_end_text limit start
unfolding run_end_text
end_printed limit start r e text ran =
    rw (ran.ending_is, ran.represents.machine) (append_assoc text
    (register_line (after (run_length limit start) start).machine.regs)
    (end_line (end_at limit start (run_length limit start))))
