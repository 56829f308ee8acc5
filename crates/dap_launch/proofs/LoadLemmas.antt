-- What loading a program comes to.
use Rattle.std.proofs.Common.{◌≡◌, ◌≢◌, ◌∙◌, ℕ, Result, Ok, Err, Option, Some, None, sym, ap, refl}
use Rattle.lab_core.specs.declared.answer.Answer.{Answer}
use Rattle.lab_core.specs.declared.fault.EventFault.{EventFault}
use Rattle.lab_core.specs.declared.fault.EventFault.TheVariants as refused
use Rattle.lab_core.specs.Board.{Board}
use Rattle.lab_core.specs.Events.{EventResult}
use Rattle.lab_core.specs.Labs.{LabState, RepresentsBoard, MatchesResult}
use Rattle.dap_launch.specs.declared.load.Loaded.{Loaded}
use Rattle.dap_launch.specs.declared.load.LoadFault.{LoadFault}
use Rattle.dap_launch.specs.declared.load.LoadFault.TheVariants.{NoStart, OutOfMemory}
use Rattle.dap_launch.specs.Loading.{start_of, with_start, fault_of, loaded_by, Loads}
use Rattle.dap_run.proofs.ChangeLemmas.{Answered}

abbrev pub ok : Answer → Answered
ok a = Ok a

abbrev pub err : EventFault → Answered
err f = Err f

pub apart : (a : Answer) (f : EventFault) → ok a ≢ err f
apart a f e = cc

answer_or : Answer → Answered → Answer
answer_or a (Ok b) = b
answer_or a (Err f) = a

fault_or : EventFault → Answered → EventFault
fault_or f (Ok b) = f
fault_or f (Err g) = g

same_answer : (a a' : Answer) → ok a ≡ ok a' → a ≡ a'
unfolding answer_or
same_answer a a' e = ap (answer_or a) e

same_fault : (f f' : EventFault) → err f ≡ err f' → f ≡ f'
unfolding fault_or
same_fault f f' e = ap (fault_or f) e

abbrev good : LabState → ℕ → Result Loaded LoadFault
good lab start = Ok (record { lab = lab; start = start })

abbrev pub bad : LoadFault → Result Loaded LoadFault
bad f = Err f

started_by : (o : Option ℕ) (b : Board) (lab : LabState) (start : ℕ) → o ≡ Some start → RepresentsBoard lab b
    → Loads (with_start o b) (good lab start)
started_by (Some n) b lab start is represents = (represents, cc)
started_by None b lab start is represents = absurd cc

pub loads_start : (g : EventResult) (b : Board) (a : Answer) (lab : LabState) (start : ℕ)
    → MatchesResult b g (ok a) lab
    → start_of a ≡ Some start → Loads (loaded_by g) (good lab start)
loads_start (Ok (a', b')) b a lab start did is =
    started_by (start_of a') b' lab start (sym (ap start_of (same_answer a a' did.0)) ∙ is) did.1
loads_start (Err f) b a lab start did is = absurd (apart a f did.0)

no_start_by : (o : Option ℕ) (b : Board) → o ≡ None → Loads (with_start o b) (bad NoStart)
no_start_by None b is = refl
no_start_by (Some n) b is = absurd cc

pub loads_none : (g : EventResult) (b : Board) (a : Answer) (lab : LabState) → MatchesResult b g (ok a) lab
    → start_of a ≡ None → Loads (loaded_by g) (bad NoStart)
loads_none (Ok (a', b')) b a lab did is =
    no_start_by (start_of a') b' (sym (ap start_of (same_answer a a' did.0)) ∙ is)
loads_none (Err f) b a lab did is = absurd (apart a f did.0)

pub loads_fault : (g : EventResult) (b : Board) (f : EventFault) (lab : LabState)
    → MatchesResult b g (err f) lab
    → Loads (loaded_by g) (bad (fault_of f))
loads_fault (Ok (a, b')) b f lab did = absurd (apart a f (sym did.0))
loads_fault (Err f') b f lab did = ap fault_of (same_fault f f' did.0)

-- what isn't told as want of memory isn't
pub no_lack : (f : EventFault) → bad (fault_of f) ≢ bad OutOfMemory → err f ≢ err refused.OutOfMemory
no_lack f other e = other (ap (λ x. bad (fault_of x)) (same_fault f refused.OutOfMemory e))
