-- A text that is longer than a cell's may be, and the line that says where a program starts.
use Rattle.std.proofs.Common.{◌≡◌, ℕ, ◌<◌, true, List, [], ◌∷◌, ◌++◌, length, nat_lt, Err, refl, sym, subst}
use Rattle.std.proofs.Common.{arith, append_assoc, codes}
use Rattle.std.proofs.lemmas.Bool.Decides.{nat_tests}
use Rattle.std.specs.Prelude.{Result, Ok, Option, None, IfOk, String, string_bytes}
use Rattle.std.specs.Global.{Global}
use Rattle.std.specs.Str.{is_utf8}
use Rattle.asm_build.specs.Meaning.{Meaning}
use Rattle.asm_syntax.specs.Outcome.{CellFault}
use Rattle.asm_syntax.specs.declared.fault.FaultKind.TheVariants.{TooLong}
use Rattle.asm_text.specs.Statements.{statements_of}
use Rattle.cli_io.specs.declared.report.Report.{Report}
use Rattle.cli_io.specs.declared.status.Status.TheVariants.{Refused}
use Rattle.cli_io.specs.Report.{line, IsReport}
use Rattle.cli_io.specs.TextState.{IsText}
use Rattle.cli_engines.specs.AsmText.{cell_of, cell_text, cell_status, fault_line, asm_text, asm_status}
use Rattle.asm_syntax.specs.Faults.{fault_name}
use Rattle.base_text.specs.Hexadecimal.{upper_word}

long_cell : (input : List ℕ) → 1048576 < length input → cell_of input ≡ Err (1, 1, TooLong)
unfolding statements_of
long_cell input long = let is : nat_lt 1048576 (length input) ≡ true = grind (arith, nat_tests) in rw is refl

pub is_cell_report : (report : Report) (text : String Global) (input : List ℕ)
    → (is_utf8 input ≡ true) × (string_bytes text ≡ input)
    → IsReport report (cell_status (cell_of (string_bytes text))) (cell_text (cell_of (string_bytes text)))
    → IsReport report (asm_status input) (asm_text input)
is_cell_report report text input is r =
    rw is.0 (subst (λ (bytes : List ℕ). IsReport report (cell_status (cell_of bytes)) (cell_text
    (cell_of bytes))) is.1 r)

pub is_long_report : (report : Report) (input : List ℕ) → (is_utf8 input ≡ true) × (1048576 < length input)
    → IsReport report Refused (fault_line 1 1 (fault_name TooLong))
    → IsReport report (asm_status input) (asm_text input)
is_long_report report input is r =
    rw is.0 (subst (λ (m : Result Meaning CellFault). IsReport report (cell_status m) (cell_text m))
    (sym (long_cell input is.1)) r)

pub long_reported : {E : Type 0} (r : Result Report E) (text : Option (String Global)) → text ≡ None
    → IfOk r (λ report. IsReport report Refused (fault_line 1 1 (fault_name TooLong)))
    → IfOk r (λ report. (input : List ℕ) → IsText 1048576 (Ok text) input → IsReport report
    (asm_status input) (asm_text input))
long_reported (Ok report) text none is =
    λ input found. is_long_report report input
    (subst (λ (t : Option (String Global)). IsText 1048576 (Ok t) input) none found) is
long_reported (Err e) text none is = tt

pub start_added : (text : List ℕ) (address : ℕ) (run : List ℕ) →
    text ++ codes "start " ++ upper_word address ++ 10 ∷ [] ++ run ≡ text
    ++ (line (codes "start " ++ upper_word address) ++ run)
start_added text address run = joined text (codes "start ") (upper_word address) (10 ∷ []) run
  where
    joined : (t a b c d : List ℕ) → t ++ a ++ b ++ c ++ d ≡ t ++ (a ++ b ++ c ++ d)
    joined t a b c d = simp append_assoc
