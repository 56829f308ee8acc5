-- A text that is longer than a cell's, or a file's, may be.
use Rattle.std.proofs.Common.{◌≡◌, ℕ, ◌<◌, true, List, length, nat_lt, Err, refl, sym, subst, arith}
use Rattle.std.proofs.lemmas.Bool.Decides.{nat_tests}
use Rattle.std.specs.Prelude.{Result, Ok, Option, None, IfOk, String}
use Rattle.std.specs.Global.{Global}
use Rattle.std.specs.Str.{is_utf8}
use Rattle.asm_build.specs.Meaning.{Meaning}
use Rattle.asm_syntax.specs.Outcome.{CellFault}
use Rattle.asm_syntax.specs.Faults as asm
use Rattle.asm_syntax.specs.declared.fault.FaultKind.TheVariants as cell
use Rattle.asm_text.specs.Statements.{statements_of}
use Rattle.asm_hex.specs.Outcome.{FileFault}
use Rattle.asm_hex.specs.Faults as hex
use Rattle.asm_hex.specs.Contents.{hex_of}
use Rattle.asm_hex.specs.declared.fault.HexFaultKind.TheVariants as file
use Rattle.cli_io.specs.declared.status.Status.TheVariants.{Refused}
use Rattle.cli_io.specs.TextState.{IsText}
use Rattle.cli_hex.specs.declared.answer.Answer.{Answer}
use Rattle.cli_hex.specs.declared.hex.HexForm.{HexForm}
use Rattle.cli_hex.specs.Answer.{IsAnswer, fault_line}
use Rattle.cli_hex.specs.HexOutput.{cell_of, cell_output, cell_status, hex_output, hex_status}
use Rattle.cli_hex.specs.ListOutput.{file_output, file_status, list_output, list_status}

-- ---- cells

long_cell : (input : List ℕ) → 1048576 < length input → cell_of input ≡ Err (1, 1, cell.TooLong)
unfolding statements_of
long_cell input long = let is : nat_lt 1048576 (length input) ≡ true = grind (arith, nat_tests) in rw is refl

is_long_cell : (form : HexForm) (a : Answer) (input : List ℕ)
    → (is_utf8 input ≡ true) × (1048576 < length input)
    → IsAnswer a Refused (fault_line 1 1 (asm.fault_name cell.TooLong))
    → IsAnswer a (hex_status form input) (hex_output form input)
is_long_cell form a input is r =
    rw is.0 (subst (λ (m : Result Meaning CellFault). IsAnswer a (cell_status form m) (cell_output form m))
    (sym (long_cell input is.1)) r)

pub long_cell_refused : {E : Type 0} (form : HexForm) (r : Result Answer E) (text : Option (String Global))
    → text ≡ None
    → IfOk r (λ a. IsAnswer a Refused (fault_line 1 1 (asm.fault_name cell.TooLong)))
    → IfOk r (λ a. (input : List ℕ) → IsText 1048576 (Ok text) input
    → IsAnswer a (hex_status form input) (hex_output form input))
long_cell_refused form (Ok a) text none is =
    λ input found. is_long_cell form a input
    (subst (λ (t : Option (String Global)). IsText 1048576 (Ok t) input) none found) is
long_cell_refused form (Err e) text none is = tt

-- ---- files

long_file : (input : List ℕ) → 1048576 < length input → hex_of input ≡ Err (1, file.TooLong)
unfolding hex_of
long_file input long = let is : nat_lt 1048576 (length input) ≡ true = grind (arith, nat_tests) in rw is refl

is_long_file : (a : Answer) (input : List ℕ) → (is_utf8 input ≡ true) × (1048576 < length input)
    → IsAnswer a Refused (fault_line 1 1 (hex.fault_name file.TooLong))
    → IsAnswer a (list_status input) (list_output input)
is_long_file a input is r =
    rw is.0 (subst (λ (f : Result (List (ℕ × ℕ) × Option ℕ) FileFault). IsAnswer a (file_status f)
    (file_output f))
    (sym (long_file input is.1)) r)

pub long_file_refused : {E : Type 0} (r : Result Answer E) (text : Option (String Global)) → text ≡ None
    → IfOk r (λ a. IsAnswer a Refused (fault_line 1 1 (hex.fault_name file.TooLong)))
    → IfOk r (λ a. (input : List ℕ) → IsText 1048576 (Ok text) input
    → IsAnswer a (list_status input) (list_output input))
long_file_refused (Ok a) text none is =
    λ input found. is_long_file a input
    (subst (λ (t : Option (String Global)). IsText 1048576 (Ok t) input) none found) is
long_file_refused (Err e) text none is = tt
