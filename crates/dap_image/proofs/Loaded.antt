-- The text of a program is loaded.
use Rattle.std.proofs.Common.{◌≡◌, ◌≢◌, ℕ, zero, suc, ◌+◌, ◌%◌, ◌<◌, ◌≤◌, List, [], ◌∷◌, length}
use Rattle.std.proofs.Common.{Option, Some, None, IsOk, Result, Ok, Err, unwrap_or}
use Rattle.std.proofs.Common.{refl, sym, ap, ◌∙◌, arith, mod-eq_of_lt}
use Rattle.std.proofs.Math.ListN.{length-replicate}
use Rattle.std.proofs.lemmas.List.{length-set, get_or-set_same, get_or-set_other}
use Rattle.asm_text.specs.Statements.{statements_of}
use Rattle.asm_syntax.specs.declared.statement.Statement.{Statement}
use Rattle.asm_syntax.specs.Outcome.{CellFault, ◌>>=◌}
use Rattle.asm_build.specs.declared.built.Row.{Row}
use Rattle.asm_build.specs.Reading.{Entries}
use Rattle.asm_build.specs.Meaning.{Meaning, built_of}
use Rattle.i80_exec.specs.State.{MachineState, byte_at, with_byte, with_image_bytes, zeros}
use Rattle.i80_listings_laws.specs.Runs.{present_from, present}
use Rattle.i80_listings_laws.specs.Law.{started_image}
use Rattle.lab_image.specs.declared.sources.Source.{Source}
use Rattle.lab_image.specs.declared.sources.SourceFault.{SourceFault}
use Rattle.lab_image.specs.Sources.{source_from, with_text, place_of}
use Rattle.lab_core.specs.declared.run_state.RunState.TheVariants.{NoRun}
use Rattle.lab_core.specs.Board.{Board, opening}
use Rattle.lab_core.specs.Events.{with_cell, cell_meaning}
use Rattle.dap_messages.specs.declared.file_kind.ImageKind.{ImageKind}
use Rattle.dap_image.specs.declared.text.ImagePlace.{ImagePlace}
use Rattle.dap_image.specs.Images.{Cells}
use Rattle.dap_image.specs.Texts.{program_for, text_for}
use Rattle.dap_image.specs.Law.{AreInRange, TakesText, cell_at, HasBytes, LoadsProgram}
use Rattle.dap_image.proofs.Assembled.{program_good, text_assembles}

-- ---- a byte in memory

size_kept : (m : MachineState) (a b : ℕ) → length m.memory ≡ 65536 → length (with_byte m a b).memory ≡ 65536
size_kept m a b size = length-set m.memory (a % 65536) b ∙ size

byte_there : (m : MachineState) (a b : ℕ) → length m.memory ≡ 65536 → a < 65536
    → byte_at (with_byte m a b) a ≡ b
byte_there m a b size fits =
    let same = mod-eq_of_lt fits in
    get_or-set_same m.memory (a % 65536) b 0 (omega (arith, size, fits, same))

byte_elsewhere : (m : MachineState) (a b c : ℕ) → a < 65536 → c < 65536 → c ≢ a
    → byte_at (with_byte m a b) c ≡ byte_at m c
byte_elsewhere m a b c fits inside other =
    let first = mod-eq_of_lt fits in
    let second = mod-eq_of_lt inside in
    get_or-set_other m.memory (a % 65536) (c % 65536) b 0
    (λ e. other (sym second ∙ e ∙ first))

-- ---- the bytes of cells

-- cells from this address on leave those before it as they were
before_kept : (cells : Cells) (k : ℕ) (m : MachineState) (c : ℕ) → k + length cells ≤ 65536 → c < k
    → byte_at (with_image_bytes m (present_from k cells)) c ≡ byte_at m c
unfolding present_from
before_kept [] k m c few lt = refl
before_kept (None ∷ cells) k m c few lt =
    before_kept cells (k + 1) m c (omega (arith, few)) (omega (arith, lt))
before_kept (Some b ∷ cells) k m c few lt =
    before_kept cells (k + 1) (with_byte m k b) c (omega (arith, few)) (omega (arith, lt))
    ∙ byte_elsewhere m k b c (omega (arith, few)) (omega (arith, few, lt)) (omega (arith, lt))

bytes_at : (cells : Cells) (k : ℕ) (m : MachineState) (i : ℕ) → length m.memory ≡ 65536
    → k + length cells ≤ 65536 → k + i < 65536
    → byte_at (with_image_bytes m (present_from k cells)) (k + i)
    ≡ unwrap_or (cell_at cells i) (byte_at m (k + i))
unfolding present_from
bytes_at [] k m i size few fits = refl
bytes_at (None ∷ cells) k m zero size few fits =
    before_kept cells (k + 1) m (k + 0) (omega (arith, few)) (omega arith)
bytes_at (Some b ∷ cells) k m zero size few fits =
    let here : k + 0 ≡ k = omega arith in
    before_kept cells (k + 1) (with_byte m k b) (k + 0) (omega (arith, few)) (omega arith)
    ∙ ap (λ a. byte_at (with_byte m k b) a) here
    ∙ byte_there m k b size (omega (arith, few))
bytes_at (None ∷ cells) k m (suc i) size few fits =
    let on : k + suc i ≡ k + 1 + i = omega arith in
    ap (λ a. byte_at (with_image_bytes m (present_from (k + 1) cells)) a) on
    ∙ bytes_at cells (k + 1) m i size (omega (arith, few)) (omega (arith, fits))
    ∙ ap (λ a. unwrap_or (cell_at cells i) (byte_at m a)) (sym on)
bytes_at (Some b ∷ cells) k m (suc i) size few fits =
    let on : k + suc i ≡ k + 1 + i = omega arith in
    ap (λ a. byte_at (with_image_bytes (with_byte m k b) (present_from (k + 1) cells)) a) on
    ∙ bytes_at cells (k + 1) (with_byte m k b) i (size_kept m k b size) (omega (arith, few))
    (omega (arith, fits))
    ∙ ap (λ a. unwrap_or (cell_at cells i) (byte_at (with_byte m k b) a)) (sym on)
    ∙ ap (unwrap_or (cell_at cells i))
    (byte_elsewhere m k b (k + suc i) (omega (arith, few)) fits (omega arith))

registers_kept : (image : List (ℕ × ℕ)) (m : MachineState) → (with_image_bytes m image).regs ≡ m.regs
registers_kept [] m = refl
registers_kept (p ∷ image) m = registers_kept image (with_byte m p.0 p.1)

option_kept : (image : List (ℕ × ℕ)) (m : MachineState) → (with_image_bytes m image).board ≡ m.board
option_kept [] m = refl
option_kept (p ∷ image) m = option_kept image (with_byte m p.0 p.1)

has_bytes : (cells : Cells) (m : MachineState) → length m.memory ≡ 65536 → length cells ≤ 65536
    → HasBytes cells m (with_image_bytes m (present cells))
has_bytes cells m size few = record {
  bytes = λ address fits.
      let on : 0 + address ≡ address = omega arith in
      ap (λ a. byte_at (with_image_bytes m (present_from 0 cells)) a) (sym on)
      ∙ bytes_at cells 0 m address size (omega (arith, few)) (omega (arith, fits))
      ∙ ap (λ a. unwrap_or (cell_at cells address) (byte_at m a)) on;
  registers = registers_kept (present cells) m;
  option = option_kept (present cells) m;
}

-- ---- the load

meaning_is : (kept : Entries) (text : List ℕ) (ss : List Statement) (m : Meaning)
    → statements_of text ≡ Ok ss → built_of kept ss ≡ Ok m → cell_meaning kept text ≡ Ok m
meaning_is kept text ss m says built =
    ap (λ (r : Result (List Statement) CellFault). r >>= built_of kept) says ∙ built

load_is : (s : Source) (b : Board) (cells : Cells) (start : ℕ) (rows : List Row)
    (place : Result (Option ℕ) SourceFault)
    → place_of s b.sources ≡ place → IsOk place → length b.machine.memory ≡ 65536 → length cells ≤ 65536
    → b.run ≡ NoRun
    → cell_meaning b.symbols s.text ≡ Ok (started_image b.symbols (present cells) (Some start) rows)
    → LoadsProgram s.path s.text cells start b
load_is s b cells start rows (Err fault) at is size few run means = absurd (cc)
load_is s b cells start rows (Ok place) at is size few run means =
    let m = started_image b.symbols (present cells) (Some start) rows in
    record {
      board = with_cell s place m b;
      answered = rw (run, at, means) refl;
      machine = has_bytes cells b.machine size few;
      symbols = refl;
    }

pub text_loads : (kind : ImageKind) (bytes : List ℕ) (place : ImagePlace) (path text : List ℕ) (b : Board)
    → AreInRange bytes place → text_for kind bytes place ≡ Ok text → TakesText path text b
    → (cells : Cells) (start : ℕ) → program_for kind bytes place ≡ Ok (cells, start)
    → LoadsProgram path text cells start b
text_loads kind bytes place path text b is text_is takes cells start program =
    let good = program_good kind bytes place cells start is program in
    let a = text_assembles b.symbols kind bytes place text is text_is cells start program in
    let s : Source = record { path = path; text = text } in
    let m = started_image b.symbols (present cells) (Some start) a.1 in
    load_is s b cells start a.1 (place_of s b.sources) refl takes.place takes.size good.size takes.run
    (meaning_is b.symbols text a.0 m a.2 a.3)

-- ---- the board after power-on

no_source : (text path : List ℕ) → IsOk (with_text text (source_from 0 [] path) 0)
unfolding source_from
no_source text path = refl

zeros_size : length zeros ≡ 65536
unfolding zeros
zeros_size = length-replicate {A = ℕ} 65536 0

pub opening_takes_text : (path text : List ℕ) → TakesText path text opening
opening_takes_text path text = record { run = refl; place = no_source text path; size = zeros_size }
