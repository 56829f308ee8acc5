-- What the rows show, and where they lead.
use Rattle.std.proofs.Common.{◌≡◌, ◌∙◌, ◌<◌, ◌+◌, ◌-◌, ℕ, List, [], ◌∷◌, length, map, take}
use Rattle.std.proofs.Common.{min}
use Rattle.std.proofs.Common.{drop, Option, Some, None, Result, Ok, refl, sym, ap, arith, inl}
use Rattle.std.proofs.Common.{inr}
use Rattle.std.proofs.Common.{◌==◌}
use Rattle.std.specs.Prelude.{IsOkAnd, codes}
use Rattle.std.specs.List.{All, range_with_len, slice_get}
use Rattle.std.proofs.lemmas.Bool.{cases_Bool, eqb-true}
use Rattle.std.proofs.lemmas.Option.{slice_get-get_or}
use Rattle.std.proofs.lemmas.List.{drop-map, take-map, take_all}
use Rattle.std.proofs.lemmas.List.Elements.{All-from_get_or}
use Rattle.std.proofs.lemmas.List.FromFn.{get_or-map-range_with_len, length-map-range_with_len}
use Rattle.i80_exec.specs.State.{MachineState}
use Rattle.i80_devs.specs.Past.{panel_after}
use Rattle.asm_build.specs.Reading.{Entries}
use Rattle.lab_shown.specs.declared.shown.Variable.{Variable}
use Rattle.lab_shown.specs.declared.scope.Scope.{Scope}
use Rattle.lab_shown.specs.declared.scope.Scope.TheVariants as scope
use Rattle.lab_shown.specs.Scopes.{scope_with}
use Rattle.lab_views.specs.declared.fault.ViewFault.{ViewFault}
use Rattle.lab_views.specs.Paging.{asked_for, page}
use Rattle.lab_views.specs.Variables.{symbol_variable, symbol_variables, memory_variable, memory_variables}
use Rattle.lab_views.specs.Variables.{register_variables, flag_variables, device_variables}
use Rattle.lab_views.specs.Variables.{variables_in, variables_of}
use Rattle.lab_views.proofs.NameLemmas.{word_back}
use Rattle.lab_core.specs.Board.{Board}
use Rattle.lab_core.specs.Events.{parts_of}
use Rattle.dap_messages.specs.declared.message.EditorVariable.{EditorVariable}
use Rattle.dap_messages.specs.declared.message.ValueFormat.{ValueFormat}
use Rattle.dap_messages.specs.declared.message.ValueFormat.TheVariants.{Hexadecimal}
use Rattle.dap_scopes.specs.Rows.{memory_row, memory_rows, row, row_at, symbol_row}
use Rattle.dap_scopes.specs.Stack.{stack_address, stack_rows, stack_words, word_row}
use Rattle.dap_scopes.specs.Rows.{register_rows, flag_rows, device_rows}
use Rattle.dap_scopes.specs.Scopes.{rows_in, rows_or_fault, stack_reference, variables_on}
use Rattle.dap_scopes.specs.Laws.{AreWordsFrom, LeadsToNamed, ShowsView, view_row, without_text}
use Rattle.dap_scopes.specs.Laws.{without_texts}

-- ---- lists of rows

map_map : {A B C : Type 0} (f : A → B) (g : B → C) (h : A → C) → ((x : A) → g (f x) ≡ h x) → (xs : List A)
    → map g (map f xs) ≡ map h xs
map_map f g h same [] = refl
map_map f g h same (x ∷ xs) = rw (same x, map_map f g h same xs) refl

-- if each row is the view's, all are
shows_all : (all : List EditorVariable) (rows : List Variable) → map view_row all ≡ rows → ShowsView rows all
shows_all all rows e = rw e (take_all (length rows) rows (omega arith))

shows_symbols : (symbols : Entries) (start count : ℕ)
    → ShowsView (page start count (symbol_variables symbols))
    (map (symbol_row Hexadecimal) (page start count symbols))
shows_symbols symbols start count =
    let some = page start count symbols in
    shows_all (map (symbol_row Hexadecimal) some) (page start count (symbol_variables symbols)) (
    map_map (symbol_row Hexadecimal) view_row symbol_variable (λ e. refl) some
    ∙ sym (take-map symbol_variable count (drop start symbols))
    ∙ ap (take count) (sym (drop-map symbol_variable start symbols))
    )

shows_memory : (m : MachineState) (start count : ℕ)
    → ShowsView (memory_variables m start count) (memory_rows Hexadecimal m start count)
shows_memory m start count =
    shows_all (memory_rows Hexadecimal m start count) (memory_variables m start count)
    (map_map (memory_row Hexadecimal m) view_row (memory_variable m) (λ a. refl)
    (range_with_len start (min count (65536 - start))))

-- ---- words of the stack

-- a list that a function makes of numbers one after another
made_at : {X : Type 0} (f : ℕ → X) (a n i : ℕ) → i < n
    → slice_get (map f (range_with_len a n)) i ≡ Some (f (a + i))
made_at f a n i within =
    let long : length (map f (range_with_len a n)) ≡ n = length-map-range_with_len f a n in
    let inside : i < length (map f (range_with_len a n)) = omega (arith, long) in
    slice_get-get_or (map f (range_with_len a n)) i (f a) inside
    ∙ ap Some (get_or-map-range_with_len f a n i (a + i) (f a) within refl)

all_made : {X : Type 0} (P : X → Type 0) (f : ℕ → X) (a n : ℕ) → ((i : ℕ) → i < n → P (f (a + i)))
    → All P (map f (range_with_len a n))
all_made P f a n holds =
    All-from_get_or P (map f (range_with_len a n)) (f a) (λ i inside.
    (let long : length (map f (range_with_len a n)) ≡ n = length-map-range_with_len f a n in
    let within : i < n = omega (arith, long) in
    rw (get_or-map-range_with_len f a n i (a + i) (f a) within refl) (holds i within)))

pub stack_count : (format : ValueFormat) (b : Board) (start count : ℕ)
    → length (stack_rows format b start count) ≡ min count (stack_words b.machine.regs.sp - start)
stack_count format b start count =
    length-map-range_with_len (λ index. word_row format b (stack_address b.machine.regs.sp index)) start
    (min count (stack_words b.machine.regs.sp - start))

pub stack_at : (format : ValueFormat) (b : Board) (start count : ℕ)
    → AreWordsFrom start format b (stack_rows format b start count)
stack_at format b start count i inside =
    let many = min count (stack_words b.machine.regs.sp - start) in
    let within : i < many = omega (arith, stack_count format b start count) in
    made_at (λ index. word_row format b (stack_address b.machine.regs.sp index)) start many i within

pub word_inside : (sp index : ℕ) → sp < 65536 → index < stack_words sp → stack_address sp index < 65536
word_inside sp index is_word within = omega arith

-- ---- where windows begin

pub memory_leads : (format : ValueFormat) (m : MachineState) (start count : ℕ)
    → All LeadsToNamed (memory_rows format m start count)
memory_leads format m start count =
    all_made LeadsToNamed (memory_row format m) start (min count (65536 - start))
    (λ i within. word_back (start + i) (omega arith))

pub stack_leads : (format : ValueFormat) (b : Board) (start count : ℕ) → b.machine.regs.sp < 65536
    → All LeadsToNamed (stack_rows format b start count)
stack_leads format b start count is_word =
    let sp = b.machine.regs.sp in
    all_made LeadsToNamed (λ index. word_row format b (stack_address sp index)) start
    (min count (stack_words sp - start))
    (λ i within.
    (let below : start + i < stack_words sp = omega arith in
    word_back (stack_address sp (start + i)) (word_inside sp (start + i) is_word below)))

-- ---- the scopes

-- the rows of a view come first in what an editor shows of the scope
abbrev Shows : Option Scope → Board → ℕ → ℕ → Type 0
Shows found b start count = (rows : List Variable) → variables_in found (parts_of b) start count ≡ Ok rows
    → IsOkAnd (rows_or_fault found b start count Hexadecimal) (ShowsView rows)

shows_given : (rows rows' : List Variable) (all : List EditorVariable)
    → ◌≡◌ {A = Result (List Variable) ViewFault} (Ok rows) (Ok rows') → ShowsView rows all
    → ShowsView rows' all
shows_given rows rows' all e shows =
    let same : rows ≡ rows' = cc in
    rw (← same) shows

in_scope : (found : Option Scope) (b : Board) (start count : ℕ) → Shows found b start count
in_scope None b start count = λ rows e. absurd cc
in_scope (Some scope.Registers) b start count = λ rows e.
    shows_given (register_variables b.machine.regs) rows (register_rows Hexadecimal b.machine.regs) e refl
in_scope (Some scope.Flags) b start count = λ rows e.
    shows_given (flag_variables b.machine.regs) rows (flag_rows Hexadecimal b.machine.regs) e refl
in_scope (Some scope.Devices) b start count = λ rows e.
    shows_given (device_variables (panel_after b.past)) rows (device_rows Hexadecimal (panel_after b.past))
    e refl
in_scope (Some scope.Symbols) b start count = λ rows e.
    shows_given _ rows _ e (shows_symbols b.symbols start (asked_for 256 256 count))
in_scope (Some scope.Memory) b start count = λ rows e.
    shows_given _ rows _ e (shows_memory b.machine start (asked_for 16 256 count))

pub shows_view : (b : Board) (reference start count : ℕ) (rows : List Variable)
    → variables_of (parts_of b) reference start count ≡ Ok rows
    → IsOkAnd (variables_on b reference start count Hexadecimal) (ShowsView rows)
shows_view b reference start count rows e = elim (cases_Bool (reference == stack_reference)) [
  | inl is ↦ (let six : reference ≡ 6 = eqb-true reference 6 is in
      absurd (let none = rw six at e in cc))
  | inr other ↦ rw other (in_scope (scope_with reference) b start count rows e)
]

-- ---- formats

-- rows that a function makes in one format, and a function in another
made_alike : {A : Type 0} (f g h : A → EditorVariable) → ((x : A) → without_text (f x) ≡ h x)
    → ((x : A) → without_text (g x) ≡ h x) → (xs : List A)
    → map without_text (map f xs) ≡ map without_text (map g xs)
made_alike f g h one other xs =
    map_map f without_text h one xs ∙ sym (map_map g without_text h other xs)

rows_alike : (scope : Scope) (b : Board) (start count : ℕ) (format other : ValueFormat)
    → map without_text (rows_in scope b start count format)
    ≡ map without_text (rows_in scope b start count other)
rows_alike scope.Registers b start count format other = refl
rows_alike scope.Flags b start count format other = refl
rows_alike scope.Devices b start count format other = refl
rows_alike scope.Symbols b start count format other =
    made_alike (symbol_row format) (symbol_row other) (λ e. row e.0 [] (Some e.1.value) (Some e.0))
    (λ e. refl) (λ e. refl) (page start (asked_for 256 256 count) b.symbols)
rows_alike scope.Memory b start count format other =
    made_alike (memory_row format b.machine) (memory_row other b.machine) (row_at (codes "[") [])
    (λ a. refl) (λ a. refl) (range_with_len start (min (asked_for 16 256 count) (65536 - start)))

stack_alike : (b : Board) (start count : ℕ) (format other : ValueFormat)
    → map without_text (stack_rows format b start count) ≡ map without_text (stack_rows other b start count)
stack_alike b start count format other =
    let sp = b.machine.regs.sp in
    made_alike (λ i. word_row format b (stack_address sp i)) (λ i. word_row other b (stack_address sp i))
    (λ i. row_at (codes "word[") [] (stack_address sp i)) (λ i. refl) (λ i. refl)
    (range_with_len start (min count (stack_words sp - start)))

scopes_alike : (found : Option Scope) (b : Board) (start count : ℕ) (format other : ValueFormat)
    → without_texts (rows_or_fault found b start count format)
    ≡ without_texts (rows_or_fault found b start count other)
scopes_alike None b start count format other = refl
scopes_alike (Some scope) b start count format other =
    ap (λ (rows : List EditorVariable). Ok rows) (rows_alike scope b start count format other)

pub formats_alike : (b : Board) (reference start count : ℕ) (format other : ValueFormat)
    → without_texts (variables_on b reference start count format)
    ≡ without_texts (variables_on b reference start count other)
formats_alike b reference start count format other = elim (cases_Bool (reference == stack_reference)) [
  | inl is ↦ rw is
      (ap (λ (rows : List EditorVariable). Ok rows)
      (stack_alike b start (asked_for 16 256 count) format other))
  | inr others ↦ rw others (scopes_alike (scope_with reference) b start count format other)
]
