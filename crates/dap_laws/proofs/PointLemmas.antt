-- A breakpoint that is told as verified is met.
use Rattle.std.proofs.Common.{◌≡◌, ◌∙◌, ◌⊎◌, ℕ, List, [], ◌∷◌, ◌++◌, inl, inr, is_none}
use Rattle.std.proofs.Common.{zero, Bool, true, false, ◌||◌, ◌&&◌, if◌then◌else◌, option_and_then, option_map}
use Rattle.std.proofs.Common.{◌==◌, Option, Some, None, refl, sym, ap, subst, ⊎_elim, arith}
use Rattle.std.specs.List.{Contains, list_any, filter_map, cons_option}
use Rattle.std.proofs.lemmas.List.Elements.{Contains-append_cases, Contains-push_cases}
use Rattle.std.proofs.lemmas.List.Elements.{Contains-append_left, Contains-append_right}
use Rattle.std.proofs.lemmas.Bool.Decides.{nat_tests}
use Rattle.base_text.specs.Bytes.{Text}
use Rattle.lab_image.specs.declared.lists.BreakpointList.{BreakpointList}
use Rattle.lab_image.specs.Breakpoints.{list_of, with_lines, has_breakpoint, is_met_by, is_met}
use Rattle.lab_image.specs.Sources.{source_at}
use Rattle.lab_core.specs.declared.event.Event.TheVariants.{SetBreakpoints}
use Rattle.lab_core.specs.Board.{Board}
use Rattle.dap_messages.specs.declared.message.PlacedBreakpoint.{PlacedBreakpoint}
use Rattle.dap_slice.specs.declared.conditions.ConditionalBreakpoint.{ConditionalBreakpoint}
use Rattle.dap_slice.specs.declared.conditions.Trigger.{Trigger}
use Rattle.dap_slice.specs.declared.conditions.Trigger.TheVariants.{Address}
use Rattle.dap_messages.specs.declared.message.BreakpointOptions.{BreakpointOptions}
use Rattle.dap_points.specs.Boards.{is_plain, verified_line}
use Rattle.dap_points.specs.Placed.{no_options}
use Rattle.dap_run.specs.Boards.{after}
use Rattle.dap_conditions.specs.Conditions.{log_read, with_log, stop_at, stop_with, own_stop, breakpoint_at}
use Rattle.dap_conditions.specs.Conditions.{plain_point, conditional_point, conditional_points}
use Rattle.dap_disassembly.specs.Targets.{first_target}
use Rattle.dap_run.specs.declared.program.Program.{Program}
use Rattle.dap_breakpoints.specs.Arming.{ProgramLists, placed_on, armed_for, conditional_in, off_lines}
use Rattle.dap_breakpoints.specs.Arming.{conditional_for}
use Rattle.dap_laws.specs.Points.{told_on, IsVerified, BeginsOn, IsMetByBoard, IsMetInSlices, AsksFor}

-- ---- lists of lines

same_line : (n : ℕ) → (n == n) ≡ true
same_line n = grind (arith, nat_tests)

any_line : (lines : List ℕ) (line : ℕ) → Contains lines line → list_any (λ n. n == line) lines ≡ true
any_line [] line has = absurd (omega (arith, has.1))
any_line (x ∷ xs) line has =
    ⊎_elim
    (λ alone. ⊎_elim
    (λ none. absurd (omega (arith, none.1)))
    (λ same. subst (λ n. ((n == line) || list_any (λ n. n == line) xs) ≡ true) (sym same)
    (ap (λ first. first || list_any (λ n. n == line) xs) (same_line line)))
    (Contains-push_cases [] x line alone))
    (λ later. either (x == line) (list_any (λ n. n == line) xs) (any_line xs line later))
    (Contains-append_cases (x ∷ []) xs line has)
  where
    either : (first others : Bool) → others ≡ true → (first || others) ≡ true
    either true others is = refl
    either false others is = is

in_list : (n : ℕ) (lines : List ℕ) (line : ℕ) (others : List BreakpointList) → Contains lines line
    → has_breakpoint (list_of n lines ++ others) n line ≡ true
in_list n [] line others has = absurd (omega (arith, has.1))
in_list n (x ∷ xs) line others has = rw (same_line n, any_line (x ∷ xs) line has) refl

in_lists : (n : ℕ) (lines : List ℕ) (line : ℕ) (lists : List BreakpointList) → Contains lines line
    → has_breakpoint (with_lines n lines lists) n line ≡ true
in_lists n lines line [] has = subst (λ ls. has_breakpoint ls n line ≡ true) (append-nil (list_of n lines))
    (in_list n lines line [] has)
  where
    append-nil : (ls : List BreakpointList) → (ls ++ []) ≡ ls
    append-nil [] = refl
    append-nil (l ∷ ls) = ap (λ rest. l ∷ rest) (append-nil ls)
in_lists n lines line (l ∷ ls) has = by (l.source == n) refl (in_lists n lines line ls has)
  where
    by : (is_source : Bool) → (l.source == n) ≡ is_source
        → has_breakpoint (with_lines n lines ls) n line ≡ true
        → has_breakpoint (with_lines n lines (l ∷ ls)) n line ≡ true
    by true is later = rw is (in_list n lines line ls has)
    by false is later = rw (is, is) later

-- ---- the board

set_lines : (path : Text) (lines : List ℕ) (b : Board) (n : ℕ) (text : Text)
    → source_at b.sources path ≡ Some (n, text)
    → (after (SetBreakpoints path lines) b).breakpoints ≡ with_lines n lines b.breakpoints
set_lines path lines b n text is = rw is refl

-- the board stops where a line that it takes begins
armed_met : (p : Program) (w : ProgramLists) (b : Board) (line address : ℕ) → BeginsOn p line b address
    → Contains (placed_on b w).on_board line → is_met (armed_for p w b).breakpoints b.loads address ≡ true
armed_met p w b line address begins has =
    let taken = (placed_on b w).on_board in
    let armed : (armed_for p w b).breakpoints ≡ with_lines begins.number taken b.breakpoints =
    set_lines p.launch.program taken b begins.number begins.text begins.source in
    ap (λ o. is_met_by (armed_for p w b).breakpoints o) begins.origin
    ∙ (ap (λ lists. has_breakpoint lists begins.number line) armed
    ∙ in_lists begins.number taken line b.breakpoints has)

-- ---- options

at_head : {B : Type 0} (found : Option B) (others : List B) (y : B) → found ≡ Some y
    → Contains (cons_option found others) y
at_head None others y is = absurd cc
at_head (Some z) others y is = let same : z ≡ y = cc in (zero, omega arith, same)

later_on : {B : Type 0} (found : Option B) (others : List B) (y : B) → Contains others y
    → Contains (cons_option found others) y
later_on None others y has = has
later_on (Some z) others y has = Contains-append_right (z ∷ []) others y has

-- what a function makes of an item is among what it makes of all
made_of : {A B : Type 0} (f : A → Option B) (xs : List A) (x : A) (y : B) → Contains xs x → f x ≡ Some y
    → Contains (filter_map f xs) y
made_of f [] x y has is = absurd (omega (arith, has.1))
made_of f (z ∷ xs) x y has is =
    ⊎_elim
    (λ alone. ⊎_elim
    (λ none. absurd (omega (arith, none.1)))
    (λ same. at_head (f z) (filter_map f xs) y (ap f same ∙ is))
    (Contains-push_cases [] z x alone))
    (λ behind. later_on (f z) (filter_map f xs) y (made_of f xs x y behind is))
    (Contains-append_cases (z ∷ []) xs x has)

made_at : (p : Program) (b : Board) (point : PlacedBreakpoint) (kept : ConditionalBreakpoint)
    → (taken : List ℕ) → AsksFor p b point kept
    → conditional_point p.launch.program taken b point ≡ Some kept
made_at p b point kept taken asks =
    let path = p.launch.program in
    let o = point.options in
    let id = point.id in
    let there : Trigger = Address asks.target.address in
    let at : Bool → Option ConditionalBreakpoint =
    λ plain. if plain then plain_point path taken b point (verified_line point)
    else breakpoint_at id path o (option_and_then (first_target b) point.line) in
    let told : Option ConditionalBreakpoint → Option ConditionalBreakpoint =
    option_and_then (with_log path asks.target (log_read o.log_message)) in
    ap at asks.some
    ∙ (ap (breakpoint_at id path o) asks.begins
    ∙ (ap (λ c. told (stop_with id there o.hit_condition c)) asks.condition_is
    ∙ (ap (λ h. told (option_map (stop_at id there asks.condition) h)) asks.hits_are
    ∙ (ap (λ m. with_log path asks.target m (stop_at id there asks.condition asks.hits)) asks.message_is
    ∙ ap (λ k. Some k) (sym asks.kept_is)))))

-- what is made of one that is told is among all at which a debugged run stops
among : (p : Program) (w : ProgramLists) (b : Board) (point : PlacedBreakpoint)
    (kept : ConditionalBreakpoint) → p.launch.is_debugged ≡ true → Contains (told_on b w) point
    → conditional_point p.launch.program (placed_on b w).on_board b point ≡ Some kept
    → Contains (conditional_for p w b) kept
among p w b point kept debugged told there =
    let path = p.launch.program in
    let lists = placed_on b w in
    let make = conditional_point path lists.on_board b in
    let of_lines = conditional_points path lists.on_board b lists.lines in
    let of_labels = conditional_points path lists.on_board b lists.labels in
    let all = of_lines ++ of_labels in
    let is_all : conditional_in p b lists ≡ all = ap (λ d. if d then all else []) debugged in
    let on_lines : Contains (conditional_in p b lists) kept =
    subst (λ points. Contains points kept) (sym is_all) (⊎_elim
    (λ on_line. Contains-append_left of_lines of_labels kept
    (made_of make lists.lines point kept on_line there))
    (λ at_label. Contains-append_right of_lines of_labels kept
    (made_of make lists.labels point kept at_label there))
    (Contains-append_cases lists.lines lists.labels point told)) in
    Contains-append_left (conditional_in p b lists) (off_lines p w b) kept on_lines

pub options_kept : (p : Program) (w : ProgramLists) (b : Board) (point : PlacedBreakpoint)
    (kept : ConditionalBreakpoint) → Contains (told_on b w) point → AsksFor p b point kept
    → Contains (conditional_for p w b) kept
options_kept p w b point kept told asks =
    among p w b point kept asks.is_debugged told (made_at p b point kept (placed_on b w).on_board asks)

-- ---- none

-- what is made of one without options
no_condition : (x : Option Text) (others : Bool) → (is_none x && others) ≡ true → x ≡ None
no_condition None others is = refl
no_condition (Some text) others is = absurd cc

and_then : (x others : Bool) → (x && others) ≡ true → others ≡ true
and_then true others is = is
and_then false others is = absurd cc

last_none : (x : Option Text) → is_none x ≡ true → x ≡ None
last_none None is = refl
last_none (Some text) is = absurd cc

plain_options : (o : BreakpointOptions) → is_plain o ≡ true → o ≡ no_options
plain_options o is =
    let c = no_condition o.condition _ is in
    let rest = and_then (is_none o.condition) _ is in
    let h = no_condition o.hit_condition _ rest in
    let l = last_none o.log_message (and_then (is_none o.hit_condition) _ rest) in
    let made : BreakpointOptions → Type 0 = λ x. o ≡ x in
    ap (λ x. record { condition = x; hit_condition = o.hit_condition; log_message = o.log_message }) c
    ∙ (ap (λ x. record { condition = None; hit_condition = x; log_message = o.log_message }) h
    ∙ ap (λ x. record { condition = None; hit_condition = None; log_message = x }) l)

on_line : (v : Bool) (line : Option ℕ) (n : ℕ) → v ≡ true → line ≡ Some n
    → (if v then line else None) ≡ Some n
on_line true line n is at = at
on_line false line n is at = absurd cc

made_plain : (path : Text) (taken : List ℕ) (b : Board) (point : PlacedBreakpoint) (line : ℕ)
    → point.is_verified ≡ true → is_plain point.options ≡ true → point.line ≡ Some line
    → conditional_point path taken b point
    ≡ (if list_any (λ l. l == line) taken then Some (own_stop point.id line)
    else breakpoint_at point.id path no_options (first_target b line))
made_plain path taken b point line verified plain at =
    rw plain (rw (on_line point.is_verified point.line line verified at)
    (ap (λ o. if list_any (λ l. l == line) taken then Some (own_stop point.id line)
    else breakpoint_at point.id path o (first_target b line)) (plain_options point.options plain)))

found : (lines : List ℕ) (line : ℕ) → list_any (λ l. l == line) lines ≡ true → Contains lines line
found [] line is = absurd cc
found (l ∷ ls) line is = by (l == line) refl is (found ls line)
  where
    same : (l == line) ≡ true → l ≡ line
    same e = grind (arith, nat_tests)

    by : (here : Bool) → (l == line) ≡ here → (here || list_any (λ m. m == line) ls) ≡ true
        → (list_any (λ m. m == line) ls ≡ true → Contains ls line) → Contains (l ∷ ls) line
    by true e is rest = (0, omega arith, same e)
    by false e is rest = Contains-append_right (l ∷ []) ls line (rest is)

pub verified_met : (p : Program) (w : ProgramLists) (b : Board) (line : ℕ) (v : IsVerified w b line)
    (address : ℕ) → BeginsOn p line b address → IsMetByBoard p w b v address ⊎ IsMetInSlices p w b v
verified_met p w b line v address begins = by (list_any (λ l. l == line) taken) refl
  where
    taken : List ℕ
    taken = (placed_on b w).on_board

    id : ℕ
    id = v.point.id

    made : conditional_point p.launch.program taken b v.point
        ≡ (if list_any (λ l. l == line) taken then Some (own_stop id line)
        else breakpoint_at id p.launch.program no_options (first_target b line))
    made = made_plain p.launch.program taken b v.point line v.is_verified v.plain v.on

    by : (here : Bool) → list_any (λ l. l == line) taken ≡ here
        → IsMetByBoard p w b v address ⊎ IsMetInSlices p w b v
    by true is = inl (
      armed_met p w b line address begins (found taken line is),
      λ debugged. among p w b v.point (own_stop id line) debugged v.told (rw is at made),
    )
    by false is = inr (λ target first debugged.
        among p w b v.point (stop_at id (Address target.address) None None) debugged v.told
        ((rw is at made) ∙ ap (breakpoint_at id p.launch.program no_options) first))
