-- What holds of every command that was read.
use Rattle.std.proofs.Common.{
  ◌≡◌,
  ℕ,
  ◌≤◌,
  List,
  [],
  ◌∷◌,
  length,
  Bool,
  true,
  false,
  cond,
  nat_le,
  ◌&&◌,
  Option,
  Some,
  None,
  option_map,
  option_and_then,
  codes,
  refl,
  sym,
  ap,
  ◌∙◌,
  subst,
  arith,
}
use Rattle.std.proofs.lemmas.Bool.Decides.{nat_tests}
use Rattle.serde_json.specs.Data.{Data, Items, no_items, item}
use Rattle.serde_json.specs.Events.{items_len}
use Rattle.serde_json.specs.Find.{as_array}
use Rattle.dap_talk.specs.declared.command.CommandName.{CommandName}
use Rattle.dap_talk.specs.declared.command.CommandName.TheVariants as name
use Rattle.dap_talk.specs.declared.command.DapCommand.{DapCommand}
use Rattle.dap_talk.specs.Argument.{
  source,
  address,
  Found,
  found_number,
  found_lines,
  Argument,
  required_argument,
  argument_at,
  argument_value,
  found_or,
  all_found,
  line_of,
  lines_of,
  at_most_256,
  whole,
  when_between,
}
use Rattle.dap_talk.specs.Table.{
  arguments_of,
  command_of,
  name_of,
  command_asked,
  IsBounded,
  number_in,
  lines_in,
  count_to_256,
  number_or_0,
  breakpoints_or_none,
}

-- ---- the name

name_of-command_of : (n : CommandName) (vs : List Found) → name_of (command_of n vs) ≡ n
name_of-command_of name.Initialize vs = refl
name_of-command_of _ vs = refl

-- the values that a command was made of
made_of : (n : CommandName) (o : Option (List Found)) (c : DapCommand)
    → option_map (command_of n) o ≡ Some c
    → (vs : List Found) × (o ≡ Some vs) × (command_of n vs ≡ c)
made_of n None c e = absurd (cc)
made_of n (Some vs) c e = (vs, refl, cc)

pub name_of-asked : (n : CommandName) (d : Data) (c : DapCommand) → command_asked n d ≡ Some c
    → name_of c ≡ n
name_of-asked n d c e =
    let made = made_of n (all_found (arguments_of n) d) c e in
    ap name_of (sym made.2) ∙ name_of-command_of n made.0

-- ---- the bounds

-- the first value and the others
record Splits (o : Option Found) (p : Option (List Found)) (vs : List Found) : Type 0 where
  first : Found
  others : List Found
  here : o ≡ Some first
  after : p ≡ Some others
  whole_is : first ∷ others ≡ vs

splits : (o : Option Found) (p : Option (List Found)) (vs : List Found)
    → option_and_then (λ v. option_map (λ ws. v ∷ ws) p) o ≡ Some vs → Splits o p vs
splits None p vs e = absurd (cc)
splits (Some v) None vs e = absurd (cc)
splits (Some v) (Some ws) vs e = record {
  first = v;
  others = ws;
  here = refl;
  after =
      refl;
  whole_is = cc;
}

abbrev IsCount : Found → Type 0
IsCount v = (1 ≤ number_in v) × (number_in v ≤ 256)

counted_by : (b : Bool) (n : ℕ) (v : Found) → (b ≡ true → (1 ≤ n) × (n ≤ 256))
    → option_map found_number (cond b (Some n) None) ≡ Some v → IsCount v
counted_by true n v within e = let same : found_number n ≡ v = cc in subst IsCount same
    (within refl)
counted_by false n v within e = absurd (cc)

within_count : (n : ℕ) → (nat_le 1 n && nat_le n 256) ≡ true → (1 ≤ n) × (n ≤ 256)
within_count n e = grind (arith, nat_tests)

counted_whole : (o : Option ℕ) (v : Found) → option_map found_number (option_and_then
    (when_between 1 256) o) ≡ Some v → IsCount v
counted_whole None v e = absurd (cc)
counted_whole (Some n) v e = counted_by (nat_le 1 n && nat_le n 256) n v (within_count n) e

counted_at : (key : List ℕ) (o : Option (Option Data)) (v : Found)
    → option_and_then (found_or (required_argument key count_to_256)) o ≡ Some v → IsCount v
counted_at key None v e = absurd (cc)
counted_at key (Some None) v e = absurd (cc)
counted_at key (Some (Some x)) v e = counted_whole (whole x) v e

abbrev IsShort : Found → Type 0
IsShort v = length (lines_in v) ≤ 256

pushed : (o : Option ℕ) (p : Option (List ℕ)) (ls : List ℕ)
    → option_and_then (λ n. option_map (λ ns. n ∷ ns) p) o ≡ Some ls
    → (n : ℕ) × (ns : List ℕ) × (p ≡ Some ns) × (n ∷ ns ≡ ls)
pushed None p ls e = absurd (cc)
pushed (Some n) None ls e = absurd (cc)
pushed (Some n) (Some ns) ls e = (n, ns, refl, cc)

length-lines_of : (ds : Items) (ls : List ℕ) → lines_of ds ≡ Some ls → length ls ≡ items_len ds
length-lines_of no_items ls e = let is : [] ≡ ls = cc in ap length (sym is)
length-lines_of (item d ds) ls e =
    let p = pushed (line_of d) (lines_of ds) ls e in
    let short : length p.1 ≡ items_len ds = length-lines_of ds p.1 p.2 in
    ap length (sym p.3) ∙ omega (arith, short)

short_lines : (ds : Items) (o : Option (List ℕ)) (v : Found) → lines_of ds ≡ o
    → items_len ds ≤ 256 → option_map found_lines o ≡ Some v → IsShort v
short_lines ds None v is short e = absurd (cc)
short_lines ds (Some ls) v is short e =
    let long : length ls ≤ 256 = omega (arith, length-lines_of ds ls is) in
    let same : found_lines ls ≡ v = cc in
    subst IsShort same long

short_by : (b : Bool) (ds : Items) (v : Found) → (b ≡ true → items_len ds ≤ 256)
    → option_map found_lines (option_and_then lines_of (cond b (Some ds) None)) ≡ Some v → IsShort v
short_by true ds v within e = short_lines ds (lines_of ds) v refl (within refl) e
short_by false ds v within e = absurd (cc)

few : (n : ℕ) → nat_le n 256 ≡ true → n ≤ 256
few n e = grind (arith, nat_tests)

short_items : (o : Option Items) (v : Found) → option_map found_lines (option_and_then lines_of
    (option_and_then at_most_256 o)) ≡ Some v → IsShort v
short_items None v e = absurd (cc)
short_items (Some ds) v e = short_by (nat_le (items_len ds) 256) ds v (few (items_len ds)) e

short_at : (key : List ℕ) (o : Option (Option Data)) (v : Found)
    → option_and_then (found_or (breakpoints_or_none key)) o ≡ Some v → IsShort v
short_at key None v e = absurd (cc)
short_at key (Some None) v e =
    let same : found_lines [] ≡ v = cc in
    let empty : IsShort (found_lines []) = omega arith in
    subst IsShort same empty
short_at key (Some (Some x)) v e = short_items (as_array x) v e

two : (a b : Found) (es w vs : List Found) → b ∷ es ≡ w → a ∷ w ≡ vs → a ∷ b ∷ es ≡ vs
two a b es w vs e f = cc

four : (a b c d : Found) (es w x y vs : List Found) → d ∷ es ≡ y → c ∷ y ≡ x → b ∷ x ≡ w
    → a ∷ w ≡ vs → a ∷ b ∷ c ∷ d ∷ es ≡ vs
four a b c d es w x y vs e f g h = cc

bounded_by : (n : CommandName) (vs ws : List Found) (c : DapCommand) → command_of n vs ≡ c
    → ws ≡ vs → IsBounded (command_of n ws) → IsBounded c
bounded_by n vs ws c made whole_is within =
    let along : command_of n ws ≡ c = ap (command_of n) whole_is ∙ made in
    subst IsBounded along within

set_breakpoints_bounded : (d : Data) (c : DapCommand) → command_asked name.SetBreakpoints d ≡ Some c
    → IsBounded c
set_breakpoints_bounded d c e =
    let made = made_of name.SetBreakpoints (all_found (arguments_of name.SetBreakpoints) d) c e in
    let s : Splits _ _ _ = splits (argument_value (required_argument (codes "source") source) d) (all_found
    (breakpoints_or_none (codes "breakpoints") ∷ []) d) made.0 made.1 in
    let t : Splits _ _ _ = splits (argument_value (breakpoints_or_none (codes "breakpoints")) d)
    (Some []) s.others s.after in
    let short : IsShort t.first = short_at (codes "breakpoints") (argument_at
    (codes "breakpoints") d) t.first t.here in
    bounded_by name.SetBreakpoints made.0 (s.first ∷ t.first ∷ t.others) c made.2
    (two s.first t.first t.others s.others made.0 t.whole_is s.whole_is) short

disassemble_bounded : (d : Data) (c : DapCommand) → command_asked name.Disassemble d ≡ Some c → IsBounded c
disassemble_bounded d c e =
    let made = made_of name.Disassemble (all_found (arguments_of name.Disassemble) d) c e in
    let last : List Argument = required_argument (codes "instructionCount") count_to_256 ∷ [] in
    let third : List Argument = number_or_0 (codes "instructionOffset") ∷ last in
    let second : List Argument = number_or_0 (codes "offset") ∷ third in
    let s : Splits _ _ _ = splits (argument_value (required_argument (codes "memoryReference") address) d)
    (all_found second d) made.0 made.1 in
    let t : Splits _ _ _ = splits (argument_value (number_or_0 (codes "offset")) d)
    (all_found third d) s.others s.after in
    let u : Splits _ _ _ = splits (argument_value (number_or_0 (codes "instructionOffset")) d)
    (all_found last d) t.others t.after in
    let v : Splits _ _ _ = splits
    (argument_value (required_argument (codes "instructionCount") count_to_256) d)
    (Some []) u.others u.after in
    let counted : IsCount v.first = counted_at (codes "instructionCount") (argument_at
    (codes "instructionCount") d) v.first v.here in
    bounded_by name.Disassemble made.0 (s.first ∷ t.first ∷ u.first ∷ v.first ∷ v.others) c made.2
    (four s.first t.first u.first v.first v.others s.others t.others u.others made.0
    v.whole_is u.whole_is t.whole_is s.whole_is) counted

-- a command without bounds
free : (n : CommandName) (d : Data) (c : DapCommand) → ((vs : List Found)
    → IsBounded (command_of n vs)) → command_asked n d ≡ Some c → IsBounded c
free n d c all e =
    let made = made_of n (all_found (arguments_of n) d) c e in
    subst IsBounded made.2 (all made.0)

pub asked_bounded : (n : CommandName) (d : Data) (c : DapCommand) → command_asked n d ≡ Some c → IsBounded c
asked_bounded name.SetBreakpoints d c e = set_breakpoints_bounded d c e
asked_bounded name.Disassemble d c e = disassemble_bounded d c e
asked_bounded n d c e = free n d c (λ vs. tt) e
