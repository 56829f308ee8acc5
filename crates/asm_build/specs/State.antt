-- What the rounds keep of the lines so far, as definitions see it.
use Rattle.std.specs.Prelude.{◌≡◌, ℕ, List, [], ◌∷◌, ◌++◌, false, ◌||◌, Option, if◌then◌else◌, length}
use Rattle.std.specs.List.{list_any}
use Rattle.asm_syntax.specs.declared.statement.Statement.{Statement}
use Rattle.asm_syntax.specs.declared.fault.LineFault.{LineFault}
use Rattle.asm_syntax.specs.declared.fault.LineFault.TheVariants as line
use Rattle.asm_syntax.specs.declared.fault.AsmFault.{AsmFault}
use Rattle.asm_syntax.specs.declared.fault.AsmFault.TheVariants as asm
use Rattle.asm_build.specs.declared.laid.Laid.{Laid}
use Rattle.asm_build.specs.declared.layout.Layout.{Layout}
use Rattle.asm_build.specs.declared.values.Values.{Values}
use Rattle.asm_build.specs.Statements.{on_action, is_end, definition_of}
use Rattle.asm_build.specs.Reading.{Entries, Lines, symbol_at, value_in, late_symbol, parts_past, next_place}
use Rattle.asm_build.specs.Reading.{place_after, parts_after, has_ended}
use Rattle.asm_build.specs.Layout.{Past, is_among, Adds, needs, uses}
use Rattle.asm_build.specs.Meaning.{Output, with_definition, definitions}

-- statements, each beside how it is laid out, after these lines
abbrev pub lines_of : Lines → List Statement → List Laid → Lines
lines_of earlier (s ∷ ss) (r ∷ rs) = lines_of ((s, r) ∷ earlier) ss rs
lines_of earlier [] rs = earlier
lines_of earlier (s ∷ ss) [] = earlier

-- what symbols and sets of names say of a name
abbrev pub past_in : Entries → Entries → List (List ℕ) → List (List ℕ) → Past
past_in kept own needed used = record {
  kept = symbol_at kept;
  defined = symbol_at own;
  needed = λ x. is_among x needed;
  used = λ x. is_among x used;
}

-- what a layout says of a name
abbrev pub past_of : Entries → Layout → Past
past_of kept l = past_in kept l.own l.needed l.used

-- the cell's own symbols with the definition of a line
abbrev pub with_line_definition : Entries → Statement → Laid → Entries
with_line_definition es s r =
    if r.is_assembled then with_definition (definition_of s) r es else es

-- the new layout is the old one after a statement that is laid out so
pub record LaysOutNext (old new : Layout) (s : Statement) (r : Laid) : Type 0 where
  pub own : new.own ≡ with_line_definition old.own s r
  pub needed : Adds (needs (s, r)) old.needed new.needed
  pub used : Adds (uses (s, r)) old.used new.used
  pub parts : new.parts ≡ on_action (parts_past old.parts r.value) old.parts s
  pub place : new.place ≡ next_place (s, r)
  pub ended : new.has_ended ≡ (on_action is_end false s || old.has_ended)
  pub rows : new.rows.items ≡ old.rows.items ++ r ∷ []

-- a line's fault in its cell
abbrev pub fault_on_line : ℕ → LineFault → AsmFault
fault_on_line n line.OutOfMemory = asm.OutOfMemory
fault_on_line n (line.At column kind) = asm.At n column kind

-- a layout is what is known after these lines
pub record IsLayoutAfter (earlier : Lines) (l : Layout) : Type 0 where
  pub own : l.own ≡ definitions earlier
  pub needed : (x : List ℕ) → is_among x l.needed ≡ list_any (λ p. needs p x) earlier
  pub used : (x : List ℕ) → is_among x l.used ≡ list_any (λ p. uses p x) earlier
  pub parts : l.parts ≡ parts_after earlier
  pub place : l.place ≡ place_after earlier
  pub ended : l.has_ended ≡ has_ended earlier

-- what the cell's symbols, its SETs so far and the kept symbols give a late operand
abbrev pub late_in : Entries → Entries → Entries → List ℕ → Option ℕ
late_in own sets kept x =
    value_in (late_symbol (symbol_at own x) (symbol_at sets x) (symbol_at kept x))

-- the output of the value round so far
abbrev pub output_in : Values → Output
output_in v = record { image = v.image; rows = v.rows.items; start = v.start }

-- a layout is that of these statements: a row for each, and the symbols that they define
pub record IsLaidOut (l : Layout) (ss : List Statement) : Type 0 where
  pub rows : length l.rows.items ≡ length ss
  pub own : l.own ≡ definitions (lines_of [] ss l.rows.items)
