-- What one more operation makes of the panel.
use Rattle.std.proofs.Common.{
  ◌≡◌,
  List,
  [],
  ◌∷◌,
  ◌++◌,
  Bool,
  true,
  false,
  Option,
  Some,
  None,
  unwrap_or,
  cond,
  ◌==◌,
  drop,
  refl,
  ap,
  sym,
  ◌∙◌,
  append-nil,
}
use Rattle.std.specs.List.{filter_map, cons_option, last_or}
use Rattle.std.proofs.lemmas.List.Elements.{filter_map-append}
use Rattle.std.proofs.lemmas.Grind.{fold-append}
use Rattle.i80_base.specs.declared.ports.PortOperation.TheVariants.{In, Out}
use Rattle.i80_devs.specs.Past.{
  Operation,
  Port,
  PanelState,
  last_set,
  waiting_after,
  switches_of,
  lamps_of,
  latched_of,
  panel_after,
  panel_next,
}

last_or-append : {A : Type 0} (o : Option A) (x : A) (xs : List A) → last_or o (xs ++ x ∷ []) ≡ Some x
last_or-append o x [] = refl
last_or-append o x (y ∷ ys) = last_or-append (Some y) x ys

last_or-option : {A : Type 0} (d : A) (xs : List A) (o : Option A)
    → unwrap_or (last_or None (xs ++ cons_option o [])) d ≡ unwrap_or o (unwrap_or (last_or None xs) d)
last_or-option d xs None = ap (λ ys. unwrap_or (last_or None ys) d) (append-nil xs)
last_or-option d xs (Some x) = ap (λ o. unwrap_or o d) (last_or-append None x xs)

-- what was last set, after one more operation
last_set-append : {A : Type 0} (d : A) (h : Operation → Option A) (past : List Operation) (o : Operation)
    → last_set d h (past ++ o ∷ []) ≡ unwrap_or (h o) (last_set d h past)
last_set-append d h past o =
    ap (λ xs. unwrap_or (last_or None xs) d) (filter_map-append h past (o ∷ []))
    ∙ last_or-option d (filter_map h past) (h o)

-- the panel with each of its parts set by the operation where that sets it
abbrev set_by : PanelState → Operation → PanelState
set_by p o = record {
  waiting = waiting_after p.waiting o;
  switches = unwrap_or (switches_of o) p.switches;
  lamps = unwrap_or (lamps_of o) p.lamps;
  latched = unwrap_or (latched_of o) p.latched;
}

set_after : (past : List Operation) (o : Operation)
    → panel_after (past ++ o ∷ []) ≡ set_by (panel_after past) o
set_after past o =
    rw (
      fold-append waiting_after [] past (o ∷ []),
      last_set-append 0 switches_of past o,
      last_set-append 0 lamps_of past o,
      last_set-append None latched_of past o,
    ) refl

set_next : (p : PanelState) (o : Operation) → set_by p o ≡ panel_next p o
set_next p (Port (In port byte)) =
    elim (port == 1) as (λ (b : Bool).
    (let q : PanelState = record p { waiting = cond b (drop 1 p.waiting) p.waiting } in q)
    ≡ cond b (record p { waiting = drop 1 p.waiting }) p) [ true ↦ refl | false ↦ refl ]
set_next p (Port (Out port byte)) =
    elim (port == 2) as (λ (b : Bool).
    (let q : PanelState = record p { lamps = unwrap_or (cond b (Some byte) None) p.lamps } in q)
    ≡ cond b (record p { lamps = byte }) p) [ true ↦ refl | false ↦ refl ]
set_next p _ = refl

pub panel_more : (past : List Operation) (o : Operation)
    → panel_after (past ++ o ∷ []) ≡ panel_next (panel_after past) o
panel_more past o = set_after past o ∙ set_next (panel_after past) o

-- a panel that is the next one is what one more operation makes of the past
pub next_after : (o : Operation) (old new : PanelState) (past : List Operation)
    → new ≡ panel_next old o → old ≡ panel_after past → new ≡ panel_after (past ++ o ∷ [])
next_after o old new past next represents =
    next ∙ ap (λ (p : PanelState). panel_next p o) represents ∙ sym (panel_more past o)
