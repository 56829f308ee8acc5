-- The devices, as a function of the list of all operations on them.
use Rattle.std.specs.Prelude.{
  ◌≡◌,
  ℕ,
  ◌+◌,
  List,
  [],
  ◌∷◌,
  ◌++◌,
  Option,
  Some,
  None,
  drop,
  ◌==◌,
  if◌then◌else◌,
}
use Rattle.std.specs.Option.{unwrap_or}
use Rattle.std.specs.List.{fold, filter_map, last_or}
use Rattle.i80_base.specs.declared.ports.PortOperation.{PortOperation}
use Rattle.i80_base.specs.declared.ports.PortOperation.TheVariants.{In, Out}

-- an operation: by the program, at the console, at the panel, or by the board that accepts a request
pub data Operation : Type 0 where
  Port : PortOperation → Operation
  Typed : List ℕ → Operation
  Switches : ℕ → Operation
  Press : ℕ → Operation
  Taken : Operation

-- typed bytes wait after those that wait already, and each IN 1 takes the first if there is one
abbrev pub waiting_after : List ℕ → Operation → List ℕ
waiting_after waiting (Typed bytes) = waiting ++ bytes
waiting_after waiting (Port (In port byte)) = if port == 1 then (drop 1 waiting) else waiting
waiting_after waiting _ = waiting

-- what an operation sets the switches to
abbrev pub switches_of : Operation → Option ℕ
switches_of (Switches byte) = Some byte
switches_of _ = None

-- OUT 2 sets the lamps
abbrev pub lamps_of : Operation → Option ℕ
lamps_of (Port (Out port byte)) = if port == 2 then (Some byte) else None
lamps_of _ = None

-- a press latches a request, and taking it leaves none
abbrev pub latched_of : Operation → Option (Option ℕ)
latched_of (Press n) = Some (Some n)
latched_of Taken = Some None
latched_of _ = None

-- the state that the answers of the devices depend on
pub record PanelState : Type 0 where
  pub waiting : List ℕ
  pub switches : ℕ
  pub lamps : ℕ
  pub latched : Option ℕ

-- what the operations last set a part of the panel to, or its first value if none sets it
abbrev pub last_set : {A : Type 0} → A → (Operation → Option A) → List Operation → A
last_set first set_to past = unwrap_or (last_or None (filter_map set_to past)) first

-- after all these operations
abbrev pub panel_after : List Operation → PanelState
panel_after past = record {
  waiting = fold waiting_after [] past;
  switches = last_set 0 switches_of past;
  lamps = last_set 0 lamps_of past;
  latched = last_set None latched_of past;
}

abbrev pub one_if_any : List ℕ → ℕ
one_if_any [] = 0
one_if_any (byte ∷ bytes) = 1

abbrev pub first_or_zero : List ℕ → ℕ
first_or_zero [] = 0
first_or_zero (byte ∷ bytes) = byte

-- IN 0 returns whether a byte waits, with bit 1 set; IN 1 this byte, or 0; IN 2 the switches; all others FFh
abbrev pub answer : PanelState → ℕ → ℕ
answer p port =
    if port == 0 then (2 + one_if_any p.waiting) else
    (if port == 1 then (first_or_zero p.waiting) else
    (if port == 2 then p.switches else 255))

abbrev pub after : PanelState → PortOperation → PanelState
after p (In port byte) = if port == 1 then (record p { waiting = drop 1 p.waiting }) else p
after p (Out port byte) = if port == 2 then (record p { lamps = byte }) else p

-- what one more operation makes of the panel
abbrev pub panel_next : PanelState → Operation → PanelState
panel_next p (Port o) = after p o
panel_next p (Typed bytes) = record p { waiting = p.waiting ++ bytes }
panel_next p (Switches byte) = record p { switches = byte }
panel_next p (Press n) = record p { latched = Some n }
panel_next p Taken = record p { latched = None }

-- the panel, the port operations since the last take, and how many more have room
pub record DeviceState : Type 0 where
  pub panel : PanelState
  pub operations : List PortOperation
  pub spare : ℕ

-- the devices are what this past makes of them
abbrev pub RepresentsPast : DeviceState → List Operation → Type 0
RepresentsPast d past = d.panel ≡ panel_after past

-- whatever the past was, it has this operation more
abbrev pub Appends : Operation → DeviceState → DeviceState → Type 0
Appends operation old new = (past : List Operation) → RepresentsPast old past
    → RepresentsPast new (past ++ operation ∷ [])

-- the port operations and the room for more are unchanged
pub record SamePorts (old new : DeviceState) : Type 0 where
  pub operations : new.operations ≡ old.operations
  pub spare : new.spare ≡ old.spare
