-- Connections with what serves them.
use Rattle.std.specs.Prelude.{◌≡◌, Option, Some, None, List, [], ◌∷◌}
use Rattle.base_streams.specs.States.{InletState, OutletState, IsReadable, IsWritable}
use Rattle.jup_wire.specs.declared.channel.Channel.{Channel}
use Rattle.lab_turn.specs.History.{PassState, TurnstileState}
use Rattle.kern_calls.specs.declared.call.Call.{Call}
use Rattle.kern_net.specs.Gates.{ReaderPolls, WriterPolls, HasWoken}
use Rattle.kern_host.specs.declared.end.VisitEnd.{VisitEnd}
use Rattle.kern_host.specs.declared.guest.Passes.{Passes}

-- a connection: its channel, its reader and its writer, what its gates were polled, the passes of its two
-- threads while it has them, and how its visit ended, once it has
pub record GuestState : Type 0 where
  pub channel : Channel
  pub inlet : InletState
  pub outlet : OutletState
  pub reader : ReaderPolls
  pub writer : WriterPolls
  pub passes : Option Passes
  pub end : Option VisitEnd

-- a connection as it is served: its channel, its reader and its writer, and what the writer's gate was polled
pub record Line : Type 0 where
  pub channel : Channel
  pub inlet : InletState
  pub outlet : OutletState
  pub polls : WriterPolls

abbrev pub line_of : GuestState → Line
line_of g = record { channel = g.channel; inlet = g.inlet; outlet = g.outlet; polls = g.writer }

-- its reader has neither ended nor failed, its writer has not failed, the reader's gate has told no moment
-- for which it woke nobody, and the writer's gate has not said no
pub record IsComing (g : GuestState) : Type 0 where
  pub readable : IsReadable g.inlet
  pub writable : IsWritable g.outlet
  pub woken : HasWoken g.reader
  pub gate : g.writer.idle.no ≡ 0

-- both are passes of this desk
abbrev pub AreOf : TurnstileState → Option Passes → Type 0
AreOf desk None = ⊥
AreOf desk (Some p) = (p.reading.turnstile ≡ desk) × (p.writing.turnstile ≡ desk)

-- it may be visited
abbrev pub IsSeated : TurnstileState → GuestState → Type 0
IsSeated desk g = IsComing g × AreOf desk g.passes

abbrev pub passes_in : Option Passes → List (PassState Call)
passes_in None = []
passes_in (Some p) = p.reading ∷ p.writing ∷ []

abbrev pub without_passes : GuestState → GuestState
without_passes g = record g { passes = None }
