-- What was read of iopub.
use Rattle.std.specs.Prelude.{◌≡◌, ◌⊎◌, true, false, List, [], ◌++◌, Some}
use Rattle.base_streams.specs.States.{InletState, IsReadable}
use Rattle.base_streams.specs.Told.{Gave}
use Rattle.zmtp_wire.specs.Receiving.{Received}
use Rattle.zmtp_wire.specs.Wire.{Bytes, Messages}
use Rattle.lab_term.specs.Courses.{EndsInStatus}
use Rattle.lab_term.specs.Events.{Notice, AreNotices}
use Rattle.lab_term.specs.declared.subscriber.Subscriber.{Subscriber}
use Rattle.lab_term.specs.declared.fault.TermFault.{TermFault}
use Rattle.lab_term.specs.declared.fault.TermFault.TheVariants.{OutOfMemory, Ended, ReadFailed, WriteFailed}
use Rattle.lab_term.specs.declared.fault.TermFault.TheVariants.{Wire}
use Rattle.lab_term.specs.declared.fault.WireCause.TheVariants.{Stream, Message}

-- the subscriber has read what the reader gave; it holds the messages in it, but for these, which were
-- looked at
pub record Holds (from from' : InletState) (s : Subscriber) (passed : Messages) : Type 0 where
  pub messages : Messages
  pub received : Received from from' (record { decoder = s.decoder; messages = messages; reads = s.reads })
  pub messages_are : messages ≡ passed ++ s.queue.items
  pub broken_is : s.broken ≡ s.decoder.fault

-- why a read returned no messages
abbrev pub Starves : TermFault → InletState → Subscriber → Type 0
Starves OutOfMemory from s = IsReadable from
Starves Ended from s = (from.ended ≡ true) × (from.failed ≡ false)
Starves ReadFailed from s = (from.ended ≡ false) × (from.failed ≡ true)
Starves WriteFailed from s = ⊥
Starves (Wire (Stream cause)) from s = IsReadable from × (s.broken ≡ Some cause)
Starves (Wire (Message cause)) from s = ⊥

-- the bytes of a read that weren't received: none, unless memory ran out
pub record Unreceived (from from' : InletState) (fault : TermFault) : Type 0 where
  pub bytes : Bytes
  pub gave : Gave from from' bytes
  pub all : (bytes ≡ []) ⊎ (fault ≡ OutOfMemory)

-- the messages up to a status were looked at
pub record Waited (key : Bytes) (from from' : InletState) (s : Subscriber) : Type 0 where
  pub passed : Messages
  pub holds : Holds from from' s passed
  pub notices : List Notice
  pub are : AreNotices key passed notices
  pub status : EndsInStatus notices
