-- The course of a cell: which of its messages were taken, and what was printed of them.
use Rattle.std.specs.Prelude.{◌≡◌, ℕ, Bool, false, true, ◌&&◌, List, [], ◌∷◌, ◌++◌}
use Rattle.std.specs.List.{list_any}
use Rattle.zmtp_wire.specs.Wire.{Bytes, Frames, Messages}
use Rattle.base_streams.specs.States.{OutletState, IsWritable}
use Rattle.base_streams.specs.Told.{Took, TookPrefix}
use Rattle.lab_term.specs.declared.fault.TermFault.{TermFault}
use Rattle.lab_term.specs.declared.fault.TermFault.TheVariants.{OutOfMemory, WriteFailed, Wire}
use Rattle.lab_term.specs.declared.fault.WireCause.TheVariants.{Message}
use Rattle.lab_term.specs.declared.follow.Course.{Course}
use Rattle.lab_term.specs.Events.{Notice, IsNotice, IsUnopened, AreNotices, is_of, is_error, is_status}
use Rattle.lab_term.specs.Events.{text_shown}
use Rattle.lab_term.specs.Events.{text_printed, has_error, ends}

-- the request that messages belong to: the key that they are signed with, and its header
pub record Parent : Type 0 where
  pub key : Bytes
  pub header : Bytes

-- none of these messages has this property
abbrev pub HasNo : (Notice → Bool) → List Notice → Type 0
HasNo holds notices = list_any holds notices ≡ false

-- the last of these messages is the first with this property
pub record EndsIn (holds : Notice → Bool) (notices : List Notice) : Type 0 where
  pub before : List Notice
  pub last : Notice
  pub are : notices ≡ before ++ last ∷ []
  pub first : HasNo holds before
  pub is : holds last ≡ true

-- the last of these messages is the first that is a status
abbrev pub EndsInStatus : List Notice → Type 0
EndsInStatus notices = EndsIn is_status notices

-- the last of these messages is the first that says that the kernel is done with the request
abbrev pub EndsInIdle : Bytes → List Notice → Type 0
EndsInIdle header notices = EndsIn (ends header) notices

-- why no more messages were taken: memory ran out, the writer failed, or the next one can't be opened
abbrev pub StopsAt : Bytes → Messages → OutletState → TermFault → Type 0
StopsAt key others to OutOfMemory = IsWritable to
StopsAt key others to WriteFailed = to.failed ≡ true
StopsAt key others to (Wire (Message cause)) =
    IsWritable to × (frames : Frames) × (rest : Messages)
    × (others ≡ frames ∷ rest) × IsUnopened key frames (Wire (Message cause))
StopsAt key others to _ = ⊥

-- the first messages of a queue were looked at
pub record Passes (key : Bytes) (queue queue' : Messages) : Type 0 where
  pub taken : Messages
  pub queue_is : queue ≡ taken ++ queue'
  pub notices : List Notice
  pub are : AreNotices key taken notices

-- the first messages of a queue were looked at, and the fault says why no more were
pub record StopsIn (key : Bytes) (queue : Messages) (to : OutletState) (fault : TermFault)
    : Type 0 where
  pub taken : Messages
  pub others : Messages
  pub queue_is : queue ≡ taken ++ others
  pub notices : List Notice
  pub are : AreNotices key taken notices
  pub stops : StopsAt key others to fault

-- the messages of a queue up to the request's idle, or all of them, were taken, and the request's among
-- them printed
pub record Takes (parent : Parent) (queue queue' : Messages) (to to' : OutletState)
    (course : Course) : Type 0 where
  pub taken : Messages
  pub queue_is : queue ≡ taken ++ queue'
  pub notices : List Notice
  pub are : AreNotices parent.key taken notices
  pub wrote : Took to to' (text_printed parent.header notices)
  pub failed : course.has_failed ≡ has_error parent.header notices
  pub idle : course.is_idle ≡ true → EndsInIdle parent.header notices
  pub busy : course.is_idle ≡ false → HasNo (ends parent.header) notices
  pub all : course.is_idle ≡ false → queue' ≡ []

-- the first messages of a queue were taken, none of them the request's idle, a prefix of their text was
-- printed, and the fault says why no more were
pub record Cut (parent : Parent) (queue : Messages) (to to' : OutletState) (fault : TermFault)
    : Type 0 where
  pub taken : Messages
  pub others : Messages
  pub queue_is : queue ≡ taken ++ others
  pub notices : List Notice
  pub are : AreNotices parent.key taken notices
  pub busy : HasNo (ends parent.header) notices
  pub wrote : TookPrefix to to' (text_printed parent.header notices)
  pub stops : StopsAt parent.key others to' fault

-- a message was taken, and its text printed if it is the request's
pub record TakesOne (parent : Parent) (frames : Frames) (to to' : OutletState) (course : Course)
    : Type 0 where
  pub notice : Notice
  pub is : IsNotice parent.key frames notice
  pub wrote : Took to to' (text_shown parent.header notice)
  pub failed : course.has_failed ≡ is_of parent.header notice && is_error notice
  pub idle : course.is_idle ≡ ends parent.header notice
