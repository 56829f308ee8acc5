use Rattle.lab_core.specs.declared.event.Event.TheVariants as event
use Rattle.lab_core.proofs.GivenLemmas.{applied-given}
use Rattle.lab_core.proofs.lab.Lab.apply_one.Goals as goal

pub returns-in-Load-clause-applied : goal.returns-in-Load-clause-applied
returns-in-Load-clause-applied c =
    rw (c.in-Load.is, ← c.as_str.ensures, ← c.as_str-in-Load.ensures)
    (applied-given _ _ (event.Load c.as_str.result.now c.as_str-in-Load.result.now) _ c.load.ensures.given)

pub returns-in-Load-clause-memory : goal.returns-in-Load-clause-memory
returns-in-Load-clause-memory c =
    rw (c.in-Load.is, ← c.as_str.ensures, ← c.as_str-in-Load.ensures)
    c.load.ensures.memory

pub returns-in-Dump-clause-applied : goal.returns-in-Dump-clause-applied
returns-in-Dump-clause-applied c =
    rw (c.in-Dump.is, ← c.as_str-in-Dump.ensures, ← c.as_str-in-Dump-2.ensures)
    c.dump.ensures.applied

pub returns-in-Dump-clause-memory : goal.returns-in-Dump-clause-memory
returns-in-Dump-clause-memory c =
    rw (c.in-Dump.is, ← c.as_str-in-Dump.ensures, ← c.as_str-in-Dump-2.ensures)
    c.dump.ensures.memory

pub returns-in-Start-clause-applied : goal.returns-in-Start-clause-applied
returns-in-Start-clause-applied c = rw c.in-Start.is c.start.ensures.applied

pub returns-in-Start-clause-memory : goal.returns-in-Start-clause-memory
returns-in-Start-clause-memory c = rw c.in-Start.is c.start.ensures.memory

pub returns-in-Slice-clause-applied : goal.returns-in-Slice-clause-applied
returns-in-Slice-clause-applied c = rw c.in-Slice.is c.slice.ensures.applied

pub returns-in-Slice-clause-memory : goal.returns-in-Slice-clause-memory
returns-in-Slice-clause-memory c = rw c.in-Slice.is c.slice.ensures.memory

pub returns-in-Pause-clause-applied : goal.returns-in-Pause-clause-applied
returns-in-Pause-clause-applied c = rw c.in-Pause.is c.pause.ensures.applied

pub returns-in-Pause-clause-memory : goal.returns-in-Pause-clause-memory
returns-in-Pause-clause-memory c = rw c.in-Pause.is c.pause.ensures.memory

pub returns-in-Resume-clause-applied : goal.returns-in-Resume-clause-applied
returns-in-Resume-clause-applied c = rw c.in-Resume.is c.resume.ensures.applied

pub returns-in-Resume-clause-memory : goal.returns-in-Resume-clause-memory
returns-in-Resume-clause-memory c = rw c.in-Resume.is c.resume.ensures.memory

pub returns-in-Step-clause-applied : goal.returns-in-Step-clause-applied
returns-in-Step-clause-applied c = rw c.in-Step.is c.step_on.ensures.applied

pub returns-in-Step-clause-memory : goal.returns-in-Step-clause-memory
returns-in-Step-clause-memory c = rw c.in-Step.is c.step_on.ensures.memory

pub returns-in-Poke-clause-applied : goal.returns-in-Poke-clause-applied
returns-in-Poke-clause-applied c =
    rw (c.in-Poke.is, ← c.as_str-in-Poke.ensures, ← c.as_str-in-Poke-2.ensures)
    c.poke.ensures.applied

pub returns-in-Poke-clause-memory : goal.returns-in-Poke-clause-memory
returns-in-Poke-clause-memory c =
    rw (c.in-Poke.is, ← c.as_str-in-Poke.ensures, ← c.as_str-in-Poke-2.ensures)
    c.poke.ensures.memory

pub returns-in-Interrupt-clause-applied : goal.returns-in-Interrupt-clause-applied
returns-in-Interrupt-clause-applied c = rw c.in-Interrupt.is c.interrupt.ensures.applied

pub returns-in-Interrupt-clause-memory : goal.returns-in-Interrupt-clause-memory
returns-in-Interrupt-clause-memory c = rw c.in-Interrupt.is c.interrupt.ensures.memory

pub returns-in-Reset-clause-applied : goal.returns-in-Reset-clause-applied
returns-in-Reset-clause-applied c = rw c.in-Reset.is c.reset.ensures.applied

pub returns-in-Reset-clause-memory : goal.returns-in-Reset-clause-memory
returns-in-Reset-clause-memory c = rw c.in-Reset.is c.reset.ensures.memory

pub returns-in-SetBoard-clause-applied : goal.returns-in-SetBoard-clause-applied
returns-in-SetBoard-clause-applied c = rw c.in-SetBoard.is c.set_board.ensures.applied

pub returns-in-SetBoard-clause-memory : goal.returns-in-SetBoard-clause-memory
returns-in-SetBoard-clause-memory c = rw c.in-SetBoard.is c.set_board.ensures.memory

pub returns-in-SetBreakpoints-clause-applied : goal.returns-in-SetBreakpoints-clause-applied
returns-in-SetBreakpoints-clause-applied c =
    rw (c.in-SetBreakpoints.is, ← c.as_str-in-SetBreakpoints.ensures, ← c.as_slice.ensures)
    c.set_breakpoints.ensures.applied

pub returns-in-SetBreakpoints-clause-memory : goal.returns-in-SetBreakpoints-clause-memory
returns-in-SetBreakpoints-clause-memory c =
    rw (c.in-SetBreakpoints.is, ← c.as_str-in-SetBreakpoints.ensures)
    c.set_breakpoints.ensures.memory

pub returns-in-Attach-clause-applied : goal.returns-in-Attach-clause-applied
returns-in-Attach-clause-applied c = rw c.in-Attach.is c.attach.ensures.applied

pub returns-in-Attach-clause-memory : goal.returns-in-Attach-clause-memory
returns-in-Attach-clause-memory c = rw c.in-Attach.is c.attach.ensures.memory

pub returns-in-Detach-clause-applied : goal.returns-in-Detach-clause-applied
returns-in-Detach-clause-applied c = rw c.in-Detach.is c.detach.ensures.applied

pub returns-in-Detach-clause-memory : goal.returns-in-Detach-clause-memory
returns-in-Detach-clause-memory c = rw c.in-Detach.is c.detach.ensures.memory

pub returns-in-Typed-clause-applied : goal.returns-in-Typed-clause-applied
returns-in-Typed-clause-applied c =
    rw (c.in-Typed.is, ← c.as_slice-in-Typed.ensures)
    c.type_bytes.ensures.applied

pub returns-in-Typed-clause-memory : goal.returns-in-Typed-clause-memory
returns-in-Typed-clause-memory c = rw c.in-Typed.is c.type_bytes.ensures.memory

pub returns-in-Switches-clause-applied : goal.returns-in-Switches-clause-applied
returns-in-Switches-clause-applied c = rw c.in-Switches.is c.set_switches.ensures.applied

pub returns-in-Switches-clause-memory : goal.returns-in-Switches-clause-memory
returns-in-Switches-clause-memory c = rw c.in-Switches.is c.set_switches.ensures.memory

pub returns-in-Press-clause-applied : goal.returns-in-Press-clause-applied
returns-in-Press-clause-applied c = rw c.in-Press.is c.press.ensures.applied

pub returns-in-Press-clause-memory : goal.returns-in-Press-clause-memory
returns-in-Press-clause-memory c = rw c.in-Press.is c.press.ensures.memory

pub returns-in-Show-clause-applied : goal.returns-in-Show-clause-applied
returns-in-Show-clause-applied c = rw c.in-Show.is c.show.ensures.applied

pub returns-in-Show-clause-memory : goal.returns-in-Show-clause-memory
returns-in-Show-clause-memory c = rw c.in-Show.is c.show.ensures.memory
