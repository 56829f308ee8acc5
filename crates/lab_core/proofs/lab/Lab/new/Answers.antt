use Rattle.std.proofs.Common.{[], refl, arith}
use Rattle.lab_core.proofs.lab.Lab.new.Goals as goal

pub returns : goal.returns
returns c = record {
  machine = c.in_ok-machine.ensures;
  devices = c.new-6.ensures.past;
  traffic_is = c.new-6.ensures.operations;
  frames = c.in_ok-frames.ensures;
  origins = c.new-7.ensures;
  symbols = c.new-8.ensures;
  sources = c.in_ok-sources.ensures;
  lists = c.in_ok-breakpoints.ensures.lists;
  met = c.in_ok-breakpoints.ensures.represents [];
  attached = refl;
  run = refl;
  is_halted = refl;
  within = omega arith;
  is_resumed = refl;
  has_moved = refl;
  request = refl;
  follows = λ asked. cc;
  stopped = λ is. cc;
  above = λ asked. cc;
}
