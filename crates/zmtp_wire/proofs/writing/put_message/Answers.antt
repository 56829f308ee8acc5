use Rattle.std.proofs.Common.{◌≡◌}
use Rattle.zmtp_wire.specs.Writing.{message_bytes}
use Rattle.zmtp_wire.proofs.WritingLemmas.{read_back, all_written}
use Rattle.zmtp_wire.proofs.writing.put_message.Goals as goal

is_whole : (c : goal.After-from) → c.from.result ≡ message_bytes c.args.frames.now
is_whole c =
    all_written c.loop-frame.out.items (message_bytes c.args.frames.now) c.from.result c.loop-frame.rest.now
    c.in_default.ensures.cases c.loop-frame.invariant c.from.ensures

pub returns-clause-read : goal.returns-clause-read
returns-clause-read c = read_back c.from.result c.args.frames.now c.requires (is_whole c)
