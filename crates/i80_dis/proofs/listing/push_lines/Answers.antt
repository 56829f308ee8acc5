use Rattle.std.proofs.Common.{◌++◌, refl, string_bytes, rules}
use Rattle.i80_dis.specs.Shown.{lines_of}
use Rattle.i80_dis.specs.Text.{text_of_lines}
use Rattle.i80_dis.proofs.Lines.{line_added, on_ok, data_added, none_left}
use Rattle.i80_dis.proofs.listing.push_lines.Goals as goal

pub loop-rest-preserved : goal.loop-rest-preserved
loop-rest-preserved c =
    let some = c.in-Some.ensures.within c.in-Some.shown c.in-Some.length refl in
    rw (c.split_at.ensures.back, c.into.ensures)
    (line_added (string_bytes c.loop-rest.text) (string_bytes c.push_line.new.text)
    (string_bytes c.args.text.now ++ text_of_lines (lines_of c.args.bytes.now))
    c.in-Some.shown c.in-Some.length c.loop-rest.rest.now (search rules) some.0 (search rules)
    c.in_ok-push_line-in-Some.ensures c.loop-rest.invariant)

pub returns-in-None : goal.returns-in-None
returns-in-None c =
    on_ok c.push_data.result
    (λ e. data_added (string_bytes c.loop-rest.text) (string_bytes c.push_data.new.text)
    (string_bytes c.args.text.now ++ text_of_lines (lines_of c.args.bytes.now))
    c.loop-rest.rest.now (search rules) (search rules) e c.loop-rest.invariant)
    c.push_data.ensures

pub returns : goal.returns
returns c =
    none_left (string_bytes c.loop-rest.text)
    (string_bytes c.args.text.now ++ text_of_lines (lines_of c.args.bytes.now)) c.loop-rest.rest.now
    (search rules) c.loop-rest.invariant
