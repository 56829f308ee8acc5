use Rattle.std.proofs.Common.{◌∙◌, ◌++◌, List, ℕ, Bool, Option, ap, arith, w64, pos, ◌*ℤ◌}
use Rattle.std.proofs.lemmas.Result.{IfOk-weaker}
use Rattle.std.proofs.lemmas.Int.{to_z_pos}
use Rattle.jiff_core.specs.declared.timestamp.Timestamp.{Timestamp}
use Rattle.jiff_fmt.specs.Text.{datetime_text, zulu_text}
use Rattle.jup_wire.proofs.date.date_text.Goals as goal

pub returns : goal.returns
returns c =
    let t = c.timestamp_text-text.ensures in
    let written : Bool × ℕ × Option ℕ → List ℕ = λ o. datetime_text o.0 o.1 o.2 t.0 ++ zulu_text o.0 in
    let options = ap written c.new.ensures in
    let low = c.requires in
    let whole = to_z_pos w64 c.args.unix_seconds (omega arith) in
    let nanos = ap (λ (x : Timestamp). x.nanosecond) c.to_plain.ensures in
    let value = c.in-Ok.ensures.value in
    let s = c.as_str.ensures.value in
    IfOk-weaker c.copy_of.result _ _ (λ text e. (
      t.0,
      t.1 ∙ (nanos ∙ (value ∙ ap (λ z. z *ℤ pos 1000000000) whole)),
      e ∙ (s ∙ (t.2 ∙ options)),
    )) c.copy_of.ensures
