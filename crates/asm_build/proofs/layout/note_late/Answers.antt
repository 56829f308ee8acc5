use Rattle.std.proofs.Common.{◌≡◌, ◌∙◌, ℕ, List, sym, ap, subst, OnOk}
use Rattle.std.specs.List.{flat_map}
use Rattle.asm_build.specs.Statements.{names_in, names_in_datum, operands_in_data, late_in}
use Rattle.asm_build.specs.Layout.{Notes}
use Rattle.asm_build.proofs.UseLemmas.{data_names}
use Rattle.asm_build.proofs.layout.note_late.Goals as goal

pub returns-in-Bytes : goal.returns-in-Bytes
returns-in-Bytes c =
    let same : flat_map names_in_datum c.as_slice.result.now ≡ names_in (late_in c.args.action.now) =
    data_names c.as_slice.result.now ∙ ap (λ ds. names_in (operands_in_data ds)) c.as_slice.ensures
    ∙ ap (λ a. names_in (late_in a)) (sym c.in-Bytes.is) in
    subst (λ (ns : List (List ℕ)). OnOk c.note_all.result (Notes ns c.args.used.now c.note_all.new.used)) same
    c.note_all.ensures
