use Rattle.std.proofs.Common.{◌∷◌, ◌++◌, [], refl, sym, ◌∙◌, ap, subst}
use Rattle.dap_record.specs.Recordings.{recorded_before_requests}
use Rattle.dap_record.specs.Slices.{request as asks, play_all}
use Rattle.dap_record.specs.Represents.{RepresentsRecorded}
use Rattle.dap_debugger.specs.Debuggers.{DebuggerState}
use Rattle.dap_debugger.proofs.DebuggerLemmas.{past_more}
use Rattle.dap_debugger.proofs.debugger.Debugger.answer.Goals as goal

pub returns-clause-ok : goal.returns-clause-ok
returns-clause-ok c inputs bytes past =
    let s = (play_all inputs recorded_before_requests).state in
    let represents = subst (λ (d : DebuggerState). RepresentsRecorded d.session s) (sym c.self.view_is)
    past.session in
    past_more c.args.self.now _ inputs bytes (asks c.args.request c.args.file) c.in_ok-messages.messages
    c.self.inside.told.items c.push_reserved.new.self.items past (c.in_ok-messages.ensures s represents)
    (ap (λ (d : DebuggerState). d.progress) c.self.view_is)
    (ap (λ (d : DebuggerState). d.told) (sym c.self.view_is))
    (c.push_reserved.ensures.items
    ∙ ap (λ l. l ++ c.in_ok-messages.messages ∷ []) c.in_ok-reserve.ensures.items) refl
