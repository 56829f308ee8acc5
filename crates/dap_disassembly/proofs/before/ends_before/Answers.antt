use Rattle.std.proofs.Common.{◌∙◌, sym}
use Rattle.dap_disassembly.proofs.BeforeLemmas.{ends_before-begun}
use Rattle.dap_disassembly.proofs.before.ends_before.Goals as goal

pub returns-then-origin : goal.returns-then-origin
returns-then-origin c = λ b s.
    ends_before-begun b c.args.address c.args.start c.after_instructions.result c.in-Some.origin
    (sym (c.origin_at.ensures b s) ∙ c.in-Some.is) c.if-origin.true (c.after_instructions.ensures b s)
