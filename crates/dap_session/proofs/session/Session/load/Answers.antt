use Rattle.dap_launch.specs.Loading.{load_result}
use Rattle.dap_session.proofs.LoadLemmas.{loaded_told}
use Rattle.dap_session.proofs.session.Session.load.Goals as goal

pub returns-in-Ok : goal.returns-in-Ok
returns-in-Ok c = (
  λ s represents.
      loaded_told (load_result c.args.launch c.args.text.now) c.in-Ok.field-0 c.args.opening.cause
      c.args.launch c.args.text.now c.args.opening.caller s c.install.result c.install.new.self
      (c.in-Ok.ensures (λ e. cc))
      (λ b on. c.install.ensures.installed s b represents on),
  c.install.ensures.err,
)
