use Rattle.std.proofs.Common.{refl}
use Rattle.dap_log.proofs.PieceLemmas.{close_alone}
use Rattle.dap_log.proofs.piece.after_close.Goals as goal

pub returns-in-None : goal.returns-in-None
unfolding lib.Utf8.encode
returns-in-None c =
    let piece = close_alone c.args.rest.now c.in-None.ensures.cases in
    rw piece (record { piece = refl; rest = refl })
