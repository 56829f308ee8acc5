use Rattle.std.proofs.Common.{rules, refl, ap, sym, ◌∙◌, drop, arith}
use Rattle.base_text.specs.Bytes.{Text}
use Rattle.dap_log.specs.Pieces.{Expression}
use Rattle.dap_log.proofs.PieceLemmas.{closed_piece, unclosed_piece, expression_len}
use Rattle.dap_log.proofs.piece.after_open.Goals as goal

pub returns-in-Some-split_once : goal.returns-in-Some-split_once
unfolding lib.Utf8.encode
returns-in-Some-split_once c =
    let text = c.args.rest.now in
    let parts = c.in-Some-split_once.ensures.byte (omega arith) (λ w o gives. gives) in
    rw (closed_piece text c.in_default.ensures.cases parts.2) (record {
      piece = ap (λ (t : Text). Expression t) parts.0;
      rest = parts.1 ∙ ap (λ n. drop n text) (sym (expression_len text));
    })

pub returns-in-None : goal.returns-in-None
unfolding lib.Utf8.encode
returns-in-None c =
    rw (unclosed_piece c.args.rest.now c.in_default.ensures.cases (search rules))
    (record { piece = refl; rest = refl })
