use Rattle.std.proofs.Common.{◌≡◌, ap, sym, ◌∙◌, drop, take, arith}
use Rattle.base_text.specs.Bytes.{Text}
use Rattle.std.specs.List.{prefix_len}
use Rattle.dap_log.specs.Pieces.{Plain, is_plain}
use Rattle.std.proofs.lemmas.List.Sums.{prefix_len-le-length}
use Rattle.std.proofs.lemmas.List.Folds.{length-prefix_len}
use Rattle.dap_log.proofs.PieceLemmas.{plain_front, cut_at_brace}
use Rattle.dap_log.proofs.piece.piece_at.Goals as goal

pub split_at-requires : goal.split_at-requires
split_at-requires c =
    let text = c.args.text.now in
    let n : c.plain_len.result ≡ prefix_len is_plain text =
    c.plain_len.ensures ∙ ap (prefix_len is_plain) c.as_bytes.ensures.value in
    rw n (
      prefix_len-le-length is_plain text,
      λ less continued. absurd (omega (arith, cut_at_brace text less, continued)),
    )

pub returns-clause-piece : goal.returns-clause-piece
unfolding lib.Utf8.encode
returns-clause-piece c =
    let text = c.args.text.now in
    let n : c.plain_len.result ≡ prefix_len is_plain text =
    c.plain_len.ensures ∙ ap (prefix_len is_plain) c.as_bytes.ensures.value in
    let front =
    plain_front text c.requires c.in_default.ensures.cases c.in_default-strip_prefix.ensures.cases in
    rw front.0 (record {
      piece = ap (λ (t : Text). Plain t) (c.split_at.ensures.front ∙ ap (λ k. take k text) n);
      rest = c.split_at.ensures.back ∙ ap (λ k. drop k text) (n ∙ sym (length-prefix_len is_plain text));
    })

pub returns-clause-less : goal.returns-clause-less
unfolding lib.Utf8.encode
returns-clause-less c =
    let text = c.args.text.now in
    let n : c.plain_len.result ≡ prefix_len is_plain text =
    c.plain_len.ensures ∙ ap (prefix_len is_plain) c.as_bytes.ensures.value in
    let front =
    plain_front text c.requires c.in_default.ensures.cases c.in_default-strip_prefix.ensures.cases in
    omega (arith, front.1, n, c.split_at.ensures.back_len)
