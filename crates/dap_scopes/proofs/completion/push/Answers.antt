use Rattle.std.proofs.Common.{◌≡◌, ◌∙◌, ◌<◌, ap, sym, false, true, length, arith}
use Rattle.std.proofs.lemmas.Result.{on_ok_weaker}
use Rattle.base_text.specs.Bytes.{Text}
use Rattle.dap_scopes.specs.Completions.{begins_with}
use Rattle.dap_scopes.proofs.CompletionLemmas.{begins, begins_otherwise, is_full}
use Rattle.dap_scopes.proofs.completion.push.Goals as goal

pub returns-then-len-ge-MOST : goal.returns-then-len-ge-MOST
returns-then-len-ge-MOST c = is_full c.args.word.now _ c.args.items.now (omega arith)

pub returns-then-not-begins_with : goal.returns-then-not-begins_with
returns-then-not-begins_with c =
    let label = c.as_bytes.ensures.value ∙ c.as_str.ensures in
    let other : begins_with c.args.completion.label c.args.word.now ≡ false =
    ap (λ (l : Text). begins_with l c.args.word.now) (sym label) ∙ sym c.if-not-begins_with.ensures in
    begins_otherwise c.args.word.now c.args.completion c.args.items.now other

pub returns : goal.returns
returns c =
    let label = c.as_bytes.ensures.value ∙ c.as_str.ensures in
    let passes : begins_with c.args.completion.label c.args.word.now ≡ true =
    ap (λ (l : Text). begins_with l c.args.word.now) (sym label) ∙ sym c.if-not-begins_with.ensures in
    let room : length c.args.items.now < 256 = omega arith in
    on_ok_weaker c.push.result
    (begins c.args.word.now c.args.completion c.args.items.now c.push.new.self passes room) c.push.ensures.ok
