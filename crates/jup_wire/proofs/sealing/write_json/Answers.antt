use Rattle.std.proofs.Common.{◌≡◌, ap, ◌∙◌}
use Rattle.std.specs.String.{string_bytes}
use Rattle.std.proofs.lemmas.Str.{IsUtf8-string_bytes}
use Rattle.jup_wire.proofs.JsonLemmas.{json_of-utf8}
use Rattle.jup_wire.proofs.sealing.write_json.Goals as goal

pub returns : goal.returns
returns c =
    let bytes : c.from.result ≡ string_bytes c.in_ok-text.text =
    c.from.ensures ∙ ap (λ v. v.items) c.into_bytes.ensures.value in
    rw bytes (record {
      reads =
          λ within. json_of-utf8 _ (IsUtf8-string_bytes c.in_ok-text.text)
          ∙ c.in_ok-text.ensures.reads_back within;
      compact = c.in_ok-text.ensures.text;
    })
