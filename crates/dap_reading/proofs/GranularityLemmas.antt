-- A granularity is read as dap_talk reads it.
use Rattle.std.proofs.Common.{◌≡◌, List, Option, Some, None, option_map, option_and_then, refl}
use Rattle.std.proofs.Common.{ℕ}
use Rattle.serde_json.specs.Data.{Data}
use Rattle.serde_json.specs.Find.{as_str}
use Rattle.lab_shown.specs.declared.step.Granularity.{Granularity}
use Rattle.lab_shown.specs.declared.step.Granularity.TheVariants.{Line}
use Rattle.dap_talk.specs.Argument.{argument_at, argument_value, found_granularity, found_or, granularity_of}
use Rattle.dap_talk.specs.Table as table
use Rattle.dap_reading.specs.Argument.{optional, kind_or, granularity}

same : (r o : Option Granularity) → option_map found_granularity r ≡ option_map found_granularity o → r ≡ o
same None None is = refl
same None (Some g) is = absurd cc
same (Some g) None is = absurd cc
same (Some g) (Some h) is = cc

in_text : (text : Option (List ℕ)) (r : Option Granularity)
    → option_map found_granularity r ≡ option_map (λ name. found_granularity (granularity_of name)) text
    → r ≡ option_map granularity_of text
in_text None None is = refl
in_text None (Some g) is = absurd cc
in_text (Some name) None is = absurd cc
in_text (Some name) (Some g) is = cc

in_argument : (key : List ℕ) (found : Option (Option Data)) (r : Option Granularity)
    → option_map found_granularity r ≡ option_and_then (found_or (table.granularity_or_line key)) found
    → r ≡ option_and_then (kind_or granularity Line) found
in_argument key None r is = same r None is
in_argument key (Some None) r is = same r (Some Line) is
in_argument key (Some (Some d)) r is = in_text (as_str d) r is

pub granularity_found : (key : List ℕ) (d : Data) (r : Option Granularity)
    → option_map found_granularity r ≡ argument_value (table.granularity_or_line key) d
    → r ≡ optional key granularity Line d
granularity_found key d r is = in_argument key (argument_at key d) r is
