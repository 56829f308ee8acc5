-- What the laws say of messages.
use Rattle.std.proofs.Common.{◌≡◌, ◌≤◌, ℕ, List, [], ◌∷◌, Result, Ok, Err, Bool, true, false, length, refl}
use Rattle.std.proofs.Common.{nat_lt, arith, ltb, if◌then◌else◌}
use Rattle.std.specs.List.{list_all}
use Rattle.std.proofs.lemmas.List.{append-nil}
use Rattle.base_text.specs.Bytes.{Text}
use Rattle.lab_core.specs.Board.{Board}
use Rattle.asm_syntax.specs.Outcome.{◌>>=◌}
use Rattle.dap_log.specs.declared.message.LogFault.{LogFault}
use Rattle.dap_log.specs.declared.message.LogFault.TheVariants as fault
use Rattle.asm_syntax.specs.declared.fault.FaultKind.TheVariants as kind
use Rattle.dap_log.specs.declared.message.LogMessage.{LogMessage}
use Rattle.dap_log.specs.declared.part.Part.{Part}
use Rattle.dap_log.specs.declared.part.Part.TheVariants as part
use Rattle.dap_log.specs.Pieces.{is_plain, pieces_from, pieces_of}
use Rattle.dap_log.specs.Messages.{parts_of, message_of, IsSpelled, HasText}
use Rattle.dap_log.proofs.SpellingLemmas.{pieces_are_text, pieces_are_whole}
use Rattle.dap_log.proofs.PlainLemmas.{one_piece}

-- the message of these parts
abbrev with_parts : Result (List Part) LogFault → Result LogMessage LogFault
with_parts read = read >>= λ ps. Ok (record { parts = ps })

read_if : (read : Result (List Part) LogFault) (m : LogMessage) → with_parts read ≡ Ok m → read ≡ Ok m.parts
read_if (Ok ps) m e = search
read_if (Err f) m e = search

read_unless : (is_long : Bool) (read : Result (List Part) LogFault) (m : LogMessage)
    → (if is_long then Err (fault.At 1 kind.TooLong) else with_parts read) ≡ Ok m → read ≡ Ok m.parts
read_unless true read m e = search
read_unless false read m e = read_if read m e

pub message_is_spelled : (text : Text) (m : LogMessage) → message_of text ≡ Ok m → IsSpelled text m
unfolding message_of
message_is_spelled text m e = record {
  pieces = pieces_of text;
  whole = pieces_are_whole 0 1 text;
  written = pieces_are_text 0 1 text;
  read = read_unless (nat_lt 1024 (length text)) (parts_of (pieces_of text)) m e;
}

short : (text : Text) → length text ≤ 1024 → ltb 1024 (length text) ≡ false
short text most = grind (arith, most)

no_parts : message_of [] ≡ Ok (record { parts = [] })
unfolding message_of parts_of pieces_from
no_parts = refl

one_part : (c : ℕ) (rest : Text) → length (c ∷ rest) ≤ 1024 → list_all is_plain (c ∷ rest) ≡ true
    → message_of (c ∷ rest) ≡ Ok (record { parts = part.Plain (c ∷ rest) ∷ [] })
unfolding message_of parts_of
one_part c rest most all = rw (short (c ∷ rest) most, one_piece c rest all) refl

pub plain_is_itself : (text : Text) (b : Board) → length text ≤ 1024 → list_all is_plain text ≡ true
    → HasText b text text
plain_is_itself [] b most all = (record { parts = [] }, no_parts, refl)
plain_is_itself (c ∷ rest) b most all =
    (record { parts = part.Plain (c ∷ rest) ∷ [] }, one_part c rest most all, append-nil (c ∷ rest))
