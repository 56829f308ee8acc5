use Rattle.std.proofs.Common.{◌≡◌, ℕ, ◌^◌, ◌<◌, ◌≤◌, true, suc, List, [], ◌∷◌, ◌++◌, length, refl, arith}
use Rattle.std.proofs.Common.{rules, ap, subst, append_assoc, length-append, All, codes}
use Rattle.std.specs.Fmt.{decimal}
use Rattle.std.specs.List.{list_all}
use Rattle.std.specs.Char.{is_ascii_digit}
use Rattle.std.specs.Str.Parse.{digits_value}
use Rattle.std.proofs.lemmas.Fmt.{digits_decimal, digits_value-decimal, decimal_nonempty, length-decimal-le}
use Rattle.std.proofs.lemmas.Str.Parse.{IsNumeralModel, numerals_by_value}
use Rattle.dap_stream.specs.Header.{line_end, IsAllowed, IsHeaderOf}
use Rattle.dap_stream.specs.Stream.{IsMessage, Reads, Stays, Goes}
use Rattle.dap_stream.specs.Writing.{header_bytes, message_bytes, bytes_of_messages}
use Rattle.dap_stream.proofs.LengthLemmas.{allowed_of}
use Rattle.dap_stream.proofs.HeaderLemmas.{no_lines, front_length, last_whole, length_name}

abbrev AreDigits : List ℕ → Type 0
AreDigits digits = list_all is_ascii_digit digits ≡ true

numerals : IsNumeralModel AreDigits (digits_value 10)
numerals = numerals_by_value AreDigits (search rules)

-- the value of the field that is written
abbrev value_of : ℕ → List ℕ
value_of size = 32 ∷ decimal size

written_length : (size : ℕ) → size ≤ 1048576 → IsAllowed (value_of size) size
written_length size h =
    let small : size < 2 ^ 64 = omega arith in
    let e = digits_value-decimal numerals size small in
    let few = length-decimal-le 10 size (omega arith) (omega arith) small in
    rw e at (allowed_of (32 ∷ []) (decimal size) refl (digits_decimal numerals size small)
    (decimal_nonempty size small) few (omega (arith, e)))

written_header : (size : ℕ) → size ≤ 1048576 → IsHeaderOf (header_bytes size) size
written_header size h =
    let name = codes "Content-Length" in
    let e = append_assoc (decimal size) line_end line_end in
    subst (λ l. IsHeaderOf l size) (ap (λ l. codes "Content-Length: " ++ l) e)
    (last_whole (front_length [] name (value_of size) size no_lines length_name refl (written_length size h)))

pub message_is : (body : List ℕ) → length body ≤ 1048576 → IsMessage (message_bytes body) body
message_is body h =
    let size = length body in
    let n = length-decimal-le 10 size (omega arith) (omega arith) (omega arith) in
    record {
      header = header_bytes size;
      header_is = written_header size h;
      few = omega (arith, n, length-append (decimal size) (line_end ++ line_end));
      spelled = refl;
    }

pub written_reads : (bodies : List (List ℕ)) → All (λ body. length body ≤ 1048576) bodies
    → Reads (bytes_of_messages bodies) bodies []
written_reads [] small = Stays []
written_reads (body ∷ bodies) small =
    Goes (bytes_of_messages (body ∷ bodies)) (message_bytes body) (bytes_of_messages bodies) body [] bodies
    (message_is body (small 0 [] (omega arith))) refl
    (written_reads bodies (λ i d lt. small (suc i) d (omega arith)))
