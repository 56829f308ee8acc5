-- A moment has one date.
use Rattle.std.proofs.Common.{◌≡◌, ◌∙◌, ◌++◌, List, ℕ, false, None, refl, sym}
use Rattle.jiff_core.specs.declared.civil.datetime.DateTime.{DateTime}
use Rattle.jiff_core.specs.declared.civil.date.Date.{Date}
use Rattle.jiff_core.specs.declared.civil.time.Time.{Time}
use Rattle.jiff_core.specs.DateTime.{civil_nanos}
use Rattle.jiff_core.proofs.DateLemmas.{epoch_day_injective}
use Rattle.jiff_core.proofs.DateTimeLemmas.{civil_nanos_injective, time_nanos_injective}
use Rattle.jiff_fmt.specs.Text.{date_text, time_text, datetime_text, zulu_text}
use Rattle.jup_wire.specs.Dates.{IsDate, letter_t}

same_date : (a b : Date) → (a.year ≡ b.year) × (a.month ≡ b.month) × (a.day ≡ b.day)
    → date_text a ≡ date_text b
same_date a b (year, month, day) = rw (year, month, day) refl

same_time : (a b : Time) → (a.hour ≡ b.hour) × (a.minute ≡ b.minute) × (a.second ≡ b.second)
    × (a.subsec_nanosecond ≡ b.subsec_nanosecond) → time_text None a ≡ time_text None b
same_time a b (hour, minute, second, part) = rw (hour, minute, second, part) refl

same_text : (a b : DateTime) → civil_nanos a ≡ civil_nanos b
    → datetime_text false letter_t None a ++ zulu_text false
    ≡ datetime_text false letter_t None b ++ zulu_text false
same_text a b e =
    let parts = civil_nanos_injective a b e in
    let date = same_date a.date b.date (epoch_day_injective a.date b.date parts.0) in
    let time = same_time a.time b.time (time_nanos_injective a.time b.time parts.1) in
    rw (date, time) refl

pub one_date : (unix_seconds : ℕ) (a b : List ℕ) → IsDate unix_seconds a → IsDate unix_seconds b → a ≡ b
one_date unix_seconds a b (p, nanos, text) (q, nanos', text') =
    text ∙ (same_text p q (nanos ∙ sym nanos') ∙ sym text')
