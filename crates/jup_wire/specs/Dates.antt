-- The date and time of a moment.
use Rattle.std.specs.Prelude.{◌≡◌, ℕ, pos, ◌*ℤ◌, ◌++◌, false, None}
use Rattle.base_text.specs.Bytes.{Text}
use Rattle.jiff_core.specs.declared.civil.datetime.DateTime.{DateTime}
use Rattle.jiff_core.specs.DateTime.{civil_nanos}
use Rattle.jiff_fmt.specs.Text.{datetime_text, zulu_text}

-- the separator between date and time
abbrev pub letter_t : ℕ
letter_t = 84

-- The text is that of the civil date and time in UTC so many seconds after 1970 began, and `Z`: the form
-- of RFC 3339, as in `2000-02-29T00:00:00Z`.
abbrev pub IsDate : ℕ → Text → Type 0
IsDate unix_seconds text =
    (dt : DateTime) × (civil_nanos dt ≡ pos unix_seconds *ℤ pos 1_000_000_000)
    × (text ≡ datetime_text false letter_t None dt ++ zulu_text false)

-- 2100-01-01T00:00:00Z, the last moment that has a date here
abbrev pub last_moment : ℕ
last_moment = 4_102_444_800
