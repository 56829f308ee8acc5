-- The characters that mean something in a line, by their ASCII codes (8080/8085 Assembly Language
-- Programming Manual, chapter 2).
use Rattle.std.specs.Prelude.{ℕ}

abbrev pub tab : ℕ
tab = 9

abbrev pub space : ℕ
space = 32

abbrev pub dollar : ℕ
dollar = 36

-- '
abbrev pub quote : ℕ
quote = 39

abbrev pub open_parenthesis : ℕ
open_parenthesis = 40

abbrev pub close_parenthesis : ℕ
close_parenthesis = 41

abbrev pub asterisk : ℕ
asterisk = 42

abbrev pub plus : ℕ
plus = 43

abbrev pub comma : ℕ
comma = 44

abbrev pub minus : ℕ
minus = 45

abbrev pub slash : ℕ
slash = 47

abbrev pub colon : ℕ
colon = 58

abbrev pub semicolon : ℕ
semicolon = 59

abbrev pub question_mark : ℕ
question_mark = 63

-- @
abbrev pub at_sign : ℕ
at_sign = 64

-- ---- letters

abbrev pub letter_b : ℕ
letter_b = 66

abbrev pub letter_d : ℕ
letter_d = 68

abbrev pub letter_h : ℕ
letter_h = 72

abbrev pub letter_o : ℕ
letter_o = 79

abbrev pub letter_q : ℕ
letter_q = 81

-- ~, the last character that shows
abbrev pub tilde : ℕ
tilde = 126
