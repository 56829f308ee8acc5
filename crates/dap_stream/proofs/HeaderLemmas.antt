use Rattle.std.proofs.Common.{◌≡◌, ℕ, Bool, true, false, Option, Some, None, List, [], ◌∷◌, ◌++◌, length}
use Rattle.std.proofs.Common.{refl, arith, sym, ◌∙◌, ap, subst, append_assoc, length-append, codes}
use Rattle.std.proofs.Common.{if◌then◌else◌}
use Rattle.std.specs.List.{list_all}
use Rattle.std.specs.Char.{is_ascii_digit, to_ascii_lowercase}
use Rattle.std.specs.Str.{str_to_ascii_lowercase}
use Rattle.std.proofs.lemmas.List.{append-nil, length-map}
use Rattle.std.proofs.lemmas.Bool.{false_from_ne_true}
use Rattle.std.proofs.lemmas.Bool.Decides.{nat_tests}
use Rattle.std.proofs.lemmas.Slice.Eq.{bytes_eq-Decides}
use Rattle.dap_stream.specs.Header.{line_end, colon, is_name_byte, is_value_byte, is_blank, Field, IsLine}
use Rattle.dap_stream.specs.Header.{IsLines, Ends, Next, IsHeader, is_length_name, lengths, IsLength}
use Rattle.dap_stream.specs.Header.{IsAllowed, IsHeaderOf}
use Rattle.dap_stream.specs.Faults.{CanBe, Begins}
use Rattle.dap_stream.specs.Spans.{IsName}
use Rattle.dap_stream.specs.Lines.{SaysSoFar, IsFront}
use Rattle.dap_stream.proofs.SpanLemmas.{same_cut, passes_on, passes_weaker}
use Rattle.dap_stream.proofs.LengthLemmas.{allowed_of}

-- FIELDS

abbrev pub field_of : List ℕ → List ℕ → Field
field_of name value = record { name = name; value = value }

-- the line of a field
abbrev pub line_of : List ℕ → List ℕ → List ℕ
line_of name value = name ++ colon ∷ (value ++ line_end)

pub line_is : (name value : List ℕ) → IsName name → list_all is_value_byte value ≡ true
    → IsLine (line_of name value) (field_of name value)
line_is name value n v = record { some = n.some; name_is = n.name_is; value_is = v; spelled = refl }

pub lengths-append : (fs gs : List Field) → lengths (fs ++ gs) ≡ lengths fs ++ lengths gs
lengths-append [] gs = refl
lengths-append (f ∷ fs) gs = rw (lengths-append fs gs) (by_name (is_length_name f.name))
  where
    by_name : (b : Bool) → (if b then (f.value ∷ (lengths fs ++ lengths gs)) else (lengths fs ++ lengths gs))
        ≡ (if b then (f.value ∷ lengths fs) else (lengths fs)) ++ lengths gs
    by_name true = refl
    by_name false = refl

pub lengths-cons : (name value : List ℕ) (fields : List Field) → is_length_name name ≡ true
    → lengths (field_of name value ∷ fields) ≡ value ∷ lengths fields
lengths-cons name value fields e = ap (λ b. if b then (value ∷ lengths fields) else (lengths fields)) e

-- lines one after another
pub lines_on : {a b : List ℕ} {fs gs : List Field} → IsLines a fs → IsLines b gs → IsLines (a ++ b) (fs ++ gs)
lines_on (Ends a e) next = rw e next
lines_on {b = b} {gs = gs} (Next a line others field fields is e are) next =
    Next (a ++ b) line (others ++ b) field (fields ++ gs) is
    (ap (λ l. l ++ b) e ∙ append_assoc line others b) (lines_on are next)

pub one_line : {line : List ℕ} {field : Field} → IsLine line field → IsLines line (field ∷ [])
one_line {line} {field} is = Next line line [] field [] is (sym (append-nil line)) (Ends [] refl)

pub short_header : {line : List ℕ} {field : Field} → IsLine line field
    → IsHeader (line ++ line_end) (field ∷ [])
short_header {line} is = record { lines = line; are = one_line is; spelled = refl }

-- HOW A HEADER GOES ON

-- a header is the empty line, or a field's line and a header
pub data Opening (bytes : List ℕ) (gs : List Field) : Type 0 where
  AtEnd : bytes ≡ line_end → gs ≡ [] → Opening bytes gs
  AtLine : (line t : List ℕ) (field : Field) (fields : List Field) → IsLine line field
      → bytes ≡ field.name ++ colon ∷ (field.value ++ 13 ∷ 10 ∷ t) → gs ≡ field ∷ fields → IsHeader t fields
      → Opening bytes gs

opening_of : {lines bytes : List ℕ} {gs : List Field} → IsLines lines gs → bytes ≡ lines ++ line_end
    → Opening bytes gs
opening_of (Ends lines e) s = AtEnd (s ∙ ap (λ l. l ++ line_end) e) refl
opening_of (Next lines line others field fields is e are) s =
    AtLine line (others ++ line_end) field fields is (s ∙ (ap (λ l. l ++ line_end) e
    ∙ (ap (λ l. (l ++ others) ++ line_end) is.spelled ∙ simp append_assoc))) refl
    (record { lines = others; are = are; spelled = refl })

pub opening : {bytes : List ℕ} {gs : List Field} → IsHeader bytes gs → Opening bytes gs
opening h = opening_of h.are h.spelled

-- a header that begins with a byte that is none of a name's: the empty line
pub at_empty : (more : List ℕ) (byte : ℕ) (gs : List Field) → is_name_byte byte ≡ false
    → Opening (byte ∷ more) gs → (byte ≡ 13) × (more ≡ 10 ∷ []) × (gs ≡ [])
at_empty more byte gs b (AtEnd e g) = (cc, cc, g)
at_empty more byte gs b (AtLine line t field fields is e g h) =
    let s = same_cut is_name_byte [] field.name (byte ∷ more) (colon ∷ (field.value ++ 13 ∷ 10 ∷ t)) refl
    is.name_is b refl e in
    absurd (omega (arith, ap length s.0, is.some))

-- a header that begins with a name, and then a byte that is none of a name's
pub record AtField (name : List ℕ) (byte : ℕ) (t : List ℕ) (gs : List Field) : Type 0 where
  pub value : List ℕ
  pub others : List ℕ
  pub fields : List Field
  pub byte_is : byte ≡ colon
  pub fields_are : gs ≡ field_of name value ∷ fields
  pub value_is : list_all is_value_byte value ≡ true
  pub after : t ≡ value ++ 13 ∷ 10 ∷ others
  pub header : IsHeader others fields

pub at_field : {bytes : List ℕ} {gs : List Field} (name t : List ℕ) (byte : ℕ) → IsName name
    → is_name_byte byte ≡ false → bytes ≡ name ++ byte ∷ t → Opening bytes gs → AtField name byte t gs
at_field name t byte n b k (AtEnd e g) =
    let s = same_cut is_name_byte name [] (byte ∷ t) line_end n.name_is refl b refl (sym k ∙ e) in
    absurd (omega (arith, ap length s.0, n.some))
at_field name t byte n b k (AtLine line others field fields is e g h) =
    let s = same_cut is_name_byte name field.name (byte ∷ t) (colon ∷ (field.value ++ 13 ∷ 10 ∷ others))
    n.name_is is.name_is b refl (sym k ∙ e) in
    let after = s.1 in
    record {
      value = field.value;
      others = others;
      fields = fields;
      byte_is = cc;
      fields_are = g ∙ ap (λ n. field_of n field.value ∷ fields) (sym s.0);
      value_is = is.value_is;
      after = cc;
      header = h;
    }

after_field : {gs : List Field} (field : Field) (t : List ℕ) → list_all is_value_byte field.value ≡ true
    → AtField field.name colon (field.value ++ 13 ∷ 10 ∷ t) gs
    → (others : List Field) × (gs ≡ field ∷ others) × IsHeader t others
after_field field t v a =
    let s = same_cut is_value_byte field.value a.value (13 ∷ 10 ∷ t) (13 ∷ 10 ∷ a.others) v a.value_is refl
    refl a.after in
    let after = s.1 in
    let t_is : a.others ≡ t = cc in (
      a.fields,
      a.fields_are ∙ ap (λ v. field_of field.name v ∷ a.fields) (sym s.0),
      subst (λ l. IsHeader l a.fields) t_is a.header,
    )

-- what follows whole lines in a header is a header
pub after_lines : {lines : List ℕ} {fs gs : List Field} (t : List ℕ) → IsLines lines fs
    → IsHeader (lines ++ t) gs → (others : List Field) × (gs ≡ fs ++ others) × IsHeader t others
after_lines {gs = gs} t (Ends lines e) h = (gs, refl, rw e at h)
after_lines t (Next lines line others field fields is e are) h =
    let more = field.value ++ 13 ∷ 10 ∷ (others ++ t) in
    let k : lines ++ t ≡ field.name ++ colon ∷ more = ap (λ l. l ++ t) (e ∙ ap (λ l. l ++ others) is.spelled)
    ∙ simp append_assoc in
    let n : IsName field.name = record { some = is.some; name_is = is.name_is } in
    let first = at_field field.name more colon n refl k (opening h) in
    let a = after_field field (others ++ t) is.value_is first in
    let b = after_lines t are a.2 in
    (b.0, a.1 ∙ ap (λ l. field ∷ l) b.1, b.2)

-- AFTER WHOLE LINES WITH THESE LENGTHS

-- what no header has that goes on with these bytes
pub never : {lines : List ℕ} {fs : List Field} {values : List (List ℕ)} (demand : List (List ℕ) → Type 0)
    (part : List ℕ) → IsLines lines fs → lengths fs ≡ values → ((more : List ℕ) (gs : List Field)
    → IsHeader (part ++ more) gs → demand (values ++ lengths gs) → ⊥) → CanBe demand (lines ++ part) → ⊥
never {lines} {fs} demand part are says none can =
    let a = after_lines (part ++ can.more) are (rw append_assoc at can.header) in
    none can.more a.0 a.2 (subst demand (ap lengths a.1 ∙ (lengths-append fs a.0
    ∙ ap (λ l. l ++ lengths a.0) says)) can.met)

-- what some header has that goes on with these bytes
pub ever : {lines : List ℕ} {fs gs : List Field} {values : List (List ℕ)} (demand : List (List ℕ) → Type 0)
    (part more : List ℕ) → IsLines lines fs → lengths fs ≡ values → IsHeader (part ++ more) gs
    → demand (values ++ lengths gs) → CanBe demand (lines ++ part)
ever {lines} {fs} {gs} demand part more are says h met = record {
  more = more;
  fields = fs ++ gs;
  header = record {
    lines = lines ++ h.lines;
    are = lines_on are h.are;
    spelled = append_assoc lines part more
        ∙ (ap (λ l. lines ++ l) h.spelled ∙ sym (append_assoc lines h.lines line_end));
  };
  met = subst demand (sym (lengths-append fs gs ∙ ap (λ l. l ++ lengths gs) says)) met;
}

-- ONE LINE MORE

pub no_lines : IsFront [] None
no_lines = record { fields = []; are = Ends [] refl; says = refl }

front_on : {lines line : List ℕ} {size next : Option ℕ} (field : Field) (f : IsFront lines size)
    → IsLine line field → SaysSoFar (lengths f.fields ++ lengths (field ∷ [])) next
    → IsFront (lines ++ line) next
front_on {next = next} field f is says = record {
  fields = f.fields ++ field ∷ [];
  are = lines_on f.are (one_line is);
  says = subst (λ l. SaysSoFar l next) (sym (lengths-append f.fields (field ∷ []))) says;
}

pub front_other : (lines name value : List ℕ) (size : Option ℕ) → IsFront lines size → IsName name
    → is_length_name name ≡ false → list_all is_value_byte value ≡ true
    → IsFront (lines ++ line_of name value) size
front_other lines name value size f n other v =
    front_on (field_of name value) f (line_is name value n v) (subst (λ l. SaysSoFar l size)
    (sym (ap (λ b. lengths f.fields ++ (if b then (value ∷ []) else [])) other
    ∙ append-nil (lengths f.fields))) f.says)

blank_value : (x : ℕ) → is_blank x ≡ true → is_value_byte x ≡ true
blank_value x e = grind (arith, nat_tests)

digit_value : (x : ℕ) → is_ascii_digit x ≡ true → is_value_byte x ≡ true
digit_value x e = grind (arith, nat_tests)

pub blanks_value : (blanks : List ℕ) → list_all is_blank blanks ≡ true → list_all is_value_byte blanks ≡ true
blanks_value = passes_weaker is_blank is_value_byte blank_value

-- a length is of bytes that a value may have
pub length_value : {value : List ℕ} {size : ℕ} → IsLength value size → list_all is_value_byte value ≡ true
length_value is =
    rw is.spelled (passes_on is_value_byte is.blanks is.digits (blanks_value is.blanks is.blanks_are)
    (passes_weaker is_ascii_digit is_value_byte digit_value is.digits is.digits_are))

pub front_length : (lines name value : List ℕ) (size : ℕ) → IsFront lines None → IsName name
    → is_length_name name ≡ true → IsAllowed value size → IsFront (lines ++ line_of name value) (Some size)
front_length lines name value size f n named allowed =
    front_on (field_of name value) f (line_is name value n (length_value allowed.length_is)) (record {
      value = value;
      one = ap (λ l. l ++ lengths (field_of name value ∷ [])) f.says ∙ lengths-cons name value [] named;
      allowed = allowed;
    })

-- WHAT CAN GO ON

pub last_whole : {lines : List ℕ} {size : ℕ} → IsFront lines (Some size) → IsHeaderOf (lines ++ line_end) size
last_whole {lines} f = record {
  fields = f.fields;
  header = record { lines = lines; are = f.are; spelled = refl };
  length_is = f.says;
}

pub length_name : IsName (codes "Content-Length")
length_name = record { some = omega arith; name_is = refl }

-- a part of whole lines
pub begins : (part more lines : List ℕ) (size : Option ℕ) → IsFront lines size → lines ≡ part ++ more
    → Begins part
begins part more lines (Some size) f e = record {
  more = more ++ line_end;
  size = size;
  some = omega (arith, length-append more line_end);
  whole = subst (λ l. IsHeaderOf l size) (ap (λ l. l ++ line_end) e ∙ simp append_assoc) (last_whole f);
}
begins part more lines None f e =
    let line = line_of (codes "Content-Length") (codes "0") in
    let zero = allowed_of [] (codes "0") refl refl (omega arith) (omega arith) (omega arith) in
    let w = last_whole (front_length lines (codes "Content-Length") (codes "0") 0 f length_name refl zero) in
    record {
      more = more ++ (line ++ line_end);
      size = 0;
      some = omega (arith, length-append more (line ++ line_end));
      whole = subst (λ l. IsHeaderOf l 0) (ap (λ l. (l ++ line) ++ line_end) e ∙ simp append_assoc) w;
    }

-- fifteen letters, which make a name longer than Content-Length
abbrev filler : List ℕ
filler = codes "xxxxxxxxxxxxxxx"

longer_name : (name : List ℕ) → is_length_name (name ++ filler) ≡ false
longer_name name =
    false_from_ne_true (is_length_name (name ++ filler))
    (λ e. (let k = (bytes_eq-Decides (str_to_ascii_lowercase (name ++ filler))
    (str_to_ascii_lowercase (codes "Content-Length"))).0 e in
    let n : length (str_to_ascii_lowercase (name ++ filler)) ≡ 14 = ap length k in
    omega (arith, n, length-map (name ++ filler) to_ascii_lowercase, length-append name filler)))

pub begins_name : (lines name : List ℕ) (size : Option ℕ) → IsFront lines size
    → list_all is_name_byte name ≡ true → Begins (lines ++ name)
begins_name lines name size f n =
    let is : IsName (name ++ filler) = record {
      some = omega (arith, length-append name filler);
      name_is = passes_on is_name_byte name filler n refl;
    } in
    begins (lines ++ name) (filler ++ colon ∷ line_end) (lines ++ line_of (name ++ filler) []) size
    (front_other lines (name ++ filler) [] size f is (longer_name name) refl) (simp append_assoc)
