use Rattle.std.proofs.Common.{◌≡◌, ℕ, ◌<◌, ◌==◌, true, false, Option, Some, None, Result, Ok, Err, List, []}
use Rattle.std.proofs.Common.{◌∷◌, ◌++◌, length, refl, arith, sym, ◌∙◌, ap, subst, append_assoc}
use Rattle.std.proofs.Common.{length-append}
use Rattle.std.specs.List.{list_all}
use Rattle.std.proofs.lemmas.List.{append-nil}
use Rattle.std.proofs.lemmas.Bool.{cond_both, eqb-true, eqb-false}
use Rattle.dap_stream.specs.declared.fault.StreamFault.{StreamFault}
use Rattle.dap_stream.specs.declared.fault.StreamFault.TheVariants as fault
use Rattle.dap_stream.specs.Header.{line_end, colon, is_name_byte, is_value_byte, is_blank, Field}
use Rattle.dap_stream.specs.Header.{Ends as NoLines, IsHeader, is_length_name, lengths, IsLength, IsAllowed}
use Rattle.dap_stream.specs.Faults.{CanBe, Any, AtMostOne, Single, IsNumber, Numbered, Small, Sized, Begins}
use Rattle.dap_stream.specs.Faults.{Lacks, NoHeader, Twice, NoNumber, TooLarge, Missing}
use Rattle.dap_stream.specs.Spans.{StopsAt, IsName, IsSplit}
use Rattle.dap_stream.specs.Lengths.{CanSay, LacksSize, NoNumber as NoSize, TooLarge as LargeSize}
use Rattle.dap_stream.specs.Lengths.{BreaksLength, ValueSays, value_from}
use Rattle.dap_stream.specs.Lines.{IsFront, IsBroken, LineSays}
use Rattle.dap_stream.specs.Parsing as parse
use Rattle.dap_stream.proofs.SpanLemmas.{same_cut, inside, passes_parts}
use Rattle.dap_stream.proofs.LengthLemmas.{all_digits, says_blanks, length_says}
use Rattle.dap_stream.proofs.HeaderLemmas.{field_of, line_of, line_is, lengths-cons, short_header, opening}
use Rattle.dap_stream.proofs.HeaderLemmas.{at_empty, at_field, never, ever, front_other, blanks_value}
use Rattle.dap_stream.proofs.HeaderLemmas.{front_length, last_whole, begins, begins_name}

-- AFTER WHOLE LINES

-- a fault at a byte of what follows
broken_at : (lines bytes part others : List ℕ) (byte : ℕ) (c : StreamFault) → bytes ≡ part ++ byte ∷ others
    → Begins (lines ++ part) → Lacks (lines ++ (part ++ byte ∷ [])) c → IsBroken (lines ++ bytes) c
broken_at lines bytes part others byte c e b l = record {
  front = lines ++ part;
  byte = byte;
  others = others;
  spelled = ap (λ l. lines ++ l) e ∙ sym (append_assoc lines part (byte ∷ others));
  breaks = record { begins = b; lacks = rw append_assoc l };
}

module _ (lines : List ℕ) (size : Option ℕ) (f : IsFront lines size) where
  -- a byte with which no header goes on
  wrong : (bytes part others : List ℕ) (byte : ℕ) → bytes ≡ part ++ byte ∷ others → Begins (lines ++ part)
      → ((more : List ℕ) (gs : List Field) → IsHeader ((part ++ byte ∷ []) ++ more) gs → ⊥)
      → IsBroken (lines ++ bytes) fault.HeaderLine
  wrong bytes part others byte e b none =
      broken_at lines bytes part others byte fault.HeaderLine e b
      (NoHeader refl (never Any (part ++ byte ∷ []) f.are refl (λ more gs h met. none more gs h)))

  begins_on : Begins (lines ++ [])
  begins_on = rw (append-nil lines) (begins lines [] lines size f (sym (append-nil lines)))

  name_wrong : (name others : List ℕ) (byte : ℕ) → IsName name → is_name_byte byte ≡ false
      → (byte ≡ colon → ⊥) → IsBroken (lines ++ (name ++ byte ∷ others)) fault.HeaderLine
  name_wrong name others byte n b other =
      wrong (name ++ byte ∷ others) name others byte refl (begins_name lines name size f n.name_is)
      (λ more gs h. other (at_field name more byte n b (simp append_assoc) (opening h)).byte_is)

-- THE EMPTY LINE

none_sized : (gs : List Field) → gs ≡ [] → Sized (lengths gs) → ⊥
none_sized gs e met =
    let sized : Sized [] = subst (λ g. Sized (lengths g)) e met in
    let one = sized.1.one in cc

last_begun : (lines : List ℕ) (size : ℕ) → IsFront lines (Some size) → Begins (lines ++ 13 ∷ [])
last_begun lines size f = record {
  more = 10 ∷ [];
  size = size;
  some = omega arith;
  whole = rw (append_assoc lines (13 ∷ []) (10 ∷ [])) (last_whole f);
}

empty_says : (lines bytes : List ℕ) (size : Option ℕ) → IsFront lines size
    → LineSays lines (13 ∷ bytes) (parse.empty_line size bytes)
empty_says lines bytes None f =
    broken_at lines (13 ∷ bytes) [] bytes 13 fault.NoLength refl (begins_on lines None f)
    (Missing refl (ever Small (13 ∷ []) (10 ∷ []) f.are f.says
    (record { lines = []; are = NoLines [] refl; spelled = refl }) tt)
    (never Sized (13 ∷ []) f.are f.says (λ more gs h met.
    none_sized gs (at_empty more 13 gs refl (opening h)).2 met)))
empty_says lines [] (Some size) f = last_begun lines size f
empty_says lines (byte ∷ others) (Some size) f =
    cond_both (byte == 10) _ _ (LineSays lines (13 ∷ byte ∷ others))
    (λ e. record { spelled = ap (λ b. 13 ∷ b ∷ others) (eqb-true byte 10 e); header = last_whole f })
    (λ e. wrong lines (Some size) f (13 ∷ byte ∷ others) (13 ∷ []) others byte refl (last_begun lines size f)
    (λ more gs h. (let feed = (at_empty (byte ∷ more) 13 gs refl (opening h)).1 in eqb-false byte 10 e (cc))))

nameless_says : (lines bytes : List ℕ) (byte : ℕ) (size : Option ℕ) → IsFront lines size
    → is_name_byte byte ≡ false → LineSays lines (byte ∷ bytes) (parse.nameless size byte bytes)
nameless_says lines bytes byte size f b =
    cond_both (byte == 13) _ _ (LineSays lines (byte ∷ bytes))
    (λ e. subst (λ b. LineSays lines (b ∷ bytes) (parse.empty_line size bytes)) (sym (eqb-true byte 13 e))
    (empty_says lines bytes size f))
    (λ e. wrong lines size f (byte ∷ bytes) [] bytes byte refl (begins_on lines size f)
    (λ more gs h. eqb-false byte 13 e (at_empty more byte gs b (opening h)).0))

-- THE END OF A FIELD

module _ (lines name value : List ℕ) (size : Option ℕ) (f : IsFront lines size) (n : IsName name)
    (v : list_all is_value_byte value ≡ true) where
  -- a header that goes on after the value goes on with the line's end
  ends_with : (bytes more : List ℕ) (byte : ℕ) (gs : List Field) → is_value_byte byte ≡ false
      → bytes ≡ name ++ colon ∷ (value ++ byte ∷ more) → IsHeader bytes gs
      → (byte ≡ 13) × ((others : List ℕ) × more ≡ 10 ∷ others)
  ends_with bytes more byte gs b e h =
      let a = at_field name (value ++ byte ∷ more) colon n refl e (opening h) in
      let s = same_cut is_value_byte value a.value (byte ∷ more) (13 ∷ 10 ∷ a.others) v a.value_is b refl
      a.after in
      let after = s.1 in
      (cc, (a.others, cc))

  value_wrong : (others : List ℕ) (byte : ℕ) → Begins (lines ++ (name ++ colon ∷ value))
      → is_value_byte byte ≡ false → (byte ≡ 13 → ⊥)
      → IsBroken (lines ++ (name ++ colon ∷ (value ++ byte ∷ others))) fault.HeaderLine
  value_wrong others byte begun b other =
      wrong lines size f _ (name ++ colon ∷ value) others byte (simp append_assoc) begun
      (λ more gs h. other (ends_with _ more byte gs b (simp append_assoc) h).0)

  -- where the lines with the field say this size
  module _ (next : Option ℕ) (after : IsFront (lines ++ line_of name value) next) where
    begins_line : (part more : List ℕ) → line_of name value ≡ part ++ more → Begins (lines ++ part)
    begins_line part more e =
        begins (lines ++ part) more (lines ++ line_of name value) next after
        (ap (λ l. lines ++ l) e ∙ sym (append_assoc lines part more))

    feed_says : (bytes : List ℕ)
        → LineSays lines (name ++ colon ∷ (value ++ 13 ∷ bytes)) (parse.line_feed next bytes)
    feed_says [] = begins_line (name ++ colon ∷ (value ++ 13 ∷ [])) (10 ∷ []) (simp append_assoc)
    feed_says (byte ∷ others) =
        cond_both (byte == 10) _ _ (LineSays lines (name ++ colon ∷ (value ++ 13 ∷ byte ∷ others)))
        (λ k. record {
          line = line_of name value;
          some = omega (arith, length-append name (colon ∷ (value ++ line_end)));
          spelled = rw (eqb-true byte 10 k) (simp append_assoc);
          after = after;
        })
        (λ k. (let part = name ++ colon ∷ (value ++ 13 ∷ []) in
        let begun = begins_line part (10 ∷ []) (simp append_assoc) in
        wrong lines size f _ part others byte (simp append_assoc) begun (λ more gs h. (
        let feed = (ends_with _ (byte ∷ more) 13 gs refl (simp append_assoc) h).1.1 in
        eqb-false byte 10 k (cc)))))

    value_ends : (others : List ℕ) → StopsAt is_value_byte others
        → LineSays lines (name ++ colon ∷ (value ++ others)) (parse.after_value next others)
    value_ends [] stop =
        begins_line (name ++ colon ∷ (value ++ [])) line_end (simp (append_assoc, append-nil))
    value_ends (byte ∷ others) stop =
        cond_both (byte == 13) _ _ (LineSays lines (name ++ colon ∷ (value ++ byte ∷ others)))
        (λ k. rw (eqb-true byte 13 k) (feed_says others))
        (λ k. value_wrong others byte (begins_line (name ++ colon ∷ value) line_end (simp append_assoc)) stop
        (eqb-false byte 13 k))

-- A CONTENT-LENGTH

only : (holds : List ℕ → Type 0) (value : List ℕ) (values : List (List ℕ)) → AtMostOne holds (value ∷ values)
    → holds value
only holds value [] h = h
only holds value (other ∷ values) h = absurd h

blanks_no_length : (blanks : List ℕ) (size : ℕ) → list_all is_blank blanks ≡ true → IsLength blanks size → ⊥
blanks_no_length blanks size b is =
    let e = all_digits blanks [] b refl blanks [] size (sym (append-nil blanks)) (λ none. tt) is in
    omega (arith, ap length e, is.some)

module _ (lines name : List ℕ) (n : IsName name) (named : is_length_name name ≡ true) where
  -- a second Content-Length
  second_length : (bytes : List ℕ) (size : ℕ) → IsFront lines (Some size)
      → IsBroken (lines ++ (name ++ colon ∷ bytes)) fault.SecondLength
  second_length bytes size f =
      broken_at lines (name ++ colon ∷ bytes) name bytes colon fault.SecondLength refl
      (begins_name lines name (Some size) f n.name_is)
      (Twice refl (ever Any (name ++ colon ∷ []) (line_end ++ line_end) f.are f.says.one
      (subst (λ l. IsHeader l (field_of name [] ∷ [])) (simp append_assoc)
      (short_header (line_is name [] n refl))) tt)
      (never Single (name ++ colon ∷ []) f.are f.says.one (λ more gs h met. (
      let a = at_field name more colon n refl (append_assoc name (colon ∷ []) more) (opening h) in
      subst (λ l. Single (f.says.value ∷ l)) (ap lengths a.fields_are
      ∙ lengths-cons name a.value a.fields named) met))))

  module _ (f : IsFront lines None) where
    begins_length : (value : List ℕ) → CanSay value → Begins (lines ++ (name ++ colon ∷ value))
    begins_length value can =
        begins _ (can.more ++ line_end) (lines ++ line_of name (value ++ can.more)) (Some can.size)
        (front_length lines name (value ++ can.more) can.size f n named can.allowed) (simp append_assoc)

    has_length : (holds : List ℕ → Type 0) (bytes t : List ℕ) (gs : List Field) → bytes ≡ name ++ colon ∷ t
        → IsHeader bytes gs → AtMostOne holds (lengths gs) → (value others : List ℕ)
        × (list_all is_value_byte value ≡ true) × (t ≡ value ++ 13 ∷ 10 ∷ others) × holds value
    has_length holds bytes t gs e h met =
        let a = at_field name t colon n refl e (opening h) in (
          a.value,
          a.others,
          a.value_is,
          a.after,
          only holds a.value (lengths a.fields) (subst (AtMostOne holds)
              (ap lengths a.fields_are ∙ lengths-cons name a.value a.fields named) met),
        )

    -- a header that ends with a Content-Length of this value
    can : (holds : List ℕ → Type 0) (value part more : List ℕ) → list_all is_value_byte value ≡ true
        → line_of name value ++ line_end ≡ part ++ more → holds value
        → CanBe (AtMostOne holds) (lines ++ part)
    can holds value part more v e h =
        ever (AtMostOne holds) part more f.are f.says
        (subst (λ l. IsHeader l (field_of name value ∷ [])) e (short_header (line_is name value n v)))
        (subst (AtMostOne holds) (sym (lengths-cons name value [] named)) h)

    lacks_by : (front : List ℕ) (byte : ℕ) (c : StreamFault)
        → list_all is_value_byte (front ++ byte ∷ []) ≡ true → LacksSize (front ++ byte ∷ []) c
        → Lacks (lines ++ ((name ++ colon ∷ front) ++ byte ∷ [])) c
    lacks_by front byte c v l = by_lack l
      where
        value : List ℕ
        value = front ++ byte ∷ []

        part : List ℕ
        part = (name ++ colon ∷ front) ++ byte ∷ []

        cannot : (holds : List ℕ → Type 0) → ((rest : List ℕ) → holds (value ++ rest) → ⊥)
            → CanBe (AtMostOne holds) (lines ++ part) → ⊥
        cannot holds none =
            never (AtMostOne holds) part f.are f.says (λ more gs h met. (
            let a = has_length holds _ (value ++ more) gs (simp append_assoc) h met in
            let i = inside is_value_byte value more a.0 (10 ∷ a.1) 13 v refl a.3 in
            none i.0 (subst holds i.1 a.4)))

        by_lack : LacksSize value c → Lacks (lines ++ part) c
        by_lack (NoSize k none) =
            NoNumber k (can (λ value. Unit {0}) value part (line_end ++ line_end) v (simp append_assoc) tt)
            (cannot IsNumber (λ rest h. none rest h.0 h.1))
        by_lack (LargeSize size k is none) =
            TooLarge k (can IsNumber value part (line_end ++ line_end) v (simp append_assoc) (size, is))
            (cannot (λ value. (size : ℕ) × IsAllowed value size) (λ rest h. none rest h.0 h.1))

    length_wrong : (value others : List ℕ) (c : StreamFault) → list_all is_value_byte value ≡ true
        → BreaksLength value c → IsBroken (lines ++ (name ++ colon ∷ (value ++ others))) c
    length_wrong value others c v b =
        let k : value ≡ (b.front ++ b.byte ∷ []) ++ b.others = b.spelled ∙ simp append_assoc in
        let v' = passes_parts is_value_byte (b.front ++ b.byte ∷ []) b.others
        (subst (λ l. list_all is_value_byte l ≡ true) k v) in
        broken_at lines _ (name ++ colon ∷ b.front) (b.others ++ others) b.byte c
        (ap (λ l. name ++ colon ∷ (l ++ others)) b.spelled ∙ simp append_assoc)
        (begins_length b.front b.begins) (lacks_by b.front b.byte c v'.0 b.lacks)

    digits_missing : (blanks others : List ℕ) → list_all is_blank blanks ≡ true
        → IsBroken (lines ++ (name ++ colon ∷ (blanks ++ 13 ∷ others))) fault.LengthValue
    digits_missing blanks others b =
        let part = (name ++ colon ∷ blanks) ++ 13 ∷ [] in
        let v = blanks_value blanks b in
        broken_at lines _ (name ++ colon ∷ blanks) others 13 fault.LengthValue (simp append_assoc)
        (begins_length blanks (says_blanks blanks b))
        (NoNumber refl (can (λ value. Unit {0}) blanks part (10 ∷ line_end) v (simp append_assoc) tt)
        (never Numbered part f.are f.says (λ more gs h met. (
        let a = has_length IsNumber _ (blanks ++ 13 ∷ more) gs (simp append_assoc) h met in
        let s = same_cut is_value_byte blanks a.0 (13 ∷ more) (13 ∷ 10 ∷ a.1) v a.2 refl refl a.3 in
        let held = subst IsNumber (sym s.0) a.4 in
        blanks_no_length blanks held.0 b held.1))))

    blanks_end : (blanks others : List ℕ) → list_all is_blank blanks ≡ true → StopsAt is_value_byte others
        → LineSays lines (name ++ colon ∷ (blanks ++ others)) (parse.after_blanks others)
    blanks_end blanks [] b stop = rw (append-nil blanks) (begins_length blanks (says_blanks blanks b))
    blanks_end blanks (byte ∷ others) b stop =
        cond_both (byte == 13) _ _ (LineSays lines (name ++ colon ∷ (blanks ++ byte ∷ others)))
        (λ k. subst (λ b. IsBroken (lines ++ (name ++ colon ∷ (blanks ++ b ∷ others))) fault.LengthValue)
        (sym (eqb-true byte 13 k)) (digits_missing blanks others b))
        (λ k. value_wrong lines name blanks None f n (blanks_value blanks b) others byte
        (begins_length blanks (says_blanks blanks b)) stop (eqb-false byte 13 k))

    length_ends : (value others : List ℕ) (said : Result (Option ℕ) StreamFault)
        → list_all is_value_byte value ≡ true → StopsAt is_value_byte others → ValueSays value said
        → LineSays lines (name ++ colon ∷ (value ++ others)) (parse.after_length said others)
    length_ends value others (Err c) v stop b = length_wrong value others c v b
    length_ends value others (Ok None) v stop b = blanks_end value others b stop
    length_ends value others (Ok (Some size)) v stop allowed =
        value_ends lines name value None f n v (Some size)
        (front_length lines name value size f n named allowed) others stop

  length_field_says : (value others : List ℕ) (size : Option ℕ) → IsFront lines size
      → list_all is_value_byte value ≡ true → StopsAt is_value_byte others
      → LineSays lines (name ++ colon ∷ (value ++ others)) (parse.length_field size value others)
  length_field_says value others None f v stop =
      length_ends f value others (value_from 0 0 value) v stop (length_says value)
  length_field_says value others (Some size) f v stop = second_length (value ++ others) size f

field_says : (lines name value others : List ℕ) (size : Option ℕ) → IsFront lines size → IsName name
    → list_all is_value_byte value ≡ true → StopsAt is_value_byte others
    → LineSays lines (name ++ colon ∷ (value ++ others)) (parse.field size name value others)
field_says lines name value others size f n v stop =
    cond_both (is_length_name name) _ _ (LineSays lines (name ++ colon ∷ (value ++ others)))
    (λ named. length_field_says lines name n named value others size f v stop)
    (λ other. value_ends lines name value size f n v size (front_other lines name value size f n other v)
    others stop)

-- WHOLE LINES

-- what the parts of a line come to
pub nameless_line : (lines bytes name others after : List ℕ) (byte : ℕ) (size : Option ℕ) (said : parse.Parse)
    → IsSplit is_name_byte bytes name others → others ≡ byte ∷ after → IsFront lines size → name ≡ []
    → said ≡ parse.nameless size byte after → LineSays lines bytes said
nameless_line lines bytes name others after byte size said split e f none is =
    let k : bytes ≡ byte ∷ after = split.spelled ∙ (ap (λ l. l ++ others) none ∙ e) in
    let b = subst (StopsAt is_name_byte) e split.stops in
    rw (k, is) (nameless_says lines after byte size f b)

pub other_line : (lines bytes name others after : List ℕ) (byte : ℕ) (size : Option ℕ)
    → IsSplit is_name_byte bytes name others → others ≡ byte ∷ after → IsFront lines size → 0 < length name
    → (byte ≡ colon → ⊥) → IsBroken (lines ++ bytes) fault.HeaderLine
other_line lines bytes name others after byte size split e f some other =
    rw (split.spelled, e) (name_wrong lines size f name after byte
    (record { some = some; name_is = split.front_is })
    (subst (StopsAt is_name_byte) e split.stops) other)

pub field_line : (lines bytes name others after value rest : List ℕ) (byte : ℕ) (size : Option ℕ)
    (said : parse.Parse) → IsSplit is_name_byte bytes name others → others ≡ byte ∷ after → IsFront lines size
    → 0 < length name → byte ≡ colon → IsSplit is_value_byte after value rest
    → said ≡ parse.field size name value rest → LineSays lines bytes said
field_line lines bytes name others after value rest byte size said split e f some k v is =
    let whole : bytes ≡ name ++ colon ∷ (value ++ rest) =
    split.spelled ∙ ap (λ l. name ++ l) (e ∙ (ap (λ b. b ∷ after) k ∙ ap (λ l. colon ∷ l) v.spelled)) in
    rw (whole, is) (field_says lines name value rest size f (record { some = some; name_is = split.front_is })
    v.front_is v.stops)
