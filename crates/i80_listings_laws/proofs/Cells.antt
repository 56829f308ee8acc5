-- A listing is a cell: its lines, and their statements.
use Rattle.std.proofs.Common.{◌≡◌, ℕ, ◌-◌, ◌<◌, ◌≤◌, inl, inr, List, [], ◌∷◌, ◌++◌}
use Rattle.std.proofs.Common.{length, map, get_or, refl, sym, ap, subst, ◌∙◌, arith}
use Rattle.std.proofs.lemmas.List.{length-append}
use Rattle.i80_base.specs.declared.instruction.Instr.{Instr}
use Rattle.i80_rows.specs.Encoding.{Encodes, encoding_of}
use Rattle.i80_rows.proofs.OnlyEncoding.{encoding_is}
use Rattle.asm_syntax.specs.declared.statement.Statement.{Statement}
use Rattle.i80_dis.specs.declared.line.Shown.{Shown}
use Rattle.i80_dis.specs.declared.line.Shown.TheVariants.{Instruction, Datum}
use Rattle.i80_dis.specs.Shown.{Lists}
use Rattle.i80_dis.specs.Text.{text_of, text_line, text_of_lines}
use Rattle.i80_listings_laws.specs.Bytes.{AreBytes}
use Rattle.i80_listings_laws.proofs.PlainLines.{does}
use Rattle.i80_listings_laws.proofs.Instructions.{IsLine, action_by, instruction_is, datum_is}

-- ---- lines that give bytes, one behind the other

pub record Given : Type 0 where
  pub text : List ℕ
  pub bytes : List ℕ
  pub line : IsLine text bytes

abbrev pub text_given : List Given → List ℕ
text_given [] = []
text_given (g ∷ gs) = text_line g.text ++ text_given gs

abbrev pub bytes_given : List Given → List ℕ
bytes_given [] = []
bytes_given (g ∷ gs) = g.bytes ++ bytes_given gs

abbrev pub texts_given : List Given → List (List ℕ)
texts_given gs = map (λ g. g.text) gs

abbrev pub statements_given : List Given → List Statement
statements_given gs = map (λ g. does (action_by g.line.acts)) gs

-- such lines are those that a listing has
pub record AreGiven (bytes : List ℕ) (shown : List Shown) : Type 0 where
  pub given : List Given
  pub text : text_of_lines shown ≡ text_given given
  pub all : bytes_given given ≡ bytes
  pub most : length given ≤ length bytes

pub front_bytes : (xs ys : List ℕ) → AreBytes (xs ++ ys) → AreBytes xs
front_bytes [] ys h = tt
front_bytes (x ∷ xs) ys h = (h.0, front_bytes xs ys h.1)

back_bytes : (xs ys : List ℕ) → AreBytes (xs ++ ys) → AreBytes ys
back_bytes [] ys h = h
back_bytes (x ∷ xs) ys h = back_bytes xs ys h.1

pub second_small : (xs : List ℕ) → AreBytes xs → get_or xs 1 0 < 256
second_small [] h = omega arith
second_small (x ∷ []) h = omega arith
second_small (x ∷ (y ∷ xs)) h = h.1.0

some_encoded : (i : Instr) (code : List ℕ) → Encodes i code → 0 < length code
some_encoded i [] h = absurd h
some_encoded i (b ∷ code) h = omega arith

instruction_given : (i : Instr) (code rest : List ℕ) (shown : List Shown) → Encodes i code → AreBytes code
    → AreGiven rest shown → AreGiven (code ++ rest) (Instruction i ∷ shown)
instruction_given i code rest shown encodes are more =
    let is : code ≡ encoding_of i = encoding_is i code encodes (second_small code are) in
    let line = instruction_is i (subst AreBytes is are) in
    let all = more.all in
    let most = more.most in
    let some = some_encoded i code encodes in
    let long = length-append code rest in
    record {
      given = record { text = text_of (Instruction i); bytes = encoding_of i; line = line } ∷ more.given;
      text = ap (λ t. text_line (text_of (Instruction i)) ++ t) more.text;
      all = ap (λ bs. bs ++ bytes_given more.given) (sym is) ∙ ap (λ bs. code ++ bs) all;
      most = omega (arith, most, some, long);
    }

datum_given : (b : ℕ) (rest : List ℕ) (shown : List Shown) → b < 256 → AreGiven rest shown
    → AreGiven (b ∷ rest) (Datum b ∷ shown)
datum_given b rest shown lt more =
    let most = more.most in
    record {
      given = record { text = text_of (Datum b); bytes = b ∷ []; line = datum_is b lt } ∷ more.given;
      text = ap (λ t. text_line (text_of (Datum b)) ++ t) more.text;
      all = ap (λ bs. b ∷ bs) more.all;
      most = omega (arith, most);
    }

none_given : AreGiven [] []
none_given = record { given = []; text = refl; all = refl; most = omega arith }

data_given : (bytes : List ℕ) → AreBytes bytes → AreGiven bytes (map Datum bytes)
data_given [] are = none_given
data_given (b ∷ bytes) are = datum_given b bytes (map Datum bytes) are.0 (data_given bytes are.1)

pub lines_given : (shown : List Shown) (bytes : List ℕ) → AreBytes bytes → Lists bytes shown
    → AreGiven bytes shown
lines_given [] bytes are is = subst (λ (bs : List ℕ). AreGiven bs []) (sym is) none_given
lines_given (Instruction i ∷ shown) bytes are (code, rest, is, encodes, more) =
    let both = subst AreBytes is are in
    subst (λ (bs : List ℕ). AreGiven bs (Instruction i ∷ shown)) (sym is)
    (instruction_given i code rest shown encodes (front_bytes code rest both)
    (lines_given shown rest (back_bytes code rest both) more))
lines_given (Datum b ∷ shown) bytes are (rest, is, inl (undefined, more)) =
    let both = subst AreBytes is are in
    subst (λ (bs : List ℕ). AreGiven bs (Datum b ∷ shown)) (sym is)
    (datum_given b rest shown both.0 (lines_given shown rest both.1 more))
lines_given (Datum b ∷ shown) bytes are (rest, is, inr (cut, others)) =
    let both = subst AreBytes is are in
    subst (λ (bs : List ℕ). AreGiven bs (Datum b ∷ shown)) (sym is)
    (subst (λ (ls : List Shown). AreGiven (b ∷ rest) (Datum b ∷ ls)) (sym others)
    (datum_given b rest (map Datum rest) both.0 (data_given rest both.1)))
