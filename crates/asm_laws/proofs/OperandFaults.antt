-- What is known of operands once they were evaluated: how many bytes they give, or which fault comes first.
use Rattle.std.proofs.Common.{◌≡◌, ℕ, zero, suc, ◌+◌, ◌*◌, ◌<◌, ◌≤◌, ◌⊎◌, inl, inr, List, [], ◌∷◌, ◌++◌, Bool}
use Rattle.std.proofs.Common.{◌↔◌, true, false, length, refl, sym, ◌∙◌, subst, arith, Option, Some, None}
use Rattle.std.proofs.Common.{Result, Ok, Err, slice_get, ◌||◌, ◌%◌, ◌/◌, length-append, sum, map, ◌==◌}
use Rattle.std.specs.Prelude.{if◌then◌else◌, nat_lt, nat_le}
use Rattle.std.proofs.lemmas.Bool.Decides.{nat_tests}
use Rattle.std.proofs.lemmas.List.Sums.{sum_by-cons}
use Rattle.std.proofs.lemmas.Bool.{false≢true}
use Rattle.asm_expr.specs.Value.{value_of}
use Rattle.asm_expr.specs.declared.evaluation.ExprFault.{ExprFault}
use Rattle.asm_expr.specs.declared.evaluation.ExprFault.TheVariants as expr
use Rattle.i80_base.specs.declared.instruction.Vector.{Vector}
use Rattle.i80_base.specs.declared.instruction.Instr.TheVariants.{Rst}
use Rattle.i80_rows.specs.Encoding.{encoding_of}
use Rattle.asm_syntax.specs.declared.fault.FaultKind.{FaultKind}
use Rattle.asm_syntax.specs.declared.fault.FaultKind.TheVariants as fault
use Rattle.i80_base.specs.declared.instruction.ByteOperation.{ByteOperation}
use Rattle.i80_base.specs.declared.instruction.ByteOperation.TheVariants as byte_op
use Rattle.i80_base.specs.declared.instruction.WordOperation.{WordOperation}
use Rattle.i80_base.specs.declared.instruction.WordOperation.TheVariants as word_op
use Rattle.asm_syntax.specs.declared.statement.Operand.{Operand}
use Rattle.asm_syntax.specs.declared.statement.Instruction.{Instruction}
use Rattle.asm_syntax.specs.declared.statement.Instruction.TheVariants as instruction
use Rattle.asm_syntax.specs.declared.statement.Data.{Data}
use Rattle.asm_syntax.specs.declared.statement.Data.TheVariants as datum
use Rattle.asm_syntax.specs.declared.statement.Action.{Action}
use Rattle.asm_syntax.specs.declared.statement.Action.TheVariants as action
use Rattle.i80_base.specs.Instructions.{byte_instruction, word_instruction}
use Rattle.asm_syntax.specs.Outcome.{Fault, ◌>>=◌}
use Rattle.asm_syntax.proofs.FirstFaults.{fault_is}
use Rattle.asm_encode.specs.Bytes.{all_bytes, instruction_bytes, datum_bytes, word_bytes, bytes_of, start_of}
use Rattle.asm_encode.specs.Lengths.{length_of_datum}
use Rattle.asm_encode.specs.Values.{or_fault, as_byte, vector, as_vector, number, byte, restart}
use Rattle.asm_build.specs.Statements.{late_in, operands_in_data}
use Rattle.asm_build.specs.Refusals.{IsOutOfRange, WrongOperand, bytes_given}
use Rattle.asm_laws.proofs.DefinitionFaults.{no_more, some_is, ok_err}

-- ---- one operand

-- of what is wrong with a value there is one kind
one_kind : (a : Action) (r : Result ℕ ExprFault) (k l : FaultKind) → WrongOperand a r k → WrongOperand a r l
    → k ≡ l
one_kind a r fault.Undefined fault.Undefined h i = refl
one_kind a r fault.Divisor fault.Divisor h i = refl
one_kind a r fault.ByteRange fault.ByteRange h i = refl
one_kind a r fault.Undefined fault.Divisor h i = let e : Err expr.Undefined ≡ r = sym h in cc
one_kind a r fault.Undefined fault.ByteRange h i = absurd (ok_err i.0 expr.Undefined r i.1 h)
one_kind a r fault.Divisor fault.Undefined h i = let e : Err expr.Divisor ≡ r = sym h in cc
one_kind a r fault.Divisor fault.ByteRange h i = absurd (ok_err i.0 expr.Divisor r i.1 h)
one_kind a r fault.ByteRange fault.Undefined h i = absurd (ok_err h.0 expr.Undefined r h.1 i)
one_kind a r fault.ByteRange fault.Divisor h i = absurd (ok_err h.0 expr.Divisor r h.1 i)
one_kind a r fault.Undefined l h i = absurd i
one_kind a r fault.Divisor l h i = absurd i
one_kind a r fault.ByteRange l h i = absurd i
one_kind a r k l h i = absurd h

-- what a value gives where it is wanted by an action
abbrev RangeVerdict : {X : Type 0} → Action → ℕ → ℕ → Result X Fault → Type 0
RangeVerdict a column v (Ok x) = IsOutOfRange a v → ⊥
RangeVerdict a column v (Err f) = (f ≡ (column, fault.ByteRange)) × IsOutOfRange a v

abbrev IsByteAction : Action → Type 0
IsByteAction a = (v : ℕ) → IsOutOfRange a v ↔ ((255 < v) × (v < 65280))

byte_in : (v : ℕ) → (nat_lt v 256 || nat_le 65280 v) ≡ true → (255 < v) × (v < 65280) → ⊥
byte_in v h x = by (nat_lt v 256) refl
  where
    by : (b : Bool) → nat_lt v 256 ≡ b → ⊥
    by true e = let lt : v < 256 = grind (arith, nat_tests) in let low = x.0 in omega (arith, lt, low)
    by false e =
        let f : nat_le 65280 v ≡ true = rw e at h in
        let le : 65280 ≤ v = grind (arith, nat_tests) in
        let high = x.1 in
        omega (arith, le, high)

byte_out : (v : ℕ) → (nat_lt v 256 || nat_le 65280 v) ≡ false → (255 < v) × (v < 65280)
byte_out v h = by (nat_lt v 256) refl
  where
    by : (b : Bool) → nat_lt v 256 ≡ b → (255 < v) × (v < 65280)
    by true e = absurd (false≢true (sym (rw e at h)))
    by false e =
        let f : nat_le 65280 v ≡ false = rw e at h in
        let low : 255 < v = grind (arith, nat_tests) in
        let high : v < 65280 = grind (arith, nat_tests) in
        (low, high)

byte_range : (a : Action) → IsByteAction a → (column v : ℕ) → RangeVerdict a column v (as_byte column v)
byte_range a bytes column v = by (nat_lt v 256 || nat_le 65280 v) refl
  where
    by : (b : Bool) → (nat_lt v 256 || nat_le 65280 v) ≡ b
        → RangeVerdict a column v (if b then Ok (v % 256) else Err (column, fault.ByteRange))
    by true e = λ x. byte_in v e ((bytes v).0 x)
    by false e = (refl, (bytes v).1 (byte_out v e))

abbrev VectorVerdict : ℕ → Option Vector → Type 0
VectorVerdict v (Some n) = v ≤ 7
VectorVerdict v None = 7 < v

next_vector : (v k : ℕ) (n : Vector) (rest : Option Vector) → k ≤ v → k ≤ 7
    → (k + 1 ≤ v → VectorVerdict v rest) → (b : Bool) → (v == k) ≡ b
    → VectorVerdict v (if b then Some n else rest)
next_vector v k n rest low high more true e =
    let is : v ≡ k = grind (arith, nat_tests) in omega (arith, is, high)
next_vector v k n rest low high more false e =
    let lt : k + 1 ≤ v = grind (arith, nat_tests) in more lt

vector_judged : (v : ℕ) → VectorVerdict v (vector v)
vector_judged v =
    next_vector v 0 _ _ (omega arith) (omega arith) (λ h.
    next_vector v 1 _ _ h (omega arith) (λ i.
    next_vector v 2 _ _ i (omega arith) (λ j.
    next_vector v 3 _ _ j (omega arith) (λ k.
    next_vector v 4 _ _ k (omega arith) (λ l.
    next_vector v 5 _ _ l (omega arith) (λ m.
    next_vector v 6 _ _ m (omega arith) (λ n.
    next_vector v 7 _ _ n (omega arith) (λ o. o)
    (v == 7) refl) (v == 6) refl) (v == 5) refl) (v == 4) refl) (v == 3) refl) (v == 2) refl) (v == 1) refl)
    (v == 0) refl

vector_range : (o : Operand) (column v : ℕ)
    → RangeVerdict (action.Instruction (instruction.Restart o)) column v (as_vector column (vector v))
vector_range o column v = by (vector v) (vector_judged v)
  where
    by : (n : Option Vector) → VectorVerdict v n
        → RangeVerdict (action.Instruction (instruction.Restart o)) column v (as_vector column n)
    by (Some n) le = λ lt. omega (arith, le, lt)
    by None lt = (refl, lt)

-- ---- bytes

byte_length : (op : ByteOperation) (b : ℕ) → length (encoding_of (byte_instruction op b)) ≡ 2
unfolding encoding_of
byte_length (byte_op.Mvi r) b = refl
byte_length (byte_op.AluImmediate op) b = refl
byte_length byte_op.Out b = refl
byte_length byte_op.In b = refl

word_length : (op : WordOperation) (w : ℕ) → length (encoding_of (word_instruction op w)) ≡ 3
unfolding encoding_of
word_length (word_op.Lxi p) w = refl
word_length word_op.Shld w = refl
word_length word_op.Lhld w = refl
word_length word_op.Sta w = refl
word_length word_op.Lda w = refl
word_length word_op.Jmp w = refl
word_length (word_op.JumpIf c) w = refl
word_length word_op.Call w = refl
word_length (word_op.CallIf c) w = refl

restart_length : (n : Vector) → length (encoding_of (Rst n)) ≡ 1
unfolding encoding_of
restart_length n = refl

-- bytes and a start
abbrev pub Given : Type 0
Given = List ℕ × Option ℕ

-- ---- the operands of an action

module _ (names : List ℕ → Option ℕ) (here : ℕ) where
  -- a fault of an operand
  abbrev pub IsWrong : Action → Operand → Fault → Type 0
  IsWrong a o f = (f.0 ≡ o.column) × WrongOperand a (value_of names here o.expr) f.1

  -- how many bytes an operand gives, or its fault
  abbrev OneVerdict : {X : Type 0} → Action → Operand → Result X Fault → Type 0
  OneVerdict a o (Ok x) = (g : Fault) → IsWrong a o g → ⊥
  OneVerdict a o (Err f) = IsWrong a o f × ((g : Fault) → IsWrong a o g → g ≡ f)

  only_wrong : (a : Action) (o : Operand) (k : FaultKind) → WrongOperand a (value_of names here o.expr) k
      → IsWrong a o (o.column, k) × ((g : Fault) → IsWrong a o g → g ≡ (o.column, k))
  only_wrong a o k w = (
    (refl, w),
    λ g h. fault_is (o.column, k) g h.0
        (one_kind a (value_of names here o.expr) g.1 k h.1 w),
  )

  right_value : (a : Action) (o : Operand) (v : ℕ) → value_of names here o.expr ≡ Ok v
      → (IsOutOfRange a v → ⊥) → (g : Fault) → IsWrong a o g → ⊥
  right_value a o v is fits g h = by g.1 h.1
    where
      by : (k : FaultKind) → WrongOperand a (value_of names here o.expr) k → ⊥
      by fault.Undefined w = ok_err v expr.Undefined (value_of names here o.expr) is w
      by fault.Divisor w = ok_err v expr.Divisor (value_of names here o.expr) is w
      by fault.ByteRange w =
          let same : w.0 ≡ v = let e = sym w.1 ∙ is in cc in
          fits (subst (IsOutOfRange a) same w.2)
      by k w = w

  ranged : {X : Type 0} (a : Action) (o : Operand) (v : ℕ) → value_of names here o.expr ≡ Ok v
      → (r : Result X Fault) → RangeVerdict a o.column v r → OneVerdict a o r
  ranged a o v is (Ok x) fits = right_value a o v is fits
  ranged a o v is (Err f) w =
      subst (λ (e : Fault). IsWrong a o e × ((g : Fault) → IsWrong a o g → g ≡ e)) (sym w.0)
      (only_wrong a o fault.ByteRange (v, is, w.1))

  valued : {X : Type 0} (a : Action) (o : Operand) (f : ℕ → Result X Fault)
      → ((v : ℕ) → RangeVerdict a o.column v (f v)) → (r : Result ℕ ExprFault)
      → value_of names here o.expr ≡ r → OneVerdict a o (or_fault fault.Undefined o.column r >>= f)
  valued a o f range (Ok v) is = ranged a o v is (f v) (range v)
  valued a o f range (Err expr.Undefined) is = only_wrong a o fault.Undefined is
  valued a o f range (Err expr.Divisor) is = only_wrong a o fault.Divisor is

  number_judged : (a : Action) (o : Operand) → ((v : ℕ) → IsOutOfRange a v → ⊥)
      → OneVerdict a o (number names here o)
  number_judged a o any = by (value_of names here o.expr) refl
    where
      by : (r : Result ℕ ExprFault) → value_of names here o.expr ≡ r
          → OneVerdict a o (or_fault fault.Undefined o.column r)
      by (Ok v) is = right_value a o v is (any v)
      by (Err expr.Undefined) is = only_wrong a o fault.Undefined is
      by (Err expr.Divisor) is = only_wrong a o fault.Divisor is

  byte_judged : (a : Action) (o : Operand) → IsByteAction a → OneVerdict a o (byte names here o)
  byte_judged a o bytes =
      valued a o (as_byte o.column) (byte_range a bytes o.column) (value_of names here o.expr) refl

  restart_judged : (o : Operand)
      → OneVerdict (action.Instruction (instruction.Restart o)) o (restart names here o)
  restart_judged o =
      valued (action.Instruction (instruction.Restart o)) o (λ v. as_vector o.column (vector v))
      (vector_range o o.column) (value_of names here o.expr) refl

  -- ---- operands, from the left

  -- a fault of the operand of this index
  abbrev pub WrongAt : Action → List Operand → ℕ → Fault → Type 0
  WrongAt a os i f =
      (o : Operand) × (slice_get os i ≡ Some o) × (f.0 ≡ o.column)
      × WrongOperand a (value_of names here o.expr) f.1

  abbrev pub NoneWrong : Action → List Operand → Type 0
  NoneWrong a os = (i : ℕ) (g : Fault) → WrongAt a os i g → ⊥

  abbrev pub FirstWrong : Action → List Operand → Fault → Type 0
  FirstWrong a os f =
      (i : ℕ) × WrongAt a os i f × ((j : ℕ) (g : Fault) → WrongAt a os j g → (g ≡ f) ⊎ (i < j))

  -- how many bytes operands give, or their first fault
  abbrev ListVerdict : Action → List Operand → ℕ → Result (List ℕ) Fault → Type 0
  ListVerdict a os n (Ok bs) = (length bs ≡ n) × NoneWrong a os
  ListVerdict a os n (Err f) = FirstWrong a os f

  no_operands : (a : Action) → NoneWrong a []
  no_operands a i g w = no_more w.0 w.1

  first_wrong : (a : Action) (o : Operand) (os : List Operand) (g : Fault) → WrongAt a (o ∷ os) 0 g
      → IsWrong a o g
  first_wrong a o os g w =
      let same : w.0 ≡ o = some_is w.0 o (Some o) (let e = w.1 in e) refl in
      subst (λ (p : Operand). IsWrong a p g) same (w.2, w.3)

  right_first : (a : Action) (o : Operand) (os : List Operand) → ((g : Fault) → IsWrong a o g → ⊥)
      → NoneWrong a os → NoneWrong a (o ∷ os)
  right_first a o os one more zero g w = one g (first_wrong a o os g w)
  right_first a o os one more (suc i) g w = more i g w

  wrong_first : (a : Action) (o : Operand) (os : List Operand) (f : Fault)
      → IsWrong a o f × ((g : Fault) → IsWrong a o g → g ≡ f) → FirstWrong a (o ∷ os) f
  wrong_first a o os f w = (0, (o, refl, w.0.0, w.0.1), after)
    where
      after : (j : ℕ) (g : Fault) → WrongAt a (o ∷ os) j g → (g ≡ f) ⊎ (0 < j)
      after zero g h = inl (w.1 g (first_wrong a o os g h))
      after (suc j) g h = inr (omega arith)

  wrong_later : (a : Action) (o : Operand) (os : List Operand) (f : Fault)
      → ((g : Fault) → IsWrong a o g → ⊥) → FirstWrong a os f → FirstWrong a (o ∷ os) f
  wrong_later a o os f one w = (suc w.0, w.1, after)
    where
      after : (j : ℕ) (g : Fault) → WrongAt a (o ∷ os) j g → (g ≡ f) ⊎ (suc w.0 < j)
      after zero g h = absurd (one g (first_wrong a o os g h))
      after (suc j) g h = by (w.2 j g h)
        where
          by : (g ≡ f) ⊎ (w.0 < j) → (g ≡ f) ⊎ (suc w.0 < suc j)
          by (inl e) = inl e
          by (inr lt) = inr (omega (arith, lt))

  -- so many bytes of one operand, and those of the others
  abbrev BytesVerdict : Action → Operand → ℕ → Result (List ℕ) Fault → Type 0
  BytesVerdict a o n (Ok bs) = (length bs ≡ n) × ((g : Fault) → IsWrong a o g → ⊥)
  BytesVerdict a o n (Err f) = IsWrong a o f × ((g : Fault) → IsWrong a o g → g ≡ f)

  one_more : (a : Action) (o : Operand) (os : List Operand) (m n : ℕ) (r rest : Result (List ℕ) Fault)
      → BytesVerdict a o m r → ListVerdict a os n rest
      → ListVerdict a (o ∷ os) (m + n) (r >>= λ bs. rest >>= λ more. Ok (bs ++ more))
  one_more a o os m n (Ok bs) (Ok more) v w =
      let long = v.0 in
      let rest = w.0 in
      let sum = length-append bs more in
      (omega (arith, long, rest, sum), right_first a o os v.1 w.1)
  one_more a o os m n (Ok bs) (Err f) v w = wrong_later a o os f v.1 w
  one_more a o os m n (Err f) rest v w = wrong_first a o os f v

  alone : (a : Action) (o : Operand) (n : ℕ) (r : Result (List ℕ) Fault) → BytesVerdict a o n r
      → ListVerdict a (o ∷ []) n r
  alone a o n (Ok bs) v = (v.0, right_first a o [] v.1 (no_operands a))
  alone a o n (Err f) v = wrong_first a o [] f v

  given : {X : Type 0} (a : Action) (o : Operand) (n : ℕ) (f : X → List ℕ) → ((x : X) → length (f x) ≡ n)
      → (r : Result X Fault) → OneVerdict a o r → BytesVerdict a o n (r >>= λ x. Ok (f x))
  given a o n f long (Ok x) v = (long x, v)
  given a o n f long (Err e) v = v

  words_judged : (a : Action) (os : List Operand) → ((v : ℕ) → IsOutOfRange a v → ⊥)
      → ListVerdict a os (2 * length os) (all_bytes (word_bytes names here) os)
  words_judged a [] any = (refl, no_operands a)
  words_judged a (o ∷ os) any =
      let e : 2 + 2 * length os ≡ 2 * length (o ∷ os) = omega arith in
      subst (λ (n : ℕ). ListVerdict a (o ∷ os) n (all_bytes (word_bytes names here) (o ∷ os))) e
      (one_more a o os 2 (2 * length os) (word_bytes names here o) (all_bytes (word_bytes names here) os)
      (given a o 2 (λ w. w % 256 ∷ (w / 256 ∷ [])) (λ w. refl) (number names here o)
      (number_judged a o any)) (words_judged a os any))

  text_more : (a : Action) (os : List Operand) (t : List ℕ) (n : ℕ) (rest : Result (List ℕ) Fault)
      → ListVerdict a os n rest → ListVerdict a os (length t + n) (rest >>= λ more. Ok (t ++ more))
  text_more a os t n (Ok more) w =
      let rest = w.0 in
      let sum = length-append t more in
      (omega (arith, rest, sum), w.1)
  text_more a os t n (Err f) w = w

  data_judged : (a : Action) (ds : List Data) → IsByteAction a
      → ListVerdict a (operands_in_data ds) (sum (map length_of_datum ds))
      (all_bytes (datum_bytes names here) ds)
  data_judged a [] bytes = (refl, no_operands a)
  data_judged a (datum.Text t ∷ ds) bytes =
      subst (λ (n : ℕ). ListVerdict a (operands_in_data ds) n
      (all_bytes (datum_bytes names here) (datum.Text t ∷ ds)))
      (sym (sum_by-cons (λ (n : ℕ). n) (length t) (map length_of_datum ds)))
      (text_more a (operands_in_data ds) t (sum (map length_of_datum ds))
      (all_bytes (datum_bytes names here) ds) (data_judged a ds bytes))
  data_judged a (datum.Byte o ∷ ds) bytes =
      subst (λ (n : ℕ). ListVerdict a (o ∷ operands_in_data ds) n
      (all_bytes (datum_bytes names here) (datum.Byte o ∷ ds)))
      (sym (sum_by-cons (λ (n : ℕ). n) 1 (map length_of_datum ds)))
      (one_more a o (operands_in_data ds) 1 (sum (map length_of_datum ds))
      (datum_bytes names here (datum.Byte o))
      (all_bytes (datum_bytes names here) ds)
      (given a o 1 (λ b. b ∷ []) (λ b. refl) (byte names here o) (byte_judged a o bytes))
      (data_judged a ds bytes))

  instruction_judged : (i : Instruction)
      → ListVerdict (action.Instruction i) (late_in (action.Instruction i))
      (bytes_given (action.Instruction i)) (instruction_bytes names here i)
  instruction_judged (instruction.Alone i) = (refl, no_operands (action.Instruction (instruction.Alone i)))
  instruction_judged (instruction.Byte op o) =
      let a = action.Instruction (instruction.Byte op o) in
      alone a o 2 (instruction_bytes names here (instruction.Byte op o))
      (given a o 2 (λ b. encoding_of (byte_instruction op b)) (byte_length op) (byte names here o)
      (byte_judged a o (λ v. (λ x. x, λ x. x))))
  instruction_judged (instruction.Word op o) =
      let a = action.Instruction (instruction.Word op o) in
      alone a o 3 (instruction_bytes names here (instruction.Word op o))
      (given a o 3 (λ w. encoding_of (word_instruction op w)) (word_length op) (number names here o)
      (number_judged a o (λ v x. x)))
  instruction_judged (instruction.Restart o) =
      let a = action.Instruction (instruction.Restart o) in
      alone a o 1 (instruction_bytes names here (instruction.Restart o))
      (given a o 1 (λ n. encoding_of (Rst n)) restart_length (restart names here o) (restart_judged o))

  -- ---- the action

  -- how many bytes an action gives, or its operands' first fault
  abbrev pub ActionVerdict : Action → Result Given Fault → Type 0
  ActionVerdict a (Ok x) = (length x.0 ≡ bytes_given a) × NoneWrong a (late_in a)
  ActionVerdict a (Err f) = FirstWrong a (late_in a) f

  with_start : (a : Action) (start : Option ℕ) (r : Result (List ℕ) Fault)
      → ListVerdict a (late_in a) (bytes_given a) r → ActionVerdict a (r >>= λ bs. Ok (bs, start))
  with_start a start (Ok bs) v = v
  with_start a start (Err f) v = v

  end_judged : (o : Operand) (r : Result ℕ Fault) → OneVerdict (action.End (Some o)) o r
      → ActionVerdict (action.End (Some o)) ((r >>= λ v. Ok (Some v)) >>= λ start. Ok ([], start))
  end_judged o (Ok v) one =
      let a = action.End (Some o) in (refl, right_first a o [] one (no_operands a))
  end_judged o (Err f) one = wrong_first (action.End (Some o)) o [] f one

  abbrev pub given_by : Option ℕ → Action → Result Given Fault
  given_by before a =
      bytes_of names here a >>= λ bs. start_of names here before a >>= λ start. Ok (bs, start)

  pub action_judged : (before : Option ℕ) (a : Action) → ActionVerdict a (given_by before a)
  action_judged before (action.Instruction i) =
      with_start (action.Instruction i) before (instruction_bytes names here i) (instruction_judged i)
  action_judged before (action.Bytes ds) =
      with_start (action.Bytes ds) before (all_bytes (datum_bytes names here) ds)
      (data_judged (action.Bytes ds) ds (λ v. (λ x. x, λ x. x)))
  action_judged before (action.Words os) =
      with_start (action.Words os) before (all_bytes (word_bytes names here) os)
      (words_judged (action.Words os) os (λ v x. x))
  action_judged before (action.End (Some o)) =
      end_judged o (number names here o) (number_judged (action.End (Some o)) o (λ v x. x))
  action_judged before a = (refl, no_operands a)
