-- Lists of seats and of calls, of the same length.
use Rattle.std.proofs.Common.{◌≡◌, ℕ, suc, zero, List, [], ◌∷◌, ◌++◌, length, Option, Some, None, slice_get}
use Rattle.std.proofs.Common.{refl, sym, ap, arith}
use Rattle.std.specs.List.{zip}
use Rattle.std.specs.Option.{option_zip}
use Rattle.kern_calls.specs.declared.call.Call.{Call}
use Rattle.kern_desk.specs.Seats.{calls_of}

shorter : {A B : Type 0} (x : A) (xs : List A) (y : B) (ys : List B)
    → length (x ∷ xs) ≡ length (y ∷ ys) → length xs ≡ length ys
shorter x xs y ys is = omega (arith, is)

pub zip-more : (ss : List ℕ) (cs : List Call) (s : ℕ) (c : Call) → length ss ≡ length cs
    → zip (ss ++ s ∷ []) (cs ++ c ∷ []) ≡ zip ss cs ++ (s, c) ∷ []
zip-more [] [] s c is = refl
zip-more (x ∷ ss) (y ∷ cs) s c is =
    let p : ℕ × Call = (x, y) in ap (λ l. p ∷ l) (zip-more ss cs s c (shorter x ss y cs is))
zip-more [] (y ∷ cs) s c is = absurd (omega (arith, is))
zip-more (x ∷ ss) [] s c is = absurd (omega (arith, is))

pub calls-zip : (ss : List ℕ) (cs : List Call) → length ss ≡ length cs → calls_of (zip ss cs) ≡ cs
calls-zip [] [] is = refl
calls-zip (x ∷ ss) (y ∷ cs) is = ap (λ l. y ∷ l) (calls-zip ss cs (shorter x ss y cs is))
calls-zip [] (y ∷ cs) is = absurd (omega (arith, is))
calls-zip (x ∷ ss) [] is = absurd (omega (arith, is))

pub length-zipped : (ss : List ℕ) (cs : List Call) → length ss ≡ length cs
    → length (zip ss cs) ≡ length cs
length-zipped [] [] is = refl
length-zipped (x ∷ ss) (y ∷ cs) is = ap suc (length-zipped ss cs (shorter x ss y cs is))
length-zipped [] (y ∷ cs) is = absurd (omega (arith, is))
length-zipped (x ∷ ss) [] is = absurd (omega (arith, is))

no-second : {A B : Type 0} (o : Option A) → option_zip {T = A} {U = B} o None ≡ None
no-second None = refl
no-second (Some x) = refl

-- an entry is the seat and the call at its index
pub get-zip : (ss : List ℕ) (cs : List Call) (k : ℕ)
    → slice_get (zip ss cs) k ≡ option_zip (slice_get ss k) (slice_get cs k)
get-zip [] cs k = refl
get-zip (x ∷ ss) [] k = sym (no-second (slice_get (x ∷ ss) k))
get-zip (x ∷ ss) (y ∷ cs) zero = refl
get-zip (x ∷ ss) (y ∷ cs) (suc k) = get-zip ss cs k

pub no-seat : (ss : List ℕ) (cs : List Call) (k : ℕ) → slice_get ss k ≡ None
    → slice_get (zip ss cs) k ≡ None
no-seat ss cs k none = rw (get-zip ss cs k, none) refl

pub no-call : (ss : List ℕ) (cs : List Call) (k : ℕ) → slice_get cs k ≡ None
    → slice_get (zip ss cs) k ≡ None
no-call ss cs k none = rw (get-zip ss cs k, none) (no-second (slice_get ss k))

pub both : (ss : List ℕ) (cs : List Call) (k : ℕ) (s : ℕ) (c : Call) → slice_get ss k ≡ Some s
    → slice_get cs k ≡ Some c → slice_get (zip ss cs) k ≡ Some (s, c)
both ss cs k s c seat call = rw (get-zip ss cs k, seat, call) refl
