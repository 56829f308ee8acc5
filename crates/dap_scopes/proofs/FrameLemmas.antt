-- Frames by their ages.
use Rattle.std.proofs.Common.{◌≡◌, ◌∙◌, ◌<◌, ◌≤◌, ◌+◌, ◌==◌, ℕ, zero, suc, List, [], ◌∷◌, length, reverse}
use Rattle.std.proofs.Common.{drop}
use Rattle.std.proofs.Common.{Some, None, refl, arith, cond}
use Rattle.std.specs.Prelude.{◌≢◌}
use Rattle.std.specs.List.{slice_get}
use Rattle.std.proofs.lemmas.Bool.{eq-eqb, ne_eqb}
use Rattle.std.proofs.lemmas.Option.{slice_get_within, get_or_from_slice_get}
use Rattle.std.proofs.lemmas.List.{length-reverse, drop_more}
use Rattle.lab_frames.specs.declared.frame.Frame.{Frame}
use Rattle.dap_scopes.specs.Stack.{older_than}

past_end : {A : Type 0} (xs : List A) (i : ℕ) → slice_get xs i ≡ None → length xs ≤ i
past_end [] i e = omega arith
past_end (x ∷ xs) zero e = absurd cc
past_end (x ∷ xs) (suc i) e =
    let rest : length xs ≤ i = past_end xs i e in
    omega (arith, rest)

-- there is a frame of each age below their number
pub has_age : (frames : List Frame) (age : ℕ) → age < length frames
    → slice_get (reverse frames) age ≡ None → ⊥
has_age frames age within none =
    let long : length (reverse frames) ≡ length frames = length-reverse frames in
    let past : length (reverse frames) ≤ age = past_end (reverse frames) age none in
    absurd (omega arith)

-- the first of what is left
first_left : {A : Type 0} (xs : List A) (i : ℕ) → slice_get (drop i xs) 0 ≡ slice_get xs i
first_left [] zero = refl
first_left [] (suc i) = refl
first_left (x ∷ xs) zero = refl
first_left (x ∷ xs) (suc i) = first_left xs i

older_at : (address : ℕ) (frames : List Frame) (age : ℕ) (f : Frame) → slice_get frames age ≡ Some f
    → older_than address (drop age frames)
    ≡ cond (f.slot == address) (Some (slice_get frames (age + 1)))
    (older_than address (drop (age + 1) frames))
older_at address frames age f found =
    rw (
      drop_more frames age f (slice_get_within frames age f found),
      get_or_from_slice_get frames age f f found,
      first_left frames (age + 1),
    ) refl

-- the frame is found at this age
pub older_here : (address : ℕ) (frames : List Frame) (age : ℕ) (f : Frame) → slice_get frames age ≡ Some f
    → f.slot ≡ address → older_than address (drop age frames) ≡ Some (slice_get frames (age + 1))
older_here address frames age f found here =
    older_at address frames age f found ∙ rw (eq-eqb f.slot address here) refl

-- or it is none of this age
pub older_later : (address : ℕ) (frames : List Frame) (age : ℕ) (f : Frame) → slice_get frames age ≡ Some f
    → f.slot ≢ address → older_than address (drop age frames) ≡ older_than address (drop (age + 1) frames)
older_later address frames age f found other =
    older_at address frames age f found ∙ rw (ne_eqb f.slot address other) refl
