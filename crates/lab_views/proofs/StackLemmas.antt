-- The frames by their places.
use Rattle.std.proofs.Common.{◌≡◌, ◌∙◌, ◌<◌, ◌+◌, ◌-◌, ℕ, suc, zero, List, [], ◌∷◌, length, map, Option, Some}
use Rattle.std.proofs.Common.{refl, ap, sym, arith}
use Rattle.std.specs.Prelude.{option_map, unwrap_or, codes}
use Rattle.std.specs.List.{slice_get}
use Rattle.std.proofs.lemmas.Option.{slice_get-map}
use Rattle.lab_frames.specs.declared.frame.Frame.{Frame}
use Rattle.lab_views.specs.Parts.{Parts}
use Rattle.lab_views.specs.Frames.{routine_name, frame_at, frames_from}

-- the name of the routine of a live frame, or the main program's
abbrev pub name_in : Parts → Option Frame → List ℕ
name_in p frame = unwrap_or (option_map (λ f. routine_name p.symbols f.target) frame) (codes "main")

pub slice_get-frames_from : (p : Parts) (id address : ℕ) (fs : List Frame) (k site : ℕ)
    → slice_get (address ∷ map (λ f. f.site) fs) k ≡ Some site
    → slice_get (frames_from p id address fs) k ≡ Some (frame_at p (id + k) (name_in p (slice_get fs k)) site)
slice_get-frames_from p id address [] zero site e =
    let same : address ≡ site = cc in
    let i : id + 0 ≡ id = omega arith in
    ap (λ a. Some (frame_at p id (codes "main") a)) same
    ∙ ap (λ n. Some (frame_at p n (codes "main") site)) (sym i)
slice_get-frames_from p id address [] (suc k) site e = cc
slice_get-frames_from p id address (f ∷ fs) zero site e =
    let same : address ≡ site = cc in
    let i : id + 0 ≡ id = omega arith in
    let name = routine_name p.symbols f.target in
    ap (λ a. Some (frame_at p id name a)) same ∙ ap (λ n. Some (frame_at p n name site)) (sym i)
slice_get-frames_from p id address (f ∷ fs) (suc k) site e =
    let i : id + 1 + k ≡ id + suc k = omega arith in
    slice_get-frames_from p (id + 1) f.site fs k site e
    ∙ ap (λ n. Some (frame_at p n (name_in p (slice_get fs k)) site)) i

pub length-frames_from : (p : Parts) (id address : ℕ) (fs : List Frame)
    → length (frames_from p id address fs) ≡ length fs + 1
length-frames_from p id address [] = refl
length-frames_from p id address (f ∷ fs) = omega (arith, length-frames_from p (id + 1) f.site fs)

-- a frame that isn't the innermost stands at the site of the live frame before it
pub site_before : (pc i site : ℕ) (fs : List Frame) (f : Frame) → 0 < i → Some f ≡ slice_get fs (i - 1)
    → f.site ≡ site
    → slice_get (pc ∷ map (λ f. f.site) fs) i ≡ Some site
site_before pc zero site fs f h e s = absurd (omega arith)
site_before pc (suc i) site fs f h e s =
    let before : suc i - 1 ≡ i = omega arith in
    slice_get-map (λ (f : Frame). f.site) fs i
    ∙ ap (option_map (λ (f : Frame). f.site)) (ap (slice_get fs) (sym before) ∙ sym e) ∙ ap Some s
