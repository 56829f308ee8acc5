-- What was notice, message by message.
use Rattle.std.proofs.Common.{◌≡◌, ℕ, Bool, true, false, ◌&&◌, ◌||◌, List, [], ◌∷◌, ◌++◌, refl, sym, ap, ◌∙◌}
use Rattle.std.proofs.Common.{append-nil, subst, if◌then◌else◌}
use Rattle.std.specs.Prelude.{codes}
use Rattle.std.specs.List.{list_any}
use Rattle.std.specs.Str.{bytes_eq}
use Rattle.std.proofs.lemmas.Slice.Eq.{bytes_eq-Decides}
use Rattle.std.proofs.lemmas.Grind.{flat_map-append}
use Rattle.lab_term.specs.Events.{Notice, IsNotice, AreNotices, NoNotice, NextNotice, text_shown}
use Rattle.lab_term.specs.Events.{text_printed, is_of}
use Rattle.lab_term.specs.Events.{is_error, is_idle, is_status, has_error, error_line, text_in, text_of}
use Rattle.lab_term.specs.Courses.{HasNo}

-- one list of messages behind another
pub notices_more : (key : List ℕ) (a b : List (List (List ℕ))) (x y : List Notice) → AreNotices key a x
    → AreNotices key b y → AreNotices key (a ++ b) (x ++ y)
notices_more key a b x y NoNotice q = q
notices_more key a b x y (NextNotice frames others notice messages is p) q =
    NextNotice frames (others ++ b) notice (messages ++ y) is (notices_more key others b messages y p q)

pub notice_one : (key : List ℕ) (frames : List (List ℕ)) (notice : Notice) → IsNotice key frames notice
    → AreNotices key (frames ∷ []) (notice ∷ [])
notice_one key frames notice is = NextNotice frames [] notice [] is NoNotice

pub printed_more : (header : List ℕ) (x y : List Notice)
    → text_printed header (x ++ y) ≡ text_printed header x ++ text_printed header y
printed_more header x y = flat_map-append (text_shown header) x y

pub printed_one : (header : List ℕ) (notice : Notice)
    → text_printed header (notice ∷ []) ≡ text_shown header notice
printed_one header notice = append-nil (text_shown header notice)

or_assoc : (a b c : Bool) → (a || b) || c ≡ a || (b || c)
or_assoc true b c = refl
or_assoc false b c = refl

any_more : (holds : Notice → Bool) (x y : List Notice)
    → list_any holds (x ++ y) ≡ list_any holds x || list_any holds y
any_more holds [] y = refl
any_more holds (notice ∷ x) y =
    ap (λ (b : Bool). holds notice || b) (any_more holds x y)
    ∙ sym (or_assoc (holds notice) (list_any holds x) (list_any holds y))

pub error_more : (header : List ℕ) (x y : List Notice)
    → has_error header (x ++ y) ≡ has_error header x || has_error header y
error_more header x y = any_more (λ notice. is_of header notice && is_error notice) x y

pub none_more : (holds : Notice → Bool) (x y : List Notice) → HasNo holds x → HasNo holds y
    → HasNo holds (x ++ y)
none_more holds x y p q = any_more holds x y ∙ ap (λ (b : Bool). b || list_any holds y) p ∙ q

pub none_one : (holds : Notice → Bool) (notice : Notice) → holds notice ≡ false → HasNo holds (notice ∷ [])
none_one holds notice e = ap (λ (b : Bool). b || false) e

both_first : (a b : Bool) → a && b ≡ true → a ≡ true
both_first true b e = refl
both_first false b e = absurd cc

-- nothing is printed of an idle
pub idle_text : (notice : Notice) → is_idle notice ≡ true → text_of notice ≡ []
unfolding text_of
idle_text notice e =
    let status = both_first (is_status notice) _ e in
    let type : notice.msg_type ≡ codes "status" = (bytes_eq-Decides notice.msg_type
    (codes "status")).0 status in
    let P : List ℕ → Type 0 = λ t.
    (if bytes_eq t (codes "stream") then text_in (codes "text") notice.content else
    (if bytes_eq t (codes "error") then error_line notice.content else [])) ≡ [] in
    subst P (sym type) refl
