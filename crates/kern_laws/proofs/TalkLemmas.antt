-- The messages with one parent, as a conversation.
use Rattle.std.proofs.Common.{◌≡◌, ◌∙◌, ℕ, ◌+◌, ◌≤◌, List, [], ◌∷◌, ◌++◌, Bool, true, false}
use Rattle.std.proofs.Common.{sym, ap, subst, inl, inr, append_assoc, ◌⊎◌, arith, cond}
use Rattle.std.proofs.Common.{if◌then◌else◌}
use Rattle.std.specs.List.{AllByRecursion}
use Rattle.kern_post.specs.declared.content.Content.{Content}
use Rattle.kern_post.specs.declared.content.Content.TheVariants.{Status}
use Rattle.kern_post.specs.declared.content.ExecutionState.TheVariants.{Busy, Idle}
use Rattle.kern_laws.specs.Laws.{IsNoStatus, IsConversation}
use Rattle.kern_laws.proofs.PieceLemmas.{append-nil}

abbrev pub AreNoStatus : List Content → Type 0
AreNoStatus contents = AllByRecursion IsNoStatus contents

pub both_no_status : (xs ys : List Content) → AreNoStatus xs → AreNoStatus ys → AreNoStatus (xs ++ ys)
both_no_status [] ys first second = second
both_no_status (x ∷ xs) ys first second = (first.0, both_no_status xs ys first.1 second)

-- What follows busy: what is no status, and idle at its end, unless the execution is still under way when all
-- has been said.
abbrev pub IsTail : Bool → List Content → Type 0
IsTail under_way contents =
    (between : List Content) × AreNoStatus between
    × (((contents ≡ between) × (under_way ≡ true)) ⊎ (contents ≡ between ++ Status Idle ∷ []))

tail_more : (under_way : Bool) (xs rest : List Content) → AreNoStatus xs → IsTail under_way rest
    → IsTail under_way (xs ++ rest)
tail_more under_way xs rest none (between, all, inl is) =
    (xs ++ between, both_no_status xs between none all, inl (ap (λ ys. xs ++ ys) is.0, is.1))
tail_more under_way xs rest none (between, all, inr is) = (
  xs ++ between,
  both_no_status xs between none all,
  inr (ap (λ ys. xs ++ ys) is ∙ sym (append_assoc xs between (Status Idle ∷ []))),
)

tail_begins : (under_way : Bool) (rest : List Content) → IsTail under_way rest
    → IsConversation under_way (Status Busy ∷ rest)
tail_begins under_way rest (between, all, inl is) =
    inr (between, all, inl (ap (λ ys. Status Busy ∷ ys) is.0, is.1))
tail_begins under_way rest (between, all, inr is) = inr (between, all, inr (ap (λ ys. Status Busy ∷ ys) is))

ended : (under_way : Bool) (xs rest : List Content) → AreNoStatus xs → rest ≡ []
    → IsTail under_way ((xs ++ Status Idle ∷ []) ++ rest)
ended under_way xs rest none is =
    let all = xs ++ Status Idle ∷ [] in
    (xs, none, inr (ap (λ ys. all ++ ys) is ∙ append-nil all))

-- ---- what may be said

-- What is said from now on, if the execution of this request is under way or not, and so many others with its
-- header wait or follow; and if it is under way or not when all has been said.
abbrev pub Spoken : Bool → Bool → ℕ → List Content → Type 0
Spoken last true n contents = n ≡ 0 → IsTail last contents
Spoken last false n contents = (n ≡ 0 → contents ≡ []) × (n ≤ 1 → IsConversation last contents)

-- it may be said too if more of them wait or follow
pub spoken_more : (last is_current : Bool) (n n' : ℕ) (contents : List Content) → n ≤ n'
    → Spoken last is_current n contents → Spoken last is_current n' contents
spoken_more last true n n' contents less h = λ zero_is. h (omega arith)
spoken_more last false n n' contents less h = (λ zero_is. h.0 (omega arith), λ one. h.1 (omega arith))

-- A turn with f new requests says this, with so many executions waiting before and after it.
abbrev pub Says : Bool → ℕ → ℕ → List Content → Bool → ℕ → Type 0
Says is_current waiting f said is_current' waiting' =
    (last : Bool) (more : ℕ) (rest : List Content) → Spoken last is_current' (waiting' + more) rest
    → Spoken last is_current (waiting + (f + more)) (said ++ rest)

pub says_more : (is_current is_current' : Bool) (w w' f v v' g : ℕ) (said : List Content) → w ≤ v → f ≤ g
    → v' ≤ w' → Says is_current w f said is_current' w' → Says is_current v g said is_current' v'
says_more is_current is_current' w w' f v v' g said waits asks left says last more rest h =
    spoken_more last is_current _ _ (said ++ rest) (omega arith)
    (says last more rest (spoken_more last is_current' _ _ rest (omega arith) h))

pub says_nothing : (is_current : Bool) (waiting waiting' f : ℕ) → waiting' ≤ waiting + f
    → Says is_current waiting f [] is_current waiting'
says_nothing is_current waiting waiting' f is last more rest h =
    spoken_more last is_current _ _ rest (omega arith) h

-- ---- a request between busy and idle

says_all : (is_current : Bool) (waiting : ℕ) (xs : List Content) → AreNoStatus xs
    → Says is_current waiting 1 (Status Busy ∷ (xs ++ Status Idle ∷ [])) is_current waiting
says_all true waiting xs none last more rest h = λ zero_is. absurd (omega arith)
says_all false waiting xs none last more rest h = (
  λ zero_is. absurd (omega arith),
  λ one. tail_begins last _ (ended last xs rest none (h.0 (omega arith))),
)

says_end : (waiting : ℕ) (xs : List Content) → AreNoStatus xs
    → Says true waiting 0 (xs ++ Status Idle ∷ []) false waiting
says_end waiting xs none last more rest h = λ zero_is. ended last xs rest none (h.0 (omega arith))

pub says_on : (is_current : Bool) (waiting : ℕ) (xs : List Content) → AreNoStatus xs
    → Says is_current waiting 0 (if is_current then xs else []) is_current waiting
says_on true waiting xs none last more rest h = λ zero_is. tail_more last xs rest none (h (omega arith))
says_on false waiting xs none last more rest h = spoken_more last false _ _ rest (omega arith) h

pub says_end_if : (is_current : Bool) (waiting : ℕ) (xs : List Content) → AreNoStatus xs
    → Says is_current waiting 0 (if is_current then xs ++ Status Idle ∷ [] else []) false waiting
says_end_if true waiting xs none = says_end waiting xs none
says_end_if false waiting xs none = says_nothing false waiting waiting 0 (omega arith)

-- what a request says of a run that it ends, if it ends one
pub data Cuts (is_current : Bool) (said : List Content) (is_current' : Bool) : Type 0 where
  nothing_cut : said ≡ [] → is_current' ≡ is_current → Cuts is_current said is_current'
  run_cut : (xs : List Content) → AreNoStatus xs
      → said ≡ (if is_current then xs ++ Status Idle ∷ [] else []) → is_current' ≡ false
      → Cuts is_current said is_current'

-- whether the request has this header: what it says
abbrev pub exchange : Bool → List Content → List Content → List Content
exchange true cut own = Status Busy ∷ (cut ++ (own ++ Status Idle ∷ []))
exchange false cut own = cut

abbrev pub one_if : Bool → ℕ
one_if b = cond b 1 0

says_exchange-uncut : (is_mine is_current : Bool) (waiting : ℕ) (own : List Content) → AreNoStatus own
    → Says is_current waiting (one_if is_mine) (exchange is_mine [] own) is_current waiting
says_exchange-uncut true is_current waiting own none = says_all is_current waiting own none
says_exchange-uncut false is_current waiting own none =
    says_nothing is_current waiting waiting 0 (omega arith)

says_exchange-cut : (is_mine is_current : Bool) (waiting : ℕ) (xs own : List Content) → AreNoStatus xs
    → AreNoStatus own
    → Says is_current waiting (one_if is_mine)
    (exchange is_mine (if is_current then xs ++ Status Idle ∷ [] else []) own) false waiting
says_exchange-cut true true waiting xs own cut none last more rest h = λ zero_is. absurd (omega arith)
says_exchange-cut true false waiting xs own cut none last more rest h =
    says_all false waiting own none last more rest h
says_exchange-cut false is_current waiting xs own cut none last more rest h =
    says_end_if is_current waiting xs cut last more rest h

pub says_exchange : (is_mine is_current : Bool) (waiting : ℕ) (said own : List Content) (is_current' : Bool)
    → AreNoStatus own → Cuts is_current said is_current'
    → Says is_current waiting (one_if is_mine) (exchange is_mine said own) is_current' waiting
says_exchange is_mine is_current waiting said own is_current' none (nothing_cut said_is current_is) =
    let P : List Content → Type 0 = λ cut. Says is_current waiting (one_if is_mine) (exchange is_mine cut own)
    is_current' waiting in
    let Q : Bool → Type 0 = λ b. Says is_current waiting (one_if is_mine) (exchange is_mine [] own) b waiting
    in
    subst P (sym said_is) (subst Q (sym current_is) (says_exchange-uncut is_mine is_current waiting own none))
says_exchange is_mine is_current waiting said own is_current' none (run_cut xs cut said_is current_is) =
    let P : List Content → Type 0 = λ cut. Says is_current waiting (one_if is_mine) (exchange is_mine cut own)
    is_current' waiting in
    let Q : Bool → Type 0 = λ b. Says is_current waiting (one_if is_mine)
    (exchange is_mine (if is_current then xs ++ Status Idle ∷ [] else []) own) b waiting in
    subst P (sym said_is) (subst Q (sym current_is)
    (says_exchange-cut is_mine is_current waiting xs own cut none))

-- ---- the next cell

-- it is loaded, and its run is to start
pub says_start : (is_mine : Bool) (waiting : ℕ) (xs : List Content) → AreNoStatus xs
    → Says false (one_if is_mine + waiting) 0 (if is_mine then Status Busy ∷ xs else []) is_mine waiting
says_start true waiting xs none last more rest h = (
  λ zero_is. absurd (omega arith),
  λ one. tail_begins last _
      (tail_more last xs rest none (h (omega arith))),
)
says_start false waiting xs none last more rest h = spoken_more last false _ _ rest (omega arith) h

-- it ends at once
pub says_ended : (is_mine : Bool) (waiting : ℕ) (xs : List Content) → AreNoStatus xs
    → Says false (one_if is_mine + waiting) 0
    (if is_mine then Status Busy ∷ (xs ++ Status Idle ∷ []) else []) false waiting
says_ended true waiting xs none last more rest h = (
  λ zero_is. absurd (omega arith),
  λ one. tail_begins last _ (ended last xs rest none (h.0 (omega arith))),
)
says_ended false waiting xs none last more rest h = spoken_more last false _ _ rest (omega arith) h
