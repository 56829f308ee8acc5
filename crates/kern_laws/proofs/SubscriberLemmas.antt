-- The subscribers to a topic are the connections that subscribed to it.
use Rattle.std.proofs.Common.{◌≡◌, ◌∙◌, ℕ, List, [], ◌∷◌, Bool, true, false, ◌&&◌, refl, sym, ap, map}
use Rattle.std.proofs.Common.{◌==◌, ◌↔◌, ◌||◌, cond, drop, length}
use Rattle.std.proofs.lemmas.Bool.{and_parts, eqb-true, eq-eqb}
use Rattle.std.proofs.lemmas.Bool.Decides.{Decides-eqb}
use Rattle.std.proofs.lemmas.List.Folds.{Any-from_list_any, list_any-from_Any}
use Rattle.std.proofs.lemmas.Slice.Eq.{starts_is}
use Rattle.std.specs.Cmp.Derive.{both_true}
use Rattle.std.specs.List.{Any, list_any, filter}
use Rattle.base_text.specs.Bytes.{Bytes, Text}
use Rattle.jup_wire.specs.declared.channel.Channel.{Channel}
use Rattle.jup_wire.specs.declared.channel.Channel.TheVariants.{Shell, Control, Stdin, Iopub}
use Rattle.kern_peers.specs.declared.peer.Peer.{Peer}
use Rattle.kern_peers.specs.Connections.{same_channel, is_on, begins, is_subscribed, subscribers}
use Rattle.kern_laws.specs.Laws.{IsPrefix, Subscribes, IsSubscriber}

-- what holds of an element, and implies something else
weaker : {A : Type 0} (P Q : A → Type 0) (xs : List A) → ((x : A) → P x → Q x) → Any P xs → Any Q xs
weaker P Q xs implies (k, x, within, is, holds) = (k, x, within, is, implies x holds)

-- ---- prefixes

begins_prefix : (topic : Text) (prefix : Bytes) → begins topic prefix ≡ true → IsPrefix prefix topic
begins_prefix topic prefix is =
    (drop (length prefix) topic, (starts_is Decides-eqb topic prefix (begins topic prefix) refl).0 is)

prefix_begins : (topic : Text) (prefix : Bytes) → IsPrefix prefix topic → begins topic prefix ≡ true
prefix_begins topic prefix (rest, is) =
    (starts_is Decides-eqb topic prefix (begins topic prefix) refl).1 rest is

-- ---- a connection

on_iopub : (channel : Channel) → same_channel channel Iopub ≡ true → channel ≡ Iopub
on_iopub Shell is = cc
on_iopub Control is = cc
on_iopub Stdin is = cc
on_iopub Iopub is = refl

subscribes : (topic : Text) (p : Peer) → is_subscribed topic p ≡ true → Subscribes topic p
subscribes topic p is =
    let parts = and_parts (is_on Iopub p) (list_any (begins topic) p.prefixes) is in (
      on_iopub p.channel parts.0,
      weaker (λ prefix. begins topic prefix ≡ true) (λ prefix. IsPrefix prefix topic) p.prefixes
          (begins_prefix topic) (Any-from_list_any (begins topic) p.prefixes parts.1),
    )

is_subscribed-true : (topic : Text) (p : Peer) → Subscribes topic p → is_subscribed topic p ≡ true
is_subscribed-true topic p (channel, prefixes) =
    both_true (ap (λ c. same_channel c Iopub) channel)
    (list_any-from_Any (begins topic) p.prefixes
    (weaker (λ prefix. IsPrefix prefix topic) (λ prefix. begins topic prefix ≡ true) p.prefixes
    (prefix_begins topic) prefixes))

-- ---- lists

abbrev has_number : ℕ → ℕ → Bool
has_number n k = k == n

abbrev is_subscriber : Text → ℕ → Peer → Bool
is_subscriber topic n p = (p.number == n) && is_subscribed topic p

-- one more connection, of whose subscription this is known
one_more : (topic : Text) (n : ℕ) (p : Peer) (peers : List Peer) (is_in : Bool)
    → list_any (has_number n) (subscribers topic peers) ≡ list_any (is_subscriber topic n) peers
    → list_any (has_number n)
    (map (λ (q : Peer). q.number) (cond is_in (p ∷ filter (is_subscribed topic) peers)
    (filter (is_subscribed topic) peers)))
    ≡ (((p.number == n) && is_in) || list_any (is_subscriber topic n) peers)
one_more topic n p peers true same = number_or (p.number == n) _ _ same
  where
    number_or : (b x y : Bool) → x ≡ y → (b || x) ≡ ((b && true) || y)
    number_or true x y is = refl
    number_or false x y is = is
one_more topic n p peers false same = number_and (p.number == n) _ _ same
  where
    number_and : (b x y : Bool) → x ≡ y → x ≡ ((b && false) || y)
    number_and true x y is = is
    number_and false x y is = is

same_test : (topic : Text) (n : ℕ) (peers : List Peer)
    → list_any (has_number n) (subscribers topic peers) ≡ list_any (is_subscriber topic n) peers
same_test topic n [] = refl
same_test topic n (p ∷ peers) = one_more topic n p peers (is_subscribed topic p) (same_test topic n peers)

pub subscribers_are : (topic : Text) (peers : List Peer) (n : ℕ)
    → Any (λ k. k ≡ n) (subscribers topic peers) ↔ IsSubscriber topic peers n
subscribers_are topic peers n = (
  λ h. weaker (λ p. is_subscriber topic n p ≡ true) (λ p. (p.number ≡ n) × Subscribes topic p) peers
      (λ p is. let parts = and_parts (p.number == n) (is_subscribed topic p) is in
      (eqb-true p.number n parts.0, subscribes topic p parts.1))
      (Any-from_list_any (is_subscriber topic n) peers (sym (same_test topic n peers)
      ∙ list_any-from_Any (has_number n) (subscribers topic peers)
      (weaker (λ k. k ≡ n) (λ k. has_number n k ≡ true) (subscribers topic peers) (λ k. eq-eqb k n) h))),
  λ h. weaker (λ k. has_number n k ≡ true) (λ k. k ≡ n) (subscribers topic peers) (λ k. eqb-true k n)
      (Any-from_list_any (has_number n) (subscribers topic peers) (same_test topic n peers
      ∙ list_any-from_Any (is_subscriber topic n) peers
      (weaker (λ p. (p.number ≡ n) × Subscribes topic p) (λ p. is_subscriber topic n p ≡ true) peers
      (λ p is. both_true (eq-eqb p.number n is.0) (is_subscribed-true topic p is.1)) h))),
)
