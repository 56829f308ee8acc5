-- What a pump wrote, from Fetch to Fetch.
use Rattle.std.proofs.Common.{◌≡◌, ℕ, zero, suc, zero-add, ◌+◌, ◌-◌, ◌<◌, ◌≤◌, ◌⊎◌, inl, inr, Bool, true}
use Rattle.std.proofs.Common.{false, List, [], ◌∷◌, ◌++◌, length, take, drop, Result, Ok, Err, refl}
use Rattle.std.proofs.Common.{arith, sym, ap, ◌∙◌, subst, append_assoc, append-nil, length-append}
use Rattle.std.specs.List.{filter}
use Rattle.std.specs.Result.{IfErr}
use mathlib.Core.List.{IsPrefix}
use Rattle.std.proofs.lemmas.Grind.{common_steps}
use Rattle.std.proofs.lemmas.Bool.{cases_lt}
use Rattle.std.proofs.lemmas.List.{take-append-le, drop-append-le, drop-drop, length-drop}
use Rattle.std.proofs.lemmas.List.Elements.{filter-append}
use Rattle.lab_turn.specs.History.{PassState}
use Rattle.base_streams.specs.States.{OutletState, IsWritable}
use Rattle.base_streams.specs.Told.{TookPrefix}
use Rattle.base_streams.proofs.TellLemmas.{told_on}
use Rattle.zmtp_wire.proofs.ReceivingLemmas.{told_none}
use Rattle.zmtp_wire.proofs.SendingLemmas.{front_all, front_on}
use Rattle.kern_post.specs.declared.post.Post.{Post}
use Rattle.kern_post.specs.Posts.{is_to}
use Rattle.kern_calls.specs.declared.call.Call.{Call}
use Rattle.kern_calls.specs.declared.call.Call.TheVariants.{Fetch}
use Rattle.kern_calls.specs.declared.call.Reply.{Reply}
use Rattle.kern_calls.specs.declared.call.Reply.TheVariants as reply
use Rattle.kern_calls.specs.declared.fault.KernelFault.{KernelFault}
use Rattle.kern_calls.specs.declared.fault.KernelFault.TheVariants as fault
use Rattle.kern_core.specs.Kernels.{is_entry}
use Rattle.kern_net.specs.declared.end.PumpEnd.{PumpEnd}
use Rattle.kern_net.specs.declared.end.PumpEnd.TheVariants as end
use Rattle.kern_net.specs.Ends.{end_by_kernel}
use Rattle.kern_net.specs.Gates.{AnswerCounts, WriterPolls, with_answer, times, FetchedAll, after_idle}
use Rattle.kern_net.specs.Calls.{TurnedBy, LastCall}
use Rattle.kern_net.proofs.CallLemmas.{turned_prefix, last_call}
use Rattle.kern_net.specs.declared.pump_out.Batch.{Batch}
use Rattle.kern_net.specs.declared.pump_out.Cursor.{Cursor}
use Rattle.kern_net.specs.Streams.{posts_in, window, IsStreamOf}
use Rattle.kern_net.specs.Routes.{Target}
use Rattle.kern_net.specs.Out.{FetchedOn, OneFetch, StopsFetching, Writer, is_whole, WrotePrefix, WroteAll}
use Rattle.kern_net.specs.Out.{WroteOut, OutEnds, HasCaughtUp, writer_with}
use Rattle.kern_net.specs.Rounds.{GivesBatch, FetchFails, IsOutOfTickets, IsRefused, WriteFails, IsUnfit}
use Rattle.kern_net.specs.Rounds.{IsFailed}
use Rattle.kern_net.specs.Rounds.{WritesBatch, RoundFails, IsDenied, IsCut, Sender}
use Rattle.kern_net.proofs.StreamLemmas.{no_posts, stream-append}
use Rattle.kern_net.proofs.GrowLemmas.{Grows, posts_grow}
use Rattle.kern_net.proofs.FetchLemmas.{Gives, gives, reaches}

-- ---- windows

window_begins : (c from k : ℕ) (P Y : List Post) → k ≤ length (drop (from - 1) P)
    → take k (drop (from - 1) (P ++ Y)) ≡ take k (drop (from - 1) P)
window_begins c from k P Y h =
    elim (cases_lt (length P) (from - 1)) [
      | inl lt ↦ (let z : k ≡ 0 = omega (arith, length-drop (from - 1) P) in rw z refl)
      | inr le ↦ ap (take k) (drop-append-le (from - 1) P Y le) ∙ take-append-le k (drop (from - 1) P) Y h
    ]

-- it stays the same where posts come behind
pub window_kept : (c from next : ℕ) (P Q : List Post) → Grows P Q → next - from ≤ length (drop (from - 1) P)
    → window c from next Q ≡ window c from next P
unfolding window
window_kept c from next P Q g h =
    ap (λ l. filter (is_to c) (take (next - from) (drop (from - 1) l))) g.whole
    ∙ ap (filter (is_to c)) (window_begins c from (next - from) P g.more h)

pub length_grows : (from : ℕ) (P Q : List Post) → Grows P Q
    → length (drop (from - 1) P) ≤ length (drop (from - 1) Q)
length_grows from P Q g =
    let w = ap length g.whole in
    omega (arith, length-drop (from - 1) P, length-drop (from - 1) Q, length-append P g.more)

take_adds : (i j : ℕ) (x : List Post) → take (i + j) x ≡ take i x ++ take j (drop i x)
take_adds zero j x = rw zero-add
take_adds (suc i) j [] = grind (arith, common_steps)
take_adds (suc i) j (b ∷ x) =
    let e : suc i + j ≡ suc (i + j) = omega arith in rw e (ap (λ (l : List Post). b ∷ l) (take_adds i j x))

window_joins : (c from mid next : ℕ) (P : List Post) → 1 ≤ from → from ≤ mid → mid ≤ next
    → window c from mid P ++ window c mid next P ≡ window c from next P
unfolding window
window_joins c from mid next P one a b =
    let X = drop (from - 1) P in
    let n : mid - 1 ≡ (from - 1) + (mid - from) = omega arith in
    let s : drop (mid - 1) P ≡ drop (mid - from) X =
    ap (λ i. drop i P) n ∙ sym (drop-drop (mid - from) (from - 1) P) in
    let k : next - from ≡ (mid - from) + (next - mid) = omega arith in
    ap (λ (l : List Post). filter (is_to c) (take (mid - from) X) ++ filter (is_to c) (take (next - mid) l)) s
    ∙ sym (filter-append (is_to c) (take (mid - from) X) (take (next - mid) (drop (mid - from) X)))
    ∙ ap (filter (is_to c)) (sym (take_adds (mid - from) (next - mid) X) ∙ ap (λ i. take i X) (sym k))

window_none : (c from : ℕ) (P : List Post) → window c from from P ≡ []
unfolding window
window_none c from P = let z : from - from ≡ 0 = omega arith in rw z refl

abbrev pub sender : OutletState → PassState Call → Sender
sender outlet pass = record { outlet = outlet; pass = pass }

abbrev pub cursor : ℕ → Bool → Cursor
cursor next ended = record { next = next; ended = ended }

-- ---- what was told

pub all_none : (target : Target) (a : OutletState) → WroteAll target a a []
all_none target a = record {
  bytes = [];
  stream = no_posts target.key target.session;
  took = told_none
      a.taken;
}

pub all_on : (target : Target) (a b d : OutletState) (xs ys : List Post)
    → WroteAll target a b xs → WroteAll target b d ys → WroteAll target a d (xs ++ ys)
all_on target a b d xs ys s t = record {
  bytes = s.bytes ++ t.bytes;
  stream = stream-append target.key target.session xs ys s.bytes t.bytes s.stream t.stream;
  took = told_on a.taken b.taken d.taken s.bytes t.bytes s.took t.took;
}

pub all_front : (target : Target) (a b d : OutletState) (xs ys : List Post)
    → WroteAll target a b xs → WrotePrefix target b d ys → WrotePrefix target a d (xs ++ ys)
all_front target a b d xs ys s t = record {
  begun = xs ++ t.begun;
  others = t.others;
  split = ap (λ l. xs ++ l) t.split ∙ sym (append_assoc xs t.begun t.others);
  bytes = s.bytes ++ t.bytes;
  stream = stream-append target.key target.session xs t.begun s.bytes t.bytes s.stream t.stream;
  front = front_on a.taken b.taken d.taken s.bytes t.bytes s.took t.front;
}

-- nothing is a prefix of all
pub no_front : (target : Target) (a : OutletState) (xs : List Post) → WrotePrefix target a a xs
no_front target a xs = record {
  begun = [];
  others = xs;
  split = refl;
  bytes = [];
  stream = no_posts target.key target.session;
  front = front_all a.taken a.taken [] (told_none a.taken);
}

whole_front : (target : Target) (a b : OutletState) (xs : List Post) → WroteAll target a b xs
    → WrotePrefix target a b xs
whole_front target a b xs s = record {
  begun = xs;
  others = [];
  split = sym (append-nil xs);
  bytes = s.bytes;
  stream = s.stream;
  front = front_all a.taken b.taken s.bytes s.took;
}

pub front_of : (target : Target) (a b : OutletState) (posts : List Post) (bytes slice : List ℕ)
    → IsStreamOf target.key target.session posts bytes → slice ≡ bytes → TookPrefix a b slice
    → WrotePrefix target a b posts
front_of target a b posts bytes slice s e f =
    let F : List ℕ → Type 0 = λ l. TookPrefix a b l in
    record {
      begun = posts;
      others = [];
      split = sym (append-nil posts);
      bytes = bytes;
      stream = s;
      front = subst F e f;
    }

-- ---- what was written for the posts below a number

pub record Written (target : Target) (before after : OutletState) (from next : ℕ)
    (history : List (ℕ × Call)) : Type 0 where
  pub onward : from ≤ next
  pub one : (next ≡ from) ⊎ (1 ≤ from)
  pub within : next - from ≤ length (drop (from - 1) (posts_in history))
  pub all : WroteAll target before after (window target.connection from next (posts_in history))

pub written_first : (target : Target) (a : OutletState) (from : ℕ)
    (history : List (ℕ × Call)) → Written target a a from from history
written_first target a from history =
    let A : List Post → Type 0 = λ l. WroteAll target a a l in
    record {
      onward = omega arith;
      one = inl refl;
      within = omega arith;
      all = subst A (sym (window_none target.connection from (posts_in history))) (all_none target a);
    }

-- in a longer history
pub written_kept : (target : Target) (a b : OutletState) (from next : ℕ)
    (old new : List (ℕ × Call)) → IsPrefix old new → Written target a b from next old
    → Written target a b from next new
written_kept target a b from next old new p w =
    let g = posts_grow old new p in
    let A : List Post → Type 0 = λ l. WroteAll target a b l in
    let l = length_grows from (posts_in old) (posts_in new) g in
    let h = w.within in
    record {
      onward = w.onward;
      one = w.one;
      within = omega (arith, l, h);
      all = subst A (sym (window_kept target.connection from next (posts_in old)
          (posts_in new) g w.within)) w.all;
    }

-- and what a Fetch gave
gives_kept : (c f : ℕ) (posts : List Post) (next : ℕ) (old new : List (ℕ × Call)) → IsPrefix old new
    → Gives c f (posts_in old) posts next → Gives c f (posts_in new) posts next
gives_kept c f posts next old new p g =
    let r = posts_grow old new p in
    let l = length_grows f (posts_in old) (posts_in new) r in
    let h = g.within in
    record {
      one = g.one;
      posts_are = g.posts_are ∙ sym (window_kept c f next (posts_in old) (posts_in new) r g.within);
      onward = g.onward;
      within = omega (arith, l, h);
    }

from_one : (from f : ℕ) → 1 ≤ f → (f ≡ from) ⊎ (1 ≤ from) → 1 ≤ from
from_one from f h (inl e) = subst (λ n. 1 ≤ n) e h
from_one from f h (inr k) = k

-- the window goes on
joined : (target : Target) (a b : OutletState) (from f next : ℕ) (history : List (ℕ × Call))
    (posts : List Post) → Written target a b from f history
    → Gives target.connection f (posts_in history) posts next
    → window target.connection from f (posts_in history) ++ posts ≡ window target.connection from next
    (posts_in history)
joined target a b from f next history posts w g =
    ap (λ l. window target.connection from f (posts_in history) ++ l) g.posts_are
    ∙ window_joins target.connection from f next (posts_in history)
    (from_one from f g.one w.one) w.onward g.onward

window_on : (target : Target) (a b d : OutletState) (from f next : ℕ)
    (history : List (ℕ × Call)) (posts : List Post) → Written target a b from f history
    → Gives target.connection f (posts_in history) posts next → WrotePrefix target b d posts
    → WrotePrefix target a d (window target.connection from next (posts_in history))
window_on target a b d from f next history posts w g t =
    let F : List Post → Type 0 = λ l. WrotePrefix target a d l in
    subst F (joined target a b from f next history posts w g)
    (all_front target a b d (window target.connection from f (posts_in history)) posts w.all t)

goes_on : (target : Target) (a b : OutletState) (from f next : ℕ) (history : List (ℕ × Call))
    (posts : List Post) → Written target a b from f history
    → Gives target.connection f (posts_in history) posts next → from ≤ next
goes_on target a b from f next history posts w g =
    let o = w.onward in let n = g.onward in omega (arith, o, n)

goes_within : (target : Target) (a b : OutletState) (from f next : ℕ) (history : List (ℕ × Call))
    (posts : List Post) → Written target a b from f history
    → Gives target.connection f (posts_in history) posts next
    → next - from ≤ length (drop (from - 1) (posts_in history))
goes_within target a b from f next history posts w g =
    let P = posts_in history in
    let one = from_one from f g.one w.one in
    let h = w.within in let k = g.within in let o = w.onward in let n = g.onward in
    omega (arith, h, k, o, n, one, length-drop (from - 1) P, length-drop (f - 1) P)

written_on : (target : Target) (a b d : OutletState) (from f next : ℕ)
    (history : List (ℕ × Call)) (posts : List Post) → Written target a b from f history
    → Gives target.connection f (posts_in history) posts next → WroteAll target b d posts
    → Written target a d from next history
written_on target a b d from f next history posts w g t =
    let A : List Post → Type 0 = λ l. WroteAll target a d l in
    record {
      onward = goes_on target a b from f next history posts w g;
      one = inr (from_one from f g.one w.one);
      within = goes_within target a b from f next history posts w g;
      all =
          subst A (joined target a b from f next history posts w g)
          (all_on target a b d (window target.connection from f (posts_in history)) posts w.all t);
    }

-- what was written since the writer's gate was polled last
pub record Since (target : Target) (outlet : OutletState) (from next : ℕ) (history : List (ℕ × Call))
    : Type 0 where
  pub before : OutletState
  pub written : Written target before outlet from next history

pub since_none : (target : Target) (a : OutletState) (from next : ℕ) (history : List (ℕ × Call))
    → from ≡ next → Since target a from next history
since_none target a from next history is =
    let W : ℕ → Type 0 = λ n. Written target a a n next history in
    record { before = a; written = subst W (sym is) (written_first target a next history) }

-- ---- the Fetches

-- a Fetch that was answered
pub record Moved (c f : ℕ) (v w : PassState Call) (posts : List Post) (next : ℕ) (ended : Bool) : Type 0 where
  pub given : Gives c f (posts_in w.seen) posts next
  pub onward : IsPrefix v.seen w.seen
  pub last : LastCall w (Fetch c f) (Ok (reply.Fetched posts next ended))
  pub calls : w.calls ≡ v.calls ++ Fetch c f ∷ []

pub moved : (c f : ℕ) (v w : PassState Call) (posts : List Post) (next : ℕ) (ended : Bool)
    → TurnedBy v (Fetch c f) (Ok (reply.Fetched posts next ended)) w → Moved c f v w posts next ended
moved c f v w posts next ended t =
    let e = t.entered refl in
    record {
      given =
          gives_kept c f posts next e.before w.seen ((v.seat, Fetch c f) ∷ [], sym e.history)
          (gives e.before c f posts next ended e.answered);
      onward = turned_prefix v w (Fetch c f) (Ok (reply.Fetched posts next ended)) t;
      last = last_call v w (Fetch c f) (Ok (reply.Fetched posts next ended)) refl t;
      calls = e.counted;
    }

pub went_calls : (target : Target) (b d : OutletState) (f next : ℕ) (ended : Bool)
    (v w : PassState Call) → WritesBatch target f (sender b v) (sender d w) (cursor next ended)
    → w.calls ≡ v.calls ++ Fetch target.connection f ∷ []
went_calls target b d f next ended v w s = (s.turned.entered refl).counted

-- a refusal
pub denied_by : (c f : ℕ) (v w : PassState Call) (answer : Result Reply KernelFault)
    (r : Result Batch PumpEnd)
    → TurnedBy v (Fetch c f) answer w → GivesBatch answer r → IfErr r (FetchFails c v w f)
denied_by c f v w answer (Ok b) t e = tt
denied_by c f v w answer (Err e) t (x, is, same) =
    let T : Result Reply KernelFault → Type 0 = λ a. TurnedBy v (Fetch c f) a w in
    IsRefused e x same (subst T is t)

-- ---- rounds

pub went_on : (target : Target) (a b d : OutletState) (from f next : ℕ) (ended : Bool)
    (v w : PassState Call) → Written target a b from f v.seen
    → WritesBatch target f (sender b v) (sender d w) (cursor next ended)
    → Written target a d from next w.seen
went_on target a b d from f next ended v w r s =
    let k = moved target.connection f v w s.posts next ended s.turned in
    written_on target a b d from f next w.seen s.posts
    (written_kept target a b from f v.seen w.seen k.onward r) k.given s.all

pub went_since : (target : Target) (b d : OutletState) (from f next : ℕ) (ended : Bool)
    (v w : PassState Call) → Since target b from f v.seen
    → WritesBatch target f (sender b v) (sender d w) (cursor next ended)
    → Since target d from next w.seen
went_since target b d from f next ended v w r s = record {
  before = r.before;
  written = went_on target r.before b d from f next ended v w r.written s;
}

pub went_fetched : (target : Target) (b d : OutletState) (from f next : ℕ) (ended : Bool)
    (o v w : PassState Call) → FetchedOn target.connection from o v f
    → WritesBatch target f (sender b v) (sender d w) (cursor next ended)
    → FetchedOn target.connection from o w next
went_fetched target b d from f next ended o v w k s = OneFetch v w f next s.posts ended k s.turned

pub went_longer : (target : Target) (b d : OutletState) (f next : ℕ) (ended : Bool)
    (v w : PassState Call) → WritesBatch target f (sender b v) (sender d w) (cursor next ended)
    → length w.calls ≡ length v.calls + 1
went_longer target b d f next ended v w s =
    ap length (went_calls target b d f next ended v w s)
    ∙ length-append v.calls (Fetch target.connection f ∷ [])

-- ---- how it ends

ends_as : (c next : ℕ) (x : Writer) (e e' : PumpEnd) → e ≡ e' → OutEnds c next x e' → OutEnds c next x e
ends_as c next x e e' k h = let E : PumpEnd → Type 0 = λ y. OutEnds c next x y in subst E (sym k) h

refused_ends : (c next : ℕ) (x : Writer) (fault : KernelFault)
    → IsWritable x.outlet × (x.polls.idle.no ≡ 0) → OutEnds c next x (end_by_kernel fault)
refused_ends c next x fault.OutOfMemory n = n
refused_ends c next x fault.JournalFull n = n
refused_ends c next x (fault.Lagged first) n = n
refused_ends c next x fault.Full n = n
refused_ends c next x fault.NoConnection n = n

denied_ends : (c f next : ℕ) (v w : PassState Call) (x : Writer) (e : PumpEnd) → x.polls.idle.no ≡ 0
    → IsWritable x.outlet → FetchFails c v w f e → OutEnds c next x e
denied_ends c f next v w x e o n (IsOutOfTickets e1 h k) = ends_as c next x e end.OutOfTickets h (n, o)
denied_ends c f next v w x e o n (IsRefused e1 fault h t) =
    ends_as c next x e (end_by_kernel fault) h (refused_ends c next x fault (n, o))

cut_ends : (target : Target) (b : OutletState) (next : ℕ) (x : Writer) (posts : List Post) (e : PumpEnd)
    → x.polls.idle.no ≡ 0 → WriteFails target b x.outlet posts e → OutEnds target.connection next x e
cut_ends target b next x posts e o (IsUnfit e1 h same n) =
    ends_as target.connection next x e end.OutOfMemory h (n, o)
cut_ends target b next x posts e o (IsFailed e1 h front n) =
    ends_as target.connection next x e end.WriteFailed h (n, o)

-- the Fetch left no post
fetched_all : (target : Target) (b d : OutletState) (f next : ℕ) (ended : Bool) (v w : PassState Call)
    → WritesBatch target f (sender b v) (sender d w) (cursor next ended) → next - f < 64
    → FetchedAll target.connection w next ended
fetched_all target b d f next ended v w s short =
    let last = last_call v w (Fetch target.connection f) (Ok (reply.Fetched s.posts next ended)) refl
    s.turned in
    record {
      from = f;
      posts = s.posts;
      last = last;
      all = reaches last.before target.connection f s.posts next ended last.answered short;
    }

pub went_up : (target : Target) (b d : OutletState) (from f next : ℕ) (ended : Bool) (v w : PassState Call)
    → Since target b from f v.seen → WritesBatch target f (sender b v) (sender d w) (cursor next ended)
    → next - f < 64 → HasCaughtUp w d from next
went_up target b d from f next ended v w r s short =
    let all = went_since target b d from f next ended v w r s in
    record {
      target = target;
      ended = ended;
      fetched = fetched_all target b d f next ended v w s short;
      before = all.before;
      wrote = all.written.all;
    }

-- what polling `idle` made of the writer's polls
pub was_asked : (a b : WriterPolls) (r : Bool) (next : ℕ) → b ≡ after_idle r next a
    → b.idle ≡ with_answer r a.idle
was_asked a b r next is = ap (λ (x : WriterPolls). x.idle) is

pub said_no : (a b : WriterPolls) (r : Bool) → b.idle ≡ with_answer r a.idle → r ≡ false → a.idle.no ≡ 0
    → b.idle.no ≡ 1
said_no a b true e n z = absurd cc
said_no a b false e n z = let y = ap (λ (x : AnswerCounts). x.no) e in omega (arith, y, z)

pub said_once : (a b : WriterPolls) (r : Bool) → b.idle ≡ with_answer r a.idle
    → times b.idle ≡ times a.idle + 1
said_once a b true e =
    let y = ap (λ (x : AnswerCounts). x.yes) e in let z = ap (λ (x : AnswerCounts). x.no) e in
    omega (arith, y, z)
said_once a b false e =
    let y = ap (λ (x : AnswerCounts). x.yes) e in let z = ap (λ (x : AnswerCounts). x.no) e in
    omega (arith, y, z)

-- it ended after a whole round
went_done : (target : Target) (a b d : OutletState) (p q : WriterPolls) (from f next : ℕ) (ended : Bool)
    (o v w : PassState Call) → Written target a b from f v.seen → FetchedOn target.connection from o v f
    → WritesBatch target f (sender b v) (sender d w) (cursor next ended)
    → OutEnds target.connection next (writer_with d w q) end.Ended
    → WroteOut target from (writer_with a o p) (writer_with d w q) end.Ended
went_done target a b d p q from f next ended o v w r k s cause =
    let t = went_on target a b d from f next ended v w r s in
    record {
      mid = w;
      next = next;
      onward = t.onward;
      within = t.within;
      fetched = went_fetched target b d from f next ended o v w k s;
      last = refl;
      front = whole_front target a d (window target.connection from next (posts_in w.seen)) t.all;
      whole = λ h. t.all;
      cause = cause;
    }

-- since a shutdown was seen
pub went_over : (target : Target) (a b d : OutletState) (p q : WriterPolls) (from f next : ℕ) (ended : Bool)
    (o v w : PassState Call) → Written target a b from f v.seen → FetchedOn target.connection from o v f
    → WritesBatch target f (sender b v) (sender d w) (cursor next ended) → IsWritable d → next - f < 64
    → q.idle.no ≡ 0 → ended ≡ true → WroteOut target from (writer_with a o p) (writer_with d w q) end.Ended
went_over target a b d p q from f next ended o v w r k s good short still shut =
    went_done target a b d p q from f next ended o v w r k s
    (good, (ended, fetched_all target b d f next ended v w s short, inr (still, shut)))

-- since the gate has said no
pub went_closed : (target : Target) (a b d : OutletState) (p q : WriterPolls) (from f next : ℕ) (ended : Bool)
    (o v w : PassState Call) → Written target a b from f v.seen → FetchedOn target.connection from o v f
    → WritesBatch target f (sender b v) (sender d w) (cursor next ended) → IsWritable d → next - f < 64
    → q.idle.no ≡ 1 → WroteOut target from (writer_with a o p) (writer_with d w q) end.Ended
went_closed target a b d p q from f next ended o v w r k s good short closed =
    went_done target a b d p q from f next ended o v w r k s
    (good, (ended, fetched_all target b d f next ended v w s short, inl closed))

-- no Fetch came after those that were answered
stops_cut : (c next : ℕ) (w : PassState Call) (e : PumpEnd) → is_whole e ≡ false → StopsFetching c next w w e
stops_cut c next w end.OutOfMemory h = inl refl
stops_cut c next w end.WriteFailed h = refl
stops_cut c next w _ h = absurd cc

-- or one that was refused
stops_refused : (c f : ℕ) (v w : PassState Call) (x : KernelFault) → TurnedBy v (Fetch c f) (Err x) w
    → StopsFetching c f v w (end_by_kernel x)
stops_refused c f v w fault.OutOfMemory t = inr t
stops_refused c f v w fault.JournalFull t = t
stops_refused c f v w (fault.Lagged first) t = (first, t)
stops_refused c f v w fault.Full t = (t, refl)
stops_refused c f v w fault.NoConnection t = (t, refl)

stops_as : (c f : ℕ) (v w : PassState Call) (e e' : PumpEnd) → e ≡ e' → StopsFetching c f v w e'
    → StopsFetching c f v w e
stops_as c f v w e e' k h =
    let E : PumpEnd → Type 0 = λ x. StopsFetching c f v w x in subst E (sym k) h

-- it ended in a round
module _ (target : Target) (a b d : OutletState) (p q : WriterPolls) (from f : ℕ) (o v w : PassState Call)
    (written : Written target a b from f v.seen) (fetched : FetchedOn target.connection from o v f)
    (still : q.idle.no ≡ 0) where
  standing : (e : PumpEnd) → IsPrefix v.seen w.seen → StopsFetching target.connection f v w e → d ≡ b
      → OutEnds target.connection f (writer_with d w q) e
      → WroteOut target from (writer_with a o p) (writer_with d w q) e
  standing e onward last same cause =
      let kept = written_kept target a b from f v.seen w.seen onward written in
      let T : OutletState
      → Type 0 = λ x. WroteAll target a x (window target.connection from f (posts_in w.seen)) in
      let t = subst T (sym same) kept.all in
      record {
        mid = v;
        next = f;
        onward = written.onward;
        within = kept.within;
        fetched = fetched;
        last = last;
        front = whole_front target a d (window target.connection from f (posts_in w.seen)) t;
        whole = λ h. t;
        cause = cause;
      }

  denied : (e : PumpEnd) → FetchFails target.connection v w f e → d ≡ b → IsWritable d
      → WroteOut target from (writer_with a o p) (writer_with d w q) e
  denied e (IsOutOfTickets e1 h k) same good =
      standing e ([], append-nil v.seen ∙ sym (ap (λ (x : PassState Call). x.seen) k))
      (stops_as target.connection f v w e end.OutOfTickets h k) same
      (denied_ends target.connection f f v w (writer_with d w q) e still good (IsOutOfTickets e1 h k))
  denied e (IsRefused e1 x h t) same good =
      standing e (turned_prefix v w (Fetch target.connection f) (Err x) t)
      (stops_as target.connection f v w e (end_by_kernel x) h
      (stops_refused target.connection f v w x t)) same
      (denied_ends target.connection f f v w (writer_with d w q) e still good (IsRefused e1 x h t))

  cut_at : (e : PumpEnd) (posts : List Post) (next : ℕ) (ended : Bool) → is_whole e ≡ false
      → TurnedBy v (Fetch target.connection f) (Ok (reply.Fetched posts next ended)) w
      → WrotePrefix target b d posts → OutEnds target.connection next (writer_with d w q) e
      → WroteOut target from (writer_with a o p) (writer_with d w q) e
  cut_at e posts next ended n t front cause =
      let k = moved target.connection f v w posts next ended t in
      let kept = written_kept target a b from f v.seen w.seen k.onward written in
      record {
        mid = w;
        next = next;
        onward = goes_on target a b from f next w.seen posts kept k.given;
        within = goes_within target a b from f next w.seen posts kept k.given;
        fetched = OneFetch v w f next posts ended fetched t;
        last = stops_cut target.connection next w e n;
        front = window_on target a b d from f next w.seen posts kept k.given front;
        whole = λ h. absurd (cc);
        cause = cause;
      }

  cut : (e : PumpEnd) (posts : List Post) (next : ℕ) (ended : Bool)
      → TurnedBy v (Fetch target.connection f) (Ok (reply.Fetched posts next ended)) w
      → WriteFails target b d posts e → WroteOut target from (writer_with a o p) (writer_with d w q) e
  cut e posts next ended t (IsUnfit e1 h same x) =
      let F : OutletState → Type 0 = λ y. WrotePrefix target b y posts in
      cut_at e posts next ended (ap is_whole h) t (subst F (sym same) (no_front target b posts))
      (cut_ends target b next (writer_with d w q) posts e still (IsUnfit e1 h same x))
  cut e posts next ended t (IsFailed e1 h front x) =
      cut_at e posts next ended (ap is_whole h) t front
      (cut_ends target b next (writer_with d w q) posts e still (IsFailed e1 h front x))

  pub halted : (e : PumpEnd) → RoundFails target f (sender b v) (sender d w) e
      → WroteOut target from (writer_with a o p) (writer_with d w q) e
  halted e (IsDenied e1 h same good) = denied e h same good
  halted e (IsCut e1 posts next ended t h) = cut e posts next ended t h

-- ---- polls and calls

pub said_yes : (a b : WriterPolls) (r : Bool) → b.idle ≡ with_answer r a.idle → r ≡ true
    → (times b.idle ≡ times a.idle + 1) × (b.idle.no ≡ a.idle.no)
said_yes a b false e n = absurd cc
said_yes a b true e n =
    let y = ap (λ (x : AnswerCounts). x.yes) e in
    let z = ap (λ (x : AnswerCounts). x.no) e in
    (omega (arith, y, z), z)

-- no call goes away
turned_calls : (v w : PassState Call) (c f : ℕ) (r : Result Reply KernelFault) (x : Bool) → is_entry r ≡ x
    → TurnedBy v (Fetch c f) r w → length v.calls ≤ length w.calls
turned_calls v w c f r true h t =
    let k = ap length (t.entered h).counted in omega (arith, k, length-append v.calls (Fetch c f ∷ []))
turned_calls v w c f r false h t = let k = ap length (t.refused h).counted in omega (arith, k)

denied_calls : (c f : ℕ) (v w : PassState Call) (e : PumpEnd) → FetchFails c v w f e
    → length v.calls ≤ length w.calls
denied_calls c f v w e (IsOutOfTickets e1 h k) =
    let l = ap (λ (x : PassState Call). length x.calls) k in omega (arith, l)
denied_calls c f v w e (IsRefused e1 x h t) = turned_calls v w c f (Err x) (is_entry (Err x)) refl t

pub halted_calls : (target : Target) (b d : OutletState) (f : ℕ) (v w : PassState Call)
    (e : PumpEnd) → RoundFails target f (sender b v) (sender d w) e → length v.calls ≤ length w.calls
halted_calls target b d f v w e (IsDenied e1 h same n) = denied_calls target.connection f v w e h
halted_calls target b d f v w e (IsCut e1 posts next ended t h) =
    turned_calls v w target.connection f (Ok (reply.Fetched posts next ended)) true refl t
