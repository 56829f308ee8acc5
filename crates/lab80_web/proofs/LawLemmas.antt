-- The laws of sessions.
use Rattle.std.proofs.Common.{◌≡◌, ◌↔◌, ◌∙◌, ℕ, zero, suc, ◌<◌, List, [], ◌∷◌, ◌++◌, length, map, fold}
use Rattle.std.specs.Prelude.{codes}
use Rattle.std.proofs.Common.{Bool, true, false, refl, sym, ap, arith, filter_map, append-nil, append_assoc}
use Rattle.std.proofs.lemmas.List.Elements.{filter_map-append}
use Rattle.std.proofs.lemmas.Bool.{false≢true}
use Rattle.std.proofs.lemmas.List.Sums.{fold-append}
use Rattle.zmtp_wire.specs.Wire.{Bytes, Frames, Messages}
use Rattle.zmtp_wire.specs.Writing.{message_bytes}
use Rattle.zmtp_wire.specs.declared.peer_fault.PeerFault.{PeerFault}
use Rattle.zmtp_wire.proofs.FeedLemmas.{one_state}
use Rattle.kern_post.specs.declared.post.Post.{Post}
use Rattle.kern_calls.specs.declared.call.Call.{Call}
use Rattle.kern_calls.specs.declared.call.Call.TheVariants.{Slice}
use Rattle.kern_core.specs.States.{KernelState, kernel_before_calls}
use Rattle.kern_core.specs.Turns.{next, state_after}
use Rattle.kern_laws.proofs.ShutLemmas.{when_shut}
use Rattle.kern_render.proofs.RenderLemmas.{one_rendering}
use Rattle.lab80_web.specs.declared.answer.Answer.TheVariants as answer
use Rattle.lab80_web.specs.declared.items.Item.{Item}
use Rattle.lab80_web.specs.declared.items.Item.TheVariants as item
use Rattle.lab80_web.specs.Answers.{answer_of, is_more}
use Rattle.lab80_web.specs.Items.{item_of}
use Rattle.lab80_web.specs.Outputs.{Output, OfPost, OfAnswer, IsMessageOf, IsStreamOf, connections_frame}
use Rattle.lab80_web.specs.Session.{slices, last_answer, answer_to, answer_to_call, posts_since, calls_of}
use Rattle.lab80_web.specs.Session.{state_after_item, outputs_of_item, state_after_message}
use Rattle.lab80_web.specs.Session.{state_after_messages, outputs_from}
use Rattle.lab80_web.specs.Serving.{Spells}
use Rattle.lab80_web.specs.Laws.{post_in, calls_in, AreAllMore}
use Rattle.lab80_web.proofs.SessionLemmas.{IsGrown, grown_calls, grown_on, grown_same, since_is, since_same}
use Rattle.lab80_web.proofs.SessionLemmas.{no_slices, slices_on, slices_over, last_on, last_none, more_is}

-- ---- one output

pub one_spelling : (read : Bytes) (m n : Messages) (e f : PeerFault) → Spells read m e → Spells read n f
    → m ≡ n
one_spelling read m n e f a b =
    (one_state a.decoder b.decoder read m n (a.role ∙ sym b.role) a.reads b.reads).0

one_message : (output : Output) (a b : Frames) → IsMessageOf output a → IsMessageOf output b → a ≡ b
one_message (OfPost post) a b (r, x, e) (q, y, f) =
    e ∙ ap (λ (frames : Frames). codes "post" ∷ connections_frame post.letter.envelope.to ∷ frames)
    (one_rendering [] (codes "lab80-web") post r q x y) ∙ sym f
one_message (OfAnswer a) x y e f = e ∙ sym f

pub one_stream : (outputs : List Output) (a b : Bytes) → IsStreamOf outputs a → IsStreamOf outputs b → a ≡ b
unfolding IsStreamOf
one_stream [] a b e f = e ∙ sym f
one_stream (o ∷ outputs) a b (x, r, m, s, e) (y, q, n, t, f) =
    e ∙ ap (λ (frames : Frames). message_bytes frames ++ r) (one_message o x y m n)
    ∙ ap (λ (others : Bytes). message_bytes y ++ others) (one_stream outputs r q s t) ∙ sym f

-- ---- the kernel's calls and posts

pub calls_fold : (messages : Messages) (s : KernelState)
    → state_after_messages s messages ≡ fold next s (calls_in messages s)
calls_fold [] s = refl
calls_fold (frames ∷ messages) s =
    calls_fold messages (state_after_message s frames)
    ∙ sym (fold-append next s (calls_of (item_of frames) s)
    (calls_in messages (state_after_message s frames)))

posts_back : (posts : List Post) → filter_map post_in (map OfPost posts) ≡ posts
posts_back [] = refl
posts_back (p ∷ posts) = ap (λ (l : List Post). p ∷ l) (posts_back posts)

posts_of_item : (i : Item) (s : KernelState)
    → filter_map post_in (outputs_of_item i s) ≡ posts_since s (state_after_item i s)
posts_of_item i s =
    filter_map-append post_in (map OfPost (posts_since s (state_after_item i s)))
    (OfAnswer (answer_to i s) ∷ [])
    ∙ append-nil _ ∙ posts_back (posts_since s (state_after_item i s))

grown_messages : (messages : Messages) (s : KernelState) → IsGrown s (state_after_messages s messages)
grown_messages [] s = grown_same s
grown_messages (frames ∷ messages) s =
    let mid = state_after_message s frames in
    grown_on s mid (state_after_messages mid messages) (grown_calls (calls_of (item_of frames) s) s)
    (grown_messages messages mid)

-- the posts of a session are those that its state has more
posts_from : (messages : Messages) (s : KernelState)
    → s.posts ++ filter_map post_in (outputs_from s messages) ≡ (state_after_messages s messages).posts
posts_from [] s = append-nil s.posts
posts_from (frames ∷ messages) s =
    let i = item_of frames in
    let mid = state_after_message s frames in
    let (more, is) = grown_calls (calls_of i s) s in
    ap (λ (l : List Post). s.posts ++ l)
    (filter_map-append post_in (outputs_of_item i s) (outputs_from mid messages)
    ∙ ap (λ (l : List Post). l ++ filter_map post_in (outputs_from mid messages))
    (posts_of_item i s ∙ since_is s mid more is))
    ∙ sym (append_assoc s.posts more _)
    ∙ ap (λ (l : List Post). l ++ filter_map post_in (outputs_from mid messages)) (sym is)
    ∙ posts_from messages mid

pub all_posts : (messages : Messages) → filter_map post_in (outputs_from kernel_before_calls messages)
    ≡ (state_after (calls_in messages kernel_before_calls)).posts
all_posts messages =
    posts_from messages kernel_before_calls
    ∙ ap (λ (s : KernelState). s.posts) (calls_fold messages kernel_before_calls)

-- ---- runs

-- if a run of so many Slices is answered that there is more, each of them was, and all were made
abbrev MoreIsOfAll : ℕ → ℕ → KernelState → Type 0
MoreIsOfAll t n s =
    last_answer answer.More (slices t n s) s ≡ answer.More
    → AreAllMore (slices t n s) s × (length (slices t n s) ≡ n)

one_more : (t n : ℕ) (s : KernelState) (b : Bool) → is_more (answer_to_call (Slice t) s) ≡ b
    → MoreIsOfAll t n (next s (Slice t)) → MoreIsOfAll t (suc n) s
one_more t n s true h on = λ e.
    let mid = next s (Slice t) in
    let here = slices_on t n s h in
    let is = more_is _ h in
    let last : last_answer answer.More (slices t n mid) mid ≡ answer.More =
    ap (λ a. last_answer a (slices t n mid) mid) (sym is)
    ∙ sym (ap (λ calls. last_answer answer.More calls s) here ∙ last_on answer.More (Slice t) _ s) ∙ e in
    rw here ((is, (on last).0), ap suc (on last).1)
one_more t n s false h on = λ e.
    let last : last_answer answer.More (slices t (suc n) s) s ≡ answer_to_call (Slice t) s =
    ap (λ calls. last_answer answer.More calls s) (slices_over t n s h)
    ∙ last_on answer.More (Slice t) [] s ∙ last_none _ (next s (Slice t)) in
    absurd (false≢true (sym h ∙ ap is_more (sym last ∙ e)))

all_more : (t n : ℕ) (s : KernelState) → MoreIsOfAll t n s
all_more t zero s = λ e. rw (no_slices t s) (tt, refl)
all_more t (suc n) s =
    one_more t n s (is_more (answer_to_call (Slice t) s)) refl (all_more t n (next s (Slice t)))

more_last : (calls : List Call) (s : KernelState) → AreAllMore calls s
    → last_answer answer.More calls s ≡ answer.More
more_last [] s all = last_none answer.More s
more_last (call ∷ calls) s all =
    last_on answer.More call calls s ∙ ap (λ a. last_answer a calls (next s call)) all.0
    ∙ more_last calls (next s call) all.1

pub run_is_more : (s : KernelState) (t count : ℕ) → (answer_to (item.Run t count) s ≡ answer.More)
    ↔ AreAllMore (calls_of (item.Run t count) s) s
run_is_more s t count = (λ e. (all_more t count s e).0, more_last (slices t count s) s)

pub run_is_whole : (s : KernelState) (t count : ℕ) → answer_to (item.Run t count) s ≡ answer.More
    → length (calls_of (item.Run t count) s) ≡ count
run_is_whole s t count e = (all_more t count s e).1

-- ---- after a shutdown

pub shut_run : (s : KernelState) (t count : ℕ) → s.is_shut ≡ true → 0 < count
    → outputs_of_item (item.Run t count) s ≡ OfAnswer answer.Ended ∷ []
shut_run s t zero is h = absurd (omega arith)
shut_run s t (suc count) is h =
    let shut = when_shut s is in
    let ended = ap answer_of (shut.answer t) in
    let one = slices_over t count s (ap is_more ended) in
    let state : state_after_item (item.Run t (suc count)) s ≡ s = ap (fold next s) one ∙ shut.state t in
    let last : answer_to (item.Run t (suc count)) s ≡ answer.Ended =
    ap (λ calls. last_answer answer.More calls s) one ∙ last_on answer.More (Slice t) [] s
    ∙ last_none _ (next s (Slice t)) ∙ ended in
    rw (state, last, since_same s) refl
