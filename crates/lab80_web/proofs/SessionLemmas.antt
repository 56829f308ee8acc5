-- Runs, call by call, and sessions, message by message.
use Rattle.std.proofs.Common.{◌≡◌, ◌∙◌, ℕ, suc, ◌+◌, ◌-◌, ◌<◌, ◌≤◌, List, [], ◌∷◌, ◌++◌, length, drop, map}
use Rattle.std.proofs.Common.{if◌then◌else◌, true, false, Ok, Err, refl, sym, ap, subst, arith, append_assoc}
use Rattle.std.proofs.Common.{append-nil, fold}
use Rattle.std.proofs.lemmas.List.{map-append}
use Rattle.std.proofs.lemmas.List.Sums.{fold-append}
use Rattle.std.proofs.Math.Seq.{drop-append_seam, drop-length}
use Rattle.std.proofs.lemmas.Bool.{false≢true}
use Rattle.base_streams.specs.States.{OutletState, IsWritable}
use Rattle.zmtp_wire.specs.Wire.{Frames, Messages}
use Rattle.zmtp_wire.specs.Ends.{Refuses}
use Rattle.zmtp_wire.specs.declared.peer_fault.PeerFault.{PeerFault}
use Rattle.kern_post.specs.declared.post.Post.{Post}
use Rattle.kern_post.specs.Posts.{as_posts}
use Rattle.kern_calls.specs.declared.call.Call.{Call}
use Rattle.kern_calls.specs.declared.call.Call.TheVariants.{Slice}
use Rattle.kern_core.specs.States.{KernelState}
use Rattle.kern_core.specs.Turns.{turn, next}
use Rattle.kern_core.specs.Represents.{KernelFields, RepresentsKernel}
use Rattle.kern_laws.proofs.HistoryLemmas.{kept_posts}
use Rattle.lab80_web.specs.declared.answer.Answer.{Answer}
use Rattle.lab80_web.specs.declared.answer.Answer.TheVariants as answer
use Rattle.lab80_web.specs.Items.{item_of}
use Rattle.lab80_web.specs.Outputs.{Output, OfPost, WroteAll, WrotePrefix}
use Rattle.lab80_web.specs.Answers.{is_more}
use Rattle.lab80_web.specs.Session.{answer_to_call, slices, last_answer, posts_since}
use Rattle.lab80_web.specs.Session.{outputs_of_item, state_after_message, state_after_messages, outputs_from}
use Rattle.lab80_web.specs.Steps.{HasEffect, effect_of_call, server, AnswersMessages}
use Rattle.lab80_web.proofs.OutputLemmas.{wrote_none, wrote_on, began_on, began_more}

-- ---- posts are only added

abbrev pub IsGrown : KernelState → KernelState → Type 0
IsGrown s t = (more : List Post) × (t.posts ≡ s.posts ++ more)

pub grown_same : (s : KernelState) → IsGrown s s
grown_same s = ([], sym (append-nil s.posts))

pub grown_next : (call : Call) (s : KernelState) → IsGrown s (next s call)
grown_next call s =
    let t = turn call s in
    let more = as_posts (length t.state.posts) t.unix_seconds t.letters in
    (more, ap (λ (posts : List Post). posts ++ more) (kept_posts call s))

pub grown_on : (s t u : KernelState) → IsGrown s t → IsGrown t u → IsGrown s u
grown_on s t u (m, e) (n, f) = (
  m ++ n,
  f ∙ ap (λ (posts : List Post). posts ++ n) e ∙ append_assoc s.posts m n,
)

pub grown_calls : (calls : List Call) (s : KernelState) → IsGrown s (fold next s calls)
grown_calls [] s = grown_same s
grown_calls (call ∷ calls) s =
    grown_on s (next s call) (fold next (next s call) calls) (grown_next call s)
    (grown_calls calls (next s call))

pub since_is : (s t : KernelState) (more : List Post) → t.posts ≡ s.posts ++ more → posts_since s t ≡ more
since_is s t more e = ap (drop (length s.posts)) e ∙ drop-append_seam s.posts more

pub since_same : (s : KernelState) → posts_since s s ≡ []
since_same s = drop-length s.posts

since_on : (s t u : KernelState) → IsGrown s t → IsGrown t u
    → map OfPost (posts_since s u) ≡ map OfPost (posts_since s t) ++ map OfPost (posts_since t u)
since_on s t u (m, e) (n, f) =
    let whole : u.posts ≡ s.posts ++ (m ++ n) =
    f ∙ ap (λ (posts : List Post). posts ++ n) e ∙ append_assoc s.posts m n in
    rw (since_is s u (m ++ n) whole, since_is s t m e, since_is t u n f) (map-append OfPost m n)

-- ---- the Slices of a run

pub no_slices : (t : ℕ) (s : KernelState) → slices t 0 s ≡ []
unfolding slices
no_slices t s = refl

pub slices_on : (t n : ℕ) (s : KernelState) → is_more (answer_to_call (Slice t) s) ≡ true
    → slices t (suc n) s ≡ Slice t ∷ slices t n (next s (Slice t))
unfolding slices
slices_on t n s more = rw more refl

slices_first : (t n : ℕ) (s : KernelState) → (rest : List Call) × (slices t (suc n) s ≡ Slice t ∷ rest)
unfolding slices
slices_first t n s =
    (if is_more (answer_to_call (Slice t) s) then slices t n (next s (Slice t)) else [], refl)

pub slices_over : (t n : ℕ) (s : KernelState) → is_more (answer_to_call (Slice t) s) ≡ false
    → slices t (suc n) s ≡ Slice t ∷ []
unfolding slices
slices_over t n s over = rw over refl

pub last_none : (a : Answer) (s : KernelState) → last_answer a [] s ≡ a
unfolding last_answer
last_none a s = refl

pub last_on : (a : Answer) (call : Call) (calls : List Call) (s : KernelState)
    → last_answer a (call ∷ calls) s ≡ last_answer (answer_to_call call s) calls (next s call)
unfolding last_answer
last_on a call calls s = refl

-- so many Slices of a run were made, each answered that there is more, and their posts were written
pub record UnderWay (t count made : ℕ) (s : KernelState) (old : OutletState) (kernel : KernelFields)
    (outlet : OutletState) : Type 0 where
  pub state : KernelState
  pub represents : RepresentsKernel kernel state
  pub grown : IsGrown s state
  pub wrote : WroteAll old outlet (map OfPost (posts_since s state))
  pub writable : IsWritable outlet
  pub after : fold next s (slices t count s) ≡ fold next state (slices t (count - made) state)
  pub answer : last_answer answer.More (slices t count s) s
      ≡ last_answer answer.More (slices t (count - made) state) state

pub run_first : (t count : ℕ) (s : KernelState) (kernel : KernelFields) (outlet : OutletState)
    → RepresentsKernel kernel s → IsWritable outlet → UnderWay t count 0 s outlet kernel outlet
run_first t count s kernel outlet r w =
    let left : count ≡ count - 0 = omega arith in
    record {
      state = s;
      represents = r;
      grown = grown_same s;
      wrote = rw since_same (wrote_none outlet);
      writable = w;
      after = ap (λ n. fold next s (slices t n s)) left;
      answer = ap (λ n. last_answer answer.More (slices t n s) s) left;
    }

left_suc : (count made : ℕ) → made < count → count - made ≡ suc (count - (made + 1))
left_suc count made h = omega arith

pub more_is : (a : Answer) → is_more a ≡ true → a ≡ answer.More
more_is answer.More e = refl
more_is (answer.Joined n) e = absurd (false≢true e)
more_is answer.Left e = absurd (false≢true e)
more_is answer.Subscribed e = absurd (false≢true e)
more_is answer.Arrived e = absurd (false≢true e)
more_is answer.Idle e = absurd (false≢true e)
more_is answer.Ended e = absurd (false≢true e)
more_is (answer.Refused why) e = absurd (false≢true e)

-- one more Slice
pub run_on : (t count made : ℕ) (s : KernelState) (old : OutletState) (k k' : KernelFields)
    (o o' : OutletState) (a : Answer) → made < count → is_more a ≡ true
    → HasEffect (effect_of_call (Slice t)) (server k o) (server k' o') (Ok a)
    → UnderWay t count made s old k o → UnderWay t count (made + 1) s old k' o'
run_on t count made s old k k' o o' a below goes effect u =
    let is : a ≡ answer.More = more_is a goes in
    let call = Slice t in
    let e = effect u.state u.represents in
    let more : is_more (answer_to_call call u.state) ≡ true = ap is_more (sym e.1.0 ∙ is) in
    let here : slices t (count - made) u.state ≡ call ∷ slices t (count - (made + 1)) (next u.state call) =
    ap (λ n. slices t n u.state) (left_suc count made below) ∙ slices_on t _ u.state more in
    let grown = grown_next call u.state in
    record {
      state = next u.state call;
      represents = e.1.1;
      grown = grown_on s u.state (next u.state call) u.grown grown;
      wrote = rw (since_on s u.state (next u.state call) u.grown grown)
          (wrote_on old o o' _ _ u.wrote e.0.0);
      writable = e.0.1;
      after = u.after ∙ ap (fold next u.state) here;
      answer =
          u.answer ∙ ap (λ calls. last_answer answer.More calls u.state) here
          ∙ last_on answer.More call _ u.state
          ∙ ap (λ a. last_answer a (slices t (count - (made + 1)) (next u.state call)) (next u.state call))
          (sym e.1.0 ∙ is);
    }

-- all were made
pub run_all : (t count made : ℕ) (s : KernelState) (old : OutletState) (k : KernelFields) (o : OutletState)
    → count ≤ made → UnderWay t count made s old k o
    → WroteAll old o (map OfPost (posts_since s (fold next s (slices t count s)))) × IsWritable o
    × ((answer.More ≡ last_answer answer.More (slices t count s) s)
    × RepresentsKernel k (fold next s (slices t count s)))
run_all t count made s old k o all u =
    let none : slices t (count - made) u.state ≡ [] =
    ap (λ n. slices t n u.state) (let z : count - made ≡ 0 = omega arith in z) ∙ no_slices t u.state in
    let after : fold next s (slices t count s) ≡ u.state = u.after ∙ ap (fold next u.state) none in
    let last : last_answer answer.More (slices t count s) s ≡ answer.More =
    u.answer ∙ ap (λ calls. last_answer answer.More calls u.state) none ∙ last_none answer.More u.state in
    (rw after u.wrote, u.writable, (sym last, rw after u.represents))

-- the last Slice is answered otherwise
pub run_over : (t count made : ℕ) (s : KernelState) (old : OutletState) (k k' : KernelFields)
    (o o' : OutletState) (a : Answer) → made < count → is_more a ≡ false
    → HasEffect (effect_of_call (Slice t)) (server k o) (server k' o') (Ok a)
    → UnderWay t count made s old k o
    → WroteAll old o' (map OfPost (posts_since s (fold next s (slices t count s)))) × IsWritable o'
    × ((a ≡ last_answer answer.More (slices t count s) s)
    × RepresentsKernel k' (fold next s (slices t count s)))
run_over t count made s old k k' o o' a below over effect u =
    let call = Slice t in
    let e = effect u.state u.represents in
    let less : is_more (answer_to_call call u.state) ≡ false = ap is_more (sym e.1.0) ∙ over in
    let here : slices t (count - made) u.state ≡ call ∷ [] =
    ap (λ n. slices t n u.state) (left_suc count made below) ∙ slices_over t _ u.state less in
    let after : fold next s (slices t count s) ≡ next u.state call = u.after ∙ ap (fold next u.state) here in
    let last : last_answer answer.More (slices t count s) s ≡ answer_to_call call u.state =
    u.answer ∙ ap (λ calls. last_answer answer.More calls u.state) here
    ∙ last_on answer.More call [] u.state ∙ last_none _ (next u.state call) in
    let grown = grown_next call u.state in (
      rw (after, since_on s u.state (next u.state call) u.grown grown) (wrote_on old o o' _ _ u.wrote e.0.0),
      e.0.1,
      (e.1.0 ∙ sym last, rw after e.1.1),
    )

-- the next one wasn't made, or its posts weren't all written
pub run_cut : (t count made : ℕ) (s : KernelState) (old : OutletState) (k k' : KernelFields)
    (o o' : OutletState) (fault : PeerFault) → made < count
    → HasEffect (effect_of_call (Slice t)) (server k o) (server k' o') (Err fault)
    → UnderWay t count made s old k o
    → WrotePrefix old o' (map OfPost (posts_since s (fold next s (slices t count s)))) × Refuses fault o'
run_cut t count made s old k k' o o' fault below effect u =
    let call = Slice t in
    let e = effect u.state u.represents in
    let first = slices_first t (count - (made + 1)) u.state in
    let here : slices t (count - made) u.state ≡ call ∷ first.0 =
    ap (λ n. slices t n u.state) (left_suc count made below) ∙ first.1 in
    let mid = next u.state call in
    let end = fold next mid first.0 in
    let after : fold next s (slices t count s) ≡ end = u.after ∙ ap (fold next u.state) here in
    let grown = grown_next call u.state in
    let on = grown_calls first.0 mid in
    let outputs : map OfPost (posts_since s end) ≡ map OfPost (posts_since s u.state)
    ++ (map OfPost (posts_since u.state mid) ++ map OfPost (posts_since mid end)) =
    since_on s u.state end u.grown (grown_on u.state mid end grown on)
    ∙ ap (λ l. map OfPost (posts_since s u.state) ++ l) (since_on u.state mid end grown on) in
    (rw (after, outputs) (began_on old o o' _ _ u.wrote (began_more o o' _ _ e.0.0)), e.0.1)

-- ---- messages

-- so many messages were answered, and these are left
pub record Answering (s : KernelState) (all left : Messages) (old : OutletState) (kernel : KernelFields)
    (outlet : OutletState) : Type 0 where
  pub state : KernelState
  pub represents : RepresentsKernel kernel state
  pub writable : IsWritable outlet
  pub outputs : List Output
  pub wrote : WroteAll old outlet outputs
  pub all_are : outputs_from s all ≡ outputs ++ outputs_from state left
  pub after : state_after_messages s all ≡ state_after_messages state left

pub answering_first : (s : KernelState) (all left : Messages) (kernel : KernelFields) (outlet : OutletState)
    → left ≡ all → RepresentsKernel kernel s → IsWritable outlet → Answering s all left outlet kernel outlet
answering_first s all left kernel outlet is r w = record {
  state = s;
  represents = r;
  writable = w;
  outputs = [];
  wrote = wrote_none outlet;
  all_are = ap (outputs_from s) (sym is);
  after = ap (state_after_messages s) (sym is);
}

pub answering_on : (s : KernelState) (all here left : Messages) (frames : Frames) (old : OutletState)
    (k k' : KernelFields) (o o' : OutletState) → here ≡ frames ∷ left
    → AnswersMessages (frames ∷ []) (server k o) (server k' o') (Ok tt)
    → Answering s all here old k o → Answering s all left old k' o'
answering_on s all here left frames old k k' o o' is answers a =
    let e = answers a.state a.represents in
    let item_outputs = outputs_of_item (item_of frames) a.state in
    record {
      state = state_after_message a.state frames;
      represents = e.1;
      writable = e.0.1;
      outputs = a.outputs ++ (item_outputs ++ []);
      wrote = wrote_on old o o' _ _ a.wrote e.0.0;
      all_are = a.all_are ∙ ap (λ l. a.outputs ++ outputs_from a.state l) is
          ∙ ap (λ l. a.outputs ++ (l ++ outputs_from (state_after_message a.state frames) left))
          (sym (append-nil item_outputs)) ∙ sym (append_assoc a.outputs (item_outputs ++ []) _);
      after = a.after ∙ ap (state_after_messages a.state) is;
    }

pub answering_all : (s : KernelState) (all : Messages) (old : OutletState) (k : KernelFields)
    (o : OutletState) → Answering s all [] old k o
    → WroteAll old o (outputs_from s all) × IsWritable o × RepresentsKernel k (state_after_messages s all)
answering_all s all old k o a =
    (rw (a.all_are, append-nil a.outputs) a.wrote, a.writable, rw a.after a.represents)

pub answering_cut : (s : KernelState) (all here left : Messages) (frames : Frames) (old : OutletState)
    (k k' : KernelFields) (o o' : OutletState) (fault : PeerFault) → here ≡ frames ∷ left
    → AnswersMessages (frames ∷ []) (server k o) (server k' o') (Err fault)
    → Answering s all here old k o
    → WrotePrefix old o' (outputs_from s all) × Refuses fault o'
answering_cut s all here left frames old k k' o o' fault is answers a =
    let e = answers a.state a.represents in
    let item_outputs = outputs_of_item (item_of frames) a.state in
    let others = outputs_from (state_after_message a.state frames) left in
    let one : item_outputs ++ [] ≡ item_outputs = append-nil item_outputs in
    let P : List Output → Type 0 = λ l. WrotePrefix o o' l in
    let front = began_more o o' item_outputs others (subst P one e.0.0) in
    (rw (a.all_are, is) (began_on old o o' _ _ a.wrote front), e.0.1)

-- messages, and then more of them
pub outputs_on : (s : KernelState) (m n : Messages)
    → outputs_from s (m ++ n) ≡ outputs_from s m ++ outputs_from (state_after_messages s m) n
outputs_on s [] n = refl
outputs_on s (frames ∷ m) n =
    ap (λ l. outputs_of_item (item_of frames) s ++ l) (outputs_on (state_after_message s frames) m n)
    ∙ sym (append_assoc (outputs_of_item (item_of frames) s) _ _)

pub state_on : (s : KernelState) (m n : Messages)
    → state_after_messages s (m ++ n) ≡ state_after_messages (state_after_messages s m) n
state_on s m n = fold-append state_after_message s m n
