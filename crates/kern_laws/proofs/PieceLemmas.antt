-- The letters of an execution, seen by what looks for one kind of them.
use Rattle.std.proofs.Common.{◌≡◌, ◌∙◌, List, [], ◌∷◌, ◌++◌, Bool, true, false, Option, Some, None, refl}
use Rattle.std.proofs.Common.{ap, filter_map}
use Rattle.std.proofs.lemmas.List.Elements.{filter_map-append}
use Rattle.std.specs.List.{list_any, cons_option}
use Rattle.base_text.specs.Bytes.{Bytes}
use Rattle.i80_base.specs.declared.ports.PortOperation.{PortOperation}
use Rattle.i80_devs.specs.Console.{written_to_console, wants_line}
use Rattle.lab_core.specs.declared.answer.SliceOutcome.{SliceOutcome}
use Rattle.kern_peers.specs.Connections.{Connections}
use Rattle.kern_post.specs.declared.content.Cause.{Cause}
use Rattle.kern_post.specs.declared.content.Content.TheVariants as content
use Rattle.kern_post.specs.declared.content.Ending.{Ending}
use Rattle.kern_post.specs.declared.content.Ending.TheVariants.{Done, Failed}
use Rattle.kern_post.specs.declared.content.ExecutionState.{ExecutionState}
use Rattle.kern_post.specs.declared.content.ExecutionState.TheVariants.{Busy, Idle}
use Rattle.kern_post.specs.declared.post.Envelope.{Envelope}
use Rattle.kern_post.specs.declared.post.Letter.{Letter}
use Rattle.kern_exec.specs.declared.execution.Current.{Current}
use Rattle.kern_exec.specs.declared.loading.Loading.{Loading}
use Rattle.kern_exec.specs.Ends.{error_letters, end_letters, input_letters, end_of_loading, loading_letters}
use Rattle.kern_exec.specs.Ends.{stream_letters, line_envelope, input_requests, outcome_letters}
use Rattle.kern_exec.specs.Ends.{slice_letters}
use Rattle.kern_exec.specs.Letters.{publication, reply_letter, between_busy_and_idle}
use Rattle.kern_laws.proofs.CaseLemmas.{either}

pub append-nil : {A : Type 0} (xs : List A) → xs ++ [] ≡ xs
append-nil [] = refl
append-nil (x ∷ xs) = ap (λ rest. x ∷ rest) (append-nil xs)

-- f passes over statuses, output, requests for input and errors
pub record PassesOver {A : Type 0} (f : Letter → Option A) : Type 0 where
  pub status : (e : Envelope) (state : ExecutionState)
      → f (record { envelope = e; content = content.Status state }) ≡ None
  pub stream : (e : Envelope) (bytes : Bytes)
      → f (record { envelope = e; content = content.Stream bytes }) ≡ None
  pub request : (e : Envelope) → f (record { envelope = e; content = content.InputRequest }) ≡ None
  pub error : (e : Envelope) (c : Cause) → f (record { envelope = e; content = content.Error c }) ≡ None

-- nothing is found in them
abbrev FindsNone : {A : Type 0} → (Letter → Option A) → List Letter → Type 0
FindsNone f letters = filter_map f letters ≡ []

none_of_one : {A : Type 0} (f : Letter → Option A) (l : Letter) → f l ≡ None → FindsNone f (l ∷ [])
none_of_one f l is = ap (λ o. cons_option o []) is

none_in_both : {A : Type 0} (f : Letter → Option A) (xs ys : List Letter) → FindsNone f xs
    → filter_map f (xs ++ ys) ≡ filter_map f ys
none_in_both f xs ys none = filter_map-append f xs ys ∙ ap (λ found. found ++ filter_map f ys) none

none_behind : {A : Type 0} (f : Letter → Option A) (xs ys : List Letter) → FindsNone f ys
    → filter_map f (xs ++ ys) ≡ filter_map f xs
none_behind f xs ys none =
    filter_map-append f xs ys ∙ (ap (λ found. filter_map f xs ++ found) none ∙ append-nil (filter_map f xs))

-- between busy and idle
pub found_between : {A : Type 0} (f : Letter → Option A) (passes : PassesOver f) (connections : Connections)
    (parent : Bytes) (letters : List Letter)
    → filter_map f (between_busy_and_idle connections parent letters) ≡ filter_map f letters
found_between f passes connections parent letters =
    let ended = letters ++ publication connections parent (content.Status Idle) ∷ [] in
    ap (λ o. cons_option o (filter_map f ended)) (passes.status _ Busy)
    ∙ none_behind f letters _ (none_of_one f _ (passes.status _ Idle))

none_in_stream : {A : Type 0} (f : Letter → Option A) (passes : PassesOver f) (connections : Connections)
    (c : Current) (bytes : Bytes)
    → FindsNone f (stream_letters connections c bytes)
none_in_stream f passes connections c [] = refl
none_in_stream f passes connections c (byte ∷ bytes) =
    either (FindsNone f) c.execution.request.is_silent _ _ refl (none_of_one f _ (passes.stream _ _))

none_in_requests : {A : Type 0} (f : Letter → Option A) (passes : PassesOver f) (o : Option Envelope)
    (wants : Bool)
    → FindsNone f (input_requests o wants)
none_in_requests f passes None wants = refl
none_in_requests f passes (Some e) wants =
    either (FindsNone f) wants _ _ (none_of_one f _ (passes.request e)) refl

none_in_errors : {A : Type 0} (f : Letter → Option A) (passes : PassesOver f) (is_silent : Bool)
    (connections : Connections) (parent : Bytes) (ending : Ending)
    → FindsNone f (error_letters is_silent connections parent ending)
none_in_errors f passes true connections parent ending = refl
none_in_errors f passes false connections parent Done = refl
none_in_errors f passes false connections parent (Failed c) = none_of_one f _ (passes.error _ c)

-- only the reply can be found at an execution's end
pub found_at_end : {A : Type 0} (f : Letter → Option A) (passes : PassesOver f) (connections : Connections)
    (c : Current) (ending : Ending)
    → filter_map f (end_letters connections c ending)
    ≡ cons_option (f (reply_letter c.execution.connection c.execution.identities c.execution.header
    (content.ExecuteReply c.count ending))) []
found_at_end f passes connections c ending =
    none_in_both f (error_letters c.execution.request.is_silent connections c.execution.header ending) _
    (none_in_errors f passes c.execution.request.is_silent connections c.execution.header ending)
    ∙ ap (λ rest. cons_option (f (reply_letter c.execution.connection c.execution.identities
    c.execution.header (content.ExecuteReply c.count ending))) rest)
    (none_of_one f (publication connections c.execution.header (content.Status Idle)) (passes.status _ Idle))

-- only the letters of its outcome can be found in a slice
pub found_in_slice : {A : Type 0} (f : Letter → Option A) (passes : PassesOver f) (connections : Connections)
    (c : Current) (traffic : List PortOperation) (ending : SliceOutcome)
    → filter_map f (slice_letters connections c traffic ending)
    ≡ filter_map f (outcome_letters connections c ending)
found_in_slice f passes connections c traffic ending =
    let bytes = filter_map written_to_console traffic in
    let asks = input_requests (line_envelope connections c) (list_any wants_line traffic) in
    none_in_both f (stream_letters connections c bytes) _ (none_in_stream f passes connections c bytes)
    ∙ none_in_both f asks _ (none_in_requests f passes (line_envelope connections c) _)

-- only its execute_input and its reply can be found when a cell is loaded
pub found_in_loading : {A : Type 0} (f : Letter → Option A) (passes : PassesOver f)
    (connections : Connections) (c : Current) (loading : Loading)
    → filter_map f (loading_letters connections c loading)
    ≡ filter_map f (input_letters connections c) ++ filter_map f (end_of_loading connections c loading)
found_in_loading f passes connections c loading =
    ap (λ o. cons_option o
    (filter_map f (input_letters connections c ++ end_of_loading connections c loading)))
    (passes.status _ Busy)
    ∙ filter_map-append f (input_letters connections c) (end_of_loading connections c loading)
