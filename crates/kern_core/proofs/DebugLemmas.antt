-- Debug requests: the reset of the board, and the other commands.
use Rattle.std.proofs.Common.{◌≡◌, ◌≢◌, ◌∙◌, ℕ, List, [], ◌∷◌, ◌++◌, true, false, Result}
use Rattle.std.proofs.Common.{Ok, Err, refl, ap, subst}
use Rattle.std.proofs.lemmas.Bool.{false≢true}
use Rattle.lab_core.specs.Events.{reset}
use Rattle.dap_talk.specs.declared.command.DapCommand.{DapCommand}
use Rattle.dap_talk.specs.declared.command.DapCommand.TheVariants as command
use Rattle.dap_talk.specs.declared.command.DapRequest.{DapRequest}
use Rattle.dap_answers.specs.declared.answer.Body.{Body}
use Rattle.dap_answers.specs.declared.answer.Body.TheVariants.{Empty}
use Rattle.dap_answers.specs.declared.answer.Outcome.TheVariants.{Success, Refused}
use Rattle.lab_core.specs.declared.fault.EventFault.{EventFault}
use Rattle.lab_core.specs.declared.fault.EventFault.TheVariants.{OutOfMemory}
use Rattle.lab_core.specs.Board.{Board}
use Rattle.lab_core.specs.Labs.{LabState, RepresentsBoard, MatchesResult, CarriesOut}
use Rattle.dap_board.specs.Names.{event_after}
use Rattle.kern_post.specs.declared.post.Letter.{Letter}
use Rattle.kern_post.specs.Posts.{StoreState, Keeps, with_posts}
use Rattle.kern_request.specs.declared.request.Request.{Request}
use Rattle.dap_board.specs.Commands.{command_result}
use Rattle.kern_exec.specs.Letters.{between_busy_and_idle}
use Rattle.kern_post.specs.declared.content.Cause.TheVariants as cause
use Rattle.kern_calls.specs.declared.call.Reply.TheVariants.{Arrived}
use Rattle.kern_core.specs.States.{KernelState, Turn, after, posting}
use Rattle.kern_core.specs.Requests.{is_reset, cut_letters, cut_work, with_board, debug_reply}
use Rattle.kern_core.specs.Requests.{after_letter, performed_letters, refusing, answering, performing}
use Rattle.kern_core.specs.Represents.{KernelFields, RepresentsKernel}

abbrev request_with : ℕ → DapCommand → DapRequest
request_with seq c = record { seq = seq; command = c }

abbrev pub resetting : ℕ → Request → DapRequest → ℕ → KernelState → Turn
resetting n r d unix_seconds s = posting Arrived unix_seconds
    (between_busy_and_idle s.connections r.header
    (cut_letters cause.Reset s ++ debug_reply n r d (Success Empty) ∷ []))
    (with_board (reset s.board) (cut_work s) s)

by_command : (n : ℕ) (r : Request) (seq : ℕ) (c : DapCommand) (unix_seconds : ℕ) (s : KernelState)
    → is_reset c ≡ true
    → performing n r (request_with seq c) unix_seconds s ≡ resetting n r (request_with seq c) unix_seconds s
unfolding command_result
by_command n r seq command.BoardReset unix_seconds s is = refl
by_command n r seq _ unix_seconds s is = absurd (false≢true is)

pub by_reset : (n : ℕ) (r : Request) (d : DapRequest) (unix_seconds : ℕ) (s : KernelState)
    → is_reset d.command ≡ true → performing n r d unix_seconds s ≡ resetting n r d unix_seconds s
by_reset n r d unix_seconds s is = by_command n r d.seq d.command unix_seconds s is

-- ---- the other commands

abbrev pub HasArrived : Turn → KernelFields → Type 0
HasArrived t new = (Ok Arrived ≡ t.answer) × RepresentsKernel new (after t)

-- the fields represent a state with this board, and these letters are posted
told_stands : (n : ℕ) (r : Request) (d : DapRequest) (unix_seconds : ℕ) (s : KernelState) (old : KernelFields)
    (lab : LabState) (store : StoreState) (b : Board) (told letters : List Letter)
    → RepresentsKernel old s → RepresentsBoard lab b
    → letters ≡ between_busy_and_idle s.connections r.header told
    → Keeps (with_posts unix_seconds letters s.posts) store
    → HasArrived (posting Arrived unix_seconds (between_busy_and_idle s.connections r.header told)
    (with_board b s.work s))
    (record old { lab = lab; store = store })
told_stands n r d unix_seconds s old lab store b told letters represents board are kept =
    let P : List Letter → Type 0 = λ ls. Keeps (with_posts unix_seconds ls s.posts) store in (
      refl,
      record {
        board = board;
        connections = represents.connections;
        work = represents.work;
        posts = subst P are kept;
        is_shut = represents.is_shut;
      },
    )

pub refused_stands : (n : ℕ) (r : Request) (d : DapRequest) (unix_seconds : ℕ) (s : KernelState)
    (old : KernelFields) (store : StoreState) (message : List ℕ) (letters : List Letter)
    → RepresentsKernel old s
    → letters ≡ between_busy_and_idle s.connections r.header (debug_reply n r d (Refused message) ∷ [])
    → Keeps (with_posts unix_seconds letters s.posts) store
    → HasArrived (refusing n r d message unix_seconds s) (record old { store = store })
refused_stands n r d unix_seconds s old store message letters represents are kept =
    told_stands n r d unix_seconds s old old.lab store s.board (debug_reply n r d (Refused message) ∷ [])
    letters represents represents.board are kept

by_performed : (g : Result (Body × Board) EventFault) (n : ℕ) (r : Request) (d : DapRequest)
    (unix_seconds : ℕ) (s : KernelState) (old : KernelFields) (lab : LabState) (store : StoreState)
    (res : Result Body EventFault) (letters : List Letter)
    → RepresentsKernel old s → is_reset d.command ≡ false → MatchesResult s.board g res lab
    → letters ≡ between_busy_and_idle s.connections r.header
    (performed_letters res (after_letter (event_after d.command) r s) n r d)
    → Keeps (with_posts unix_seconds letters s.posts) store
    → HasArrived (answering n r d unix_seconds s g) (record old { lab = lab; store = store })
by_performed (Ok (body, b)) n r d unix_seconds s old lab store res letters represents other did are kept =
    let after = after_letter (event_after d.command) r s in
    let L : Result Body EventFault → List Letter =
    λ x. between_busy_and_idle s.connections r.header (performed_letters x after n r d) in
    rw other (told_stands n r d unix_seconds s old lab store b (performed_letters (Ok body) after n r d)
    letters represents did.1 (are ∙ ap L did.0) kept)
by_performed (Err fault) n r d unix_seconds s old lab store res letters represents other did are kept =
    let after = after_letter (event_after d.command) r s in
    let L : Result Body EventFault → List Letter =
    λ x. between_busy_and_idle s.connections r.header (performed_letters x after n r d) in
    told_stands n r d unix_seconds s old lab store s.board (performed_letters (Err fault) after n r d) letters
    represents did.1 (are ∙ ap L did.0) kept

pub performed_stands : (n : ℕ) (r : Request) (d : DapRequest) (unix_seconds : ℕ) (s : KernelState)
    (old : KernelFields) (lab : LabState) (store : StoreState) (res : Result Body EventFault)
    (letters : List Letter)
    → RepresentsKernel old s → is_reset d.command ≡ false
    → CarriesOut (command_result d.command) old.lab res lab
    → res ≢ Err OutOfMemory
    → letters ≡ between_busy_and_idle s.connections r.header
    (performed_letters res (after_letter (event_after d.command) r s) n r d)
    → Keeps (with_posts unix_seconds letters s.posts) store
    → HasArrived (performing n r d unix_seconds s) (record old { lab = lab; store = store })
performed_stands n r d unix_seconds s old lab store res letters represents other does want are kept =
    by_performed (command_result d.command s.board) n r d unix_seconds s old lab store res letters represents
    other (does s.board represents.board want) are kept
