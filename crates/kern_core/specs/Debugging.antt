-- What a debug request allocates before the board is asked.
use Rattle.std.specs.Prelude.{◌≡◌, ℕ, List}
use Rattle.dap_talk.specs.declared.command.DapRequest.{DapRequest}
use Rattle.dap_talk.specs.Table.{name_of, spelling_of}
use Rattle.kern_request.specs.declared.request.Request.{Request}
use Rattle.kern_peers.specs.Connections.{Connections}
use Rattle.kern_post.specs.declared.post.Letter.{Letter}
use Rattle.kern_exec.specs.Letters.{reply_envelope, between_busy_and_idle}
use Rattle.kern_exec.specs.Prepared.{IsBusyIdle}
use Rattle.kern_core.specs.declared.state.debug.PreparedDebugReply.{PreparedDebugReply}

-- k is the reply to the request, but for its outcome
pub record IsPreparedDebugReply (connections : Connections) (n : ℕ) (r : Request) (d : DapRequest)
    (k : PreparedDebugReply) : Type 0 where
  pub busy_idle : IsBusyIdle connections r.header k.busy_idle
  pub envelope : k.envelope ≡ reply_envelope n r.identities r.header
  pub request_seq : k.request_seq ≡ d.seq
  pub command : k.command ≡ spelling_of (name_of d.command)

-- for whichever request k was prepared, the letters are busy, those of the content, and idle
abbrev pub AnswersWith : PreparedDebugReply → (ℕ → Request → DapRequest → List Letter) → List Letter
    → Type 0
AnswersWith k content letters =
    (connections : Connections) (n : ℕ) (r : Request) (d : DapRequest)
    → IsPreparedDebugReply connections n r d k
    → letters ≡ between_busy_and_idle connections r.header (content n r d)
