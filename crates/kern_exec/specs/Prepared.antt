-- What is allocated before the board runs: buffers, and the envelopes of the letters of `Ends.antt`.
use Rattle.std.specs.Prelude.{◌≡◌, ◌≤◌, [], ◌∷◌, codes, vec_capacity}
use Rattle.base_text.specs.Bytes.{Bytes}
use Rattle.kern_post.specs.declared.content.Content.TheVariants as content
use Rattle.kern_post.specs.declared.content.ExecutionState.TheVariants.{Busy, Idle}
use Rattle.kern_peers.specs.Connections.{Connections}
use Rattle.kern_exec.specs.declared.execution.Current.{Current}
use Rattle.kern_exec.specs.declared.ends.PreparedEnd.{PreparedEnd}
use Rattle.kern_exec.specs.declared.letters.BusyIdle.{BusyIdle}
use Rattle.kern_exec.specs.declared.slices.PreparedSlice.{PreparedSlice}
use Rattle.kern_exec.specs.declared.cells.PreparedLoading.{PreparedLoading}
use Rattle.kern_exec.specs.Letters.{published_under, publication, reply_envelope}
use Rattle.kern_exec.specs.Ends.{input_letters, line_envelope}

-- a is busy and idle for the request with this header
pub record IsBusyIdle (connections : Connections) (parent : Bytes) (a : BusyIdle) : Type 0 where
  pub letters : a.letters ≡ publication connections parent (content.Status Busy) ∷ []
  pub idle : a.idle ≡ publication connections parent (content.Status Idle)

-- the envelopes for the end of an execution
abbrev pub prepared_end : Connections → Current → PreparedEnd
prepared_end connections c = record {
  error = published_under connections c.execution.header (codes "error");
  reply = reply_envelope c.execution.connection c.execution.identities c.execution.header;
  idle = published_under connections c.execution.header (codes "status");
  is_silent = c.execution.request.is_silent;
  count = c.count;
}

-- k is what a slice of the execution needs, with a buffer for its output to the console
pub record IsPreparedSlice (connections : Connections) (c : Current) (k : PreparedSlice) : Type 0 where
  pub letters : k.letters ≡ []
  pub text : k.text.items ≡ []
  pub room : 4096 ≤ vec_capacity k.text
  pub stream : k.stream ≡ published_under connections c.execution.header (codes "stream")
  pub line : k.line ≡ line_envelope connections c
  pub stopped : k.stopped ≡ published_under connections c.execution.header (codes "debug_event")
  pub end : k.end ≡ prepared_end connections c

-- k is what loading the execution's cell needs
pub record IsPreparedLoading (connections : Connections) (c : Current) (k : PreparedLoading) : Type 0 where
  pub letters : k.letters
      ≡ publication connections c.execution.header (content.Status Busy) ∷ input_letters connections c
  pub end : k.end ≡ prepared_end connections c
