-- A kernel without its journal, and what a call does to it.
use Rattle.std.specs.Prelude.{ℕ, List, [], Bool, false, Result, Ok, Err}
use Rattle.lab_core.specs.Board.{Board, opening}
use Rattle.kern_post.specs.declared.post.Letter.{Letter}
use Rattle.kern_post.specs.declared.post.Post.{Post}
use Rattle.kern_post.specs.Posts.{with_posts}
use Rattle.kern_peers.specs.Connections.{Connections, no_connections}
use Rattle.kern_exec.specs.Executions.{Work, nothing}
use Rattle.kern_calls.specs.declared.call.Reply.{Reply}
use Rattle.kern_calls.specs.declared.fault.KernelFault.{KernelFault}

pub record KernelState : Type 0 where
  pub board : Board
  pub connections : Connections
  pub work : Work
  -- all posts so far
  pub posts : List Post
  -- the kernel was shut down
  pub is_shut : Bool

abbrev pub kernel_before_calls : KernelState
kernel_before_calls = record {
  board = opening;
  connections = no_connections;
  work = nothing;
  posts = [];
  is_shut = false;
}

-- the outcome of a call: the answer, the kernel with the posts before the call, and the letters that it
-- then posts at this moment
pub record Turn : Type 0 where
  pub answer : Result Reply KernelFault
  pub state : KernelState
  pub unix_seconds : ℕ
  pub letters : List Letter

abbrev pub after : Turn → KernelState
after t = record t.state { posts = with_posts t.unix_seconds t.letters t.state.posts }

abbrev pub refuse_turn : KernelFault → KernelState → Turn
refuse_turn fault s = record { answer = Err fault; state = s; unix_seconds = 0; letters = [] }

abbrev pub turn_without_posts : Reply → KernelState → Turn
turn_without_posts reply s = record { answer = Ok reply; state = s; unix_seconds = 0; letters = [] }

abbrev pub posting : Reply → ℕ → List Letter → KernelState → Turn
posting reply unix_seconds letters s =
    record { answer = Ok reply; state = s; unix_seconds = unix_seconds; letters = letters }
