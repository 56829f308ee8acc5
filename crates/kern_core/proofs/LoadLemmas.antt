-- Loading the next cell: its letters, and the fields after it.
use Rattle.std.proofs.Common.{◌≡◌, ◌∙◌, ℕ, ◌+◌, ◌≤◌, Bool, true, false, List, ◌∷◌, not, ◌&&◌, Ok}
use Rattle.std.proofs.Common.{refl, sym, ap, subst, arith, if◌then◌else◌}
use Rattle.lab_core.specs.Labs.{LabState, RepresentsBoard}
use Rattle.kern_post.specs.Posts.{Keeps, with_posts}
use Rattle.kern_peers.specs.Connections.{Connections}
use Rattle.kern_exec.specs.declared.execution.Execution.{Execution}
use Rattle.kern_exec.specs.declared.execution.Current.{Current}
use Rattle.kern_exec.specs.declared.loading.Loading.{Loading}
use Rattle.kern_exec.specs.Executions.{Work, count_with, current_of, load_first}
use Rattle.kern_exec.specs.Ends.{loading_letters}
use Rattle.kern_exec.specs.Boards.{cell_given, loading_of, board_after}
use Rattle.kern_calls.specs.declared.call.Reply.TheVariants.{More}
use Rattle.kern_core.specs.States.{KernelState, after}
use Rattle.kern_core.specs.Slices.{loading}
use Rattle.kern_core.specs.Represents.{KernelFields, RepresentsKernel, Grows}

one_more : (b : Bool) (n : ℕ) → (if b then n + 1 else n) ≤ n + 1
one_more true n = omega arith
one_more false n = omega arith

counted : (x : Execution) (n : ℕ) → count_with x n ≤ n + 1
counted x n = one_more (not x.request.is_silent && x.request.stores_history) n

-- loading a cell changes the board, the executions and the posts
abbrev pub IsLoaded : KernelFields → LabState → KernelFields → Type 0
IsLoaded old lab new = new ≡ record old { lab = lab; work = new.work; store = new.store }

pub load_grows : (old new : KernelFields) (lab : LabState) (x : Execution) (rest : List Execution)
    (l : Loading)
    → IsLoaded old lab new → new.work ≡ load_first x rest l old.work → new.store.made ≤ old.store.made + 8
    → Grows old new
load_grows old new lab x rest l loaded work made =
    let counts : new.work.count ≡ count_with x old.work.count = ap (λ (w : Work). w.count) work in
    let joined : new.connections.joined ≡ old.connections.joined =
    ap (λ (v : KernelFields). v.connections.joined) loaded in
    let less = counted x old.work.count in
    record {
      posts = made;
      peers = omega arith;
      count = omega arith;
    }

pub load_stands : (unix_seconds : ℕ) (s : KernelState) (old new : KernelFields) (lab : LabState)
    (x : Execution) (rest : List Execution) (c : Current) (l : Loading)
    → RepresentsKernel old s → old.work.queue ≡ x ∷ rest → c ≡ current_of x old.work.count
    → l ≡ loading_of (cell_given x.request.code s.board)
    → RepresentsBoard lab (board_after s.board (cell_given x.request.code s.board))
    → IsLoaded old lab new → new.work ≡ load_first x rest l old.work
    → Keeps (with_posts unix_seconds (loading_letters old.connections c l) s.posts) new.store
    → (Ok More ≡ (loading unix_seconds s.work.queue s).answer)
    × RepresentsKernel new (after (loading unix_seconds s.work.queue s))
load_stands unix_seconds s old new lab x rest c l represents queue current is_loading board loaded work kept =
    let g = cell_given x.request.code s.board in
    let waits : s.work.queue ≡ x ∷ rest = ap (λ (w : Work). w.queue) (sym represents.work) ∙ queue in
    let it : c ≡ current_of x s.work.count = current
    ∙ ap (λ (w : Work). current_of x w.count) represents.work in
    let B : LabState → Type 0 = λ v. RepresentsBoard v (board_after s.board g) in
    let P : Connections → Type 0 =
    λ w. Keeps (with_posts unix_seconds (loading_letters w c l) s.posts) new.store in
    let Q : Current → Type 0 =
    λ k. Keeps (with_posts unix_seconds (loading_letters s.connections k l) s.posts) new.store in
    let R : Loading → Type 0 =
    λ k. Keeps (with_posts unix_seconds (loading_letters s.connections (current_of x s.work.count) k) s.posts)
    new.store in
    let W : Loading → Type 0 = λ k. new.work ≡ load_first x rest k s.work in
    rw waits (
      refl,
      record {
        board = subst B (sym (ap (λ (v : KernelFields). v.lab) loaded)) board;
        connections = ap (λ (v : KernelFields). v.connections) loaded ∙ represents.connections;
        work = subst W is_loading (work ∙ ap (load_first x rest l) represents.work);
        posts = subst R is_loading (subst Q it (subst P represents.connections kept));
        is_shut = ap (λ (v : KernelFields). v.is_shut) loaded ∙ represents.is_shut;
      },
    )
