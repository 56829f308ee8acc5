use Rattle.std.proofs.Common.{arith, ap, take, drop, ◌≡◌, length, ◌≤◌, sym, min}
use Rattle.std.proofs.lemmas.List.{take_rest}
use Rattle.base_streams.specs.Memory.{SourceState}
use Rattle.base_streams.proofs.TellLemmas.{given_more, left_less}
use Rattle.base_streams.proofs.memory.SourceInlet.read.Goals as goal
use Rattle.base_streams.proofs.memory.SourceInlet.read.Goals.{After-copy_from_slice}

-- as many bytes are left as were copied, and the copy is their front
copied_all : (c : After-copy_from_slice)
    → (c.min-count.result ≤ length (drop c.self.inside.place c.self.inside.held.items))
    × (c.copy_from_slice.new.self ≡ take c.min-count.result
    (drop c.self.inside.place c.self.inside.held.items))
copied_all c =
    let v = c.deref.ensures.value in
    let p = c.self.inside.place in
    let h = c.self.inside.held.items in
    let s : c.copy_from_slice.new.self ≡ take c.min-count.result (drop p h) =
    rw (v, take_rest h p) at c.copy_from_slice.ensures.after in
    let d : c.min.result ≡ min (length (drop p h)) c.self.inside.most =
    rw (v, take_rest h p) at c.min.ensures in
    let b = c.min-count.ensures in
    (omega arith, s)

pub returns-else-count-eq0-clause-given : goal.returns-else-count-eq0-clause-given
returns-else-count-eq0-clause-given c =
    let all = copied_all (goal.at.returns-else-count-eq0-clause-given c).After-copy_from_slice in
    given_more c.self.inside.place c.min-count.result c.self.inside.held.items c.args.self.now.given
    c.copy_from_slice.new.self _
    (ap (λ (x : SourceState). x.given) (sym c.self.view_is)) all.0 all.1

pub returns-else-count-eq0-clause-left : goal.returns-else-count-eq0-clause-left
returns-else-count-eq0-clause-left c =
    let all = copied_all (goal.at.returns-else-count-eq0-clause-left c).After-copy_from_slice in
    let less =
    left_less c.self.inside.place c.min-count.result c.self.inside.held.items c.args.self.now.left
    c.copy_from_slice.new.self _
    (ap (λ (x : SourceState). x.left) (sym c.self.view_is)) all.0 all.1 in
    (less, λ none _. absurd (c.if-count-eq0.false none))
