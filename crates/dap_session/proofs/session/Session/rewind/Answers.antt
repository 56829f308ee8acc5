use Rattle.dap_session.proofs.session.Session.rewind.Goals as goal

pub invariant_of-self : goal.invariant_of-self
invariant_of-self c =
    let keeps = (c.go_to.ensures.rest c.requires.0 c.self.invariant.0 c.requires.1 c.self.invariant.1).0 in
    (keeps.now, keeps.represents)

pub invariant_of-self-in-Err : goal.invariant_of-self-in-Err
invariant_of-self-in-Err c =
    let keeps = (c.go_to.ensures.rest c.requires.0 c.self.invariant.0 c.requires.1 c.self.invariant.1).0 in
    (keeps.now, keeps.represents)

pub returns-in-Ok-clause-history : goal.returns-in-Ok-clause-history
returns-in-Ok-clause-history c = λ start history.
    (c.go_to.ensures.rest start c.self.invariant.0 history c.self.invariant.1).1

pub returns-in-Err-clause-history : goal.returns-in-Err-clause-history
returns-in-Err-clause-history c = λ start history.
    (c.go_to.ensures.rest start c.self.invariant.0 history c.self.invariant.1).1
