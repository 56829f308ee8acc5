use Rattle.lab_views.proofs.views.show.Goals as goal

pub returns-in-Frames : goal.returns-in-Frames
returns-in-Frames c = λ p s. rw (s.others, c.in-Frames.is) (c.show_frames.ensures p.past p.loads s.origins)

pub returns-in-Scopes : goal.returns-in-Scopes
returns-in-Scopes c = λ p s. rw (s.others, c.in-Scopes.is) (c.show_scopes.ensures p.past p.loads)

pub returns-in-Variables : goal.returns-in-Variables
returns-in-Variables c = λ p s.
    rw (s.others, c.in-Variables.is) (c.show_variables.ensures p.past p.loads s.devices)

pub returns-in-Code : goal.returns-in-Code
returns-in-Code c = λ p s. rw (s.others, c.in-Code.is) (c.show_code.ensures p.past p.loads)

pub returns-in-Source : goal.returns-in-Source
returns-in-Source c = λ p s.
    rw (s.others, c.in-Source.is, ← c.as_str.ensures) (c.show_source.ensures p.past p.loads)

pub returns-in-Info : goal.returns-in-Info
returns-in-Info c = λ p s. rw (s.others, c.in-Info.is) (c.show_info.ensures p.past p.loads)
