-- The breakpoints of a session's program on its board.
use Rattle.std.proofs.Common.{◌≡◌, List, Option, Some, ap, subst, sym}
use Rattle.lab_core.specs.Board.{Board}
use Rattle.lab_core.specs.Labs.{LabState, RepresentsBoard}
use Rattle.dap_slice.specs.declared.conditions.ConditionalBreakpoint.{ConditionalBreakpoint}
use Rattle.dap_run.specs.declared.program.Program.{Program}
use Rattle.dap_breakpoints.specs.Arming.{ProgramLists, armed_for, conditional_for}
use Rattle.dap_session.specs.declared.settings.SessionSettings.{SessionSettings}
use Rattle.dap_session.specs.States.{SessionState, with_board}
use Rattle.dap_session.specs.Breakpoints.{SetList, armed_where, kept_or, conditional_where}
use Rattle.dap_session.specs.Represents.{SessionFields, RepresentsSession}

-- the lab stops at these breakpoints of the program, and its run at these
abbrev pub Arms : List ConditionalBreakpoint → LabState → LabState → Program → ProgramLists → Type 0
Arms points old new program lists = (b : Board) → RepresentsBoard old b
    → (points ≡ conditional_for program lists b) × RepresentsBoard new (armed_for program lists b)

pub armed_found : (l : SetList) (find : Option Program → Option Program) (points : List ConditionalBreakpoint)
    (old : SessionFields) (new : LabState) (program : Program) (lists : ProgramLists) (s : SessionState)
    → RepresentsSession old s
    → find old.settings.program ≡ Some program → lists ≡ l.wanted old.settings.points program
    → Arms points old.lab new program lists
    → (kept_or (l.number s.settings.points) (Some points) s.settings.conditional
    ≡ conditional_where l (find s.settings.program) s)
    × RepresentsSession (record old { lab = new })
    (with_board (armed_where (find s.settings.program) (l.wanted s.settings.points) s.board) s)
armed_found l find points old new program lists s represents at are arms =
    let b = s.board in
    let kept = old.settings.points in
    let n = l.number kept in
    let cs = old.settings.conditional in
    let before : SessionState = record { board = b; settings = old.settings } in
    let A : ProgramLists → Type 0 = λ w.
    (kept_or n (Some points) cs ≡ kept_or n (Some (conditional_for program w b)) cs)
    × RepresentsBoard new (armed_for program w b) in
    let P : Option Program → Type 0 = λ o.
    (kept_or n (Some points) cs ≡ conditional_where l o before)
    × RepresentsBoard new (armed_where o (l.wanted kept) b) in
    let S : SessionSettings → Type 0 = λ t.
    (kept_or (l.number t.points) (Some points) t.conditional
    ≡ conditional_where l (find t.program) (record { board = b; settings = t }))
    × RepresentsBoard new (armed_where (find t.program) (l.wanted t.points) b) in
    let here = arms b represents.board in
    let first : A lists = (ap (λ ps. kept_or n (Some ps) cs) here.0, here.1) in
    let both : S s.settings = subst S represents.settings (subst P (sym at) (subst A are first)) in
    (both.0, record { board = both.1; settings = represents.settings })

pub wanted_found : (l : SetList) (points : List ConditionalBreakpoint) (fields : SessionFields)
    (program : Program) (lists : ProgramLists) (s : SessionState) → RepresentsSession fields s
    → fields.settings.program ≡ Some program → lists ≡ l.wanted fields.settings.points program
    → points ≡ conditional_for program lists s.board
    → kept_or (l.number s.settings.points) (Some points) s.settings.conditional
    ≡ conditional_where l s.settings.program s
wanted_found l points fields program lists s represents at are found =
    let b = s.board in
    let kept = fields.settings.points in
    let n = l.number kept in
    let cs = fields.settings.conditional in
    let before : SessionState = record { board = b; settings = fields.settings } in
    let A : ProgramLists → Type 0 = λ w.
    kept_or n (Some points) cs ≡ kept_or n (Some (conditional_for program w b)) cs in
    let P : Option Program → Type 0 = λ o. kept_or n (Some points) cs ≡ conditional_where l o before in
    let S : SessionSettings → Type 0 = λ t.
    kept_or (l.number t.points) (Some points) t.conditional
    ≡ conditional_where l t.program (record { board = b; settings = t }) in
    subst S represents.settings
    (subst P (sym at) (subst A are (ap (λ ps. kept_or n (Some ps) cs) found)))
