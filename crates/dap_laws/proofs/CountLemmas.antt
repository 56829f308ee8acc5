-- Slices count the hits of the recorded run's steps.
use Rattle.std.proofs.Common.{◌≡◌, ◌∙◌, ◌≤◌, ◌+◌, ◌-◌, ℕ, zero, suc, List, refl, sym, ap, arith}
use Rattle.lab_core.specs.declared.answer.SliceOutcome.{SliceOutcome}
use Rattle.lab_core.specs.declared.answer.SliceOutcome.TheVariants as outcome
use Rattle.lab_core.specs.Board.{Board}
use Rattle.lab_core.specs.Slices.{after_steps}
use Rattle.lab_core.specs.Moments.{put_back}
use Rattle.dap_slice.specs.declared.conditions.ConditionalBreakpoint.{ConditionalBreakpoint}
use Rattle.dap_slice.specs.Counts.{after_hits, after_each_step}
use Rattle.dap_slice.proofs.CountLemmas.{hits_alike}
use Rattle.dap_slice.proofs.LogLemmas.{each_counted}
use Rattle.dap_slice.proofs.SliceLemmas.{end_within}
use Rattle.dap_history.specs.Logs.{Ascends, later_than}
use Rattle.dap_history.specs.Runs.{board_at}
use Rattle.dap_search.specs.Recounts.{after_hits_from}
use Rattle.dap_search.proofs.RecountLemmas.{by_steps}
use Rattle.dap_session.specs.declared.settings.SessionSettings.{SessionSettings}
use Rattle.dap_session.specs.States.{SessionState}
use Rattle.dap_session.specs.Laws.{SameParts}
use Rattle.dap_session.specs.Slices.{settings_after, slice_end_in}
use Rattle.dap_record.specs.Recordings.{Recording}
use Rattle.dap_record.specs.Slices.{slice_limit, steps_to_input, recorded_slice}
use Rattle.dap_record.proofs.RunLemmas.{same_steps}
use Rattle.dap_record.proofs.SliceLemmas.{none_between}
use Rattle.dap_laws.specs.Recorded.{IsRecordingOf}

-- how a slice ends changes no counts
same_counts : (ending : SliceOutcome) (t : SessionSettings)
    → (settings_after ending t).conditional ≡ t.conditional
same_counts outcome.More t = refl
same_counts outcome.Waiting t = refl
same_counts (outcome.Stop reason) t = refl
same_counts (outcome.End how) t = refl

-- steps keep the symbols
symbols_kept : (k : ℕ) (b : Board) → (after_steps k b).symbols ≡ b.symbols
symbols_kept zero b = refl
symbols_kept (suc k) b = symbols_kept k b

-- boards with the same run and the same symbols have the same hits
each_same : (points : List ConditionalBreakpoint) (k : ℕ) (b b' : Board) → SameParts b b'
    → b.symbols ≡ b'.symbols → after_each_step points k b ≡ after_each_step points k b'
each_same points zero b b' parts symbols = refl
each_same points (suc k) b b' parts symbols =
    let before = same_steps k b b' parts in
    let after = same_steps (suc k) b b' parts in
    hits_alike (after_each_step points k b) (after_steps k b) (after_steps k b') (after_steps (suc k) b)
    (after_steps (suc k) b') (sym before.machine)
    (record {
      machine = sym after.machine;
      symbols = symbols_kept (suc k) b ∙ (symbols ∙ sym (symbols_kept (suc k) b'));
    })
    ∙ ap (λ ps. after_hits ps (after_steps k b') (after_steps (suc k) b'))
    (each_same points k b b' parts symbols)

within_limit : (r : Recording) (k : ℕ) → k ≤ slice_limit r → Ascends 0 r.log
    → Ascends (r.count + k) (later_than r.count r.log)
within_limit r k few asc =
    let c = r.count in
    let near : (c + k) - c ≤ steps_to_input c (later_than c r.log) = omega (arith, few) in
    none_between c (c + k) r.log asc (omega arith) near

pub slice_counts : (r : Recording) (s : SessionState) → IsRecordingOf r s
    → (recorded_slice (slice_end_in (slice_limit r) s) r s).state.session.settings.conditional
    ≡ after_hits_from s.settings.conditional r.start r.log s.board r.count (slice_end_in (slice_limit r) s).0
slice_counts r s of =
    let points = s.settings.conditional in
    let n = slice_limit r in
    let p = slice_end_in n s in
    let was = board_at r.start r.log r.count in
    let parts : SameParts s.board (put_back was s.board) = record {
      machine = sym of.parts.machine;
      past = sym of.parts.past;
      trace = sym of.parts.trace;
    } in
    same_counts p.1 _ ∙ (each_counted points n s.board
    ∙ (each_same points p.0 s.board (put_back was s.board) parts refl
    ∙ sym (by_steps points r.start s.board r.log r.count p.0 of.ordered
    (within_limit r p.0 (end_within points n s.board) of.ordered))))
