use Rattle.std.proofs.Common.{refl, sym}
use Rattle.std.proofs.lemmas.List.{append-nil}
use Rattle.i80_listings_laws.specs.Runs.{runs_of}
use Rattle.i80_listings_laws.specs.Text.{runs_text, listings_of}
use Rattle.i80_listings.proofs.listings.listings.Goals as goal
use Rattle.i80_listings.proofs.listings.listings.Goals.{in-Some+in_ok-push_start, in_default}

pub returns : goal.returns
unfolding listings_of
returns c =
    elim c.match-start.branch [
      | in-Some+in_ok-push_start w ↦
          rw (
            w.text-is,
            w.in_ok-push_start.ensures,
            c.in_ok-push_runs.ensures,
            c.new-text.ensures.bytes,
            w.in-Some.is,
          ) refl
      | in_default w ↦
          rw (w.text-is, c.in_ok-push_runs.ensures, c.new-text.ensures.bytes, w.in_default.is)
          (sym (append-nil (runs_text (runs_of c.args.cells.now))))
    ]
