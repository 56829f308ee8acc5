use Rattle.std.proofs.Common.{◌≡◌, ◌++◌, [], ◌∷◌, length, string_bytes, arith}
use Rattle.std.proofs.lemmas.List.{length-append}
use Rattle.i80_dis.proofs.Lines.{on_ok}
use Rattle.i80_listings_laws.specs.Runs.{runs_of}
use Rattle.i80_listings_laws.specs.Text.{runs_text}
use Rattle.i80_listings.proofs.Progress.{byte_added, gap_passed, all_passed}
use Rattle.i80_listings.proofs.listings.push_runs.Goals as goal
use Rattle.i80_listings.proofs.listings.push_runs.Goals.{in-Some+in_ok-push-in-Some}
use Rattle.i80_listings.proofs.listings.push_runs.Goals.{in-None+in_ok-push_run-in-None}

pub loop-address-preserved : goal.loop-address-preserved
loop-address-preserved c =
    let total = string_bytes c.args.text.now ++ runs_text (runs_of c.args.cells.now) in
    let text = string_bytes c.loop-address.text in
    let run = c.loop-address.run.items in
    let i = c.loop-address.address in
    let cells = c.args.cells.now in
    let le = c.loop-address.invariant.run in
    elim c.match-cell.branch [
      | in-Some+in_ok-push-in-Some w ↦
          (let long = length-append run (w.in-Some.byte ∷ []) in
          rw (w.text-is, w.run-is, w.in_ok-push-in-Some.ensures.items)
          (record {
            run = omega (arith, long, le);
            text =
                byte_added total text run i w.in-Some.byte cells c.loop-address-test.true w.in-Some.is
                c.loop-address.invariant.text;
          }))
      | in-None+in_ok-push_run-in-None w ↦
          rw (w.text-is, w.run-is, w.clear.ensures.items)
          (record {
            run = omega arith;
            text =
                gap_passed total text (string_bytes w.push_run.new.text) run i cells
                c.loop-address-test.true le w.in-None.is
                (rw w.as_slice.ensures.value at w.in_ok-push_run-in-None.ensures)
                c.loop-address.invariant.text;
          })
    ]

pub returns : goal.returns
returns c =
    let total = string_bytes c.args.text.now ++ runs_text (runs_of c.args.cells.now) in
    let test = c.loop-address-test.false in
    let end = c.loop-address.auto.address-end in
    let at : c.loop-address.address ≡ length c.args.cells.now = omega (arith, test, end) in
    on_ok c.push_run-2.result
    (λ e. all_passed total (string_bytes c.loop-address.text) (string_bytes c.push_run-2.new.text)
    c.loop-address.run.items c.loop-address.address c.args.cells.now at e c.loop-address.invariant.text)
    (rw c.as_slice-2.ensures.value at c.push_run-2.ensures)
