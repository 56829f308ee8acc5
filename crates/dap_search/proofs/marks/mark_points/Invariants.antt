use Rattle.std.proofs.Common.{◌≡◌, ◌||◌, ℕ, take}
use Rattle.lab_image.specs.Addresses.{has}
use Rattle.dap_slice.specs.Conditions.{is_any_at}
use Rattle.dap_search.proofs.marks.mark_points.Given as goal

abbrev pub invariant-loop-point : goal.invariant-loop-point
invariant-loop-point l = record {
  addresses : (a : ℕ) → has l.marks.addresses a
      ≡ (has l.fn.marks.addresses a || is_any_at (take l.point-index l.points) a);
  rest : l.marks ≡ record l.fn.marks { addresses = l.marks.addresses };
}
