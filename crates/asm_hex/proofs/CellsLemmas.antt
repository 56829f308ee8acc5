-- Cells without a byte, which bytes are put into.
use Rattle.std.proofs.Common.{◌≡◌, ℕ, ◌-◌, List, [], ◌++◌, length, take, replicate, Option, None, ap, ◌∙◌}
use Rattle.std.proofs.Math.ListN.{length-replicate}
use Rattle.std.proofs.Math.Seq.{take-nil}
use Rattle.asm_hex.specs.Cells.{fill, cells_of}

-- what a list without an item is resized to
pub no_bytes_yet : (bytes : List (ℕ × ℕ)) (none cells : List (Option ℕ)) (n : ℕ) → none ≡ [] → n ≡ 0
    → cells ≡ take 65536 none ++ replicate (65536 - n) None
    → (length cells ≡ 65536) × (fill bytes cells ≡ cells_of bytes)
unfolding cells_of
no_bytes_yet bytes none cells n none_is n_is cells_is =
    let all : cells ≡ replicate 65536 None =
    cells_is ∙ (rw (none_is, n_is) (ap (λ (xs : List (Option ℕ)). xs ++ replicate 65536 None)
    (take-nil 65536))) in
    (ap length all ∙ length-replicate {A = Option ℕ} 65536 None, ap (fill bytes) all)
