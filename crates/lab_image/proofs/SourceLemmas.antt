-- The look-up of a path, one source on.
use Rattle.std.proofs.Common.{◌≡◌, ◌<◌, ◌≤◌, ◌+◌, ℕ, List, length, get_or, drop, cond, Some, None, refl}
use Rattle.std.proofs.lemmas.List.{drop_more, drop_all}
use Rattle.std.specs.Str.{bytes_eq}
use Rattle.lab_image.specs.declared.sources.Source.{Source}
use Rattle.lab_image.specs.Sources.{source_from}

pub source_from-next : (xs : List Source) (i : ℕ) (s : Source) (path : List ℕ) → i < length xs
    → s ≡ get_or xs i s
    → source_from i (drop i xs) path ≡ cond (bytes_eq s.path path) (Some (i, s.text))
    (source_from (i + 1) (drop (i + 1) xs) path)
unfolding source_from
source_from-next xs i s path h e = rw (drop_more xs i s h, ← e) refl

pub source_from-end : (xs : List Source) (i : ℕ) (path : List ℕ) → length xs ≤ i
    → source_from i (drop i xs) path ≡ None
unfolding source_from
source_from-end xs i path h = rw (drop_all i xs h) refl
