-- How far reading has come, read by read.
use Rattle.std.proofs.Common.{ℕ, ◌+◌, ◌<◌, ◌≤◌, List, [], ◌++◌, length, Option, Some, None, IfSome, ap, sym}
use Rattle.std.proofs.Common.{subst, arith, length-append}
use Rattle.std.specs.Io.KnownBytes.{Consumes}
use Rattle.std.proofs.KnownBytes.{Consumes-nil, Consumes-trans}
use Rattle.base_streams.specs.States.{InletState}
use Rattle.cli_io.specs.Streams.{most_reads, IsEndless}

-- so many reads gave these bytes, at least one a read
pub record Took (reads : ℕ) (old now : Option (List ℕ)) (bytes : List ℕ) : Type 0 where
  pub consumed : Consumes old now bytes
  pub many : reads ≤ length bytes

pub took_nothing : (old : Option (List ℕ)) → Took 0 old old []
took_nothing old = record { consumed = Consumes-nil old; many = omega arith }

pub took_piece : (reads : ℕ) (old now later : Option (List ℕ)) (bytes piece : List ℕ)
    → Took reads old now bytes → Consumes now later piece → 0 < length piece
    → Took (reads + 1) old later (bytes ++ piece)
took_piece reads old now later bytes piece t consumed some =
    let before = t.many in
    record {
      consumed = Consumes-trans old now later bytes piece t.consumed consumed;
      many = omega (arith, length-append bytes piece);
    }

most_left : (reads : ℕ) (old now : Option (List ℕ)) (bytes : List ℕ)
    → Took reads old now bytes → 4294967295 ≤ reads → IfSome old (λ input. most_reads ≤ length input)
unfolding most_reads
most_left reads None now bytes t most = tt
most_left reads (Some input) None bytes t most = absurd t.consumed
most_left reads (Some input) (Some rest) bytes t most =
    let many = t.many in omega (arith, ap length t.consumed, length-append bytes rest)

-- as many reads as there may be didn't come to the end
pub took_most : (reads : ℕ) (old now : InletState) (bytes : List ℕ)
    → Took reads old.left now.left bytes → 4294967295 ≤ reads → IsEndless old
took_most reads old now bytes t most = most_left reads old.left now.left bytes t most

-- these bytes were read so far, and are represented
pub record HasRead {S : Type 0} (Stands : S → List ℕ → Type 0) (reads : ℕ) (old now : InletState) (s : S)
    : Type 0 where
  pub bytes : List ℕ
  pub took : Took reads old.left now.left bytes
  pub represents : Stands s bytes

pub read_nothing : {S : Type 0} (Stands : S → List ℕ → Type 0) (old : InletState) (s : S) → Stands s []
    → HasRead Stands 0 old old s
read_nothing Stands old s h = record { bytes = []; took = took_nothing old.left; represents = h }

pub read_piece : {S : Type 0} (Stands : S → List ℕ → Type 0) (reads : ℕ) (old now later : InletState)
    (s s' : S) (piece : List ℕ)
    → HasRead Stands reads old now s → Consumes now.left later.left piece → 0 < length piece
    → ((text : List ℕ) → Stands s text → Stands s' (text ++ piece))
    → HasRead Stands (reads + 1) old later s'
read_piece Stands reads old now later s s' piece r consumed some on = record {
  bytes = r.bytes ++ piece;
  took = took_piece reads old.left now.left later.left r.bytes piece r.took consumed some;
  represents = on r.bytes r.represents;
}

pub read_most : {S : Type 0} (Stands : S → List ℕ → Type 0) (reads : ℕ) (old now : InletState) (s : S)
    → HasRead Stands reads old now s → 4294967295 ≤ reads → IsEndless old
read_most Stands reads old now s r most = took_most reads old now r.bytes r.took most

-- what is refused after a piece is refused whatever follows
pub read_bad : {S : Type 0} (Stands : S → List ℕ → Type 0) (Refuses : List ℕ → Type 0) (reads : ℕ)
    (old now later : InletState) (s : S) (piece : List ℕ)
    → HasRead Stands reads old now s → Consumes now.left later.left piece
    → ((text more : List ℕ) → Stands s text → Refuses (text ++ piece ++ more)) → IfSome old.left Refuses
read_bad {S} Stands Refuses reads old now later s piece r consumed bad =
    all old.left later.left
    (Consumes-trans old.left now.left later.left r.bytes piece r.took.consumed consumed)
  where
    all : (old later : Option (List ℕ)) → Consumes old later (r.bytes ++ piece) → IfSome old Refuses
    all None later c = tt
    all (Some xs) None c = absurd c
    all (Some xs) (Some ys) c = subst Refuses (sym c) (bad r.bytes ys r.represents)
