pub mod LatinLemmas
