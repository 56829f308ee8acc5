pub mod BucketLemmas
pub mod EvictionLemmas
pub mod ThrottleLemmas
