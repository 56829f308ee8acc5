pub mod Buckets
pub mod Budgets
pub mod Evictions
pub mod Pacing
pub mod Unauthenticated
