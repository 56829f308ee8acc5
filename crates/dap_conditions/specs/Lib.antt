pub mod HitConditions
pub mod Conditions
