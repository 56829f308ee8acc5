pub mod Tables
pub mod FlagLemmas
pub mod ArithmeticLemmas
pub mod TableLemmas
