pub mod TableRows
pub mod Encoding
pub use Rattle.i80_base.specs.AliasRows
pub use Rattle.i80_base.specs.Arithmetic
pub use Rattle.i80_base.specs.Codes
pub use Rattle.i80_base.specs.FlagValues
pub use Rattle.i80_base.specs.Instructions
pub use Rattle.i80_base.specs.Rows
