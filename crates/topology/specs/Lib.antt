pub mod Tables
pub mod Rules
pub mod Meaning
pub mod Migration
pub mod Lines
pub use Rattle.toml_walk.specs.Fault
pub use Rattle.ide_types.specs.Plans
pub use Rattle.ide_types.specs.Fits
