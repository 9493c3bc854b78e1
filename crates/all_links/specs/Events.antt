-- What events name.
pub use Rattle.line_arrivals.specs.{operation_event}
