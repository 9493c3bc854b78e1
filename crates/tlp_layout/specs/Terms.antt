-- The types of this crate with their variants.
pub use Rattle.tlp_layout.specs.declared.fault.TlpFault.{TlpFault}
pub use Rattle.tlp_layout.specs.declared.fault.TlpFault.TheVariants.{Short, Kind, Bit, Length, Trailing}
pub use Rattle.tlp_layout.specs.declared.head.HeadView.{HeadView}
pub use Rattle.tlp_layout.specs.declared.head.Lead.{Lead}
pub use Rattle.tlp_layout.specs.declared.head.Fields.{Fields}
pub use Rattle.tlp_layout.specs.declared.head.Fields.TheVariants.{Memory, Config, Message, Completion}
pub use Rattle.tlp_layout.specs.declared.head.Fields.TheVariants as fields
pub use Rattle.tlp_layout.specs.declared.head.Routing.{Routing}
pub use Rattle.tlp_layout.specs.declared.head.Routing.TheVariants as routings
pub use Rattle.tlp_layout.specs.declared.head.CompletionStatus.{CompletionStatus}
pub use Rattle.tlp_layout.specs.declared.head.CompletionStatus.TheVariants as statuses
pub use Rattle.tlp_layout.specs.declared.head.TlpKind.{TlpKind}
pub use Rattle.tlp_layout.specs.declared.layout.Layout.{Layout}
pub use Rattle.tlp_layout.specs.declared.layout.Layout.TheVariants as layouts
pub use Rattle.tlp_layout.specs.declared.tlp.Tlp.{Tlp}
pub use Rattle.tlp_layout.specs.declared.tlp.TlpView.{TlpView}
