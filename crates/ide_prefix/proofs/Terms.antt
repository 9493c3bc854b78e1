-- Types with their variants, and what is cited of headers.
pub use Rattle.ide_types.specs.declared.sub.SubKind.{SubKind}
pub use Rattle.ide_types.specs.declared.sub.SubKind.TheVariants.{Pr, Npr, Cpl}
pub use Rattle.tlp_layout.specs.declared.layout.Layout.{Layout}
pub use Rattle.tlp_layout.specs.declared.head.HeadView.{HeadView}
pub use Rattle.tlp_layout.specs.Class.{kind_if_layout}
pub use Rattle.tlp_layout.proofs.Heads.{IsRight, kept, again, back}
pub use Rattle.tlp_layout.proofs.Walk.{IsWalked, fits_from, agrees_there, head_size_at_least, head_size_at_most}
pub use Rattle.tlp_layout.proofs.Walk.{body_at_most, next_fits, rest_front}
pub use Rattle.tlp_layout.proofs.Grammar.{heads, is_right, take_right, walked_of}
pub use Rattle.ide_prefix.specs.Packet.{Packet}
pub use Rattle.ide_prefix.specs.Causes.{belongs, fault_after_prefix}
