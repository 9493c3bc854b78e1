-- What a header says of its TLP: its layout, one of six kinds, and the sub-stream (PCI Express Base 6.0 sections 2.2
-- and 6.33).
use Rattle.std.specs.Prelude.{Bool, ℕ, Option, Some, None, if◌then◌else◌}
use Rattle.ide_types.specs.declared.sub.SubKind.{SubKind}
use Rattle.ide_types.specs.declared.sub.SubKind.TheVariants.{Pr, Npr, Cpl}
use Rattle.tlp_layout.specs.Terms.{HeadView, Fields, Layout, TlpKind}
use Rattle.tlp_layout.specs.Terms.fields
use Rattle.tlp_layout.specs.Terms.layouts
use Rattle.tlp_layout.specs.declared.head.TlpKind.TheVariants.{MemRead, MemWrite, CfgRead, CfgWrite, Message}
use Rattle.tlp_layout.specs.declared.head.TlpKind.TheVariants.{Completion}
use Rattle.tlp_layout.specs.Causes.{layout_of_byte, has_data}

abbrev pub layout_of : Fields → Layout
layout_of (fields.Memory f) = layouts.Memory
layout_of (fields.Config f) = layouts.Config
layout_of (fields.Message f) = layouts.Message
layout_of (fields.Completion f) = layouts.Completion

-- the kind of a TLP of this layout, with or without a payload
abbrev pub kind_of_layout : Layout → Bool → TlpKind
kind_of_layout layouts.Memory has_payload = if has_payload then MemWrite else MemRead
kind_of_layout layouts.Config has_payload = if has_payload then CfgWrite else CfgRead
kind_of_layout layouts.Message has_payload = Message
kind_of_layout layouts.Completion has_payload = Completion

abbrev pub kind_of : HeadView → TlpKind
kind_of h = kind_of_layout (layout_of h.fields) h.has_payload

-- posted requests, non-posted requests, completions
abbrev pub kind_class : TlpKind → SubKind
kind_class MemRead = Npr
kind_class MemWrite = Pr
kind_class CfgRead = Npr
kind_class CfgWrite = Npr
kind_class Message = Pr
kind_class Completion = Cpl

abbrev pub class_of : HeadView → SubKind
class_of h = kind_class (kind_of h)

abbrev pub kind_if_layout : Option Layout → Bool → Option TlpKind
kind_if_layout None has_payload = None
kind_if_layout (Some layout) has_payload = Some (kind_of_layout layout has_payload)

-- the kind of TLP whose header this byte 0 begins
abbrev pub kind_of_byte : ℕ → Option TlpKind
kind_of_byte b = kind_if_layout (layout_of_byte b) (has_data b)
