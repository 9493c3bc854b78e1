-- Memory read requests (PCI Express Base 6.0 sections 2.2.4, 2.2.5 and 2.2.7).
use Rattle.std.specs.Prelude.{◌^◌, ◌<◌, ◌≤◌, if◌then◌else◌, Option, Some, None}
use Rattle.tlp_layout.specs.declared.head.HeadView.{HeadView}
use Rattle.tlp_layout.specs.declared.head.Lead.{Lead}
use Rattle.tlp_layout.specs.declared.head.Fields.{Fields}
use Rattle.tlp_layout.specs.declared.head.Fields.TheVariants.{Memory}
use Rattle.trusted_memory.specs.declared.span.Span.{Span}
use Rattle.trusted_memory.specs.Spans.{span_of}
use Rattle.trusted_memory.specs.declared.read.MemReadView.{MemReadView}

abbrev pub read_with : Lead → Fields → Option Span → Option MemReadView
read_with lead (Memory f) (Some s) =
    Some (record { span = s; requester = f.requester; tag = f.tag; tc = lead.tc; attr = lead.attr })
read_with lead fields span = None

-- the memory read that a TLP of this header is
abbrev pub memory_read : HeadView → Option MemReadView
memory_read head = if head.has_payload then None else read_with head.lead head.fields (span_of head)

-- the fields are in range
pub record FitsRead (r : MemReadView) : Type 0 where
  pub least : 1 ≤ r.span.length
  pub most : r.span.length ≤ 1024
  pub requester : r.requester < 2 ^ 16
  pub tag : r.tag < 1024
  pub tc : r.tc < 8
  pub attr : r.attr < 8
