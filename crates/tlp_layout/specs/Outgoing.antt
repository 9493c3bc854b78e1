-- What the bytes of a send come to at a port.
use Rattle.std.specs.Prelude.{ℕ, List, Option, Some, None, Result, Ok, Err}
use Rattle.ide_types.specs.declared.port.Side.{Side}
use Rattle.ide_types.specs.declared.stream.StreamPlan.{StreamPlan}
use Rattle.tlp_layout.specs.declared.fault.TlpFault.{TlpFault}
use Rattle.tlp_layout.specs.declared.tlp.Tlp.{Tlp}
use Rattle.tlp_layout.specs.Tlp.{header}
use Rattle.tlp_layout.specs.Reading.{read_of}
use Rattle.tlp_layout.specs.Choice.{choice_of, chosen_stream}

-- no TLP, for this fault; a TLP that takes no stream; or a TLP on the stream of this number
pub data Outgoing : Type 0 where
  NoTlp : TlpFault → Outgoing
  OnNone : Outgoing
  OnStream : Tlp → ℕ → Outgoing

abbrev pub outgoing_if_chosen : Tlp → Option ℕ → Outgoing
outgoing_if_chosen t None = OnNone
outgoing_if_chosen t (Some stream) = OnStream t stream

abbrev pub outgoing_as_read : List StreamPlan → Side → Result Tlp TlpFault → Outgoing
outgoing_as_read streams side (Err fault) = NoTlp fault
outgoing_as_read streams side (Ok t) = outgoing_if_chosen t (chosen_stream (choice_of streams side (header t)))

-- the stream that it takes, if it takes one
abbrev pub stream_taken : Outgoing → Option ℕ
stream_taken (NoTlp fault) = None
stream_taken OnNone = None
stream_taken (OnStream t stream) = Some stream

-- first the bytes are read, then the TLP's stream is chosen
unfoldable pub outgoing_of : List StreamPlan → Side → List ℕ → Outgoing
outgoing_of streams side bytes = outgoing_as_read streams side (read_of bytes)
