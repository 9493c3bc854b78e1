-- What bytes come to at a port, by the stream that they take there.
use Rattle.ide_port.proofs.Terms.{◌≡◌, ℕ, List, Option, Some, sym, ap, ◌∙◌, Tlp, PortEnd}
use Rattle.std.specs.Prelude.{Ok}
use Rattle.tlp_layout.specs.declared.choice.ChosenStream.{ChosenStream}
use Rattle.tlp_layout.specs.Reading.{read_of}
use Rattle.tlp_layout.specs.Outgoing.{OnStream, outgoing_as_read, outgoing_if_chosen, outgoing_of}
use Rattle.tlp_layout.proofs.Outgoing.{stream_by_head}
use Rattle.ide_port.specs.Sends.{IsStreamTaken}

-- a TLP on that stream
pub on_taken : (e : PortEnd) (bytes : List ℕ) (t : Tlp) (s : ChosenStream) → read_of bytes ≡ Ok t
    → IsStreamTaken e bytes (Some s) → outgoing_of e.plans e.name.side bytes ≡ OnStream t s.id
unfolding outgoing_of
on_taken e bytes t s is taken =
    ap (outgoing_as_read e.plans e.name.side) is
    ∙ ap (λ (o : Option ℕ). outgoing_if_chosen t o)
    (sym (stream_by_head e.plans e.name.side bytes t is) ∙ sym taken.id)
