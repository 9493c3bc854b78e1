-- What the bytes of a send are, by what they come to.
use Rattle.std.proofs.Common.{◌≡◌, ℕ, List, Option, Some, None, Ok, Err, refl, arith}
use Rattle.ide_types.specs.declared.port.Side.{Side}
use Rattle.ide_types.specs.declared.stream.StreamPlan.{StreamPlan}
use Rattle.tlp_layout.specs.declared.fault.TlpFault.{TlpFault}
use Rattle.tlp_layout.specs.declared.tlp.Tlp.{Tlp}
use Rattle.tlp_layout.specs.Tlp.{header}
use Rattle.tlp_layout.specs.Reading.{read_of}
use Rattle.tlp_layout.specs.Choice.{choice_of, chosen_stream}
use Rattle.tlp_layout.specs.Outgoing.{NoTlp, OnStream, outgoing_of, outgoing_if_chosen, stream_taken}

pub no_tlp_reads : (streams : List StreamPlan) (side : Side) (bytes : List ℕ) (fault : TlpFault)
    → outgoing_of streams side bytes ≡ NoTlp fault → read_of bytes ≡ Err fault
unfolding outgoing_of
no_tlp_reads streams side bytes fault is = grind arith

pub on_stream_reads : (streams : List StreamPlan) (side : Side) (bytes : List ℕ) (t : Tlp) (stream : ℕ)
    → outgoing_of streams side bytes ≡ OnStream t stream
    → (read_of bytes ≡ Ok t) × (chosen_stream (choice_of streams side (header t)) ≡ Some stream)
unfolding outgoing_of
on_stream_reads streams side bytes t stream is = (grind arith, grind arith)

taken_on : (t : Tlp) (o : Option ℕ) → stream_taken (outgoing_if_chosen t o) ≡ o
taken_on t None = refl
taken_on t (Some stream) = refl

pub stream_by_head : (streams : List StreamPlan) (side : Side) (bytes : List ℕ) (t : Tlp) → read_of bytes ≡ Ok t
    → stream_taken (outgoing_of streams side bytes) ≡ chosen_stream (choice_of streams side (header t))
unfolding outgoing_of
stream_by_head streams side bytes t is = rw is (taken_on t (chosen_stream (choice_of streams side (header t))))
