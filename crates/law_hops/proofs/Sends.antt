-- A forward is a send of the first TLP that waits, on the hop's stream.
use Rattle.law_sealing.proofs.Terms.{◌≡◌, ℕ, ◌<◌, ◌+◌, false, List, [], ◌∷◌, length, slice_get}
use Rattle.law_sealing.proofs.Terms.{Some, Ok, ap, ◌∙◌, arith, nat_tests, is_some, and_parts}
use Rattle.law_sealing.proofs.Terms.{Plan, Tlp, read_of, sealed_packets, lanes_at, streams_of}
unfoldable use Rattle.law_sealing.proofs.Terms.{due}
use Rattle.ide_types.specs.Lines.{is_link_line}
use Rattle.ide_types.specs.declared.port.Side.{Side}
use Rattle.ide_types.specs.declared.direction.Direction.{Direction}
use Rattle.ide_types.specs.declared.direction.Direction.TheVariants.{Downstream, Upstream}
use Rattle.ide_types.specs.Ends.{link_hop}
use Rattle.ide_types.specs.declared.plan.HopPlan.{HopPlan}
unfoldable use Rattle.tlp_layout.specs.Choice.{choice_of}
use Rattle.tlp_layout.specs.Outgoing.{Outgoing, OnStream, outgoing_as_read}
unfoldable use Rattle.tlp_layout.specs.Outgoing.{outgoing_of}
use Rattle.spec_links.specs.Plan.{lone_stream}
use Rattle.spec_links.specs.Due.{send_due, verdict_of_send, forward_out, forward_first}
use Rattle.spec_links.specs.Hops.{entering_end, leaving_end, forwarded_count}
use Rattle.spec_links.specs.Memory.{accepted_tlps}
use Rattle.spec_links.proofs.HopFirst.{drop_first, forwarded_bytes}
use Rattle.spec_links.proofs.HopRows.{near_row, far_row}
use Rattle.law_hops.specs.Sends.{ForwardSends}
use Rattle.law_hops.proofs.TlpsRead.{taken_read, read_at}
use Rattle.law_hops.proofs.Forwards.{own_t}

pub lone_takes : (id : ℕ) (side : Side) (bytes : List ℕ) (t : Tlp) → read_of bytes ≡ Ok t
    → outgoing_of (lone_stream id 1 ∷ []) side bytes ≡ OnStream t id
unfolding outgoing_of choice_of
lone_takes id side bytes t reads = ap (outgoing_as_read (lone_stream id 1 ∷ []) side) reads

pub leaving_row : (plan : Plan) (link : ℕ) (d : Direction) (hop : HopPlan) → link < 8
    → link_hop (slice_get plan.links link) ≡ Some hop → streams_of plan (leaving_end link d).line ≡ lone_stream hop.id 1
    ∷ []
leaving_row plan link Downstream hop less is = far_row plan link hop less is
leaving_row plan link Upstream hop less is = near_row plan link hop less is

pub forward_sends : ForwardSends
unfolding due
forward_sends plan fits h cause link d hop known is x xs waits =
    let end = leaving_end link d in
    let n = length (sealed_packets plan h) + 1 in
    let less : link < 8 =
    let first = and_parts (is_link_line link) (is_some (link_hop (slice_get plan.links link))) known in
    grind (arith, nat_tests, first.0) in
    let reads = read_at (accepted_tlps plan h link (entering_end link d)) (forwarded_count h link d) x
    (taken_read plan h cause link (entering_end link d))
    (drop_first (forwarded_count h link d) (accepted_tlps plan h link (entering_end link d)) x xs waits) in
    let bytes = forwarded_bytes plan h link d x xs waits in
    let out : forward_out plan h link d ≡ OnStream reads.tlp hop.id =
    (λ i. outgoing_of (leaving_row plan link d hop less is i) end.side (bytes i))
    ∙ lone_takes hop.id end.side x.bytes reads.tlp reads.reads in
    let t = own_t plan fits h link d reads.tlp hop.id x.t known in
    rw known
    (ap (forward_first plan h link d) waits
    ∙ (ap (λ (o : Outgoing). send_due plan h end o false x.t) out
    ∙ (λ i. verdict_of_send (lanes_at plan h end hop.id)
    (record { port = end; stream = hop.id; class = reads.class i; more = false; trusted = t i }) n)))
