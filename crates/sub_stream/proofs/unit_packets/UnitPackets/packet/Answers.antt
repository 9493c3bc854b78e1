use Rattle.std.proofs.Common.{◌≡◌, length, ap, sym, ◌∙◌, arith}
use Rattle.std.specs.List.{slice_get}
use Rattle.sub_stream.specs.Gathered.{Gathered, packets_of_prefixes}
use Rattle.sub_stream.proofs.Packets.{packet_at, clear_long, length-packets_of_prefixes}
use Rattle.sub_stream.proofs.unit_packets.UnitPackets.packet.Goals as goal

pub slice_bounds-result-count : goal.slice_bounds-result-count
slice_bounds-result-count c = clear_long _ _ _ _ _ c.self.invariant.parts c.packet.ensures

pub slice_bounds-result-start : goal.slice_bounds-result-start
slice_bounds-result-start c = clear_long _ _ _ _ _ c.self.invariant.parts c.packet.ensures

pub offset_bounds-self-inside-i : goal.offset_bounds-self-inside-i
offset_bounds-self-inside-i c =
    let count : length (packets_of_prefixes c.self.inside.buf.packets c.self.inside.prefixes)
    ≡ length c.args.self.now.packets =
    ap (λ (u : Gathered). length u.packets) c.self.view_is in
    omega (
      arith,
      count,
      length-packets_of_prefixes _ _ c.self.invariant.parts,
      c.self.invariant.fits,
      c.self.invariant.small_aggregation,
      c.self.invariant.places,
      c.requires,
    )

pub returns : goal.returns
returns c = ap (λ (u : Gathered). slice_get u.packets c.args.i) (sym c.self.view_is)
    ∙ packet_at _ _ _ _ _ _ c.self.invariant.parts c.packet.ensures
