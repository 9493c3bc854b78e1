use Rattle.std.proofs.Common.{◌≡◌, ◌∙◌, ap, sym, subst, List, ◌+◌, ◌++◌, [], ◌∷◌, arith, drop, ℕ, length, length-append}
use Rattle.std.proofs.lemmas.List.{append-nil, append_assoc}
use Rattle.ide_types.specs.declared.plan.Region.{Region}
use Rattle.ide_prefix.specs.Cut.{packet_of_view}
use Rattle.ide_prefix.specs.Packet.{Packet}
use Rattle.event_verdicts.specs.declared.verdict.Effect.{Effect}
use Rattle.std.proofs.Math.Seq.{drop-length}
use Rattle.guarded_memory.specs.declared.status.InterfaceStatus.{InterfaceStatus}
use Rattle.link_stores.specs.{device_statuses, reads_on}
use Rattle.arrival_verdicts.specs.Verdicts.{grants_in, UnitCame, PacketCame}
use Rattle.arrival_verdicts.proofs.Effects.{none_came, more_came, packet_there}
use Rattle.arrival_verdicts.proofs.verdicts.effects.Goals as goal

pub loop-i-preserved : goal.loop-i-preserved
loop-i-preserved c =
    let ps : List Packet = c.args.packets.now in
    let end = c.args.at.now.end in
    let port = c.args.at.now.port in
    let side = port.side in
    let unit = c.args.unit in
    let regions : List Region = c.args.memory.now.contents.regions in
    let grants = grants_in c.args.at.now.manager.now in
    let xs : List InterfaceStatus = device_statuses c.args.access.now.floors c.args.at.now.interfaces.now in
    let same : c.loop-i.memory.contents.regions ≡ regions = c.loop-i.invariant.2 in
    let floors : c.loop-i.access.floors ≡ c.args.access.now.floors = c.loop-i.invariant.3 in
    let ws = reads_on side c.loop-i.access in
    let m = c.loop-i.memory.contents in
    let g = c.loop-i.access.guarded in
    let e : Effect = c.effect.result in
    let ws1 = reads_on side c.effect.new.access in
    let m1 = c.effect.new.memory.contents in
    let g1 = c.effect.new.access.guarded in
    let p : Packet = packet_of_view c.packet-packet.result in
    let here : drop c.loop-i.i ps ≡ p ∷ drop (c.loop-i.i + 1) ps =
    packet_there ps c.loop-i.i p c.packet-packet.ensures.packet in
    let first = subst (λ (rs : List Region). PacketCame rs grants
    (device_statuses c.loop-i.access.floors c.args.at.now.interfaces.now) end port unit p ws m g e ws1 m1 g1) same
    c.effect.ensures.came in
    let one = subst (λ (fs : List ℕ). PacketCame regions grants (device_statuses fs c.args.at.now.interfaces.now) end
    port unit p ws m g e ws1 m1 g1) floors first in (
      λ es ws' m' g' came.
          let all = more_came regions grants xs end port unit p (drop (c.loop-i.i + 1) ps) ws ws1 ws' m m1 m' g g1 g' e es
          one came in
          let whole = c.loop-i.invariant.0 (e ∷ es) ws' m' g'
          (subst (λ (qs : List Packet). UnitCame regions grants xs end port unit qs ws m g (e ∷ es) ws' m' g') (sym here)
          all) in
          subst (λ (ds : List Effect). UnitCame regions grants xs end port unit ps (reads_on side c.args.access.now)
          c.args.memory.now.contents c.args.access.now.guarded ds ws' m' g')
          (sym (append_assoc c.loop-i.list (e ∷ []) es)
          ∙ ap (λ (ds : List Effect). ds ++ es) (sym c.push.ensures)) whole,
      rw c.push.ensures (omega (arith, length-append c.loop-i.list (c.effect.result ∷ []), c.loop-i.invariant.1)),
      c.effect.ensures.regions ∙ same,
      c.effect.ensures.floors ∙ floors,
      c.effect.ensures.sizes ∙ c.loop-i.invariant.4,
      omega (arith, c.effect.ensures.spare, c.loop-i.invariant.5),
      omega (arith, c.effect.ensures.pages, c.loop-i.invariant.6),
      c.effect.ensures.carried ∙ c.loop-i.invariant.7,
      c.effect.ensures.others ∙ c.loop-i.invariant.8,
    )

pub returns-clause-came : goal.returns-clause-came
returns-clause-came c =
    let ps : List Packet = c.args.packets.now in
    let end = c.args.at.now.end in
    let port = c.args.at.now.port in
    let side = port.side in
    let unit = c.args.unit in
    let regions : List Region = c.args.memory.now.contents.regions in
    let grants = grants_in c.args.at.now.manager.now in
    let xs : List InterfaceStatus = device_statuses c.args.access.now.floors c.args.at.now.interfaces.now in
    let ws = reads_on side c.loop-i.access in
    let m = c.loop-i.memory.contents in
    let g = c.loop-i.access.guarded in
    let at : c.loop-i.i ≡ length ps = omega (arith, c.count-i-end.ensures.value) in
    let none : drop c.loop-i.i ps ≡ [] = ap (λ (n : ℕ). drop n ps) at ∙ drop-length ps in
    let whole = c.loop-i.invariant.0 [] ws m g
    (subst (λ (qs : List Packet). UnitCame regions grants xs end port unit qs ws m g [] ws m g) (sym none)
    (none_came regions grants xs end port unit ws m g)) in
    subst (λ (es : List Effect). UnitCame regions grants xs end port unit ps (reads_on side c.args.access.now)
    c.args.memory.now.contents c.args.access.now.guarded es ws m g) (append-nil c.loop-i.list) whole
