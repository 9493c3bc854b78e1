use Rattle.std.proofs.Common.{◌≡◌, List, ◌++◌, ◌+◌, ◌∷◌, drop, ap, sym, ◌∙◌}
use Rattle.std.proofs.lemmas.List.{append_assoc, drop_more}
use Rattle.std.proofs.lemmas.Option.{get_or_from_slice_get, slice_get_within}
use Rattle.ide_prefix.specs.Cut.{packet_of_view}
use Rattle.ide_prefix.specs.Packet.{Packet}
use Rattle.told_facts.specs.declared.fact.Fact.{Fact}
use Rattle.why_facts.specs.Forms.{request_facts, requests_facts}
use Rattle.ide_why.specs.Facts.{readings_read}
use Rattle.ide_why.proofs.reader.Reader.push_held.Goals as goal

pub loop-i-preserved : goal.loop-i-preserved
loop-i-preserved c =
    let plan = c.args.self.now.plan.now in
    let r = readings_read c.args.self.now.links.now in
    let port = c.args.port in
    let place = c.loop-i.i + 1 in
    let ps : List Packet = c.args.held.now in
    let p : Packet = packet_of_view c.packet-packet.result in
    let at = c.packet-packet.ensures.packet in
    let here : drop c.loop-i.i ps ≡ p ∷ drop place ps = drop_more ps c.loop-i.i p (slice_get_within ps c.loop-i.i p at)
    ∙ ap (λ (x : Packet). x ∷ drop place ps) (get_or_from_slice_get ps c.loop-i.i p p at) in
    let rest : List Fact = requests_facts plan r port (place + 1) (drop place ps) in
    ap (λ (fs : List Fact). fs ++ rest) c.in_ok-push_request.ensures
    ∙ append_assoc c.loop-i.facts.items (request_facts plan r port place p) rest
    ∙ ap (λ (qs : List Packet). c.loop-i.facts.items ++ requests_facts plan r port place qs) (sym here)
    ∙ c.loop-i.invariant
