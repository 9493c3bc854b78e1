use Rattle.all_links.proofs.Terms.{ap, sym, ◌∙◌, ◌≡◌, ◌+◌, ℕ, length, List, ◌++◌, map, append-nil, MeasuredPacket, Sent}
use Rattle.all_links.proofs.Terms.{lengths_sent, Links, PortName, Plan}
use Rattle.ide_port.specs.declared.answer.Sent.TheVariants.{Sealed}
use Rattle.spec_links.specs.Ports.{port_of}
use Rattle.line_arrivals.specs.{cut_packets, end_sent_verdict}
use Rattle.all_links.proofs.Sends.{not_sealed}
use Rattle.all_links.proofs.links.Links.keep_sent.Goals.{in-Sealed, in_default}
use Rattle.all_links.proofs.links.Links.keep_sent.Goals as goal

pub keep-requires-clause-lengths : goal.keep-requires-clause-lengths
keep-requires-clause-lengths c =
    c.requires.lengths c.as_slice.result.now
    (c.in-Sealed.is ∙ ap (λ (ps : List MeasuredPacket). Sealed ps) (sym c.as_slice.ensures.value))
    ∙ ap (λ (bs : List ℕ). length bs) (sym c.as_slice-in-Sealed.ensures.value)

pub returns-clause-verdict : goal.returns-clause-verdict
returns-clause-verdict c =
    let plan : Plan = c.args.plan.now in
    let sent : Sent = c.args.sent.now in
    c.send_verdict.ensures
    ∙ ap (λ (p : PortName). end_sent_verdict c.args.end p (c.count.result + 1) sent) c.port_of.ensures
    ∙ ap (λ (n : ℕ). end_sent_verdict c.args.end (port_of plan c.args.end) (n + 1) sent) c.count.ensures.value

-- only the packets that are kept differ, and the steps
counted : (old mid : Links) → mid ≡ record old { packets = mid.packets } → record mid { steps = mid.steps + 1 }
    ≡ record old { packets = mid.packets; steps = old.steps + 1 }
counted old mid is = ap (λ (s : Links). record s { steps = s.steps + 1 }) is

pub returns-clause-links : goal.returns-clause-links
returns-clause-links c =
    let old : Links = c.args.self.now in
    let mid : Links = c.match-sent.self in
    elim c.match-sent.branch [
      | in-Sealed w ↦
          counted old mid (w.self-is ∙ ap (λ p. record old { packets = p }) (sym (ap (λ (s : Links). s.packets)
          w.self-is)))
      | in_default w ↦
          counted old mid (w.self-is ∙ ap (λ p. record old { packets = p }) (sym (ap (λ (s : Links). s.packets)
          w.self-is)))
    ]

pub returns-clause-packets : goal.returns-clause-packets
returns-clause-packets c =
    let old : Links = c.args.self.now in
    let sent : Sent = c.args.sent.now in
    elim c.match-sent.branch [
      | in-Sealed w ↦
          let lengths : map (λ (p : MeasuredPacket). p.length) w.as_slice.result.now ≡ lengths_sent sent =
          ap (λ (ps : List MeasuredPacket). map (λ (p : MeasuredPacket). p.length) ps) w.as_slice.ensures.value ∙ ap
          (λ (a : Sent). lengths_sent a) (sym w.in-Sealed.is) in
          ap (λ (s : Links). s.packets.packets) w.self-is ∙ w.keep.ensures
          ∙ (λ i. old.packets.packets ++ cut_packets c.args.end (lengths i) (w.as_slice-in-Sealed.ensures.value i))
      | in_default w ↦
          ap (λ (s : Links). s.packets.packets) w.self-is ∙ sym (append-nil old.packets.packets)
          ∙ ap (λ (ns : List ℕ). old.packets.packets ++ cut_packets c.args.end ns old.sealed)
          (sym (not_sealed sent w.in_default.not-Sealed))
    ]
