-- Each byte of trusted memory was sent by an interface in the RUN in which it was admitted. The write that left it was
-- admitted of a packet; that packet is one that was sealed, in its unit at the same place, so its payload opens to the
-- payload of the TLP that was sent; and the TLP was sealed for its interface in that RUN.
use Rattle.law_sealing.proofs.Terms.{◌≡◌, ℕ, ◌+◌, ◌≤◌, ◌<◌, Bool, true, false, List, [], ◌∷◌, ◌++◌, length}
use Rattle.law_sealing.proofs.Terms.{length-append, take, slice_get, Some, Ok, refl, ap, sym, ◌∙◌, arith, if◌then◌else◌}
use Rattle.law_sealing.proofs.Terms.{Plan, SubStream, History, Event, Send, Sealed, Accepted, UnitName, Effect}
use Rattle.law_sealing.proofs.Terms.{SealedPacket, Packet, PortName, received_in, sent_packets, accepted_packets}
use Rattle.law_sealing.proofs.Terms.{CauseLaw, DrawFacts, StreamsFit, Tlp, header, body, read_of}
use Rattle.law_sealing.proofs.Terms.{sub_stream_of, sealed_same, SealedList, sealed_packets, accepted_by, numbered}
use Rattle.law_sealing.proofs.Terms.{encrypted_bytes, masked_bytes, iv_of, units, open_unit, sub_stream_packets}
use Rattle.law_sealing.proofs.Terms.{open_unit-unfinished, arrived_packet, packets_in_hold, sent_bytes, sending_port}
use Rattle.law_sealing.proofs.Terms.{sealing_is, all_live, sealed_by_sealing, key_of, nat_tests, Prefix, FitsPacket}
use Rattle.law_sealing.proofs.Terms.{Pr, subst}
unfoldable use Rattle.law_sealing.proofs.Terms.{packet_of, due}
use Rattle.std.proofs.lemmas.Bool.{true≢false}
use Rattle.law_verdicts.proofs.{Admitted, For, IsNew, all_get, at_device_end, cause_at, cause_before, get_less}
use Rattle.law_verdicts.proofs.{got_next, head_of, interface_cause, live_port, owner_means, sent_at, trusted_before}
use Rattle.law_verdicts.proofs.{trusted_there}
use Rattle.tlp_layout.specs.Reading.{read_head_of}
unfoldable use Rattle.spec_links.proofs.Terms.{bytes_by}
use Rattle.spec_links.proofs.Terms.{Access}
use Rattle.std.specs.Prelude.{nat_lt}
use Rattle.ide_types.specs.Ports.{device_port}
use Rattle.ide_types.specs.declared.direction.Direction.{Direction}
use Rattle.ide_types.specs.declared.direction.Direction.TheVariants.{Downstream, Upstream}
use Rattle.ide_types.specs.Fits.{FitsPlan}
use Rattle.spec_links.specs.Hops.{leaving_end}
use Rattle.spec_interfaces.proofs.OnLinks.{number_on_link}
use Rattle.ide_types.specs.declared.port.Side.TheVariants.{Host, Device}
use Rattle.spec_links.specs.Plan.{key_plan}
use Rattle.spec_links.specs.Ports.{sealing_end}
use Rattle.spec_links.specs.History.{payload_in, head_in, prefix_of}
use Rattle.trusted_memory.specs.declared.span.Span.{Span}
use Rattle.trusted_memory.specs.Spans.{write_span}
use Rattle.spec_links.specs.Memory.{unit_ended}
use Rattle.law_key_facts.proofs.Given.{key_cause}
use Rattle.law_sealing.proofs.Sums.{in_parts}
use Rattle.law_sealing.proofs.Places.{place_among, placed, unit_is}
use Rattle.law_delivery.specs.NoForgeryUnder.{UnitIsUnforged}
use Rattle.law_delivery.proofs.Prefixes.{got_begins}
use Rattle.law_delivery.proofs.GotUnits.{got_units, units-front_append}
use Rattle.law_delivery.proofs.Received.{held_front}
use Rattle.spec_interfaces.specs.Views.{floor_at}
use Rattle.spec_interfaces.specs.Devices.{runs_at, locks_accepted}
use Rattle.spec_interfaces.specs.Cause.{SealFits, owner_id}
use Rattle.spec_interfaces.specs.Laws.{IsTrusted, InRun}
use Rattle.spec_interfaces.proofs.Views.{views_hold}
use Rattle.law_verdicts.specs.{CameFrom}
use Rattle.law_bytes.proofs.SealedBy.{IsAmong, IsSealedFor, sealed_by}
use Rattle.law_bytes.proofs.Posted.{sub_posted, no_response, not_completed}
use Rattle.law_bytes.proofs.Ranges.{body_of}
use Rattle.law_bytes.proofs.Parts.{take-behind, front_take}
use Rattle.script_events.specs.declared.event.AccessEvent.TheVariants as ae
use Rattle.script_events.specs.declared.event.Event.TheVariants.{Forward}

-- ---- the packets of a unit, where they were sealed

-- what stands before packet n of the unit that ends, in its sub-stream and draw: what was got, and n packets of it
pub record IsWithin (plan : Plan) (h : History) (e : Event) (port : PortName) (unit : UnitName) (n : ℕ) : Type 0 where
  pub front : take (length (accepted_packets plan h (received_in port unit) unit.draw) + n)
      (sent_packets plan h (received_in port unit) unit.draw)
      ≡ accepted_packets plan h (received_in port unit) unit.draw ++ take n (unit_ended plan h e port unit)
  pub left : open_unit (accepted_packets plan h (received_in port unit) unit.draw
      ++ take n (unit_ended plan h e port unit))
      ≡ take n (unit_ended plan h e port unit)
  pub number : length (units
      (accepted_packets plan h (received_in port unit) unit.draw ++ take n (unit_ended plan h e port unit))) + 1
      ≡ unit.unit

pub is_within : (plan : Plan) → StreamsFit plan → DrawFacts plan → (h : History) (e : Event) (port : PortName)
    (unit : UnitName) (effects : List Effect)
    → CauseLaw plan ((e, Accepted port unit effects) ∷ h) → UnitIsUnforged plan h e (Accepted port unit effects)
    → (n : ℕ) → n < length (unit_ended plan h e port unit) → IsWithin plan h e port unit n
is_within plan fits facts h e port unit effects cause forged n less =
    let s = received_in port unit in
    let ps = unit_ended plan h e port unit in
    let g = accepted_packets plan h s unit.draw in
    let begins = got_begins plan fits facts ((e, Accepted port unit effects) ∷ h) cause s unit.draw forged in
    let all : sent_packets plan h s unit.draw ≡ (g ++ ps) ++ begins.0 =
    ap (λ (xs : SealedList). sub_stream_packets xs s unit.draw)
    (sym (sealed_same plan h e (Accepted port unit effects) refl))
    ∙ (sym begins.1 ∙ ap (λ (qs : List Packet). qs ++ begins.0) (got_next plan h e port unit effects)) in
    let by = accepted_by plan h e port unit effects cause.0 in
    let are = got_units plan h cause.1 s unit.draw in
    let us = packets_in_hold plan h s unit.draw unit.unit in
    let z = arrived_packet plan h e in
    let size = length-append us (z ∷ []) in
    let front = front_take us z n (held_front plan h cause.1 s unit.draw unit.unit) (omega (arith, less, size)) in
    let number = numbered plan h port by.packet unit by.passed in
    record {
      front = ap (take (length g + n)) all ∙ take-behind g ps begins.0 n (omega (arith, less));
      left = open_unit-unfinished g (take n ps) front ∙ ap (λ (qs : List Packet). qs ++ take n ps) are.none;
      number = ap (λ (xs : List (List Packet)). length xs + 1) (units-front_append g (take n ps) front)
          ∙ omega (arith, are.count, number);
    }

-- ---- the send

not_synced : (sync t : Bool) → (if sync then false else t) ≡ true → sync ≡ false
not_synced true t e = absurd cc
not_synced false t e = refl

head_of_packet : (plan : Plan) (ahead bytes : List ℕ) (d : SealedPacket) (unfinished : List Packet) → d.sync ≡ false
    → (packet_of plan ahead bytes d unfinished).head ≡ head_in (read_of bytes)
unfolding packet_of
head_of_packet plan ahead bytes d unfinished sync = rw sync refl

pub host_device : Host ≡ Device → ⊥
host_device is = absurd cc

pub less_is : (m n : ℕ) → nat_lt m n ≡ true → m < n
less_is m n is = grind (arith, nat_tests, is)

-- what a switch seals is sealed on no link
from_switch : (plan : Plan) → FitsPlan plan → (link : ℕ) (way : Direction) (l : ℕ)
    → nat_lt l (length plan.links) ≡ true → leaving_end link way ≡ device_port l → ⊥
from_switch plan whole link Downstream l less is = host_device (ap (λ (q : PortName). q.side) is)
from_switch plan whole link Upstream l less is =
    let there : 8 + link ≡ l = ap (λ (q : PortName). q.line) is in
    absurd (omega (arith, there, whole.links_most, less_is l (length plan.links) less))

-- the port of a packet is the one that its event seals at
pub sealed_port : (plan : Plan) (h : History) (e : Event) (ds : List SealedPacket) (d : SealedPacket) → IsAmong ds d
    → Sealed ds ≡ due plan h e → d.port ≡ sending_port plan h e
sealed_port plan h e ds d among is =
    let sealing = sealing_is plan h e ds is in
    live_port plan h sealing.sending.port sealing.sending.stream ds among.index d
    (all_live plan h (sending_port plan h e) (sent_bytes plan h e) ds sealing) among.listed
    ∙ sealing.at_port

-- the interface that a packet is admitted for
pub admitted_for : (plan : Plan) (h : History) (port : PortName) (unit : UnitName) (p : Packet)
    (adm : Admitted plan h port unit p) → For plan h port.line unit.stream unit.draw adm.head
admitted_for plan h port unit p adm = owner_means plan h port.line unit.stream unit.draw adm.head (owner_id adm.head)
    refl adm.bound

-- all that is known of packet n
module _ (plan : Plan) (whole : FitsPlan plan) (fits : StreamsFit plan) (facts : DrawFacts plan) (h : History)
    (e : Event) (port : PortName)
    (unit : UnitName) (effects : List Effect) (cause : CauseLaw plan ((e, Accepted port unit effects) ∷ h))
    (forged : UnitIsUnforged plan h e (Accepted port unit effects)) (n : ℕ) (p : Packet)
    (adm : Admitted plan h port unit p) (stands : slice_get (unit_ended plan h e port unit) n ≡ Some p) (span : Span)
    (writes : write_span adm.head ≡ Some span) where
  abbrev s : SubStream
  s = received_in port unit

  abbrev m : ℕ
  m = length (accepted_packets plan h s unit.draw) + n

  abbrev for : For plan h port.line unit.stream unit.draw adm.head
  for = admitted_for plan h port unit p adm

  -- its body masks the payload of a TLP that its interface sent in RUN
  pub record IsOwn : Type 0 where
    pub port_sent : PortName
    pub bytes : List ℕ
    pub more : Bool
    pub trusted : Bool
    pub ds : List SealedPacket
    pub older : History
    pub came : CameFrom ((Send port_sent bytes more trusted, Sealed ds) ∷ older) h
    pub at_device : sealing_end plan port_sent bytes ≡ device_port for.site.link
    pub tlp : Tlp
    pub reads : read_of bytes ≡ Ok tlp
    pub head_is : header tlp ≡ adm.head
    pub runs : runs_at plan older for.site ≡ true
    pub same_lock : locks_accepted plan older for.site ≡ locks_accepted plan h for.site
    pub body_is : p.body ≡ masked_bytes (key_of plan unit.draw s) (iv_of unit.sub unit.unit)
        (length (encrypted_bytes (take n (unit_ended plan h e port unit)))) (body tlp)

  -- the packet, where it was sealed for these bytes
  body_at : (bytes : List ℕ) (t : Tlp) (place : ℕ) (x : SealedPacket × Packet)
      → slice_get (sealed_packets plan h) place ≡ Some x → x.1 ≡ p → sub_stream_of x.0 ≡ s → x.0.draw ≡ unit.draw
      → sub_stream_packets (take place (sealed_packets plan h)) s unit.draw ≡ take m (sent_packets plan h s unit.draw)
      → IsSealedFor plan (take place (sealed_packets plan h)) bytes x → x.0.sync ≡ false → read_of bytes ≡ Ok t
      → p.body ≡ masked_bytes (key_of plan unit.draw s) (iv_of unit.sub unit.unit)
      (length (encrypted_bytes (take n (unit_ended plan h e port unit)))) (body t)
  body_at bytes t place x at same stream draw before made sync reads =
      let ps = unit_ended plan h e port unit in
      let xs = sealed_packets plan h in
      let within = is_within plan fits facts h e port unit effects cause forged n (get_less ps n p stands) in
      let all = before ∙ within.front in
      let number : x.0.unit ≡ unit.unit =
      unit_is plan xs (placed plan fits facts h cause.1) place x at s unit.draw stream draw
      ∙ (ap (λ (qs : List Packet). length (units qs) + 1) all ∙ within.number) in
      let left : open_unit (sub_stream_packets (take place xs) (sub_stream_of x.0) x.0.draw) ≡ take n ps =
      (λ i. open_unit (sub_stream_packets (take place xs) (stream i) (draw i))) ∙ (ap open_unit all ∙ within.left) in
      let payload : (if x.0.sync then [] else payload_in (read_of bytes)) ≡ body t = rw (sync, reads) refl in
      ap (λ (q : Packet). q.body) (sym same)
      ∙ (ap (λ (q : Packet). q.body) made.packet
      ∙ (body_of plan made.ahead bytes x.0 _
      ∙ (λ i. masked_bytes (key_of plan (draw i) (stream i)) (iv_of (stream i).sub (number i))
      (length (encrypted_bytes (left i)))
      (payload i))))

  own_of : (port_sent : PortName) (bytes : List ℕ) (more trusted : Bool) (ds : List SealedPacket) (older : History)
      (place : ℕ) (x : SealedPacket × Packet) → slice_get (sealed_packets plan h) place ≡ Some x → x.1 ≡ p
      → sub_stream_of x.0 ≡ s → x.0.draw ≡ unit.draw → sub_stream_packets (take place (sealed_packets plan h)) s
      unit.draw ≡ take m (sent_packets plan h s unit.draw) → CameFrom
      ((Send port_sent bytes more trusted, Sealed ds) ∷ older) h → IsAmong ds x.0 → sealing_end plan port_sent bytes
      ≡ x.0.port → IsSealedFor plan (take place (sealed_packets plan h)) bytes x → IsOwn
  own_of port_sent bytes more trusted ds older place x at same stream draw before came among end made =
      let site = for.site in
      let known = interface_cause plan h cause.1 in
      let new : IsNew plan bytes ds x.0 x.1 = record
      { index = among.index; listed = among.listed; ahead = made.ahead; unfinished = _; packet = made.packet } in
      let fit = all_get (SealFits plan older bytes trusted) ds among.index x.0
      (cause_before plan ((Send port_sent bytes more trusted, Sealed ds) ∷ older) h came known).0 among.listed in
      let is_trusted = trusted_there plan h port unit p adm for x.0 x.1 older bytes trusted ds same stream new fit in
      let runs = (views_hold plan (key_plan plan) h (key_cause plan h cause.1) known site for.known).running for.view in
      let since = trusted_before plan site
      (λ g d. floor_at h site ≤ d.draw → InRun plan site (locks_accepted plan h site) g)
      ((Send port_sent bytes more trusted, Sealed ds) ∷ older) h came runs.since in
      let there = all_get (λ (y : SealedPacket). IsTrusted plan site bytes y → floor_at h site ≤ y.draw
      → InRun plan site (locks_accepted plan h site) older) ds among.index x.0 since.0 among.listed in
      let in_run = there is_trusted (omega (arith, for.floor, draw)) in
      let sync : x.0.sync ≡ false = not_synced x.0.sync _ (sym fit.t_is ∙ is_trusted.has_t) in
      let head = ap (λ (r : Packet). r.head) (sym same) ∙ ap (λ (r : Packet). r.head) made.packet
      ∙ head_of_packet plan made.ahead bytes x.0 _ sync in
      let tlp = head_of bytes adm.head (read_of bytes) refl
      (ap (λ (bs : List ℕ). read_head_of bs) (sym head) ∙ adm.reads)
      in
      record {
        port_sent = port_sent;
        bytes = bytes;
        more = more;
        trusted = trusted;
        ds = ds;
        older = older;
        came = came;
        at_device = end ∙ is_trusted.at_device;
        tlp = tlp.0;
        reads = tlp.1;
        head_is = tlp.2;
        runs = in_run.runs;
        same_lock = in_run.same_lock;
        body_is = body_at bytes tlp.0 place x at same stream draw before made sync tlp.1;
      }

  on_link : nat_lt port.line (length plan.links) ≡ true
  on_link = ap (λ (l : ℕ). nat_lt l (length plan.links)) (sym for.link_is) ∙ number_on_link plan for.site for.known

  -- by the event that sealed it: a send, as an answer's end is a host's, a forward's is a switch's, and a response
  -- seals
  -- completions
  by_event : (ev : Event) (ds : List SealedPacket) (older : History) (place : ℕ) (x : SealedPacket × Packet)
      → slice_get (sealed_packets plan h) place ≡ Some x → x.1 ≡ p → sub_stream_of x.0 ≡ s → x.0.draw ≡ unit.draw
      → sub_stream_packets (take place (sealed_packets plan h)) s unit.draw ≡ take m (sent_packets plan h s unit.draw)
      → CameFrom ((ev, Sealed ds) ∷ older) h → IsAmong ds x.0 → CauseLaw plan ((ev, Sealed ds) ∷ older) → x.0.t ≡ true
      → x.0.sub ≡ Pr → x.0.port ≡ device_port port.line
      → IsSealedFor plan (take place (sealed_packets plan h)) (sent_bytes plan older ev) x → IsOwn
  unfolding bytes_by
  by_event (Send q bytes more trusted) ds older place x at same stream draw before came among law has_t posted device
      made =
      own_of q bytes more trusted ds older place x at same stream draw before came among
      (sym (sealed_port plan older (Send q bytes more trusted) ds x.0 among law.0)) made
  by_event (Access (ae.Answer link)) ds older place x at same stream draw before came among law has_t posted device
      made =
      absurd (host_device (sym (ap (λ (q : PortName). q.side)
      (sealed_port plan older (Access (ae.Answer link)) ds x.0 among law.0))
      ∙ ap (λ (q : PortName). q.side) device))
  by_event (Access (ae.Respond link)) ds older place x at same stream draw before came among law has_t posted device
      made =
      absurd (no_response plan older link ds x.0 law among has_t (not_completed x.0.sub posted))
  by_event (Forward link way) ds older place x at same stream draw before came among law has_t posted device made =
      absurd (from_switch plan whole link way port.line on_link
      (sym (sealed_port plan older (Forward link way) ds x.0 among law.0) ∙ device))
  by_event ev ds older place x at same stream draw before came among law has_t posted device made =
      absurd (true≢false (sym (sealed_by_sealing plan older ev ds law.0)))

  pub own : IsOwn
  own =
      let at = sent_at plan fits facts h e port unit effects cause forged n p stands in
      let among = place_among (sealed_packets plan h) s unit.draw m p at in
      let names = in_parts s unit.draw among.sealed among.under in
      let device = at_device_end among.sealed.0.port port.side port.line
      (ap (λ (t : SubStream). t.line) names.2) (ap (λ (t : SubStream). t.direction) names.2) adm.host in
      let by = sealed_by plan h among.place among.sealed among.stands in
      let there = cause_at plan by.came.since ((by.event, Sealed by.ds) ∷ by.older) h by.came.is cause.1 in
      let of = placed plan fits facts h cause.1 among.place among.sealed among.stands in
      let prefix : p.prefix ≡ prefix_of among.sealed.0 = ap (λ (q : Packet). q.prefix) (sym among.packet) ∙ of.prefix in
      let posted = sub_posted p (subst FitsPacket among.packet of.fits) adm.trusted adm.head adm.reads span writes in
      by_event by.event by.ds by.older among.place among.sealed among.stands among.packet names.2 names.1 among.before
      by.came by.among there (sym (ap (λ (f : Prefix). f.t) prefix) ∙ adm.trusted)
      (sym (ap (λ (f : Prefix). f.sub) prefix) ∙ posted) device by.for
