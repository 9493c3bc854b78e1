-- What is shown of trusted memory was sent.
use Rattle.law_sealing.proofs.Terms.{◌≡◌, ◌≢◌, ◌⊎◌, inl, inr, ℕ, ◌+◌, ◌<◌, ◌==◌, ◌&&◌, zero, suc, Bool, true, false}
use Rattle.law_sealing.proofs.Terms.{not, List, [], ◌∷◌, length, slice_get, Option, Some, None, Result, Ok, Err}
use Rattle.law_sealing.proofs.Terms.{refl, ap, sym, subst, ◌∙◌, arith, if◌then◌else◌, Plan, History, Event, Verdict}
use Rattle.law_sealing.proofs.Terms.{Accepted, UnitName, Effect, Packet, PortName, received_in, CauseLaw}
use Rattle.law_sealing.proofs.Terms.{DrawFacts, StreamsFit, body, key_of, iv_of, is_sync_packet, Tlp, header, nat_tests}
use Rattle.law_sealing.proofs.Terms.{Send, Sealed}
use Rattle.law_sealing.proofs.OfPlans.{streams_fit}
use Rattle.law_verdicts.proofs.{accepted_known, admitted_means, at_port, cause_at, draws, get_less, memory_law}
use Rattle.ide_types.specs.Fits.{FitsPlan}
use Rattle.ide_types.specs.declared.plan.Region.{Region}
use Rattle.ide_types.specs.Sub.{sent_direction}
use Rattle.tlp_layout.specs.declared.head.HeadView.{HeadView}
use Rattle.tlp_layout.specs.declared.fault.TlpFault.{TlpFault}
use Rattle.tlp_layout.specs.Reading.{read_head_of}
use Rattle.trusted_memory.specs.Writes.{Write, memory_write, newest_first}
unfoldable use Rattle.trusted_memory.specs.Writes.{byte_last_written}
use Rattle.trusted_memory.specs.declared.span.Span.{Span}
use Rattle.trusted_memory.specs.Spans.{write_span}
use Rattle.trusted_memory.specs.Admitted.{if_placed}
use Rattle.std.specs.Option.{option_map}
use Rattle.spec_links.specs.Ports.{at_switch, port_of, goes_to_hop}
unfoldable use Rattle.spec_links.specs.Ports.{sealing_end}
use Rattle.ide_types.specs.Ends.{hop_end}
use Rattle.ide_types.specs.Ports.{device_port}
use Rattle.ide_types.specs.declared.port.Side.{Side}
use Rattle.ide_types.specs.declared.port.Side.TheVariants.{Host, Device}
use Rattle.std.specs.Prelude.{◌≤◌, nat_lt}
use Rattle.spec_interfaces.specs.Sites.{Site, site_at}
use Rattle.spec_interfaces.proofs.OnLinks.{number_on_link}
use Rattle.spec_links.specs.Memory.{Grants, write_if_admitted, payload_write, admitted_each, unit_ended, plain_of}
use Rattle.spec_links.specs.Memory.{accepted_unit_writes}
unfoldable use Rattle.spec_links.specs.Memory.{writes}
use Rattle.spec_interfaces.specs.Views.{grant_at}
use Rattle.spec_interfaces.specs.Cause.{owner_id}
use Rattle.law_verdicts.specs.{CameFrom}
use Rattle.law_delivery.specs.NoForgeryUnder.{UnitIsUnforged}
use Rattle.law_bytes.specs.LocalLaws.{IsLeftBy, HasOriginIf, ShowsSentIf, LocalByteOriginLaw}
use Rattle.law_bytes.proofs.Parts.{part_at, part_opens, part_admitted}
use Rattle.law_bytes.proofs.ByteOrigins.{own, admitted_for, host_device}
use Rattle.law_mmio.specs.Numbers.{IsOfWrite, IsLastByte}
use Rattle.script_events.specs.declared.event.Event.TheVariants as event
use Rattle.script_events.specs.declared.event.InterfaceEvent.TheVariants as ie
use Rattle.event_verdicts.specs.declared.verdict.Verdict.TheVariants as v
use Rattle.ide_types.specs.declared.verdict.InterfaceVerdict.TheVariants as iv

-- ---- the write that left a byte

-- ---- the pair that admitted it

-- the write at a place among those of a history, and the pair that admitted it
record AdmittedBy (plan : Plan) (h : History) (k : ℕ) (w : Write) : Type 0 where
  event : Event
  port : PortName
  unit : UnitName
  effects : List Effect
  older : History
  came : CameFrom ((event, Accepted port unit effects) ∷ older) h
  from : length (writes plan older) + k < length (writes plan h)
  until : length (writes plan h) ≤ k + length (writes plan ((event, Accepted port unit effects) ∷ older))
  number : ℕ
  is : slice_get (accepted_unit_writes plan older event port unit) number ≡ Some (Some w)

-- a write is among those that come, or among the older ones
abbrev IsNewest : List (Option Write) → List Write → ℕ → Write → Type 0
IsNewest os ws k w =
    ((n : ℕ) × (slice_get os n ≡ Some (Some w)) × (k + length ws < length (newest_first os ws)))
    ⊎ ((j : ℕ) × (slice_get ws j ≡ Some w) × (k + length ws ≡ j + length (newest_first os ws)))

newest_at : (os : List (Option Write)) (ws : List Write) (k : ℕ) (w : Write) → slice_get (newest_first os ws) k ≡ Some w
    → IsNewest os ws k w
newest_at [] ws k w is = inr (k, is, refl)
newest_at (None ∷ os) ws k w is = elim (newest_at os ws k w is)
    [ inl n ↦ inl (suc n.0, n.1, n.2) | inr j ↦ inr j ]
newest_at (Some x ∷ os) ws k w is = elim (newest_at os (x ∷ ws) k w is) [
  | inl n ↦ inl (suc n.0, n.1, omega (arith, n.2))
  | inr j ↦ first j.0 j.1 j.2
]
  where
    first : (j : ℕ) → slice_get (x ∷ ws) j ≡ Some w
        → k + suc (length ws) ≡ j + length (newest_first os (x ∷ ws)) → IsNewest (Some x ∷ os) ws k w
    first zero is at = inl (0, ap Some is, omega (arith, at))
    first (suc j) is at = inr (j, is, omega (arith, at))

later : (plan : Plan) (h : History) (pair : Event × Verdict) (k : ℕ) (w : Write)
    → writes plan (pair ∷ h) ≡ writes plan h → AdmittedBy plan h k w → AdmittedBy plan (pair ∷ h) k w
later plan h pair k w same at = record {
  event = at.event;
  port = at.port;
  unit = at.unit;
  effects = at.effects;
  older = at.older;
  came = record { since = pair ∷ at.came.since; is = ap (λ (g : History). pair ∷ g) at.came.is };
  from = let size = ap length same in omega (arith, size, at.from);
  until = let size = ap length same in omega (arith, size, at.until);
  number = at.number;
  is = at.is;
}

admitted_at : (plan : Plan) (h : History) (k : ℕ) (w : Write) → slice_get (writes plan h) k ≡ Some w
    → AdmittedBy plan h k w
unfolding writes
admitted_at plan [] k w is = absurd cc
admitted_at plan ((e, Accepted port unit effects) ∷ h) k w is =
    elim (newest_at (accepted_unit_writes plan h e port unit) (writes plan h) k w is) [
      | inl n ↦ record {
        event = e;
        port = port;
        unit = unit;
        effects = effects;
        older = h;
        came = record { since = []; is = refl };
        from = omega (arith, n.2);
        until = omega arith;
        number = n.0;
        is = n.1;
      }
      | inr j ↦
          let at = admitted_at plan h j.0 w j.1 in
          let place = j.2 in
          let from = at.from in
          let until = at.until in
          record {
            event = at.event;
            port = at.port;
            unit = at.unit;
            effects = at.effects;
            older = at.older;
            came = record {
              since = (e, Accepted port unit effects) ∷ at.came.since;
              is = ap (λ (g : History). (e, Accepted port unit effects) ∷ g) at.came.is;
            };
            from = omega (arith, place, from);
            until = omega (arith, place, until);
            number = at.number;
            is = at.is;
          }
    ]
admitted_at plan (pair ∷ h) k w is = later plan h pair k w refl (admitted_at plan h k w is)

-- ---- its packet

record IsPacketAt (ps : List Packet) (n : ℕ) : Type 0 where
  packet : Packet
  stands : slice_get ps n ≡ Some packet

packet_at : (plan : Plan) (grants : Grants) (port : PortName) (unit : UnitName) (plain : List ℕ) (ps : List Packet)
    (n : ℕ) (o : Option Write) → slice_get (admitted_each plan grants port unit plain ps) n ≡ Some o → IsPacketAt ps n
packet_at plan grants port unit plain [] n o is = absurd cc
packet_at plan grants port unit plain (p ∷ ps) zero o is = record { packet = p; stands = refl }
packet_at plan grants port unit plain (p ∷ ps) (suc n) o is =
    let rest = packet_at plan grants port unit _ ps n o is in record { packet = rest.packet; stands = rest.stands }

placed_is : (regions : List Region) (b : Bool) (o : Option Write) (w : Write) → if_placed regions b o ≡ Some w → o
    ≡ Some w
placed_is regions b None w is = absurd cc
placed_is regions b (Some z) w is = grind arith

write_is : (plan : Plan) (grants : Grants) (port : PortName) (unit : UnitName) (p : Packet) (payload : List ℕ)
    (w : Write) (head : HeadView) → write_if_admitted plan grants port unit p payload ≡ Some w → read_head_of p.head
    ≡ Ok head → memory_write head payload ≡ Some w
write_is plan grants port unit p payload w head is reads =
    by (not (is_sync_packet p)) (at_switch plan port) (sent_direction port.side == 0) (read_head_of p.head) reads is
  where
    by : (a c b : Bool) (r : Result HeadView TlpFault) → r ≡ Ok head
        → (if a && (not c && b) then payload_write plan grants port unit p.prefix.t payload r else None) ≡ Some w
        → memory_write head payload ≡ Some w
    by false c b r reads is = absurd cc
    by true true b r reads is = absurd cc
    by true false false r reads is = absurd cc
    by true false true (Err f) reads is = absurd cc
    by true false true (Ok k) reads is =
        let same : k ≡ head = cc (reads) in
        subst (λ (z : HeadView). memory_write z payload ≡ Some w) same
        (placed_is plan.memory _ (memory_write k payload) w is)

span_is : (head : HeadView) (payload : List ℕ) (w : Write) → memory_write head payload ≡ Some w
    → write_span head ≡ Some w.span
span_is head payload w is = by (write_span head) is
  where
    by : (o : Option Span) → option_map (λ s. record { span = s; payload = payload }) o ≡ Some w → o ≡ Some w.span
    by None is = absurd cc
    by (Some s) is = cc (is)

-- ---- the port that it was given to

not_there : (links line link : ℕ) → links ≤ 8 → nat_lt line links ≡ true → 16 + link ≡ line → ⊥
not_there links line link most is far = absurd (omega (arith, most, far, lt_of line links is))
  where
    lt_of : (m n : ℕ) → nat_lt m n ≡ true → m < n
    lt_of m n is = grind (arith, nat_tests, is)

-- what is sealed at the end of a link's device was given to that device's port
given_there : (plan : Plan) → FitsPlan plan → (x : Site) → site_at plan x.number ≡ Some x → (q : PortName)
    (bytes : List ℕ) → sealing_end plan q bytes ≡ device_port x.link → q ≡ device_port x.link
unfolding sealing_end
given_there plan fits x known q bytes is = by (goes_to_hop plan q bytes) is
  where
    by_side : (side : Side) (link : ℕ) → hop_end side link ≡ device_port x.link → ⊥
    by_side Host link is = host_device (ap (λ (r : PortName). r.side) is)
    by_side Device link is = not_there (length plan.links) x.link link fits.links_most (number_on_link plan x known)
        (ap (λ (r : PortName). r.line) is)

    by : (b : Bool) → (if b then hop_end q.side q.line else q) ≡ device_port x.link → q ≡ device_port x.link
    by false is = is
    by true is = absurd (by_side q.side q.line is)

-- ---- one write

-- the write of an admitted packet whose body masks the payload of a TLP that its interface sent
write_sent : (plan : Plan) (grants : Grants) (q : PortName) (unit : UnitName) (p : Packet) (payload : List ℕ)
    (w : Write) (head : HeadView) (tlp : Tlp) → write_if_admitted plan grants q unit p payload ≡ Some w
    → read_head_of p.head ≡ Ok head → header tlp ≡ head → payload ≡ body tlp → memory_write (header tlp) (body tlp)
    ≡ Some w
write_sent plan grants q unit p payload w head tlp is reads head_is opens =
    (λ i. memory_write (head_is i) (sym opens i)) ∙ write_is plan grants q unit p payload w head is reads

origin_by : (plan : Plan) → FitsPlan plan → StreamsFit plan → DrawFacts plan → (h : History) → CauseLaw plan h
    → (at byte : ℕ) (left : IsLeftBy plan h at byte) → HasOriginIf UnitIsUnforged plan h at byte
origin_by plan whole fits facts h cause at byte left =
    let e = left.event in
    let port = left.port in
    let unit = left.unit in
    let older = left.older in
    let pairs = (e, Accepted port unit left.effects) ∷ older in
    let here = cause_at plan left.came.since pairs h left.came.is cause in
    let q = port_of plan port in
    let ps = unit_ended plan older e port unit in
    let plain = plain_of plan port unit ps in
    let n = left.number in
    let w = left.of.write in
    let it = packet_at plan (grant_at plan older) q unit plain ps n (Some w) left.admitted in
    let payload = part_at plain ps n it.packet in
    let is = part_admitted plan (grant_at plan older) q unit plain ps n it.packet (Some w) left.admitted it.stands in
    let adm = at_port plan whole older port unit it.packet (accepted_known plan older e port unit left.effects here.0)
    (admitted_means plan older q unit it.packet payload w is) in
    let site = admitted_for plan older port unit it.packet adm in
    let writes = span_is adm.head payload w
    (write_is plan (grant_at plan older) q unit it.packet payload w adm.head is adm.reads) in
    record {
      left = left;
      interface = site.site;
      known = site.known;
      link = site.link_is;
      stream = site.stream_is;
      sent = λ unforged.
          let sent = own plan whole fits facts older e port unit left.effects here unforged n it.packet adm it.stands
          w.span writes in
          let opens : payload ≡ body sent.tlp =
          part_opens (key_of plan unit.draw (received_in port unit)) (iv_of unit.sub unit.unit) ps n it.packet
          (body sent.tlp) it.stands sent.body_is in
          record {
            bytes = sent.bytes;
            more = sent.more;
            trusted = sent.trusted;
            ds = sent.ds;
            older = sent.older;
            came = subst (λ (r : PortName). CameFrom
                ((Send r sent.bytes sent.more sent.trusted, Sealed sent.ds) ∷ sent.older)
                older) (given_there plan whole site.site site.known sent.port_sent sent.bytes sent.at_device) sent.came;
            tlp = sent.tlp;
            reads = sent.reads;
            is_write = write_sent plan (grant_at plan older) q unit it.packet payload w adm.head sent.tlp is adm.reads
                sent.head_is opens;
            requester = requested sent.tlp adm.head (Some site.site.plan.requester) sent.head_is site.requester;
            runs = sent.runs;
            same_lock = sent.same_lock;
          };
    }
  where
    requested : (tlp : Tlp) (head : HeadView) (o : Option ℕ) → header tlp ≡ head → owner_id head ≡ o
        → owner_id (header tlp) ≡ o
    requested tlp head o same is = ap owner_id same ∙ is

is_left_by : (plan : Plan) (h : History) (at byte : ℕ) → IsOfWrite (writes plan h) at byte → IsLeftBy plan h at byte
is_left_by plan h at byte of =
    let by = admitted_at plan h of.place of.write of.stands in
    record {
      of = of;
      event = by.event;
      port = by.port;
      unit = by.unit;
      effects = by.effects;
      older = by.older;
      came = by.came;
      from = by.from;
      until = by.until;
      number = by.number;
      admitted = by.is;
    }

-- ---- the laws

some_byte : (a b : ℕ) → Some a ≡ Some b → a ≡ b
some_byte a b is = cc (is)

shows_locally : (plan : Plan) → FitsPlan plan → (h : History) (e : Event) (w : Verdict) → CauseLaw plan ((e, w) ∷ h)
    → ShowsSentIf UnitIsUnforged plan h e w
shows_locally plan fits h (event.Interface (ie.Memory at len)) (v.Interface (iv.Memory bytes)) cause =
    λ k byte is some.
    let shown = (memory_law plan ((event.Interface (ie.Memory at len), v.Interface (iv.Memory bytes)) ∷ h) cause).1 in
    let less : k < len = omega (arith, get_less bytes k byte is, shown.0) in
    let here = shown.1 k less in
    let same = some_byte here.byte byte (sym here.is ∙ is) in
    origin_by plan fits (streams_fit plan fits) (draws plan) h cause.1 (at + k) byte
    (by_write h (at + k) byte some (subst (IsLastByte (writes plan h) (at + k)) same here.left))
  where
    by_write : (h : History) (at byte : ℕ) → byte ≢ 0 → IsLastByte (writes plan h) at byte → IsLeftBy plan h at byte
    by_write h at byte some (inl of) = is_left_by plan h at byte of
    by_write h at byte some (inr none) = absurd (some none.byte_is)
shows_locally plan fits h (event.Interface (ie.Memory at len)) (v.Interface w) cause = tt
shows_locally plan fits h (event.Interface (ie.Memory at len)) w cause = tt
shows_locally plan fits h (event.Interface e) w cause = tt
shows_locally plan fits h e w cause = tt

pub byte_origin : (plan : Plan) → FitsPlan plan → (h : History) → CauseLaw plan h → LocalByteOriginLaw plan h
byte_origin plan fits [] cause = tt
byte_origin plan fits ((e, w) ∷ h) cause =
    (shows_locally plan fits h e w cause, byte_origin plan fits h cause.1)
