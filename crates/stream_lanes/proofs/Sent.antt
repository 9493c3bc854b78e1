-- What the senders of a stream make of a TLP, packet by packet: the packets, lengths, bytes and senders of the rules.
-- Sync packets go only before a posted TLP, so it goes by class and, for a posted one, by which of the two go first.
-- Each packet is that of the rules, as neither its number nor its port is in it and a sync packet has nothing of the
-- TLP; after sync packets the TLP's own sender is as before, and the joined bytes are only grouped anew.
use Rattle.std.proofs.Common.{◌≡◌, ℕ, ◌+◌, Bool, true, false, if◌then◌else◌, List, [], ◌∷◌, ◌++◌, length, map, Option}
use Rattle.std.proofs.Common.{Some, None, refl, sym, ap, ◌∙◌, subst, arith, append_assoc, append-nil}
use Rattle.ide_types.specs.declared.sub.SubKind.{SubKind}
use Rattle.ide_types.specs.declared.sub.SubKind.TheVariants.{Pr, Npr, Cpl}
use Rattle.ide_types.specs.declared.port.PortName.{PortName}
use Rattle.event_verdicts.specs.declared.verdict.SealedPacket.{SealedPacket as Described}
use Rattle.ide_prefix.specs.Packet.{Packet, packet_bytes}
use Rattle.spec_stream.specs.Sending.{Sending, Lanes, total_ahead, needs_sync}
use Rattle.spec_stream.specs.Sending.{described_seal, ends_unit, sets_trusted, sealed_with_syncs}
use Rattle.spec_stream.specs.Stream.{LiveKey, TxSub}
use Rattle.spec_stream.specs.Stream.{at_sub, each_sub, live_sender, packet_under, sealed_sub, sealed_one, sealed_all}
use Rattle.sub_stream.specs.declared.answer.MeasuredPacket.{MeasuredPacket}
use Rattle.stream_lanes.specs.Sends.{numbered_from, joined_packets, packet_lengths, IsSealed}
use Rattle.stream_lanes.specs.declared.fixed.Fixed.{Fixed}
use Rattle.stream_lanes.specs.Lanes.{SendEnd, SendEnds, send_end_at, sealing_lanes, tlp_said, sync_said}
use Rattle.stream_lanes.specs.Lanes.{packet_said_at_ends, sealed_ends, measured_packet, ends_after_sync, sync_packets}
use Rattle.stream_lanes.specs.Lanes.{sync_bytes}
use Rattle.stream_lanes.proofs.Sealing.{sync-same}

-- ---- what a sync packet leaves

pub end-cpl : (b : Bool) (x : SendEnds) → send_end_at (ends_after_sync b Npr x) Cpl ≡ send_end_at x Cpl
end-cpl true x = refl
end-cpl false x = refl

-- after the sync packets the sender of the TLP is as it was
pub end-kept : (x : SendEnds) (sub : SubKind) (b c : Bool) → b ≡ needs_sync (sealing_lanes x) sub Npr → c
    ≡ needs_sync (sealing_lanes x) sub Cpl
    → send_end_at (ends_after_sync c Cpl (ends_after_sync b Npr x)) sub ≡ send_end_at x sub
end-kept x Pr true true e f = refl
end-kept x Pr true false e f = refl
end-kept x Pr false true e f = refl
end-kept x Pr false false e f = refl
end-kept x Npr b c e f = rw (e, f) refl
end-kept x Cpl b c e f = rw (e, f) refl

-- ---- the packets

-- neither the number nor the port is in a packet
renumbered : (ahead : List ℕ) (o : Option (Bool × LiveKey)) (d : Described) (number : ℕ) (port : PortName)
    (head payload : List ℕ)
    → packet_under ahead o d head payload ≡ packet_under ahead o (record d { number = number; port = port }) head
    payload
renumbered ahead None d number port head payload = refl
renumbered ahead (Some x) d number port head payload = refl

-- a sync packet as the senders seal it is that of the rules
sync_packet : (x : SendEnds) (d : Described) (number : ℕ) (port : PortName) (head payload : List ℕ) → d.sync ≡ true
    → packet_said_at_ends x [] [] d ≡
    (sealed_one x.fixed.closed head payload (record d { number = number; port = port }) x.tx).0
sync_packet x d number port head payload e =
    sync-same (total_ahead x.fixed.closed d.unit (at_sub x.tx d.sub).total) (live_sender (at_sub x.tx d.sub).slots) d []
    [] head payload e
    ∙ renumbered (total_ahead x.fixed.closed d.unit (at_sub x.tx d.sub).total) (live_sender (at_sub x.tx d.sub).slots) d
    number port head payload

tlp_packet : (x : SendEnds) (d : Described) (number : ℕ) (port : PortName) (head payload : List ℕ)
    → packet_said_at_ends x head payload d ≡
    (sealed_one x.fixed.closed head payload (record d { number = number; port = port }) x.tx).0
tlp_packet x d number port head payload = renumbered (total_ahead x.fixed.closed d.unit (at_sub x.tx d.sub).total)
    (live_sender (at_sub x.tx d.sub).slots) d number port head payload

-- the senders after the TLP's packet
after_packet : (x : SendEnds) (d : Described) (p q : Packet) → p ≡ q
    → ◌≡◌ {A = SendEnds} (record x { tx = each_sub (λ u. sealed_sub d p u (at_sub x.tx u)) })
    (record x { tx = each_sub (λ u. sealed_sub d q u (at_sub x.tx u)) })
after_packet x d p q e = ap (λ (r : Packet). record x { tx = each_sub (λ u. sealed_sub d r u (at_sub x.tx u)) }) e

-- the packets that were sealed, as the senders say them, and the bytes after others
abbrev pub last_ends : SendEnds → Bool → Bool → SendEnds
last_ends x b c = ends_after_sync c Cpl (ends_after_sync b Npr x)

abbrev pub all_said : SendEnds → SubKind → Bool → Bool → List ℕ → List ℕ → Bool → Bool → List MeasuredPacket
all_said x sub b c head payload more t =
    (([] ++ sync_packets b Npr x) ++ sync_packets c Cpl (ends_after_sync b Npr x))
    ++ measured_packet (tlp_said (send_end_at (last_ends x b c) sub) more t)
    (packet_said_at_ends (last_ends x b c) head payload (tlp_said (send_end_at (last_ends x b c) sub) more t)) ∷ []

abbrev pub all_bytes : SendEnds → SubKind → Bool → Bool → List ℕ → List ℕ → Bool → Bool → List ℕ → List ℕ
all_bytes x sub b c head payload more t before =
    ((before ++ sync_bytes b Npr x) ++ sync_bytes c Cpl (ends_after_sync b Npr x))
    ++ packet_bytes (packet_said_at_ends (last_ends x b c) head payload
    (tlp_said (send_end_at (last_ends x b c) sub) more t))

abbrev pub all_ends : SendEnds → SubKind → Bool → Bool → List ℕ → List ℕ → Bool → Bool → SendEnds
all_ends x sub b c head payload more t =
    sealed_ends (last_ends x b c) head payload (tlp_said (send_end_at (last_ends x b c) sub) more t)

-- the rules' descriptions, when it is known which sync packets go first
abbrev flagged_seals : Bool → Bool → Lanes → Sending → ℕ → List Described
flagged_seals b c x s number =
    let first = if b then described_seal x s Npr number true false true ∷ [] else [] in
    let second = if c then described_seal x s Cpl (number + length first) true false true ∷ [] else [] in
    first ++ second ++ described_seal x s s.class (number + length first + length second) (ends_unit x s)
    (sets_trusted s.port s.trusted) false ∷ []

pub record IsSealedAs (x : SendEnds) (head payload : List ℕ) (port : PortName) (number : ℕ) (ds : List Described)
    (sealed : List MeasuredPacket) (before after : List ℕ) (new : SendEnds) : Type 0 where
  pub answered : numbered_from port number sealed ≡ ds
  pub lengths : map (λ (p : MeasuredPacket). p.length) sealed ≡ packet_lengths
      (sealed_all x.fixed.closed head payload ds x.tx).0
  pub bytes : after ≡ before ++ joined_packets (sealed_all x.fixed.closed head payload ds x.tx).0
  pub senders : new ≡ record x { tx = (sealed_all x.fixed.closed head payload ds x.tx).1 }

abbrev Runs : SendEnds → List ℕ → List ℕ → Sending → ℕ → Bool → Bool → List ℕ → List Described → Type 0
Runs x head payload s number b c before ds =
    let t = sets_trusted s.port s.trusted in
    IsSealedAs x head payload s.port number ds (all_said x s.class b c head payload s.more t) before
    (all_bytes x s.class b c head payload s.more t before) (all_ends x s.class b c head payload s.more t)

one_more : (before a : List ℕ) → ((before ++ []) ++ []) ++ a ≡ before ++ (a ++ [])
one_more before a = simp (append_assoc, append-nil)

two_more : (before a b : List ℕ) → ((before ++ a) ++ []) ++ b ≡ before ++ (a ++ (b ++ []))
two_more before a b = simp (append_assoc, append-nil)

two_behind : (before a b : List ℕ) → ((before ++ []) ++ a) ++ b ≡ before ++ (a ++ (b ++ []))
two_behind before a b = simp (append_assoc, append-nil)

three_more : (before a b c : List ℕ) → ((before ++ a) ++ b) ++ c ≡ before ++ (a ++ (b ++ (c ++ [])))
three_more before a b c = simp (append_assoc, append-nil)

abbrev as_sent : SendEnds → PortName → SubKind → Bool → Bool → Sending
as_sent x port class more trusted =
    record { port = port; stream = x.fixed.stream; class = class; more = more; trusted = trusted }

-- no sync packet goes first
runs_alone : (x : SendEnds) (head payload : List ℕ) (port : PortName) (class : SubKind) (more trusted : Bool)
    (number : ℕ) (before : List ℕ)
    → Runs x head payload (as_sent x port class more trusted) number false false before
    (flagged_seals false false (sealing_lanes x) (as_sent x port class more trusted) number)
runs_alone x head payload port class more trusted number before =
    let d = tlp_said (send_end_at x class) more (sets_trusted port trusted) in
    let e = tlp_packet x d (number + 0 + 0) port head payload in
    let n : number ≡ number + 0 + 0 = omega arith in
    record {
      answered = λ i. record d { number = n i; port = port } ∷ [];
      lengths = λ i. length (packet_bytes (e i)) ∷ [];
      bytes = one_more before (packet_bytes (packet_said_at_ends x head payload d)) ∙
          (λ i. before ++ (packet_bytes (e i) ++ []));
      senders = after_packet x d _ _ e;
    }

-- those of a posted TLP
runs_posted : (b c : Bool) (x : SendEnds) (head payload : List ℕ) (port : PortName) (more trusted : Bool) (number : ℕ)
    (before : List ℕ)
    → Runs x head payload (as_sent x port Pr more trusted) number b c before
    (flagged_seals b c (sealing_lanes x) (as_sent x port Pr more trusted) number)
runs_posted false false x head payload port more trusted number before = runs_alone x head payload port Pr more trusted
    number before
runs_posted true false x head payload port more trusted number before =
    let d1 = sync_said (send_end_at x Npr) in
    let x1 = ends_after_sync true Npr x in
    let d = tlp_said (send_end_at x1 Pr) more (sets_trusted port trusted) in
    let e1 = sync_packet x d1 number port head payload refl in
    let e = tlp_packet x1 d (number + 1 + 0) port head payload in
    let n : number + 1 ≡ number + 1 + 0 = omega arith in
    record {
      answered = λ i. record d1 { number = number; port = port } ∷ record d { number = n i; port = port } ∷ [];
      lengths = λ i. length (packet_bytes (e1 i)) ∷ length (packet_bytes (e i)) ∷ [];
      bytes =
          two_more before (packet_bytes (packet_said_at_ends x [] [] d1))
          (packet_bytes (packet_said_at_ends x1 head payload d))
          ∙ (λ i. before ++ (packet_bytes (e1 i) ++ (packet_bytes (e i) ++ [])));
      senders = after_packet x1 d _ _ e;
    }
runs_posted false true x head payload port more trusted number before =
    let d1 = sync_said (send_end_at x Cpl) in
    let x1 = ends_after_sync true Cpl x in
    let d = tlp_said (send_end_at x1 Pr) more (sets_trusted port trusted) in
    let e1 = sync_packet x d1 (number + 0) port head payload refl in
    let e = tlp_packet x1 d (number + 0 + 1) port head payload in
    let m : number ≡ number + 0 = omega arith in
    let n : number + 1 ≡ number + 0 + 1 = omega arith in
    record {
      answered = λ i. record d1 { number = m i; port = port } ∷ record d { number = n i; port = port } ∷ [];
      lengths = λ i. length (packet_bytes (e1 i)) ∷ length (packet_bytes (e i)) ∷ [];
      bytes =
          two_behind before (packet_bytes (packet_said_at_ends x [] [] d1))
          (packet_bytes (packet_said_at_ends x1 head payload d))
          ∙ (λ i. before ++ (packet_bytes (e1 i) ++ (packet_bytes (e i) ++ [])));
      senders = after_packet x1 d _ _ e;
    }
runs_posted true true x head payload port more trusted number before =
    let d1 = sync_said (send_end_at x Npr) in
    let x1 = ends_after_sync true Npr x in
    let d2 = sync_said (send_end_at x1 Cpl) in
    let x2 = ends_after_sync true Cpl x1 in
    let d = tlp_said (send_end_at x2 Pr) more (sets_trusted port trusted) in
    let e1 = sync_packet x d1 number port head payload refl in
    let e2 = sync_packet x1 d2 (number + 1) port head payload refl in
    let e = tlp_packet x2 d (number + 1 + 1) port head payload in
    record {
      answered = refl;
      lengths = λ i. length (packet_bytes (e1 i)) ∷ length (packet_bytes (e2 i)) ∷ length (packet_bytes (e i)) ∷ [];
      bytes =
          three_more before (packet_bytes (packet_said_at_ends x [] [] d1))
          (packet_bytes (packet_said_at_ends x1 [] [] d2))
          (packet_bytes (packet_said_at_ends x2 head payload d))
          ∙ (λ i. before ++ (packet_bytes (e1 i) ++ (packet_bytes (e2 i) ++ (packet_bytes (e i) ++ []))));
      senders = after_packet x2 d _ _ e;
    }

runs : (class : SubKind) (b c : Bool) (x : SendEnds) (head payload : List ℕ) (port : PortName) (more trusted : Bool)
    (number : ℕ) (before : List ℕ)
    → b ≡ needs_sync (sealing_lanes x) class Npr → c ≡ needs_sync (sealing_lanes x) class Cpl
    → Runs x head payload (as_sent x port class more trusted) number b c before
    (sealed_with_syncs (sealing_lanes x) (as_sent x port class more trusted) number)
runs Pr b c x head payload port more trusted number before e f =
    subst (λ (y : Bool × Bool). Runs x head payload (as_sent x port Pr more trusted) number b c before
    (flagged_seals y.0 y.1 (sealing_lanes x) (as_sent x port Pr more trusted) number)) (λ i. (e i, f i))
    (runs_posted b c x head payload port more trusted number before)
runs Npr b c x head payload port more trusted number before e f =
    subst (λ (y : Bool × Bool). Runs x head payload (as_sent x port Npr more trusted) number y.0 y.1 before
    (flagged_seals false false (sealing_lanes x) (as_sent x port Npr more trusted) number)) (λ i. (sym e i, sym f i))
    (runs_alone x head payload port Npr more trusted number before)
runs Cpl b c x head payload port more trusted number before e f =
    subst (λ (y : Bool × Bool). Runs x head payload (as_sent x port Cpl more trusted) number y.0 y.1 before
    (flagged_seals false false (sealing_lanes x) (as_sent x port Cpl more trusted) number)) (λ i. (sym e i, sym f i))
    (runs_alone x head payload port Cpl more trusted number before)

abbrev SealedSo : SendEnds → List ℕ → List ℕ → Sending → ℕ → SubKind → Bool → Bool → Bool → Bool → List ℕ → Type 0
SealedSo x head payload s number sub b c more t before =
    IsSealed x head payload s number (all_said x sub b c head payload more t) before
    (all_bytes x sub b c head payload more t before) (all_ends x sub b c head payload more t)

pub sent-right : (x : SendEnds) (head payload : List ℕ) (s : Sending) (number : ℕ) (sub : SubKind) (b c more t : Bool)
    (before : List ℕ)
    → b ≡ needs_sync (sealing_lanes x) sub Npr → c ≡ needs_sync (sealing_lanes x) sub Cpl
    → s.stream ≡ x.fixed.stream → s.class ≡ sub → s.more ≡ more → sets_trusted s.port s.trusted ≡ t
    → SealedSo x head payload s number sub b c more t before
sent-right x head payload s number sub b c more t before e f stream class goes trusted =
    let ran = runs s.class b c x head payload s.port s.more s.trusted number before
    (e ∙ ap (λ (u : SubKind). needs_sync (sealing_lanes x) u Npr) (sym class))
    (f ∙ ap (λ (u : SubKind). needs_sync (sealing_lanes x) u Cpl) (sym class)) in
    let so : SealedSo x head payload (record s { stream = x.fixed.stream }) number s.class b c
    s.more (sets_trusted s.port s.trusted) before = record {
      answered = ran.answered;
      lengths = ran.lengths;
      bytes = ran.bytes;
      senders = ran.senders;
    } in
    let here : SealedSo x head payload s number s.class b c s.more (sets_trusted s.port s.trusted) before =
    subst (λ (r : Sending). SealedSo x head payload r number s.class b c s.more (sets_trusted s.port s.trusted) before)
    (λ i. record s { stream = sym stream i }) so in
    subst (λ (y : SubKind × Bool × Bool). SealedSo x head payload s number y.0 b c y.1 y.2 before)
    (λ i. (class i, goes i, trusted i)) here

-- ---- what always holds

pub lane-kept : (fixed : Fixed) (u : SubKind) (old new : SendEnd) (kept : TxSub) → old
    ≡ record { fixed = fixed; sub = u; kept = old.kept } → new ≡ record old { kept = kept }
    → new ≡ record { fixed = fixed; sub = u; kept = new.kept }
lane-kept fixed u old new kept is e =
    e
    ∙ (λ i. record { fixed = (is i).fixed; sub = (is i).sub; kept = kept })
    ∙ (λ i. record { fixed = fixed; sub = u; kept = (sym e i).kept })
