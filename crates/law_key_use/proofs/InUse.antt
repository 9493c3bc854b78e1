-- What is sealed, held or accepted is under keys that are On.
use Rattle.spec_links.proofs.Terms.{Bool, List, Some, [], ap, arith, false, refl, subst, sym, true, ℕ, ◌++◌}
use Rattle.spec_links.proofs.Terms.{◌==◌, ◌∙◌, ◌∷◌, ◌≡◌, ◌≤◌, nat_tests, draws, is_sender, manager, moments}
use Rattle.spec_links.proofs.Terms.{seal_touches, touches_after, keys, CauseLaw, due, KeyName, lesser, live_key}
use Rattle.spec_links.proofs.Terms.{on_draw, port_keys, received_in, sub_stream_of, SubStream}
use Rattle.spec_links.proofs.Terms.{lane_out, Accepted, Event, Held, History, Keyed, Keys, Packet}
use Rattle.spec_links.proofs.Terms.{Plan, PortName, Sealed, SealedPacket, UnitName, Verdict, key_in}
use Rattle.spec_links.proofs.Terms.{place_keys, on_in, sub_bits, sent_bytes, Touch}
use Rattle.spec_keys.specs.History.{draw_on_at}
use Rattle.spec_links.proofs.Causes.{Came, Passed, held_by, accepted_by, received_there, packet_that_came}
use Rattle.spec_links.proofs.Senders.{AreOther}
use Rattle.spec_links.proofs.SealingIs.{sending_port, sealed_by_sealing, sealing_touches, IsLive, AllLive, sealing_is}
use Rattle.spec_links.proofs.SealingIs.{all_live, AllApart, all_apart}
use Rattle.law_key_facts.proofs.Seats.{keys_out, keys_into}
use Rattle.law_key_facts.proofs.SealedKeys.{live_on}
use Rattle.law_key_use.specs.InUse.{sender_of, receiver_of, IsLeastOn, SealsUnderLeast, IsOnAtReceiver, UsesKeysOn}
use Rattle.law_key_use.specs.InUse.{KeysInUse}

-- ---- the Live key

least_of : (a b : Keyed) (key : KeyName) (other : Bool) (i : ℕ) → lesser a b ≡ Some key
    → on_in (key_in (record { first = a; second = b }) other) ≡ Some i → key.draw ≤ i
least_of a b key other i is on = grind (arith, nat_tests)

-- at the place of a packet that is sealed its key is the least that is On
pub live_least : (plan : Plan) (h : History) (port : PortName) (stream : ℕ) (d : SealedPacket)
    → IsLive plan h port stream d → IsLeastOn h (sender_of d) d.k d.draw
live_least plan h port stream d live =
    let there = keys_out h d.port d.stream d.sub in
    let key_there : live_key h d.port (lane_out d.port d.stream d.sub) ≡ Some live.key =
    (λ i. live_key h (live.port_is i) (lane_out (live.port_is i) (live.stream_is i) d.sub)) ∙ live.live in
    let ks : Keys = place_keys h (sender_of d) in
    let least : lesser ks.first ks.second ≡ Some live.key = ap (λ (x : Keys). lesser x.first x.second) (sym there)
    ∙ key_there in (
      ap (λ (x : Keys). on_in (key_in x d.k)) (sym there)
          ∙ (ap (λ (q : PortName). on_in (key_in (port_keys h q (sub_stream_of d)) d.k)) live.port_is
          ∙ ap on_in (live_on plan h port stream d live)),
      λ other i on. subst (λ (n : ℕ). n ≤ i) (sym live.draw)
          (least_of ks.first ks.second live.key other i least on),
    )

-- ---- packet by packet

-- packets of other sub-streams touch the place of a packet not at all
pub other_sub : (d e : SealedPacket) → (sub_bits e.sub == sub_bits d.sub) ≡ false → is_sender (sender_of d) e ≡ false
other_sub d e differ = grind arith

none_touch : (ahead more : List SealedPacket) (d : SealedPacket) → AllApart (ahead ++ d ∷ more)
    → seal_touches (sender_of d) ahead ≡ []
none_touch [] more d differ = refl
none_touch (e ∷ ahead) more d differ = rw (other_sub d e (before ahead differ.0)) (none_touch ahead more d differ.1)
  where
    before : (es : List SealedPacket) → AreOther e.sub (es ++ d ∷ more) → (sub_bits e.sub == sub_bits d.sub) ≡ false
    before [] all = all.0
    before (f ∷ es) all = before es all.1

pub same_keys : (plan : Plan) (h : History) (e : Event) (ds ahead more : List SealedPacket) (d : SealedPacket)
    → Sealed ds ≡ due plan h e → ds ≡ ahead ++ d ∷ more
    → place_keys ((e, Sealed ahead) ∷ h) (sender_of d) ≡ place_keys h (sender_of d)
unfolding moments
same_keys plan h e ds ahead more d due_is is =
    let p = sender_of d in
    let apart = all_apart plan h (sending_port plan h e) (sent_bytes plan h e) ds (sealing_is plan h e ds due_is) in
    let none = none_touch ahead more d (subst AllApart is apart) in
    ap (λ (ts : List Touch). keys true (touches_after (moments h p) ts))
    (sealing_touches (manager h).ops (draws h) e ahead p (sealed_by_sealing plan h e ds due_is) ∙ none)

live_at : (plan : Plan) (h : History) (port : PortName) (stream : ℕ) (ahead more : List SealedPacket) (d : SealedPacket)
    → AllLive plan h port stream (ahead ++ d ∷ more) → IsLive plan h port stream d
live_at plan h port stream [] more d all = all.0
live_at plan h port stream (e ∷ ahead) more d all = live_at plan h port stream ahead more d all.1

pub sealed_least : (plan : Plan) (h : History) (e : Event) (ds : List SealedPacket) → Sealed ds ≡ due plan h e
    → SealsUnderLeast h e ds
sealed_least plan h e ds due_is ahead more d is =
    let sealing = sealing_is plan h e ds due_is in
    let port = sealing.sending.port in
    let stream = sealing.sending.stream in
    let all = all_live plan h (sending_port plan h e) (sent_bytes plan h e) ds sealing in
    let live = live_at plan h port stream ahead more d (subst (AllLive plan h port stream) is all) in
    subst (λ (ks : Keys). (on_in (key_in ks d.k) ≡ Some d.draw)
    × ((other : Bool) (i : ℕ) → on_in (key_in ks other) ≡ Some i → d.draw ≤ i))
    (sym (same_keys plan h e ds ahead more d due_is is)) (live_least plan h port stream d live)

-- ---- units

pub passed_on : (plan : Plan) (h : History) (e : Event) (port : PortName) (p : Packet) (unit : UnitName)
    → Came plan h e port p → Passed plan h port p unit → IsOnAtReceiver plan h e port unit
passed_on plan h e port p unit came passed =
    let s = received_in port unit in
    ap (λ (q : Packet). draw_on_at h (receiver_of port unit) q.prefix.k) (packet_that_came plan h e port p came)
    ∙ (ap (λ (x : Keys). on_in (key_in x p.prefix.k)) (sym (keys_into h port unit.stream unit.sub))
    ∙ (ap (λ (t : SubStream). on_draw h port t p.prefix.k) (received_there plan h port p unit passed) ∙ passed.live))

-- ---- all pairs

pub uses_on : (plan : Plan) (h : History) (e : Event) (w : Verdict) → w ≡ due plan h e → UsesKeysOn plan h e w
uses_on plan h e (Sealed ds) is = sealed_least plan h e ds is
uses_on plan h e (Held port unit) is =
    let by = held_by plan h e port unit is in passed_on plan h e port by.packet unit by.came by.passed
uses_on plan h e (Accepted port unit effects) is =
    let by = accepted_by plan h e port unit effects is in passed_on plan h e port by.packet unit by.came by.passed
uses_on plan h e _ is = tt

pub in_use : (plan : Plan) (h : History) → CauseLaw plan h → KeysInUse plan h
in_use plan [] law = tt
in_use plan ((e, w) ∷ h) law = (uses_on plan h e w law.0, in_use plan h law.1)
