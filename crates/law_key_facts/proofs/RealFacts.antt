-- What is used of keys holds of the keys that operations, ends of units and accepted units leave. Keys are made by the
-- touches of a place, so each fact of a pair is by the touches that it adds: none, one for each packet that is sealed
-- there, or one for an accepted unit. The hard case is a send: packet by packet, the shape of the keys says that the
-- lesser of two draws that are On is the one that the last packet of a unit ends.
use Rattle.spec_links.proofs.Terms.{Bool, List, Some, [], ap, arith, false, refl, sym, true, ℕ, ◌++◌, ◌+◌, ◌<◌, ◌==◌}
use Rattle.spec_links.proofs.Terms.{◌∙◌, ◌∷◌, ◌≡◌, ◌≤◌, nat_tests, base, touches_after, came, draws as draws_made}
use Rattle.spec_links.proofs.Terms.{is_sender, manager, moments, seal_touches, touches, touches_if, Accept, Seal, Touch}
use Rattle.spec_links.proofs.Terms.{is_on, keys, sender_draw, StreamStage, is_on_stream, is_same_side, is_same_sub}
use Rattle.spec_links.proofs.Terms.{CauseLaw, due, accepted_keys, after_ends, arrival_of_event, ended_keys}
use Rattle.spec_links.proofs.Terms.{ends_port_unit, is_keyed, port_keys, keys_by_role, place_in_sub_stream, received_in}
use Rattle.spec_links.proofs.Terms.{receives_it, sends_it, sub_stream_of, is_steady, operates, SubStream, is_same}
use Rattle.spec_links.proofs.Terms.{is_same_port, key_plan, Effect, Establish, Event, History, Keyed, Keys, On}
use Rattle.spec_links.proofs.Terms.{KeyPlace, Plan, PortName, Refresh, Reset, SealedPacket, Stop, UnitName, Verdict}
use Rattle.spec_links.proofs.Terms.{if◌then◌else◌, keeps_live, key_in, place_keys, no_keys, not, on_in, ◌&&◌, ◌||◌}
use Rattle.spec_links.proofs.Terms.{subst}
use Rattle.spec_keys.proofs.Shapes.{draws_used, used_bound, Shape, Both, keys_of, Sound, IsAt, sealed_shape, seals}
use Rattle.spec_keys.proofs.Touches.{AllCome}
use Rattle.spec_keys.proofs.Facts.{key_facts}
use Rattle.spec_keys.proofs.Whole.{fits, next_fits, not_cut}
use Rattle.spec_keys.specs.Places.{is_cleared, is_line_reset, is_between_devices}
use Rattle.std.specs.List.{list_any}
use Rattle.ide_types.specs.declared.port.Side.{Side}
use Rattle.spec_links.proofs.Tests.{same_port, same_stream, eqb-sym, in_not_out, out_not_in, same_in}
use Rattle.spec_links.proofs.Causes.{accepted_by}
use Rattle.spec_links.proofs.SealingIs.{sealed_by_sealing, sealing_touches}
use Rattle.law_key_facts.proofs.Given.{accepted_on, key_cause}
use Rattle.law_key_facts.proofs.Unplanned.{on_at}
use Rattle.event_verdicts.specs.declared.verdict.Verdict.TheVariants as v

-- ---- pairs that touch nothing

steady_came : (w : Verdict) → is_steady w ≡ true → (p : KeyPlace) → came p w ≡ []
steady_came (v.Sealed ds) none p = absurd cc
steady_came (v.Accepted port unit effects) none p = absurd cc
steady_came _ none p = refl

elsewhere_false : (p : KeyPlace) (l s : ℕ) → ((l == p.line) && (s == p.stream)) ≡ false → is_on_stream p l s ≡ false
elsewhere_false p l s still = (λ i. eqb-sym p.line l i && eqb-sym p.stream s i) ∙ still

-- no end of a line is cleared that is not cut
pub uncleared : (ends : List PortName) (side : Side) (line : ℕ) → is_line_reset ends line ≡ false
    → is_cleared ends side line ≡ false
uncleared ends side line none = by (is_between_devices line)
  where
    by : (peer : Bool) → (if peer then list_any (λ e. is_same_side e.side side && (e.line == line)) ends
        else is_line_reset ends line) ≡ false
    by true = not_cut ends side line none
    by false = none

pub steady_touches : (ops : ℕ → ℕ → StreamStage) (next : ℕ) (e : Event) (w : Verdict) (p : KeyPlace)
    → is_steady w ≡ true → operates e p.line p.stream ≡ false → touches ops next e w p ≡ []
unfolding operates
steady_touches ops next (Establish l s lose) w p none still = rw (elsewhere_false p l s still) refl
steady_touches ops next (Refresh l s lose) w p none still = rw (elsewhere_false p l s still) refl
steady_touches ops next (Stop l s lose) w p none still = rw (elsewhere_false p l s still) refl
steady_touches ops next (Reset l ends) (v.Reset m) p none still = rw (uncleared ends p.side p.line still) refl
steady_touches ops next (Reset l ends) _ p none still = refl
steady_touches ops next _ w p none still = steady_came w none p

pub steady_moments : (h : History) (e : Event) (w : Verdict) (p : KeyPlace) → is_steady w ≡ true
    → operates e p.line p.stream ≡ false → moments ((e, w) ∷ h) p ≡ moments h p
unfolding moments
steady_moments h e w p none still = ap (touches_after (moments h p))
    (steady_touches (manager h).ops (draws_made h) e w p none still)

pub seat_same : (plan : Plan) (g h : History) (port : PortName) (s : SubStream)
    → ((sends : Bool) → moments g (place_in_sub_stream port s sends) ≡ moments h (place_in_sub_stream port s sends))
    → port_keys g port s ≡ port_keys h port s
unfolding port_keys
seat_same plan g h port s same = by_seat (sends_it port s) (receives_it port s)
  where
    by_seat : (a b : Bool) → keys_by_role g port s a b ≡ keys_by_role h port s a b
    by_seat true b = ap (λ (ts : List Touch). (keys true ts)) (same true)
    by_seat false true = ap (λ (ts : List Touch). (keys false ts)) (same false)
    by_seat false false = refl

pub steady : (plan : Plan) (h : History) (e : Event) (w : Verdict) → is_steady w ≡ true
    → (port : PortName) (s : SubStream) → operates e s.line s.stream ≡ false → port_keys ((e, w) ∷ h) port s
    ≡ port_keys h port s
steady plan h e w none port s still = seat_same plan ((e, w) ∷ h) h port s
    (λ sends. steady_moments h e w (place_in_sub_stream port s sends) none still)

-- ---- sealed packets

abbrev pub InOrder : Shape → Type 0
InOrder (Both k i j) = i < j
InOrder sh = Unit {0}

pub in_order : (s : Bool) (ts : List Touch) (sh : Shape) → Sound s ts sh → InOrder sh
in_order s ts (Both k i j) sound = sound.0
in_order s ts _ sound = tt

abbrev end_of : Keys → Keys
end_of ks = ended_keys ks.first ks.second

ended_both : (sh : Shape) → InOrder sh → end_of (keys_of sh) ≡ keys_of (sealed_shape true sh)
ended_both sh lt = grind (arith, nat_tests)

one_end : (ts : List Touch) (sh : Shape) (j : ℕ) (m : Bool) → IsAt true ts sh → sender_draw (keys true ts) ≡ Some j
    → (keys true (Seal j m ∷ ts)) ≡ (if m then end_of (keys true ts) else (keys true ts))
one_end ts sh j true is live = (seals ts sh j true is live).are ∙
    (sym (ended_both sh (in_order true ts sh is.sound)) ∙ ap end_of (sym is.are))
one_end ts sh j false is live = (seals ts sh j false is live).are ∙ sym is.are

pub seal_here : (port : PortName) (s : SubStream) (d : SealedPacket) → sends_it port s ≡ true
    → is_sender (place_in_sub_stream port s true) d ≡ (is_same_port d.port port && is_same (sub_stream_of d) s)
seal_here port s d here = grind (arith, nat_tests)

sealing : (port : PortName) (s : SubStream) → sends_it port s ≡ true → (ts : List Touch) (ds : List SealedPacket)
    → AllCome true ts (seal_touches (place_in_sub_stream port s true) ds)
    → (keys true (touches_after ts (seal_touches (place_in_sub_stream port s true) ds)))
    ≡ after_ends port s ds (keys true ts)
sealing port s here ts [] come = refl
sealing port s here ts (d ∷ ds) come =
    by_test (sealing port s here ts ds) (sealing port s here (Seal d.draw d.m ∷ ts) ds)
    (is_sender (place_in_sub_stream port s true) d) come
    ∙ ap (λ (b : Bool). after_ends port s ds (if b && d.m then end_of (keys true ts) else (keys true ts)))
    (seal_here port s d here)
  where
    by_test : (AllCome true ts (seal_touches (place_in_sub_stream port s true) ds)
        → (keys true (touches_after ts (seal_touches (place_in_sub_stream port s true) ds)))
        ≡ after_ends port s ds (keys true ts))
        → (AllCome true (Seal d.draw d.m ∷ ts) (seal_touches (place_in_sub_stream port s true) ds)
        → (keys true (touches_after (Seal d.draw d.m ∷ ts) (seal_touches (place_in_sub_stream port s true) ds)))
        ≡ after_ends port s ds ((keys true (Seal d.draw d.m ∷ ts))))
        → (b : Bool) → AllCome true ts (touches_if b (Seal d.draw d.m)
        ++ seal_touches (place_in_sub_stream port s true) ds)
        → (keys true (touches_after ts (touches_if b (Seal d.draw d.m)
        ++ seal_touches (place_in_sub_stream port s true) ds)))
        ≡ after_ends port s ds (if b && d.m then end_of (keys true ts) else (keys true ts))
    by_test without with_it false come = without come
    by_test without with_it true come = with_it come.1 ∙ ap (after_ends port s ds)
        (one_end ts come.0.shape d.draw d.m come.0.is come.0.may.1)

none_sealed : (port : PortName) (s : SubStream) (ds : List SealedPacket)
    → seal_touches (place_in_sub_stream port s false) ds ≡ []
none_sealed port s [] = refl
none_sealed port s (d ∷ ds) = none_sealed port s ds

never_ends : (port : PortName) (s : SubStream) (ds : List SealedPacket) (ks : Keys)
    → ((d : SealedPacket) → ends_port_unit port s d ≡ false) → after_ends port s ds ks ≡ ks
never_ends port s [] ks none = refl
never_ends port s (d ∷ ds) ks none = rw (none d) (never_ends port s ds ks none)

not_ending : (port : PortName) (s : SubStream) (d : SealedPacket) → receives_it port s ≡ true → ends_port_unit port s d
    ≡ false
not_ending port s d here = let other = in_not_out port.side in grind (arith, nat_tests)

-- what each end of a unit keeps of the keys, all ends keep
pub ends_keep : (P : Keys → Type 0) → ((ks : Keys) → P ks → P (ended_keys ks.first ks.second))
    → (port : PortName) (s : SubStream) (ds : List SealedPacket) (ks : Keys) → P ks → P (after_ends port s ds ks)
ends_keep P kept port s [] ks holds = holds
ends_keep P kept port s (d ∷ ds) ks holds = ends_keep P kept port s ds _ (by_test (ends_port_unit port s d))
  where
    by_test : (b : Bool) → P (if b then ended_keys ks.first ks.second else ks)
    by_test true = kept ks holds
    by_test false = holds

ends_bare : (port : PortName) (s : SubStream) (ds : List SealedPacket) → after_ends port s ds no_keys ≡ no_keys
ends_bare port s ds = ends_keep (λ ks. ks ≡ no_keys) (λ ks is. rw is refl) port s ds no_keys refl

pub sealed : (plan : Plan) (h : History) (e : Event) (ds : List SealedPacket) → CauseLaw plan ((e, v.Sealed ds) ∷ h)
    → (port : PortName) (s : SubStream)
    → port_keys ((e, v.Sealed ds) ∷ h) port s ≡ after_ends port s ds (port_keys h port s)
unfolding port_keys moments
sealed plan h e ds law port s = by_seat (sends_it port s) (receives_it port s) refl refl
  where
    touched : (p : KeyPlace) → touches (manager h).ops (draws_made h) e (v.Sealed ds) p ≡ seal_touches p ds
    touched p = sealing_touches (manager h).ops (draws_made h) e ds p (sealed_by_sealing plan h e ds law.0)

    come : AllCome true (moments h (place_in_sub_stream port s true))
        (seal_touches (place_in_sub_stream port s true) ds)
    come = let cause = key_cause plan ((e, v.Sealed ds) ∷ h) law in
        subst (AllCome true (moments h (place_in_sub_stream port s true))) (touched (place_in_sub_stream port s true))
        (next_fits (key_plan plan) h e (v.Sealed ds) cause (place_in_sub_stream port s true)
        (fits (key_plan plan) h cause.2 (place_in_sub_stream port s true))).come

    by_seat : (a b : Bool) → sends_it port s ≡ a → receives_it port s ≡ b
        → keys_by_role ((e, v.Sealed ds) ∷ h) port s a b ≡ after_ends port s ds (keys_by_role h port s a b)
    by_seat true b here there =
        ap (λ (ts : List Touch). keys true (touches_after (moments h (place_in_sub_stream port s true)) ts))
        (touched (place_in_sub_stream port s true))
        ∙ sealing port s here (moments h (place_in_sub_stream port s true)) ds come
    by_seat false true here there =
        ap (λ (ts : List Touch). (keys false (touches_after (moments h (place_in_sub_stream port s false)) ts)))
        (touched (place_in_sub_stream port s false) ∙ none_sealed port s ds)
        ∙ sym (never_ends port s ds ((keys false (moments h (place_in_sub_stream port s false))))
        (λ d. not_ending port s d there))
    by_seat false false here there = sym (ends_bare port s ds)

-- ---- accepted units

-- an event that brings something is no operation
brings : (plan : Plan) (h : History) (e : Event) (w : Verdict) (p : KeyPlace) (port : PortName) (bytes : List ℕ)
    → arrival_of_event plan h e ≡ Some (record { port = port; bytes = bytes })
    → touches (manager h).ops (draws_made h) e w p ≡ came p w
unfolding arrival_of_event
brings plan h (Establish l s lose) w p port bytes is = absurd cc
brings plan h (Refresh l s lose) w p port bytes is = absurd cc
brings plan h (Stop l s lose) w p port bytes is = absurd cc
brings plan h (Reset l ends) w p port bytes is = absurd cc
brings plan h _ w p port bytes is = refl

pub accepted_touches : (plan : Plan) (h : History) (e : Event) (port : PortName) (unit : UnitName)
    (effects : List Effect) → v.Accepted port unit effects ≡ due plan h e
    → (p : KeyPlace) → touches (manager h).ops (draws_made h) e (v.Accepted port unit effects) p
    ≡ came p (v.Accepted port unit effects)
accepted_touches plan h e port unit effects is p = let by = accepted_by plan h e port unit effects is in brings plan h e
    (v.Accepted port unit effects) p port by.came.bytes by.came.arrival

accept_when : (ts : List Touch) (j : ℕ) (b : Bool) → keys false (touches_after ts (touches_if b (Accept j)))
    ≡ (if b then accepted_keys j (keys false ts) else keys false ts)
unfolding keys
accept_when ts j true = refl
accept_when ts j false = refl

pub accept_here : (q : PortName) (s : SubStream) (port : PortName) (unit : UnitName) → receives_it q s ≡ true
    → (not false && is_same_side q.side port.side && is_on_stream (place_in_sub_stream q s false) port.line unit.stream
    && is_same_sub s.sub unit.sub) ≡ (is_same_port port q && is_same (received_in port unit) s)
accept_here q s port unit here = let sides = same_in port.side q.side in grind (arith, nat_tests)

-- what a port seals it accepts nothing in
accept_not : (q : PortName) (s : SubStream) (port : PortName) (unit : UnitName) → sends_it q s ≡ true
    → (is_same_port port q && is_same (received_in port unit) s) ≡ false
accept_not q s port unit here = let sides = same_in port.side q.side in let other = out_not_in q.side in grind
    (arith, nat_tests)

pub accepted : (plan : Plan) (h : History) (e : Event) (port : PortName) (unit : UnitName) (effects : List Effect)
    → CauseLaw plan ((e, v.Accepted port unit effects) ∷ h)
    → (q : PortName) (s : SubStream) → port_keys ((e, v.Accepted port unit effects) ∷ h) q s
    ≡ (if is_same_port port q && is_same (received_in port unit) s then accepted_keys unit.draw (port_keys h q s) else
    port_keys h q s)
unfolding port_keys moments
accepted plan h e port unit effects law q s = by_seat (sends_it q s) (receives_it q s) refl refl
  where
    there : (p : KeyPlace) → touches (manager h).ops (draws_made h) e (v.Accepted port unit effects) p
        ≡ came p (v.Accepted port unit effects)
    there p = accepted_touches plan h e port unit effects law.0 p

    by_seat : (a b : Bool) → sends_it q s ≡ a → receives_it q s ≡ b
        → keys_by_role ((e, v.Accepted port unit effects) ∷ h) q s a b
        ≡ (if is_same_port port q && is_same (received_in port unit) s then accepted_keys unit.draw
        (keys_by_role h q s a b)
        else keys_by_role h q s a b)
    by_seat true b here other =
        ap (λ (ts : List Touch). (keys true (touches_after (moments h (place_in_sub_stream q s true)) ts)))
        (there (place_in_sub_stream q s true))
        ∙ rw (accept_not q s port unit here) refl
    by_seat false true here other =
        ap (λ (ts : List Touch). (keys false (touches_after (moments h (place_in_sub_stream q s false)) ts)))
        (there (place_in_sub_stream q s false))
        ∙ (accept_when (moments h (place_in_sub_stream q s false)) unit.draw _
        ∙ ap (λ (b : Bool). if b then accepted_keys unit.draw (keys false (moments h (place_in_sub_stream q s false)))
        else
        (keys false (moments h (place_in_sub_stream q s false)))) (accept_here q s port unit other))
    by_seat false false here other = grind arith

-- ---- a place stays keyed

ended_keyed : (a b : Keyed) → (is_on (ended_keys a b).first || is_on (ended_keys a b).second) ≡ (is_on a || is_on b)
ended_keyed a b = grind arith

after_keyed : (port : PortName) (s : SubStream) (ds : List SealedPacket) (keys : Keys)
    → keeps_live (after_ends port s ds keys) ≡ keeps_live keys
after_keyed port s ds keys = ends_keep (λ ks. keeps_live ks ≡ keeps_live keys)
    (λ ks same. ended_keyed ks.first ks.second ∙ same) port s ds keys refl

accepted_keyed : (keys : Keys) (k : Bool) (j : ℕ) → on_in (key_in keys k) ≡ Some j → keeps_live (accepted_keys j keys)
    ≡ keeps_live keys
accepted_keyed keys k j on = grind (arith, nat_tests)

pub keyed : (plan : Plan) (h : History) (e : Event) (w : Verdict) → CauseLaw plan ((e, w) ∷ h)
    → (port : PortName) (s : SubStream) → operates e s.line s.stream ≡ false → is_keyed ((e, w) ∷ h) port s
    ≡ is_keyed h port s
keyed plan h e (v.Sealed ds) law port s still = ap keeps_live (sealed plan h e ds law port s) ∙ after_keyed port s ds
    (port_keys h port s)
keyed plan h e (v.Accepted p unit effects) law port s still = ap keeps_live
    (accepted plan h e p unit effects law port s) ∙ by_test (is_same_port p port && is_same (received_in p unit) s) refl
  where
    by_test : (b : Bool) → (is_same_port p port && is_same (received_in p unit) s) ≡ b
        → keeps_live (if b then accepted_keys unit.draw (port_keys h port s) else port_keys h port s)
        ≡ keeps_live (port_keys h port s)
    by_test true here =
        let on = accepted_on plan h e p unit effects law.0 in
        let same : received_in p unit ≡ s = same_stream (received_in p unit) s (grind arith) in
        let one : p ≡ port = same_port p port (grind arith) in
        accepted_keyed (port_keys h port s) on.0 unit.draw
        ((λ i. on_in (key_in (port_keys h (sym one i) (sym same i)) on.0)) ∙ on.1)
    by_test false other = refl
keyed plan h e _ law port s still = ap keeps_live (steady plan h e _ refl port s still)

-- ---- two draws differ, and one that waits has sealed nothing

different : (i j : ℕ) → (i ≡ j → ⊥) → (i == j) ≡ false
different i j other = grind (arith, nat_tests)

pub apart : (plan : Plan) (h : History) → CauseLaw plan h → (port : PortName) (s : SubStream) (i j : ℕ)
    → (port_keys h port s).first ≡ On i → (port_keys h port s).second ≡ On j → (i == j) ≡ false
apart plan h law port s i j first second = different i j one_set
  where
    one_set : i ≡ j → ⊥
    one_set same =
        let one = on_at h port s false i first in
        let two = on_at h port s true j second in
        let sets : false ≡ true = (key_facts (key_plan plan) h (key_cause plan h law)).one_set
        (place_in_sub_stream port s one.sends)
        (place_in_sub_stream port s two.sends) false true i
        (ap on_in one.on) (ap on_in two.on ∙ ap (λ (n : ℕ). Some n) (sym same)) in
        cc

-- ---- a draw that is On

pub used_most : (plan : Plan) (h : History) → CauseLaw plan h → (p : KeyPlace) (k : Bool) (j : ℕ)
    → key_in (place_keys h p) k ≡ On j → draws_used (moments h p) ≤ j + 1
used_most plan h law p k j on = let at = fits (key_plan plan) h (key_cause plan h law) p in used_bound p.sends
    (moments h p) at.shape k j at.is (ap on_in on)

-- ---- the base

pub operates_no_base : (plan : Plan) (h : History) (e : Event) (w : Verdict) (line stream : ℕ) → operates e line stream
    ≡ false → base ((e, w) ∷ h) line stream ≡ base h line stream
unfolding operates base
operates_no_base plan h (Establish l s lose) w line stream still = rw still refl
operates_no_base plan h _ w line stream still = refl
