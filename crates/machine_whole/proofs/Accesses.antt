-- The reads that wait, the floors of devices and what happened to their memory are those of the history, from each pair
-- to the next.
use Rattle.std.proofs.Common.{◌≡◌, ℕ, ◌+◌, ◌++◌, ◌==◌, ◌∷◌, zero, suc, Bool, true, false, [], List, Option, None, Some}
use Rattle.std.proofs.Common.{refl, sym, ap, ◌∙◌, arith, map, inl, inr, if◌then◌else◌}
use Rattle.std.proofs.lemmas.Bool.{cases_Bool}
use Rattle.std.proofs.lemmas.Bool.Decides.{nat_tests}
use Rattle.std.proofs.lemmas.List.{drop-append-le}
use Rattle.std.specs.Prelude.{drop, filter, is_some, unwrap_or}
use Rattle.ide_types.specs.declared.port.Side.TheVariants.{Device}
use Rattle.ide_types.specs.declared.sub.SubKind.TheVariants.{Pr}
use Rattle.ide_types.specs.declared.plan.Plan.{Plan}
use Rattle.ide_prefix.specs.Packet.{Packet}
use Rattle.script_events.specs.declared.event.Event.{Event}
use Rattle.script_events.specs.declared.event.Event.TheVariants as event
use Rattle.event_verdicts.specs.declared.verdict.Verdict.{Verdict}
use Rattle.event_verdicts.specs.declared.verdict.Verdict.TheVariants as v
use Rattle.event_verdicts.specs.declared.access.AccessVerdict.TheVariants as av
use Rattle.spec_keys.specs.Keys.{Keys, Keyed, On}
use Rattle.spec_keys.specs.History.{History, place_keys}
use Rattle.spec_interfaces.specs.Sites.{Site, sites}
unfoldable use Rattle.spec_interfaces.specs.Floors.{device_floor}
use Rattle.spec_interfaces.specs.Floors.{greatest_on, draw_at_device, device_status, history_statuses}
use Rattle.spec_interfaces.specs.Peers.{receiver_at}
use Rattle.ide_types.specs.declared.port.PortName.{PortName}
use Rattle.machine_whole.specs.Interfaces.{Face}
use Rattle.machine_whole.specs.InterfacesStand.{face_at}
use Rattle.spec_interfaces.specs.{InterfaceStatus, Happened, newest_happened}
use Rattle.spec_links.specs.{WaitingRead}
use Rattle.spec_links.specs.Plan.{SubStream, is_same_port, lane_in, stream_plan}
use Rattle.spec_links.specs.Cause.{CauseLaw}
use Rattle.spec_links.specs.Ports.{port_of}
use Rattle.spec_links.specs.History.{SealedList, sealed_packets, port_keys}
use Rattle.spec_links.specs.Memory.{queued_reads, waiting_reads, unit_ended, hop_waiting, plain_of}
unfoldable use Rattle.spec_links.specs.Sent.{reads_taken, queued_in}
use Rattle.spec_links.specs.Sent.{answers_at, reads_by, targets_at, unit_accepted}
unfoldable use Rattle.spec_links.specs.Guarded.{link_happenings}
use Rattle.spec_links.specs.Guarded.{happens_by_packets, verdict_unit}
use Rattle.machine_operations.proofs.{unplanned_keys, keys_into}
use Rattle.machine_operations.specs.{LinkState, port_at, receiving_draw_at, StreamsAndPacketsStand}
use Rattle.machine_operations.specs.{state_due_if_planned, rx_slots, StreamState, receiving_draw}
unfoldable use Rattle.machine_operations.specs.{stream_state_due}
use Rattle.law_reads.proofs.Order.{here_after, takes_first}
use Rattle.law_reads.proofs.ByNumber.{unit_again}
use Rattle.law_reads.specs.Waiting.{tlps_ended, waiting_next}
use Rattle.law_reads.proofs.Followed.{waiting_follows}
use Rattle.ide_types.specs.declared.direction.Direction.{Direction}
use Rattle.spec_links.specs.Hops.{HopTlp, tlps_with}
use Rattle.machine_whole.specs.Accesses.{unit_tlps, face_statuses, waiting_reads_after, device_draw_at, posted_draw_at}
use Rattle.machine_whole.specs.Accesses.{floors_after}

-- these are the packets of the unit that a verdict ends, if it ends one
abbrev pub AreEnded : Plan → History → List Packet → Event → Verdict → Type 0
AreEnded plan h ps e (v.Accepted port unit effects) = ps ≡ unit_ended plan h e port unit
AreEnded plan h ps e w = Unit {0}

-- ---- the reads that wait

drop_more : {A : Type 0} (n : ℕ) (xs : List A) → drop 1 (drop n xs) ≡ drop (n + 1) xs
drop_more zero [] = refl
drop_more zero (x ∷ xs) = refl
drop_more (suc n) [] = let e : suc n + 1 ≡ suc (n + 1) = omega arith in rw e refl
drop_more (suc n) (x ∷ xs) = let e : suc n + 1 ≡ suc (n + 1) = omega arith in rw e (drop_more n xs)

-- an answer takes the first, if it takes one
one_taken : (b : Bool) (n : ℕ) (xs ys : List WaitingRead) → ys ≡ xs
    → (if b then drop 1 (drop n xs) else drop n xs) ≡ drop (if b then n + 1 else n) ys
one_taken true n xs ys same = drop_more n xs ∙ ap (drop (n + 1)) (sym same)
one_taken false n xs ys same = ap (drop n) (sym same)

-- by how the interfaces stood before the pair
pub waiting_is : (plan : Plan) (h : History) (e : Event) (w : Verdict) (ps : List Packet) → CauseLaw plan ((e, w) ∷ h)
    → AreEnded plan h ps e w → (at : PortName)
    → waiting_reads_after plan (history_statuses plan h) ps e w at (waiting_reads plan h at)
    ≡ waiting_reads plan ((e, w) ∷ h) at
unfolding reads_taken queued_in
waiting_is plan h e (v.Accepted end unit effects) ps law units at =
    by (is_same_port (port_of plan end) at) (here_after plan h e (v.Accepted end unit effects) law at)
    (units ∙ sym (unit_again plan h e end unit effects law))
  where
    xs : SealedList
    xs = sealed_packets plan ((e, v.Accepted end unit effects) ∷ h)

    reads : List Packet → List WaitingRead
    reads us = reads_by (targets_at at.side (history_statuses plan h at.line)) end unit effects us

    by : (b : Bool) → queued_in plan (sealed_packets plan ((e, v.Accepted end unit effects) ∷ h)) h at
        ≡ queued_reads plan h at
        → ps ≡ unit_accepted plan (sealed_packets plan ((e, v.Accepted end unit effects) ∷ h)) h e end unit
        → (if b then waiting_reads plan h at ++ reads ps else waiting_reads plan h at)
        ≡ drop (reads_taken h at)
        (if b then queued_in plan (sealed_packets plan ((e, v.Accepted end unit effects) ∷ h)) h at
        ++ reads (unit_accepted plan (sealed_packets plan ((e, v.Accepted end unit effects) ∷ h)) h e end unit)
        else queued_in plan (sealed_packets plan ((e, v.Accepted end unit effects) ∷ h)) h at)
    by true here same =
        ap (λ (us : List Packet). waiting_reads plan h at ++ reads us) same
        ∙ (sym (drop-append-le (reads_taken h at) (queued_reads plan h at) _ (takes_first plan h law.1 at))
        ∙ ap (λ (ys : List WaitingRead). drop (reads_taken h at) (ys ++ reads (unit_accepted plan xs h e end unit)))
        (sym here))
    by false here same = ap (drop (reads_taken h at)) (sym here)
waiting_is plan h e (v.Sealed ds) ps law units at = one_taken (answers_at at e) (reads_taken h at)
    (queued_reads plan h at) _ (here_after plan h e (v.Sealed ds) law at)
waiting_is plan h e (v.Access (av.Dropped i c)) ps law units at = one_taken (answers_at at e) (reads_taken h at)
    (queued_reads plan h at) _ (here_after plan h e (v.Access (av.Dropped i c)) law at)
waiting_is plan h (event.Reset k ends) (v.Reset l) ps law units at = by (l == at.line)
    (here_after plan h (event.Reset k ends) (v.Reset l) law at)
  where
    by : (b : Bool) → queued_in plan (sealed_packets plan ((event.Reset k ends, v.Reset l) ∷ h)) h at
        ≡ queued_reads plan h at
        → (if b then [] else waiting_reads plan h at) ≡ drop (if b then 0 else reads_taken h at)
        (if b then [] else queued_in plan (sealed_packets plan ((event.Reset k ends, v.Reset l) ∷ h)) h at)
    by true here = refl
    by false here = ap (drop (reads_taken h at)) (sym here)
waiting_is plan h e w ps law units at = ap (drop (reads_taken h at)) (sym (here_after plan h e w law at))

-- ---- the floors

-- the greatest draw that is Live at a receiver is the greatest that is On
greatest_is : (plan : Plan) (h : History) (port : PortName) (s : SubStream) (ks : Keys)
    → unwrap_or (receiving_draw (rx_slots plan h port s ks)) 0 ≡ greatest_on ks
greatest_is plan h port s ks = by ks.first ks.second
  where
    by : (a b : Keyed) → unwrap_or (receiving_draw (rx_slots plan h port s
        (record { first = a; second = b }))) 0 ≡ greatest_on (record { first = a; second = b })
    by (On i) (On j) = grind (arith, nat_tests)
    by a b = grind arith

pub posted_draw_is : (plan : Plan) (st : LinkState) (h : History) → StreamsAndPacketsStand plan st h
    → (port : PortName) (stream : ℕ)
    → posted_draw_at plan st port stream ≡ greatest_on (place_keys h (receiver_at port stream))
unfolding stream_state_due
posted_draw_is plan st h stands port stream = elim (cases_Bool (is_some (stream_plan plan port.line stream))) [
  | inl known ↦
      let s = lane_in port stream Pr in
      let here : state_due_if_planned plan h port stream ≡ Some (stream_state_due plan h port stream) = rw known refl in
      ap (λ (o : Option StreamState). unwrap_or (receiving_draw_at Pr o) 0) (stands.streams port stream ∙ here)
      ∙ (greatest_is plan h port s (port_keys h port s) ∙ ap greatest_on (keys_into h port stream Pr))
  | inr none ↦
      let here : state_due_if_planned plan h port stream ≡ None = rw none refl in
      ap (λ (o : Option StreamState). unwrap_or (receiving_draw_at Pr o) 0) (stands.streams port stream ∙ here)
      ∙ sym (ap greatest_on (unplanned_keys plan h stands.cause (receiver_at port stream) none))
]

device_draw_is : (plan : Plan) (st : LinkState) (h : History) → StreamsAndPacketsStand plan st h → (x : Site)
    → device_draw_at plan st x ≡ draw_at_device h x
device_draw_is plan st h stands x = posted_draw_is plan st h stands (port_at Device x.link) x.plan.stream

floors_map : (plan : Plan) (h : History) (e : Event) (w : Verdict) (xs : List Site)
    → floors_after e (draw_at_device h) xs (map (face_at plan h) xs) (map (face_at plan ((e, w) ∷ h)) xs)
    (map (device_floor plan h) xs) ≡ map (device_floor plan ((e, w) ∷ h)) xs
unfolding device_floor
floors_map plan h e w [] = refl
floors_map plan h e w (x ∷ xs) = ap (λ (rest : List ℕ). device_floor plan ((e, w) ∷ h) x ∷ rest)
    (floors_map plan h e w xs)

pub floors_are : (plan : Plan) (st : LinkState) (h : History) (e : Event) (w : Verdict) (before after : List Face)
    (floors : List ℕ) → StreamsAndPacketsStand plan st h → before ≡ map (face_at plan h) (sites plan)
    → after ≡ map (face_at plan ((e, w) ∷ h)) (sites plan) → floors ≡ map (device_floor plan h) (sites plan)
    → floors_after e (device_draw_at plan st) (sites plan) before after floors
    ≡ map (device_floor plan ((e, w) ∷ h)) (sites plan)
floors_are plan st h e w before after floors stands old new same =
    (λ i. floors_after e (λ x. device_draw_is plan st h stands x i) (sites plan) (old i) (new i) (same i))
    ∙ floors_map plan h e w (sites plan)

-- ---- how interfaces stand

statuses_map : (plan : Plan) (h : History) (link : ℕ) (xs : List Site)
    → face_statuses link xs (map (face_at plan h) xs) (map (device_floor plan h) xs)
    ≡ map (device_status plan h) (filter (λ x. x.link == link) xs)
statuses_map plan h link [] = refl
statuses_map plan h link (x ∷ xs) = by (x.link == link) (statuses_map plan h link xs)
  where
    by : (b : Bool) → face_statuses link xs (map (face_at plan h) xs) (map (device_floor plan h) xs)
        ≡ map (device_status plan h) (filter (λ x. x.link == link) xs)
        → (if b then device_status plan h x
        ∷ face_statuses link xs (map (face_at plan h) xs) (map (device_floor plan h) xs)
        else face_statuses link xs (map (face_at plan h) xs) (map (device_floor plan h) xs))
        ≡ map (device_status plan h)
        (if b then x ∷ filter (λ x. x.link == link) xs else filter (λ x. x.link == link) xs)
    by true rest = ap (λ (ys : List InterfaceStatus). device_status plan h x ∷ ys) rest
    by false rest = rest

pub statuses_are : (plan : Plan) (h : History) (faces : List Face) (floors : List ℕ)
    → faces ≡ map (face_at plan h) (sites plan) → floors ≡ map (device_floor plan h) (sites plan)
    → (link : ℕ) → face_statuses link (sites plan) faces floors ≡ history_statuses plan h link
statuses_are plan h faces floors old same link =
    (λ i. face_statuses link (sites plan) (old i) (same i)) ∙ statuses_map plan h link (sites plan)

-- ---- what happened

happens_same : (plan : Plan) (statuses : ℕ → List InterfaceStatus) (h : History) (ps : List Packet) (e : Event)
    (w : Verdict)
    (link : ℕ) → AreEnded plan h ps e w
    → happens_by_packets plan statuses ps e w link ≡ happens_by_packets plan statuses (verdict_unit plan h e w) e w link
happens_same plan statuses h ps e (v.Accepted port unit effects) link units =
    ap (λ (us : List Packet). happens_by_packets plan statuses us e (v.Accepted port unit effects) link) units
happens_same plan statuses h ps (event.Reset k ends) (v.Reset l) link units = refl
happens_same plan statuses h ps e w link units = refl

pub happened_is : (plan : Plan) (h : History) (e : Event) (w : Verdict) (ps : List Packet) (faces : List Face)
    (floors : List ℕ) → faces ≡ map (face_at plan h) (sites plan) → floors ≡ map (device_floor plan h) (sites plan)
    → AreEnded plan h ps e w → (link : ℕ)
    → newest_happened (happens_by_packets plan (λ l. face_statuses l (sites plan) faces floors) ps e w link)
    (link_happenings plan h link) ≡ link_happenings plan ((e, w) ∷ h) link
unfolding link_happenings
happened_is plan h e w ps faces floors old same units link =
    ap (λ (hs : List (Option Happened)). newest_happened hs (link_happenings plan h link))
    ((λ i. happens_by_packets plan (λ l. statuses_are plan h faces floors old same l i) ps e w link)
    ∙ happens_same plan (history_statuses plan h) h ps e w link units)

-- ---- the TLPs that wait at switches

tlps_same : (plan : Plan) (h : History) (ps : List Packet) (e : Event) (w : Verdict) → AreEnded plan h ps e w
    → unit_tlps plan ps w ≡ tlps_ended plan h e w
tlps_same plan h ps e (v.Accepted port unit effects) units =
    ap (λ (us : List Packet). tlps_with (plain_of plan port unit us) us) units
tlps_same plan h ps e w units = refl

pub carried_is : (plan : Plan) (h : History) (e : Event) (w : Verdict) (ps : List Packet) → CauseLaw plan ((e, w) ∷ h)
    → AreEnded plan h ps e w → (link : ℕ) (d : Direction)
    → waiting_next (unit_tlps plan ps w) link d e w (hop_waiting plan h link d) ≡ hop_waiting plan ((e, w) ∷ h) link d
carried_is plan h e w ps law units link d =
    ap (λ (xs : List HopTlp). waiting_next xs link d e w (hop_waiting plan h link d)) (tlps_same plan h ps e w units)
    ∙ sym (waiting_follows plan h e w law link d)
