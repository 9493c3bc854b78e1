-- How a refresh's key takes over. Of two keys that are On at a sender the older one is for an unfinished unit (the
-- shapes of a place, spec_keys); and no touch but a STOP and the loss of all keys takes the greatest draw that is On.
use Rattle.spec_links.proofs.Terms.{Bool, List, Option, Some, None, [], ap, arith, false, inl, inr, length, refl, subst}
use Rattle.spec_links.proofs.Terms.{sym, true, ℕ, ◌++◌, ◌==◌, ◌∙◌, ◌∷◌, ◌≡◌, ◌≤◌, ◌<◌, nat_tests, draws, manager}
use Rattle.spec_links.proofs.Terms.{moments, touches, touches_after, seal_touches, Touch, keys, is_open, CauseLaw, due}
use Rattle.spec_links.proofs.Terms.{without_outlived, keys_after_touch, base, ahead_of_packet}
use Rattle.spec_links.proofs.Terms.{sealed_packets, sent_packets, sub_stream_packets, sub_stream_of, sends_it}
use Rattle.spec_links.proofs.Terms.{is_same, place_in_sub_stream, key_plan, Event, History, Keys, Packet}
use Rattle.spec_links.proofs.Terms.{KeyPlace, Plan, PortName, Sealed, SealedPacket, Verdict, key_in, place_keys, on_in}
use Rattle.spec_links.proofs.Terms.{sub_bits, not, nat_le, nat_lt, ◌||◌, open_unit, sent_bytes, AllByRecursion}
use Rattle.spec_links.proofs.Terms.{sent_direction, KeyCauseLaw}
use Rattle.std.specs.Prelude.{◌≢◌, if◌then◌else◌}
use Rattle.std.proofs.lemmas.Bool.{cases_lt, or_cases}
use Rattle.script_events.specs.declared.event.Loss.{Loss}
use Rattle.script_events.specs.declared.event.Event.TheVariants as event
use Rattle.event_verdicts.specs.declared.verdict.Operation.{Operation}
use Rattle.event_verdicts.specs.declared.verdict.Operation.TheVariants as op
use Rattle.event_verdicts.specs.declared.verdict.Verdict.TheVariants as v
use Rattle.spec_keys.specs.Keys.{Program, Go, Stop, Clear, Seal, Accept, draw_of_keyed}
use Rattle.spec_keys.specs.Places.{KeyPlan, is_on_stream}
use Rattle.spec_keys.specs.Operations.{StreamStage, Up, Reach, work_of, reach_of, makes_draw}
use Rattle.spec_keys.specs.Due.{ports_at}
unfoldable use Rattle.spec_keys.specs.Due.{key_due}
use Rattle.spec_keys.proofs.Performs.{performed_is}
use Rattle.ide_types.specs.declared.port.Side.TheVariants.{Host}
use Rattle.law_keys.proofs.Ends.{on_same}
use Rattle.law_keys.proofs.States.{in_state, keys_follow_operations}
use Rattle.spec_keys.specs.History.{op_of, draw_on_at, history_status, work_touches, on_it, came}
use Rattle.spec_keys.proofs.Shapes.{Shape, IsAt}
use Rattle.spec_keys.proofs.Touches.{Comes, AllCome, Programs, Goes}
use Rattle.spec_keys.proofs.Fits.{FitsAt}
use Rattle.spec_keys.proofs.Whole.{fits, next_fits}
use Rattle.spec_links.proofs.Tests.{eqb-refl}
use Rattle.spec_links.proofs.Sealed.{left_alone, sent-same}
use Rattle.spec_links.proofs.SealingIs.{sending_port, AllApart, all_apart, sealing_is}
use Rattle.spec_links.proofs.Senders.{AreOther}
use Rattle.law_key_facts.proofs.Given.{key_cause}
use Rattle.law_key_facts.proofs.Moments.{busy_is}
use Rattle.law_key_use.specs.InUse.{sender_of}
use Rattle.law_key_use.specs.Refreshes.{sub_stream_sent, HasOpenUnit, BeginsUnderNewest, takes_keys, IsOnFrom}
use Rattle.law_key_use.specs.Refreshes.{NewestStays, KeepsOlderForUnit, RefreshLeaves, NoneTakes, TakesOver}
use Rattle.law_key_use.specs.Refreshes.{RefreshTakes}
use Rattle.law_key_use.proofs.InUse.{sealed_least, same_keys}
use Rattle.law_keys.proofs.Ends.{refreshed_as, refreshed_op}

-- ---- of two draws that are On

two_on : (s : Bool) (ts : List Touch) (sh : Shape) (set : Bool) (i j : ℕ) → IsAt s ts sh → s ≡ true
    → on_in (key_in (keys s ts) set) ≡ Some i → on_in (key_in (keys s ts) (not set)) ≡ Some j → i < j
    → is_open ts i ≡ true
two_on s ts sh set i j is sends one other less = grind arith

overtaken : (plan : Plan) (h : History) → CauseLaw plan h → (p : KeyPlace) → p.sends ≡ true → (set : Bool) (i j : ℕ)
    → draw_on_at h p set ≡ Some i → draw_on_at h p (not set) ≡ Some j → i < j
    → HasOpenUnit plan h (sub_stream_sent p) i
overtaken plan h law p sends set i j one other less none =
    let at = fits (key_plan plan) h (key_cause plan h law) p in
    let port : PortName = record { side = p.side; line = p.line } in
    let s = sub_stream_sent p in
    let place : place_in_sub_stream port s true ≡ p = λ k. record
    { side = p.side; line = p.line; stream = p.stream; sends = sym sends k; sub = p.sub } in
    let here : sends_it port s ≡ true = rw (eqb-refl p.line, eqb-refl (sent_direction p.side)) refl in
    let opens = two_on p.sends (moments h p) at.shape set i j at.is sends one other less in
    let busy = busy_is plan h law port s i here ∙ (ap (λ (q : KeyPlace). is_open (moments h q) i) place ∙ opens) in
    let idle = sym (ap (λ (ps : List Packet). nat_lt 0 (length ps)) none) ∙ busy in
    absurd cc

-- they are in different sets
beside : (h : History) (p : KeyPlace) (set other : Bool) (i j : ℕ) → draw_on_at h p set ≡ Some j
    → draw_on_at h p other ≡ Some i → i ≢ j → draw_on_at h p (not other) ≡ Some j
beside h p false false i j one two differs = absurd (differs cc)
beside h p true true i j one two differs = absurd (differs cc)
beside h p false true i j one two differs = one
beside h p true false i j one two differs = one

keeps_older : (plan : Plan) (h : History) → CauseLaw plan h → KeepsOlderForUnit plan h
keeps_older plan h law p sends set other i j one two less =
    overtaken plan h law p sends set i j one
    (beside h p other set i j two one (λ (same : i ≡ j). omega (arith, less, same))) less

-- ---- packet by packet

-- packets of other sub-streams leave what was sent
same_sent : (plan : Plan) (h : History) (e : Event) (ds ahead more : List SealedPacket) (d : SealedPacket) (j : ℕ)
    → Sealed ds ≡ due plan h e → ds ≡ ahead ++ d ∷ more
    → sent_packets plan ((e, Sealed ahead) ∷ h) (sub_stream_of d) j ≡ sent_packets plan h (sub_stream_of d) j
unfolding sealed_packets
same_sent plan h e ds ahead more d j due_is is =
    let s = sub_stream_of d in
    let apart = all_apart plan h (sending_port plan h e) (sent_bytes plan h e) ds (sealing_is plan h e ds due_is) in
    left_alone (λ xs. sub_stream_packets xs s j) (λ c. is_same (sub_stream_of c) s ≡ false)
    (λ xs c q off. sent-same xs (c, q) s j off) plan (ahead_of_packet plan (sealed_packets plan h) (base h))
    (sent_bytes plan h e) ahead (sealed_packets plan h) (all_other ahead (subst AllApart is apart))
  where
    other : (c : SealedPacket) → (sub_bits c.sub == sub_bits d.sub) ≡ false
        → is_same (sub_stream_of c) (sub_stream_of d) ≡ false
    other c differ = grind arith

    before : (c : SealedPacket) (cs : List SealedPacket) → AreOther c.sub (cs ++ d ∷ more)
        → (sub_bits c.sub == sub_bits d.sub) ≡ false
    before c [] all = all.0
    before c (f ∷ cs) all = before c cs all.1

    all_other : (cs : List SealedPacket) → AllApart (cs ++ d ∷ more)
        → AllByRecursion (λ (c : SealedPacket). is_same (sub_stream_of c) (sub_stream_of d) ≡ false) cs
    all_other [] all = tt
    all_other (c ∷ cs) all = (other c (before c cs all.0), all_other cs all.1)

-- a greater draw that is On at the sender of a packet is in the other set
in_other : (a b : Option ℕ) (k set : Bool) (i j : ℕ) → (if k then b else a) ≡ Some j → (if set then b else a) ≡ Some i
    → j < i → (if not k then b else a) ≡ Some i
in_other a b k set i j one two less = grind (arith, nat_tests)

set_of : (h : History) (p : KeyPlace) (k : Bool) → draw_on_at h p k
    ≡ (if k then draw_on_at h p true else draw_on_at h p false)
set_of h p k = grind arith

-- a packet that is sealed while a greater draw is On goes on with an open unit
goes_on : (plan : Plan) (h : History) (e : Event) (ds ahead more : List SealedPacket) (d : SealedPacket)
    → CauseLaw plan h → Sealed ds ≡ due plan h e → ds ≡ ahead ++ d ∷ more → (set : Bool) (i : ℕ)
    → draw_on_at ((e, Sealed ahead) ∷ h) (sender_of d) set ≡ Some i → d.draw < i
    → HasOpenUnit plan ((e, Sealed ahead) ∷ h) (sub_stream_of d) d.draw
goes_on plan h e ds ahead more d law due_is is set i on less =
    let p = sender_of d in
    let keys_same = same_keys plan h e ds ahead more d due_is is in
    let least = sealed_least plan h e ds due_is ahead more d is in
    let there = λ (k : Bool). ap (λ (ks : Keys). on_in (key_in ks k)) keys_same in
    let mine : draw_on_at h p d.k ≡ Some d.draw = sym (there d.k) ∙ least.0 in
    let also : draw_on_at h p set ≡ Some i = sym (there set) ∙ on in
    let other = set_of h p (not d.k) ∙ in_other (draw_on_at h p false) (draw_on_at h p true) d.k set i d.draw
    (sym (set_of h p d.k) ∙ mine) (sym (set_of h p set) ∙ also) less in
    subst (λ (ps : List Packet). open_unit ps ≢ []) (sym (same_sent plan h e ds ahead more d d.draw due_is is))
    (overtaken plan h law p refl d.k d.draw i mine other less)

begins_newest : (plan : Plan) (h : History) (e : Event) (w : Verdict) → CauseLaw plan ((e, w) ∷ h)
    → BeginsUnderNewest plan h e w
begins_newest plan h e (Sealed ds) law = λ ahead more d is none set i on. elim (cases_lt d.draw i) [
  | inl less ↦ absurd (goes_on plan h e ds ahead more d law.1 law.0 is set i on less none)
  | inr le ↦ le
]
begins_newest plan h e w law = tt

-- ---- touch by touch

abbrev is_from : Option ℕ → ℕ → Bool
is_from None j = false
is_from (Some i) j = nat_le j i

-- a draw from this one on is On
abbrev has_from : Keys → ℕ → Bool
has_from ks j = is_from (on_in ks.first) j || is_from (on_in ks.second) j

-- a touch that takes no key
abbrev Gives : Touch → Type 0
Gives (Stop set) = ⊥
Gives Clear = ⊥
Gives t = Unit {0}

settled_from : (s : Bool) (f : ℕ → Bool) (ks : Keys) (j : ℕ) → has_from ks j ≡ true
    → has_from (without_outlived s f ks) j ≡ true
settled_from s f ks j has = grind (arith, nat_tests)

programmed_from : (s : Bool) (ts : List Touch) (k : Bool) (i : ℕ) (sh : Shape) (j : ℕ) → IsAt s ts sh → Programs k sh
    → has_from (keys s ts) j ≡ true → has_from (keys_after_touch s (keys s ts) (Program k i)) j ≡ true
programmed_from s ts k i sh j is may has = grind (arith, nat_tests)

gone_from : (s : Bool) (ts : List Touch) (k : Bool) (i : ℕ) (sh : Shape) (j : ℕ) → IsAt s ts sh → Goes k i sh
    → has_from (keys s ts) j ≡ true → has_from (keys_after_touch s (keys s ts) (Go k i)) j ≡ true
gone_from s ts k i sh j is may has = grind (arith, nat_tests)

accepted_from : (ks : Keys) (i : ℕ) (k : Bool) (j : ℕ) → on_in (key_in ks k) ≡ Some i → has_from ks j ≡ true
    → has_from (keys_after_touch false ks (Accept i)) j ≡ true
accepted_from ks i k j on has = grind (arith, nat_tests)

touched_from : (s : Bool) (ts : List Touch) (t : Touch) (j : ℕ) → Comes s ts t → Gives t
    → has_from (keys s ts) j ≡ true → has_from (keys_after_touch s (keys s ts) t) j ≡ true
touched_from s ts (Program k i) j comes gives has = programmed_from s ts k i comes.shape j comes.is comes.may has
touched_from s ts (Go k i) j comes gives has = gone_from s ts k i comes.shape j comes.is comes.may has
touched_from s ts (Stop k) j comes gives has = absurd gives
touched_from s ts Clear j comes gives has = absurd gives
touched_from s ts (Seal i m) j comes gives has = has
touched_from s ts (Accept i) j comes gives has = accepted_from (keys s ts) i comes.may.1.0 j comes.may.1.1 has

one_from : (s : Bool) (ts : List Touch) (t : Touch) (j : ℕ) → Comes s ts t → Gives t → has_from (keys s ts) j ≡ true
    → has_from (keys s (t ∷ ts)) j ≡ true
unfolding keys
one_from s ts t j comes gives has = settled_from s (is_open (t ∷ ts)) (keys_after_touch s (keys s ts) t) j
    (touched_from s ts t j comes gives has)

abbrev GiveAll : List Touch → Type 0
GiveAll [] = Unit {0}
GiveAll (t ∷ ts) = Gives t × GiveAll ts

all_from : (s : Bool) (ts more : List Touch) (j : ℕ) → AllCome s ts more → GiveAll more → has_from (keys s ts) j ≡ true
    → has_from (keys s (touches_after ts more)) j ≡ true
all_from s ts [] j come give has = has
all_from s ts (t ∷ more) j come give has =
    all_from s (t ∷ ts) more j come.1 give.1 (one_from s ts t j come.0 give.0 has)

-- ---- event by event

keyed_give : (f : Bool) (o : Operation) (q : StreamStage) (next : ℕ) (r : Option Reach) (p : KeyPlace)
    → makes_draw o ≡ true → GiveAll (on_it f (work_touches (work_of o q next) r p))
keyed_give f o q next r p draws = grind arith

sealed_give : (p : KeyPlace) (ds : List SealedPacket) → GiveAll (seal_touches p ds)
sealed_give p [] = tt
sealed_give p (d ∷ ds) = let more = sealed_give p ds in grind arith

came_give : (p : KeyPlace) (w : Verdict) → GiveAll (came p w)
came_give p (v.Sealed ds) = sealed_give p ds
came_give p (v.Accepted port unit effects) = grind arith
came_give p _ = tt

touches_give : (ops : ℕ → ℕ → StreamStage) (next : ℕ) (e : Event) (w : Verdict) (p : KeyPlace)
    → takes_keys e p ≡ false → GiveAll (touches ops next e w p)
touches_give ops next (event.Establish l s loss) w p none =
    keyed_give (is_on_stream p l s) op.Establish (ops l s) next (reach_of op.Establish w) p refl
touches_give ops next (event.Refresh l s loss) w p none =
    keyed_give (is_on_stream p l s) op.Refresh (ops l s) next (reach_of op.Refresh w) p refl
touches_give ops next (event.Stop l s loss) w p none = rw none tt
touches_give ops next (event.Reset l ends) w p none = grind arith
touches_give ops next e w p none = came_give p w

-- a test of both sets, and the set that passes it
has_of : (ks : Keys) (set : Bool) (j : ℕ) → on_in (key_in ks set) ≡ Some j → has_from ks j ≡ true
has_of ks set j on = grind (arith, nat_tests)

in_set : (o : Option ℕ) (j : ℕ) → is_from o j ≡ true → (i : ℕ) × (j ≤ i) × (o ≡ Some i)
in_set None j is = absurd cc
in_set (Some i) j is = (i, grind (arith, nat_tests), refl)

set_found : (ks : Keys) (j : ℕ) → has_from ks j ≡ true
    → (set : Bool) × (i : ℕ) × (j ≤ i) × (on_in (key_in ks set) ≡ Some i)
set_found ks j has = elim (or_cases (is_from (on_in ks.first) j) (is_from (on_in ks.second) j) has) [
  | inl one ↦ let x = in_set (on_in ks.first) j one in (false, x.0, x.1, x.2)
  | inr two ↦ let x = in_set (on_in ks.second) j two in (true, x.0, x.1, x.2)
]

newest_stays : (plan : KeyPlan) (h : History) (e : Event) (w : Verdict) → KeyCauseLaw plan ((e, w) ∷ h)
    → NewestStays h e w
unfolding moments
newest_stays plan h e w cause p set j none on =
    let come = (next_fits plan h e w cause p (fits plan h cause.2 p)).come in
    set_found (place_keys ((e, w) ∷ h) p) j
    (all_from p.sends (moments h p) (touches (manager h).ops (draws h) e w p) j come
    (touches_give (manager h).ops (draws h) e w p none) (has_of (place_keys h p) set j on))

-- ---- at the end of a refresh

up_waits : (p : KeyPlace) (ts : List Touch) (top : ℕ) (set other : Bool) (i j : ℕ) → FitsAt (Up set j) top p ts
    → draw_of_keyed (key_in (keys p.sends ts) other) ≡ Some i → on_in (key_in (keys p.sends ts) other) ≡ Some i
up_waits p ts top set other i j at kept = grind arith

refreshed_names : (plan : KeyPlan) (h : History) (line stream : ℕ) (loss : Option Loss) (l t j : ℕ)
    → v.Refreshed l t j ≡ key_due plan h (event.Refresh line stream loss) (v.Refreshed l t j)
    → (l ≡ line) × (j ≡ (work_of op.Refresh (op_of h line stream) (draws h)).draw)
unfolding key_due
refreshed_names plan h line stream loss l t j is =
    refreshed_as _ plan (op_of h line stream) (draws h) (ports_at h) (history_status h Host line stream) line stream _
    l t j (performed_is (ports_at h) line stream loss (work_of op.Refresh (op_of h line stream) (draws h))) is

-- the stream is up with the draw
is_up : (plan : KeyPlan) (h : History) (line stream : ℕ) (loss : Option Loss) (l t j : ℕ)
    → KeyCauseLaw plan ((event.Refresh line stream loss, v.Refreshed l t j) ∷ h)
    → (p : KeyPlace) → p.line ≡ line → p.stream ≡ stream
    → op_of ((event.Refresh line stream loss, v.Refreshed l t j) ∷ h) p.line p.stream
    ≡ Up (work_of op.Refresh (op_of h line stream) (draws h)).set j
unfolding manager
is_up plan h line stream loss l t j cause p on_link on_id =
    let names = refreshed_names plan h line stream loss l t j cause.0 in
    let w = work_of op.Refresh (op_of h line stream) (draws h) in
    rw (on_same p line stream (on_link, on_id), names.0)
    (refreshed_op line (op_of h line stream) (draws h) ∙ ap (Up w.set) (sym names.1))

refresh_leaves : (plan : Plan) (h : History) (e : Event) (w : Verdict) → CauseLaw plan ((e, w) ∷ h)
    → RefreshLeaves plan h e w
refresh_leaves plan h (event.Refresh line stream loss) (v.Refreshed l t j) law = λ p on_link on_id.
    let g : History = (event.Refresh line stream loss, v.Refreshed l t j) ∷ h in
    let cause = key_cause plan g law in
    let set = (work_of op.Refresh (op_of h line stream) (draws h)).set in
    let up = is_up (key_plan plan) h line stream loss l t j cause p on_link on_id in
    let at = in_state (key_plan plan) g cause p (Up set j) up in
    let follow = (keys_follow_operations (key_plan plan) g cause).up p set j up in
    record {
      on = (set, follow.0);
      none_waits = λ other i kept. up_waits p (moments g p) (draws g) set other i j at kept;
      older = λ sends other i on differs.
          let less = follow.1 other i on differs in
          (less, overtaken plan g law p sends other i j on (beside g p set other i j follow.0 on differs) less);
    }
refresh_leaves plan h _ _ law = tt

-- ---- since a refresh

stays_since : (plan : Plan) (since g : History) → CauseLaw plan (since ++ g) → (p : KeyPlace) (j : ℕ)
    → NoneTakes since p → IsOnFrom g p j → IsOnFrom (since ++ g) p j
stays_since plan [] g law p j none from = from
stays_since plan ((e, w) ∷ since) g law p j none from =
    let before = stays_since plan since g law.1 p j none.1 from in
    let now = newest_stays (key_plan plan) (since ++ g) e w (key_cause plan ((e, w) ∷ (since ++ g)) law) p before.0
    before.1 none.0 before.3 in
    (now.0, now.1, (let one = before.2 in let two = now.2 in omega (arith, one, two)), now.3)

front_of : (plan : Plan) (since g : History) → CauseLaw plan (since ++ g) → CauseLaw plan g
front_of plan [] g law = law
front_of plan ((e, w) ∷ since) g law = front_of plan since g law.1

takes_over : (plan : Plan) (h : History) (e : Event) (w : Verdict) → CauseLaw plan ((e, w) ∷ h) → TakesOver plan h e w
takes_over plan h e (Sealed ds) law =
    λ since older line stream l t j loss grown ahead more d is on_link on_id none less.
    let g : History = (event.Refresh line stream loss, v.Refreshed l t j) ∷ older in
    let p = sender_of d in
    let there = subst (CauseLaw plan) grown law.1 in
    let done = refresh_leaves plan older (event.Refresh line stream loss) (v.Refreshed l t j)
    (front_of plan since g there) p on_link on_id in
    let from = subst (λ (k : History). IsOnFrom k p j) (sym grown)
    (stays_since plan since g there p j none (done.on.0, j, omega arith, done.on.1)) in
    let now = ap (λ (ks : Keys). on_in (key_in ks from.0)) (same_keys plan h e ds ahead more d law.0 is) ∙ from.3 in
    let most = from.2 in
    goes_on plan h e ds ahead more d law.1 law.0 is from.0 from.1 now (omega (arith, less, most))
takes_over plan h e w law = tt

pub refresh_takes : (plan : Plan) (h : History) → CauseLaw plan h → RefreshTakes plan h
refresh_takes plan [] law = tt
refresh_takes plan ((e, w) ∷ h) law = (
  keeps_older plan ((e, w) ∷ h) law,
  refresh_leaves plan h e w law,
  begins_newest plan h e w law,
  newest_stays (key_plan plan) h e w (key_cause plan ((e, w) ∷ h) law),
  takes_over plan h e w law,
  refresh_takes plan h law.1,
)
