-- A key that becomes Live at a sender has sealed nothing.
use Rattle.spec_links.proofs.Terms.{Bool, List, Some, [], ap, arith, false, inl, inr, refl, subst, sym, true, ℕ, ◌<◌}
use Rattle.spec_links.proofs.Terms.{◌==◌, ◌∙◌, ◌∷◌, ◌≡◌, ◌≤◌, ◌⊎◌, nat_tests, base, touches_after, draws, manager}
use Rattle.spec_links.proofs.Terms.{moments, touches, GoTouch as Go, Touch, is_open, keys, without_outlived}
use Rattle.spec_links.proofs.Terms.{keys_after_touch, CauseLaw, KeyName, SealedList, after_ends, ahead_of_packet}
use Rattle.spec_links.proofs.Terms.{ended_keys, port_keys, lesser, live_key, place_in_sub_stream, sealed_packets}
use Rattle.spec_links.proofs.Terms.{sent_packets, sub_stream_packets, sub_stream_of, waits, SubStream, is_same}
use Rattle.spec_links.proofs.Terms.{key_plan, lane_out, Event, History, Keyed, Keys, Off, On, Plan, PortName, Sealed}
use Rattle.spec_links.proofs.Terms.{SealedPacket, SubKind, Verdict, key_in, place_keys, not, on_in, ◌&&◌, sent_bytes}
use Rattle.spec_keys.proofs.Shapes.{Shape, draws_used, IsAt}
use Rattle.spec_keys.proofs.Touches.{Goes, waiting_goes, alone_goes, following_goes, both_goes, Comes, AllCome}
use Rattle.law_keys.proofs.Behind.{used_behind}
use Rattle.spec_keys.proofs.Whole.{fits, next_fits}
use Rattle.spec_links.proofs.Sealed.{sub_stream_packets-snoc, left_alone}
use Rattle.spec_links.proofs.Senders.{on_live}
use Rattle.spec_links.proofs.SealingIs.{sending_port, IsLive, sealing_is, all_live, sealed_same}
use Rattle.law_key_facts.proofs.Seats.{own_key, keys_out, on_key, live_here}
use Rattle.law_key_facts.proofs.SealedKeys.{live_all}
use Rattle.law_key_facts.proofs.Given.{key_cause}
use Rattle.law_key_facts.proofs.RealFacts.{sealed, apart, ends_keep}
use Rattle.law_key_facts.proofs.AllFacts.{unused, other_of, differ}
use Rattle.law_key_facts.proofs.Moments.{none_sent, sends_lane}

-- ---- what a touch makes On

settled_on : (s : Bool) (f : ℕ → Bool) (ks : Keys) (k : Bool) (j : ℕ)
    → on_in (key_in (without_outlived s f ks) k) ≡ Some j → on_in (key_in ks k) ≡ Some j
settled_on s f ks k j on = grind arith

-- only a GO makes a draw On
touch_on : (s : Bool) (ks : Keys) (t : Touch) (k : Bool) (j : ℕ) → on_in (key_in (keys_after_touch s ks t) k) ≡ Some j
    → (on_in (key_in ks k) ≡ Some j) ⊎ (t ≡ Go k j)
touch_on s ks t k j on = grind arith

goes_on : (s : Bool) (ts : List Touch) (sh : Shape) (k : Bool) (j : ℕ) → IsAt s ts sh → Goes k j sh
    → (on_in (key_in (keys s ts) k) ≡ Some j) ⊎ (draws_used ts ≤ j)
goes_on s ts _ k j is waiting_goes = let sound = is.sound in inr sound.0
goes_on s ts _ k j is alone_goes = inl
    (ap (λ (ks : Keys). on_in (key_in ks k)) is.are ∙ ap on_in (own_key k (On j) Off))
goes_on s ts _ k j is (following_goes i) = let sound = is.sound in inr (omega (arith, sound.0, sound.1))
goes_on s ts _ k j is (both_goes i) = inl
    (ap (λ (ks : Keys). on_in (key_in ks k)) is.are ∙ ap on_in (own_key k (On j) (On i)))

next_on : (s : Bool) (ts : List Touch) (t : Touch) → Comes s ts t → (k : Bool) (j : ℕ)
    → on_in (key_in (keys s (t ∷ ts)) k) ≡ Some j → (on_in (key_in (keys s ts) k) ≡ Some j) ⊎ (draws_used ts ≤ j)
unfolding keys
next_on s ts t comes k j on = elim
    (touch_on s (keys s ts) t k j (settled_on s (is_open (t ∷ ts)) (keys_after_touch s (keys s ts) t) k j on)) [
      | inl was ↦ inl was
      | inr go ↦ let goes = subst (Comes s ts) go comes in goes_on s ts goes.shape k j goes.is goes.may
    ]

all_on : (s : Bool) (ts more : List Touch) → AllCome s ts more → (k : Bool) (j : ℕ)
    → on_in (key_in (keys s (touches_after ts more)) k) ≡ Some j → (on_in (key_in (keys s ts) k) ≡ Some j)
    ⊎ (draws_used ts ≤ j)
all_on s ts [] come k j on = inl on
all_on s ts (t ∷ more) come k j on = elim (all_on s (t ∷ ts) more come.1 k j on) [
  | inl now ↦ next_on s ts t come.0 k j now
  | inr none ↦ inr (let grown = used_behind ts (t ∷ []) in omega (arith, grown, none))
]

-- at a sender, after a pair
newly_on : (plan : Plan) (h : History) (e : Event) (w : Verdict) → CauseLaw plan ((e, w) ∷ h)
    → (port : PortName) (stream : ℕ) (u : SubKind) (k : Bool) (j : ℕ) → let s = lane_out port stream u in
    key_in (port_keys ((e, w) ∷ h) port s) k ≡ On j → (key_in (port_keys h port s) k ≡ On j)
    ⊎ (draws_used (moments h (place_in_sub_stream port s true)) ≤ j)
unfolding moments
newly_on plan h e w law port stream u k j on =
    let s = lane_out port stream u in
    let p = place_in_sub_stream port s true in
    let cause = key_cause plan ((e, w) ∷ h) law in
    let come = (next_fits (key_plan plan) h e w cause p (fits (key_plan plan) h cause.2 p)).come in
    let now : on_in (key_in (place_keys ((e, w) ∷ h) p) k) ≡ Some j = ap (λ (ks : Keys). on_in (key_in ks k))
    (sym (keys_out ((e, w) ∷ h) port stream u)) ∙ ap on_in on in
    elim (all_on true (moments h p) (touches (manager h).ops (draws h) e w p) come k j now) [
      | inl was ↦ inl (ap (λ (ks : Keys). key_in ks k) (keys_out h port stream u) ∙ on_key (key_in (place_keys h p) k) j
          was)
      | inr none ↦ inr none
    ]

-- ---- keys go only when units end

ended_on : (ks : Keys) (k : Bool) (j : ℕ) → key_in (ended_keys ks.first ks.second) k ≡ On j → key_in ks k ≡ On j
ended_on ks k j on = grind (arith, nat_tests)

-- a draw that is On was On before
were_on : (port : PortName) (s : SubStream) (ds : List SealedPacket) (old : Keys) (k : Bool) (j : ℕ)
    → key_in (after_ends port s ds old) k ≡ On j → key_in old k ≡ On j
were_on port s ds old k j = ends_keep (λ ks. key_in ks k ≡ On j → key_in old k ≡ On j)
    (λ ks were on. were (ended_on ks k j on)) port s ds old (λ on. on)

-- ---- the draw that waits

-- of two that are On, the one that waits is not the live one
lesser_other : (a b : Keyed) (k : Bool) (i j : ℕ) (key : KeyName) → key_in (record { first = a; second = b }) k ≡ On j
    → key_in (record { first = a; second = b }) (not k) ≡ On i → i < j → lesser a b ≡ Some key → (key.draw == j) ≡ false
lesser_other a b k i j key on other less live = grind (arith, nat_tests)

-- the packets of a send are under the live keys, so none is under the draw that waits
none_under : (plan : Plan) (h : History) → CauseLaw plan h → (port : PortName) (stream : ℕ) (u : SubKind) (k : Bool)
    (j : ℕ)
    → let keys = port_keys h port (lane_out port stream u) in key_in keys k ≡ On j → waits k j (key_in keys (not k))
    ≡ true
    → (p : PortName) (t : ℕ) (d : SealedPacket) → IsLive plan h p t d
    → (is_same (sub_stream_of d) (lane_out port stream u) && (d.draw == j)) ≡ false
none_under plan h law port stream u k j on waiting p t d live = by_test
    (is_same (sub_stream_of d) (lane_out port stream u)) refl
  where
    ks : Keys
    ks = port_keys h port (lane_out port stream u)

    by_test : (b : Bool) → is_same (sub_stream_of d) (lane_out port stream u) ≡ b → (b && (d.draw == j)) ≡ false
    by_test false other = refl
    by_test true here =
        let other = other_of k j (key_in ks (not k)) waiting in
        let less = differ ks k other.draw j (apart plan h law port (lane_out port stream u)) on other.on other.least in
        let key = live_here plan h p t d live port stream u here in
        ap (λ (n : ℕ). n == j) live.draw ∙ lesser_other ks.first ks.second k other.draw j live.key on other.on less key

-- ---- a key that becomes Live

is_lesser : (a b : Keyed) (k : Bool) (j : ℕ) → key_in (record { first = a; second = b }) k ≡ On j
    → waits k j (key_in (record { first = a; second = b }) (not k)) ≡ false → lesser a b
    ≡ Some (record { k = k; draw = j })
is_lesser a b k j on not_waiting = grind (arith, nat_tests)

sent_before : (plan : Plan) (h : History) (e : Event) (w : Verdict) → CauseLaw plan ((e, w) ∷ h)
    → (port : PortName) (stream : ℕ) (u : SubKind) (k : Bool) (j : ℕ) → let s = lane_out port stream u in
    key_in (port_keys h port s) k ≡ On j → waits k j (key_in (port_keys h port s) (not k)) ≡ true
    → sent_packets plan ((e, w) ∷ h) s j ≡ sent_packets plan h s j
unfolding sealed_packets
sent_before plan h e (Sealed ds) law port stream u k j on waiting =
    let s = lane_out port stream u in
    let is = sealing_is plan h e ds law.0 in
    let xs = sealed_packets plan h in
    left_alone (λ xs. sub_stream_packets xs s j) (λ d. (is_same (sub_stream_of d) s && (d.draw == j)) ≡ false)
    (λ xs d q off. sub_stream_packets-snoc xs (d, q) s j ∙ rw off refl)
    plan (ahead_of_packet plan xs (base h)) (sent_bytes plan h e) ds xs
    (live_all _ plan h is.sending.port is.sending.stream ds
    (none_under plan h law.1 port stream u k j on waiting is.sending.port is.sending.stream)
    (all_live plan h (sending_port plan h e) (sent_bytes plan h e) ds is))
sent_before plan h e w law port stream u k j on waiting = refl

abbrev IsFresh : Plan → History → Event → Verdict → SubStream → PortName → KeyName → Type 0
IsFresh plan h e w s port key = (live_key h port s ≡ Some key) ⊎ (sent_packets plan ((e, w) ∷ h) s key.draw ≡ [])

-- if the draw was On before
on_fresh : (plan : Plan) (h : History) (e : Event) (w : Verdict) → CauseLaw plan ((e, w) ∷ h)
    → (port : PortName) (stream : ℕ) (u : SubKind) (key : KeyName) → let s = lane_out port stream u in
    key_in (port_keys h port s) key.k ≡ On key.draw → IsFresh plan h e w s port key
on_fresh plan h e w law port stream u key on = by_test
    (waits key.k key.draw (key_in (port_keys h port (lane_out port stream u)) (not key.k))) refl
  where
    by_test : (b : Bool) → waits key.k key.draw (key_in (port_keys h port (lane_out port stream u)) (not key.k)) ≡ b
        → IsFresh plan h e w (lane_out port stream u) port key
    by_test true waiting = inr
        (sent_before plan h e w law port stream u key.k key.draw on waiting ∙ unused plan h law.1 port stream u key.k
        key.draw on waiting)
    by_test false waiting = inl (is_lesser _ _ key.k key.draw on waiting)

pub fresh : (plan : Plan) (h : History) (e : Event) (w : Verdict) → CauseLaw plan ((e, w) ∷ h)
    → (port : PortName) (stream : ℕ) (u : SubKind) (key : KeyName) → let s = lane_out port stream u in
    live_key ((e, w) ∷ h) port s ≡ Some key → (live_key h port s ≡ Some key)
    ⊎ (sent_packets plan ((e, w) ∷ h) s key.draw ≡ [])
fresh plan h e (Sealed ds) law port stream u key live =
    let s = lane_out port stream u in
    let new = port_keys ((e, Sealed ds) ∷ h) port s in
    let on = on_live new.first new.second key live in
    let ends : key_in (after_ends port s ds (port_keys h port s)) key.k
    ≡ On key.draw = ap (λ (ks : Keys). key_in ks key.k) (sym (sealed plan h e ds law port s)) ∙ on in
    on_fresh plan h e (Sealed ds) law port stream u key (were_on port s ds (port_keys h port s) key.k key.draw ends)
fresh plan h e w law port stream u key live =
    let s = lane_out port stream u in
    let new = port_keys ((e, w) ∷ h) port s in
    elim (newly_on plan h e w law port stream u key.k key.draw (on_live new.first new.second key live)) [
      | inl was ↦ on_fresh plan h e w law port stream u key was
      | inr none ↦
          let same = ap (λ (xs : SealedList). sub_stream_packets xs s key.draw) (sealed_same plan h e w refl) in
          inr (same ∙ none_sent plan h law.1 port s key.draw (sends_lane port stream u) none)
    ]
