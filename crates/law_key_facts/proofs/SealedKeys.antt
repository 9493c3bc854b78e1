-- The draws of sealed packets: whose they are, and that they never fall.
use Rattle.spec_links.proofs.Terms.{Bool, List, Option, Some, [], ap, false, inl, inr, refl, slice_get, subst, sym}
use Rattle.spec_links.proofs.Terms.{true, ℕ, ◌++◌, ◌<◌, ◌==◌, ◌∙◌, ◌∷◌, ◌≡◌, ◌⊎◌, Loss, base, begins_keyed, draws}
use Rattle.spec_links.proofs.Terms.{manager, Begun, CauseLaw, SealedList, ahead_of_packet, port_keys, packet_of}
use Rattle.spec_links.proofs.Terms.{place_in_sub_stream, sealed_packets, sub_stream_packets, sub_stream_of, with_sealed}
use Rattle.spec_links.proofs.Terms.{NoneFrom, SubStream, lane_out, AllByRecursion, Establish, Event, History, On}
use Rattle.spec_links.proofs.Terms.{Packet, Plan, PortName, Sealed, SealedPacket, Verdict, if◌then◌else◌, key_in, on_in}
use Rattle.spec_links.proofs.Terms.{◌&&◌, open_unit, sent_bytes}
use Rattle.spec_keys.proofs.Owners.{Owner, owner, begun_below, after_longer, on_owned}
use Rattle.spec_links.proofs.LastPlaces.{place_of_last}
use Rattle.spec_links.proofs.Senders.{on_live}
use Rattle.spec_links.proofs.SealingIs.{sending_port, sealed_by_sealing, IsLive, AllLive, sealing_is, all_live}
use Rattle.law_key_facts.proofs.Unplanned.{on_at}

-- ---- all that were sealed

-- what holds of each packet before and of each of a send holds of all
pub each_more : (P : SealedPacket → Type 0) (plan : Plan) (ahead : SealedPacket → List ℕ) (bytes : List ℕ)
    (ds : List SealedPacket) (xs : SealedList) → AllByRecursion P ds
    → ((i : ℕ) (x : SealedPacket × Packet) → slice_get xs i ≡ Some x → P x.0) → (i : ℕ) (x : SealedPacket × Packet)
    → slice_get (with_sealed plan ahead bytes ds xs) i ≡ Some x → P x.0
each_more P plan ahead bytes [] xs all before i x is = before i x is
each_more P plan ahead bytes (d ∷ ds) xs all before i x is =
    each_more P plan ahead bytes ds
    (xs ++ (d, packet_of plan (ahead d) bytes d (open_unit (sub_stream_packets xs (sub_stream_of d) d.draw))) ∷ [])
    all.1
    (λ k y at. elim (place_of_last xs
    (d, packet_of plan (ahead d) bytes d (open_unit (sub_stream_packets xs (sub_stream_of d) d.draw))) y k at) [
      | inl p ↦ before k y p
      | inr p ↦ subst (λ (z : SealedPacket × Packet). P z.0) p.0 all.0
    ]) i x is

pub live_all : (P : SealedPacket → Type 0) (plan : Plan) (h : History) (port : PortName) (stream : ℕ)
    (ds : List SealedPacket) → ((d : SealedPacket) → IsLive plan h port stream d → P d) → AllLive plan h port stream ds
    → AllByRecursion P ds
live_all P plan h port stream [] each all = tt
live_all P plan h port stream (d ∷ ds) each all = (each d all.0, live_all P plan h port stream ds each all.1)

-- the key of a packet that is sealed is On in the set that it names
pub live_on : (plan : Plan) (h : History) (port : PortName) (stream : ℕ) (d : SealedPacket)
    → IsLive plan h port stream d → key_in (port_keys h port (sub_stream_of d)) d.k ≡ On d.draw
live_on plan h port stream d live =
    let s = lane_out port stream d.sub in
    let lane : sub_stream_of d ≡ s = λ i. lane_out (live.port_is i) (live.stream_is i) d.sub in
    let on = on_live (port_keys h port s).first (port_keys h port s).second live.key live.live in
    (λ i. key_in (port_keys h port (lane i)) (live.set i)) ∙ (on ∙ ap On (sym live.draw))

-- ---- whose a draw is

-- the operation that began with the packet's draw was on its stream, with the set that it names
abbrev pub IsOwned : History → SealedPacket → Type 0
IsOwned h d = Owner (manager h).begun d.port.line d.stream d.k d.draw

pub on_is_owned : (h : History) (port : PortName) (s : SubStream) (k : Bool) (j : ℕ) → key_in (port_keys h port s) k
    ≡ On j → Owner (manager h).begun s.line s.stream k j
on_is_owned h port s k j on = let at = on_at h port s k j on in on_owned h (place_in_sub_stream port s at.sends) k j
    (ap on_in at.on)

live_owned : (plan : Plan) (h : History) (port : PortName) (stream : ℕ) (d : SealedPacket) → IsLive plan h port stream d
    → IsOwned h d
live_owned plan h port stream d live = on_is_owned h port (sub_stream_of d) d.k d.draw
    (live_on plan h port stream d live)

owned_later : (h : History) (e : Event) (w : Verdict) (d : SealedPacket) → IsOwned h d → IsOwned ((e, w) ∷ h) d
unfolding manager
owned_later h e w d is = after_longer (manager h) e w d.draw (owner d.port.line d.stream d.k) is

pub all_owned : (plan : Plan) (h : History) → CauseLaw plan h → (i : ℕ) (x : SealedPacket × Packet)
    → slice_get (sealed_packets plan h) i ≡ Some x → IsOwned h x.0
unfolding sealed_packets
all_owned plan [] law i x is = absurd cc
all_owned plan ((e, Sealed ds) ∷ h) law i x is =
    let sealing = sealing_is plan h e ds law.0 in
    let port = sealing.sending.port in
    let stream = sealing.sending.stream in
    owned_later h e (Sealed ds) x.0
    (each_more (IsOwned h) plan (ahead_of_packet plan (sealed_packets plan h) (base h)) (sent_bytes plan h e) ds
    (sealed_packets plan h)
    (live_all (IsOwned h) plan h port stream ds (live_owned plan h port stream)
    (all_live plan h (sending_port plan h e) (sent_bytes plan h e) ds sealing))
    (all_owned plan h law.1) i x is)
all_owned plan ((e, w) ∷ h) law i x is = owned_later h e w x.0 (all_owned plan h law.1 i x is)

same_begun : (a b : Begun) → Some a ≡ Some b → a ≡ b
same_begun a b is = cc

pub own_set : (plan : Plan) (h : History) → CauseLaw plan h → (i : ℕ) (x : SealedPacket × Packet)
    → slice_get (sealed_packets plan h) i ≡ Some x
    → (port : PortName) (k : Bool) → key_in (port_keys h port (sub_stream_of x.0)) k ≡ On x.0.draw → k ≡ x.0.k
own_set plan h law i x is port k on =
    let mine = all_owned plan h law i x is in
    let there = on_is_owned h port (sub_stream_of x.0) k x.0.draw on in
    ap (λ (b : Begun). b.set)
    (same_begun (owner x.0.port.line x.0.stream k) (owner x.0.port.line x.0.stream x.0.k) (sym there ∙ mine))

-- each sealed packet is of a draw that was made
pub below_draws : (plan : Plan) (h : History) → CauseLaw plan h → (i : ℕ) (x : SealedPacket × Packet)
    → slice_get (sealed_packets plan h) i ≡ Some x → x.0.draw < draws h
below_draws plan h law i x is = begun_below (manager h).begun x.0.draw (owner x.0.port.line x.0.stream x.0.k)
    (all_owned plan h law i x is)

pub live_below : (plan : Plan) (h : History) (port : PortName) (stream : ℕ) (d : SealedPacket)
    → IsLive plan h port stream d → d.draw < draws h
live_below plan h port stream d live = begun_below (manager h).begun d.draw (owner d.port.line d.stream d.k)
    (live_owned plan h port stream d live)

-- ---- Base

none_new : (plan : Plan) (h : History) (l s : ℕ) (loss : Option Loss) (w : Verdict)
    → CauseLaw plan ((Establish l s loss, w) ∷ h) → (line stream : ℕ)
    → NoneFrom plan ((Establish l s loss, w) ∷ h) line stream (draws h)
unfolding sealed_packets
none_new plan h l s loss (Sealed ds) law line stream i x is on_link on_stream = absurd
    (let sealing = sealed_by_sealing plan h (Establish l s loss) ds law.0 in cc)
none_new plan h l s loss w law line stream i x is on_link on_stream = below_draws plan h law.1 i x is

pub base_fresh : (plan : Plan) (h : History) (e : Event) (w : Verdict) → CauseLaw plan ((e, w) ∷ h) → (line stream : ℕ)
    → (base ((e, w) ∷ h) line stream ≡ base h line stream) ⊎ NoneFrom plan ((e, w) ∷ h) line stream
    (base ((e, w) ∷ h) line stream)
unfolding base
base_fresh plan h (Establish l s loss) w law line stream = by_test
    ((l == line) && (s == stream) && begins_keyed ((manager h).ops l s) (draws h) w)
  where
    by_test : (b : Bool) → ((if b then draws h else base h line stream) ≡ base h line stream)
        ⊎ NoneFrom plan ((Establish l s loss, w) ∷ h) line stream (if b then draws h else base h line stream)
    by_test true = inr (none_new plan h l s loss w law line stream)
    by_test false = inl refl
base_fresh plan h e w law line stream = inl refl
