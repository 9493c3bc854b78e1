-- What one sender makes of a packet, and of KEY_PROG and GO: it seals the packet of the rules, and keeps its invariant.
-- Under the Live key both descriptions of the packet agree field by field, and the invariant says what comes before an
-- open unit. A packet joins its unit, with room for one more, or ends it; a call of key management leaves the open unit
-- as it is, or none open (`Moved`), by the states of both slots.
use Rattle.std.proofs.Common.{◌≡◌, ℕ, ◌+◌, ◌<◌, ◌≤◌, Bool, true, false, not, ◌&&◌, ◌||◌, ◌==◌, if◌then◌else◌, List, []}
use Rattle.std.proofs.Common.{◌∷◌, ◌++◌, length, Option, Some, None, Ok, unwrap_or, refl, sym, ap, ◌∙◌, subst}
use Rattle.std.proofs.Common.{arith, inl, inr, ◌⊎◌, length-append}
use Rattle.std.specs.Int.{w64, to_be_bytes}
use Rattle.std.proofs.lemmas.Grind.{common_steps}
use Rattle.ide_types.specs.declared.port.Side.TheVariants.{Host}
use Rattle.event_verdicts.specs.declared.verdict.SealedPacket.{SealedPacket as Described}
use Rattle.gcm_seal.specs.Gcm.{masked_bytes, tag_of}
use Rattle.gcm_seal.proofs.Strings.{length-masked_bytes}
use Rattle.gcm_seal.proofs.Sealing.{length-tag_of}
use Rattle.ide_prefix.specs.Packet.{Packet, packet_bytes, sync_head}
use Rattle.ide_prefix.specs.Iv.{iv_of}
use Rattle.ide_prefix.specs.Units.{authenticated_bytes, encrypted_bytes}
use Rattle.spec_stream.specs.Sending.{is_posted, no_key, total_ahead, prefix_of}
use Rattle.spec_stream.specs.Stream.{LaneSlot, Empty, Programmed, Armed, Live, LiveKey, LaneSlots, with_slot}
use Rattle.spec_stream.specs.Stream.{live_sender}
use Rattle.spec_stream.specs.Stream.{lane_of, packet_under, tagged_under, untagged_under, sealed_slots, ended_slots}
use Rattle.spec_stream.specs.Slots.{is_live_slot, is_busy, both_slots, slot_gone}
use Rattle.key_slots.specs.{is_only_live}
use Rattle.sub_stream.specs.declared.sender.ReadyKey.{ReadyKey}
use Rattle.sub_stream.specs.{Sender, Content, ready_of, ready_key, key_in_use, ends, sealing_by_key, sealing_of}
use Rattle.sub_stream.specs.{sender_ahead, unit_ahead, Sealing, slot_pair, gone_slots, gone_sender, programmed_sender}
use Rattle.stream_lanes.specs.Lanes.{SendEnd, IsSendLane, open_in, sealing_lane, described_packet, packet_said}
use Rattle.stream_lanes.specs.Lanes.{measured_packet, sync_said}

abbrev pub one_live : LaneSlots → Bool
one_live s = is_live_slot s.first && is_live_slot s.second

abbrev pub view : Sender → Bool → ℕ → ℕ → SendEnd
view tx closed posted total = record {
  fixed = record { stream = tx.stream; aggregation = tx.aggregation; limit = tx.limit; closed = closed };
  sub = tx.sub;
  kept = record { slots = tx.slots; posted = posted; total = total };
}

-- ---- slots

and_false : (b : Bool) → (b && false) ≡ false
and_false true = refl
and_false false = refl

-- the key that a sender is ready with is its Live key
pub ready-some : (limit : ℕ) (o : Option (Bool × LiveKey)) (key : ReadyKey) → ready_key limit o ≡ Ok key
    → (x : Bool × LiveKey) × (o ≡ Some x)
ready-some limit None key e = absurd (cc)
ready-some limit (Some x) key e = (x, refl)

-- what is open stays, or nothing is open
abbrev pub Moved : LaneSlots → LaneSlots → Type 0
Moved old new = ((live_sender new ≡ live_sender old) ⊎ (open_in new ≡ [])) × (one_live new ≡ false)

none_open : (ps : List Packet) → ps ≡ [] → (length ps == 0) ≡ false → ⊥
none_open ps e f = let g : true ≡ false = ap (λ (qs : List Packet). length qs == 0) (sym e) ∙ f in cc

pub moved-kept : (tx : Sender) (closed : Bool) (posted total : ℕ) (slots : LaneSlots)
    → IsSendLane tx closed posted total → Moved tx.slots slots
    → IsSendLane (record tx { slots = slots }) closed posted total
moved-kept tx closed posted total slots inv moved =
    elim moved.0 [
      | inl same ↦ record {
        some_aggregation = inv.some_aggregation;
        one_live = moved.1;
        fits = subst (λ (o : Option (Bool × LiveKey)). length (key_in_use o).1.packets < tx.aggregation) (sym same)
            inv.fits;
        ahead = subst (λ (o : Option (Bool × LiveKey)). (length (key_in_use o).1.packets == 0) ≡ false → tx.ahead
            ≡ total_ahead closed ((key_in_use o).1.units + 1) total) (sym same) inv.ahead;
        no_count = inv.no_count;
      }
      | inr none ↦ record {
        some_aggregation = inv.some_aggregation;
        one_live = moved.1;
        fits = rw none inv.some_aggregation;
        ahead = λ e. absurd (none_open _ none e);
        no_count = inv.no_count;
      }
    ]

go_busy : (k b : Bool) (j : ℕ) (key : List ℕ) (x : LiveKey) → Moved (both_slots k (Programmed j key) (Live x))
    (if b then both_slots k (Armed j key) (Live x) else both_slots k
    (Live (record { draw = j; key = key; units = 0; packets = [] })) Empty)
go_busy true true j key x = (inl refl, refl)
go_busy false true j key x = (inl refl, refl)
go_busy true false j key x = (inr refl, refl)
go_busy false false j key x = (inr refl, refl)

pub go-moved : (k : Bool) (mine other : LaneSlot) → one_live (both_slots k mine other) ≡ false
    → Moved (both_slots k mine other) (slot_gone k mine other)
go-moved k (Programmed j key) (Live x) e = go_busy k (is_busy (Live x)) j key x
go-moved true (Programmed j key) Empty e = (inr refl, refl)
go-moved true (Programmed j key) (Programmed i l) e = (inr refl, refl)
go-moved true (Programmed j key) (Armed i l) e = (inr refl, refl)
go-moved false (Programmed j key) Empty e = (inr refl, refl)
go-moved false (Programmed j key) (Programmed i l) e = (inr refl, refl)
go-moved false (Programmed j key) (Armed i l) e = (inr refl, refl)
go-moved k Empty other e = (inl refl, e)
go-moved k (Armed j key) other e = (inl refl, e)
go-moved k (Live x) other e = (inl refl, e)

pub gone-kept : (k : Bool) (tx : Sender) (closed : Bool) (posted total : ℕ)
    → IsSendLane tx closed posted total → IsSendLane (gone_sender tx k) closed posted total
gone-kept true tx closed posted total inv = moved-kept tx closed posted total (gone_slots tx.slots true) inv
    (go-moved true tx.slots.second tx.slots.first inv.one_live)
gone-kept false tx closed posted total inv = moved-kept tx closed posted total (gone_slots tx.slots false) inv
    (go-moved false tx.slots.first tx.slots.second inv.one_live)

-- a key that is put in if the slot is not Live
put_second : (a b : LaneSlot) (j : ℕ) (key : List ℕ) → (is_live_slot a && is_live_slot b) ≡ false
    → is_only_live (slot_pair true (record { first = a; second = b })) true ≡ false
    → Moved (record { first = a; second = b }) (record { first = a; second = Programmed j key })
put_second a Empty j key one e = (inl refl, and_false (is_live_slot a))
put_second a (Programmed i l) j key one e = (inl refl, and_false (is_live_slot a))
put_second a (Armed i l) j key one e = (inl refl, and_false (is_live_slot a))
put_second Empty (Live y) j key one e = absurd (cc)
put_second (Programmed i l) (Live y) j key one e = absurd (cc)
put_second (Armed i l) (Live y) j key one e = absurd (cc)
put_second (Live x) (Live y) j key one e = absurd (cc)

put_first : (a b : LaneSlot) (j : ℕ) (key : List ℕ) → (is_live_slot a && is_live_slot b) ≡ false
    → is_only_live (slot_pair true (record { first = a; second = b })) false ≡ false
    → Moved (record { first = a; second = b }) (record { first = Programmed j key; second = b })
put_first Empty b j key one e = (inl refl, refl)
put_first (Programmed i l) b j key one e = (inl refl, refl)
put_first (Armed i l) b j key one e = (inl refl, refl)
put_first (Live x) Empty j key one e = absurd (cc)
put_first (Live x) (Programmed i l) j key one e = absurd (cc)
put_first (Live x) (Armed i l) j key one e = absurd (cc)
put_first (Live x) (Live y) j key one e = absurd (cc)

pub programmed-kept : (k : Bool) (tx : Sender) (key : List ℕ) (draw : ℕ) (closed : Bool) (posted total : ℕ)
    → IsSendLane tx closed posted total → IsSendLane (programmed_sender tx k key draw) closed posted total
programmed-kept k tx key draw closed posted total inv = by_answer (is_only_live (slot_pair true tx.slots) k) refl
  where
    moved : (k : Bool) → is_only_live (slot_pair true tx.slots) k ≡ false
        → Moved tx.slots (with_slot tx.slots k (Programmed draw key))
    moved true e = put_second tx.slots.first tx.slots.second draw key inv.one_live e
    moved false e = put_first tx.slots.first tx.slots.second draw key inv.one_live e

    by_answer : (b : Bool) → is_only_live (slot_pair true tx.slots) k ≡ b
        → IsSendLane (if b then tx else record tx { slots = with_slot tx.slots k (Programmed draw key) }) closed
        posted total
    by_answer true e = inv
    by_answer false e = moved-kept tx closed posted total (with_slot tx.slots k (Programmed draw key)) inv
        (moved k e)

-- ---- a sealed packet

-- what is said under a Live key
abbrev said_under : SendEnd → Bool → Bool → Bool → Option (Bool × LiveKey) → Described
said_under e m t sync o =
    let key = unwrap_or (lane_of e.kept.posted o).key no_key in
    record {
      number = 0;
      port = record { side = Host; line = 0 };
      stream = e.fixed.stream;
      sub = e.sub;
      draw = key.draw;
      unit = (lane_of e.kept.posted o).units + 1;
      m = m;
      k = key.k;
      t = t;
      posted = if is_posted e.sub then 0 else (lane_of e.kept.posted o).posted;
      sync = sync;
    }

abbrev last_under : SendEnd → Bool → Option (Bool × LiveKey) → Bool
last_under e more o = not more || (length (lane_of e.kept.posted o).unfinished + 1 == e.fixed.aggregation)

abbrev whole_under : SendEnd → List ℕ → List ℕ → Bool → Bool → Bool → Option (Bool × LiveKey) → Packet
whole_under e head payload more t sync o =
    let d = said_under e (last_under e more o) t sync o in
    packet_under (total_ahead e.fixed.closed d.unit e.kept.total) o d head payload

-- the description of a packet
abbrev pub said_of : SendEnd → Bool → Bool → Bool → Described
said_of e more t sync = described_packet e (not more || (length (sealing_lane e).unfinished + 1 == e.fixed.aggregation))
    t sync

abbrev pub sealing_right : Sender → Bool → ℕ → ℕ → Content → Bool → Sealing
sealing_right tx closed posted total c more =
    let e = view tx closed posted total in
    let d = said_of e more c.t c.sync in
    let p = packet_said e c.head c.payload d in
    record {
      description = measured_packet d p;
      packet = p;
      sender = record tx {
        ahead = (if d.m then [] else total_ahead closed d.unit total);
        slots = sealed_slots d.m p
            tx.slots;
      };
    }

abbrev sealing_with : Sender → Bool → ℕ → ℕ → Content → Bool → Option (Bool × LiveKey) → Sealing
sealing_with tx closed posted total c more o =
    let e = view tx closed posted total in
    let d = said_under e (last_under e more o) c.t c.sync o in
    let p = whole_under e c.head c.payload more c.t c.sync o in
    record {
      description = measured_packet d p;
      packet = p;
      sender = record tx {
        ahead = (if d.m then [] else total_ahead closed d.unit total);
        slots = sealed_slots d.m p
            tx.slots;
      };
    }

lent_ahead_is : (closed : Bool) (total n : ℕ) (lent : List ℕ) → lent ≡ (if closed then to_be_bytes w64 total else [])
    → unit_ahead lent n ≡ total_ahead closed n total
lent_ahead_is closed total n lent e = by_unit closed (n == 1) lent e
  where
    by_unit : (closed b : Bool) (lent : List ℕ) → lent ≡ (if closed then to_be_bytes w64 total else [])
        → (if b then lent else []) ≡ (if closed && b then to_be_bytes w64 total else [])
    by_unit true true lent e = e
    by_unit true false lent e = refl
    by_unit false true lent e = e
    by_unit false false lent e = refl

-- what comes before a unit is what the rules say
pub ahead-right : (b : Bool) (old : List ℕ) (closed : Bool) (total n : ℕ) (lent : List ℕ)
    → lent ≡ (if closed then to_be_bytes w64 total else []) → (b ≡ false → old ≡ total_ahead closed n total)
    → (if b then unit_ahead lent n else old) ≡ total_ahead closed n total
ahead-right true old closed total n lent e h = lent_ahead_is closed total n lent e
ahead-right false old closed total n lent e h = h refl

count_said : (b : Bool) (n : ℕ) → (b ≡ true → n ≡ 0) → n ≡ (if b then 0 else n)
count_said true n h = h refl
count_said false n h = refl

pub sealing-is : (tx : Sender) (closed : Bool) (posted total : ℕ) (lent : List ℕ) (c : Content) (more : Bool)
    (key : ReadyKey)
    → IsSendLane tx closed posted total → ready_of tx ≡ Ok key
    → lent ≡ (if closed then to_be_bytes w64 total else []) → c.posted ≡ posted
    → sealing_of tx lent c more ≡ sealing_right tx closed posted total c more
sealing-is tx closed posted total lent c more key inv ready is_lent is_posted_count =
    let some = ready-some tx.limit (live_sender tx.slots) key ready in
    under some.0 some.1
  where
    under : (x : Bool × LiveKey) → live_sender tx.slots ≡ Some x → sealing_of tx lent c more
        ≡ sealing_right tx closed posted total c more
    under x is =
        let open_ahead : (length x.1.packets == 0) ≡ false → tx.ahead ≡ total_ahead closed (x.1.units + 1) total =
        subst (λ (o : Option (Bool × LiveKey)). (length (key_in_use o).1.packets == 0) ≡ false → tx.ahead
        ≡ total_ahead closed ((key_in_use o).1.units + 1) total) is inv.ahead in
        let ahead : sender_ahead tx x.1 lent ≡ total_ahead closed (x.1.units + 1) total =
        ahead-right (length x.1.packets == 0) tx.ahead closed total (x.1.units + 1) lent is_lent open_ahead in
        let count : c.posted ≡ (if is_posted tx.sub then 0 else posted) = is_posted_count ∙ count_said
        (is_posted tx.sub) posted inv.no_count in
        ap (λ (o : Option (Bool × LiveKey)). sealing_by_key tx lent (key_in_use o) c (ends tx (key_in_use o).1 more)) is
        ∙ (λ i. sealed_with x (ahead i) (count i))
        ∙ ap (λ (o : Option (Bool × LiveKey)). sealing_with tx closed posted total c more o) (sym is)
      where
        sealed_with : (x : Bool × LiveKey) → List ℕ → ℕ → Sealing
        sealed_with x ahead n =
            let m = not more || (length x.1.packets + 1 == tx.aggregation) in
            let d : Described = record {
              number = 0;
              port = record { side = Host; line = 0 };
              stream = tx.stream;
              sub = tx.sub;
              draw = x.1.draw;
              unit = x.1.units + 1;
              m = m;
              k = x.0;
              t = c.t;
              posted = n;
              sync = c.sync;
            } in
            let p = tagged_under ahead x.1.key x.1.packets d (untagged_under x.1.key x.1.packets d c.head c.payload) in
            record {
              description = measured_packet d p;
              packet = p;
              sender = record tx { ahead = (if m then [] else ahead); slots = sealed_slots m p tx.slots };
            }

same_parts : (b : Bool) (head payload head' payload' : List ℕ) → b ≡ true
    → ◌≡◌ {A = List ℕ × List ℕ} (if b then sync_head else head, if b then [] else payload)
    (if b then sync_head else head', if b then [] else payload')
same_parts true head payload head' payload' e = refl
same_parts false head payload head' payload' e = absurd (cc)

-- a sync packet carries neither header nor payload of a TLP
pub sync-same : (ahead : List ℕ) (o : Option (Bool × LiveKey)) (d : Described) (head payload head' payload' : List ℕ)
    → d.sync ≡ true → packet_under ahead o d head payload ≡ packet_under ahead o d head' payload'
sync-same ahead None d head payload head' payload' e =
    ap (λ (y : List ℕ × List ℕ). record {
      prefix = prefix_of d;
      head = y.0;
      body = masked_bytes [] (iv_of d.sub d.unit) (length (encrypted_bytes [])) y.1;
      tag = [];
    })
    (same_parts d.sync head payload head' payload' e)
sync-same ahead (Some x) d head payload head' payload' e =
    ap (λ (y : List ℕ × List ℕ). tagged_under ahead x.1.key x.1.packets d
    (record {
      prefix = prefix_of d;
      head = y.0;
      body = masked_bytes x.1.key (iv_of d.sub d.unit)
          (length (encrypted_bytes x.1.packets)) y.1;
      tag = [];
    }))
    (same_parts d.sync head payload head' payload' e)

-- ---- the sender after it

ended_open : (s : LaneSlots) → open_in (ended_slots s) ≡ []
ended_open s = by_slots s.first s.second
  where
    by_slots : (a b : LaneSlot) → open_in (ended_slots (record { first = a; second = b })) ≡ []
    by_slots Empty Empty = refl
    by_slots Empty (Programmed h k) = refl
    by_slots Empty (Armed h k) = refl
    by_slots Empty (Live h) = refl
    by_slots (Programmed g l) Empty = refl
    by_slots (Programmed g l) (Programmed h k) = refl
    by_slots (Programmed g l) (Armed h k) = refl
    by_slots (Programmed g l) (Live h) = refl
    by_slots (Armed g l) Empty = refl
    by_slots (Armed g l) (Programmed h k) = refl
    by_slots (Armed g l) (Armed h k) = refl
    by_slots (Armed g l) (Live h) = refl
    by_slots (Live g) Empty = refl
    by_slots (Live g) (Programmed h k) = refl
    by_slots (Live g) (Armed h k) = refl
    by_slots (Live g) (Live h) = refl

pub sealed-one_live : (m : Bool) (p : Packet) (s : LaneSlots) → one_live s ≡ false → one_live (sealed_slots m p s)
    ≡ false
sealed-one_live m p s = by_slots m s.first s.second
  where
    by_slots : (m : Bool) (a b : LaneSlot) → (is_live_slot a && is_live_slot b) ≡ false
        → one_live (sealed_slots m p (record { first = a; second = b })) ≡ false
    by_slots m (Live g) (Live h) e = absurd (cc)
    by_slots true Empty b e = refl
    by_slots true (Programmed g l) Empty e = refl
    by_slots true (Programmed g l) (Programmed h k) e = refl
    by_slots true (Programmed g l) (Armed h k) e = refl
    by_slots true (Programmed g l) (Live h) e = refl
    by_slots true (Armed g l) Empty e = refl
    by_slots true (Armed g l) (Programmed h k) e = refl
    by_slots true (Armed g l) (Armed h k) e = refl
    by_slots true (Armed g l) (Live h) e = refl
    by_slots true (Live g) Empty e = refl
    by_slots true (Live g) (Programmed h k) e = refl
    by_slots true (Live g) (Armed h k) e = refl
    by_slots false Empty b e = refl
    by_slots false (Programmed g l) b e = refl
    by_slots false (Armed g l) b e = refl
    by_slots false (Live g) Empty e = refl
    by_slots false (Live g) (Programmed h k) e = refl
    by_slots false (Live g) (Armed h k) e = refl

joined : Packet → Option (Bool × LiveKey) → Option (Bool × LiveKey)
joined p None = None
joined p (Some x) = Some (x.0, record x.1 { packets = x.1.packets ++ p ∷ [] })

pub goes_on-live : (p : Packet) (s : LaneSlots) (x : Bool × LiveKey) → live_sender s ≡ Some x
    → live_sender (sealed_slots false p s) ≡ Some (x.0, record x.1 { packets = x.1.packets ++ p ∷ [] })
unfolding joined
goes_on-live p s x is = by_slots s.first s.second ∙ ap (joined p) is
  where
    by_slots : (a b : LaneSlot) → live_sender (sealed_slots false p (record { first = a; second = b }))
        ≡ joined p (live_sender (record { first = a; second = b }))
    by_slots (Live g) b = refl
    by_slots Empty Empty = refl
    by_slots Empty (Programmed h k) = refl
    by_slots Empty (Armed h k) = refl
    by_slots Empty (Live h) = refl
    by_slots (Programmed g l) Empty = refl
    by_slots (Programmed g l) (Programmed h k) = refl
    by_slots (Programmed g l) (Armed h k) = refl
    by_slots (Programmed g l) (Live h) = refl
    by_slots (Armed g l) Empty = refl
    by_slots (Armed g l) (Programmed h k) = refl
    by_slots (Armed g l) (Armed h k) = refl
    by_slots (Armed g l) (Live h) = refl

-- a posted packet joins, or ends its unit
pub room-sealed : (aggregation n limit : ℕ) (m : Bool) (p : Packet) (s : LaneSlots) (key : ReadyKey)
    → ready_key limit (live_sender s) ≡ Ok key → n + aggregation ≤ 255 + length (open_in s)
    → (length (open_in (sealed_slots m p s)) == 0) ≡ false
    → n + 1 + aggregation ≤ 255 + length (open_in (sealed_slots m p s))
room-sealed aggregation n limit true p s key ready le e = absurd (none_open _ (ended_open s) e)
room-sealed aggregation n limit false p s key ready le e =
    let some = ready-some limit (live_sender s) key ready in
    let on = ap (λ (o : Option (Bool × LiveKey)). (key_in_use o).1.packets) (goes_on-live p s some.0 some.1) in
    let now : length (open_in (sealed_slots false p s)) ≡ length (open_in s) + 1 =
    ap length on ∙ length-append some.0.1.packets (p ∷ []) ∙ ap
    (λ (o : Option (Bool × LiveKey)). length (key_in_use o).1.packets + 1) (sym some.1) in
    omega (arith, now, le)

not_last : (more b : Bool) → (not more || b) ≡ false → b ≡ false
not_last true b e = e
not_last false b e = absurd (cc)

room_left : (n aggregation : ℕ) → n < aggregation → (n + 1 == aggregation) ≡ false → n + 1 < aggregation
room_left n aggregation less e = grind (arith, common_steps)

pub sealed-kept : (tx : Sender) (closed : Bool) (posted total : ℕ) (more : Bool) (p : Packet) (m : Bool)
    (key : ReadyKey)
    → IsSendLane tx closed posted total → ready_of tx ≡ Ok key
    → m ≡ (not more || (length (lane_of posted (live_sender tx.slots)).unfinished + 1 == tx.aggregation))
    → IsSendLane (record tx {
      ahead = (if m then [] else total_ahead closed ((lane_of posted (live_sender tx.slots)).units + 1) total);
      slots
          = sealed_slots m p tx.slots;
    }) closed 0 (if m then total + 1 else total)
sealed-kept tx closed posted total more p m key inv ready is_m =
    let some = ready-some tx.limit (live_sender tx.slots) key ready in
    under m is_m some.0 some.1
  where
    under : (m : Bool) → m ≡
        (not more || (length (lane_of posted (live_sender tx.slots)).unfinished + 1 == tx.aggregation))
        → (x : Bool × LiveKey) → live_sender tx.slots ≡ Some x
        → IsSendLane (record tx {
          ahead = (if m then [] else total_ahead closed ((lane_of posted (live_sender tx.slots)).units + 1) total);
          slots = sealed_slots m p tx.slots;
        }) closed 0 (if m then total + 1 else total)
    under true is_m x is = record {
      some_aggregation = inv.some_aggregation;
      one_live = sealed-one_live true p tx.slots inv.one_live;
      fits = rw (ended_open tx.slots) inv.some_aggregation;
      ahead = λ e. absurd (none_open _ (ended_open tx.slots) e);
      no_count = λ e. refl;
    }
    under false is_m x is =
        let fits : length x.1.packets < tx.aggregation = subst
        (λ (o : Option (Bool × LiveKey)). length (key_in_use o).1.packets < tx.aggregation) is inv.fits in
        let low : (length x.1.packets + 1 == tx.aggregation) ≡ false =
        not_last more _ (ap (λ (o : Option (Bool × LiveKey)). not more
        || (length (lane_of posted o).unfinished + 1 == tx.aggregation)) (sym is) ∙ sym is_m) in
        let more_fits : length (x.1.packets ++ p ∷ []) < tx.aggregation = rw (length-append x.1.packets (p ∷ []))
        (room_left (length x.1.packets) tx.aggregation fits low) in
        let on = goes_on-live p tx.slots x is in
        record {
          some_aggregation = inv.some_aggregation;
          one_live = sealed-one_live false p tx.slots inv.one_live;
          fits = subst (λ (o : Option (Bool × LiveKey)). length (key_in_use o).1.packets < tx.aggregation) (sym on)
              more_fits;
          ahead = λ e. (λ i. total_ahead closed ((lane_of posted (is i)).units + 1) total) ∙
              (λ i. total_ahead closed ((key_in_use (sym on i)).1.units + 1) total);
          no_count = λ e. refl;
        }

-- a sync packet's bytes
short : (p : Packet) → p.head ≡ sync_head → length p.body ≡ 0 → length p.tag ≤ 12 → length (packet_bytes p) ≤ 28
short p head body tag =
    let twelve : length p.head ≡ 12 = ap length head in
    omega (arith, length-append p.head (p.body ++ p.tag), length-append p.body p.tag, twelve, body, tag)

short_under : (e : SendEnd) (o : Option (Bool × LiveKey)) (d : Described) → d.m ≡ true → d.sync ≡ true
    → (ahead : List ℕ) → length (packet_bytes (packet_under ahead o d [] [])) ≤ 28
short_under e None d m sync ahead =
    short (untagged_under [] [] d [] []) (ap (λ (b : Bool). if b then sync_head else []) sync)
    (length-masked_bytes [] (iv_of d.sub d.unit) (length (encrypted_bytes [])) (if d.sync then [] else []) ∙ ap
    (λ (b : Bool). length {A = ℕ} (if b then [] else [])) sync) (omega arith)
short_under e (Some x) d m sync ahead =
    let q = untagged_under x.1.key x.1.packets d [] [] in
    let tag : length (if d.m then tag_of x.1.key (iv_of d.sub d.unit)
    (ahead ++ authenticated_bytes (x.1.packets ++ q ∷ []))
    (encrypted_bytes (x.1.packets ++ q ∷ [])) else []) ≡ 12 =
    ap (λ (b : Bool). length
    (if b then tag_of x.1.key (iv_of d.sub d.unit) (ahead ++ authenticated_bytes (x.1.packets ++ q ∷ []))
    (encrypted_bytes (x.1.packets ++ q ∷ [])) else [])) m
    ∙ length-tag_of x.1.key (iv_of d.sub d.unit) (ahead ++ authenticated_bytes (x.1.packets ++ q ∷ []))
    (encrypted_bytes (x.1.packets ++ q ∷ [])) in
    short (tagged_under ahead x.1.key x.1.packets d q) (ap (λ (b : Bool). if b then sync_head else []) sync)
    (length-masked_bytes x.1.key (iv_of d.sub d.unit) (length (encrypted_bytes x.1.packets)) (if d.sync then [] else [])
    ∙ ap
    (λ (b : Bool). length {A = ℕ} (if b then [] else [])) sync) (omega (arith, tag))

pub sync-short : (e : SendEnd) → length (packet_bytes (packet_said e [] [] (sync_said e))) ≤ 28
sync-short e = short_under e (live_sender e.kept.slots) (sync_said e) refl refl
    (total_ahead e.fixed.closed (sync_said e).unit e.kept.total)
