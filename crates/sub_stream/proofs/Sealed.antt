-- A packet that was sealed: its bytes are those of the packet in the specs, and the sender after it keeps its
-- invariant. Bytes that were written one after another are only grouped anew, and what a packet does to the slots is
-- tried for all pairs of slot states. The hard part is the limit of a key: a unit that begins has passed the test for a
-- worn key, and of an open one the invariant says that it is within the limit.
use Rattle.std.proofs.Common.{◌≡◌, ℕ, ◌+◌, ◌<◌, ◌≤◌, Bool, true, false, not, ◌&&◌, ◌||◌, ◌==◌, if◌then◌else◌, List, []}
use Rattle.std.proofs.Common.{
  ◌∷◌,
  ◌++◌,
  length,
  Some,
  Ok,
  Err,
  refl,
  sym,
  ap,
  ◌∙◌,
  subst,
  arith,
  append_assoc,
  append-nil,
}
use Rattle.std.proofs.Common.{drop, length-append}
use Rattle.std.proofs.lemmas.Grind.{common_steps}
use Rattle.gcm_seal.specs.Gcm.{masked_bytes, tag_of}
use Rattle.ide_prefix.specs.declared.packet.Prefix.{Prefix}
use Rattle.ide_prefix.specs.Iv.{iv_of}
use Rattle.ide_prefix.specs.Packet.{Packet, prefix_bytes, packet_bytes, packet_first, sync_head}
use Rattle.ide_prefix.specs.Units.{authenticated_bytes, encrypted_bytes}
use Rattle.spec_stream.specs.Stream.{LaneSlots, LiveKey, live_sender, sealed_slots, ended_slots}
use Rattle.key_slots.specs.declared.slot.Slot.{Slot as KeySlot}
use Rattle.key_slots.specs.declared.slot.Slot.TheVariants.{Empty, Programmed, Armed, Live}
use Rattle.key_slots.specs.{SlotPair, DrawnKey, slot_in, live_held}
use Rattle.sub_stream.specs.declared.answer.TxRefusal.TheVariants.{Worn}
use Rattle.sub_stream.specs.declared.sender.ReadyKey.{ReadyKey}
use Rattle.sub_stream.specs.Seen.{sender_slots_seen, live_key_seen, has_live, both_live}
use Rattle.sub_stream.specs.Gathered.{Gathered, with_packet, clear_of, no_packets}
use Rattle.sub_stream.specs.Masked.{masked_packet, packet_with_tag}
use Rattle.sub_stream.specs.Senders.{Sender, Content, ready_key, tagged_packet, sender_ahead, IsSender}

-- it is the rules' packet
pub packet-tagged : (tx : Sender) (total : List ℕ) (x : Bool × LiveKey) (c : Content) (m : Bool) (unit : Gathered)
    (prefix : Prefix) (iv : List ℕ)
    → unit.packets ≡ x.1.packets → unit.ahead ≡ sender_ahead tx x.1 total
    → (if c.sync then sync_head else c.head) ≡ c.head → (if c.sync then [] else c.payload) ≡ c.payload
    → prefix ≡ record { m = m; k = x.0; t = c.t; sub = tx.sub; stream = tx.stream; posted = c.posted }
    → iv ≡ iv_of tx.sub (x.1.units + 1)
    → packet_with_tag m x.1.key iv unit (masked_packet x.1.key iv unit.packets prefix c.head c.payload)
    ≡ tagged_packet tx total x c m
packet-tagged tx total x c m unit prefix iv ps ahead head payload is_prefix is_iv =
    rw (ps, ahead, is_prefix, is_iv, head, payload) refl

pub bytes-sealed : (key iv out0 out1 out2 head payload : List ℕ) (prefix : Prefix) (unit unit2 : Gathered) (m : Bool)
    → out1 ≡ out0 ++ (prefix_bytes prefix ++
    (head ++ masked_bytes key iv (length (encrypted_bytes unit.packets)) payload))
    → unit2 ≡ with_packet unit (masked_packet key iv unit.packets prefix head payload)
    → out2 ≡ out1 ++ (if m then tag_of key iv (clear_of unit2) (encrypted_bytes unit2.packets) else [])
    → out2 ≡ out0 ++ packet_bytes
    (packet_with_tag m key iv unit (masked_packet key iv unit.packets prefix head payload))
bytes-sealed key iv out0 out1 out2 head payload prefix unit unit2 m is1 is_unit is2 =
    let t : List ℕ = if m then tag_of key iv
    (clear_of (with_packet unit (masked_packet key iv unit.packets prefix head payload)))
    (encrypted_bytes (with_packet unit (masked_packet key iv unit.packets prefix head payload)).packets) else [] in
    rw (is2, is1, is_unit)
    (regroup out0 (prefix_bytes prefix) head (masked_bytes key iv (length (encrypted_bytes unit.packets)) payload) t)
  where
    regroup : (a p h b t : List ℕ) → (a ++ (p ++ (h ++ b))) ++ t ≡ a ++ (p ++ (h ++ (b ++ t)))
    regroup a p h b t = simp append_assoc

-- what was appended of a packet, and its two parts
pub parts-appended : (key iv out0 out1 bytes head payload bodies first second : List ℕ) (prefix : Prefix)
    (ps : List Packet) (n : ℕ)
    → ((before front rest : List ℕ) → bytes ≡ before ++ (front ++ rest) → length before ≡ n
    → length front ≡ 4 + length head → (first ≡ front) × (second ≡ rest))
    → n ≡ length out0 → bytes ≡ out1 → bodies ≡ encrypted_bytes ps
    → out1 ≡ out0 ++ (prefix_bytes prefix ++ (head ++ masked_bytes key iv (length bodies) payload))
    → (first ≡ prefix_bytes prefix ++ head) × (second ≡ masked_bytes key iv (length (encrypted_bytes ps)) payload)
    × (out1 ≡ out0 ++ (prefix_bytes prefix ++ (head ++ masked_bytes key iv (length (encrypted_bytes ps)) payload)))
parts-appended key iv out0 out1 bytes head payload bodies first second prefix ps n cut start is_bytes is_bodies is =
    let long : length (prefix_bytes prefix ++ head) ≡ 4 + length head = length-append (prefix_bytes prefix) head in
    let p = cut out0 (prefix_bytes prefix ++ head) (masked_bytes key iv (length bodies) payload) (is_bytes ∙ is)
    (sym start)
    long in (
      p.0,
      p.1 ∙ ap (λ b. masked_bytes key iv (length b) payload) is_bodies,
      is ∙ ap (λ b. out0 ++ (prefix_bytes prefix ++ (head ++ masked_bytes key iv (length b) payload))) is_bodies,
    )

-- before a packet that is alone in its unit nothing is authenticated
pub bytes-alone : (key iv out0 out1 out2 clear body head payload tag : List ℕ) (prefix : Prefix) (unit : Gathered)
    (m : Bool)
    → (length (clear_of unit) == 0) ≡ true → m ≡ true → out1 ≡ out0 ++ (prefix_bytes prefix ++
    (head ++ masked_bytes key iv (length (encrypted_bytes unit.packets)) payload))
    → clear ≡ prefix_bytes prefix ++ head → body ≡ masked_bytes key iv (length (encrypted_bytes unit.packets)) payload
    → tag ≡ tag_of key iv clear body → out2 ≡ out1 ++ tag
    → out2 ≡ out0 ++ packet_bytes (packet_with_tag m key iv unit (masked_packet key iv unit.packets prefix head
    payload))
bytes-alone key iv out0 out1 out2 clear body head payload tag prefix unit m none is_m is1 is_clear is_body is_tag is2 =
    by_unit unit.ahead unit.packets none is_body is1
  where
    regroup : (a p h b t : List ℕ) → (a ++ (p ++ (h ++ b))) ++ t ≡ a ++ (p ++ (h ++ (b ++ t)))
    regroup a p h b t = simp append_assoc

    some : (n : ℕ) (ns : List ℕ) → (length (n ∷ ns) == 0) ≡ true → ⊥
    some n ns e = let no : (length (n ∷ ns) == 0) ≡ false = grind (arith, common_steps) in absurd (cc)

    by_unit : (ahead : List ℕ) (ps : List Packet) → (length (ahead ++ authenticated_bytes ps) == 0) ≡ true
        → body ≡ masked_bytes key iv (length (encrypted_bytes ps)) payload
        → out1 ≡ out0 ++ (prefix_bytes prefix ++ (head ++ masked_bytes key iv (length (encrypted_bytes ps)) payload))
        → out2 ≡ out0 ++ packet_bytes (packet_with_tag m key iv
        (record { aggregation = unit.aggregation; ahead = ahead; packets = ps })
        (masked_packet key iv ps prefix head payload))
    by_unit [] [] e b1 o1 =
        let c : clear ≡ (prefix_bytes prefix ++ head) ++ [] = is_clear ∙ sym (append-nil (prefix_bytes prefix ++ head))
        in
        let d : body ≡ masked_bytes key iv 0 payload ++ [] = b1 ∙ sym (append-nil (masked_bytes key iv 0 payload)) in
        is2 ∙ (λ i. o1 i ++ (is_tag ∙ (λ j. tag_of key iv (c j) (d j))) i)
        ∙ regroup out0 (prefix_bytes prefix) head (masked_bytes key iv 0 payload)
        (tag_of key iv ((prefix_bytes prefix ++ head) ++ []) (masked_bytes key iv 0 payload ++ []))
        ∙ ap (λ b. out0 ++ packet_bytes (packet_with_tag b key iv
        (record { aggregation = unit.aggregation; ahead = []; packets = [] })
        (masked_packet key iv [] prefix head payload)))
        (sym is_m)
    by_unit [] (p ∷ ps) e b1 o1 =
        absurd (some packet_first (drop 1 (prefix_bytes p.prefix) ++ p.head ++ authenticated_bytes ps) e)
    by_unit (n ∷ ns) ps e b1 o1 = absurd (some n (ns ++ authenticated_bytes ps) e)

-- ---- the slots after it

ended-open : (pair : SlotPair) (units : ℕ) (ps qs : List Packet) → ended_slots (sender_slots_seen pair units ps)
    ≡ ended_slots (sender_slots_seen pair units qs)
ended-open pair units ps qs = by_slots pair.zero pair.one
  where
    by_slots : (a b : KeySlot) → ended_slots (sender_slots_seen (record { sender = true; zero = a; one = b }) units ps)
        ≡ ended_slots (sender_slots_seen (record { sender = true; zero = a; one = b }) units qs)
    by_slots Empty Empty = refl
    by_slots Empty (Programmed h) = refl
    by_slots Empty (Armed h) = refl
    by_slots Empty (Live h) = refl
    by_slots (Programmed g) Empty = refl
    by_slots (Programmed g) (Programmed h) = refl
    by_slots (Programmed g) (Armed h) = refl
    by_slots (Programmed g) (Live h) = refl
    by_slots (Armed g) Empty = refl
    by_slots (Armed g) (Programmed h) = refl
    by_slots (Armed g) (Armed h) = refl
    by_slots (Armed g) (Live h) = refl
    by_slots (Live g) Empty = refl
    by_slots (Live g) (Programmed h) = refl
    by_slots (Live g) (Armed h) = refl
    by_slots (Live g) (Live h) = refl

goes_on : (pair : SlotPair) (units : ℕ) (ps : List Packet) (p : Packet) → sender_slots_seen pair units (ps ++ p ∷ [])
    ≡ sealed_slots false p (sender_slots_seen pair units ps)
goes_on pair units ps p = by_slots pair.zero pair.one
  where
    by_slots : (a b : KeySlot) → sender_slots_seen (record { sender = true; zero = a; one = b }) units (ps ++ p ∷ [])
        ≡ sealed_slots false p (sender_slots_seen (record { sender = true; zero = a; one = b }) units ps)
    by_slots Empty Empty = refl
    by_slots Empty (Programmed h) = refl
    by_slots Empty (Armed h) = refl
    by_slots Empty (Live h) = refl
    by_slots (Programmed g) Empty = refl
    by_slots (Programmed g) (Programmed h) = refl
    by_slots (Programmed g) (Armed h) = refl
    by_slots (Programmed g) (Live h) = refl
    by_slots (Armed g) Empty = refl
    by_slots (Armed g) (Programmed h) = refl
    by_slots (Armed g) (Armed h) = refl
    by_slots (Armed g) (Live h) = refl
    by_slots (Live g) Empty = refl
    by_slots (Live g) (Programmed h) = refl
    by_slots (Live g) (Armed h) = refl
    by_slots (Live g) (Live h) = refl

pub slots-sealed : (m : Bool) (pair : SlotPair) (units : ℕ) (ps qs : List Packet) (key iv : List ℕ) (unit : Gathered)
    (q : Packet) (slots : LaneSlots)
    → q.tag ≡ [] → (m ≡ false → qs ≡ ps ++ q ∷ [])
    → slots ≡ (if m then ended_slots (sender_slots_seen pair units qs) else sender_slots_seen pair units qs)
    → slots ≡ sealed_slots m (packet_with_tag m key iv unit q) (sender_slots_seen pair units ps)
slots-sealed true pair units ps qs key iv unit q slots bare_tag more is = is ∙ ended-open pair units qs ps
slots-sealed false pair units ps qs key iv unit q slots bare_tag more is =
    let same : q ≡ packet_with_tag false key iv unit q = rw bare_tag refl in
    is ∙ ap (λ xs. sender_slots_seen pair units xs) (more refl) ∙ goes_on pair units ps q
    ∙ ap (λ p. sealed_slots false p (sender_slots_seen pair units ps)) same

pub ahead-sealed : (m : Bool) (unit2 unit' : Gathered) (front : List ℕ)
    → unit' ≡ (if m then no_packets unit2.aggregation else unit2) → (m ≡ false → unit2.ahead ≡ front)
    → unit'.ahead ≡ (if m then [] else front)
ahead-sealed true unit2 unit' front is same = ap (λ (u : Gathered). u.ahead) is
ahead-sealed false unit2 unit' front is same = ap (λ (u : Gathered). u.ahead) is ∙ same refl

-- ---- what always holds

-- the key that a sender is ready with: it is Live, and a unit that begins is one of those that it may seal
pub record IsReady (pair : SlotPair) (units limit : ℕ) (ps : List Packet) (key : ReadyKey) : Type 0 where
  pub held : DrawnKey
  pub is_held : live_held (slot_in pair key.k) ≡ Some held
  pub draw : key.draw ≡ held.draw
  pub seen : live_sender (sender_slots_seen pair units ps) ≡ Some (key.k, live_key_seen units ps held)
  pub live : has_live pair ≡ true
  pub unworn : ((length ps == 0) && (units == limit)) ≡ false

ready_if : (b : Bool) (limit : ℕ) (x key : ReadyKey) → (if b then Err (Worn limit) else Ok x) ≡ Ok key
    → (b ≡ false) × (x ≡ key)
ready_if true limit x key e = absurd (cc)
ready_if false limit x key e = (refl, cc)

pub ready-is : (pair : SlotPair) (units limit : ℕ) (ps : List Packet) (key : ReadyKey)
    → ready_key limit (live_sender (sender_slots_seen pair units ps)) ≡ Ok key → IsReady pair units limit ps key
ready-is pair units limit ps key = by_slots pair.zero pair.one
  where
    of_slots : KeySlot → KeySlot → SlotPair
    of_slots a b = record { sender = pair.sender; zero = a; one = b }

    under : (pair : SlotPair) (k : Bool) (x : DrawnKey) → live_held (slot_in pair k) ≡ Some x
        → live_sender (sender_slots_seen pair units ps) ≡ Some (k, live_key_seen units ps x) → has_live pair ≡ true
        → ready_key limit (Some (k, live_key_seen units ps x)) ≡ Ok key → IsReady pair units limit ps key
    under pair k x is_held seen live e =
        let r = ready_if _ limit _ key e in
        subst (IsReady pair units limit ps) r.1
        (record { held = x; is_held = is_held; draw = refl; seen = seen; live = live; unworn = r.0 })

    by_slots : (a b : KeySlot) → ready_key limit (live_sender (sender_slots_seen (of_slots a b) units ps)) ≡ Ok key
        → IsReady (of_slots a b) units limit ps key
    by_slots (Live x) b e = under (of_slots (Live x) b) false x refl refl refl e
    by_slots Empty (Live x) e = under (of_slots Empty (Live x)) true x refl refl refl e
    by_slots (Programmed y) (Live x) e = under (of_slots (Programmed y) (Live x)) true x refl refl refl e
    by_slots (Armed y) (Live x) e = under (of_slots (Armed y) (Live x)) true x refl refl refl e
    by_slots Empty Empty e = absurd (cc)
    by_slots Empty (Programmed x) e = absurd (cc)
    by_slots Empty (Armed x) e = absurd (cc)
    by_slots (Programmed y) Empty e = absurd (cc)
    by_slots (Programmed y) (Programmed x) e = absurd (cc)
    by_slots (Programmed y) (Armed x) e = absurd (cc)
    by_slots (Armed y) Empty e = absurd (cc)
    by_slots (Armed y) (Programmed x) e = absurd (cc)
    by_slots (Armed y) (Armed x) e = absurd (cc)

not_worn : (a b : Bool) → (a && b) ≡ false → a ≡ true → b ≡ false
not_worn true b e h = e
not_worn false b e h = absurd (cc)

within_limit : (aggregation limit units : ℕ) (pair : SlotPair) (unit : Gathered) (key : ReadyKey)
    → IsSender aggregation limit units pair unit → IsReady pair units limit unit.packets key → units < limit
within_limit aggregation limit units pair unit key inv ready = by_open (length unit.packets == 0) refl
  where
    by_open : (b : Bool) → (length unit.packets == 0) ≡ b → units < limit
    by_open false h = inv.room h
    by_open true h =
        let most : units ≤ limit = inv.worn ready.live in
        let other : (units == limit) ≡ false = not_worn _ _ ready.unworn h in
        grind (arith, common_steps)

pub sender-sealed : (aggregation limit units units' : ℕ) (pair pair' : SlotPair) (unit unit2 unit' : Gathered)
    (m more : Bool) (key : ReadyKey)
    → IsSender aggregation limit units pair unit → IsReady pair units limit unit.packets key
    → m ≡ (not more || (length unit.packets + 1 == aggregation))
    → (m ≡ false → length unit2.packets ≡ length unit.packets + 1) → unit2.aggregation ≡ unit.aggregation
    → unit' ≡ (if m then no_packets unit2.aggregation else unit2)
    → pair'.sender ≡ pair.sender → has_live pair' ≡ true → (both_live pair ≡ false → both_live pair' ≡ false)
    → units' ≤ (if m then units + 1 else units) → IsSender aggregation limit units' pair' unit'
sender-sealed aggregation limit units units' pair pair' unit unit2 unit' true more key inv ready is_m more_packets same
    is
    sender
    live' one few =
    let less : units < limit = within_limit aggregation limit units pair unit key inv ready in
    let none : unit'.packets ≡ [] = ap (λ (u : Gathered). u.packets) is in
    record {
      sender = sender ∙ inv.sender;
      one_live = one inv.one_live;
      some_aggregation = inv.some_aggregation;
      small_aggregation = inv.small_aggregation;
      same_aggregation = ap (λ (u : Gathered). u.aggregation) is ∙ same ∙ inv.same_aggregation;
      fits = rw none inv.some_aggregation;
      worn = λ _. omega (arith, few, less);
      room = rw none (λ no. absurd (cc));
      closed = λ no. absurd (cc);
    }
sender-sealed aggregation limit units units' pair pair' unit unit2 unit' false more key inv ready is_m more_packets same
    is
    sender
    live' one few =
    let less : units < limit = within_limit aggregation limit units pair unit key inv ready in
    let count : length unit'.packets ≡ length unit.packets + 1 = ap (λ (u : Gathered). length u.packets) is ∙
    more_packets refl in
    let not_full : (length unit.packets + 1 == aggregation) ≡ false = last_false (not more) _ (sym is_m) in
    record {
      sender = sender ∙ inv.sender;
      one_live = one inv.one_live;
      some_aggregation = inv.some_aggregation;
      small_aggregation = inv.small_aggregation;
      same_aggregation = ap (λ (u : Gathered). u.aggregation) is ∙ same ∙ inv.same_aggregation;
      fits = (let f : length unit.packets < aggregation = inv.fits in grind (arith, common_steps));
      worn = λ _. omega (arith, few, less);
      room = λ _. omega (arith, few, less);
      closed = λ no. absurd (cc);
    }
  where
    last_false : (a b : Bool) → (a || b) ≡ false → b ≡ false
    last_false true b e = absurd (cc)
    last_false false b e = e
