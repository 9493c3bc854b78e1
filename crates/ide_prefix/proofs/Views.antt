-- What each call makes of the unit that is seen.
use Rattle.std.proofs.Common.{◌≡◌, ℕ, ◌+◌, ◌<◌, ◌≤◌, true, false, List, [], ◌∷◌, ◌++◌, length, take, drop, get_or}
use Rattle.std.proofs.Common.{slice_range, Some, refl, sym, ap, ◌∙◌, subst, arith, length-append}
use Rattle.std.specs.List.{slice_get}
use Rattle.std.proofs.lemmas.Bool.{lt-ltb, le-ltb}
use Rattle.std.proofs.lemmas.List.{take-append-le, take_all}
use Rattle.ide_prefix.specs.declared.ends.PacketEnds.{PacketEnds}
use Rattle.ide_prefix.specs.CollectedUnits.{Collected, empty_unit, has_room, unit_with_packet, body_of}
use Rattle.ide_prefix.specs.CollectedUnits.{overwritten_bytes, with_bodies}
use Rattle.ide_prefix.specs.Layout.{parts, Rises, IsLaidOut, LieWithin}
use Rattle.ide_prefix.proofs.Parts.{rises_below, length-parts, bodies_of-parts, rises_on, parts-added, parts_at}
use Rattle.ide_prefix.proofs.Parts.{rises_at, parts-packets_with_bodies}

-- the unit that is seen of these fields
abbrev pub view : ℕ → ℕ → List ℕ → List ℕ → List PacketEnds → Collected
view aggregation ahead x y es = record
    { aggregation = aggregation; ahead = take ahead x; packets = parts x y ahead 0 es }

pub count_of : (aggregation ahead : ℕ) (x y : List ℕ) (es : List PacketEnds) (v : Collected)
    → view aggregation ahead x y es ≡ v → length v.packets ≡ length es
count_of aggregation ahead x y es v is = ap (λ (u : Collected). length u.packets) (sym is) ∙ length-parts x y ahead 0 es

-- ---- one more packet

pub has_room-less : (aggregation ahead : ℕ) (x y : List ℕ) (es : List PacketEnds) (v : Collected)
    → view aggregation ahead x y es ≡ v → length es < aggregation → has_room v ≡ true
has_room-less aggregation ahead x y es v is less = rw (← is, length-parts x y ahead 0 es)
    (lt-ltb (length es) aggregation less)

pub has_room-full : (aggregation ahead : ℕ) (x y : List ℕ) (es : List PacketEnds) (v : Collected)
    → view aggregation ahead x y es ≡ v → aggregation ≤ length es → has_room v ≡ false
has_room-full aggregation ahead x y es v is full = rw (← is, length-parts x y ahead 0 es)
    (le-ltb (length es) aggregation full)

pub view-full : (v : Collected) (head body : List ℕ) → has_room v ≡ false → v ≡ unit_with_packet v head body
view-full v head body full = rw full refl

pub view-added : (aggregation ahead : ℕ) (x y head body : List ℕ) (es : List PacketEnds) (n m : ℕ) (v : Collected)
    → view aggregation ahead x y es ≡ v → length es < aggregation → Rises ahead 0 es (length x) (length y)
    → n ≡ length x + length head → m ≡ length y + length body
    → view aggregation ahead (x ++ head) (y ++ body) (es ++ record { head = n; body = m } ∷ [])
    ≡ unit_with_packet v head body
view-added aggregation ahead x y head body es n m v is less r en em =
    let room = has_room-less aggregation ahead x y es v is less in
    let below = rises_below ahead 0 es (length x) (length y) r in
    let one : view aggregation ahead (x ++ head) (y ++ body) (es ++ record { head = n; body = m } ∷ [])
    ≡ record (view aggregation ahead x y es) { packets = parts x y ahead 0 es ++ (head, body) ∷ [] } =
    rw (en, em) (λ i. record {
      aggregation = aggregation;
      ahead = take-append-le ahead x head below.0 i;
      packets = parts-added x y head body ahead 0 es r i;
    }) in
    rw room (one ∙ ap (λ (u : Collected). record u { packets = u.packets ++ (head, body) ∷ [] }) is)

-- the new packet ends where the bytes now end, so all that stood before lies as it did
pub laid-added : (aggregation ahead : ℕ) (x y head body : List ℕ) (es : List PacketEnds) (n m xs ys xs' ys' : ℕ)
    → IsLaidOut aggregation ahead es x y xs ys → length es < aggregation → length head ≤ 20 → length body ≤ 4096
    → xs ≤ xs' → ys ≤ ys' → n ≡ length x + length head → m ≡ length y + length body
    → IsLaidOut aggregation ahead (es ++ record { head = n; body = m } ∷ []) (x ++ head) (y ++ body) xs' ys'
laid-added aggregation ahead x y head body es n m xs ys xs' ys' p less short_head short_body wider_x wider_y en em =
    let lx : length (x ++ head) ≡ n = length-append x head ∙ sym en in
    let ly : length (y ++ body) ≡ m = length-append y body ∙ sym em in
    let more : length (es ++ record { head = n; body = m } ∷ [])
    ≡ length es + 1 = length-append es (record { head = n; body = m } ∷ []) in
    record {
      aggregation_fits = p.aggregation_fits;
      packets_fit = omega (arith, more, less);
      rising = rw (lx, ly) (rises_on ahead 0 es (length x) (length y) n m p.rising (omega (arith, en))
          (omega (arith, em)));
      heads_fit = omega (arith, lx, en, more, p.heads_fit, short_head);
      bodies_fit = omega (arith, ly, em, more, p.bodies_fit, short_body);
      room_for_heads = omega (arith, p.room_for_heads, wider_x);
      room_for_bodies = omega (arith, p.room_for_bodies, wider_y);
    }

-- ---- one packet

pub packet_at : (aggregation ahead : ℕ) (x y : List ℕ) (es : List PacketEnds) (i : ℕ) (s t : PacketEnds) (v : Collected)
    → view aggregation ahead x y es ≡ v → i < length es → s ≡ get_or (record { head = ahead; body = 0 } ∷ es) i s
    → t ≡ get_or es i t → slice_get v.packets i ≡ Some (slice_range x s.head t.head, slice_range y s.body t.body)
packet_at aggregation ahead x y es i s t v is less es' et =
    rw (← is) (subst (λ (u : PacketEnds). slice_get (parts x y ahead 0 es) i
    ≡ Some (slice_range x u.head t.head, slice_range y u.body t.body)) (sym es')
    (subst (λ (w : PacketEnds). slice_get (parts x y ahead 0 es) i
    ≡ Some (
      slice_range x (get_or (record { head = ahead; body = 0 } ∷ es) i s).head w.head,
      slice_range y
          (get_or (record { head = ahead; body = 0 } ∷ es) i s).body w.body,
    ))
    (sym et)
    (parts_at x y ahead 0 es i s t less)))

pub lies_within : (ahead : ℕ) (x y : List ℕ) (es : List PacketEnds) (i : ℕ) (s t : PacketEnds)
    → Rises ahead 0 es (length x) (length y) → i < length es → s ≡ get_or (record { head = ahead; body = 0 } ∷ es) i s
    → t ≡ get_or es i t → LieWithin s t (length x) (length y)
lies_within ahead x y es i s t r less es' et =
    subst (λ (u : PacketEnds). LieWithin u t (length x) (length y)) (sym es')
    (subst (λ (w : PacketEnds). LieWithin (get_or (record { head = ahead; body = 0 } ∷ es) i s) w (length x) (length y))
    (sym et)
    (rises_at ahead 0 es (length x) (length y) i s t r less))

-- ---- other bodies

pub view-packets_with_bodies : (aggregation ahead n : ℕ) (x y new : List ℕ) (es : List PacketEnds) (v : Collected)
    → view aggregation ahead x y es ≡ v → Rises ahead 0 es (length x) (length y) → n ≡ length y
    → view aggregation ahead x (take n (new ++ drop (length new) y)) es ≡ with_bodies v new
view-packets_with_bodies aggregation ahead n x y new es v is r en =
    let bodies : body_of (view aggregation ahead x y es) ≡ y = bodies_of-parts x y ahead 0 es r in
    let same : take n (new ++ drop (length new) y) ≡ overwritten_bytes (body_of (view aggregation ahead x y es)) new =
    rw
    (en, bodies) refl in
    rw (← is) (rw same (λ i. record {
      aggregation = aggregation;
      ahead = take ahead x;
      packets = parts-packets_with_bodies x y
          (overwritten_bytes (body_of (view aggregation ahead x y es)) new) ahead 0 es r i;
    }))

-- ---- no packet

pub record IsEmpty (ahead : ℕ) (x y : List ℕ) (es : List PacketEnds) : Type 0 where
  pub ends : es ≡ []
  pub heads : x ≡ []
  pub bodies : y ≡ []

pub nothing_left : (ahead : ℕ) (x y : List ℕ) (es : List PacketEnds) → take ahead x ≡ [] → parts x y ahead 0 es ≡ []
    → Rises ahead 0 es (length x) (length y) → IsEmpty ahead x y es
nothing_left ahead x y [] none no_packets r =
    record {
      ends = refl;
      heads = sym (take_all ahead x (omega (arith, r.0))) ∙ none;
      bodies = sym
          (take_all 0 y (omega (arith, r.1)));
    }
nothing_left ahead x y (e ∷ es) none no_packets r = absurd cc

pub emptied : (aggregation aggregation' ahead : ℕ) (x y : List ℕ) (es : List PacketEnds)
    → view aggregation ahead x y es ≡ empty_unit aggregation' → Rises ahead 0 es (length x) (length y)
    → IsEmpty ahead x y es
emptied aggregation aggregation' ahead x y es is r =
    nothing_left ahead x y es (ap (λ (u : Collected). u.ahead) is) (ap (λ (u : Collected). u.packets) is) r

-- there was no packet, so the ahead alone lies in the heads
pub laid-ahead : (aggregation ahead : ℕ) (x y bytes : List ℕ) (es : List PacketEnds) (xs ys xs' : ℕ)
    → IsLaidOut aggregation ahead es x y xs ys → IsEmpty ahead x y es
    → length bytes ≡ 8 → xs ≤ xs' → IsLaidOut aggregation 8 es (x ++ bytes) y xs' ys
laid-ahead aggregation ahead x y bytes es xs ys xs' p e long wider =
    rw (e.ends, e.heads, e.bodies) (record {
      aggregation_fits = p.aggregation_fits;
      packets_fit = omega arith;
      rising = (sym long, refl);
      heads_fit = omega (arith, long);
      bodies_fit = omega arith;
      room_for_heads = omega (arith, p.room_for_heads, wider);
      room_for_bodies = p.room_for_bodies;
    })

pub view-ahead : (aggregation ahead : ℕ) (x y bytes : List ℕ) (es : List PacketEnds) (old : Collected)
    → IsEmpty ahead x y es → length bytes ≡ 8 → view aggregation ahead x y es ≡ empty_unit old.aggregation
    → old.packets ≡ [] → view aggregation 8 (x ++ bytes) y es ≡ record old { ahead = bytes }
view-ahead aggregation ahead x y bytes es old e long is none =
    let whole : take 8 bytes ≡ bytes = take_all 8 bytes (omega (arith, long)) in
    rw (e.ends, e.heads) (λ i. record
    { aggregation = ap (λ (u : Collected). u.aggregation) is i; ahead = whole i; packets = sym none i })
