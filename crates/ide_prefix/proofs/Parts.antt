-- Packets that lie one after the other.
use Rattle.std.proofs.Common.{◌≡◌, ℕ, zero, suc, ◌+◌, ◌-◌, ◌<◌, ◌≤◌, List, [], ◌∷◌, ◌++◌, length, take, drop, get_or}
use Rattle.std.proofs.Common.{slice_range, Some, refl, sym, ap, ◌∙◌, arith, length-take, length-drop}
use Rattle.std.specs.List.{slice_get}
use Rattle.std.proofs.lemmas.List.{drop_all, drop-drop, take-append-drop, take-append-le, drop-append-le, take_all}
use Rattle.std.proofs.lemmas.List.Folds.{drop_split}
use Rattle.std.proofs.Math.Seq.{drop-append_seam}
use Rattle.ide_prefix.specs.declared.ends.PacketEnds.{PacketEnds}
use Rattle.ide_prefix.specs.CollectedUnits.{heads_of, bodies_of, packets_with_bodies}
use Rattle.ide_prefix.specs.Layout.{parts, Rises, LieWithin}

pub rises_below : (h b : ℕ) (es : List PacketEnds) (heads bodies : ℕ) → Rises h b es heads bodies → (h ≤ heads)
    × (b ≤ bodies)
rises_below h b [] heads bodies r = (omega (arith, r.0), omega (arith, r.1))
rises_below h b (e ∷ es) heads bodies r =
    let rest = rises_below e.head e.body es heads bodies r.2 in
    (omega (arith, r.0, rest.0), omega (arith, r.1, rest.1))

pub length-parts : (x y : List ℕ) (h b : ℕ) (es : List PacketEnds) → length (parts x y h b es) ≡ length es
length-parts x y h b [] = refl
length-parts x y h b (e ∷ es) = ap (λ (n : ℕ). suc n) (length-parts x y e.head e.body es)

-- the heads, joined, are what lies after the first place
pub heads_of-parts : (x y : List ℕ) (h b : ℕ) (es : List PacketEnds) → Rises h b es (length x) (length y)
    → heads_of (parts x y h b es) ≡ drop h x
heads_of-parts x y h b [] r = sym (drop_all h x (omega (arith, r.0)))
heads_of-parts x y h b (e ∷ es) r = rw (heads_of-parts x y e.head e.body es r.2) (sym (drop_split x h e.head r.0))

pub bodies_of-parts : (x y : List ℕ) (h b : ℕ) (es : List PacketEnds) → Rises h b es (length x) (length y)
    → bodies_of (parts x y h b es) ≡ drop b y
bodies_of-parts x y h b [] r = sym (drop_all b y (omega (arith, r.1)))
bodies_of-parts x y h b (e ∷ es) r = rw (bodies_of-parts x y e.head e.body es r.2) (sym (drop_split y b e.body r.1))

-- after what comes ahead all heads, and all bodies
pub joined_heads : (x y : List ℕ) (ahead : ℕ) (es : List PacketEnds) → Rises ahead 0 es (length x) (length y) → x
    ≡ take ahead x ++ heads_of (parts x y ahead 0 es)
joined_heads x y ahead es r =
    sym (ap (λ (t : List ℕ). take ahead x ++ t) (heads_of-parts x y ahead 0 es r) ∙ take-append-drop ahead x)

pub joined_bodies : (x y : List ℕ) (ahead : ℕ) (es : List PacketEnds) → Rises ahead 0 es (length x) (length y) → y
    ≡ bodies_of (parts x y ahead 0 es)
joined_bodies x y ahead es r = sym (bodies_of-parts x y ahead 0 es r)

-- ---- one more packet

last : (x new : List ℕ) (i : ℕ) → i ≡ length x → slice_range (x ++ new) i (length x + length new) ≡ new
last x new i is =
    let behind : drop i (x ++ new) ≡ new = rw is (drop-append_seam x new) in
    let long : length x + length new - i ≡ length new = omega (arith, is) in
    rw (behind, long) (take_all (length new) new (omega arith))

within : (x new : List ℕ) (i j : ℕ) → i ≤ j → j ≤ length x → slice_range (x ++ new) i j ≡ slice_range x i j
within x new i j le fits =
    let first : i ≤ length x = omega (arith, le, fits) in
    rw (drop-append-le i x new first) (take-append-le (j - i) (drop i x) new (omega (arith, length-drop i x, fits)))

pub rises_on : (h b : ℕ) (es : List PacketEnds) (heads bodies heads' bodies' : ℕ) → Rises h b es heads bodies
    → heads ≤ heads' → bodies ≤ bodies' → Rises h b (es ++ record { head = heads'; body = bodies' } ∷ []) heads' bodies'
rises_on h b [] heads bodies heads' bodies' r p q = (omega (arith, r.0, p), omega (arith, r.1, q), (refl, refl))
rises_on h b (e ∷ es) heads bodies heads' bodies' r p q =
    (r.0, r.1, rises_on e.head e.body es heads bodies heads' bodies' r.2 p q)

pub parts-added : (x y head body : List ℕ) (h b : ℕ) (es : List PacketEnds) → Rises h b es (length x) (length y)
    → parts (x ++ head) (y ++ body) h b
    (es ++ record { head = length x + length head; body = length y + length body } ∷ []) ≡ parts x y h b es
    ++ (head, body) ∷ []
parts-added x y head body h b [] r = λ i. (last x head h r.0 i, last y body b r.1 i) ∷ []
parts-added x y head body h b (e ∷ es) r =
    let below = rises_below e.head e.body es (length x) (length y) r.2 in
    λ i. (within x head h e.head r.0 below.0 i, within y body b e.body r.1 below.1 i)
    ∷ parts-added x y head body e.head e.body es r.2 i

-- ---- one packet

pub parts_at : (x y : List ℕ) (h b : ℕ) (es : List PacketEnds) (i : ℕ) (d d' : PacketEnds) → i < length es
    → slice_get (parts x y h b es) i ≡ Some (
      slice_range x (get_or (record { head = h; body = b } ∷ es) i d).head (get_or es i d').head,
      slice_range y
          (get_or (record { head = h; body = b } ∷ es) i d).body (get_or es i d').body,
    )
parts_at x y h b [] i d d' lt = absurd (omega (arith, lt))
parts_at x y h b (e ∷ es) zero d d' lt = refl
parts_at x y h b (e ∷ es) (suc i) d d' lt = parts_at x y e.head e.body es i d d' (omega (arith, lt))

pub rises_at : (h b : ℕ) (es : List PacketEnds) (heads bodies : ℕ) (i : ℕ) (d d' : PacketEnds)
    → Rises h b es heads bodies → i < length es
    → LieWithin (get_or (record { head = h; body = b } ∷ es) i d) (get_or es i d') heads bodies
rises_at h b [] heads bodies i d d' r lt = absurd (omega (arith, lt))
rises_at h b (e ∷ es) heads bodies zero d d' r lt =
    let below = rises_below e.head e.body es heads bodies r.2 in
    record { head = r.0; body = r.1; heads_reach = below.0; bodies_reach = below.1 }
rises_at h b (e ∷ es) heads bodies (suc i) d d' r lt = rises_at e.head e.body es heads bodies i d d' r.2
    (omega (arith, lt))

-- ---- other bodies

pub parts-packets_with_bodies : (x y new : List ℕ) (h b : ℕ) (es : List PacketEnds) → Rises h b es (length x) (length y)
    → parts x new h b es ≡ packets_with_bodies (parts x y h b es) (drop b new)
parts-packets_with_bodies x y new h b [] r = refl
parts-packets_with_bodies x y new h b (e ∷ es) r =
    let below = rises_below e.head e.body es (length x) (length y) r.2 in
    let long : length (slice_range y b e.body) ≡ e.body - b = omega
    (arith, length-take (e.body - b) (drop b y), length-drop b y, below.1, r.1) in
    let past : b + (e.body - b) ≡ e.body = omega (arith, r.1) in
    let rest : drop (e.body - b) (drop b new) ≡ drop e.body new = drop-drop (e.body - b) b new ∙ ap
    (λ (n : ℕ). drop n new) past in
    rw (long, rest) (ap (λ (ps : List (List ℕ × List ℕ)). (slice_range x h e.head, slice_range new b e.body) ∷ ps)
    (parts-packets_with_bodies x y new e.head e.body es r.2))
