-- What a unit's tag covers fixes its packets, but for their tags: a prefix has four bytes, the first header byte tells
-- how long the header is, and the header how long the payload, so packet after packet is cut off.
use Rattle.std.proofs.Common.{◌≡◌, ℕ, suc, ◌+◌, ◌*◌, ◌/◌, ◌%◌, ◌<◌, Bool, true, false, eqb, List, [], ◌∷◌, ◌++◌, length}
use Rattle.std.proofs.Common.{map, get_or, Some, refl, sym, ap, subst, ◌∙◌, inl, inr, arith, append-nil}
use Rattle.std.specs.List.{AllByRecursion}
use Rattle.std.specs.Prelude.{All}
use Rattle.std.proofs.lemmas.Bool.{ne_eqb, eq-eqb}
use Rattle.std.proofs.lemmas.List.{get_or_append_left}
use Rattle.std.proofs.lemmas.List.Concat.{flat_map-cons}
use Rattle.tlp_layout.specs.{head_bytes, bit, layout_of_byte, class_of, kind_of_layout, kind_class, head_of, rest_size}
use Rattle.tlp_layout.specs.{body_size, layout_of}
use Rattle.ide_types.specs.Sub.{sub_bits}
use Rattle.ide_prefix.specs.Causes.{clear_size, sub_from}
use Rattle.ide_prefix.specs.Packet.{begins_sync, prefix_bytes, IsCarried, IsSync, FitsPacket}
use Rattle.ide_prefix.specs.Units.{clear_bytes, authenticated_bytes, encrypted_bytes, packet_without_tag}
use Rattle.ide_prefix.specs.declared.packet.Prefix.{Prefix}
use Rattle.tlp_layout.specs.declared.layout.Layout.TheVariants as layouts
use Rattle.ide_prefix.proofs.Terms.{Layout, HeadView, SubKind, Pr, Npr, Cpl, Packet, IsRight, kept, again}
use Rattle.ide_prefix.proofs.Terms.{head_size_at_least}

-- ---- the prefix

abbrev pub Prefix-of : Bool → Bool → Bool → SubKind → ℕ → ℕ → Prefix
Prefix-of m k t u s p = record { m = m; k = k; t = t; sub = u; stream = s; posted = p }

abbrev pub flags : Bool → Bool → Bool → SubKind → ℕ
flags m k t sub = 128 * bit m + 64 * bit k + 32 * bit t + sub_bits sub

abbrev four : Bool → Bool → Bool → SubKind → Bool × Bool × Bool × SubKind
four m k t u = (m, k, t, u)

abbrev pub parts : ℕ → Bool × Bool × Bool × SubKind
parts f = (eqb (f / 128) 1, eqb (f / 64 % 2) 1, eqb (f / 32 % 2) 1, sub_from (f % 8))

bit_again : (b : Bool) (x : ℕ) → x ≡ bit b → eqb x 1 ≡ b
bit_again true x e = eq-eqb x 1 e
bit_again false x e = ne_eqb x 1 (λ one. omega arith)

pub bit_small : (b : Bool) → bit b < 2
bit_small true = omega arith
bit_small false = omega arith

pub sub_small : (sub : SubKind) → sub_bits sub < 3
sub_small Pr = omega arith
sub_small Npr = omega arith
sub_small Cpl = omega arith

pub sub_again : (sub : SubKind) → sub_from (sub_bits sub) ≡ sub
sub_again Pr = refl
sub_again Npr = refl
sub_again Cpl = refl

pub low_flags : (m k t : Bool) (sub : SubKind) → flags m k t sub % 8 ≡ sub_bits sub
low_flags m k t sub = omega (arith, sub_small sub)

pub parts_of : (m k t : Bool) (sub : SubKind) → parts (flags m k t sub) ≡ (m, k, t, sub)
parts_of m k t sub =
    let bm = bit_small m in
    let bk = bit_small k in
    let bt = bit_small t in
    let bs = sub_small sub in
    let em = bit_again m (flags m k t sub / 128) (omega arith) in
    let ek = bit_again k (flags m k t sub / 64 % 2) (omega arith) in
    let et = bit_again t (flags m k t sub / 32 % 2) (omega arith) in
    let es = ap sub_from (low_flags m k t sub) ∙ sub_again sub in
    λ i. (em i, ek i, et i, es i)

prefix_is : (m m' k k' t t' : Bool) (u u' : SubKind) (s s' p p' : ℕ) → four m k t u ≡ four m' k' t' u' → s ≡ s' → p ≡ p'
    → Prefix-of m k t u s p ≡ Prefix-of m' k' t' u' s' p'
prefix_is m m' k k' t t' u u' s s' p p' e es ep = λ i. Prefix-of (e i).0 (e i).1 (e i).2 (e i).3 (es i) (ep i)

same_prefix : (p q : Prefix) (a b : List ℕ) → prefix_bytes p ++ a ≡ prefix_bytes q ++ b → (p ≡ q) × (a ≡ b)
same_prefix p q a b e =
    let f : flags p.m p.k p.t p.sub ≡ flags q.m q.k q.t q.sub = cc in
    let s : p.stream ≡ q.stream = cc in
    let c : p.posted ≡ q.posted = cc in
    let rest : a ≡ b = cc in (
      prefix_is p.m q.m p.k q.k p.t q.t p.sub q.sub p.stream q.stream p.posted q.posted
          (sym (parts_of p.m p.k p.t p.sub) ∙ ap parts f ∙ parts_of q.m q.k q.t q.sub) s c,
      rest,
    )

-- ---- lists of one length

same_ahead : (a b u v : List ℕ) → length a ≡ length b → a ++ u ≡ b ++ v → (a ≡ b) × (u ≡ v)
same_ahead [] [] u v l e = (refl, e)
same_ahead [] (y ∷ b) u v l e = absurd (omega arith)
same_ahead (x ∷ a) [] u v l e = absurd (omega arith)
same_ahead (x ∷ a) (y ∷ b) u v l e =
    let head : x ≡ y = cc in
    let tail : a ++ u ≡ b ++ v = cc in
    let r = same_ahead a b u v (omega arith) tail in
    let one = r.0 in
    (cc, r.1)

-- ---- headers

some_is : (a b : Layout) → Some a ≡ Some b → a ≡ b
some_is a b e = cc

posted : (h : HeadView) (b : ℕ) → layout_of_byte b ≡ Some (layout_of h.fields) → b ≡ 0x34 → class_of h ≡ Pr
posted h b kind e =
    let m : layout_of h.fields ≡ layouts.Message = some_is _ _ (sym kind ∙ ap layout_of_byte e) in
    ap (λ (k : Layout). kind_class (kind_of_layout k h.has_payload)) m

pub not_sync : (sub : SubKind) (h : HeadView) (b : ℕ) → layout_of_byte b ≡ Some (layout_of h.fields) → class_of h ≡ sub
    → begins_sync sub b ≡ false
not_sync Pr h b kind class = refl
not_sync Npr h b kind class = ne_eqb b 0x34 (λ e. let pr = posted h b kind e in absurd cc)
not_sync Cpl h b kind class = ne_eqb b 0x34 (λ e. let pr = posted h b kind e in absurd cc)

pub sync_sized : (sub : SubKind) → (sub ≡ Pr → ⊥) → clear_size sub 0x34 ≡ 12
sync_sized Pr ne = absurd (ne refl)
sync_sized Npr ne = refl
sync_sized Cpl ne = refl

-- how long the header and the body are, by the clear bytes
record IsSized (p : Packet) : Type 0 where
  some : 0 < length p.head
  head : length p.head ≡ clear_size p.prefix.sub (get_or p.head 0 0)
  body : length p.body ≡ rest_size p.head

carried_sized : (p : Packet) → IsCarried p → IsSized p
carried_sized p c =
    let r : IsRight (layout_of c.head.fields) p.head = subst (IsRight (layout_of c.head.fields)) (sym c.spells.spelled)
    (kept c.head c.spells.fits) in
    let no = not_sync p.prefix.sub c.head (get_or p.head 0 0) r.kind c.class in
    let same : head_of (layout_of c.head.fields) p.head ≡ c.head = ap (head_of (layout_of c.head.fields))
    (c.spells.spelled ∙ sym (append-nil (head_bytes c.head))) ∙ again c.head [] c.spells.fits in
    record {
      some = omega (arith, r.size, head_size_at_least (get_or p.head 0 0));
      head = rw no r.size;
      body = c.size ∙ sym (ap (λ (h : HeadView). body_size h.has_payload h.lead.length) same);
    }

sync_is_sized : (p : Packet) → IsSync p → IsSized p
sync_is_sized p s = record {
  some = rw s.head (omega arith);
  head = rw s.head (sym (sync_sized p.prefix.sub s.sub));
  body = rw (s.head, s.body) refl;
}

sized : (p : Packet) → FitsPacket p → IsSized p
sized p f = elim f.carries [ inl c ↦ carried_sized p c | inr s ↦ sync_is_sized p s ]

packet_is : (p q : Packet) → p.prefix ≡ q.prefix → p.head ≡ q.head → p.body ≡ q.body → packet_without_tag p
    ≡ packet_without_tag q
packet_is p q e1 e2 e3 = cc

same_packets : (ps qs : List Packet) → AllByRecursion FitsPacket ps → AllByRecursion FitsPacket qs
    → authenticated_bytes ps ≡ authenticated_bytes qs → encrypted_bytes ps ≡ encrypted_bytes qs
    → map packet_without_tag ps ≡ map packet_without_tag qs
same_packets [] [] fp fq a c = refl
same_packets [] (q ∷ qs) fp fq a c = absurd cc
same_packets (p ∷ ps) [] fp fq a c = absurd cc
same_packets (p ∷ ps) (q ∷ qs) fp fq a c =
    let sp = sized p fp.0 in
    let sq = sized q fq.0 in
    let clear : prefix_bytes p.prefix ++ (p.head ++ authenticated_bytes ps) ≡ prefix_bytes q.prefix
    ++ (q.head ++ authenticated_bytes qs) = sym (flat_map-cons clear_bytes p ps) ∙ a ∙ flat_map-cons clear_bytes q qs in
    let e1 = same_prefix p.prefix q.prefix (p.head ++ authenticated_bytes ps) (q.head ++ authenticated_bytes qs) clear
    in
    let first : get_or p.head 0 0 ≡ get_or q.head 0 0 = sym
    (get_or_append_left p.head (authenticated_bytes ps) 0 0 sp.some) ∙
    ap (λ (s : List ℕ). get_or s 0 0) e1.1 ∙ get_or_append_left q.head (authenticated_bytes qs) 0 0 sq.some in
    let long : length p.head ≡ length q.head = sp.head ∙ ap (λ (x : Prefix). clear_size x.sub (get_or p.head 0 0)) e1.0
    ∙ ap (clear_size q.prefix.sub) first ∙ sym sq.head in
    let e2 = same_ahead p.head q.head (authenticated_bytes ps) (authenticated_bytes qs) long e1.1 in
    let cipher : p.body ++ encrypted_bytes ps ≡ q.body ++ encrypted_bytes qs = sym
    (flat_map-cons (λ (x : Packet). x.body) p ps) ∙ c
    ∙ flat_map-cons (λ (x : Packet). x.body) q qs in
    let wide : length p.body ≡ length q.body = sp.body ∙ ap rest_size e2.0 ∙ sym sq.body in
    let e3 = same_ahead p.body q.body (encrypted_bytes ps) (encrypted_bytes qs) wide cipher in
    let rest = same_packets ps qs fp.1 fq.1 e2.1 e3.1 in
    let one = packet_is p q e1.0 e2.0 e3.0 in
    cc

by_recursion : (ps : List Packet) → All FitsPacket ps → AllByRecursion FitsPacket ps
by_recursion [] h = tt
by_recursion (p ∷ ps) h = (h 0 p (omega arith), by_recursion ps (λ i d lt. h (suc i) d (omega arith)))

pub one_list : (ps qs : List Packet) → All FitsPacket ps → All FitsPacket qs → authenticated_bytes ps
    ≡ authenticated_bytes qs
    → encrypted_bytes ps ≡ encrypted_bytes qs → map packet_without_tag ps ≡ map packet_without_tag qs
one_list ps qs fp fq = same_packets ps qs (by_recursion ps fp) (by_recursion qs fq)
