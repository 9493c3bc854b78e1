-- A packet with the held ones: what is joined, and the answer.
use Rattle.std.proofs.Common.{◌≡◌, ℕ, suc, ◌+◌, ◌<◌, ◌≤◌, Bool, true, false, nat_le, if◌then◌else◌, List, [], ◌∷◌, ◌++◌}
use Rattle.std.proofs.Common.{length, refl, sym, ap, ◌∙◌, arith}
use Rattle.std.proofs.lemmas.List.Sums.{sum_by-append}
use Rattle.ide_types.specs.declared.sub.FailCause.TheVariants as fail
use Rattle.gcm_seal.specs.Gcm.{masked_bytes, verifies}
use Rattle.ide_prefix.specs.Iv.{iv_of}
use Rattle.ide_prefix.specs.Packet.{Packet}
use Rattle.ide_prefix.specs.Units.{clear_bytes, authenticated_bytes, encrypted_bytes, packet_without_tag}
use Rattle.spec_stream.specs.Stream.{LiveKey, Failed, Held, Accepted, posted_sum, outcome_of_checks}
use Rattle.std.proofs.lemmas.Grind.{common_steps}
use Rattle.sub_stream.specs.Gathered.{Gathered, with_packet, clear_of, opened_from_byte, opened_packets}
use Rattle.sub_stream.specs.Receivers.{is_tagged_behind, judged_packet}

-- ---- a tag is not joined

pub clear-packet_without_tag : (ps : List Packet) (p : Packet) → authenticated_bytes (ps ++ packet_without_tag p ∷ [])
    ≡ authenticated_bytes (ps ++ p ∷ [])
clear-packet_without_tag [] p = refl
clear-packet_without_tag (q ∷ ps) p = ap (λ x. clear_bytes q ++ x) (clear-packet_without_tag ps p)

pub bodies-packet_without_tag : (ps : List Packet) (p : Packet) → encrypted_bytes (ps ++ packet_without_tag p ∷ [])
    ≡ encrypted_bytes (ps ++ p ∷ [])
bodies-packet_without_tag [] p = refl
bodies-packet_without_tag (q ∷ ps) p = ap (λ x. q.body ++ x) (bodies-packet_without_tag ps p)

pub posted-packet_without_tag : (ps : List Packet) (p : Packet) → posted_sum (ps ++ packet_without_tag p ∷ [])
    ≡ posted_sum (ps ++ p ∷ [])
posted-packet_without_tag ps p = sum_by-append (λ (x : Packet). x.prefix.posted) ps (packet_without_tag p ∷ [])
    ∙ sym (sum_by-append (λ (x : Packet). x.prefix.posted) ps (p ∷ []))

opened_from_byte-packet_without_tag : (key iv : List ℕ) (n : ℕ) (ps : List Packet) (p : Packet)
    → opened_from_byte key iv n (ps ++ packet_without_tag p ∷ []) ≡ opened_from_byte key iv n (ps ++ p ∷ [])
opened_from_byte-packet_without_tag key iv n [] p = refl
opened_from_byte-packet_without_tag key iv n (q ∷ ps) p =
    ap (λ x. record { prefix = q.prefix; head = q.head; body = masked_bytes key iv n q.body; tag = [] } ∷ x)
    (opened_from_byte-packet_without_tag key iv (n + length q.body) ps p)

pub opened_packets-packet_without_tag : (key iv : List ℕ) (ps : List Packet) (p : Packet)
    → opened_packets key iv (ps ++ packet_without_tag p ∷ []) ≡ opened_packets key iv (ps ++ p ∷ [])
opened_packets-packet_without_tag key iv ps p = opened_from_byte-packet_without_tag key iv 0 ps p

length-opened_from_byte : (key iv : List ℕ) (n : ℕ) (ps : List Packet) → length (opened_from_byte key iv n ps)
    ≡ length ps
length-opened_from_byte key iv n [] = refl
length-opened_from_byte key iv n (p ∷ ps) = ap (λ m. suc m) (length-opened_from_byte key iv (n + length p.body) ps)

pub length-opened_packets : (key iv : List ℕ) (ps : List Packet) → length (opened_packets key iv ps) ≡ length ps
length-opened_packets key iv ps = length-opened_from_byte key iv 0 ps

-- ---- the answer

pub tag-seen : (ahead : List ℕ) (x : LiveKey) (p : Packet) (iv clear bodies : List ℕ) (b : Bool)
    → iv ≡ iv_of p.prefix.sub (x.units + 1)
    → clear ≡ ahead ++ authenticated_bytes (x.packets ++ packet_without_tag p ∷ []) → bodies
    ≡ encrypted_bytes (x.packets ++ packet_without_tag p ∷ [])
    → b ≡ verifies x.key iv clear bodies p.tag → is_tagged_behind ahead x p ≡ b
tag-seen ahead x p iv clear bodies b is_iv is_clear is_bodies is =
    sym (is ∙ (λ i. verifies x.key (is_iv i)
    ((is_clear ∙ ap (λ y. ahead ++ y) (clear-packet_without_tag x.packets p)) i)
    ((is_bodies ∙ bodies-packet_without_tag x.packets p) i) p.tag))

pub judged-tag : (ahead : List ℕ) (allowed : ℕ) (x : LiveKey) (p : Packet) → p.prefix.m ≡ true
    → is_tagged_behind ahead x p ≡ false → judged_packet ahead allowed x p ≡ Failed fail.Tag
judged-tag ahead allowed x p m tag = λ i. if m i then outcome_of_checks (tag i)
    (nat_le (posted_sum (x.packets ++ p ∷ [])) allowed) x p else Held x.draw (x.units + 1)

pub judged-order : (ahead : List ℕ) (allowed : ℕ) (x : LiveKey) (p : Packet) → p.prefix.m ≡ true
    → is_tagged_behind ahead x p ≡ true
    → nat_le (posted_sum (x.packets ++ p ∷ [])) allowed ≡ false → judged_packet ahead allowed x p ≡ Failed fail.Order
judged-order ahead allowed x p m tag order = λ i. if m i then outcome_of_checks (tag i) (order i) x p else Held x.draw
    (x.units + 1)

pub judged-accepted : (ahead : List ℕ) (allowed : ℕ) (x : LiveKey) (p : Packet) → p.prefix.m ≡ true
    → is_tagged_behind ahead x p ≡ true → nat_le (posted_sum (x.packets ++ p ∷ [])) allowed ≡ true
    → judged_packet ahead allowed x p ≡ Accepted x.draw (x.units + 1) (x.packets ++ p ∷ [])
judged-accepted ahead allowed x p m tag order = λ i. if m i then outcome_of_checks (tag i) (order i) x p else Held
    x.draw
    (x.units + 1)

-- the packet is with the held ones
pub tagged-in : (begun unit : Gathered) (x : LiveKey) (p : Packet) (iv : List ℕ) (b : Bool) → begun.packets ≡ x.packets
    → iv ≡ iv_of p.prefix.sub (x.units + 1) → unit ≡ with_packet begun (packet_without_tag p)
    → b ≡ verifies x.key iv (clear_of unit) (encrypted_bytes unit.packets) p.tag → is_tagged_behind begun.ahead x p ≡ b
tagged-in begun unit x p iv b same is_iv is_unit is =
    tag-seen begun.ahead x p iv (clear_of unit) (encrypted_bytes unit.packets) b is_iv
    (ap clear_of is_unit ∙ ap (λ ps. begun.ahead ++ authenticated_bytes (ps ++ packet_without_tag p ∷ [])) same)
    (ap (λ (u : Gathered). encrypted_bytes u.packets) is_unit ∙ ap
    (λ ps. encrypted_bytes (ps ++ packet_without_tag p ∷ [])) same) is

pub posted-in : (begun unit : Gathered) (x : LiveKey) (p : Packet) (n : ℕ)
    → begun.packets ≡ x.packets → unit ≡ with_packet begun (packet_without_tag p) → n ≡ posted_sum unit.packets
    → posted_sum (x.packets ++ p ∷ []) ≡ n
posted-in begun unit x p n same is_unit is =
    sym (is ∙ ap (λ (u : Gathered). posted_sum u.packets) is_unit ∙ ap
    (λ ps. posted_sum (ps ++ packet_without_tag p ∷ [])) same ∙
    posted-packet_without_tag x.packets p)

pub opened_packets-in : (begun unit new : Gathered) (x : LiveKey) (p : Packet) (iv : List ℕ) → begun.packets ≡ x.packets
    → iv ≡ iv_of p.prefix.sub (x.units + 1) → unit ≡ with_packet begun (packet_without_tag p)
    → new ≡ record unit { packets = opened_packets x.key iv unit.packets }
    → new ≡ record begun { packets = opened_packets x.key (iv_of p.prefix.sub (x.units + 1)) (x.packets ++ p ∷ []) }
opened_packets-in begun unit new x p iv same is_iv is_unit is =
    is ∙ ap (λ (u : Gathered). record u { packets = opened_packets x.key iv u.packets }) is_unit
    ∙ (λ i. record begun { packets = opened_packets x.key (is_iv i) (same i ++ packet_without_tag p ∷ []) })
    ∙ ap (λ ps. record begun { packets = ps })
    (opened_packets-packet_without_tag x.key (iv_of p.prefix.sub (x.units + 1)) x.packets p)

pub le-false : (a b : ℕ) → b < a → nat_le a b ≡ false
le-false a b h = grind (arith, common_steps)

pub le-true : (a b : ℕ) → a ≤ b → nat_le a b ≡ true
le-true a b h = grind (arith, common_steps)
