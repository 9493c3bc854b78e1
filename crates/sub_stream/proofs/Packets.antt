-- Packets in a buffer: what is joined, one more, and decrypted.
use Rattle.std.proofs.Common.{◌≡◌, ℕ, ◌+◌, ◌-◌, ◌<◌, ◌≤◌, zero, suc, List, [], ◌∷◌, ◌++◌, length, map, take, drop}
use Rattle.std.proofs.Common.{get_or, Some, refl, sym, ap, ◌∙◌, arith}
use Rattle.std.specs.List.{slice_get}
use Rattle.std.proofs.Math.ListN.{set}
use Rattle.std.proofs.Math.Seq.{take-append_seam, drop-append_seam}
use Rattle.std.proofs.lemmas.List.{length-map}
use Rattle.std.proofs.lemmas.List.Sums.{sum_by-cons}
use Rattle.std.proofs.lemmas.Grind.{common_steps}
use Rattle.gcm_seal.specs.Gcm.{masked_bytes}
use Rattle.gcm_seal.proofs.Sealing.{masked_bytes-append, length-masked_bytes}
use Rattle.ide_prefix.specs.declared.packet.Prefix.{Prefix}
use Rattle.ide_prefix.specs.Packet.{Packet, prefix_bytes}
use Rattle.ide_prefix.specs.Units.{clear_bytes, authenticated_bytes, encrypted_bytes}
use Rattle.spec_stream.specs.Stream.{posted_sum}
use Rattle.ide_prefix.specs.{heads_of, bodies_of, overwritten_bytes, packets_with_bodies}
use Rattle.sub_stream.specs.Gathered.{packets_of_prefixes, parts_of, opened_from_byte}

abbrev pub Parts : Type 0
Parts = List ℕ × List ℕ

-- ---- joined

pub heads-parts : (ps : List Packet) → heads_of (map parts_of ps) ≡ authenticated_bytes ps
heads-parts [] = refl
heads-parts (p ∷ ps) = ap (λ x. clear_bytes p ++ x) (heads-parts ps)

pub bodies-parts : (ps : List Packet) → bodies_of (map parts_of ps) ≡ encrypted_bytes ps
bodies-parts [] = refl
bodies-parts (p ∷ ps) = ap (λ x. p.body ++ x) (bodies-parts ps)

pub heads_in : (xs : List Parts) (ps : List Prefix) → map parts_of (packets_of_prefixes xs ps) ≡ xs → heads_of xs
    ≡ authenticated_bytes (packets_of_prefixes xs ps)
heads_in xs ps e = ap heads_of (sym e) ∙ heads-parts (packets_of_prefixes xs ps)

pub bodies_in : (xs : List Parts) (ps : List Prefix) → map parts_of (packets_of_prefixes xs ps) ≡ xs → bodies_of xs
    ≡ encrypted_bytes (packets_of_prefixes xs ps)
bodies_in xs ps e = ap bodies_of (sym e) ∙ bodies-parts (packets_of_prefixes xs ps)

pub length-packets_of_prefixes : (xs : List Parts) (ps : List Prefix) → map parts_of (packets_of_prefixes xs ps) ≡ xs
    → length (packets_of_prefixes xs ps) ≡ length xs
length-packets_of_prefixes xs ps e = sym (length-map (packets_of_prefixes xs ps) parts_of) ∙ ap length e

-- ---- one more

pub packets-added : (xs : List Parts) (ps : List Prefix) (p : Prefix) (h b : List ℕ) → length xs < length ps
    → packets_of_prefixes (xs ++ (prefix_bytes p ++ h, b) ∷ []) (set ps (length xs) p) ≡ packets_of_prefixes xs ps
    ++ record { prefix = p; head = h; body = b; tag = [] } ∷ []
packets-added [] [] p h b lt = absurd (omega arith)
packets-added [] (q ∷ ps) p h b lt = refl
packets-added (x ∷ xs) [] p h b lt = absurd (omega arith)
packets-added (x ∷ xs) (q ∷ ps) p h b lt =
    let less : length xs < length ps = omega arith in
    ap (λ y. record { prefix = q; head = drop 4 x.0; body = x.1; tag = [] } ∷ y) (packets-added xs ps p h b less)

-- ---- decrypted

pub length-packets_with_bodies : (xs : List Parts) (bytes : List ℕ) → length (packets_with_bodies xs bytes) ≡ length xs
length-packets_with_bodies [] bytes = refl
length-packets_with_bodies (x ∷ xs) bytes = ap (λ n. suc n) (length-packets_with_bodies xs (drop (length x.1) bytes))

pub posted-cons : (p : Packet) (ps : List Packet) → posted_sum (p ∷ ps) ≡ p.prefix.posted + posted_sum ps
posted-cons p ps = sum_by-cons (λ (x : Packet). x.prefix.posted) p ps

pub posted-packets_with_bodies : (xs : List Parts) (ps : List Prefix) (bytes : List ℕ)
    → posted_sum (packets_of_prefixes (packets_with_bodies xs bytes) ps) ≡ posted_sum (packets_of_prefixes xs ps)
posted-packets_with_bodies [] ps bytes = refl
posted-packets_with_bodies (x ∷ xs) [] bytes = refl
posted-packets_with_bodies (x ∷ xs) (p ∷ ps) bytes =
    let q : List ℕ → Packet = λ b. record { prefix = p; head = drop 4 x.0; body = b; tag = [] } in
    posted-cons (q (take (length x.1) bytes))
    (packets_of_prefixes (packets_with_bodies xs (drop (length x.1) bytes)) ps)
    ∙ ap (λ n. p.posted + n) (posted-packets_with_bodies xs ps (drop (length x.1) bytes))
    ∙ sym (posted-cons (q x.1) (packets_of_prefixes xs ps))

pub parts-packets_with_bodies : (xs : List Parts) (ps : List Prefix) (bytes : List ℕ)
    → map parts_of (packets_of_prefixes xs ps) ≡ xs
    → map parts_of (packets_of_prefixes (packets_with_bodies xs bytes) ps) ≡ packets_with_bodies xs bytes
parts-packets_with_bodies [] ps bytes e = refl
parts-packets_with_bodies (x ∷ xs) [] bytes e = absurd (cc)
parts-packets_with_bodies (x ∷ xs) (p ∷ ps) bytes e =
    let rest : map parts_of (packets_of_prefixes xs ps) ≡ xs = cc in
    let first : parts_of (record { prefix = p; head = drop 4 x.0; body = x.1; tag = [] }) ≡ x = cc in
    let head : prefix_bytes p ++ drop 4 x.0 ≡ x.0 = ap (λ (y : Parts). y.0) first in
    λ i. (head i, take (length x.1) bytes) ∷ parts-packets_with_bodies xs ps (drop (length x.1) bytes) rest i

cut_front : (a b : List ℕ) (n : ℕ) → n ≡ length a → take n (a ++ b) ≡ a
cut_front a b n e = rw e (take-append_seam a b)

cut_back : (a b : List ℕ) (n : ℕ) → n ≡ length a → drop n (a ++ b) ≡ b
cut_back a b n e = rw e (drop-append_seam a b)

pub opened_packets-packets_with_bodies : (key iv : List ℕ) (n : ℕ) (xs : List Parts) (ps : List Prefix)
    → packets_of_prefixes (packets_with_bodies xs (masked_bytes key iv n (bodies_of xs))) ps
    ≡ opened_from_byte key iv n (packets_of_prefixes xs ps)
opened_packets-packets_with_bodies key iv n [] ps = refl
opened_packets-packets_with_bodies key iv n (x ∷ xs) [] = refl
opened_packets-packets_with_bodies key iv n (x ∷ xs) (p ∷ ps) =
    let both = masked_bytes-append key iv n x.1 (bodies_of xs) in
    let a = masked_bytes key iv n x.1 in
    let b = masked_bytes key iv (n + length x.1) (bodies_of xs) in
    let la : length x.1 ≡ length a = sym (length-masked_bytes key iv n x.1) in
    let front : take (length x.1) (masked_bytes key iv n (x.1 ++ bodies_of xs))
    ≡ a = rw both (cut_front a b (length x.1) la) in
    let back : drop (length x.1) (masked_bytes key iv n (x.1 ++ bodies_of xs))
    ≡ b = rw both (cut_back a b (length x.1) la) in
    (λ i. record { prefix = p; head = drop 4 x.0; body = front i; tag = [] }
    ∷ packets_of_prefixes (packets_with_bodies xs (back i)) ps)
    ∙ ap (λ y. record { prefix = p; head = drop 4 x.0; body = a; tag = [] } ∷ y)
    (opened_packets-packets_with_bodies key iv (n + length x.1) xs ps)

pub overwritten_bytes-all : (old new : List ℕ) → length new ≡ length old → overwritten_bytes old new ≡ new
overwritten_bytes-all old new e = grind (arith, common_steps)

-- ---- lent

pub clear_long : (xs : List Parts) (ps : List Prefix) (i : ℕ) (clear body : List ℕ)
    → map parts_of (packets_of_prefixes xs ps) ≡ xs → slice_get xs i ≡ Some (clear, body) → 4 ≤ length clear
clear_long [] ps i clear body e at = absurd (cc)
clear_long (x ∷ xs) [] i clear body e at = absurd (cc)
clear_long (x ∷ xs) (p ∷ ps) zero clear body e at =
    let first : parts_of (record { prefix = p; head = drop 4 x.0; body = x.1; tag = [] }) ≡ x = cc in
    let same : x ≡ (clear, body) = cc in
    let head : prefix_bytes p ++ drop 4 x.0 ≡ clear = ap (λ (y : Parts). y.0) (first ∙ same) in
    omega (arith, ap length head)
clear_long (x ∷ xs) (p ∷ ps) (suc i) clear body e at =
    let rest : map parts_of (packets_of_prefixes xs ps) ≡ xs = cc in
    clear_long xs ps i clear body rest at

packet_of : (xs : List Parts) (ps : List Prefix) (i : ℕ) (clear body : List ℕ) (d : Prefix)
    → map parts_of (packets_of_prefixes xs ps) ≡ xs → slice_get xs i ≡ Some (clear, body)
    → slice_get (packets_of_prefixes xs ps) i
    ≡ Some (record { prefix = get_or ps i d; head = drop 4 clear; body = body; tag = [] })
packet_of [] ps i clear body d e at = absurd (cc)
packet_of (x ∷ xs) [] i clear body d e at = absurd (cc)
packet_of (x ∷ xs) (p ∷ ps) zero clear body d e at =
    let same : x ≡ (clear, body) = cc in
    ap (λ (y : Parts). Some (record { prefix = p; head = drop 4 y.0; body = y.1; tag = [] })) same
packet_of (x ∷ xs) (p ∷ ps) (suc i) clear body d e at =
    let rest : map parts_of (packets_of_prefixes xs ps) ≡ xs = cc in
    packet_of xs ps i clear body d rest at

whole_rest : (s : List ℕ) → take (length s - 4) (drop 4 s) ≡ drop 4 s
whole_rest s = grind (arith, common_steps)

pub packet_at : (xs : List Parts) (ps : List Prefix) (i : ℕ) (clear body : List ℕ) (d : Prefix)
    → map parts_of (packets_of_prefixes xs ps) ≡ xs → slice_get xs i ≡ Some (clear, body)
    → slice_get (packets_of_prefixes xs ps) i
    ≡ Some (record { prefix = get_or ps i d; head = take (length clear - 4) (drop 4 clear); body = body; tag = [] })
packet_at xs ps i clear body d e at =
    packet_of xs ps i clear body d e at
    ∙ ap (λ (head : List ℕ). Some (record { prefix = get_or ps i d; head = head; body = body; tag = [] }))
    (sym (whole_rest clear))
