-- The part of a unit's plaintext that is a packet's payload.
use Rattle.law_sealing.proofs.Terms.{◌≡◌, ℕ, ◌+◌, ◌≤◌, zero, suc, List, [], ◌∷◌, ◌++◌, length, length-append, slice_get}
use Rattle.law_sealing.proofs.Terms.{take, drop, Option, Some, refl, ap, sym, subst, ◌∙◌, arith, append_assoc}
use Rattle.law_sealing.proofs.Terms.{take-append-le, Plan, Packet, encrypted_bytes, masked_bytes}
use Rattle.law_sealing.proofs.Terms.{masked_bytes-masked_bytes, masked_bytes-append, length-masked_bytes, open_of}
use Rattle.law_sealing.proofs.Terms.{IsFront, PortName, UnitName}
use Rattle.trusted_memory.specs.Writes.{Write}
use Rattle.spec_links.specs.Memory.{Grants, write_if_admitted, admitted_each}

-- ---- lists

pub take-behind : {A : Type 0} (xs ys zs : List A) (n : ℕ) → n ≤ length ys
    → take (length xs + n) ((xs ++ ys) ++ zs) ≡ xs ++ take n ys
take-behind [] ys zs n le = let e : 0 + n ≡ n = omega arith in rw e (take-append-le n ys zs le)
take-behind (x ∷ xs) ys zs n le =
    let e : suc (length xs) + n ≡ suc (length xs + n) = omega arith in
    rw e (ap (λ us. x ∷ us) (take-behind xs ys zs n le))

drop-none : {A : Type 0} (n : ℕ) → drop {A = A} n [] ≡ []
drop-none zero = refl
drop-none (suc n) = refl

drop-drop : {A : Type 0} (m n : ℕ) (xs : List A) → drop n (drop m xs) ≡ drop (m + n) xs
drop-drop zero n xs = let e : 0 + n ≡ n = omega arith in rw e refl
drop-drop (suc m) n [] = let e : suc m + n ≡ suc (m + n) = omega arith in rw e (drop-none n)
drop-drop (suc m) n (x ∷ xs) = let e : suc m + n ≡ suc (m + n) = omega arith in rw e (drop-drop m n xs)

drop-behind : {A : Type 0} (xs ys : List A) → drop (length xs) (xs ++ ys) ≡ ys
drop-behind [] ys = refl
drop-behind (x ∷ xs) ys = drop-behind xs ys

take-front : {A : Type 0} (xs ys : List A) → take (length xs) (xs ++ ys) ≡ xs
take-front [] ys = refl
take-front (x ∷ xs) ys = ap (λ us. x ∷ us) (take-front xs ys)

middle : {A : Type 0} (first payload back : List A) (n k : ℕ) → length first ≡ n → k ≡ length payload
    → take k (drop n (first ++ (payload ++ back))) ≡ payload
middle first payload back n k size long = (λ i. take (long i) (drop (sym size i) (first ++ (payload ++ back))))
    ∙ (ap (take (length payload)) (drop-behind first (payload ++ back)) ∙ take-front payload back)

pub front_take : (us : List Packet) (z : Packet) (n : ℕ) → IsFront us → n ≤ length us → IsFront (take n (us ++ z ∷ []))
front_take us z zero front le = tt
front_take [] z (suc n) front le = absurd (omega (arith, le))
front_take (u ∷ us) z (suc n) front le = (front.0, front_take us z n front.1 (omega (arith, le)))

-- ---- the part of a packet

abbrev pub part_at : List ℕ → List Packet → ℕ → Packet → List ℕ
part_at plain ps n p = take (length p.body) (drop (length (encrypted_bytes (take n ps))) plain)

-- of what is masked in parts, each opens to its own
pub part_opens : (key iv : List ℕ) (ps : List Packet) (n : ℕ) (p : Packet) (payload : List ℕ)
    → slice_get ps n ≡ Some p → p.body ≡ masked_bytes key iv (length (encrypted_bytes (take n ps))) payload
    → part_at (open_of key iv (encrypted_bytes ps)) ps n p ≡ payload
unfolding open_of
part_opens key iv ps n p payload at body =
    let front = encrypted_bytes (take n ps) in
    let split = split_at ps n p at in
    let first = masked_bytes key iv 0 front in
    let size : length first ≡ length front = length-masked_bytes key iv 0 front in
    let off : 0 + length front ≡ length front = omega arith in
    let back = masked_bytes key iv (length front + length p.body) split.0 in
    let open_is : masked_bytes key iv 0 (encrypted_bytes ps) ≡ first ++ (payload ++ back) =
    ap (masked_bytes key iv 0) split.1
    ∙ (masked_bytes-append key iv 0 front (p.body ++ split.0)
    ∙ ap (λ bs. first ++ bs) (rw off (masked_bytes-append key iv (length front) p.body split.0
    ∙ ap (λ bs. bs ++ back) (ap (masked_bytes key iv (length front)) body
    ∙ masked_bytes-masked_bytes key iv (length front) payload)))) in
    let long : length p.body ≡ length payload = ap length body ∙ length-masked_bytes key iv (length front) payload in
    ap (λ bs. take (length p.body) (drop (length front) bs)) open_is
    ∙ middle first payload back (length front) (length p.body) size long
  where
    split_at : (ps : List Packet) (n : ℕ) (p : Packet) → slice_get ps n ≡ Some p
        → (rest : List ℕ) × (encrypted_bytes ps ≡ encrypted_bytes (take n ps) ++ (p.body ++ rest))
    split_at [] n p at = absurd cc
    split_at (q ∷ ps) zero p at =
        let same : q ≡ p = cc (at) in
        (encrypted_bytes ps, ap (λ (z : Packet). z.body ++ encrypted_bytes ps) same)
    split_at (q ∷ ps) (suc n) p at =
        let later = split_at ps n p at in (
          later.0,
          ap (λ bs. q.body ++ bs) later.1 ∙ sym
              (append_assoc q.body (encrypted_bytes (take n ps)) (p.body ++ later.0)),
        )

-- what is admitted of packet n of a unit is admitted of its part
pub part_admitted : (plan : Plan) (grants : Grants) (port : PortName) (unit : UnitName) (plain : List ℕ)
    (ps : List Packet) (n : ℕ) (p : Packet) (o : Option Write)
    → slice_get (admitted_each plan grants port unit plain ps) n ≡ Some o → slice_get ps n ≡ Some p
    → write_if_admitted plan grants port unit p (part_at plain ps n p) ≡ o
part_admitted plan grants port unit plain [] n p o is at = absurd cc
part_admitted plan grants port unit plain (q ∷ ps) zero p o is at =
    let same : q ≡ p = cc (at) in
    subst (λ (z : Packet). write_if_admitted plan grants port unit z (take (length z.body) plain) ≡ o) same (cc (is))
part_admitted plan grants port unit plain (q ∷ ps) (suc n) p o is at =
    let later = part_admitted plan grants port unit (drop (length q.body) plain) ps n p o is at in
    let size : length (q.body ++ encrypted_bytes (take n ps)) ≡ length q.body + length (encrypted_bytes (take n ps)) =
    length-append q.body (encrypted_bytes (take n ps)) in
    let part : take (length p.body) (drop (length (encrypted_bytes (take n ps))) (drop (length q.body) plain))
    ≡ take (length p.body) (drop (length (q.body ++ encrypted_bytes (take n ps))) plain) =
    ap (take (length p.body)) (drop-drop (length q.body) (length (encrypted_bytes (take n ps))) plain
    ∙ ap (λ (k : ℕ). drop k plain) (sym size)) in
    ap (write_if_admitted plan grants port unit p) (sym part) ∙ later
