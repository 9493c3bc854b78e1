-- The walks over what was sealed, one packet at a time, as the loops take them; and bytes that are those of a packet.
use Rattle.std.proofs.Common.{◌≡◌, ◌≢◌, ℕ, zero, suc, ◌+◌, ◌-◌, ◌==◌, ◌<◌, ◌≤◌, Bool, true, false, List, [], ◌∷◌, ◌++◌}
use Rattle.std.proofs.Common.{length, refl, sym, ap, ◌∙◌, arith, drop, Option, Some, None, Result, Ok}
use Rattle.std.proofs.Common.{Err}
use Rattle.std.proofs.lemmas.Bool.{ne_eqb}
use Rattle.std.proofs.lemmas.List.{append_cancel_left}
use Rattle.std.specs.Bool.{Decides, one_answer}
use denote.Ref.{Bor}
use Rattle.std.specs.Prelude.{IfOk, MatchOption, if◌then◌else◌, nat_eq, nat_lt, not, slice_get, slice_index_or}
use Rattle.std.specs.Cmp.Lexicographic.{bytes_decides, pointwise}
use Rattle.ide_types.specs.{Text}
use Rattle.ide_types.specs.declared.port.Side.TheVariants.{Host}
use Rattle.ide_types.specs.declared.sub.SubKind.TheVariants.{Pr}
use Rattle.event_verdicts.specs.declared.verdict.SealedPacket.{SealedPacket}
use Rattle.ide_prefix.specs.Packet.{Packet, packet_bytes}
use Rattle.machine_ports.specs.Machine.{LinkPacket, packet_numbered}
use Rattle.spec_links.specs.Plan.{SubStream}
use Rattle.rule_counts.specs.Lines.{count_lines}
use Rattle.rule_counts.specs.Units.{is_described_under, is_first, is_last, is_unit_after}

-- ---- lists

one_on : (i : ℕ) → suc i + 1 ≡ suc (i + 1)
one_on i = omega arith

pub next_at : {A : Type 0} (xs : List A) (i : ℕ) (x : A) → slice_get xs i ≡ Some x → drop i xs ≡ x ∷ drop (i + 1) xs
next_at [] i x is = absurd cc
next_at (y ∷ xs) zero x is = let same : y ≡ x = cc in ap (λ z. z ∷ xs) same
next_at (y ∷ xs) (suc i) x is =
    next_at xs i x is ∙ ap (λ (n : ℕ). x ∷ drop n (y ∷ xs)) (sym (one_on i))

pub none_at : {A : Type 0} (xs : List A) (i : ℕ) → slice_get xs i ≡ None → drop i xs ≡ []
none_at [] zero is = refl
none_at [] (suc i) is = refl
none_at (y ∷ xs) zero is = absurd cc
none_at (y ∷ xs) (suc i) is = none_at xs i is

pub none_left : {A : Type 0} (xs : List A) (i : ℕ) → length xs ≤ i → drop i xs ≡ []
none_left [] zero le = refl
none_left [] (suc i) le = refl
none_left (y ∷ xs) zero le = absurd (omega (arith, le))
none_left (y ∷ xs) (suc i) le = none_left xs i (omega (arith, le))

pub dropped_more : {A : Type 0} (xs : List A) (i : ℕ) → drop 1 (drop i xs) ≡ drop (i + 1) xs
dropped_more [] zero = refl
dropped_more [] (suc i) = ap (λ (n : ℕ). drop n []) (sym (one_on i))
dropped_more (y ∷ xs) zero = refl
dropped_more (y ∷ xs) (suc i) = dropped_more xs i ∙ ap (λ (n : ℕ). drop n (y ∷ xs)) (sym (one_on i))

-- what stands in place of a packet past the last
abbrev pub none_described : SealedPacket
none_described = record {
  number = 0;
  port = record { side = Host; line = 0 };
  stream = 0;
  sub = Pr;
  draw = 0;
  unit = 0;
  m = false;
  k = false;
  t = false;
  posted = 0;
  sync = false;
}

pub index_at : {A : Type 0} (xs : List A) (i : ℕ) (d : A) → i < length xs → slice_get xs i
    ≡ Some (slice_index_or xs i d)
index_at [] i d less = absurd (omega (arith, less))
index_at (y ∷ xs) zero d less = refl
index_at (y ∷ xs) (suc i) d less = index_at xs i d (omega (arith, less))

pub numbered_at : (ps : List LinkPacket) (i : ℕ) → packet_numbered ps (i + 1) ≡ slice_get ps i
numbered_at ps i =
    let some : (i + 1 == 0) ≡ false = ne_eqb (i + 1) 0 (λ none. omega (arith, none)) in
    let one : i + 1 - 1 ≡ i = omega arith in
    rw (some, one) refl

-- ---- units

module _ (s : SubStream) (j left : ℕ) (ps : List Packet) (ds : List SealedPacket) (kept : List LinkPacket) (i : ℕ) where
  pub none_kept : slice_get kept i ≡ None → is_unit_after s j left ps (drop i ds) (drop i kept) ≡ false
  none_kept none = ap (is_unit_after s j left ps (drop i ds)) (none_at kept i none) ∙ by (drop i ds)
    where
      by : (ds : List SealedPacket) → is_unit_after s j left ps ds [] ≡ false
      by [] = refl
      by (d ∷ ds) = refl

  -- one packet further
  pub one_kept : (d : SealedPacket) (q : LinkPacket) → slice_get ds i ≡ Some d → slice_get kept i ≡ Some q
      → is_unit_after s j left ps (drop i ds) (drop i kept)
      ≡ (if not (is_described_under s j d) then is_unit_after s j left ps (drop (i + 1) ds) (drop (i + 1) kept)
      else if nat_lt 0 left
      then is_unit_after s j (if d.m then left - 1 else left) ps (drop (i + 1) ds) (drop (i + 1) kept)
      else if not (is_first ps q.bytes) then false
      else if d.m then is_last ps
      else is_unit_after s j 0 (drop 1 ps) (drop (i + 1) ds) (drop (i + 1) kept))
  one_kept d q at also = λ k. is_unit_after s j left ps (next_at ds i d at k) (next_at kept i q also k)

module _ (s : SubStream) (j left : ℕ) (ps : List Packet) (ds : List SealedPacket) (kept : List LinkPacket) (i : ℕ)
    (d : SealedPacket) (q : LinkPacket) (at : slice_get ds i ≡ Some d) (also : slice_get kept i ≡ Some q)
  where
    abbrev here : Bool
    here = is_unit_after s j left ps (drop i ds) (drop i kept)

    abbrev later : ℕ → List Packet → Bool
    later n qs = is_unit_after s j n qs (drop (i + 1) ds) (drop (i + 1) kept)

    abbrev chosen : (under before first ends : Bool) → Bool
    chosen under before first ends =
        if not under then later left ps
        else if before then later (if ends then left - 1 else left) ps
        else if not first then false
        else if ends then is_last ps
        else later 0 (drop 1 ps)

    step : here ≡ chosen (is_described_under s j d) (nat_lt 0 left) (is_first ps q.bytes) d.m
    step = one_kept s j left ps ds kept i d q at also

    pub passed_over : is_described_under s j d ≡ false → here ≡ later left ps
    passed_over under = step ∙ (λ k. chosen (under k) (nat_lt 0 left) (is_first ps q.bytes) d.m)

    pub ended_before : is_described_under s j d ≡ true → nat_lt 0 left ≡ true → d.m ≡ true → here ≡ later (left - 1) ps
    ended_before under before ends = step ∙ (λ k. chosen (under k) (before k) (is_first ps q.bytes) (ends k))

    pub went_before : is_described_under s j d ≡ true → nat_lt 0 left ≡ true → d.m ≡ false → here ≡ later left ps
    went_before under before goes = step ∙ (λ k. chosen (under k) (before k) (is_first ps q.bytes) (goes k))

    pub is_another : is_described_under s j d ≡ true → nat_lt 0 left ≡ false → is_first ps q.bytes ≡ false
        → here ≡ false
    is_another under none other = step ∙ (λ k. chosen (under k) (none k) (other k) d.m)

    pub ends_here : is_described_under s j d ≡ true → nat_lt 0 left ≡ false → is_first ps q.bytes ≡ true → d.m ≡ true
        → here ≡ is_last ps
    ends_here under none first ends = step ∙ (λ k. chosen (under k) (none k) (first k) (ends k))

    pub went_on : is_described_under s j d ≡ true → nat_lt 0 left ≡ false → is_first ps q.bytes ≡ true → d.m ≡ false
        → here ≡ later 0 (drop 1 ps)
    went_on under none first goes = step ∙ (λ k. chosen (under k) (none k) (first k) (goes k))

-- ---- the packets of a unit

pub first_held : (ps : List Packet) (last : Packet) (i : ℕ) (p : Packet) (bytes : List ℕ) → slice_get ps i ≡ Some p
    → is_first (drop i (ps ++ last ∷ [])) bytes ≡ pointwise nat_eq (packet_bytes p) bytes
first_held [] last i p bytes is = absurd cc
first_held (r ∷ ps) last zero p bytes is =
    let same : r ≡ p = cc in ap (λ (x : Packet). pointwise nat_eq (packet_bytes x) bytes) same
first_held (r ∷ ps) last (suc i) p bytes is = first_held ps last i p bytes is

pub first_last : (ps : List Packet) (last : Packet) (i : ℕ) (bytes : List ℕ) → i ≡ length ps
    → is_first (drop i (ps ++ last ∷ [])) bytes ≡ pointwise nat_eq (packet_bytes last) bytes
first_last [] last zero bytes is = refl
first_last [] last (suc i) bytes is = absurd (omega (arith, is))
first_last (r ∷ ps) last zero bytes is = absurd (omega (arith, is))
first_last (r ∷ ps) last (suc i) bytes is = first_last ps last i bytes (omega (arith, is))

pub spelled_is : (p : Packet) (bytes : List ℕ) (b : Bool) → Decides b (packet_bytes p ≡ bytes)
    → b ≡ pointwise nat_eq (packet_bytes p) bytes
spelled_is p bytes b decides = one_answer b (pointwise nat_eq (packet_bytes p) bytes) decides
    (bytes_decides (packet_bytes p) bytes)

-- ---- bytes that are four parts

pub no_first : (a rest bytes : List ℕ) → ((r : List ℕ) → a ++ r ≢ bytes) → Decides false (a ++ rest ≡ bytes)
no_first a rest bytes none = (λ no. absurd cc, λ is. absurd (none rest is))

-- if the first part is there, the rest decides
pub behind_first : (a rest more bytes : List ℕ) (b : Bool) → a ++ more ≡ bytes → Decides b (rest ≡ more)
    → Decides b (a ++ rest ≡ bytes)
behind_first a rest more bytes b is decides = (
  λ so. ap (λ (r : List ℕ). a ++ r) (decides.0 so) ∙ is,
  λ same. decides.1 (append_cancel_left a rest more (same ∙ sym is)),
)

-- ---- lines of counts

pub no_counts : (rules : List Text) → count_lines rules [] ≡ []
no_counts [] = refl
no_counts (rule ∷ rules) = refl

-- ---- results

pub if_ok : {A E : Type 0} {P Q : A → Type 0} (r : Result A E) → ((x : A) → P x → Q x) → IfOk r P → IfOk r Q
if_ok (Ok x) f holds = f x holds
if_ok (Err e) f holds = tt

-- ---- the last part

pub last_decides : (rest tag : List ℕ) (b : Bool) → b ≡ pointwise nat_eq rest tag → Decides b (tag ≡ rest)
last_decides rest tag b is = (
  λ so. sym ((bytes_decides rest tag).0 (sym is ∙ so)),
  λ same. is ∙ (bytes_decides rest tag).1 (sym same),
)

pub turned : (s p : List ℕ) (r : Option (Bor (List ℕ))) → MatchOption r ((rest : List ℕ) → s ≢ p ++ rest)
    (λ x. s ≡ p ++ x.now)
    → MatchOption r ((rest : List ℕ) → p ++ rest ≢ s) (λ x. p ++ x.now ≡ s)
turned s p None none = λ rest is. none rest (sym is)
turned s p (Some x) is = sym is
