-- What the rules of sealing tell of one send.
use Rattle.spec_links.proofs.Terms.{Bool, List, None, Option, Some, [], arith, false, length, refl, true, ℕ, ◌++◌, ◌+◌}
use Rattle.spec_links.proofs.Terms.{◌∷◌, ◌≡◌, nat_tests, is_none, Cpl, Npr, Pr, is_same_sub, Lanes, Sending}
use Rattle.spec_links.proofs.Terms.{described_seal, ends_unit, first_that_holds, is_keyless, needs_sync}
use Rattle.spec_links.proofs.Terms.{sealed_with_syncs, sets_trusted, KeyName, lesser, sub_stream_of, is_same, lane_out}
use Rattle.spec_links.proofs.Terms.{Keyed, On, PortName, SealedPacket, SubKind, Verdict, if◌then◌else◌, key_in, ◌&&◌}
use Rattle.spec_links.proofs.Tests.{same_sub}

-- ---- no refusal holds

abbrev pub AreFalse : List (Bool × Verdict) → Type 0
AreFalse [] = Unit {0}
AreFalse (x ∷ xs) = (x.0 ≡ false) × AreFalse xs

pub none_holds : (xs : List (Bool × Verdict)) → first_that_holds xs ≡ None → AreFalse xs
none_holds [] is = tt
none_holds ((true, w) ∷ xs) is = absurd cc
none_holds ((false, w) ∷ xs) is = (refl, none_holds xs is)

-- a sub-stream that seals has a key
pub record HasKey (x : Lanes) (u : SubKind) : Type 0 where
  pub key : KeyName
  pub is : (x.lane u).key ≡ Some key

pub has_key : (x : Lanes) (u : SubKind) → is_keyless x u ≡ false → HasKey x u
has_key x u keyed = by_key (x.lane u).key refl keyed
  where
    by_key : (o : Option KeyName) → (x.lane u).key ≡ o → is_none o ≡ false → HasKey x u
    by_key None is keyed = absurd cc
    by_key (Some key) is keyed = record { key = key; is = is }

pub and_false : (a b : Bool) → (a && b) ≡ false → a ≡ true → b ≡ false
and_false a b is here = grind arith

-- ---- what is sealed fits

-- the key that seals is On in its set
pub on_live : (a b : Keyed) (key : KeyName) → lesser a b ≡ Some key → key_in (record { first = a; second = b }) key.k
    ≡ On key.draw
on_live a b key is = grind (arith, nat_tests)

-- the list by what needs a sync packet
unfoldable pub listed_seals : Lanes → Sending → ℕ → Bool → Bool → List SealedPacket
listed_seals x s number n c =
    let first = if n then described_seal x s Npr number true false true ∷ [] else [] in
    let second = if c then described_seal x s Cpl (number + length first) true false true ∷ [] else [] in
    first ++ second ++ described_seal x s s.class (number + length first + length second) (ends_unit x s)
    (sets_trusted s.port s.trusted) false ∷ []

pub sealed_by_is : (x : Lanes) (s : Sending) (number : ℕ) → sealed_with_syncs x s number
    ≡ listed_seals x s number (needs_sync x s.class Npr) (needs_sync x s.class Cpl)
unfolding listed_seals
sealed_by_is x s number = refl

pub needs_posted : (x : Lanes) (class u : SubKind) → needs_sync x class u ≡ true → class ≡ Pr
needs_posted x class u needs = same_sub class Pr (grind arith)

pub lane_is : (port : PortName) (stream : ℕ) (d : SealedPacket) → d.port ≡ port → d.stream ≡ stream → sub_stream_of d
    ≡ lane_out port stream d.sub
lane_is port stream d port_is stream_is = λ i. lane_out (port_is i) (stream_is i) d.sub

-- whether it is of the port's sub-stream
pub in_lane : (port : PortName) (stream : ℕ) (d : SealedPacket) (x : SubKind) → d.port ≡ port → d.stream ≡ stream
    → is_same (sub_stream_of d) (lane_out port stream x) ≡ is_same_sub d.sub x
in_lane port stream d x port_is stream_is = grind (arith, nat_tests)

-- all fit, each in a sub-stream of its own
abbrev pub AreOther : SubKind → List SealedPacket → Type 0
AreOther u [] = Unit {0}
AreOther u (d ∷ ds) = (is_same_sub u d.sub ≡ false) × AreOther u ds
