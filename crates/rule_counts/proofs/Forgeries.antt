-- The count of forgeries is 0 exactly if none was made: each test decides what the law says of one arrival.
use Rattle.std.proofs.Common.{◌≡◌, ℕ, zero, suc, ◌+◌, ◌-◌, ◌==◌, ◌&&◌, Bool, true, false, List, [], ◌∷◌, Option, Some}
use Rattle.std.proofs.Common.{None, Result, Ok, Err, ◌≤◌, length, refl, sym, ap, ◌∙◌, arith}
use Rattle.std.proofs.lemmas.Bool.{and_parts, ne_eqb}
use Rattle.std.specs.Prelude.{if◌then◌else◌, nat_eq, not, slice_get}
use Rattle.std.specs.Cmp.Lexicographic.{bytes_decides, pointwise}
use Rattle.ide_types.specs.declared.port.PortName.{PortName}
use Rattle.ide_types.specs.declared.plan.Plan.{Plan}
use Rattle.ide_prefix.specs.Packet.{Packet}
use Rattle.ide_prefix.specs.{authenticated_bytes, encrypted_bytes}
use Rattle.script_events.specs.declared.event.Event.{Event}
use Rattle.event_verdicts.specs.declared.verdict.Verdict.{Verdict}
use Rattle.spec_keys.specs.History.{History}
use Rattle.spec_links.specs.Units.{units}
use Rattle.spec_links.specs.History.{ArrivedBytes, arrival_of_event, received_in, sent_packets}
use Rattle.spec_links.specs.Due.{Ending, before_tag, is_verified, unit_packets_ended}
use Rattle.spec_links.specs.Laws.{NotForged, WasSealed, last_tag}
use Rattle.rule_counts.specs.Forged.{forged_at, is_forged_arrival, is_forged_ending, is_partners, is_same_ahead}
use Rattle.rule_counts.specs.Forged.{is_unit_ended, partner_unit, was_sealed}
unfoldable use Rattle.rule_counts.specs.Forged.{forged_count}
use Rattle.rule_counts.specs.Laws.{ForgeriesAreCounted}

-- ---- the unit of a number

unit_numbered : ℕ → List (List Packet) → Option (List Packet)
unit_numbered n us = if n == 0 then None else slice_get us (n - 1)

found : (n : ℕ) (us : List (List Packet)) (u : List Packet) → unit_numbered n us ≡ Some u
    → (k : ℕ) × (k + 1 ≡ n) × (slice_get us k ≡ Some u)
unfolding unit_numbered
found zero us u is = absurd cc
found (suc n) us u is =
    let some : (suc n == 0) ≡ false = ne_eqb (suc n) 0 (λ none. omega (arith, none)) in
    let one : suc n - 1 ≡ n = omega arith in
    (n, omega arith, rw (some, one) at is)

there : (n k : ℕ) (us : List (List Packet)) (u : List Packet) → k + 1 ≡ n → slice_get us k ≡ Some u
    → unit_numbered n us ≡ Some u
unfolding unit_numbered
there zero k us u number is = absurd (omega (arith, number))
there (suc n) k us u number is =
    let some : (suc n == 0) ≡ false = ne_eqb (suc n) 0 (λ none. omega (arith, none)) in
    let one : suc n - 1 ≡ k = omega (arith, number) in
    rw (some, one) is

-- ---- whether it was sealed

both : (a b : Bool) → a ≡ true → b ≡ true → (a && b) ≡ true
both a b first second = rw (first, second) refl

module _ (plan : Plan) (h : History) (port : PortName) (x : Ending) where
  abbrev us : List (List Packet)
  us = units (sent_packets plan h (received_in port x.unit) x.unit.draw)

  abbrev clear : List ℕ
  clear = authenticated_bytes (unit_packets_ended plan h port x)

  abbrev cipher : List ℕ
  cipher = encrypted_bytes (unit_packets_ended plan h port x)

  sealed_by : (o : Option (List Packet)) → partner_unit plan h port x ≡ o → is_partners plan h port x o ≡ true
      → is_same_ahead plan h port x ≡ true → WasSealed plan h port x
  unfolding unit_numbered
  sealed_by None at is ahead = absurd cc
  sealed_by (Some u) at is ahead =
      let place = found x.unit.unit us u at in
      let last = and_parts
      (pointwise nat_eq (authenticated_bytes u) clear && pointwise nat_eq (encrypted_bytes u) cipher)
      (pointwise nat_eq (last_tag u) x.packet.tag) is in
      let first = and_parts (pointwise nat_eq (authenticated_bytes u) clear)
      (pointwise nat_eq (encrypted_bytes u) cipher) last.0 in
      record {
        unit = u;
        place = place.0;
        numbered = place.1;
        finished = place.2;
        same_authenticated = (bytes_decides _ _).0 first.0;
        same_encrypted = (bytes_decides _ _).0 first.1;
        same_ahead = (bytes_decides _ _).0 ahead;
        same_tag = (bytes_decides _ _).0 last.1;
      }

  pub was_sealed_is : was_sealed plan h port x ≡ true → WasSealed plan h port x
  was_sealed_is is =
      let parts = and_parts (is_partners plan h port x (partner_unit plan h port x)) (is_same_ahead plan h port x) is in
      sealed_by (partner_unit plan h port x) refl parts.0 parts.1

  pub sealed_is : WasSealed plan h port x → was_sealed plan h port x ≡ true
  unfolding unit_numbered
  sealed_is was =
      let at : partner_unit plan h port x ≡ Some was.unit =
      there x.unit.unit was.place us was.unit was.numbered was.finished in
      let ended : is_unit_ended plan h port x was.unit ≡ true =
      both _ _
      (both _ _ ((bytes_decides _ _).1 was.same_authenticated) ((bytes_decides _ _).1 was.same_encrypted))
      ((bytes_decides _ _).1 was.same_tag) in
      both _ _ (ap (is_partners plan h port x) at ∙ ended) ((bytes_decides _ _).1 was.same_ahead)

-- ---- of an event

sealed_if : (verified sealed : Bool) → (verified && not sealed) ≡ false → verified ≡ true → sealed ≡ true
sealed_if true true is verified = refl
sealed_if true false is verified = absurd cc
sealed_if false sealed is verified = absurd cc

not_forged : (plan : Plan) (h : History) (e : Event) → forged_at plan h e ≡ false → NotForged plan h e
not_forged plan h e is a x at tested verified =
    let here : is_forged_ending plan h a.port (Ok x) ≡ false =
    ap (is_forged_ending plan h a.port) (sym tested) ∙ (ap (is_forged_arrival plan h) (sym at) ∙ is) in
    was_sealed_is plan h a.port x (sealed_if _ _ here verified)

module _ (plan : Plan) (h : History) (e : Event) (not_one : NotForged plan h e) where
  by_tag : (a : ArrivedBytes) (x : Ending) → arrival_of_event plan h e ≡ Some a → before_tag plan h a ≡ Ok x
      → (verified : Bool) → is_verified plan h a.port x ≡ verified
      → (verified && not (was_sealed plan h a.port x)) ≡ false
  by_tag a x at tested false is = refl
  by_tag a x at tested true is = rw (sealed_is plan h a.port x (not_one a x at tested is)) refl

  by_ending : (a : ArrivedBytes) → arrival_of_event plan h e ≡ Some a → (r : Result Ending Verdict)
      → before_tag plan h a ≡ r
      → is_forged_ending plan h a.port r ≡ false
  by_ending a at (Err w) tested = refl
  by_ending a at (Ok x) tested = by_tag a x at tested (is_verified plan h a.port x) refl

  by_arrival : (o : Option ArrivedBytes) → arrival_of_event plan h e ≡ o → is_forged_arrival plan h o ≡ false
  by_arrival None at = refl
  by_arrival (Some a) at = by_ending a at (before_tag plan h a) refl

  forged_not : forged_at plan h e ≡ false
  forged_not = by_arrival (arrival_of_event plan h e) refl

-- ---- of a history

one_if : (n : ℕ) (b : Bool) → n + (if b then 1 else 0) ≡ 0 → (n ≡ 0) × (b ≡ false)
one_if n true is = absurd (omega (arith, is))
one_if n false is = (omega (arith, is), refl)

none_if : (n : ℕ) (b : Bool) → n ≡ 0 → b ≡ false → n + (if b then 1 else 0) ≡ 0
none_if n b none is = rw (none, is) refl

pub forgeries_counted : ForgeriesAreCounted
unfolding forged_count
forgeries_counted plan [] = (λ none. tt, λ none. refl)
forgeries_counted plan ((e, w) ∷ h) =
    let rest = forgeries_counted plan h in (
      λ none.
          let parts = one_if (forged_count plan h) (forged_at plan h e) none in
          (not_forged plan h e parts.1, rest.0 parts.0),
      λ law. none_if (forged_count plan h) (forged_at plan h e) (rest.1 law.1) (forged_not plan h e law.0),
    )

pub few_forgeries : (plan : Plan) (h : History) → forged_count plan h ≤ length h
unfolding forged_count
few_forgeries plan [] = omega arith
few_forgeries plan ((e, w) ∷ h) = by (forged_at plan h e) (few_forgeries plan h)
  where
    by : (b : Bool) → forged_count plan h ≤ length h
        → forged_count plan h + (if b then 1 else 0) ≤ length ((e, w) ∷ h)
    by true few = omega (arith, few)
    by false few = omega (arith, few)
