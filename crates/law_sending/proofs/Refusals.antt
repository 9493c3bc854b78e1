-- The answer to a send by its refusals in order, and by what they say of all sub-streams in which it seals.
use Rattle.std.proofs.Common.{◌≡◌, ℕ, ◌&&◌, ◌∷◌, ◌++◌, Bool, true, false, List, [], Option, Some, None, map}
use Rattle.std.proofs.Common.{subst, refl, ap, sym, ◌∙◌}
use Rattle.std.specs.Prelude.{if◌then◌else◌, unwrap_or, find}
use Rattle.std.specs.List.{AllByRecursion}
use Rattle.std.proofs.lemmas.Bool.{true≢false}
use Rattle.event_verdicts.specs.declared.verdict.Verdict.{Verdict}
use Rattle.event_verdicts.specs.declared.verdict.SealedPacket.{SealedPacket}
use Rattle.event_verdicts.specs.declared.verdict.Verdict.TheVariants as v
use Rattle.ide_types.specs.declared.sub.SubKind.{SubKind}
use Rattle.ide_types.specs.declared.sub.SubKind.TheVariants.{Pr, Npr, Cpl}
use Rattle.spec_stream.specs.Sending.{Lanes, Sending, first_that_holds, refusals, sealed_with_syncs, verdict_of_send}
use Rattle.spec_stream.specs.Sending.{described_seal, ends_unit, no_key, KeyName, needs_sync, begins_unit}
use Rattle.spec_links.proofs.Senders.{has_key, sealed_by_is}
unfoldable use Rattle.spec_links.proofs.Senders.{listed_seals}
use Rattle.law_sending.specs.Sends.{lacks_key, is_used_up, may_overflow, syncs_needed, subs_sealed, overtakes_unit}
use Rattle.law_sending.specs.Sends.{MayBeSealed, is_sealed_verdict, sub_and_sync, as_sync, IsSealedInLane}
use Rattle.law_sending.specs.Sends.{IsAnsweredAsSend}
use Rattle.law_memory.proofs.Packets.{sealed_list}

-- ---- one refusal for each of a list

-- for each sub-stream of a list the same test
abbrev each : (SubKind → Bool) → (SubKind → Verdict) → List SubKind → List (Bool × Verdict)
each test says us = map (λ (u : SubKind). (test u, says u)) us

each_found : (test : SubKind → Bool) (says : SubKind → Verdict) (us : List SubKind) (rest : List (Bool × Verdict))
    (u : SubKind) → find test us ≡ Some u → first_that_holds (each test says us ++ rest) ≡ Some (says u)
each_found test says [] rest u is = absurd cc
each_found test says (x ∷ us) rest u is = by (test x) (each_found test says us rest u) is
  where
    by : (b : Bool) → (find test us ≡ Some u → first_that_holds (each test says us ++ rest) ≡ Some (says u))
        → (if b then Some x else find test us) ≡ Some u
        → (if b then Some (says x) else first_that_holds (each test says us ++ rest)) ≡ Some (says u)
    by true more is = let same : x ≡ u = cc (is) in ap (λ (y : SubKind). Some (says y)) same
    by false more is = more is

each_none : (test : SubKind → Bool) (says : SubKind → Verdict) (us : List SubKind) (rest : List (Bool × Verdict))
    → find test us ≡ None → first_that_holds (each test says us ++ rest) ≡ first_that_holds rest
each_none test says [] rest is = refl
each_none test says (x ∷ us) rest is = by (test x) (each_none test says us rest) is
  where
    by : (b : Bool) → (find test us ≡ None → first_that_holds (each test says us ++ rest) ≡ first_that_holds rest)
        → (if b then Some x else find test us) ≡ None
        → (if b then Some (says x) else first_that_holds (each test says us ++ rest)) ≡ first_that_holds rest
    by true more is = absurd cc
    by false more is = more is

none_passes : (test : SubKind → Bool) (us : List SubKind) → find test us ≡ None
    → AllByRecursion (λ (u : SubKind). test u ≡ false) us
none_passes test [] is = tt
none_passes test (x ∷ us) is = by (test x) refl (none_passes test us) is
  where
    by : (b : Bool) → test x ≡ b → (find test us ≡ None → AllByRecursion (λ (u : SubKind). test u ≡ false) us)
        → (if b then Some x else find test us) ≡ None → AllByRecursion (λ (u : SubKind). test u ≡ false) (x ∷ us)
    by true at more is = absurd cc
    by false at more is = (at, more is)

none_found : (test : SubKind → Bool) (us : List SubKind) → AllByRecursion (λ (u : SubKind). test u ≡ false) us
    → find test us ≡ None
none_found test [] all = refl
none_found test (x ∷ us) all =
    ap (λ (b : Bool). if b then Some x else find test us) all.0 ∙ none_found test us all.1

-- ---- the refusals

-- in order: the stream failed, a sub-stream has no key, an unfinished unit is overtaken, a key is used up
abbrev behind_units : Lanes → SubKind → List (Bool × Verdict)
behind_units x class = each (is_used_up x) (λ (u : SubKind). v.RefusedWorn u x.limit) (subs_sealed x class) ++ []

abbrev behind_keys : Lanes → SubKind → List (Bool × Verdict)
behind_keys x class = (overtakes_unit x class, v.RefusedUnfinished) ∷ behind_units x class

abbrev in_order : Lanes → SubKind → List (Bool × Verdict)
in_order x class =
    (x.failed, v.RefusedInsecure)
    ∷ (each (lacks_key x) (λ (u : SubKind). v.RefusedNoKey u) (subs_sealed x class) ++ behind_keys x class)

-- those of a posted TLP, by whether it begins a unit, and which posted counts might overflow
posted_order : (f b n c : Bool) (k w : SubKind → Bool) (limit : ℕ)
    → first_that_holds
    ((f, v.RefusedInsecure) ∷ (k Pr, v.RefusedNoKey Pr) ∷ (false, v.RefusedUnfinished)
    ∷ ((b && n) && k Npr, v.RefusedNoKey Npr) ∷ ((b && c) && k Cpl, v.RefusedNoKey Cpl)
    ∷ (w Pr, v.RefusedWorn Pr limit) ∷ ((b && n) && w Npr, v.RefusedWorn Npr limit)
    ∷ ((b && c) && w Cpl, v.RefusedWorn Cpl limit) ∷ [])
    ≡ first_that_holds
    ((f, v.RefusedInsecure)
    ∷ (each k (λ (u : SubKind). v.RefusedNoKey u)
    (Pr ∷ (if b then (if n then Npr ∷ (if c then Cpl ∷ [] else []) else if c then Cpl ∷ [] else []) else []))
    ++ ((false, v.RefusedUnfinished)
    ∷ (each w (λ (u : SubKind). v.RefusedWorn u limit)
    (Pr ∷ (if b then (if n then Npr ∷ (if c then Cpl ∷ [] else []) else if c then Cpl ∷ [] else []) else []))
    ++ []))))
posted_order f false n c k w limit = refl
posted_order f true false false k w limit = refl
posted_order f true false true k w limit = refl
posted_order f true true false k w limit = refl
posted_order f true true true k w limit = refl

order_is : (x : Lanes) (class : SubKind) → first_that_holds (refusals x class) ≡ first_that_holds (in_order x class)
order_is x Pr = posted_order x.failed (begins_unit (x.lane Pr)) (may_overflow x Npr) (may_overflow x Cpl)
    (lacks_key x) (is_used_up x) x.limit
order_is x Npr = refl
order_is x Cpl = refl

-- ---- which holds first

module _ (x : Lanes) (class : SubKind) (ds : List SealedPacket) where
  abbrev Answer : Verdict
  Answer = unwrap_or (first_that_holds (in_order x class)) (v.Sealed ds)

  insecure_is : x.failed ≡ true → Answer ≡ v.RefusedInsecure
  insecure_is failed = rw failed refl

  keys : x.failed ≡ false → first_that_holds (in_order x class)
      ≡ first_that_holds (each (lacks_key x) (λ (u : SubKind). v.RefusedNoKey u) (subs_sealed x class)
      ++ behind_keys x class)
  keys secure = ap (λ (b : Bool). if b then Some v.RefusedInsecure else first_that_holds
      (each (lacks_key x) (λ (u : SubKind). v.RefusedNoKey u) (subs_sealed x class)
      ++ behind_keys x class)) secure

  no_key_is : x.failed ≡ false → (u : SubKind) → find (lacks_key x) (subs_sealed x class) ≡ Some u
      → Answer ≡ v.RefusedNoKey u
  no_key_is secure u found = ap (λ (o : Option Verdict). unwrap_or o (v.Sealed ds))
      (keys secure
      ∙ each_found (lacks_key x) (λ (y : SubKind). v.RefusedNoKey y) (subs_sealed x class) (behind_keys x class) u
      found)

  units : x.failed ≡ false → find (lacks_key x) (subs_sealed x class) ≡ None → first_that_holds (in_order x class)
      ≡ first_that_holds (behind_keys x class)
  units secure none = keys secure
      ∙ each_none (lacks_key x) (λ (y : SubKind). v.RefusedNoKey y) (subs_sealed x class) (behind_keys x class) none

  unfinished_is : x.failed ≡ false → find (lacks_key x) (subs_sealed x class) ≡ None
      → overtakes_unit x class ≡ true → Answer ≡ v.RefusedUnfinished
  unfinished_is secure none over = ap (λ (o : Option Verdict). unwrap_or o (v.Sealed ds))
      (units secure none
      ∙ ap (λ (b : Bool). if b then Some v.RefusedUnfinished else first_that_holds (behind_units x class)) over)

  rooms : x.failed ≡ false → find (lacks_key x) (subs_sealed x class) ≡ None → overtakes_unit x class ≡ false
      → first_that_holds (in_order x class) ≡ first_that_holds (behind_units x class)
  rooms secure none over = units secure none
      ∙ ap (λ (b : Bool). if b then Some v.RefusedUnfinished else first_that_holds (behind_units x class)) over

  worn_is : x.failed ≡ false → find (lacks_key x) (subs_sealed x class) ≡ None → overtakes_unit x class ≡ false
      → (u : SubKind) → find (is_used_up x) (subs_sealed x class) ≡ Some u → Answer ≡ v.RefusedWorn u x.limit
  worn_is secure none over u found = ap (λ (o : Option Verdict). unwrap_or o (v.Sealed ds))
      (rooms secure none over
      ∙ each_found (is_used_up x) (λ (y : SubKind). v.RefusedWorn y x.limit) (subs_sealed x class) [] u found)

  seals : MayBeSealed x class → Answer ≡ v.Sealed ds
  seals may = ap (λ (o : Option Verdict). unwrap_or o (v.Sealed ds))
      (rooms may.secure (none_found (lacks_key x) (subs_sealed x class) may.keyed) may.in_order
      ∙ each_none (is_used_up x) (λ (y : SubKind). v.RefusedWorn y x.limit) (subs_sealed x class) []
      (none_found (is_used_up x) (subs_sealed x class) may.room))

  differs : {w : Verdict} → is_sealed_verdict Answer ≡ true → Answer ≡ w → is_sealed_verdict w ≡ false → ⊥
  differs sealed same not_sealed = true≢false (sym sealed ∙ (ap is_sealed_verdict same ∙ not_sealed))

  may : is_sealed_verdict Answer ≡ true → MayBeSealed x class
  may sealed = by_failed x.failed refl
    where
      by_worn : x.failed ≡ false → find (lacks_key x) (subs_sealed x class) ≡ None → overtakes_unit x class ≡ false
          → (o : Option SubKind) → find (is_used_up x) (subs_sealed x class) ≡ o → MayBeSealed x class
      by_worn secure none over (Some u) is = absurd (differs sealed (worn_is secure none over u is) refl)
      by_worn secure none over None is = record {
        secure = secure;
        keyed = none_passes (lacks_key x) (subs_sealed x class) none;
        in_order = over;
        room = none_passes (is_used_up x) (subs_sealed x class) is;
      }

      by_unit : x.failed ≡ false → find (lacks_key x) (subs_sealed x class) ≡ None → (b : Bool)
          → overtakes_unit x class ≡ b → MayBeSealed x class
      by_unit secure none true is = absurd (differs sealed (unfinished_is secure none is) refl)
      by_unit secure none false is =
          by_worn secure none is (find (is_used_up x) (subs_sealed x class)) refl

      by_key : x.failed ≡ false → (o : Option SubKind) → find (lacks_key x) (subs_sealed x class) ≡ o
          → MayBeSealed x class
      by_key secure (Some u) is = absurd (differs sealed (no_key_is secure u is) refl)
      by_key secure None is = by_unit secure is (overtakes_unit x class) refl

      by_failed : (b : Bool) → x.failed ≡ b → MayBeSealed x class
      by_failed true is = absurd (differs sealed (insecure_is is) refl)
      by_failed false is = by_key is (find (lacks_key x) (subs_sealed x class)) refl

-- ---- the packets

posted_kinds : (x : Lanes) (s : Sending) (number : ℕ) (b n c : Bool)
    → map sub_and_sync (listed_seals x s number (b && n) (b && c))
    ≡ map as_sync (if b then (if n then Npr ∷ (if c then Cpl ∷ [] else []) else if c then Cpl ∷ [] else []) else [])
    ++ (s.class, false) ∷ []
unfolding listed_seals
posted_kinds x s number false n c = refl
posted_kinds x s number true false false = refl
posted_kinds x s number true false true = refl
posted_kinds x s number true true false = refl
posted_kinds x s number true true true = refl

kinds : (x : Lanes) (s : Sending) (number : ℕ) (class : SubKind) → s.class ≡ class
    → map sub_and_sync (listed_seals x s number (needs_sync x class Npr) (needs_sync x class Cpl))
    ≡ map as_sync (syncs_needed x class) ++ (s.class, false) ∷ []
unfolding listed_seals
kinds x s number Pr is =
    posted_kinds x s number (begins_unit (x.lane Pr)) (may_overflow x Npr) (may_overflow x Cpl)
kinds x s number Npr is = refl
kinds x s number Cpl is = refl

-- ---- each in its lane

sync_in_lane : (x : Lanes) (s : Sending) (u : SubKind) (number : ℕ) → lacks_key x u ≡ false
    → IsSealedInLane x s.more (described_seal x s u number true false true)
sync_in_lane x s u number keyed =
    let k = has_key x u keyed in
    record {
      key = k.key;
      live = k.is;
      draw = ap (λ (o : Option KeyName). (unwrap_or o no_key).draw) k.is;
      set = ap (λ (o : Option KeyName). (unwrap_or o no_key).k) k.is;
      unit = refl;
      posted = refl;
      ends = refl;
    }

tlp_in_lane : (x : Lanes) (s : Sending) (number : ℕ) (t : Bool) → lacks_key x s.class ≡ false
    → IsSealedInLane x s.more (described_seal x s s.class number (ends_unit x s) t false)
tlp_in_lane x s number t keyed =
    let k = has_key x s.class keyed in
    record {
      key = k.key;
      live = k.is;
      draw = ap (λ (o : Option KeyName). (unwrap_or o no_key).draw) k.is;
      set = ap (λ (o : Option KeyName). (unwrap_or o no_key).k) k.is;
      unit = refl;
      posted = refl;
      ends = refl;
    }

posted_in_lanes : (x : Lanes) (s : Sending) (number : ℕ) (b n c : Bool) → lacks_key x s.class ≡ false
    → AllByRecursion (λ (u : SubKind). lacks_key x u ≡ false)
    (if b then (if n then Npr ∷ (if c then Cpl ∷ [] else []) else if c then Cpl ∷ [] else []) else [])
    → AllByRecursion (IsSealedInLane x s.more) (listed_seals x s number (b && n) (b && c))
unfolding listed_seals
posted_in_lanes x s number false n c own syncs = (tlp_in_lane x s _ _ own, tt)
posted_in_lanes x s number true false false own syncs = (tlp_in_lane x s _ _ own, tt)
posted_in_lanes x s number true false true own syncs =
    (sync_in_lane x s Cpl _ syncs.0, (tlp_in_lane x s _ _ own, tt))
posted_in_lanes x s number true true false own syncs =
    (sync_in_lane x s Npr _ syncs.0, (tlp_in_lane x s _ _ own, tt))
posted_in_lanes x s number true true true own syncs =
    (sync_in_lane x s Npr _ syncs.0, (sync_in_lane x s Cpl _ syncs.1.0, (tlp_in_lane x s _ _ own, tt)))

in_lanes : (x : Lanes) (s : Sending) (number : ℕ) (class : SubKind) → s.class ≡ class
    → AllByRecursion (λ (u : SubKind). lacks_key x u ≡ false) (subs_sealed x class)
    → AllByRecursion (IsSealedInLane x s.more)
    (listed_seals x s number (needs_sync x class Npr) (needs_sync x class Cpl))
unfolding listed_seals
in_lanes x s number Pr is keyed =
    posted_in_lanes x s number (begins_unit (x.lane Pr)) (may_overflow x Npr) (may_overflow x Cpl)
    (ap (lacks_key x) is ∙ keyed.0) keyed.1
in_lanes x s number Npr is keyed = (tlp_in_lane x s _ _ (ap (lacks_key x) is ∙ keyed.0), tt)
in_lanes x s number Cpl is keyed = (tlp_in_lane x s _ _ (ap (lacks_key x) is ∙ keyed.0), tt)

-- ---- the answer

pub answers_send : (x : Lanes) (s : Sending) (number : ℕ) (w : Verdict) → w ≡ verdict_of_send x s number
    → IsAnsweredAsSend x s.class s.more w
answers_send x s number w is =
    let ds = sealed_with_syncs x s number in
    let same : w ≡ unwrap_or (first_that_holds (in_order x s.class)) (v.Sealed ds) =
    is ∙ ap (λ (o : Option Verdict). unwrap_or o (v.Sealed ds)) (order_is x s.class) in
    record {
      sealed = (
        λ sealed. may x s.class ds (sym (ap is_sealed_verdict same) ∙ sealed),
        λ fits. ap is_sealed_verdict (same ∙ seals x s.class ds fits),
      );
      insecure = λ failed. same ∙ insecure_is x s.class ds failed;
      no_key = λ secure u found. same ∙ no_key_is x s.class ds secure u found;
      unfinished = λ secure none over. same ∙ unfinished_is x s.class ds secure none over;
      worn = λ secure none over u found. same ∙ worn_is x s.class ds secure none over u found;
      packets = λ es sealed.
          ap (map sub_and_sync) (sealed_list x s number es (sym is ∙ sealed) ∙ sealed_by_is x s number)
          ∙ kinds x s number s.class refl;
      each = λ es sealed.
          let fits = may x s.class ds (sym (ap is_sealed_verdict same) ∙ ap is_sealed_verdict sealed) in
          subst (AllByRecursion (IsSealedInLane x s.more))
          (sym (sealed_list x s number es (sym is ∙ sealed) ∙ sealed_by_is x s number))
          (in_lanes x s number s.class refl fits.keyed);
    }
