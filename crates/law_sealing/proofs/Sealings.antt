-- Each packet of a send, seen from what was sealed before it.
use Rattle.law_sealing.proofs.Terms.{◌≡◌, ◌≢◌, ℕ, ◌+◌, ◌≤◌, ◌==◌, Bool, true, false, List, [], ◌∷◌, ◌++◌, length}
use Rattle.law_sealing.proofs.Terms.{Option, Some, inl, inr, ◌⊎◌, refl, ap, sym, ◌∙◌, subst, append_assoc}
use Rattle.law_sealing.proofs.Terms.{if◌then◌else◌, not, nat_lt, nat_le, unwrap_or, eq-eqb, ltb-false, or_parts}
use Rattle.law_sealing.proofs.Terms.{sub_bits, SubKind, Pr, Npr, Cpl, PortName, SealedPacket, Packet, Plan, SubStream}
use Rattle.law_sealing.proofs.Terms.{lane_out, aggregation_of, units, open_unit, History, base, SealedList, KeyName}
use Rattle.law_sealing.proofs.Terms.{sealed_packets, sub_stream_packets, posted_since_last, posted_count, live_key}
use Rattle.law_sealing.proofs.Terms.{Sending, Lanes, lanes_at, packets_under_key, described_seal, needs_sync, is_worn}
use Rattle.law_sealing.proofs.Terms.{is_keyless, is_posted, ends_unit, begins_unit, sets_trusted, no_key, CauseLaw}
use Rattle.law_sealing.proofs.Terms.{DrawFacts, is_same_sub, eqb-refl, sent-same, posted-own, posted-same, in_lane}
use Rattle.law_sealing.proofs.Terms.{has_key, on_live, listed_seals, sealed_by_is, and_false, needs_posted, IsSealing}

pub record IsSyncOf (d : SealedPacket) : Type 0 where
  pub sub : d.sub ≢ Pr
  pub m : d.m ≡ true
  pub t : d.t ≡ false

-- A packet of a send on a stream at a port, after what was sealed before it; these keys are Live, and this is Base.
pub record IsOf (plan : Plan) (port : PortName) (stream : ℕ) (live : SubKind → Option KeyName) (from : ℕ)
    (class : SubKind) (xs : SealedList) (d : SealedPacket) : Type 0 where
  pub port_is : d.port ≡ port
  pub stream_is : d.stream ≡ stream
  pub live_is : live d.sub ≡ Some (record { k = d.k; draw = d.draw })
  pub counts : nat_le from d.draw ≡ true
  pub unit : d.unit ≡ length (units (sub_stream_packets xs (lane_out port stream d.sub) d.draw)) + 1
  pub none : is_posted d.sub ≡ true → d.posted ≡ 0
  pub posted : is_posted d.sub ≡ false → d.posted ≡ posted_since_last xs (lane_out port stream d.sub) from
  pub more : d.m ≡ false →
      (length (open_unit (sub_stream_packets xs (lane_out port stream d.sub) d.draw)) + 1 == aggregation_of plan
      port.line
      stream) ≡ false
  -- if it begins a unit, its key is not worn
  pub unworn : length (open_unit (sub_stream_packets xs (lane_out port stream d.sub) d.draw)) ≡ 0
      → (length (units (sub_stream_packets xs (lane_out port stream d.sub) d.draw)) == plan.units_per_key) ≡ false
  pub sync : d.sync ≡ true → IsSyncOf d
  pub class_is : d.sync ≡ false → class ≡ d.sub
  -- if it begins a posted unit, no posted count gets too large within it
  pub clear : is_posted d.sub ≡ true
      → length (open_unit (sub_stream_packets xs (lane_out port stream d.sub) d.draw)) ≡ 0 → (u : SubKind)
      → is_posted u ≡ false
      → posted_since_last xs (lane_out port stream u) from + aggregation_of plan port.line stream ≤ 255
      ⊎ (posted_since_last xs (lane_out port stream u) from ≡ 0)

abbrev pub AllOf : Plan → PortName → ℕ → (SubKind → Option KeyName) → ℕ → SubKind → SealedList → List SealedPacket
    → Type 0
AllOf plan port stream live from class xs [] = Unit {0}
AllOf plan port stream live from class xs (d ∷ ds) = IsOf plan port stream live from class xs d
    × ((p : Packet) → AllOf plan port stream live from class (xs ++ (d, p) ∷ []) ds)

-- ---- a description

abbrev pub live_at : Plan → History → PortName → ℕ → SubKind → Option KeyName
live_at plan h port stream u = live_key h port (lane_out port stream u)

abbrev pub from_at : Plan → History → PortName → ℕ → ℕ
from_at plan h port stream = base h port.line stream

-- what packets of other sub-streams leave
record Same (port : PortName) (stream from : ℕ) (u : SubKind) (xs ys : SealedList) : Type 0 where
  sent : (j : ℕ) → sub_stream_packets ys (lane_out port stream u) j ≡ sub_stream_packets xs (lane_out port stream u) j
  posted : posted_since_last ys (lane_out port stream u) from ≡ posted_since_last xs (lane_out port stream u) from

not_pr : (u : SubKind) → is_posted u ≡ false → u ≢ Pr
not_pr u other same = let posted : is_posted u ≡ true = ap is_posted same in absurd cc

module _ (plan : Plan) (facts : DrawFacts plan) (h : History) (law : CauseLaw plan h) (s : Sending) where
  abbrev x : Lanes
  x = lanes_at plan h s.port s.stream

  abbrev lane : SubKind → SubStream
  lane u = lane_out s.port s.stream u

  abbrev from : ℕ
  from = from_at plan h s.port s.stream

  abbrev aggregation : ℕ
  aggregation = aggregation_of plan s.port.line s.stream

  -- that the posted count gets not too large within a unit that begins
  abbrev Clear : SealedList → SubKind → Type 0
  Clear xs u = is_posted s.class ≡ true → begins_unit (x.lane s.class) ≡ true
      → posted_since_last xs (lane u) from + aggregation ≤ 255 ⊎ (posted_since_last xs (lane u) from ≡ 0)

  -- it has a key, with which a unit may begin
  abbrev MaySeal : SubKind → Type 0
  MaySeal u = (is_keyless x u ≡ false) × (is_worn x u ≡ false)

  stays : (u : SubKind) (xs : SealedList) → Same s.port s.stream from u xs xs
  stays u xs = record { sent = λ j. refl; posted = refl }

  describes : (xs : SealedList) (u : SubKind) (number : ℕ) (m t sync : Bool) → MaySeal u
      → Same s.port s.stream from u (sealed_packets plan h) xs
      → (m ≡ false → (length (x.lane u).unfinished + 1 == aggregation) ≡ false)
      → (sync ≡ true → IsSyncOf (described_seal x s u number m t sync)) → (sync ≡ false → s.class ≡ u)
      → (is_posted u ≡ true → (s.class ≡ u) × ((w : SubKind) → is_posted w ≡ false → Clear xs w))
      → IsOf plan s.port s.stream (live_at plan h s.port s.stream) from s.class xs
      (described_seal x s u number m t sync)
  describes xs u number m t sync may same more is_sync class clear =
      let place = lane u in
      let sealing_key = has_key x u may.0 in
      let key : unwrap_or (live_key h s.port place) no_key ≡ sealing_key.key = ap
      (λ (o : Option KeyName). unwrap_or o no_key)
      sealing_key.is in
      let live_is : live_key h s.port place ≡ Some (unwrap_or (live_key h s.port place) no_key) = sealing_key.is ∙
      ap
      (λ (n : KeyName). Some n) (sym key) in
      let j = (unwrap_or (live_key h s.port place) no_key).draw in
      let under : sub_stream_packets xs place j ≡ packets_under_key plan h place (live_key h s.port place) = same.sent j
      ∙ ap
      (packets_under_key plan h place) (sym live_is) in
      record {
        port_is = refl;
        stream_is = refl;
        live_is = live_is;
        counts = facts.from_base h law s.port place _ _ (on_live _ _ _ live_is);
        unit = ap (λ (ps : List Packet). length (units ps) + 1) (sym under);
        none = λ posted. ap (λ (b : Bool). if b then 0 else posted_count plan h place) posted;
        posted = λ other. ap (λ (b : Bool). if b then 0 else posted_count plan h place) other ∙ sym same.posted;
        more = λ not_m. ap (λ (ps : List Packet). length (open_unit ps) + 1 == aggregation) under ∙ more not_m;
        unworn = λ empty.
            let begins = eq-eqb _ 0 (sym (ap (λ (ps : List Packet). length (open_unit ps)) under) ∙ empty) in
            ap (λ (ps : List Packet). length (units ps) == plan.units_per_key) under ∙ and_false _ _ may.1 begins;
        sync = is_sync;
        class_is = class;
        clear = λ posted empty w other.
            let unfinished = sym (ap (λ (ps : List Packet). length (open_unit ps)) under) ∙ empty in
            let known = clear posted in
            known.1 w other (ap is_posted known.0 ∙ posted)
            (ap (λ (c : SubKind). begins_unit (x.lane c)) known.0 ∙ eq-eqb _ 0 unfinished);
      }

  -- ---- all of a send

  -- the list by what needs a sync packet
  abbrev All : SealedList → List SealedPacket → Type 0
  All xs ds = AllOf plan s.port s.stream (live_at plan h s.port s.stream) from s.class xs ds

  -- a sync packet of a sub-stream, if one is needed, and what follows it
  with_sync : (u : SubKind) (b : Bool) (number : ℕ) (ys : SealedList) (rest : List SealedPacket) → is_posted u ≡ false
      → needs_sync x s.class u ≡ b
      → (b ≡ true → MaySeal u) → Same s.port s.stream from u (sealed_packets plan h) ys
      → ((zs : SealedList) → Clear zs u →
      ((w : SubKind) → (b ≡ true → is_same_sub u w ≡ false) → Same s.port s.stream from w ys zs) → All zs rest)
      → All ys ((if b then described_seal x s u number true false true ∷ [] else []) ++ rest)
  with_sync u true number ys rest other needed may same next =
      let d = described_seal x s u number true false true in
      let one = describes ys u number true false true (may refl) same (λ is. absurd cc)
      (λ is. record { sub = not_pr u other; m = refl; t = refl })
      (λ is. absurd cc) (λ posted. absurd cc) in
      let here = in_lane s.port s.stream d u refl refl ∙ eqb-refl (sub_bits u) in
      let off_posted = in_lane s.port s.stream d Pr refl refl ∙ other in (
        one,
        λ p. next (ys ++ (d, p) ∷ [])
            (λ posted begins. inr (posted-own ys (d, p) (lane u) from (rw (here, one.counts) refl))) (λ w behind.
            let off = in_lane s.port s.stream d w refl refl ∙ behind refl in
            record {
              sent = λ j. sent-same ys (d, p) (lane w) j off;
              posted = posted-same ys (d, p) (lane w) from
                  (rw off refl) (rw off_posted refl);
            }),
      )
  with_sync u false number ys rest other none may same next = next ys (λ posted begins. inl (room posted begins))
      (λ w behind. stays w ys)
    where
      room : is_posted s.class ≡ true → begins_unit (x.lane s.class) ≡ true
          → posted_since_last ys (lane u) from + aggregation ≤ 255
      room posted begins =
          let test : nat_lt 255 (posted_count plan h (lane u) + aggregation) ≡ false = rw (posted, begins) at none in
          rw same.posted (ltb-false 255 _ test)

  all_of : (number : ℕ) (n c : Bool) → needs_sync x s.class Npr ≡ n → needs_sync x s.class Cpl ≡ c
      → MaySeal s.class → (n ≡ true → (s.class ≡ Pr) × MaySeal Npr) → (c ≡ true → (s.class ≡ Pr) × MaySeal Cpl)
      → All (sealed_packets plan h) (listed_seals x s number n c)
  unfolding listed_seals
  all_of number n c n_is c_is may requests completions =
      let first : List SealedPacket = if n then described_seal x s Npr number true false true ∷ [] else [] in
      let second : List SealedPacket = if c then described_seal x s Cpl (number + length first) true false true
      ∷ [] else [] in
      let last = described_seal x s s.class (number + length first + length second) (ends_unit x s)
      (sets_trusted s.port s.trusted) false in
      subst (All (sealed_packets plan h)) (sym (append_assoc first second (last ∷ [])))
      (with_sync Npr n number (sealed_packets plan h) (second ++ last ∷ []) refl n_is (λ is. (requests is).1)
      (stays Npr _) (λ ys npr one.
      with_sync Cpl c (number + length first) ys (last ∷ []) refl c_is (λ is. (completions is).1) (one Cpl (λ is. refl))
      (λ zs cpl two.
      let before = one s.class (λ is. ap (is_same_sub Npr) (requests is).0) in
      let after = two s.class (λ is. ap (is_same_sub Cpl) (completions is).0) in
      let same : Same s.port s.stream from s.class (sealed_packets plan h) zs =
      record { sent = λ j. after.sent j ∙ before.sent j; posted = after.posted ∙ before.posted } in
      let clear = each zs (λ posted begins. rw (two Npr (λ is. refl)).posted (npr posted begins)) cpl in (
        describes zs s.class _ (ends_unit x s) (sets_trusted s.port s.trusted) false may same
            (λ is. (or_parts (not s.more) _ is).1)
            (λ is. absurd cc) (λ is. refl)
            (λ posted. (refl, clear)),
        λ p. tt,
      ))))
    where
      each : (zs : SealedList) → Clear zs Npr → Clear zs Cpl → (w : SubKind) → is_posted w ≡ false → Clear zs w
      each zs npr cpl Pr other = absurd cc
      each zs npr cpl Npr other = npr
      each zs npr cpl Cpl other = cpl

-- ---- of a verdict that was due

pub all_of_sealing : (plan : Plan) → DrawFacts plan → (h : History) → CauseLaw plan h
    → (port : PortName) (bytes : List ℕ) (ds : List SealedPacket) (is : IsSealing plan h port bytes ds)
    → let s = is.sending in AllOf plan s.port s.stream (live_at plan h s.port s.stream) (from_at plan h s.port s.stream)
    s.class (sealed_packets plan h) ds
all_of_sealing plan facts h law port bytes ds is =
    let s = is.sending in
    let x = lanes_at plan h s.port s.stream in
    let free = is.free in
    subst (AllOf plan s.port s.stream (live_at plan h s.port s.stream) (from_at plan h s.port s.stream) s.class
    (sealed_packets plan h)) (sym (is.list ∙ sealed_by_is x s is.number))
    (all_of plan facts h law s is.number (needs_sync x s.class Npr) (needs_sync x s.class Cpl) refl refl
    (free.1.0, free.1.1.1.1.1.0)
    (λ needs. (
      needs_posted x s.class Npr needs,
      (and_false _ _ free.1.1.1.0 needs, and_false _ _ free.1.1.1.1.1.1.0 needs),
    ))
    (λ needs. (
      needs_posted x s.class Cpl needs,
      (and_false _ _ free.1.1.1.1.0 needs, and_false _ _ free.1.1.1.1.1.1.1.0 needs),
    )))
