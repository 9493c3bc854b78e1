-- What is read of operations on streams is what the machine keeps.
use Rattle.std.proofs.Common.{◌≡◌, ℕ, ◌&&◌, Bool, true, false, List, [], ◌∷◌, ◌++◌, refl, ap, sym, ◌∙◌}
use Rattle.std.proofs.Common.{Option, Some, None}
use Rattle.std.specs.Prelude.{if◌then◌else◌, is_some, nat_le, not}
use Rattle.std.specs.Option.{option_map, option_map_or}
use Rattle.ide_types.specs.{is_hosted}
use Rattle.ide_types.specs.Ports.{host_port}
use Rattle.ide_types.specs.declared.port.Side.{Side}
use Rattle.ide_types.specs.declared.port.Side.TheVariants.{Host, Device}
use Rattle.ide_types.specs.declared.sub.SubKind.{SubKind}
use Rattle.ide_types.specs.declared.sub.SubKind.TheVariants.{Pr, Npr, Cpl}
use Rattle.ide_types.specs.declared.plan.Plan.{Plan}
use Rattle.spec_keys.specs.Due.{PortView}
use Rattle.spec_keys.specs.History.{program_exchange}
use Rattle.spec_keys.specs.Operations.{StreamStage, Idle, Establishing, Up, Refreshing, Stopping, last_exchange_of}
use Rattle.spec_keys.specs.Keys.{refusal_if}
use Rattle.spec_keys.specs.Places.{KeyPlace, places_of, told_places}
use Rattle.spec_links.specs.Plan.{is_closed}
use Rattle.machine_ports.specs.Machine.{is_last_in, refuses_at, slots_refuse}
use Rattle.event_verdicts.specs.declared.verdict.Operation.{Operation}
use Rattle.event_verdicts.specs.declared.verdict.Operation.TheVariants as op
use Rattle.machine_operations.specs.{find, is_live_at, port_at, ports_of}
use Rattle.spec_stream.specs.Slots.{is_live_slot, slots_at}
use Rattle.spec_stream.specs.Stream.{LaneSlot, Empty, Programmed, Armed, Live, LaneSlots, StreamState, slot_in_set}
use Rattle.sub_stream.specs.Facts.{lane_seen, set_facts, slot_facts, stream_facts}
use Rattle.told_facts.specs.declared.fact.Fact.{Fact}
use Rattle.told_facts.specs.declared.fact.Fact.TheVariants as fact
use Rattle.told_facts.specs.declared.fact.OperationFact.TheVariants as of
use Rattle.told_facts.specs.Exchanges.{key_exchanges}
use Rattle.why_facts.specs.Forms.{exchange_facts, open_facts, opens_facts, refuses_fact, refusing_facts}
use Rattle.world.specs.{WholeLinks}
use Rattle.why_facts.specs.declared.appends.places.Place.{Place}
use Rattle.why_facts.specs.{
  is_last_seen,
  is_live_seen,
  key_place,
  open_seen,
  opens_seen,
  refuses_seen,
  seen_place_at,
  set_seen,
}
use Rattle.ide_why.specs.Facts.{exchanges_read, opens_read, refusal_facts, state_of_whole}
use Rattle.ide_why.specs.Places.{first_refusing, if_refusing, is_refusing, place_or, refusing_on_line}
use Rattle.ide_why.specs.Places.{refusing_or_next, lane_sets}
use Rattle.ide_why.specs.Reading.{stream_read}

-- ---- what refuses

last_is : (a b : LaneSlot) → is_last_seen (slot_facts a) (slot_facts b) ≡ is_last_in a b
last_is Empty b = refl
last_is (Programmed draw key) b = refl
last_is (Armed draw key) b = refl
last_is (Live x) Empty = refl
last_is (Live x) (Programmed draw key) = refl
last_is (Live x) (Armed draw key) = refl
last_is (Live x) (Live y) = refl

refuses_is : (k : Bool) (sl : LaneSlots) → refuses_seen k (set_facts sl) ≡ slots_refuse sl k
refuses_is true sl = last_is sl.second sl.first
refuses_is false sl = last_is sl.first sl.second

sets_are : (p : Place) (closed : Bool) (x : StreamState)
    → lane_sets p (stream_facts closed x) ≡ set_facts (slots_at p.sends p.sub x)
sets_are p closed x = by p.sends p.sub
  where
    by : (sends : Bool) (u : SubKind) → (if sends then (lane_seen (stream_facts closed x) u).sender.sets
        else (lane_seen (stream_facts closed x) u).receiver.sets) ≡ set_facts (slots_at sends u x)
    by true Pr = refl
    by true Npr = refl
    by true Cpl = refl
    by false Pr = refl
    by false Npr = refl
    by false Cpl = refl

some_if : (b : Bool) → is_some (refusal_if b) ≡ b
some_if true = refl
some_if false = refl

and_false : (a : Bool) → false ≡ (a && false)
and_false true = refl
and_false false = refl

-- `a` says that the place is there at an exchange that is left
refusing_found : (a : Bool) (p : Place) (k closed : Bool) (o : Option StreamState)
    → option_map_or (λ sets. a && refuses_seen k sets) (option_map (lane_sets p) (option_map (stream_facts closed) o))
    false ≡ (a && is_some (refusal_if (refuses_at p.sends p.sub k o)))
refusing_found a p k closed None = and_false a
refusing_found a p k closed (Some x) =
    ap (λ b. a && b) (ap (refuses_seen k) (sets_are p closed x) ∙ refuses_is k (slots_at p.sends p.sub x)
    ∙ sym (some_if (slots_refuse (slots_at p.sends p.sub x) k)))

module _ (plan : Plan) (s : WholeLinks) (o : Operation) (set : Bool) (first : ℕ) where
  abbrev ports : PortView
  ports = ports_of plan (state_of_whole plan s)

  abbrev due : List KeyPlace → List Fact
  due ks = refusing_facts plan ports o set first ks

  test_is : (p : Place) → is_refusing plan s o set first p
      ≡ (nat_le first (program_exchange o (key_place p)) && is_some (ports.refusal (key_place p) set))
  test_is p = refusing_found (nat_le first (program_exchange o (key_place p))) p set (is_closed plan p.line p.stream)
      (find plan (state_of_whole plan s) (port_at p.side p.line) p.stream)

  one_by : (b : Bool) (p : Place) (next : Option Place) (ks : List KeyPlace) → refusal_facts plan o next ≡ due ks
      → refusal_facts plan o (if_refusing b p next)
      ≡ (if b then refuses_fact plan (program_exchange o (key_place p)) (key_place p) ∷ [] else due ks)
  one_by true p next ks same = refl
  one_by false p next ks same = same

  one_is : (p : Place) (next : Option Place) (ks : List KeyPlace) → refusal_facts plan o next ≡ due ks
      → refusal_facts plan o (refusing_or_next plan s o set first p next) ≡ due (key_place p ∷ ks)
  one_is p next ks same =
      one_by (is_refusing plan s o set first p) p next ks same
      ∙ ap (λ (b : Bool). if b then refuses_fact plan (program_exchange o (key_place p)) (key_place p) ∷ [] else due ks)
      (test_is p)

  abbrev or_one : Side → ℕ → ℕ → Bool → SubKind → Option Place → Option Place
  or_one side line stream upward u n = refusing_or_next plan s o set first (seen_place_at side line stream upward u) n

  abbrev kept : Side → ℕ → ℕ → Bool → SubKind → KeyPlace
  kept side line stream upward u = key_place (seen_place_at side line stream upward u)

  -- before others
  six_before : (next : Option Place) (ks : List KeyPlace) (side : Side) (line stream : ℕ)
      → refusal_facts plan o next ≡ due ks
      → refusal_facts plan o (or_one side line stream false Pr (or_one side line stream false Npr
      (or_one side line stream false Cpl (or_one side line stream true Pr (or_one side line stream true Npr
      (or_one side line stream true Cpl next))))))
      ≡ due (places_of side line stream ++ ks)
  six_before next ks side line stream same =
      one_is (seen_place_at side line stream false Pr) _
      (kept side line stream false Npr ∷ kept side line stream false Cpl ∷ kept side line stream true Pr
      ∷ kept side line stream true Npr ∷ kept side line stream true Cpl ∷ ks)
      (one_is (seen_place_at side line stream false Npr) _
      (kept side line stream false Cpl ∷ kept side line stream true Pr ∷ kept side line stream true Npr
      ∷ kept side line stream true Cpl ∷ ks)
      (one_is (seen_place_at side line stream false Cpl) _
      (kept side line stream true Pr ∷ kept side line stream true Npr ∷ kept side line stream true Cpl ∷ ks)
      (one_is (seen_place_at side line stream true Pr) _
      (kept side line stream true Npr ∷ kept side line stream true Cpl ∷ ks)
      (one_is (seen_place_at side line stream true Npr) _ (kept side line stream true Cpl ∷ ks)
      (one_is (seen_place_at side line stream true Cpl) next ks same)))))

  six_are : (side : Side) (line stream : ℕ)
      → refusal_facts plan o (first_refusing plan s o set first side line stream) ≡ due (places_of side line stream)
  six_are side line stream = six_before None [] side line stream refl

  twelve_are : (next : Option Place) (ks : List KeyPlace) (side : Side) (line stream : ℕ) → refusal_facts plan o next
      ≡ due ks → refusal_facts plan o (place_or (first_refusing plan s o set first side line stream) next)
      ≡ due (places_of side line stream ++ ks)
  twelve_are next ks side line stream same =
      ap (refusal_facts plan o) (or_is next) ∙ six_before next ks side line stream same
    where
      moved : (b : Bool) (p : Place) (a n : Option Place)
          → place_or (if_refusing b p a) n ≡ if_refusing b p (place_or a n)
      moved true p a n = refl
      moved false p a n = refl

      step : (upward : Bool) (u : SubKind) (a c n : Option Place) → place_or a n ≡ c
          → place_or (or_one side line stream upward u a) n ≡ or_one side line stream upward u c
      step upward u a c n same =
          moved (is_refusing plan s o set first (seen_place_at side line stream upward u))
          (seen_place_at side line stream upward u) a n
          ∙ ap (or_one side line stream upward u) same

      or_is : (n : Option Place) → place_or (first_refusing plan s o set first side line stream) n
          ≡ or_one side line stream false Pr
          (or_one side line stream false Npr
          (or_one side line stream false Cpl (or_one side line stream true Pr (or_one side line stream true Npr
          (or_one side line stream true Cpl n)))))
      or_is n = step false Pr _ _ n (step false Npr _ _ n (step false Cpl _ _ n (step true Pr _ _ n
          (step true Npr _ _ n (step true Cpl _ _ n refl)))))

  told_by : (hosted : Bool) (line stream : ℕ)
      → refusal_facts plan o (if hosted then first_refusing plan s o set first Device line stream
      else place_or (first_refusing plan s o set first Host line stream)
      (first_refusing plan s o set first Device line stream)) ≡ due (told_places hosted line stream)
  told_by true line stream = six_are Device line stream
  told_by false line stream = twelve_are (first_refusing plan s o set first Device line stream)
      (places_of Device line stream) Host line stream (six_are Device line stream)

  pub told_is : (line stream : ℕ) → refusal_facts plan o (refusing_on_line plan s o set first line stream)
      ≡ due (told_places (is_hosted line) line stream)
  told_is line stream = told_by (is_hosted line) line stream

-- ---- the exchanges that are left

module _ (plan : Plan) (s : WholeLinks) (line stream : ℕ) where
  -- before the keys of a draw
  abbrev left_as : Operation → ℕ → Bool → ℕ → List Fact
  left_as o first set draw = fact.Operation (of.Exchanges first (last_exchange_of (is_hosted line) o))
      ∷ (refusal_facts plan o (refusing_on_line plan s o set first line stream)
      ++ key_exchanges plan line stream o set draw first)

  left_is : (o : Operation) (first : ℕ) (set : Bool) (draw : ℕ)
      → left_as o first set draw ≡ fact.Operation (of.Exchanges first (last_exchange_of (is_hosted line) o))
      ∷ (refusing_facts plan (ports_of plan (state_of_whole plan s)) o set first
      (told_places (is_hosted line) line stream) ++ key_exchanges plan line stream o set draw first)
  left_is o first set draw =
      ap (λ (fs : List Fact). fact.Operation (of.Exchanges first (last_exchange_of (is_hosted line) o))
      ∷ (fs ++ key_exchanges plan line stream o set draw first))
      (told_is plan s o set first line stream)

  abbrev next : ℕ
  next = (state_of_whole plan s).draws

  pub exchanges_are : (o : Operation) (q : StreamStage) → exchanges_read plan s o line stream q
      ≡ exchange_facts plan (ports_of plan (state_of_whole plan s)) o line stream q (state_of_whole plan s).draws
  exchanges_are op.Establish Idle = left_is op.Establish 1 false next
  exchanges_are op.Establish (Establishing draw n) = left_is op.Establish n false draw
  exchanges_are op.Establish (Up set draw) = refl
  exchanges_are op.Establish (Refreshing set draw n) = refl
  exchanges_are op.Establish (Stopping n) = refl
  exchanges_are op.Refresh Idle = refl
  exchanges_are op.Refresh (Establishing draw n) = refl
  exchanges_are op.Refresh (Up set draw) = left_is op.Refresh 1 (not set) next
  exchanges_are op.Refresh (Refreshing set draw n) = left_is op.Refresh n set draw
  exchanges_are op.Refresh (Stopping n) = refl
  exchanges_are op.Stop Idle = refl
  exchanges_are op.Stop (Establishing draw n) = refl
  exchanges_are op.Stop (Up set draw) = refl
  exchanges_are op.Stop (Refreshing set draw n) = refl
  exchanges_are op.Stop (Stopping n) = refl

-- ---- senders that are in use

live_slot : (sl : LaneSlot) → is_live_seen (slot_facts sl) ≡ is_live_slot sl
live_slot Empty = refl
live_slot (Programmed draw key) = refl
live_slot (Armed draw key) = refl
live_slot (Live x) = refl

live_set : (closed : Bool) (x : StreamState) (u : SubKind) (k : Bool)
    → is_live_seen (set_seen k (lane_seen (stream_facts closed x) u).sender.sets)
    ≡ is_live_slot (slot_in_set (slots_at true u x) k)
live_set closed x Pr true = live_slot x.tx.pr.slots.second
live_set closed x Pr false = live_slot x.tx.pr.slots.first
live_set closed x Npr true = live_slot x.tx.npr.slots.second
live_set closed x Npr false = live_slot x.tx.npr.slots.first
live_set closed x Cpl true = live_slot x.tx.cpl.slots.second
live_set closed x Cpl false = live_slot x.tx.cpl.slots.first

abbrev opened_if : SubKind → Bool → List Fact
opened_if u b = if b then fact.Operation (of.Open u) ∷ [] else []

open_by : (closed : Bool) (o : Option StreamState) (set : Bool) (u : SubKind)
    → open_seen (option_map (stream_facts closed) o) set u ≡ opened_if u (is_live_at true u set o)
open_by closed None set u = refl
open_by closed (Some x) set u = ap (opened_if u) (live_set closed x u set)

module _ (plan : Plan) (s : WholeLinks) (line stream : ℕ) where
  open_is : (set : Bool) (u : SubKind) → open_seen (stream_read plan s (host_port line) stream) set u
      ≡ open_facts (ports_of plan (state_of_whole plan s)) line stream set u
  open_is set u = open_by (is_closed plan line stream) (find plan (state_of_whole plan s) (host_port line) stream) set u

  opens_in : (set : Bool) → opens_seen (stream_read plan s (host_port line) stream) set
      ≡ open_facts (ports_of plan (state_of_whole plan s)) line stream set Pr
      ++ open_facts (ports_of plan (state_of_whole plan s)) line stream set Npr
      ++ open_facts (ports_of plan (state_of_whole plan s)) line stream set Cpl
  opens_in set = (λ i. open_is set Pr i ++ open_is set Npr i ++ open_is set Cpl i)

  pub opens_are : (q : StreamStage) → opens_read plan s line stream q
      ≡ opens_facts (ports_of plan (state_of_whole plan s)) line stream q
  opens_are Idle = refl
  opens_are (Establishing draw n) = refl
  opens_are (Up set draw) = opens_in (not set)
  opens_are (Refreshing set draw n) = refl
  opens_are (Stopping n) = refl
