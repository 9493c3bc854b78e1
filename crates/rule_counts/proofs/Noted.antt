-- What is noted of seals is what the history says: verdicts describe what they seal, and a draw is made by an establish
-- exactly if it begins.
use Rattle.std.proofs.Common.{◌≡◌, ℕ, ◌==◌, ◌&&◌, Bool, true, false, List, [], ◌∷◌, ◌++◌, length, map, refl, sym, ap}
use Rattle.std.proofs.Common.{◌∙◌, arith, append_assoc, Option, Some, None}
use Rattle.std.proofs.lemmas.List.{append-nil, map-append}
use Rattle.std.proofs.lemmas.Bool.{eq-eqb, ne_eqb}
use Rattle.std.specs.Prelude.{if◌then◌else◌, is_some, not}
use Rattle.ide_types.specs.declared.plan.Plan.{Plan}
use Rattle.ide_prefix.specs.Packet.{Packet}
use Rattle.script_events.specs.declared.event.Event.{Event}
use Rattle.script_events.specs.declared.event.Event.TheVariants as event
use Rattle.event_verdicts.specs.declared.verdict.Operation.TheVariants as op
use Rattle.event_verdicts.specs.declared.verdict.Verdict.{Verdict}
use Rattle.event_verdicts.specs.declared.verdict.Verdict.TheVariants as v
use Rattle.event_verdicts.specs.declared.verdict.SealedPacket.{SealedPacket}
use Rattle.spec_keys.specs.Operations.{Begun, Establishing, Idle, Reach, Refreshing, Stopping, StreamStage, Up}
use Rattle.spec_keys.specs.Operations.{Work, makes_draw, manager_after_operation, reach_of, work_of}
use Rattle.script_events.specs.declared.event.Loss.{Loss}
use Rattle.spec_keys.specs.History.{History, begins_keyed, draws, op_of}
unfoldable use Rattle.spec_keys.specs.History.{base, manager}
use Rattle.spec_links.specs.History.{SealedList, packet_of, sub_stream_of, sub_stream_packets, with_sealed}
unfoldable use Rattle.spec_links.specs.History.{sealed_packets}
use Rattle.spec_links.specs.Units.{open_unit}
use Rattle.rule_counts.specs.Seals.{AreSeals, SealsView, base_after, bases_noted, noted, sealed_in}
use Rattle.rule_counts.specs.declared.seals.Base.{Base}

described : SealedList → List SealedPacket
described xs = map (λ (x : SealedPacket × Packet). x.0) xs

-- ---- packets

described_more : (plan : Plan) (ahead : SealedPacket → List ℕ) (bytes : List ℕ) (ds : List SealedPacket)
    (xs : SealedList) → described (with_sealed plan ahead bytes ds xs) ≡ described xs ++ ds
unfolding described
described_more plan ahead bytes [] xs = sym (append-nil (map (λ (x : SealedPacket × Packet). x.0) xs))
described_more plan ahead bytes (d ∷ ds) xs =
    let p = packet_of plan (ahead d) bytes d (open_unit (sub_stream_packets xs (sub_stream_of d) d.draw)) in
    described_more plan ahead bytes ds (xs ++ (d, p) ∷ [])
    ∙ rw (map-append, append_assoc) refl

packets_next : (plan : Plan) (h : History) (e : Event) (w : Verdict)
    → described (sealed_packets plan ((e, w) ∷ h)) ≡ described (sealed_packets plan h) ++ sealed_in w
unfolding sealed_packets
packets_next plan h e (v.Sealed ds) = described_more plan _ _ ds (sealed_packets plan h)
packets_next plan h e w = sym (append-nil (described (sealed_packets plan h)))

-- ---- establishes

draws_key : (q : StreamStage) (n : ℕ) → makes_draw (work_of op.Establish q n).operation ≡ true
draws_key Idle n = refl
draws_key (Establishing draw next) n = refl
draws_key (Up set draw) n = refl
draws_key (Refreshing set draw next) n = refl
draws_key (Stopping next) n = refl

-- one more, if both
one_of : (b c : Bool) (bs : List Begun) (x : Begun) → c ≡ true
    → (length bs == length (if b && c then x ∷ bs else bs)) ≡ not (b && true)
one_of true c bs x is = rw is (ne_eqb (length bs) (length (x ∷ bs)) (λ same. omega (arith, same)))
one_of false c bs x is = eq-eqb (length bs) (length bs) refl

none_of : (b : Bool) (bs : List Begun) → (length bs == length bs) ≡ not (b && false)
none_of true bs = eq-eqb (length bs) (length bs) refl
none_of false bs = eq-eqb (length bs) (length bs) refl

module _ (h : History) (line stream : ℕ) where
  abbrev work : Work
  work = work_of op.Establish (op_of h line stream) (draws h)

  by_reach : (r : Option Reach)
      → (draws h == length (manager_after_operation (manager h) op.Establish line stream r).begun)
      ≡ not (work.begins && is_some r)
  by_reach None = none_of work.begins (manager h).begun
  by_reach (Some r) =
      one_of work.begins (makes_draw work.operation) (manager h).begun
      (record { line = line; stream = stream; set = work.set }) (draws_key (op_of h line stream) (draws h))

  -- an establish makes a draw exactly if it begins
  drawn : (loss : Option Loss) (w : Verdict) → (draws h == draws ((event.Establish line stream loss, w) ∷ h))
      ≡ not (begins_keyed (op_of h line stream) (draws h) w)
  unfolding manager
  drawn loss w = by_reach (reach_of op.Establish w)

after_last : (found : ℕ) (bs : List Base) (b : Base) (line stream : ℕ) → base_after found (bs ++ b ∷ []) line stream
    ≡ (if (b.line == line) && (b.stream == stream) then b.draw else base_after found bs line stream)
after_last found [] b line stream = refl
after_last found (a ∷ bs) b line stream =
    after_last (if (a.line == line) && (a.stream == stream) then a.draw else found) bs b line stream

if_began : (x y : Bool) (m n : ℕ) → (if x && y then m else n) ≡ (if x && y && true then m else n)
if_began true true m n = refl
if_began true false m n = refl
if_began false y m n = refl

if_none_began : (x y : Bool) (m n : ℕ) → n ≡ (if x && y && false then m else n)
if_none_began true true m n = refl
if_none_began true false m n = refl
if_none_began false y m n = refl

bases_next : (h : History) (e : Event) (w : Verdict) (bs : List Base)
    → ((line stream : ℕ) → base_after 0 bs line stream ≡ base h line stream) → (line stream : ℕ)
    → base_after 0 (bases_noted bs e (draws h == draws ((e, w) ∷ h)) (draws h)) line stream
    ≡ base ((e, w) ∷ h) line stream
unfolding base
bases_next h (event.Establish l s loss) w bs same line stream =
    ap (λ (none : Bool). base_after 0 (if none then bs else bs ++ b ∷ []) line stream) (drawn h l s loss w)
    ∙ by (begins_keyed (op_of h l s) (draws h) w)
  where
    b : Base
    b = record { line = l; stream = s; draw = draws h }

    by : (began : Bool) → base_after 0 (if not began then bs else bs ++ b ∷ []) line stream
        ≡ (if (l == line) && (s == stream) && began then draws h else base h line stream)
    by true =
        after_last 0 bs b line stream
        ∙ ap (λ (n : ℕ). if (l == line) && (s == stream) then draws h else n) (same line stream)
        ∙ if_began (l == line) (s == stream) (draws h) (base h line stream)
    by false = same line stream ∙ if_none_began (l == line) (s == stream) (draws h) (base h line stream)
bases_next h e w bs same line stream = same line stream

pub seals_next : (plan : Plan) (h : History) (e : Event) (w : Verdict) (s : SealsView) (before after : ℕ)
    → AreSeals plan s h → before ≡ draws h → after ≡ draws ((e, w) ∷ h)
    → AreSeals plan (noted s e w before after) ((e, w) ∷ h)
unfolding described
seals_next plan h e w s before after are before_is after_is = record {
  packets_are = ap (λ (ds : List SealedPacket). ds ++ sealed_in w) are.packets_are ∙ sym (packets_next plan h e w);
  bases_are = λ line stream.
      (λ i. base_after 0 (bases_noted s.bases e (before_is i == after_is i) (before_is i)) line stream)
      ∙ bases_next h e w s.bases are.bases_are line stream;
}

pub no_seals : (plan : Plan) → AreSeals plan (record { packets = []; bases = [] }) []
unfolding sealed_packets base
no_seals plan = record { packets_are = refl; bases_are = λ line stream. refl }
