-- A verdict that is due says that a tag verified exactly if one did, and a packet whose tag is looked at passed the
-- checks before.
use Rattle.std.proofs.Common.{
  ◌≡◌,
  ℕ,
  ◌&&◌,
  Bool,
  true,
  false,
  Option,
  Some,
  None,
  Result,
  Ok,
  Err,
  refl,
  ap,
  arith,
  ◌∙◌,
  subst,
}
use Rattle.std.specs.Prelude.{◌||◌, List, if◌then◌else◌, not}
use Rattle.ide_types.specs.declared.port.PortName.{PortName}
use Rattle.ide_types.specs.declared.plan.Plan.{Plan}
use Rattle.ide_types.specs.declared.sub.FailCause.TheVariants as fail
use Rattle.event_verdicts.specs.declared.verdict.Effect.{Effect}
use Rattle.event_verdicts.specs.declared.verdict.Verdict.{Verdict}
use Rattle.event_verdicts.specs.declared.verdict.Verdict.TheVariants as v
use Rattle.ide_prefix.specs.Packet.{Packet}
use Rattle.ide_prefix.specs.Reading.{CutValue, IdePacket, PlainTlp, cut_of}
use Rattle.ide_prefix.specs.declared.fault.PacketFault.{PacketFault}
use Rattle.spec_keys.specs.History.{History}
use Rattle.spec_links.specs.History.{ArrivedBytes, has_failed, meets_counts, on_draw, received_in}
use Rattle.spec_links.specs.Plan.{has_stream}
use Rattle.spec_links.specs.Ports.{goes_through}
use Rattle.spec_links.specs.Due.{Ending, before_tag_of_cut, ending_due, is_mixed, is_overfull, is_verified}
use Rattle.spec_links.specs.Due.{receiving_sub_stream, through_due, under_keys, unit_packets_ended}
unfoldable use Rattle.spec_links.specs.Due.{before_tag}
use Rattle.spec_links.proofs.Causes.{Passed}
use Rattle.rule_counts.specs.Forged.{is_forged_ending, was_sealed}
use Rattle.rule_counts.specs.Unsealed.{is_verified_by}

-- ---- verdicts before the tag is looked at

-- it is of no tag that verified
quiet : Result Ending Verdict → Bool
quiet (Ok x) = true
quiet (Err w) = not (is_verified_by w)

by_test : (b : Bool) (x y : Result Ending Verdict) → quiet x ≡ true → quiet y ≡ true → quiet (if b then x else y) ≡ true
by_test true x y one other = one
by_test false x y one other = other

keys_quiet : (plan : Plan) (h : History) (port : PortName) (p : Packet) (o other : Option ℕ)
    → quiet (under_keys plan h port p o other) ≡ true
unfolding quiet
keys_quiet plan h port p None None = refl
keys_quiet plan h port p None (Some i) = refl
keys_quiet plan h port p (Some j) other =
    by_test (is_mixed plan h (receiving_sub_stream port p) other
    || is_overfull plan h (receiving_sub_stream port p) j p.prefix.m) _ _ refl (by_test p.prefix.m _ _ refl refl)

cut_quiet : (plan : Plan) (h : History) (port : PortName) (r : Result CutValue PacketFault)
    → quiet (before_tag_of_cut plan h port r) ≡ true
unfolding quiet
cut_quiet plan h port (Err f) = refl
cut_quiet plan h port (Ok PlainTlp) = refl
cut_quiet plan h port (Ok (IdePacket p)) =
    by_test (not (has_stream plan port p.prefix.stream)) _ _ refl
    (by_test (has_failed h port p.prefix.stream) _ _ refl
    (keys_quiet plan h port p (on_draw h port (receiving_sub_stream port p) p.prefix.k)
    (on_draw h port (receiving_sub_stream port p) (not p.prefix.k))))

tag_quiet : (plan : Plan) (h : History) (a : ArrivedBytes) → quiet (before_tag plan h a) ≡ true
unfolding before_tag quiet
tag_quiet plan h a = by_test (goes_through plan a.port a.bytes) _ _ refl (cut_quiet plan h a.port (cut_of a.bytes))

-- ---- the verdict

checks_say : (port : PortName) (x : Ending) (effects : List Effect) (verified counts : Bool)
    → is_verified_by (if not verified then v.Fail port x.unit.stream x.unit.sub fail.Tag
    else if not counts then v.Fail port x.unit.stream x.unit.sub fail.Order
    else v.Accepted port x.unit effects) ≡ verified
checks_say port x effects true true = refl
checks_say port x effects true false = refl
checks_say port x effects false counts = refl

not_so : (b : Bool) → not b ≡ true → b ≡ false
not_so true is = absurd cc
not_so false is = refl

-- forged, if the answer is so for each tag that verifies
pub forged_by : (plan : Plan) (h : History) (a : ArrivedBytes) (unsealed : Bool)
    → ((x : Ending) → before_tag plan h a ≡ Ok x → is_verified plan h a.port x ≡ true
    → unsealed ≡ not (was_sealed plan h a.port x))
    → (unsealed && is_verified_by (ending_due plan h a.port (before_tag plan h a)))
    ≡ is_forged_ending plan h a.port (before_tag plan h a)
unfolding quiet
forged_by plan h a unsealed so = by (before_tag plan h a) refl (tag_quiet plan h a)
  where
    never : (b : Bool) → (b && false) ≡ false
    never true = refl
    never false = refl

    only : (b : Bool) → (b && true) ≡ b
    only true = refl
    only false = refl

    by_tag : (x : Ending) → before_tag plan h a ≡ Ok x → (verified : Bool) → is_verified plan h a.port x ≡ verified
        → (unsealed && verified) ≡ (verified && not (was_sealed plan h a.port x))
    by_tag x tested true is = only unsealed ∙ so x tested is
    by_tag x tested false is = never unsealed

    by : (r : Result Ending Verdict) → before_tag plan h a ≡ r → quiet r ≡ true
        → (unsealed && is_verified_by (ending_due plan h a.port r)) ≡ is_forged_ending plan h a.port r
    by (Err w) tested silent = rw (not_so (is_verified_by w) silent) (never unsealed)
    by (Ok x) tested silent =
        ap (λ (b : Bool). unsealed && b) (checks_say a.port x _ (is_verified plan h a.port x)
        (meets_counts plan h (received_in a.port x.unit) (unit_packets_ended plan h a.port x)))
        ∙ by_tag x tested (is_verified plan h a.port x) refl

-- ---- what a packet has whose tag is looked at

pub record IsEnding (plan : Plan) (h : History) (a : ArrivedBytes) (x : Ending) : Type 0 where
  pub cut : cut_of a.bytes ≡ Ok (IdePacket x.packet)
  pub passed : Passed plan h a.port x.packet x.unit
  pub ends : x.packet.prefix.m ≡ true

read_on : (b : Bool) (w : Verdict) (r : Result Ending Verdict) (x : Ending) → (if b then Err w else r) ≡ Ok x → r ≡ Ok x
read_on true w r x is = absurd cc
read_on false w r x is = is

packet_is : (plan : Plan) (h : History) (port : PortName) (p : Packet) (x : Ending)
    → before_tag_of_cut plan h port (Ok (IdePacket p)) ≡ Ok x
    → (p ≡ x.packet) × Passed plan h port p x.unit × (p.prefix.m ≡ true)
packet_is plan h port p x is =
    let passed : Passed plan h port p x.unit =
    record {
      known = grind arith;
      secure = grind arith;
      live = grind arith;
      alone = grind arith;
      room = grind arith;
      named = grind arith;
    } in
    (grind arith, passed, grind arith)

pub ending_is : (plan : Plan) (h : History) (a : ArrivedBytes) (x : Ending) → before_tag plan h a ≡ Ok x
    → IsEnding plan h a x
unfolding before_tag
ending_is plan h a x tested = by (cut_of a.bytes) refl
    (read_on (goes_through plan a.port a.bytes) (through_due plan a.port) _ x tested)
  where
    by : (r : Result CutValue PacketFault) → cut_of a.bytes ≡ r → before_tag_of_cut plan h a.port r ≡ Ok x
        → IsEnding plan h a x
    by (Err f) cut is = absurd cc
    by (Ok PlainTlp) cut is = absurd cc
    by (Ok (IdePacket p)) cut is =
        let told = packet_is plan h a.port p x is in
        record {
          cut = cut ∙ ap (λ (q : Packet). Ok (IdePacket q)) told.0;
          passed = subst (λ (q : Packet). Passed plan h a.port q x.unit) told.0 told.1;
          ends = subst (λ (q : Packet). q.prefix.m ≡ true) told.0 told.2;
        }
