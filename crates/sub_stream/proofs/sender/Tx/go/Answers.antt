use Rattle.std.proofs.Common.{◌≡◌, ℕ, Bool, true, false, not, ◌&&◌, ◌==◌, if◌then◌else◌, length, refl, sym, ap, ◌∙◌}
use Rattle.std.proofs.Common.{subst, arith}
use Rattle.key_slots.specs.declared.slot.Slot.{Slot as KeySlot}
use Rattle.key_slots.specs.declared.slot.Slot.TheVariants.{Empty, Programmed, Armed, Live}
use Rattle.key_slots.specs.{is_one, SlotPair, slot_in, with_both, after_go, armed_pair}
use Rattle.sub_stream.specs.Gathered.{Gathered}
use Rattle.sub_stream.specs.Seen.{is_programmed}
use Rattle.sub_stream.specs.Senders.{Sender, IsSender, gone_sender}
use Rattle.sub_stream.proofs.Sending.{goes, as_sender}
use Rattle.sub_stream.proofs.sender.Tx.go.Goals as goal

none_open : (b : Bool) → not b ≡ false → b ≡ false → ⊥
none_open true e f = cc
none_open false e f = cc

kept_at : (k b : Bool) (mine other : KeySlot) (aggregation limit units : ℕ) (unit : Gathered)
    → not (length unit.packets == 0) ≡ b → IsSender aggregation limit units (with_both true k (mine, other)) unit
    → IsSender aggregation limit (if is_programmed mine && not b then 0 else units)
    (with_both true k (after_go true b mine other)) unit
kept_at k true Empty other aggregation limit units unit e inv = inv
kept_at k true (Armed held) other aggregation limit units unit e inv = inv
kept_at k true (Live held) other aggregation limit units unit e inv = inv
kept_at k false Empty other aggregation limit units unit e inv = inv
kept_at k false (Armed held) other aggregation limit units unit e inv = inv
kept_at k false (Live held) other aggregation limit units unit e inv = inv
kept_at true true (Programmed held) other aggregation limit units unit e inv = record {
  sender = refl;
  one_live = inv.one_live;
  some_aggregation = inv.some_aggregation;
  small_aggregation = inv.small_aggregation;
  same_aggregation = inv.same_aggregation;
  fits = inv.fits;
  worn = inv.worn;
  room = inv.room;
  closed = inv.closed;
}
kept_at false true (Programmed held) other aggregation limit units unit e inv = record {
  sender = refl;
  one_live = inv.one_live;
  some_aggregation = inv.some_aggregation;
  small_aggregation = inv.small_aggregation;
  same_aggregation = inv.same_aggregation;
  fits = inv.fits;
  worn = inv.worn;
  room = inv.room;
  closed = inv.closed;
}
kept_at true false (Programmed held) other aggregation limit units unit e inv = record {
  sender = refl;
  one_live = refl;
  some_aggregation = inv.some_aggregation;
  small_aggregation = inv.small_aggregation;
  same_aggregation = inv.same_aggregation;
  fits = inv.fits;
  worn = λ live. omega arith;
  room = λ some. absurd (none_open (length unit.packets == 0) e some);
  closed = λ none. absurd (cc);
}
kept_at false false (Programmed held) other aggregation limit units unit e inv = record {
  sender = refl;
  one_live = refl;
  some_aggregation = inv.some_aggregation;
  small_aggregation = inv.small_aggregation;
  same_aggregation = inv.same_aggregation;
  fits = inv.fits;
  worn = λ live. omega arith;
  room = λ some. absurd (none_open (length unit.packets == 0) e some);
  closed = λ none. absurd (cc);
}

-- a GO keeps what always holds of a sender
kept : (k : Bool) (aggregation limit units : ℕ) (pair : SlotPair) (unit : Gathered)
    → IsSender aggregation limit units pair unit → IsSender aggregation limit
    (if is_programmed (slot_in pair k) && not (not (length unit.packets == 0)) then 0 else units)
    (armed_pair pair k (not (length unit.packets == 0))) unit
kept k aggregation limit units pair unit inv =
    let b : Bool = not (length unit.packets == 0) in
    let old : IsSender aggregation limit units (record { sender = true; zero = pair.zero; one = pair.one }) unit =
    subst (λ (x : SlotPair). IsSender aggregation limit units x unit) (as_sender pair inv.sender) inv in
    subst (λ (s : Bool). IsSender aggregation limit (if is_programmed (slot_in pair k) && not b then 0 else units)
    (with_both s k (after_go s b (slot_in pair k) (slot_in pair (not k)))) unit) (sym inv.sender) (by_set k old)
  where
    by_set : (k : Bool) → IsSender aggregation limit units (record { sender = true; zero = pair.zero; one = pair.one })
        unit
        → IsSender aggregation limit
        (if is_programmed (slot_in pair k) && not (not (length unit.packets == 0)) then 0 else units)
        (with_both true k (after_go true (not (length unit.packets == 0)) (slot_in pair k) (slot_in pair (not k)))) unit
    by_set true old = kept_at true _ pair.one pair.zero aggregation limit units unit refl old
    by_set false old = kept_at false _ pair.zero pair.one aggregation limit units unit refl old

pub invariant_of-self : goal.invariant_of-self
invariant_of-self c =
    rw (c.arm.ensures.slots, c.units_after_go-self-inside.ensures, c.count-unfinished.ensures.count)
    (kept (is_one c.args.set) c.self.inside.aggregation c.self.inside.limit c.self.inside.units c.self.inside.slots
    c.self.inside.unit c.self.invariant)

pub returns-clause-sender : goal.returns-clause-sender
returns-clause-sender c =
    rw (c.arm.ensures.slots, c.units_after_go-self-inside.ensures, c.count-unfinished.ensures.count)
    (ap (λ x. record {
      stream = c.self.inside.stream;
      sub = c.self.inside.sub;
      aggregation = c.self.inside.aggregation;
      limit = c.self.inside.limit;
      ahead = c.self.inside.unit.ahead;
      slots = x;
    })
    (goes (is_one c.args.set) c.self.inside.slots c.self.inside.units c.self.inside.unit.packets c.self.invariant.sender
    c.self.invariant.closed)
    ∙ ap (λ (tx : Sender). gone_sender tx (is_one c.args.set)) c.self.view_is)
