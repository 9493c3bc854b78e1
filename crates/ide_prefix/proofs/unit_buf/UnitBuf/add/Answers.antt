use Rattle.std.proofs.Common.{◌≡◌, ℕ, ◌+◌, ◌<◌, ◌≤◌, false, List, ◌++◌, length, sym, ap, ◌∙◌, arith, append_assoc}
use Rattle.std.proofs.Common.{length-append}
use Rattle.std.specs.Vec.{vec_capacity}
use Rattle.ide_prefix.specs.CollectedUnits.{has_room}
use Rattle.ide_prefix.proofs.Views.{has_room-less, has_room-full, view-full, view-added, laid-added}
use Rattle.ide_prefix.proofs.unit_buf.UnitBuf.add.Goals as goal

full : (c : goal.Then-len-self) → has_room c.args.self.now ≡ false
full c = has_room-full _ _ _ _ c.self.inside.ends.items c.args.self.now c.self.view_is
    (omega (arith, c.if-len-self.true, c.len.ensures.value))

pub returns-then-len-self-clause-answer : goal.returns-then-len-self-clause-answer
returns-then-len-self-clause-answer c = sym (full c)

pub returns-then-len-self-clause-unit : goal.returns-then-len-self-clause-unit
returns-then-len-self-clause-unit c = view-full c.args.self.now _ _ (full c)

less : (c : goal.After-push) → length c.self.inside.ends.items < c.self.inside.aggregation
less c = omega (arith, c.if-len-self.false, c.len.ensures.value)

head : goal.After-push → List ℕ
head c = c.args.prefix.now ++ c.args.header.now

heads : (c : goal.After-push) → c.append-2.new.out.items ≡ c.self.inside.heads.items ++ head c
unfolding head
heads c =
    c.append-2.ensures.items
    ∙ ap (λ (x : List ℕ). x ++ c.args.header.now) c.append.ensures.items
    ∙ append_assoc c.self.inside.heads.items c.args.prefix.now c.args.header.now

head_long : (c : goal.After-push) → length (head c) ≡ 4 + length c.args.header.now
unfolding head
head_long c = omega (arith, length-append c.args.prefix.now c.args.header.now, c.told-prefix)

head_ends : (c : goal.After-push) → c.len-2.result ≡ length c.self.inside.heads.items + length (head c)
unfolding head
head_ends c =
    omega (
      arith,
      c.len-2.ensures,
      c.append-2.ensures.len,
      c.append.ensures.len,
      length-append c.args.prefix.now c.args.header.now,
      c.self.inside.heads.ok.0,
    )

body_ends : (c : goal.After-push) → c.len-3.result ≡ length c.self.inside.bodies.items + length c.args.body.now
body_ends c = omega (arith, c.len-3.ensures, c.append-3.ensures.len, c.self.inside.bodies.ok.0)

pub invariant_of-self : goal.invariant_of-self
unfolding head
invariant_of-self c =
    let room : vec_capacity c.self.inside.heads ≤ vec_capacity c.append-2.new.out =
    omega (arith, c.append.ensures.capacity, c.append-2.ensures.capacity) in
    rw (c.push.ensures.items, heads c, c.append-3.ensures.items)
    (laid-added _ _ _ _ _ _ _ _ _ _ _ _ _ c.self.invariant (less c)
    (omega (arith, head_long c, c.requires.header_short)) c.requires.body_short room c.append-3.ensures.capacity
    (head_ends c) (body_ends c))

pub returns-clause-answer : goal.returns-clause-answer
returns-clause-answer c = sym (has_room-less _ _ _ _ c.self.inside.ends.items c.args.self.now c.self.view_is (less c))

pub returns-clause-unit : goal.returns-clause-unit
unfolding head
returns-clause-unit c =
    rw (c.push.ensures.items, heads c, c.append-3.ensures.items)
    (view-added _ _ _ _ _ _ _ _ _ c.args.self.now c.self.view_is (less c) c.self.invariant.rising (head_ends c)
    (body_ends c))
