use Rattle.std.proofs.Common.{◌≡◌, arith, length, refl}
use Rattle.std.proofs.Math.Nat.{le-max_left}
use Rattle.file_runs.proofs.Fronts.{gave_of, gave_on, start, whole}
use Rattle.file_runs.proofs.FileNames.{asks_more, asks_none}
use Rattle.file_runs.proofs.front.read_front.Goals as goal

pub loop-buf-init : goal.loop-buf-init
loop-buf-init g c = rw c.new-bytes.ensures.items (record {
  same = refl;
  faults = refl;
  given = omega arith;
  cap = omega arith;
  names = asks_none (λ other. other ≡ c.args.name.now) (g.S.Shelf.seen c.args.shelf.now).asked;
  pieces = le-max_left _ 4096;
  most = omega arith;
  read = start (g.S.Shelf.seen c.args.shelf.now).contents c.args.name.now;
})

pub returns-then-n-eq0-clause-bytes : goal.returns-then-n-eq0-clause-bytes
returns-then-n-eq0-clause-bytes g c =
    let told = (g.S.Shelf.seen c.args.shelf.now).contents in
    let got = rw c.loop-buf.invariant.same at c.in_ok-n.ensures.bytes in
    whole told c.args.name.now c.read_on.new.bytes.items c.args.most ((got c.loop-buf.invariant.read).1 c.if-n-eq0.true)
    (omega (arith, c.in_ok-n.ensures.more, c.in_ok-n.ensures.bound))

pub returns-in_err-n-clause-within : goal.returns-in_err-n-clause-within
returns-in_err-n-clause-within g c =
    let inv = c.loop-buf.invariant in
    gave_on (g.S.Shelf.seen c.args.shelf.now).contents c.args.name.now (length c.loop-buf.bytes.items) _ _ _
    (inv.given, inv.cap) ((rw inv.same at c.in_err-n.ensures.within) inv.read)

pub returns-then-n-eq0-clause-within : goal.returns-then-n-eq0-clause-within
returns-then-n-eq0-clause-within g c =
    let inv = c.loop-buf.invariant in
    gave_on (g.S.Shelf.seen c.args.shelf.now).contents c.args.name.now (length c.loop-buf.bytes.items) _ _ _
    (inv.given, inv.cap) ((rw inv.same at c.in_ok-n.ensures.within) inv.read)

pub returns-clause-within : goal.returns-clause-within
returns-clause-within g c =
    let inv = c.loop-buf.invariant in
    gave_of (g.S.Shelf.seen c.args.shelf.now).contents c.args.name.now c.loop-buf.bytes.items _ _ inv.read
    (inv.given, inv.cap)

pub returns-in_err-n-clause-file_names : goal.returns-in_err-n-clause-file_names
returns-in_err-n-clause-file_names g c =
    asks_more (λ other. other ≡ c.args.name.now) _ _ _ c.loop-buf.invariant.names c.in_err-n.ensures.file_names

pub returns-then-n-eq0-clause-file_names : goal.returns-then-n-eq0-clause-file_names
returns-then-n-eq0-clause-file_names g c =
    asks_more (λ other. other ≡ c.args.name.now) _ _ _ c.loop-buf.invariant.names c.in_ok-n.ensures.file_names
