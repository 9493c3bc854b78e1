use Rattle.std.proofs.Common.{◌≡◌, ◌≤◌, ◌-◌, ◌+◌, length}
use Rattle.cli_files.specs.Outside.{AsksFor, capped_count}
use Rattle.file_runs.specs.Front.{AskedPieces, IsReadIfTold}
use Rattle.file_runs.proofs.front.read_front.Given as goal

abbrev pub invariant-loop-buf : goal.invariant-loop-buf
invariant-loop-buf g l = record {
  same : (g.S.Shelf.seen l.shelf).contents ≡ (g.S.Shelf.seen l.initial.shelf).contents;
  faults : (g.S.Shelf.seen l.shelf).faults ≡ (g.S.Shelf.seen l.initial.shelf).faults;
  given : capped_count (g.S.Shelf.seen l.initial.shelf).given (length l.bytes.items) ≤ (g.S.Shelf.seen l.shelf).given;
  cap : (g.S.Shelf.seen l.shelf).given ≤ (g.S.Shelf.seen l.initial.shelf).given + length l.bytes.items;
  names : AsksFor l.name (g.S.Shelf.seen l.initial.shelf).asked (g.S.Shelf.seen l.shelf).asked;
  pieces : AskedPieces (g.S.Shelf.seen l.initial.shelf).longest (g.S.Shelf.seen l.shelf).longest;
  most : length l.bytes.items ≤ l.most;
  read : IsReadIfTold (g.S.Shelf.seen l.initial.shelf).contents l.name l.bytes.items;
}

abbrev pub decreases-loop-buf : goal.decreases-loop-buf
decreases-loop-buf g l = l.most - length l.bytes.items
