use Rattle.std.proofs.Common.{◌≡◌, ◌≤◌, ◌-◌, ◌+◌, []}
use Rattle.cli_files.specs.Outside.{AsksFor, capped_count}
use Rattle.file_runs.specs.Front.{AskedPieces}
use Rattle.file_runs.proofs.FileFronts.{FileSoFarBy}
use Rattle.file_runs.proofs.files.run_lines.Given as goal

abbrev pub invariant-loop-n : goal.invariant-loop-n
invariant-loop-n g l = record {
  same : (g.S.Shelf.seen l.shelf).contents ≡ (g.S.Shelf.seen l.initial.shelf).contents;
  faults : (g.S.Shelf.seen l.shelf).faults ≡ (g.S.Shelf.seen l.initial.shelf).faults;
  given : capped_count (g.S.Shelf.seen l.initial.shelf).given l.at ≤ (g.S.Shelf.seen l.shelf).given;
  cap : (g.S.Shelf.seen l.shelf).given ≤ (g.S.Shelf.seen l.initial.shelf).given + l.at;
  names : AsksFor l.name (g.S.Shelf.seen l.initial.shelf).asked (g.S.Shelf.seen l.shelf).asked;
  pieces : AskedPieces (g.S.Shelf.seen l.initial.shelf).longest (g.S.Shelf.seen l.shelf).longest;
  most : l.at ≤ 16777216;
  numbered : l.lines.number ≤ l.at + 1;
  fits : g.W.LineWork.fits l.work l.lines.number;
  empty : l.gathered.text.items ≡ [];
  so_far : (past : g.W.LineWork.Past) → g.W.LineWork.follows l.initial.work past
      → FileSoFarBy (g.W.LineWork.follows l.work) g.W.LineWork.advance g.W.LineWork.closing past
      (g.S.Shelf.seen l.initial.shelf).contents l.name l.at l.lines.number l.lines.unended.items
      (g.O.Sink.seen l.initial.out) (g.O.Sink.seen l.out);
}

abbrev pub decreases-loop-n : goal.decreases-loop-n
decreases-loop-n g l = 16777217 - l.at
