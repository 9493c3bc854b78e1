use Rattle.std.proofs.Common.{◌≤◌, ◌+◌, ◌++◌, length}
use Rattle.file_runs.specs.Gathering.{SoFarBy, due_behind}
use Rattle.file_runs.proofs.files.run_piece.Given as goal

abbrev pub invariant-loop-end : goal.invariant-loop-end
invariant-loop-end g l = record {
  so_far : (past : g.W.LineWork.Past) → g.W.LineWork.follows l.initial.work past → SoFarBy (g.W.LineWork.follows l.work)
      (λ over left. due_behind g.W.LineWork.advance g.W.LineWork.closing over l.initial.lines.number past
      l.initial.lines.unended.items (l.piece ++ left))
      (λ later over left. due_behind g.W.LineWork.advance g.W.LineWork.closing over l.lines.number later
      l.lines.unended.items (l.rest ++ left)) l.gathered.text.items (g.O.Sink.seen l.initial.out) (g.O.Sink.seen l.out);
  numbered : l.lines.number + length l.rest ≤ l.initial.lines.number + length l.piece;
  fits : g.W.LineWork.fits l.work l.lines.number;
}

abbrev pub decreases-loop-end : goal.decreases-loop-end
decreases-loop-end g l = length l.rest
