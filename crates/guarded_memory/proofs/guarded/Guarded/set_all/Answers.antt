use Rattle.std.proofs.Common.{ap, ◌∙◌}
use Rattle.trusted_memory.specs.Writes.{write_of}
use Rattle.guarded_memory.specs.Contents.{GuardedMemory, mmio_byte}
use Rattle.guarded_memory.proofs.Setting.{set_next}
use Rattle.guarded_memory.proofs.guarded.Guarded.set_all.Goals as goal

pub loop-k-preserved : goal.loop-k-preserved
loop-k-preserved c = record {
  bytes_are = set_next c.args.interface c.args.bar c.args.offset (write_of c.args.write.now) c.loop-k.k
      (mmio_byte c.args.self.now) (mmio_byte c.loop-k.self) (mmio_byte c.set_enabled.new.self)
      c.loop-k.invariant.bytes_are c.set_enabled.ensures.bytes;
  pages = λ q. c.set_enabled.ensures.pages q ∙ c.loop-k.invariant.pages q;
  kept = c.set_enabled.ensures.kept
      ∙ ap (λ (m : GuardedMemory). record m { pages = c.set_enabled.new.self.pages }) c.loop-k.invariant.kept;
}
