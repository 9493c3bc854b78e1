use Rattle.std.proofs.Common.{◌≡◌, ℕ}
use Rattle.trusted_memory.specs.Writes.{write_of}
use Rattle.guarded_memory.specs.declared.names.PageName.{PageName}
use Rattle.guarded_memory.specs.Contents.{GuardedMemory, mmio_byte, keeps_page}
use Rattle.guarded_memory.proofs.Setting.{set_to}
use Rattle.guarded_memory.proofs.guarded.Guarded.set_all.Given as goal

-- bytes became these, and nothing else changed but pages that are there
pub record HasSet (old new : GuardedMemory) (bytes : ℕ → ℕ → ℕ → ℕ) : Type 0 where
  pub bytes_are : (j c a : ℕ) → mmio_byte new j c a ≡ bytes j c a
  pub pages : (q : PageName) → keeps_page new q ≡ keeps_page old q
  pub kept : new ≡ record old { pages = new.pages }

-- the bytes of the payload before place k are set
abbrev pub invariant-loop-k : goal.invariant-loop-k
invariant-loop-k l = HasSet l.initial.self l.self
    (set_to l.interface l.bar l.offset (write_of l.write) l.k (mmio_byte l.initial.self))
