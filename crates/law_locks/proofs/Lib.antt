pub mod Fronts
pub mod SecurePeers
pub mod Zeroed
pub mod Reported
pub mod TrueViews
pub mod Runs
pub mod OneLock
pub mod Answered
pub mod AllLaws
-- what crates above name
pub use Rattle.law_key_facts.proofs.Draws.{draws}
pub use Rattle.spec_links.proofs.HopFirst.{drop_first}
pub use Rattle.law_reads.proofs.Oldest.{first_means}
pub use Rattle.law_memory.proofs.Causes.{interface_cause}
pub use Rattle.law_memory.proofs.Found.{IsNew, all_get, cause_at, cause_before, get_less, head_of, live_port}
pub use Rattle.law_memory.proofs.Found.{trusted_before}
pub use Rattle.law_memory.proofs.Memory.{memory_law}
pub use Rattle.law_memory.proofs.OfReads.{host_answer, owned_means, read_law, under_means}
pub use Rattle.law_memory.proofs.Origins.{Admitted, For, accepted_known, admitted_means, at_device_end, at_port}
pub use Rattle.law_memory.proofs.Origins.{got_next, owner_means, sent_at, trusted_there}
pub use Rattle.law_mmio.proofs.Guards.{of_effect, run_state}
pub use Rattle.law_mmio.proofs.RunLocks.{same_locks}
pub use Rattle.law_mmio.proofs.SameWrites.{effect_there, effects_there, some_is}
pub use Rattle.law_mmio.proofs.Units.{effect_at}
pub use Rattle.law_mmio.proofs.Secure.{secure_parts}
pub use Rattle.law_mmio.proofs.Starts.{keeps_floors}
pub use Rattle.law_memory.proofs.AllLaws.{bind_origin_law}
