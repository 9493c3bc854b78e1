pub mod Named
pub mod Failed
pub mod Effects
pub mod Answers
pub mod AllLaws
-- what crates above name
pub use Rattle.law_locks.proofs.OneLock.{fronts}
pub use Rattle.law_locks.proofs.{cause_at, effect_at, effect_there}
pub use Rattle.law_locks.proofs.{IsNew, all_get, cause_before, draws, get_less, interface_cause, live_port, memory_law}
pub use Rattle.law_locks.proofs.{Admitted, For, accepted_known, admitted_means, at_device_end, at_port, got_next}
pub use Rattle.law_locks.proofs.{effects_there, head_of, owner_means, read_law, secure_parts, sent_at, some_is}
pub use Rattle.law_locks.proofs.{of_effect, run_state, same_locks, trusted_before, trusted_there}
pub use Rattle.law_locks.proofs.Runs.{Later, Since, IsStillStarted, later}
pub use Rattle.law_locks.proofs.SecurePeers.{bound_secure}
pub use Rattle.law_locks.proofs.{keeps_floors, bind_origin_law}
