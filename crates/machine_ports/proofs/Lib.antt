pub mod Terms
pub mod Puts
pub mod Frames
pub mod Changes
pub mod Answers
pub mod Takes
pub mod Numbers
pub mod Arrivals
pub mod Lanes
pub mod Seals
pub mod Sends
pub mod WaitingKnown
pub mod Replies
pub mod Forwards
pub mod Steps
pub mod Through
pub use Rattle.spec_links.proofs.KeyVerdicts.{establish_due_quiet, interface_due_quiet, mmio_quiet, refresh_due_quiet}
pub use Rattle.spec_links.proofs.KeyVerdicts.{stop_due_quiet}
pub use Rattle.spec_links.proofs.Tests.{same_port}
pub use Rattle.law_key_facts.proofs.AllFacts.{facts}
pub use Rattle.law_key_facts.proofs.Failures.{failed_next, in_keyed, out_keyed}
pub use Rattle.law_key_facts.proofs.Given.{key_cause}
pub use Rattle.law_key_facts.proofs.Moments.{busy_is, no_units, none_finished, none_got, none_held, none_posted}
pub use Rattle.law_key_facts.proofs.Moments.{none_sent, none_since, sends_lane}
pub use Rattle.law_key_facts.proofs.RealFacts.{InOrder, in_order, seat_same}
pub use Rattle.law_key_facts.proofs.Seats.{keys_into, keys_out}
pub use Rattle.law_key_facts.proofs.Unplanned.{unplanned_keys}
