pub mod Forms
pub mod Due
pub mod Kept
pub mod Stands
pub mod Rules
pub mod Lines
pub mod Streams
pub mod Faces
pub mod Places
pub use Rattle.why_facts.specs.Due.{facts_due}
pub use Rattle.why_facts.specs.Kept.{facts_in}
pub use Rattle.why_facts.specs.Stands.{FactsStand}
-- what clauses and crates above cite
pub use Rattle.why_facts.specs.Rules.{rule_of, effect_rule_of}
pub use Rattle.why_facts.specs.Lines.{why_text_of}
pub use Rattle.why_facts.specs.Streams.{completion_seen, is_live_seen, open_seen, opens_seen, receiver_seen}
pub use Rattle.why_facts.specs.Streams.{sender_seen, senders_seen, set_seen, sets_seen, state_seen}
pub use Rattle.why_facts.specs.Faces.{face_seen, grant_seen, reported_seen}
pub use Rattle.why_facts.specs.Places.{is_last_seen, key_place, refuses_seen, seen_place_at}
