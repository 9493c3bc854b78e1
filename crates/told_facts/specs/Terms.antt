-- The types of this crate with their variants.
pub use Rattle.told_facts.specs.declared.fact.SetState.{SetState}
pub use Rattle.told_facts.specs.declared.fact.SetState.TheVariants as set
pub use Rattle.told_facts.specs.declared.fact.ManagerState.{ManagerState}
pub use Rattle.told_facts.specs.declared.fact.ManagerState.TheVariants as manager
pub use Rattle.told_facts.specs.declared.fact.StreamFact.{StreamFact}
pub use Rattle.told_facts.specs.declared.fact.StreamFact.TheVariants as sf
pub use Rattle.told_facts.specs.declared.fact.OperationFact.{OperationFact}
pub use Rattle.told_facts.specs.declared.fact.OperationFact.TheVariants as of
pub use Rattle.told_facts.specs.declared.fact.InterfaceFact.{InterfaceFact}
pub use Rattle.told_facts.specs.declared.fact.InterfaceFact.TheVariants as face
pub use Rattle.told_facts.specs.declared.fact.Answer.{Answer}
pub use Rattle.told_facts.specs.declared.fact.Answer.TheVariants as answer
pub use Rattle.told_facts.specs.declared.fact.Fact.{Fact}
pub use Rattle.told_facts.specs.declared.fact.Fact.TheVariants as fact
