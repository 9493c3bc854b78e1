-- What is seen of a stream for the manager, as the state of its operations.
use Rattle.key_slots.specs.{is_one}
use Rattle.spec_keys.specs.Operations.{StreamStage, Idle, Establishing, Up, Refreshing, Stopping}
use Rattle.key_host.specs.declared.facts.StageFacts.{StageFacts}
use Rattle.key_host.specs.declared.facts.StageFacts.TheVariants as fact

abbrev pub op_seen : StageFacts → StreamStage
op_seen fact.Idle = Idle
op_seen (fact.Establishing draw next) = Establishing draw next
op_seen (fact.Up set draw) = Up (is_one set) draw
op_seen (fact.Refreshing set draw next) = Refreshing (is_one set) draw next
op_seen (fact.Stopping next) = Stopping next
