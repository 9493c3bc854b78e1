use Rattle.key_messages.proofs.Acknowledged.{acknowledged}
use Rattle.key_messages.proofs.laws.acknowledged_key_stands.Goals as goal

pub returns : goal.returns
returns c = λ before after unfinished rid draw stream selector index request kept reply. acknowledged before after
    unfinished rid draw stream selector index request kept reply
