-- What is shown of the keys of lines.
use Rattle.ide_types.specs.declared.plan.Plan.{Plan}
use Rattle.spec_keys.specs.History.{History}
use Rattle.spec_keys.specs.Laws.{KeyCauseLaw}
use Rattle.spec_links.specs.Plan.{key_plan}
use Rattle.spec_links.specs.Cause.{CauseLaw}
use Rattle.spec_links.specs.KeyFacts.{KeyFacts, DrawFacts}

-- Each verdict that is due is due by the rules of keys, which may suppose what they do of sends and arrivals.
abbrev pub KeysHaveCauses : Type 0
KeysHaveCauses = (plan : Plan) (h : History) → CauseLaw plan h → KeyCauseLaw (key_plan plan) h

-- All that the machine uses of keys holds.
abbrev pub FactsHold : Type 0
FactsHold = (plan : Plan) → KeyFacts plan

-- All that the laws use of draws holds.
abbrev pub DrawsHold : Type 0
DrawsHold = (plan : Plan) → DrawFacts plan
