-- The plan that a topology's text means, or its first fault.
use Rattle.std.specs.Prelude.{ℕ, List, [], map, Option, Some, None, Result, Ok, Err, if◌then◌else◌}
use Rattle.std.specs.Option.{unwrap_or}
use Rattle.std.specs.Str.{is_utf8}
use Rattle.toml.specs.Data.{Members}
use Rattle.toml.specs.Parse.{parse_document}
use Rattle.ide_types.specs.declared.plan.HopPlan.{HopPlan}
use Rattle.ide_types.specs.declared.plan.LinkPlan.{LinkPlan}
use Rattle.ide_types.specs.declared.plan.Plan.{Plan}
use Rattle.toml_walk.specs.declared.fault.PlanFault.{PlanFault}
use Rattle.toml_walk.specs.declared.fault.PlanFault.TheVariants.{NotToml}
use Rattle.toml_walk.specs.Fault.{◌>>=◌}
use Rattle.topology.specs.declared.draft.LinkDraft.{LinkDraft}
use Rattle.topology.specs.declared.draft.PlanDraft.{PlanDraft}
use Rattle.topology.specs.Tables.{top_keys}
use Rattle.topology.specs.Rules.{rules}

-- a hop that lists no classes takes none
abbrev pub hop_of : Option ℕ → Option (List ℕ) → Option HopPlan
hop_of None classes = None
hop_of (Some id) classes = Some (record { id = id; classes = unwrap_or classes [] })

abbrev pub link_of : LinkDraft → LinkPlan
link_of l = record {
  nonces = l.nonces;
  streams = l.streams;
  interfaces = map (λ i. i.interface) l.interfaces;
  hop = hop_of l.hop l.hop_classes;
}

abbrev pub drafted_plan : PlanDraft → Plan
drafted_plan d = record {
  version = d.version;
  portion = d.portion;
  units_per_key = d.units_per_key;
  pool = d.pool;
  links = map link_of d.links;
  memory = d.memory;
  peers = d.peers;
}

-- the plan of a table: first each key, and then the rules over several values
abbrev pub table_plan : Members → Result Plan PlanFault
table_plan ms = do
  d ← top_keys [] ms
  _ ← rules d
  Ok (drafted_plan d)

-- the table that TOML reads from the bytes, which have to be UTF-8
abbrev pub document : List ℕ → Option Members
document bytes = if is_utf8 bytes then parse_document bytes else None

abbrev pub plan_of_document : Option Members → Result Plan PlanFault
plan_of_document None = Err NotToml
plan_of_document (Some ms) = table_plan ms

abbrev pub plan_of : List ℕ → Result Plan PlanFault
plan_of bytes = plan_of_document (document bytes)
