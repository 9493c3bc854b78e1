-- What a topology's bytes give, and what is written for them.
use Rattle.std.specs.Prelude.{[], ◌++◌, Result, Ok, Err, codes}
use Rattle.ide_types.specs.declared.plan.Plan.{Plan}
use Rattle.ide_types.specs.Fits.{FitsPlan}
use Rattle.toml_walk.specs.declared.fault.PlanFault.{PlanFault}
use Rattle.topology.specs.Meaning.{plan_of}
use Rattle.topology.specs.Lines.{fault_line}
use Rattle.file_runs.specs.declared.ends.End.TheVariants as end
use Rattle.file_runs.specs.Gain.{Text}
use Rattle.file_runs.specs.Outcome.{Due}
use Rattle.script_runs.specs.declared.topologies.Loaded.{Loaded}
use Rattle.script_runs.specs.declared.topologies.Loaded.TheVariants.{Sound, Faulty, Long}
use Rattle.script_runs.specs.Loading.{loaded_within_limit}

abbrev pub by_plan : Result Plan PlanFault → Loaded
by_plan (Ok plan) = Sound plan
by_plan (Err fault) = Faulty fault

-- a plan, the first fault of the bytes, or too many of them
abbrev pub loaded_topology : Text → Loaded
loaded_topology bytes = loaded_within_limit Long (λ b. by_plan (plan_of b)) bytes

-- the line of a fault
abbrev pub plan_refusal : PlanFault → Text
plan_refusal fault = fault_line fault ++ codes "\n"

abbrev pub report : Loaded → Due
report (Sound plan) = (end.Done, codes "ok\n")
report (Faulty fault) = (end.Topology, plan_refusal fault)
report Long = (end.TooLong, [])

-- the end and the text of a topology that is checked
abbrev pub check_due : Text → Due
check_due file = report (loaded_topology file)

-- the end and the text of a topology that is migrated, if this is the text in version 2
abbrev pub migrated_as_text : Text → Loaded → Due
migrated_as_text text (Sound plan) = (end.Done, text)
migrated_as_text text (Faulty fault) = (end.Topology, plan_refusal fault)
migrated_as_text text Long = (end.TooLong, [])

abbrev pub migrate_due : Text → Text → Due
migrate_due text file = migrated_as_text text (loaded_topology file)

-- a plan meets every bound and rule
abbrev pub HasFitting : Loaded → Type 0
HasFitting (Sound plan) = FitsPlan plan
HasFitting _ = Unit {0}
