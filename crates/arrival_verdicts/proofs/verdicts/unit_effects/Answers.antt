use Rattle.std.proofs.Common.{◌∙◌, ap, sym, subst, ◌++◌, List}
use Rattle.std.proofs.lemmas.List.{append-nil}
use Rattle.std.specs.Prelude.{Option}
use Rattle.event_verdicts.specs.declared.verdict.Effect.{Effect}
use Rattle.trusted_memory.specs.declared.queue.WaitingRead.{WaitingRead}
use Rattle.trusted_memory.specs.{Leads, Write}
use Rattle.guarded_memory.specs.{Happened, MmioLeads}
use Rattle.link_stores.specs.{device_statuses, reads_on}
use Rattle.spec_links.specs.Sent.{reads_by, targets_at}
use Rattle.arrival_verdicts.proofs.Units.{no_unit}
use Rattle.arrival_verdicts.proofs.verdicts.unit_effects.Goals as goal

pub returns-in-Accepted-clause-effects : goal.returns-in-Accepted-clause-effects
returns-in-Accepted-clause-effects c = rw c.in-Accepted.is c.effects.ensures.came.effects_are

pub returns-in-Accepted-clause-reads : goal.returns-in-Accepted-clause-reads
returns-in-Accepted-clause-reads c =
    rw c.in-Accepted.is
    (c.effects.ensures.came.reads_are
    ∙ ap (λ (es : List Effect). reads_on c.args.at.now.port.side c.args.access.now
    ++ reads_by (targets_at c.args.at.now.port.side
    (device_statuses c.args.access.now.floors c.args.at.now.interfaces.now)) c.args.at.now.end c.in-Accepted.unit es
    c.args.packets.now)
    c.effects.ensures.came.effects_are)

pub returns-in-Accepted-clause-leads : goal.returns-in-Accepted-clause-leads
returns-in-Accepted-clause-leads c = rw c.in-Accepted.is c.effects.ensures.came.written

pub returns-in-Accepted-clause-stored : goal.returns-in-Accepted-clause-stored
returns-in-Accepted-clause-stored c = rw c.in-Accepted.is c.effects.ensures.came.stored

pub returns-in_default-clause-effects : goal.returns-in_default-clause-effects
returns-in_default-clause-effects c = c.new.ensures ∙ sym (no_unit c.args.arrival _ c.in_default.not-Accepted)

pub returns-in_default-clause-reads : goal.returns-in_default-clause-reads
returns-in_default-clause-reads c =
    sym (ap (λ (ws : List WaitingRead). reads_on c.args.at.now.port.side c.args.access.now ++ ws)
    (no_unit c.args.arrival _ c.in_default.not-Accepted) ∙ append-nil (reads_on c.args.at.now.port.side c.args.access.now))

pub returns-in_default-clause-leads : goal.returns-in_default-clause-leads
returns-in_default-clause-leads c =
    subst (λ (os : List (Option Write)). Leads c.args.memory.now.contents os c.args.memory.now.contents)
    (sym (no_unit c.args.arrival _ c.in_default.not-Accepted)) (λ older is. is)

pub returns-in_default-clause-stored : goal.returns-in_default-clause-stored
returns-in_default-clause-stored c =
    subst (λ (hs : List (Option Happened)). MmioLeads c.args.access.now.guarded hs c.args.access.now.guarded)
    (sym (no_unit c.args.arrival _ c.in_default.not-Accepted)) (λ older is. is)
