use Rattle.all_ends.proofs.Terms.{◌≡◌, ◌∙◌, ◌++◌, ap, sym, subst, List, length, map, Option, option_map, slice_get}
use Rattle.all_ends.proofs.Terms.{same_Some, EndsView, LinkEnds, PortEnd}
use Rattle.guarded_memory.specs.{Happened, MmioLeads}
use Rattle.trusted_memory.specs.{Leads, Write}
use Rattle.link_stores.specs.{reads_on}
use Rattle.arrival_verdicts.specs.{reads_by, targets_at}
use Rattle.arrival_verdicts.specs.Verdicts.{arrival_verdict, effects_from, grants_in, packet_stored, packet_write}
use Rattle.arrival_verdicts.specs.Verdicts.{of_unit, unit_writes}
use Rattle.all_ends.specs.AllEnds.{link_statuses}
use Rattle.all_ends.proofs.Lent.{read_there}
use Rattle.all_ends.proofs.all_ends.AllEnds.arrived.Goals as goal

pub returns-clause-comes : goal.returns-clause-comes
returns-clause-comes c = λ e l is at.
    let end = c.args.end in
    let port = c.args.port in
    let answer = c.args.arrival in
    let regions = c.args.memory.now.contents.regions in
    let grants = grants_in c.args.manager.now in
    let a = c.args.access.now in
    let x : LinkEnds = c.index.result.now in
    let same : x ≡ l = read_there c.self.inside.links.items port.line x l c.index.ensures
    (ap (λ (v : EndsView). slice_get v.links port.line) c.self.view_is ∙ at) in
    let got : c.unwrap.result.now ≡ e = same_Some c.unwrap.result.now e
    (sym (ap (λ o. option_map (λ d. d.now) o) c.unwrap.ensures) ∙ (c.port.ensures ∙ is)) in
    let seen : c.delivered-packets.result ≡ e.delivered =
    c.delivered-packets.ensures ∙ ap (λ (q : PortEnd). q.delivered) got in
    let stand : link_statuses x a ≡ link_statuses l a = ap (λ (z : LinkEnds). link_statuses z a) same in
    record {
      verdict_is = c.taken_verdict.ensures.verdict ∙ (λ j. arrival_verdict end port answer
          (λ unit. effects_from regions grants (stand j) (length (reads_on port.side a)) port unit (seen j)));
      written = subst (λ (os : List (Option Write)). Leads c.args.memory.now.contents os
          c.taken_verdict.new.memory.contents)
          (λ j. unit_writes answer (λ unit. map (packet_write regions grants port unit) (seen j)))
          c.taken_verdict.ensures.leads;
      reads_are = c.taken_verdict.ensures.reads ∙ (λ j. reads_on port.side a ++ of_unit answer
          (λ unit. reads_by (targets_at port.side (stand j)) end unit
          (effects_from regions grants (stand j) (length (reads_on port.side a)) port unit (seen j)) (seen j)));
      stored = subst (λ (hs : List (Option Happened)). MmioLeads a.guarded hs c.taken_verdict.new.access.guarded)
          (λ j. of_unit answer (λ unit. map (packet_stored (stand j) port unit) (seen j)))
          c.taken_verdict.ensures.stored;
      others_stay = c.taken_verdict.ensures.others;
      floors_stay = c.taken_verdict.ensures.floors;
      sizes_stay = c.taken_verdict.ensures.sizes;
      carried_stay = c.taken_verdict.ensures.carried;
    }
