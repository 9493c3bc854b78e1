use Rattle.std.proofs.Common.{ℕ, ◌≡◌, List, ap, sym, subst, ◌∙◌, ◌<◌}
use Rattle.std.specs.Prelude.{Err, Some, slice_get}
use Rattle.ide_types.specs.declared.port.Side.{Side}
use Rattle.ide_types.specs.declared.port.Side.TheVariants.{Host, Device}
use Rattle.trusted_memory.specs.declared.queue.WaitingRead.{WaitingRead}
use Rattle.machine_ports.specs.Machine.{port_at}
use Rattle.link_stores.specs.{reads_on}
use Rattle.all_links.proofs.{there}
use Rattle.whole_links.specs.Besides.{port_reply}
use Rattle.whole_links.proofs.Replies.{reply_empty, reply_read}
use Rattle.whole_links.proofs.whole.WholeLinks.reply.Goals as goal

pub at-requires : goal.at-requires
at-requires c = subst (λ (n : ℕ). c.args.link < n) (sym c.requires.whole) c.requires.here

pub returns-in-None-clause-due : goal.returns-in-None-clause-due
returns-in-None-clause-due c =
    let l = there c.args.self.now.links.ends.links c.args.link c.requires.here in
    (λ i. Err (c.empty.ensures i))
    ∙ reply_empty c.args.self.now c.args.side c.args.link l.0 c.at.result.now l.1 c.at.ensures
    (c.in-None.ensures.oldest ∙ ap (λ (rs : List WaitingRead). slice_get rs 0) c.reads.ensures)

pub returns-in-Host-clause-due : goal.returns-in-Host-clause-due
returns-in-Host-clause-due c =
    let s = c.args.self.now in
    let l = there s.links.ends.links c.args.link c.requires.here in
    let a = c.at.result.now in
    let first : Some c.in-Some.waiting ≡ slice_get (reads_on Host a) 0 =
    c.in-Some.ensures.oldest
    ∙ ap (λ (rs : List WaitingRead). slice_get rs 0) (c.reads.ensures ∙ ap (λ (q : Side). reads_on q a) c.in-Host.is) in
    c.host_reply.ensures.due l.0 l.1
    ∙ reply_read s Host c.args.link l.0 a l.1 c.at.ensures c.in-Some.waiting first
    ∙ ap (λ (q : Side). port_reply s (port_at q c.args.link)) (sym c.in-Host.is)

pub returns-in-Device-clause-due : goal.returns-in-Device-clause-due
returns-in-Device-clause-due c =
    let s = c.args.self.now in
    let l = there s.links.ends.links c.args.link c.requires.here in
    let a = c.at.result.now in
    let first : Some c.in-Some.waiting ≡ slice_get (reads_on Device a) 0 =
    c.in-Some.ensures.oldest
    ∙ ap (λ (rs : List WaitingRead). slice_get rs 0) (c.reads.ensures ∙ ap (λ (q : Side). reads_on q a) c.in-Device.is)
    in
    c.device_reply.ensures.due l.0 a l.1 c.at.ensures
    ∙ reply_read s Device c.args.link l.0 a l.1 c.at.ensures c.in-Some.waiting first
    ∙ ap (λ (q : Side). port_reply s (port_at q c.args.link)) (sym c.in-Device.is)
