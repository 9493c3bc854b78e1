use Rattle.std.proofs.Common.{ℕ, ◌≡◌, ◌++◌, List, ap, sym, ◌∙◌}
use Rattle.std.proofs.lemmas.Option.{same_Some}
use Rattle.std.specs.Prelude.{Option, Some, Err}
use Rattle.ide_types.specs.Ports.{host_port}
use Rattle.ide_types.specs.declared.binding.Binding.{Binding}
use Rattle.event_verdicts.specs.declared.verdict.Verdict.{Verdict}
use Rattle.interface_host.specs.Managers.{InterfaceManagerView, running_grant}
use Rattle.tlp_layout.specs.Choice.{choice_of_stream, chosen_stream}
use Rattle.tlp_layout.specs.Outgoing.{outgoing_of, stream_taken}
use Rattle.trusted_memory.specs.{byte_at, host_completer}
unfoldable use Rattle.trusted_memory.specs.{completion_bytes}
use Rattle.all_links.specs.{LinkEnds}
use Rattle.whole_links.specs.Besides.{bound_completion, judged_bound, host_stream}
use Rattle.whole_links.proofs.Replies.{made_with, reply_made}
use Rattle.whole_links.proofs.whole.WholeLinks.granted.Goals as goal

pub returns-in-None-clause-due : goal.returns-in-None-clause-due
returns-in-None-clause-due c = λ l is.
    let bytes : List ℕ = completion_bytes host_completer (byte_at c.args.self.now.links.trusted.contents)
    c.args.waiting.now.read in
    ap (λ (w : Verdict). Err w) c.dropped.ensures
    ∙ ap (λ (o : Option Binding). bound_completion (host_port c.args.link) bytes
    (judged_bound (host_stream l bytes) c.args.interface c.args.waiting.now.came.draw o))
    (c.in-None.ensures ∙ ap (λ (m : InterfaceManagerView). running_grant m c.args.link
    c.args.waiting.now.read.requester)
    c.manager.ensures)

pub written-tlp-requires : goal.written-tlp-requires
written-tlp-requires c =
    let byte : ℕ → ℕ = byte_at c.args.self.now.links.trusted.contents in
    let bytes : List ℕ = completion_bytes host_completer byte c.args.waiting.now.read in
    made_with host_completer byte c.args.waiting.now.read c.complete-head.result c.as_slice.result.now
    (c.as_slice.ensures.value ∙ c.complete-head.ensures.bytes ∙ ap (λ (bs : List ℕ). bs ++ bytes) c.requires.empty)
    c.complete-head.ensures.head c.complete-head.ensures.reads

pub returns-in-Some-clause-due : goal.returns-in-Some-clause-due
returns-in-Some-clause-due c = λ l is.
    let byte : ℕ → ℕ = byte_at c.args.self.now.links.trusted.contents in
    let bytes : List ℕ = completion_bytes host_completer byte c.args.waiting.now.read in
    let made : c.complete-head.new.out.items ≡ bytes =
    c.complete-head.ensures.bytes ∙ ap (λ (bs : List ℕ). bs ++ bytes) c.requires.empty in
    let tlp : c.written-tlp.result ≡ bytes = c.written-tlp.ensures ∙ c.as_slice.ensures.value ∙ made in
    let same : c.link.result.now ≡ l = same_Some c.link.result.now l (sym c.link.ensures ∙ is) in
    let taken : chosen_stream (choice_of_stream c.choose-stream.result) ≡ host_stream l bytes =
    c.choose-stream.ensures.id
    ∙ (λ i. let host = (same i).host in stream_taken (outgoing_of host.plans host.name.side (tlp i))) in
    let bound : Some c.in-Some.bound ≡ running_grant c.args.self.now.links.keeper.interfaces c.args.link
    c.args.waiting.now.read.requester =
    c.in-Some.ensures ∙ ap (λ (m : InterfaceManagerView). running_grant m c.args.link c.args.waiting.now.read.requester)
    c.manager.ensures in
    c.judged.ensures.reply c.complete-head.new.out.items
    ∙ (λ i. bound_completion (host_port c.args.link) (made i)
    (judged_bound (taken i) c.args.interface c.args.waiting.now.came.draw (bound i)))

pub returns-in-Some-clause-made : goal.returns-in-Some-clause-made
returns-in-Some-clause-made c =
    let byte : ℕ → ℕ = byte_at c.args.self.now.links.trusted.contents in
    let bytes : List ℕ = completion_bytes host_completer byte c.args.waiting.now.read in
    let out : List ℕ = c.complete-head.new.out.items in
    let made : out ≡ bytes =
    c.complete-head.ensures.bytes ∙ ap (λ (bs : List ℕ). bs ++ bytes) c.requires.empty in
    reply_made out c.complete-head.result c.judged.result c.judged.ensures.head
    (made_with host_completer byte c.args.waiting.now.read c.complete-head.result out made c.complete-head.ensures.head
    c.complete-head.ensures.reads)
