use Rattle.std.proofs.Common.{◌≡◌, ℕ, ◌<◌, false, List, [], ◌∷◌, length, refl, ap, sym, subst, ◌∙◌, arith}
use Rattle.std.proofs.lemmas.Bool.{true≢false}
use Rattle.std.specs.Prelude.{Option}
use Rattle.std.specs.List.{slice_index_or}
use Rattle.std.specs.Option.{option_map_or}
use Rattle.ide_types.specs.declared.port.PortName.{PortName}
use Rattle.hop_queues.specs.declared.queue.HopTlp.{HopTlp}
use Rattle.hop_queues.specs.{queue_of}
use Rattle.link_stores.specs.declared.link.LinkAccesses.{LinkAccesses}
use Rattle.all_links.specs.Links.{EndsSendingOrStays}
use Rattle.whole_links.proofs.Forwards.{forward_empty, forward_sent_or}
use Rattle.whole_links.proofs.whole.WholeLinks.forwarded.Goals as goal

none_waits : (xs : List HopTlp) → (0 < length xs → ⊥) → xs ≡ []
none_waits [] none = refl
none_waits (x ∷ xs) none = absurd (none (omega arith))

pub returns-in-None-clause-ends : goal.returns-in-None-clause-ends
returns-in-None-clause-ends c =
    let d = c.args.direction in
    forward_empty c.args.plan.now c.args.link d c.requires.hop
    (sym (ap (λ (o : Option LinkAccesses). option_map_or (λ (x : LinkAccesses). (queue_of x.carried d).tlps) o [])
    (sym c.at.ensures))
    ∙ none_waits (queue_of c.at.result.now.carried d).tlps
    (λ some. true≢false (sym (c.in-None.ensures.waits.1 some))))
    (c.only.ensures.value ∙ c.empty.ensures) c.only.ensures.links refl c.requires.bounded

pub returns-in-Some-clause-ends : goal.returns-in-Some-clause-ends
returns-in-Some-clause-ends c =
    let d = c.args.direction in
    let old = c.args.self.now in
    let x = c.in-Some.tlp.now in
    let seen = ap (λ (o : Option LinkAccesses). option_map_or (λ (a : LinkAccesses). (queue_of a.carried d).tlps) o [])
    (sym c.at.ensures) in
    forward_sent_or c.args.plan.now c.send_at_end.result old
    (record { links = c.send_at_end.new.self; accesses = old.accesses }) c.args.link d x c.requires.hop
    (subst (λ (xs : List HopTlp). 0 < length xs) seen (c.in-Some.ensures.waits.0 refl))
    (subst (λ (xs : List HopTlp). x ≡ slice_index_or xs 0 x) seen c.in-Some.ensures.first)
    (subst (λ (e : PortName). EndsSendingOrStays c.args.plan.now c.send_at_end.result old.links c.send_at_end.new.self e
    x.bytes
    false x.t) c.leaving_end-end.ensures
    (subst (λ (bs : List ℕ). EndsSendingOrStays c.args.plan.now c.send_at_end.result old.links c.send_at_end.new.self
    c.leaving_end-end.result bs false x.t) (c.of-sent.ensures ∙ c.as_slice.ensures) c.send_at_end.ensures.ends))
    refl c.requires.bounded
