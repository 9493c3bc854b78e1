use Rattle.std.proofs.Common.{◌≡◌, List, [], ◌∷◌, ◌++◌, Option, ap, subst, ◌∙◌}
use Rattle.std.proofs.lemmas.List.{append_assoc}
use Rattle.std.specs.Prelude.{IfOk}
use Rattle.ide_prefix.specs.Cut.{packet_of_view}
use Rattle.sub_stream.specs.declared.facts.StreamFacts.{StreamFacts}
use Rattle.told_facts.specs.declared.fact.Fact.{Fact}
use Rattle.why_facts.specs.Forms.{arrives_fact}
use Rattle.ide_why.specs.Facts.{received_read}
use Rattle.ide_why.specs.Reading.{held_read}
use Rattle.ide_why.proofs.reader.Reader.push_packet.Goals as goal

-- a fact, a fact and two lists of facts, appended one after the other
joined : (old one two three : List Fact) (a b : Fact) (xs ys : List Fact) → one ≡ old ++ a ∷ []
    → two ≡ one ++ b ∷ [] → three ≡ two ++ xs → three ++ ys ≡ old ++ a ∷ (b ∷ (xs ++ ys))
joined old one two three a b xs ys first second third =
    ap (λ (fs : List Fact). fs ++ ys) third
    ∙ append_assoc two xs ys
    ∙ ap (λ (fs : List Fact). fs ++ (xs ++ ys)) second
    ∙ append_assoc one (b ∷ []) (xs ++ ys)
    ∙ ap (λ (fs : List Fact). fs ++ b ∷ (xs ++ ys)) first
    ∙ append_assoc old (a ∷ []) (b ∷ (xs ++ ys))

pub returns-in_ok-push_receiver-in-Some : goal.returns-in_ok-push_receiver-in-Some
returns-in_ok-push_receiver-in-Some c =
    subst (λ (fs : List Fact). IfOk c.push_asks.result (λ x. c.push_asks.new.facts.items ≡ fs))
    (joined c.args.facts.now.items c.push.new.facts.items c.push_status.new.facts.items
    c.push_receiver.new.facts.items _ _ _ _
    (c.in_ok-push.ensures ∙ ap (λ (a : Fact). c.args.facts.now.items ++ a ∷ []) c.arrives_fact.ensures)
    c.in_ok-push_status-in-Some.ensures c.in_ok-push_receiver-in-Some.ensures
    ∙ ap (λ (o : Option StreamFacts). c.args.facts.now.items
    ++ arrives_fact c.args.self.now.plan.now c.args.end (packet_of_view c.args.packet.now)
    ∷ received_read c.args.self.now.plan.now c.args.self.now.links.now c.args.end
    (held_read c.args.self.now.plan.now c.args.self.now.links.now c.args.end c.args.packet.now.prefix.stream
    c.args.packet.now.prefix.sub c.args.packet.now.prefix.k) (packet_of_view c.args.packet.now) o)
    c.in-Some.ensures) c.push_asks.ensures
