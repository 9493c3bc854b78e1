use Rattle.std.proofs.Common.{◌≡◌, ◌++◌, List, ℕ, ap, sym, ◌∙◌, false}
use Rattle.std.specs.Prelude.{nat_eq}
use Rattle.std.specs.Cmp.Lexicographic.{pointwise}
use Rattle.ide_prefix.specs.Cut.{lent_tag}
use Rattle.ide_prefix.specs.Packet.{prefix_bytes}
use Rattle.rule_counts.proofs.Steps.{behind_first, last_decides, no_first}
use Rattle.rule_counts.proofs.units.spells.Goals as goal

pub returns-in_default : goal.returns-in_default
returns-in_default c =
    let p = c.args.packet.now in
    no_first (prefix_bytes p.prefix) (p.head.now ++ (p.body.now ++ lent_tag p.tag)) c.args.bytes.now
    (λ rest is. c.in_default.ensures rest (ap (λ (x : List ℕ). x ++ rest) c.write_prefix-prefix.ensures ∙ is))

pub returns-in_default-behind : goal.returns-in_default-behind
returns-in_default-behind c =
    let p = c.args.packet.now in
    let first : prefix_bytes p.prefix ++ c.in-Some.rest.now ≡ c.args.bytes.now =
    ap (λ (x : List ℕ). x ++ c.in-Some.rest.now) (sym c.write_prefix-prefix.ensures) ∙ c.in-Some.ensures in
    behind_first (prefix_bytes p.prefix) (p.head.now ++ (p.body.now ++ lent_tag p.tag)) c.in-Some.rest.now
    c.args.bytes.now false first
    (no_first p.head.now (p.body.now ++ lent_tag p.tag) c.in-Some.rest.now c.in_default-behind.ensures)

pub returns-in_default-behind-2 : goal.returns-in_default-behind-2
returns-in_default-behind-2 c =
    let p = c.args.packet.now in
    let first : prefix_bytes p.prefix ++ c.in-Some.rest.now ≡ c.args.bytes.now =
    ap (λ (x : List ℕ). x ++ c.in-Some.rest.now) (sym c.write_prefix-prefix.ensures) ∙ c.in-Some.ensures in
    behind_first (prefix_bytes p.prefix) (p.head.now ++ (p.body.now ++ lent_tag p.tag)) c.in-Some.rest.now
    c.args.bytes.now false first
    (behind_first p.head.now (p.body.now ++ lent_tag p.tag) c.in-Some-behind.rest.now c.in-Some.rest.now false
    c.in-Some-behind.ensures
    (no_first p.body.now (lent_tag p.tag) c.in-Some-behind.rest.now c.in_default-behind-2.ensures))

pub returns : goal.returns
returns c =
    let p = c.args.packet.now in
    let first : prefix_bytes p.prefix ++ c.in-Some.rest.now ≡ c.args.bytes.now =
    ap (λ (x : List ℕ). x ++ c.in-Some.rest.now) (sym c.write_prefix-prefix.ensures) ∙ c.in-Some.ensures in
    let tag : c.eq.result ≡ pointwise nat_eq c.in-Some-behind-2.rest.now (lent_tag p.tag) =
    c.eq.ensures ∙ ap (pointwise nat_eq c.in-Some-behind-2.rest.now) c.tag_of.ensures in
    behind_first (prefix_bytes p.prefix) (p.head.now ++ (p.body.now ++ lent_tag p.tag)) c.in-Some.rest.now
    c.args.bytes.now c.eq.result first
    (behind_first p.head.now (p.body.now ++ lent_tag p.tag) c.in-Some-behind.rest.now c.in-Some.rest.now c.eq.result
    c.in-Some-behind.ensures
    (behind_first p.body.now (lent_tag p.tag) c.in-Some-behind-2.rest.now c.in-Some-behind.rest.now c.eq.result
    c.in-Some-behind-2.ensures (last_decides c.in-Some-behind-2.rest.now (lent_tag p.tag) c.eq.result tag)))
