use Rattle.all_ends.proofs.Terms.{◌≡◌, ◌∙◌, ap, sym, Some, option_map, same_Some, EndsView, PortEnd, port_on, take_step}
use Rattle.ide_prefix.specs.Reading.{cut_of}
use Rattle.arrival_verdicts.specs.Verdicts.{arrival_verdict, of_unit}
use Rattle.arrival_verdicts.specs.Switches.{switched_each, unit_waits, all_offered}
use Rattle.all_ends.proofs.Lent.{some_port, some_mapped, port_put}
use Rattle.all_ends.proofs.all_ends.AllEnds.arrive_at_switch.Goals as goal

pub unwrap-requires : goal.unwrap-requires
unwrap-requires c =
    let e = some_port (port_on c.args.self.now c.args.end) c.requires.here in
    let t = c.take-arrival.ensures e.0 e.1 in
    let p : PortEnd = (take_step e.0 (cut_of c.args.bytes.now)).port in
    some_mapped (λ d. d.now) c.port.result p
    (c.port.ensures ∙ (ap (λ (v : EndsView). port_on v c.args.end) t.new_is
    ∙ port_put c.args.self.now c.args.end e.0 p e.1))

pub returns : goal.returns
returns c = λ e is.
    let t = c.take-arrival.ensures e is in
    let p : PortEnd = (take_step e (cut_of c.args.bytes.now)).port in
    let after : port_on c.take-arrival.new.self c.args.end ≡ Some p =
    ap (λ (v : EndsView). port_on v c.args.end) t.new_is ∙ port_put c.args.self.now c.args.end e p is in
    let got : c.unwrap.result.now ≡ p = same_Some c.unwrap.result.now p
    (sym (ap (λ o. option_map (λ d. d.now) o) c.unwrap.ensures) ∙ (c.port.ensures ∙ after)) in
    let seen : c.delivered-packets.result ≡ p.delivered =
    c.delivered-packets.ensures ∙ ap (λ (q : PortEnd). q.delivered) got in
    record {
      new_is = t.new_is;
      verdict_is = c.switch_verdict.ensures.verdict
          ∙ (λ j. arrival_verdict c.args.end c.args.end (t.answer_is j) (λ unit. switched_each (seen j)));
      queues_are = c.switch_verdict.ensures.queues
          ∙ (λ j. all_offered c.args.direction (of_unit (t.answer_is j) (unit_waits (seen j))) c.args.queues.now);
    }
