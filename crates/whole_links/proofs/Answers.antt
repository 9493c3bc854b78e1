-- An answer to the oldest read that waits at a port, as the machine has it: a verdict ahead of the ports, a refusal for
-- an older draw, or the send of the completion.
use Rattle.std.proofs.Common.{◌≡◌, ℕ, zero, suc, ◌+◌, ◌<◌, ◌≤◌, true, false, [], length, refl, ap, sym, subst, ◌∙◌}
use Rattle.std.proofs.Common.{arith, Bool}
use Rattle.std.proofs.lemmas.Bool.Decides.{nat_tests}
use Rattle.std.specs.Prelude.{Option, Some, None, Result, Ok, Err, unwrap_or, slice_get, nat_lt, if◌then◌else◌}
use Rattle.std.specs.Option.{option_map, option_map_or, option_and_then}
use Rattle.std.proofs.lemmas.Option.{none-some, slice_get_within}
use Rattle.spec_keys.specs.Keys.{is_some_below}
use Rattle.ide_types.specs.declared.memory.OutOfMemory.{OutOfMemory}
use Rattle.ide_types.specs.declared.port.PortName.{PortName}
use Rattle.ide_types.specs.declared.port.Side.{Side}
use Rattle.ide_types.specs.declared.port.Side.TheVariants.{Host, Device}
use Rattle.ide_types.specs.declared.sub.SubKind.{SubKind}
use Rattle.ide_types.specs.declared.sub.SubKind.TheVariants.{Pr, Npr, Cpl}
use Rattle.ide_types.specs.declared.plan.Plan.{Plan}
use Rattle.ide_types.specs.declared.verdict.InterfaceVerdict.TheVariants as iv
use Rattle.script_events.specs.declared.event.Event.TheVariants.{Access}
use Rattle.script_events.specs.declared.event.AccessEvent.TheVariants as ae
use Rattle.event_verdicts.specs.declared.verdict.Verdict.{Verdict}
use Rattle.event_verdicts.specs.declared.verdict.Verdict.TheVariants as v
use Rattle.tlp_layout.specs.Reading.{read_of}
use Rattle.spec_stream.specs.Stream.{StreamState, at_sub}
use Rattle.spec_stream.specs.Slots.{sealing_draw}
use Rattle.machine_ports.specs.Replies.{ReadCompletion}
use Rattle.machine_ports.specs.Machine.{BesidePorts, LinkState, Stepped, port_at, sealing_draw_at, stepped_completion}
use Rattle.machine_ports.specs.Machine.{stepped_reply, stepped_tlp}
unfoldable use Rattle.machine_ports.specs.Machine.{find, step_of}
use Rattle.ide_port.specs.{Found, PortEnd, found_stream, sealing_draw_in}
use Rattle.all_links.specs.{LinkEnds, AreLinks, port_on, sealing_draw_on}
use Rattle.all_links.proofs.{find_at, none_found, port_is, wired}
use Rattle.all_links.specs.declared.links.Links.{Links}
use Rattle.all_links.specs.States.{links_state}
use Rattle.all_links.specs.Links.{Ends, EndsIfSo, EndsSealing, EndsSealingOrStays}
use Rattle.all_links.specs.Accesses.{sizes_at, mmio_at}
use Rattle.trusted_memory.specs.{bytes_from}
use Rattle.guarded_memory.specs.Contents.{has_bytes}
use Rattle.all_links.specs.Besides.{beside_in}
use Rattle.all_links.proofs.Finds.{nothing_changes}
use Rattle.whole_links.specs.declared.whole.WholeLinks.{WholeLinks}
use Rattle.whole_links.specs.Besides.{answer_event, reply_at_link, port_reply, draw_below, shown_mmio, place_named}
use Rattle.whole_links.specs.Besides.{bytes_shown, has_shown}
use Rattle.whole_links.specs.Whole.{IsBoundedWhole, WholeEnds, WholeEndsOrStays}
use Rattle.whole_links.proofs.Ends.{ends_if, stays_with}

-- ---- the machine's step

answer_step : (plan : Plan) (b : BesidePorts) (st : LinkState) (side : Side) (link : ℕ)
    (o : Result ReadCompletion Verdict) → b.reply (port_at side link) ≡ o
    → step_of plan b st (answer_event side link) ≡ stepped_reply plan st o
unfolding step_of
answer_step plan b st Host link o is = ap (λ (r : Result ReadCompletion Verdict). stepped_reply plan st r) is
answer_step plan b st Device link o is = ap (λ (r : Result ReadCompletion Verdict). stepped_reply plan st r) is

-- the draw that an end seals completions under
found_at : (x : StreamState) (u : SubKind) → sealing_draw_at u (Some x) ≡ sealing_draw (at_sub x.tx u).slots
found_at x Pr = refl
found_at x Npr = refl
found_at x Cpl = refl

found_draw : (o : Option Found) → sealing_draw_at Cpl (option_map (λ (f : Found). f.state) o)
    ≡ option_and_then (λ (f : Found). sealing_draw (at_sub f.state.tx Cpl).slots) o
found_draw None = refl
found_draw (Some f) = found_at f.state Cpl

draw_same : (s : Links) (plan : Plan) (end : PortName) (stream : ℕ) → AreLinks plan s.ends s.keeper.keys
    → sealing_draw_at Cpl (find plan (links_state plan s) end stream) ≡ sealing_draw_on s.ends end stream Cpl
draw_same s plan end stream links = by (port_on s.ends end) refl
  where
    by : (o : Option PortEnd) → port_on s.ends end ≡ o
        → sealing_draw_at Cpl (find plan (links_state plan s) end stream)
        ≡ option_and_then (λ (e : PortEnd). sealing_draw_in e stream Cpl) o
    by None is = ap (λ (p : Option StreamState). sealing_draw_at Cpl p)
        (none_found plan s.ends s.keeper.keys s.packets.packets end stream links is)
    by (Some e) is =
        ap (λ (p : Option StreamState). sealing_draw_at Cpl p)
        (find_at plan s.ends s.keeper.keys s.packets.packets (wired plan s.ends s.keeper.keys links) end e is stream
        (port_is plan s.ends s.keeper.keys links end e is))
        ∙ found_draw (found_stream e.plans e.states stream)

-- ---- a verdict ahead of the ports

pub answer_only : {verdict w : Verdict} {old new : WholeLinks} (plan : Plan) (side : Side) (link : ℕ)
    → port_reply old (port_at side link) ≡ Err w
    → verdict ≡ w → new.links ≡ record old.links { steps = old.links.steps + 1 } → new.accesses ≡ old.accesses
    → IsBoundedWhole old → WholeEnds plan verdict old new (answer_event side link)
answer_only {verdict} {w} {old} {new} plan side link due says is same bounded =
    ends_if plan
    (nothing_changes {IsSo = λ b. b.reply (port_at side link) ≡ Err w} plan (answer_event side link) says is
    bounded.bounded
    (λ b so h links stands. answer_step plan (beside_in old.links b) (links_state plan old.links) side link (Err w)
    so))
    bounded.whole (ap length same) (λ answer by regions. due)

-- ---- a refusal for an older draw

below_is : (o : Option ℕ) (floor draw : ℕ) → draw_below o floor ≡ Some draw
    → (is_some_below o floor ≡ true) × (unwrap_or o 0 ≡ draw)
below_is None floor draw is = absurd (none-some draw is)
below_is (Some d) floor draw is = grind arith

not_below : (o : Option ℕ) (floor : ℕ) → draw_below o floor ≡ None → is_some_below o floor ≡ false
not_below None floor is = refl
not_below (Some d) floor is = grind arith

module _ (plan : Plan) (st : LinkState) (c : ReadCompletion) (o : Option ℕ) where
  abbrev sends : Stepped
  sends = stepped_tlp plan st c (read_of c.bytes)

  older : (draw : ℕ) → draw_below o c.floor ≡ Some draw → stepped_completion plan st c o
      ≡ (v.Interface (iv.RefusedRefreshFirst draw c.floor), st)
  older draw below =
      let at = below_is o c.floor draw below in
      (λ i. if at.0 i then (v.Interface (iv.RefusedRefreshFirst (at.1 i) c.floor), st) else sends)

  newer : draw_below o c.floor ≡ None → stepped_completion plan st c o ≡ sends
  newer below =
      let none : is_some_below o c.floor ≡ false = not_below o c.floor below in
      (λ i. if none i then (v.Interface (iv.RefusedRefreshFirst (unwrap_or o 0) c.floor), st) else sends)

pub answer_older : {verdict : Verdict} {old new : WholeLinks} (plan : Plan) (side : Side) (link : ℕ)
    (c : ReadCompletion) (draw : ℕ) → port_reply old (port_at side link) ≡ Ok c
    → draw_below (sealing_draw_on old.links.ends c.end c.stream Cpl) c.floor ≡ Some draw
    → verdict ≡ v.Interface (iv.RefusedRefreshFirst draw c.floor)
    → new.links ≡ record old.links { steps = old.links.steps + 1 } → new.accesses ≡ old.accesses → IsBoundedWhole old
    → WholeEnds plan verdict old new (answer_event side link)
answer_older {verdict} {old} {new} plan side link c draw due below says is same bounded =
    ends_if plan
    (nothing_changes {IsSo = λ b. b.reply (port_at side link) ≡ Ok c} plan (answer_event side link) says is
    bounded.bounded
    (λ b so h links stands.
    let st : LinkState = links_state plan old.links in
    answer_step plan (beside_in old.links b) st side link (Ok c) so
    ∙ ap (λ (o : Option ℕ). stepped_completion plan st c o) (draw_same old.links plan c.end c.stream links)
    ∙ older plan st c (sealing_draw_on old.links.ends c.end c.stream Cpl) draw below))
    bounded.whole (ap length same) (λ answer by regions. due)

-- ---- the send

sent_as_answer : {verdict : Verdict} (plan : Plan) (old new : WholeLinks) (side : Side) (link : ℕ)
    (c : ReadCompletion) → draw_below (sealing_draw_on old.links.ends c.end c.stream Cpl) c.floor ≡ None
    → EndsSealing plan verdict old.links new.links c
    → EndsIfSo (λ b. b.reply (port_at side link) ≡ Ok c) plan verdict old.links new.links (answer_event side link)
sent_as_answer {verdict} plan old new side link c below x = record {
  counted = x.counted;
  bounded = x.bounded;
  many = x.many;
  regions = x.regions;
  ends = λ b so h links stands.
      let st : LinkState = links_state plan old.links in
      subst (λ (s : Stepped). Ends plan new.links verdict s)
      (sym (answer_step plan (beside_in old.links b) st side link (Ok c) so
      ∙ ap (λ (o : Option ℕ). stepped_completion plan st c o) (draw_same old.links plan c.end c.stream links)
      ∙ newer plan st c (sealing_draw_on old.links.ends c.end c.stream Cpl) below))
      (x.ends b tt h links stands);
}

pub answer_sent_or : (plan : Plan) (r : Result Verdict OutOfMemory) (old new : WholeLinks) (side : Side) (link : ℕ)
    (c : ReadCompletion) → port_reply old (port_at side link) ≡ Ok c
    → draw_below (sealing_draw_on old.links.ends c.end c.stream Cpl) c.floor ≡ None
    → EndsSealingOrStays plan r old.links new.links c → new.accesses ≡ old.accesses
    → IsBoundedWhole old → WholeEndsOrStays plan r old new (answer_event side link)
answer_sent_or plan (Ok verdict) old new side link c due below x same bounded = ends_if plan
    (sent_as_answer plan old new side link c below x) bounded.whole (ap length same) (λ answer by regions. due)
answer_sent_or plan (Err e) old new side link c due below x same bounded = stays_with x same

-- ---- on no link

pub answer_nowhere : {verdict : Verdict} {old new : WholeLinks} (plan : Plan) (side : Side) (link : ℕ)
    → false ≡ nat_lt link (length old.links.ends.links) → verdict ≡ v.Nothing
    → new.links ≡ record old.links { steps = old.links.steps + 1 }
    → new.accesses ≡ old.accesses → IsBoundedWhole old → WholeEnds plan verdict old new (answer_event side link)
answer_nowhere {verdict} {old} {new} plan side link nowhere says is same bounded =
    answer_only plan side link (by_ends (slice_get old.links.ends.links link) refl) says is same bounded
  where
    by_ends : (o : Option LinkEnds) → slice_get old.links.ends.links link ≡ o
        → port_reply old (port_at side link) ≡ Err v.Nothing
    by_ends None at =
        ap (λ (p : Option LinkEnds). reply_at_link (port_at side link) old p (slice_get old.accesses link)) at
    by_ends (Some l) at =
        let within : link < length old.links.ends.links = slice_get_within old.links.ends.links link l at in
        absurd (grind (arith, nat_tests, nowhere, within))

-- ---- the memory of devices

shows_step : (plan : Plan) (b : BesidePorts) (st : LinkState) (i bar offset len : ℕ) (w : Verdict)
    → b.shows i bar offset len ≡ w → step_of plan b st (Access (ae.Mmio i bar offset len)) ≡ (w, st)
unfolding step_of
shows_step plan b st i bar offset len w is = ap (λ (x : Verdict). (x, st)) is

pub mmio_only : {verdict w : Verdict} {old new : WholeLinks} (plan : Plan) (i bar offset len : ℕ)
    → shown_mmio old i bar offset len ≡ w → verdict ≡ w
    → new.links ≡ record old.links { steps = old.links.steps + 1 } → new.accesses ≡ old.accesses → IsBoundedWhole old
    → WholeEnds plan verdict old new (Access (ae.Mmio i bar offset len))
mmio_only {verdict} {w} {old} {new} plan i bar offset len due says is same bounded =
    ends_if plan
    (nothing_changes {IsSo = λ b. b.shows i bar offset len ≡ w} plan (Access (ae.Mmio i bar offset len)) says is
    bounded.bounded
    (λ b so h links stands.
    shows_step plan (beside_in old.links b) (links_state plan old.links) i bar offset len w so))
    bounded.whole (ap length same) (λ answer by regions. due)

length-bytes : (f : ℕ → ℕ) (at n : ℕ) → length (bytes_from f at n) ≡ n
length-bytes f at zero = refl
length-bytes f at (suc n) = ap (λ (k : ℕ). suc k) (length-bytes f (at + 1) n)

pub length-shown : (s : WholeLinks) (i bar offset n : ℕ) → has_shown s i bar offset n ≡ true
    → length (bytes_shown s i bar offset n) ≡ n
length-shown s i bar offset n has = by_place (place_named s i) has
  where
    by_place : (o : Option (ℕ × ℕ))
        → option_map_or (λ (at : ℕ × ℕ). has_bytes (sizes_at s.accesses at.0) at.1 bar offset n) o false ≡ true
        → length (option_map_or (λ (at : ℕ × ℕ). bytes_from (mmio_at s.accesses at.0 at.1 bar) offset n) o []) ≡ n
    by_place None has = absurd cc
    by_place (Some at) has = length-bytes (mmio_at s.accesses at.0 at.1 bar) offset n
