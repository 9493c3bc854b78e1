-- Which bytes go through a switch: those that a switch leaves unread are told from the rest by its hop's stream ID.
use Rattle.std.proofs.Common.{◌≡◌, ℕ, ◌+◌, ◌-◌, ◌==◌, ◌&&◌, ◌∷◌, Bool, true, false, List, [], Option, Some, None}
use Rattle.std.proofs.Common.{Result, Ok, Err, refl, ap, sym, ◌∙◌, arith, length}
use Rattle.std.proofs.lemmas.Bool.{true≢false}
use Rattle.std.proofs.lemmas.Bool.Decides.{nat_tests}
use Rattle.std.specs.Prelude.{not, nat_lt, if◌then◌else◌}
use Rattle.ide_types.specs.declared.port.Side.{Side}
use Rattle.ide_types.specs.declared.port.Side.TheVariants.{Host, Device}
use Rattle.ide_types.specs.declared.port.PortName.{PortName}
use Rattle.ide_types.specs.Ports.{host_port, device_port}
use Rattle.ide_types.specs.Fits.{FitsPlan}
use Rattle.ide_types.specs.Lines.{is_switch_port, is_switch_side}
use Rattle.ide_types.specs.Plans.{hop_has_id}
use Rattle.spec_links.specs.Terms.{Plan, Event, Verdict, History, CutValue, PacketFault, cut_of, Packet, IdePacket}
use Rattle.spec_links.specs.Terms.{PlainTlp}
use Rattle.spec_links.specs.Ports.{at_switch, lacks_stream}
unfoldable use Rattle.spec_links.specs.Ports.{goes_through, id_in, port_of}
use Rattle.spec_links.specs.Plan.{has_stream}
use Rattle.spec_links.specs.History.{ArrivedBytes, arrival_of_event}
use Rattle.spec_links.specs.Cause.{CauseLaw}
use Rattle.spec_links.specs.Due.{due, before_tag_of_cut, through_due, ending_due}
unfoldable use Rattle.spec_links.specs.Due.{before_tag}
use Rattle.spec_links.proofs.Ends.{stream_is_there}
use Rattle.law_locks.proofs.Fronts.{pairs_due}
use Rattle.law_changes.specs.Switches.{go_through_switch, are_of_other_stream, hop_of_switch, BringsThrough}
use Rattle.law_changes.specs.Switches.{IsThroughExactly}
use Rattle.law_changes.specs.Statements.{ExactThroughLawHolds}
use Rattle.law_delivery.proofs.Wholes.{due_arrives}
use Rattle.law_verdicts.proofs.Named.{is_of_arrival, others}
use Rattle.event_verdicts.specs.declared.verdict.Verdict.TheVariants as v

-- ---- ports of switches

on_switch : (plan : Plan) → FitsPlan plan → (side : Side) (line : ℕ)
    → at_switch plan (record { side = side; line = line }) ≡ is_switch_side side line
on_switch plan fits Host line = let most = fits.links_most in grind (arith, nat_tests, most)
on_switch plan fits Device line = let most = fits.links_most in grind (arith, nat_tests, most)

far_tests : (line : ℕ) → is_switch_side Host line ≡ true → (nat_lt line 8 ≡ false) × (nat_lt line 16 ≡ false)
    × (nat_lt line 24 ≡ true) × (16 + (line - 16) ≡ line)
far_tests line is = (
  grind (arith, nat_tests),
  grind (arith, nat_tests),
  grind (arith, nat_tests),
  grind (arith, nat_tests),
)

near_tests : (line : ℕ) → is_switch_side Device line ≡ true → (nat_lt line 8 ≡ false) × (nat_lt line 16 ≡ true)
    × (8 + (line - 8) ≡ line)
near_tests line is = (grind (arith, nat_tests), grind (arith, nat_tests), grind (arith, nat_tests))

-- the port of an end at a switch is that end
own_port : (plan : Plan) → FitsPlan plan → (side : Side) (line : ℕ) → is_switch_side side line ≡ true
    → port_of plan (record { side = side; line = line }) ≡ record { side = side; line = line }
unfolding port_of
own_port plan fits Host line is =
    let most = fits.links_most in
    let none : nat_lt line (length plan.links) ≡ false = grind (arith, nat_tests, most) in
    let tests = far_tests line is in
    let back : 16 + (line - 16) ≡ line = tests.3 in
    rw (none, tests.0, tests.1, tests.2) (ap host_port back)
own_port plan fits Device line is =
    let most = fits.links_most in
    let none : nat_lt line (length plan.links) ≡ false = grind (arith, nat_tests, most) in
    let tests = near_tests line is in
    let back : 8 + (line - 8) ≡ line = tests.2 in
    rw (none, tests.0, tests.1) (ap device_port back)

-- a port of a switch has the stream of its hop
own_stream : (plan : Plan) (side : Side) (line id : ℕ) → is_switch_side side line ≡ true
    → has_stream plan (record { side = side; line = line }) id
    ≡ hop_has_id (hop_of_switch plan (record { side = side; line = line })) id
own_stream plan Host line id is =
    let tests = far_tests line is in
    stream_is_there plan line id ∙ (rw (tests.0, tests.1, tests.2) refl)
own_stream plan Device line id is =
    let tests = near_tests line is in
    stream_is_there plan line id ∙ (rw (tests.0, tests.1) refl)

-- ---- bytes

lacking : (plan : Plan) (side : Side) (line : ℕ) (bytes : List ℕ) → is_switch_side side line ≡ true
    → lacks_stream plan (record { side = side; line = line }) (id_in bytes)
    ≡ are_of_other_stream (hop_of_switch plan (record { side = side; line = line })) bytes
unfolding id_in
lacking plan side line [] is = refl
lacking plan side line (a ∷ []) is = refl
lacking plan side line (a ∷ (b ∷ [])) is = refl
lacking plan side line (a ∷ (b ∷ (id ∷ bytes))) is = by (a == 0x92)
  where
    by : (c : Bool) → lacks_stream plan (record { side = side; line = line }) (if c then Some id else None)
        ≡ (c && not (hop_has_id (hop_of_switch plan (record { side = side; line = line })) id))
    by true = ap not (own_stream plan side line id is)
    by false = refl

goes_is : (plan : Plan) → FitsPlan plan → (a : ArrivedBytes)
    → goes_through plan a.port a.bytes ≡ go_through_switch plan a
unfolding goes_through
goes_is plan fits a = ap (λ (b : Bool). b && lacks_stream plan a.port (id_in a.bytes))
    (on_switch plan fits a.port.side a.port.line) ∙ by (is_switch_port a.port) refl
  where
    by : (b : Bool) → is_switch_port a.port ≡ b → (b && lacks_stream plan a.port (id_in a.bytes))
        ≡ (b && are_of_other_stream (hop_of_switch plan a.port) a.bytes)
    by true is = lacking plan a.port.side a.port.line a.bytes is
    by false is = refl

-- ---- the pair

at_port : (plan : Plan) → FitsPlan plan → (a : ArrivedBytes) → go_through_switch plan a ≡ true
    → port_of plan a.port ≡ a.port
at_port plan fits a goes = own_port plan fits a.port.side a.port.line (first_of (is_switch_port a.port) _ goes)
  where
    first_of : (b c : Bool) → (b && c) ≡ true → b ≡ true
    first_of b c is = grind arith

through_is : (plan : Plan) → FitsPlan plan → (h : History) (a : ArrivedBytes) → go_through_switch plan a ≡ true
    → ending_due plan h a.port (before_tag plan h a) ≡ v.Through a.port
unfolding before_tag
through_is plan fits h a goes = rw (goes_is plan fits a ∙ goes) (ap v.Through (at_port plan fits a goes))

packet_not : (plan : Plan) (h : History) (port q : PortName) (p : Packet)
    → v.Through q ≡ ending_due plan h port (before_tag_of_cut plan h port (Ok (IdePacket p))) → ⊥
packet_not plan h port q p is = grind arith

cut_not : (plan : Plan) (h : History) (port q : PortName) (r : Result CutValue PacketFault)
    → v.Through q ≡ ending_due plan h port (before_tag_of_cut plan h port r) → ⊥
cut_not plan h port q (Err f) is = absurd cc
cut_not plan h port q (Ok PlainTlp) is = absurd cc
cut_not plan h port q (Ok (IdePacket p)) is = packet_not plan h port q p is

goes_if : (plan : Plan) → FitsPlan plan → (h : History) (a : ArrivedBytes) (q : PortName)
    → v.Through q ≡ ending_due plan h a.port (before_tag plan h a) → go_through_switch plan a ≡ true
unfolding before_tag
goes_if plan fits h a q is = sym (goes_is plan fits a) ∙ by (goes_through plan a.port a.bytes) is
  where
    by : (b : Bool) → v.Through q ≡ ending_due plan h a.port
        (if b then Err (through_due plan a.port) else before_tag_of_cut plan h a.port (cut_of a.bytes)) → b ≡ true
    by true is = refl
    by false is = absurd (cut_not plan h a.port q (cut_of a.bytes) is)

same_port : (p q : PortName) → v.Through p ≡ v.Through q → p ≡ q
same_port p q is = cc

only : (plan : Plan) → FitsPlan plan → (h : History) (e : Event) (port : PortName) → v.Through port ≡ due plan h e
    → BringsThrough plan h e port
only plan fits h e port is = by (arrival_of_event plan h e) refl
  where
    by : (o : Option ArrivedBytes) → arrival_of_event plan h e ≡ o → BringsThrough plan h e port
    by None none = absurd (true≢false (ap is_of_arrival is ∙ others plan h e none))
    by (Some a) came =
        let told = is ∙ due_arrives plan h e a came in
        let goes = goes_if plan fits h a port told in
        record {
          came = a;
          arrival = came;
          at_port = same_port a.port port (sym (told ∙ through_is plan fits h a goes));
          goes = goes;
        }

exactly : (plan : Plan) → FitsPlan plan → (h : History) (e : Event) (w : Verdict) → CauseLaw plan ((e, w) ∷ h)
    → IsThroughExactly plan h e w
exactly plan fits h e w cause = record {
  if_goes = λ port brings. cause.0 ∙ (due_arrives plan h e brings.came brings.arrival
      ∙ (through_is plan fits h brings.came brings.goes ∙ ap v.Through brings.at_port));
  only_if = λ port is. only plan fits h e port (sym is ∙ cause.0);
}

pub exact_through_law : ExactThroughLawHolds
exact_through_law plan fits h cause = pairs_due plan (IsThroughExactly plan) (exactly plan fits) h cause
