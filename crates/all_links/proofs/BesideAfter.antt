-- What an event makes of what stands beside the ports. Most events keep all of it. A call of one link changes that link
-- alone; what an operation on a stream tells the manager of interfaces goes by the cases of its outcome (`told_here`).
use Rattle.all_links.proofs.Terms.{◌≡◌, ℕ, ◌+◌, ◌==◌, ◌<◌, not, Bool, true, false, List, length, refl, ap, sym, ◌∙◌}
use Rattle.all_links.proofs.Terms.{subst, arith, nat_tests, Option, Some, None, slice_get, slice_set, EndsView}
use Rattle.all_links.proofs.Terms.{none-some, same_Some, true-lt, nat_lt, IsSome, if◌then◌else◌, Verdict, StreamStage}
use Rattle.all_links.proofs.Terms.{LinkEnds, Links, InterfacesView, ManagerView, Named, named_stream, stream_named}
use Rattle.all_links.proofs.Terms.{OperatesAt, ResetsAt, PortName, peer_live, port_on, work_of, told_by_line}
use Rattle.all_links.proofs.Terms.{drawn_on_line, nat_le, ◌-◌}
use Rattle.std.proofs.Common.{◌&&◌}
use Rattle.std.specs.Prelude.{IfSome}
use Rattle.script_events.specs.declared.event.Loss.{Loss}
use Rattle.event_verdicts.specs.declared.verdict.Operation.{Operation}
use Rattle.event_verdicts.specs.declared.verdict.Operation.TheVariants as operation
use Rattle.key_host.specs.declared.operation.NamedOperation.{NamedOperation as OpCall}
use Rattle.key_host.specs.declared.operation.NamedOperation.TheVariants as call
use Rattle.key_host.specs.declared.operation.StreamOutcome.{StreamOutcome}
use Rattle.key_host.specs.Operations.{OpName, op_name}
use Rattle.key_host.specs.Walk.{verdict_of}
use Rattle.interface_state.specs.Machine.{DeviceTdi, Call}
use Rattle.interface_host.specs.declared.operation.InterfaceOperation.{InterfaceOperation}
use Rattle.interface_host.specs.declared.operation.InterfaceOutcome.{InterfaceOutcome}
use Rattle.interface_host.specs.Managers.{reset_interface_manager}
use Rattle.interface_ends.specs.Keepers.{Ended}
use Rattle.line_arrivals.specs.{operated_on, HostKeeper, AsksAtLink, CallsAtLink, told_by_place, drawn_at_place}
use Rattle.line_arrivals.specs.{line_place, LinePlace, Link, Near, Pair, secure_or_live, manager_told}
use Rattle.all_links.specs.Interfaces.{interface_named, has_peer_in}
use Rattle.all_links.specs.BesideAfter.{BesideStays, told_on_line, peers_drawn, BesideOperation, BesideReset}
use Rattle.all_links.specs.BesideAfter.{BesideAsking, BesideBinding, called_if, BesideCall, told_by_link, told_by_peer}
use Rattle.all_links.specs.BesideAfter.{works_on, reset_if}
use Rattle.all_links.proofs.Asked.{if_some, is_found, set_back, with_interfaces}
use Rattle.all_links.proofs.Settled.{all_same, reset_device, operated_follow}
use Rattle.ide_types.specs.Ports.{host_port}
use Rattle.spec_interfaces.specs.Views.{peer_of}
use Rattle.interface_ends.specs.Replies.{settled_interfaces}

-- ---- nothing

pub keeps_with : (old new : Links) → new.ends.links ≡ old.ends.links → new.keeper ≡ old.keeper
    → new.trusted.contents ≡ old.trusted.contents → BesideStays old new
keeps_with old new ends keeper contents = record {
  keeper = ap (λ (k : HostKeeper). k.interfaces) keeper;
  peer_draws = ap (λ (k : HostKeeper). k.peer_draws) keeper;
  devices = λ i l l' at at'.
      ap (λ (y : LinkEnds). y.device.interfaces)
      (same_Some l' l (sym at' ∙ ap (λ (xs : List LinkEnds). slice_get xs i) ends ∙ at));
  contents = contents;
}

pub keeps_all : {old new : Links} → new ≡ record old { steps = old.steps + 1 } → BesideStays old new
keeps_all {old} {new} is = keeps_with old new (ap (λ (s : Links). s.ends.links) is) (ap (λ (s : Links). s.keeper) is)
    (ap (λ (s : Links). s.trusted.contents) is)

-- ---- resets

pub nothing_resets : {old new : Links} (link : ℕ) → false ≡ nat_lt link (length old.ends.links)
    → new ≡ record old { steps = old.steps + 1 } → BesideReset link old new
nothing_resets {old} {new} link nowhere is = record {
  contents = ap (λ (s : Links). s.trusted.contents) is;
  peer_draws = ap (λ (s : Links). s.keeper.peer_draws) is;
  devices = λ lt. absurd (grind (arith, nat_tests, nowhere, lt));
  keeper = λ lt. absurd (grind (arith, nat_tests, nowhere, lt));
  absent = λ past. keeps_all is;
}

pub reset_beside : (old : Links) (link : ℕ) (es : List PortName) (ends : EndsView) (k : HostKeeper)
    → nat_lt link (length old.ends.links) ≡ true → ResetsAt old.ends link es ends
    → k.interfaces ≡ reset_interface_manager link old.keeper.interfaces → k.peer_draws ≡ old.keeper.peer_draws
    → BesideReset link old (record old { ends = ends; keeper = k; steps = old.steps + 1 })
reset_beside old link es ends k here ends_are keeper draws =
    let lt : link < length old.ends.links = true-lt link (length old.ends.links) here in
    record {
      contents = refl;
      peer_draws = draws;
      devices = λ there i l l' at at'.
          subst (λ (v : EndsView). l'.device.interfaces ≡ settled_interfaces
          (secure_or_live l'.device.port (peer_live v i))
          (reset_if (i == link) l.device.interfaces)) (sym ends_are)
          (reset_device old.ends link es i l l' at
          (ap (λ (v : EndsView). slice_get v.links i) (sym ends_are) ∙ at'));
      keeper = λ there. keeper;
      absent = λ past. absurd (omega (arith, lt, past));
    }

-- ---- operations of the manager on interfaces

pub nothing_asked : {old new : Links} (n : ℕ) (o : InterfaceOperation) (loss : Option Loss)
    → None ≡ interface_named old.keeper.interfaces old.ends.links n → new ≡ record old { steps = old.steps + 1 }
    → BesideAsking n o loss old new
nothing_asked {old} {new} n o loss nowhere is = record {
  contents = ap (λ (s : Links). s.trusted.contents) is;
  peer_draws = ap (λ (s : Links). s.keeper.peer_draws) is;
  unnamed = λ none. keeps_all is;
  asked = λ at l x named_is link_there kept_there. absurd (none-some at (nowhere ∙ named_is));
}

pub asked_beside : (old new : Links) (n : ℕ) (at : ℕ × ℕ) (o : InterfaceOperation) (loss : Option Loss)
    (outcome : InterfaceOutcome)
    (ends : EndsView) (k : HostKeeper) → Some at ≡ interface_named old.keeper.interfaces old.ends.links n
    → AsksAtLink old.ends at.0 old.keeper n o loss outcome ends k
    → new ≡ record old { ends = ends; keeper = k; steps = old.steps + 1 } → BesideAsking n o loss old new
asked_beside old new n at o loss outcome ends k here asks is = record {
  contents = ap (λ (s : Links). s.trusted.contents) is;
  peer_draws = (let f = is_found old.keeper.interfaces old.ends n at here in
      ap (λ (s : Links). s.keeper.peer_draws) is ∙ (asks f.ends_at f.link_there).2.peer_draws);
  unnamed = λ none. absurd (none-some at (sym none ∙ sym here));
  asked = λ place l x named_is link_there kept_there.
      let same : at ≡ place = same_Some at place (here ∙ named_is) in
      let a = subst (λ (p : ℕ × ℕ). AsksAtLink old.ends p.0 old.keeper n o loss outcome ends k) same asks l link_there
      in
      let e : Ended = operated_on n o loss old.keeper.keys (peer_live old.ends place.0) old.keeper.interfaces l x in
      let came = a.2.ended x kept_there in (
        ap (λ (s : Links). s.keeper.interfaces) is ∙ came.manager_is,
        ap (λ (s : Links). s.ends) is ∙ a.1
            ∙ ap (λ (y : LinkEnds). record old.ends { links = slice_set old.ends.links place.0 y })
            (a.2.ends ∙ ap (λ (d : _). with_interfaces d l) came.device_is),
      );
}

-- one on a stream between devices that is not there, and one on one that is
pub no_peer_beside : {old new : Links} (n line stream : ℕ) (o : InterfaceOperation) (loss : Option Loss)
    → (nat_lt stream 256 && has_peer_in old.keeper old.ends n line stream) ≡ false
    → new ≡ record old { steps = old.steps + 1 } → BesideBinding n line stream o loss old new
no_peer_beside {old} {new} n line stream o loss none is = record {
  late = λ most. keeps_all is;
  absent = λ no. keeps_all is;
  asked = λ small has. absurd (never (has_peer_in old.keeper old.ends n line stream) none has small);
}
  where
    never : (b : Bool) → (nat_lt stream 256 && b) ≡ false → b ≡ true → stream < 256 → ⊥
    never b none has small =
        let low : nat_lt stream 256 ≡ true = grind (arith, nat_tests, small) in
        let both : true ≡ false = sym (λ i. low i && has i) ∙ none in cc

pub peer_beside : (old new : Links) (n line stream : ℕ) (o : InterfaceOperation) (loss : Option Loss) → stream < 256
    → has_peer_in old.keeper old.ends n line stream ≡ true → BesideAsking n o loss old new
    → BesideBinding n line stream o loss old new
peer_beside old new n line stream o loss small has x = record {
  late = λ most. absurd (omega (arith, small, most));
  absent = λ none. absurd (let both : true ≡ false = sym has ∙ none in cc);
  asked = λ less there. x;
}

-- ---- calls of a device's interface

pub nothing_called : {old new : Links} (n : ℕ) (test : DeviceTdi → Bool) (call : Call)
    → None ≡ interface_named old.keeper.interfaces old.ends.links n → new ≡ record old { steps = old.steps + 1 }
    → BesideCall n test call old new
nothing_called {old} {new} n test call nowhere is = record {
  keeper = ap (λ (s : Links). s.keeper.interfaces) is;
  peer_draws = ap (λ (s : Links). s.keeper.peer_draws) is;
  contents = ap (λ (s : Links). s.trusted.contents) is;
  unnamed = λ none. keeps_all is;
  called = λ at l tdi named_is link_there tdi_there. absurd (none-some at (nowhere ∙ named_is));
}

-- of the interface at this place the test is so
abbrev pub Tests : EndsView → ℕ × ℕ → (DeviceTdi → Bool) → Bool → Type 0
Tests v at test b = (l : LinkEnds) (tdi : DeviceTdi) → slice_get v.links at.0 ≡ Some l
    → slice_get l.device.interfaces.interfaces at.1 ≡ Some tdi → test tdi ≡ b

pub called_beside : (old new : Links) (n : ℕ) (at : ℕ × ℕ) (test : DeviceTdi → Bool) (call : Call) (code : ℕ)
    (ends : EndsView) → Some at ≡ interface_named old.keeper.interfaces old.ends.links n → Tests old.ends at test true
    → CallsAtLink old.ends at.0 at.1 call code ends → new ≡ record old { ends = ends; steps = old.steps + 1 }
    → BesideCall n test call old new
called_beside old new n at test call code ends here tests calls is = record {
  keeper = ap (λ (s : Links). s.keeper.interfaces) is;
  peer_draws = ap (λ (s : Links). s.keeper.peer_draws) is;
  contents = ap (λ (s : Links). s.trusted.contents) is;
  unnamed = λ none. absurd (none-some at (sym none ∙ sym here));
  called = λ place l tdi named_is link_there tdi_there.
      let same : at ≡ place = same_Some at place (here ∙ named_is) in
      let a = subst (λ (p : ℕ × ℕ). CallsAtLink old.ends p.0 p.1 call code ends) same calls l link_there in
      let meets = subst (λ (p : ℕ × ℕ). Tests old.ends p test true) same tests l tdi link_there tdi_there in
      let after : LinkEnds = called_if (λ t. true) l place.1 tdi call in
      ap (λ (s : Links). s.ends) is ∙ a.1
      ∙ ap (λ (y : LinkEnds). record old.ends { links = slice_set old.ends.links place.0 y })
      (a.2.ends tdi tdi_there ∙ ap (λ (b : Bool). if b then after else l) (sym meets));
}

pub not_called : (old new : Links) (n : ℕ) (at : ℕ × ℕ) (test : DeviceTdi → Bool) (call : Call)
    → Some at ≡ interface_named old.keeper.interfaces old.ends.links n → Tests old.ends at test false
    → new ≡ record old { steps = old.steps + 1 } → BesideCall n test call old new
not_called old new n at test call here tests is = record {
  keeper = ap (λ (s : Links). s.keeper.interfaces) is;
  peer_draws = ap (λ (s : Links). s.keeper.peer_draws) is;
  contents = ap (λ (s : Links). s.trusted.contents) is;
  unnamed = λ none. keeps_all is;
  called = λ place l tdi named_is link_there tdi_there.
      let same : at ≡ place = same_Some at place (here ∙ named_is) in
      let fails = subst (λ (p : ℕ × ℕ). Tests old.ends p test false) same tests l tdi link_there tdi_there in
      let after : LinkEnds = called_if (λ t. true) l place.1 tdi call in
      ap (λ (s : Links). s.ends) is
      ∙ ap (λ (ls : List LinkEnds). record old.ends { links = ls })
      (sym (set_back old.ends.links place.0 l link_there)
      ∙ ap (λ (b : Bool). slice_set old.ends.links place.0 (if b then after else l)) (sym fails));
}

-- ---- operations on streams

-- lines at a switch, and those of a hop, are none of the streams between devices
not_peers : (line : ℕ) → nat_lt line 16 ≡ true → nat_le 24 line ≡ false
not_peers line low = grind (arith, nat_tests, low)

-- where no stream of a link is
module _ (q : StreamStage) (before after : ℕ) (m : InterfacesView) where
  abbrev drew : Bool
  drew = not (after == before)

  told_link : (c : OpCall) (loss : Option Loss) (result : StreamOutcome) (verdict : Verdict)
      → verdict_of (op_name c).operation (op_name c).line (op_name c).stream loss result ≡ Some verdict
      → manager_told c (work_of (op_name c).operation q 0).begins drew before result m
      ≡ told_by_link (op_name c).operation (op_name c).line (op_name c).stream q before after verdict m
  told_link (call.Establish line id) loss result verdict says = refl
  told_link (call.Stop line id) loss result verdict says = refl
  told_link (call.Refresh line id) loss result verdict says = grind arith

  -- of another line
  told_other : (c : OpCall) (begins : Bool) (result : StreamOutcome) (near : Bool) → nat_lt (op_name c).line 16 ≡ near
      → told_by_place (if near then Near ((op_name c).line - 8) else Pair ((op_name c).line - 16)) c begins drew before
      result m ≡ (if nat_le 24 (op_name c).line then told_by_peer (op_name c).operation (op_name c).line m else m)
  told_other (call.Establish line id) begins result near is = both near (nat_le 24 line)
    where
      both : (a b : Bool) → told_by_place (if a then Near (line - 8) else Pair (line - 16)) (call.Establish line id)
          begins drew before result m ≡ (if b then m else m)
      both true true = refl
      both true false = refl
      both false true = refl
      both false false = refl
  told_other (call.Refresh line id) begins result near is = both near (nat_le 24 line)
    where
      both : (a b : Bool) → told_by_place (if a then Near (line - 8) else Pair (line - 16)) (call.Refresh line id)
          begins drew before result m ≡ (if b then m else m)
      both true true = refl
      both true false = refl
      both false true = refl
      both false false = refl
  told_other (call.Stop line id) begins result true is =
      sym (ap (λ (b : Bool). if b then told_by_peer operation.Stop line m else m) (not_peers line is))
  told_other (call.Stop line id) begins result false is = refl

  told_here : (c : OpCall) (loss : Option Loss) (result : StreamOutcome) (verdict : Verdict)
      → verdict_of (op_name c).operation (op_name c).line (op_name c).stream loss result ≡ Some verdict
      → told_by_line (op_name c).line c (work_of (op_name c).operation q 0).begins drew before result m
      ≡ told_on_line (op_name c).operation (op_name c).line (op_name c).stream q before after verdict m
  told_here c loss result verdict says = by (nat_lt (op_name c).line 8) refl
    where
      by : (b : Bool) → nat_lt (op_name c).line 8 ≡ b → told_by_place
          (if b then Link (op_name c).line else if nat_lt (op_name c).line 16 then Near ((op_name c).line - 8) else Pair
          ((op_name c).line - 16)) c (work_of (op_name c).operation q 0).begins drew before result m
          ≡ (if b then told_by_link (op_name c).operation (op_name c).line (op_name c).stream q before after verdict m
          else if nat_le 24 (op_name c).line then told_by_peer (op_name c).operation (op_name c).line m else m)
      by true is = told_link c loss result verdict says
      by false is = told_other c (work_of (op_name c).operation q 0).begins result (nat_lt (op_name c).line 16) refl

drawn_here : (c : OpCall) (before after : ℕ) (draws : List ℕ)
    → drawn_on_line (op_name c).line c (not (after == before)) before draws
    ≡ peers_drawn (op_name c).operation (op_name c).line before after draws
drawn_here (call.Establish line id) before after draws = by (nat_lt line 8) refl
  where
    drawn : Bool → List ℕ
    drawn b = if b && not (after == before) then slice_set draws (peer_of line) before else draws

    behind : (b : Bool) → nat_lt line 16 ≡ b → drawn_at_place (if b then Near (line - 8) else Pair (line - 16))
        (call.Establish line id) (not (after == before)) before draws ≡ drawn (nat_le 24 line)
    behind true is = sym (ap drawn (not_peers line is))
    behind false is = refl

    by : (b : Bool) → nat_lt line 8 ≡ b
        → drawn_at_place (if b then Link line else if nat_lt line 16 then Near (line - 8) else Pair (line - 16))
        (call.Establish line id) (not (after == before)) before draws ≡ drawn (nat_le 24 line)
    by true is = sym (ap drawn (not_peers line (grind (arith, nat_tests, is))))
    by false is = behind (nat_lt line 16) refl
drawn_here (call.Refresh line id) before after draws = by (line_place line)
  where
    by : (place : LinePlace) → drawn_at_place place (call.Refresh line id) (not (after == before)) before draws ≡ draws
    by (Link i) = refl
    by (Near i) = refl
    by (Pair i) = refl
drawn_here (call.Stop line id) before after draws = by (line_place line)
  where
    by : (place : LinePlace) → drawn_at_place place (call.Stop line id) (not (after == before)) before draws ≡ draws
    by (Link i) = refl
    by (Near i) = refl
    by (Pair i) = refl

pub nothing_operates : {old new : Links} (operation : Operation) (line id : ℕ) (verdict : Verdict)
    → None ≡ stream_named old.keeper.keys.manager old.ends line id
    → new ≡ record old { steps = old.steps + 1 } → BesideOperation operation line id verdict old new
nothing_operates {old} {new} operation line id verdict nowhere is = record {
  devices = all_same old.ends new.ends (ap (λ (s : Links). s.ends) is);
  contents = ap (λ (s : Links). s.trusted.contents) is;
  unnamed = λ none. (ap (λ (s : Links). s.keeper.interfaces) is, ap (λ (s : Links). s.keeper.peer_draws) is);
  told = λ n there_is named_is. absurd (none-some (line, id) (nowhere ∙ there_is));
  drawn = λ n there_is named_is. absurd (none-some (line, id) (nowhere ∙ there_is));
}

-- an operation that there is not on the line
pub not_operated : {old new : Links} (operation : Operation) (line id : ℕ) (verdict : Verdict)
    → works_on operation line ≡ false → new ≡ record old { steps = old.steps + 1 }
    → BesideOperation operation line id verdict old new
not_operated {old} {new} operation.Establish line id verdict not is = absurd cc
not_operated {old} {new} operation.Stop line id verdict not is = absurd cc
not_operated {old} {new} operation.Refresh line id verdict not is = record {
  devices = all_same old.ends new.ends (ap (λ (s : Links). s.ends) is);
  contents = ap (λ (s : Links). s.trusted.contents) is;
  unnamed = λ none. (ap (λ (s : Links). s.keeper.interfaces) is, ap (λ (s : Links). s.keeper.peer_draws) is);
  told = λ n there_is named_is. ap (λ (s : Links). s.keeper.interfaces) is
      ∙ sym (nothing_told n.stream.op new.keeper.keys.pool.draws old.keeper.interfaces);
  drawn = λ n there_is named_is. ap (λ (s : Links). s.keeper.peer_draws) is;
}
  where
    nothing_told : (q : StreamStage) (after : ℕ) (m : InterfacesView)
        → told_on_line operation.Refresh line id q old.keeper.keys.pool.draws after verdict m ≡ m
    nothing_told q after m =
        ap (λ (b : Bool). if b then told_by_link operation.Refresh line id q old.keeper.keys.pool.draws after verdict m
        else if nat_le 24 line then m else m) not ∙ both (nat_le 24 line)
      where
        both : (b : Bool) → (if b then m else m) ≡ m
        both true = refl
        both false = refl

pub operated_beside : (old : Links) (ends : EndsView) (k : HostKeeper) (c : OpCall) (operation : Operation)
    (line id : ℕ) (loss : Option Loss) (result : StreamOutcome) (verdict : Verdict)
    → Some (line, id) ≡ stream_named old.keeper.keys.manager old.ends line id
    → IsSome (port_on old.ends (host_port line))
    → op_name c ≡ record { operation = operation; line = line; stream = id }
    → OperatesAt old.ends line old.keeper.keys c loss result ends k.keys
    → IfSome (named_stream old.keeper.keys.manager (op_name c).line (op_name c).stream) (λ (n : Named).
    k.interfaces ≡ told_by_line (op_name c).line c (work_of (op_name c).operation n.stream.op 0).begins
    (not (k.keys.pool.draws == old.keeper.keys.pool.draws)) old.keeper.keys.pool.draws result old.keeper.interfaces)
    → k.peer_draws ≡ drawn_on_line (op_name c).line c (not (k.keys.pool.draws == old.keeper.keys.pool.draws))
    old.keeper.keys.pool.draws old.keeper.peer_draws
    → verdict_of operation line id loss result ≡ Some verdict
    → BesideOperation operation line id verdict old (record old { ends = ends; keeper = k; steps = old.steps + 1 })
operated_beside old ends k c operation line id loss result verdict found here name operates tells draws says =
    let m : ManagerView = old.keeper.keys.manager in
    let before : ℕ = old.keeper.keys.pool.draws in
    let after : ℕ = k.keys.pool.draws in
    record {
      devices = operated_follow old.ends old.keeper.keys c loss result ends k.keys line here operates;
      contents = refl;
      unnamed = λ none. absurd (none-some (line, id) (sym none ∙ sym found));
      told = λ n at named_is.
          let same : named_stream m (op_name c).line (op_name c).stream ≡ Some n =
          ap (λ (x : OpName). named_stream m x.line x.stream) name ∙ named_is in
          if_some (λ (y : Named). k.interfaces ≡ told_by_line (op_name c).line c
          (work_of (op_name c).operation y.stream.op 0).begins (not (after == before)) before result
          old.keeper.interfaces) (named_stream m (op_name c).line (op_name c).stream) n same tells
          ∙ told_here n.stream.op before after old.keeper.interfaces c loss result verdict
          (subst (λ (x : OpName). verdict_of x.operation x.line x.stream loss result ≡ Some verdict) (sym name) says)
          ∙ ap (λ (x : OpName). told_on_line x.operation x.line x.stream n.stream.op before after verdict
          old.keeper.interfaces) name;
      drawn = λ n at named_is. draws ∙ drawn_here c before after old.keeper.peer_draws
          ∙ ap (λ (x : OpName). peers_drawn x.operation x.line before after old.keeper.peer_draws) name;
    }
