-- An item that is lent to be changed: what each call of one end, or of the ends of one line, makes of all ends.
use Rattle.all_ends.proofs.Terms.{◌≡◌, ℕ, ◌<◌, ◌≤◌, Bool, List, length, refl, ap, sym, ◌∙◌, subst, Option, Some, None}
use Rattle.all_ends.proofs.Terms.{option_map, slice_get, slice_set, slice_index_or, none-some, slice_get_within}
use Rattle.all_ends.proofs.Terms.{slice_get_read, Side, Host, Device, PortName, PortEnd, take_step, EndsView, LinkEnds}
use Rattle.all_ends.proofs.Terms.{PairEnds, port_in, with_port, pair_port, with_pair_port, line_place, LinePlace, Link}
use Rattle.all_ends.proofs.Terms.{Near, Pair, port_at_place, port_on, with_port_at_place, with_port_on, changed_at}
use Rattle.all_ends.proofs.Terms.{peer_live, KeeperView, NoMoreUnits, Operates}
use Rattle.all_ends.specs.Ends.{trust_at_place, link_trust, asked_trust, pair_trust, settled_place}
use Rattle.ide_port.specs.Sends.{IsSendStep}
use Rattle.all_ends.specs.AllEnds.{PortStep, SendsByPlace, TakesAt, SendsAtEnd, OperatesByPlace, OperatesAt, Settles}
use Rattle.all_ends.specs.AllEnds.{Calls, step_by_place}
use Rattle.all_ends.specs.AllEnds.{CallsAtLink, Asks, AsksAtLink, IsEnded}
use Rattle.all_ends.specs.Places.{code_behind}
use Rattle.all_ends.specs.States.{EndsUnitsAtMost}
use Rattle.link_ends.specs.declared.host.HostKeeper.{HostKeeper}
use Rattle.link_ends.specs.Hosts.{operated_on}
use Rattle.interface_ends.specs.Keepers.{Ended}
use Rattle.interface_host.specs.declared.operation.InterfaceOperation.{InterfaceOperation}
use Rattle.interface_host.specs.declared.operation.InterfaceOutcome.{InterfaceOutcome}
use Rattle.interface_host.specs.Views.{HostTdi}
use Rattle.ide_prefix.specs.Reading.{cut_of}
use Rattle.ide_port.specs.{IsSentAtPort, PortUnitsAtMost, Trusting}
use Rattle.ide_port.specs.declared.answer.Arrival.{Arrival}
use Rattle.ide_port.specs.declared.answer.Sent.{Sent}
use Rattle.link_ends.specs.Ends.{trusting_at}
use Rattle.link_ends.specs.Keepers.{KeysAlone}
use Rattle.link_ends.specs.PairKeepers.{PairOperates, NoMorePairUnits}
use Rattle.script_events.specs.declared.event.Loss.{Loss}
use Rattle.key_host.specs.declared.operation.NamedOperation.{NamedOperation}
use Rattle.key_host.specs.declared.operation.StreamOutcome.{StreamOutcome}
use Rattle.link_ends.specs.declared.device.Device.{Device as DeviceEnd}
use Rattle.interface_ends.specs.Replies.{called_at}
use Rattle.interface_state.specs.Machine.{DeviceTdi, Call, state_code, interface_after_call}
use Rattle.std.specs.Prelude.{IfSome, IsSome, is_some, true, false, nat_lt, ◌-◌, if◌then◌else◌}
use Rattle.std.proofs.Common.{arith}
use Rattle.std.proofs.lemmas.Bool.Decides.{nat_tests}
use Rattle.std.proofs.lemmas.Option.{get_or_from_slice_get, slice_get_past}
use Rattle.all_ends.proofs.ByPlace.{changed_is, changed_none, seen_same, set_there, there}
use Rattle.all_ends.proofs.Finds.{mapped}

-- ---- an item that is read and written

pub put_changed : {A : Type 0} (xs : List A) (i : ℕ) (f : A → A) (x y : A) → i < length xs → x ≡ slice_index_or xs i x
    → y ≡ f x → slice_set xs i y ≡ changed_at xs i f
put_changed xs i f x y lt read is =
    ap (λ z. slice_set xs i z) is ∙ sym (changed_is xs i f x (slice_get_read xs (length xs) i x refl lt read))

pub none_changed : {A : Type 0} (xs : List A) (i : ℕ) (f : A → A) → length xs ≤ i → xs ≡ changed_at xs i f
none_changed xs i f le = sym (changed_none xs i f (slice_get_past xs i le))

-- what was read is what stands there
pub read_there : {A : Type 0} (xs : List A) (i : ℕ) (x l : A) → x ≡ slice_index_or xs i x → slice_get xs i ≡ Some l → x
    ≡ l
read_there xs i x l read is = read ∙ get_or_from_slice_get xs i l x is

pub some_port : (o : Option PortEnd) → IsSome o → (e : PortEnd) × (o ≡ Some e)
some_port None is = absurd cc
some_port (Some e) is = (e, refl)

pub some_mapped : {A B : Type 0} (f : A → B) (o : Option A) (y : B) → option_map f o ≡ Some y → IsSome o
some_mapped f None y is = absurd (none-some y is)
some_mapped f (Some x) y is = refl

-- ---- an end that is put

changed_get : {A : Type 0} (xs : List A) (i : ℕ) (f : A → A) (x : A) → slice_get xs i ≡ Some x
    → slice_get (changed_at xs i f) i ≡ Some (f x)
changed_get xs i f x is = ap (λ ys. slice_get ys i) (changed_is xs i f x is) ∙ set_there xs i x (f x) is

port_back : (s : Side) (e : PortEnd) (l : LinkEnds) → port_in s (with_port s e l) ≡ e
port_back Host e l = refl
port_back Device e l = refl

pair_back : (s : Side) (e : PortEnd) (l : PairEnds) → pair_port s (with_pair_port s e l) ≡ e
pair_back Host e l = refl
pair_back Device e l = refl

put_at_place : (v : EndsView) (s : Side) (place : LinePlace) (e e' : PortEnd) → port_at_place v s place ≡ Some e
    → port_at_place (with_port_at_place v s place e') s place ≡ Some e'
put_at_place v s (Link i) e e' is =
    let x = mapped (λ (l : LinkEnds). port_in s l) (slice_get v.links i) e is in
    ap (λ (o : Option LinkEnds). option_map (λ (l : LinkEnds). port_in s l) o)
    (changed_get v.links i (with_port s e') x.0 x.1) ∙ ap (λ (p : PortEnd). Some p) (port_back s e' x.0)
put_at_place v s (Near i) e e' is =
    let x = mapped (λ (l : LinkEnds). port_in s l) (slice_get v.near i) e is in
    ap (λ (o : Option LinkEnds). option_map (λ (l : LinkEnds). port_in s l) o)
    (changed_get v.near i (with_port s e') x.0 x.1) ∙ ap (λ (p : PortEnd). Some p) (port_back s e' x.0)
put_at_place v s (Pair i) e e' is =
    let x = mapped (λ (l : PairEnds). pair_port s l) (slice_get v.pairs i) e is in
    ap (λ (o : Option PairEnds). option_map (λ (l : PairEnds). pair_port s l) o)
    (changed_get v.pairs i (with_pair_port s e') x.0 x.1) ∙ ap (λ (p : PortEnd). Some p) (pair_back s e' x.0)

pub port_put : (v : EndsView) (end : PortName) (e e' : PortEnd) → port_on v end ≡ Some e
    → port_on (with_port_on v end e') end ≡ Some e'
port_put v end e e' is = put_at_place v end.side (line_place end.line) e e' is

-- the links are there with their interfaces
kept_interfaces : (s : Side) (e : PortEnd) (l : LinkEnds) → (with_port s e l).device.interfaces ≡ l.device.interfaces
kept_interfaces Host e l = refl
kept_interfaces Device e l = refl

after_at : (v : EndsView) (s : Side) (place : LinePlace) (e : PortEnd) (j : ℕ) (l : LinkEnds)
    → slice_get v.links j ≡ Some l → (l' : LinkEnds) × (slice_get (with_port_at_place v s place e).links j ≡ Some l')
    × (l'.device.interfaces ≡ l.device.interfaces)
after_at v s (Link i) e j l is =
    mapped (λ (x : LinkEnds). x.device.interfaces) (slice_get (changed_at v.links i (with_port s e)) j)
    l.device.interfaces
    (seen_same (λ (x : LinkEnds). x.device.interfaces) v.links i j (with_port s e) (λ x. kept_interfaces s e x)
    ∙ ap (λ (o : Option LinkEnds). option_map (λ (x : LinkEnds). x.device.interfaces) o) is)
after_at v s (Near i) e j l is = (l, is, refl)
after_at v s (Pair i) e j l is = (l, is, refl)

pub link_after : (v : EndsView) (end : PortName) (e : PortEnd) (j : ℕ) (l : LinkEnds) → slice_get v.links j ≡ Some l
    → (l' : LinkEnds) × (slice_get (with_port_on v end e).links j ≡ Some l')
    × (l'.device.interfaces ≡ l.device.interfaces)
link_after v end e j l is = after_at v end.side (line_place end.line) e j l is

-- ---- what is taken

-- the ends of a line that is kept there
module _ (v : EndsView) (end : PortName) (place : LinePlace) (at : place ≡ line_place end.line) where
  seen : (e : PortEnd) → port_on v end ≡ Some e → port_at_place v end.side place ≡ Some e
  seen e is = ap (λ (p : LinePlace). port_at_place v end.side p) at ∙ is

  put : (e : PortEnd) → with_port_at_place v end.side place e ≡ with_port_on v end e
  put e = ap (λ (p : LinePlace). with_port_at_place v end.side p e) at

-- the item of a list that an end is in, before and after
module _ (v : EndsView) (s : Side) (i : ℕ) (x y : LinkEnds) (e e' : PortEnd) where
  pub link_port : x ≡ slice_index_or v.links i x → port_at_place v s (Link i) ≡ Some e → port_in s x ≡ e
  link_port read is =
      let l = mapped (λ (l : LinkEnds). port_in s l) (slice_get v.links i) e is in
      ap (λ (z : LinkEnds). port_in s z) (read_there v.links i x l.0 read l.1) ∙ l.2

  pub link_put : x ≡ slice_index_or v.links i x → port_at_place v s (Link i) ≡ Some e → y ≡ with_port s e' x
      → record v { links = slice_set v.links i y } ≡ with_port_at_place v s (Link i) e'
  link_put read is made =
      let l = mapped (λ (l : LinkEnds). port_in s l) (slice_get v.links i) e is in
      ap (λ (ls : List LinkEnds). record v { links = ls })
      (put_changed v.links i (with_port s e') x y (slice_get_within v.links i l.0 l.1) read made)

  pub near_port : x ≡ slice_index_or v.near i x → port_at_place v s (Near i) ≡ Some e → port_in s x ≡ e
  near_port read is =
      let l = mapped (λ (l : LinkEnds). port_in s l) (slice_get v.near i) e is in
      ap (λ (z : LinkEnds). port_in s z) (read_there v.near i x l.0 read l.1) ∙ l.2

  pub near_put : x ≡ slice_index_or v.near i x → port_at_place v s (Near i) ≡ Some e → y ≡ with_port s e' x
      → record v { near = slice_set v.near i y } ≡ with_port_at_place v s (Near i) e'
  near_put read is made =
      let l = mapped (λ (l : LinkEnds). port_in s l) (slice_get v.near i) e is in
      ap (λ (ls : List LinkEnds). record v { near = ls })
      (put_changed v.near i (with_port s e') x y (slice_get_within v.near i l.0 l.1) read made)

module _ (v : EndsView) (s : Side) (i : ℕ) (x y : PairEnds) (e e' : PortEnd) where
  pub pair_read : x ≡ slice_index_or v.pairs i x → port_at_place v s (Pair i) ≡ Some e → pair_port s x ≡ e
  pair_read read is =
      let l = mapped (λ (l : PairEnds). pair_port s l) (slice_get v.pairs i) e is in
      ap (λ (z : PairEnds). pair_port s z) (read_there v.pairs i x l.0 read l.1) ∙ l.2

  pub pair_put : x ≡ slice_index_or v.pairs i x → port_at_place v s (Pair i) ≡ Some e → y ≡ with_pair_port s e' x
      → record v { pairs = slice_set v.pairs i y } ≡ with_port_at_place v s (Pair i) e'
  pair_put read is made =
      let l = mapped (λ (l : PairEnds). pair_port s l) (slice_get v.pairs i) e is in
      ap (λ (ls : List PairEnds). record v { pairs = ls })
      (put_changed v.pairs i (with_pair_port s e') x y (slice_get_within v.pairs i l.0 l.1) read made)

-- ---- an end that is lent is there, and has no more units than each end has

module _ {v old : EndsView} (end : PortName) (n i : ℕ) (is : old ≡ v) (here : IsSome (port_on v end)) where
  there_is : (e : PortEnd) × (port_on old end ≡ Some e)
  there_is = some_port (port_on old end) (subst (λ (u : EndsView). IsSome (port_on u end)) (sym is) here)

  few_there : EndsUnitsAtMost n v → PortUnitsAtMost n there_is.0
  few_there few = few end there_is.0 (ap (λ (u : EndsView). port_on u end) (sym is) ∙ there_is.1)

  pub near_within : Near i ≡ line_place end.line → i < length old.near
  near_within at =
      let l = mapped (λ (l : LinkEnds). port_in end.side l) (slice_get old.near i) there_is.0
      (seen old end (Near i) at there_is.0 there_is.1) in
      slice_get_within old.near i l.0 l.1

  pub pair_within : Pair i ≡ line_place end.line → i < length old.pairs
  pair_within at =
      let l = mapped (λ (l : PairEnds). pair_port end.side l) (slice_get old.pairs i) there_is.0
      (seen old end (Pair i) at there_is.0 there_is.1) in
      slice_get_within old.pairs i l.0 l.1

  pub link_few : (x : LinkEnds) → EndsUnitsAtMost n v → Link i ≡ line_place end.line → x ≡ slice_index_or old.links i x
      → PortUnitsAtMost n (port_in end.side x)
  link_few x few at read =
      let e : PortEnd = there_is.0 in
      subst (λ (p : PortEnd). PortUnitsAtMost n p)
      (sym (link_port old end.side i x x e e read (seen old end (Link i) at e there_is.1))) (few_there few)

  pub near_few : (x : LinkEnds) → EndsUnitsAtMost n v → Near i ≡ line_place end.line → x ≡ slice_index_or old.near i x
      → PortUnitsAtMost n (port_in end.side x)
  near_few x few at read =
      let e : PortEnd = there_is.0 in
      subst (λ (p : PortEnd). PortUnitsAtMost n p)
      (sym (near_port old end.side i x x e e read (seen old end (Near i) at e there_is.1))) (few_there few)

  pub pair_few : (x : PairEnds) → EndsUnitsAtMost n v → Pair i ≡ line_place end.line → x ≡ slice_index_or old.pairs i x
      → PortUnitsAtMost n (pair_port end.side x)
  pair_few x few at read =
      let e : PortEnd = there_is.0 in
      subst (λ (p : PortEnd). PortUnitsAtMost n p)
      (sym (pair_read old end.side i x x e e read (seen old end (Pair i) at e there_is.1))) (few_there few)

module _ (v : EndsView) (end : PortName) (bytes : List ℕ) (i : ℕ) (answer : Arrival) where
  abbrev by : PortEnd → PortEnd
  by e = (take_step e (cut_of bytes)).port

  pub take_link : (x y : LinkEnds) → Link i ≡ line_place end.line → x ≡ slice_index_or v.links i x
      → answer ≡ (take_step (port_in end.side x) (cut_of bytes)).answer
      → y ≡ with_port end.side (take_step (port_in end.side x) (cut_of bytes)).port x
      → TakesAt v end bytes answer (record v { links = slice_set v.links i y })
  take_link x y at read says made e is =
      let there = seen v end (Link i) at e is in
      let same : port_in end.side x ≡ e = link_port v end.side i x y e e read there in
      record {
        answer_is = says ∙ ap (λ (p : PortEnd). (take_step p (cut_of bytes)).answer) same;
        new_is = link_put v end.side i x y e (by e) read there
            (made ∙ ap (λ (p : PortEnd). with_port end.side (by p) x) same)
            ∙ put v end (Link i) at (by e);
      }

  pub take_near : (x y : LinkEnds) → Near i ≡ line_place end.line → x ≡ slice_index_or v.near i x
      → answer ≡ (take_step (port_in end.side x) (cut_of bytes)).answer
      → y ≡ with_port end.side (take_step (port_in end.side x) (cut_of bytes)).port x
      → TakesAt v end bytes answer (record v { near = slice_set v.near i y })
  take_near x y at read says made e is =
      let there = seen v end (Near i) at e is in
      let same : port_in end.side x ≡ e = near_port v end.side i x y e e read there in
      record {
        answer_is = says ∙ ap (λ (p : PortEnd). (take_step p (cut_of bytes)).answer) same;
        new_is = near_put v end.side i x y e (by e) read there
            (made ∙ ap (λ (p : PortEnd). with_port end.side (by p) x) same)
            ∙ put v end (Near i) at (by e);
      }

  pub take_pair : (x y : PairEnds) → Pair i ≡ line_place end.line → x ≡ slice_index_or v.pairs i x
      → answer ≡ (take_step (pair_port end.side x) (cut_of bytes)).answer
      → y ≡ with_pair_port end.side (take_step (pair_port end.side x) (cut_of bytes)).port x
      → TakesAt v end bytes answer (record v { pairs = slice_set v.pairs i y })
  take_pair x y at read says made e is =
      let there = seen v end (Pair i) at e is in
      let same : pair_port end.side x ≡ e = pair_read v end.side i x y e e read there in
      record {
        answer_is = says ∙ ap (λ (p : PortEnd). (take_step p (cut_of bytes)).answer) same;
        new_is = pair_put v end.side i x y e (by e) read there
            (made ∙ ap (λ (p : PortEnd). with_pair_port end.side (by p) x) same)
            ∙ put v end (Pair i) at (by e);
      }

-- ---- what is sent

trust_there : (v : EndsView) (s : Side) (i : ℕ) (x : LinkEnds) (trusted : Bool) → slice_get v.links i ≡ Some x
    → trusting_at s x trusted ≡ trust_at_place v s (Link i) trusted
trust_there v Host i x trusted is = refl
trust_there v Device i x trusted is = sym (ap (λ (o : Option LinkEnds). link_trust Device trusted o) is)

-- what stands at an end takes a step
module _ (v : EndsView) (end : PortName) (step : PortStep) (answer : Sent) (sealed : List ℕ) (i : ℕ) where
  abbrev Steps : PortEnd → PortEnd → Type 0
  Steps e e' = (number : ℕ) → IsSendStep e.name number answer e' sealed (step e number)

  abbrev Stepped : EndsView → Type 0
  Stepped new = SendsByPlace v end.side (line_place end.line) step answer new sealed

  pub step_link : (x y : LinkEnds) → Link i ≡ line_place end.line → x ≡ slice_index_or v.links i x
      → Steps (port_in end.side x) (port_in end.side y) → y ≡ with_port end.side (port_in end.side y) x
      → Stepped (record v { links = slice_set v.links i y })
  step_link x y at read steps made e is =
      let there = seen v end (Link i) at e is in
      let e' : PortEnd = port_in end.side y in
      record {
        port = e';
        new_is = link_put v end.side i x y e e' read there made ∙ put v end (Link i) at e';
        sent = subst (λ (p : PortEnd). Steps p e') (link_port v end.side i x y e e read there) steps;
      }

  pub step_near : (x y : LinkEnds) → Near i ≡ line_place end.line → x ≡ slice_index_or v.near i x
      → Steps (port_in end.side x) (port_in end.side y) → y ≡ with_port end.side (port_in end.side y) x
      → Stepped (record v { near = slice_set v.near i y })
  step_near x y at read steps made e is =
      let there = seen v end (Near i) at e is in
      let e' : PortEnd = port_in end.side y in
      record {
        port = e';
        new_is = near_put v end.side i x y e e' read there made ∙ put v end (Near i) at e';
        sent = subst (λ (p : PortEnd). Steps p e') (near_port v end.side i x y e e read there) steps;
      }

  pub step_pair : (x y : PairEnds) → Pair i ≡ line_place end.line → x ≡ slice_index_or v.pairs i x
      → Steps (pair_port end.side x) (pair_port end.side y) → y ≡ with_pair_port end.side (pair_port end.side y) x
      → Stepped (record v { pairs = slice_set v.pairs i y })
  step_pair x y at read steps made e is =
      let there = seen v end (Pair i) at e is in
      let e' : PortEnd = pair_port end.side y in
      record {
        port = e';
        new_is = pair_put v end.side i x y e e' read there made ∙ put v end (Pair i) at e';
        sent = subst (λ (p : PortEnd). Steps p e') (pair_read v end.side i x y e e read there) steps;
      }

-- by association
module _ (v : EndsView) (end : PortName) (tlp : List ℕ) (more trusted : Bool) (answer : Sent) (sealed : List ℕ)
    (i : ℕ) where
  abbrev Goes : PortEnd → Trusting → PortEnd → Type 0
  Goes e t e' = (number : ℕ) → IsSentAtPort e tlp more t number answer e' sealed

  abbrev by_line : PortStep
  by_line = step_by_place v end.side (line_place end.line) tlp more trusted

  trust_of : (place : LinePlace) → place ≡ line_place end.line
      → trust_at_place v end.side place trusted ≡ trust_at_place v end.side (line_place end.line) trusted
  trust_of place at = ap (λ (p : LinePlace). trust_at_place v end.side p trusted) at

  pub send_link : (x y : LinkEnds) → Link i ≡ line_place end.line → x ≡ slice_index_or v.links i x
      → Goes (port_in end.side x) (trusting_at end.side x trusted) (port_in end.side y)
      → y ≡ with_port end.side (port_in end.side y) x
      → SendsAtEnd v end tlp more trusted answer (record v { links = slice_set v.links i y }) sealed
  send_link x y at read goes made e is =
      let l = mapped (λ (l : LinkEnds). port_in end.side l) (slice_get v.links i) e (seen v end (Link i) at e is) in
      let here : slice_get v.links i ≡ Some x =
      l.1 ∙ ap (λ (z : LinkEnds). Some z) (sym (read_there v.links i x l.0 read l.1)) in
      step_link v end by_line answer sealed i x y at read
      (subst (λ (t : Trusting). Goes (port_in end.side x) t (port_in end.side y))
      (trust_there v end.side i x trusted here ∙ trust_of (Link i) at) goes) made e is

  pub send_near : (x y : LinkEnds) → Near i ≡ line_place end.line → x ≡ slice_index_or v.near i x
      → Goes (port_in end.side x) (asked_trust trusted) (port_in end.side y)
      → y ≡ with_port end.side (port_in end.side y) x
      → SendsAtEnd v end tlp more trusted answer (record v { near = slice_set v.near i y }) sealed
  send_near x y at read goes made e is =
      step_near v end by_line answer sealed i x y at read
      (subst (λ (t : Trusting). Goes (port_in end.side x) t (port_in end.side y)) (trust_of (Near i) at) goes) made e is

  pub send_pair : (x y : PairEnds) (t : Trusting) → Pair i ≡ line_place end.line → x ≡ slice_index_or v.pairs i x
      → Goes (pair_port end.side x) t (pair_port end.side y) → t ≡ pair_trust v end.side i trusted
      → y ≡ with_pair_port end.side (pair_port end.side y) x
      → SendsAtEnd v end tlp more trusted answer (record v { pairs = slice_set v.pairs i y }) sealed
  send_pair x y t at read goes trusts made e is =
      step_pair v end by_line answer sealed i x y at read
      (subst (λ (u : Trusting). Goes (pair_port end.side x) u (pair_port end.side y)) (trusts ∙ trust_of (Pair i) at)
      goes) made e is

-- ---- operations

module _ (v : EndsView) (line i : ℕ) (k k' : KeeperView) (op : NamedOperation) (loss : Option Loss)
    (outcome : StreamOutcome) where
  pub operate_link : (x y : LinkEnds) → Link i ≡ line_place line → x ≡ slice_index_or v.links i x
      → Operates k x op loss outcome k' y → NoMoreUnits x y → Settles (peer_live v i) x y
      → OperatesAt v line k op loss outcome (record v { links = slice_set v.links i y }) k'
  operate_link x y at read operates units settles =
      subst (λ (p : LinePlace). OperatesByPlace v p k op loss outcome (record v { links = slice_set v.links i y }) k')
      at
      (λ l is. (let same : x ≡ l = read_there v.links i x l read is in record {
        ends = y;
        new_is = refl;
        operates = subst (λ (z : LinkEnds). Operates k z op loss outcome k' y) same operates;
        units = subst (λ (z : LinkEnds). NoMoreUnits z y) same units;
        settles = subst (λ (z : LinkEnds). Settles (peer_live v i) z y) same settles;
      }))

  pub operate_near : (x y : LinkEnds) → Near i ≡ line_place line → x ≡ slice_index_or v.near i x
      → Operates k x op loss outcome k' y → KeysAlone x y
      → OperatesAt v line k op loss outcome (record v { near = slice_set v.near i y }) k'
  operate_near x y at read operates units =
      subst (λ (p : LinePlace). OperatesByPlace v p k op loss outcome (record v { near = slice_set v.near i y }) k') at
      (λ l is. (let same : x ≡ l = read_there v.near i x l read is in record {
        ends = y;
        new_is = refl;
        operates = subst (λ (z : LinkEnds). Operates k z op loss outcome k' y) same operates;
        units = subst (λ (z : LinkEnds). KeysAlone z y) same units;
      }))

  pub operate_pair : (x y : PairEnds) (new : EndsView) → Pair i ≡ line_place line → x ≡ slice_index_or v.pairs i x
      → PairOperates k x op loss outcome k' y → NoMorePairUnits x y
      → new ≡ settled_place (Pair i) (record v { pairs = slice_set v.pairs i y })
      → OperatesAt v line k op loss outcome new k'
  operate_pair x y new at read operates units new_is =
      subst (λ (p : LinePlace). OperatesByPlace v p k op loss outcome new k') at
      (λ l is. (let same : x ≡ l = read_there v.pairs i x l read is in record {
        ends = y;
        new_is = new_is;
        operates = subst (λ (z : PairEnds). PairOperates k z op loss outcome k' y) same operates;
        units = subst (λ (z : PairEnds). NoMorePairUnits z y) same units;
      }))

-- ---- calls of interfaces

pub call_there : (v : EndsView) (link place : ℕ) (call : Call) (code : ℕ) (x : LinkEnds) (d : DeviceEnd)
    → x ≡ slice_index_or v.links link x → IfSome (slice_get x.device.interfaces.interfaces place)
    (λ tdi. d ≡ record x.device { interfaces = called_at x.device.interfaces place tdi call })
    → IfSome (slice_get d.interfaces.interfaces place) (λ tdi. code ≡ state_code tdi.state)
    → CallsAtLink v link place call code
    (record v { links = slice_set v.links link (record x { device = d }) })
call_there v link place call code x d read called coded l is =
    let same : x ≡ l = read_there v.links link x l read is in
    let made : (tdi : DeviceTdi) → slice_get x.device.interfaces.interfaces place ≡ Some tdi
    → d ≡ record x.device { interfaces = called_at x.device.interfaces place tdi call } =
    λ tdi at. subst (λ (o : Option DeviceTdi). IfSome o
    (λ t. d ≡ record x.device { interfaces = called_at x.device.interfaces place t call })) at called in
    let says : (tdi : DeviceTdi) → slice_get x.device.interfaces.interfaces place ≡ Some tdi
    → code ≡ code_behind tdi call =
    λ tdi at. subst (λ (o : Option DeviceTdi). IfSome o (λ t. code ≡ state_code t.state))
    (ap (λ (e : DeviceEnd). slice_get e.interfaces.interfaces place) (made tdi at)
    ∙ set_there x.device.interfaces.interfaces place tdi (interface_after_call tdi call) at) coded in
    subst (λ (z : LinkEnds). (l' : LinkEnds)
    × (record v { links = slice_set v.links link (record x { device = d }) }
    ≡ record v { links = slice_set v.links link l' }) × Calls place call code z l') same (
      record x { device = d },
      refl,
      record {
        ends = λ tdi at. ap (λ (e : DeviceEnd). record x { device = e }) (made tdi at);
        code_is = says;
      },
    )

-- ---- operations on interfaces

pub asks_there : (v : EndsView) (link : ℕ) (k k' : HostKeeper) (interface : ℕ) (o : InterfaceOperation)
    (loss : Option Loss)
    (outcome : InterfaceOutcome) (x y : LinkEnds) → x ≡ slice_index_or v.links link x
    → (let e : Ended = record { outcome = outcome; manager = k'.interfaces; device = y.device.interfaces } in
    IfSome (slice_get k.interfaces.interfaces interface)
    (λ i. e ≡ operated_on interface o loss k.keys (peer_live v link) k.interfaces x i))
    → k'.keys ≡ k.keys → k'.peer_draws ≡ k.peer_draws
    → y ≡ record x { device = record x.device { interfaces = y.device.interfaces } }
    → AsksAtLink v link k interface o loss outcome (record v { links = slice_set v.links link y }) k'
asks_there v link k k' interface o loss outcome x y read operated keys draws ends l is =
    let same : x ≡ l = read_there v.links link x l read is in
    let e : Ended = record { outcome = outcome; manager = k'.interfaces; device = y.device.interfaces } in
    let made : (i : HostTdi) → slice_get k.interfaces.interfaces interface ≡ Some i
    → e ≡ operated_on interface o loss k.keys (peer_live v link) k.interfaces x i =
    λ i at. subst (λ (p : Option HostTdi). IfSome p
    (λ i. e ≡ operated_on interface o loss k.keys (peer_live v link) k.interfaces x i)) at operated in
    subst (λ (z : LinkEnds). (l' : LinkEnds)
    × (record v { links = slice_set v.links link y } ≡ record v { links = slice_set v.links link l' })
    × Asks k interface o loss (peer_live v link) (IsEnded outcome k'.interfaces l'.device.interfaces) k' z l') same (
      y,
      refl,
      record {
        ends = ends;
        keys = keys;
        peer_draws = draws;
        ended = λ i at. record {
          outcome_is = ap (λ (z : Ended). z.outcome) (made i at);
          manager_is = ap (λ (z : Ended). z.manager) (made i at);
          device_is = ap (λ (z : Ended). z.device) (made i at);
        };
      },
    )
