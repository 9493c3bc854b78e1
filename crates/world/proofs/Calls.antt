-- An event on one interface changes that one alone, at its device and at the manager (`one_beside`): no other site has
-- its number, no other interface its place, and only a lock that it accepts takes a nonce. All that it is bound to then
-- is Secure (`asked_keeps`). A write, a level reset and a firmware update call the device's interface if the machine
-- applies them, and the manager keeps what it kept.
use Rattle.std.proofs.Common.{◌≡◌, ℕ, suc, zero, ◌+◌, ◌≤◌, ◌==◌, ◌&&◌, ◌||◌, Bool, true, false, List, [], ◌∷◌, length}
use Rattle.std.proofs.Common.{refl, ap, sym, ◌∙◌, subst, arith, Option, Some, inl, inr, ◌⊎◌, ⊎_elim}
use Rattle.std.specs.Prelude.{slice_get, slice_set, if◌then◌else◌, IfSome}
use Rattle.std.specs.List.{list_any}
use Rattle.std.proofs.lemmas.Bool.{cases_Bool, cases_lt, eq-eqb, ne_eqb}
use Rattle.std.proofs.lemmas.Bool.Decides.{nat_tests}
use Rattle.std.proofs.lemmas.List.{length-set}
use Rattle.std.proofs.lemmas.Option.{none-some, same_Some, slice_get_within}
use Rattle.ide_types.specs.declared.plan.Plan.{Plan}
use Rattle.ide_types.specs.declared.interface.InterfacePlan.{InterfacePlan}
use Rattle.ide_types.specs.declared.register.Register.{Register}
use Rattle.ide_types.specs.RegisterNames.{has_register}
use Rattle.script_events.specs.declared.event.Event.TheVariants as event
use Rattle.script_events.specs.declared.event.InterfaceEvent.{InterfaceEvent}
use Rattle.script_events.specs.declared.event.InterfaceEvent.TheVariants as ie
use Rattle.event_verdicts.specs.declared.verdict.Verdict.{Verdict}
use Rattle.event_verdicts.specs.declared.verdict.Verdict.TheVariants as v
use Rattle.ide_types.specs.declared.verdict.InterfaceVerdict.TheVariants as iv
use Rattle.interface_state.specs.declared.states.TdiState.{TdiState}
use Rattle.interface_state.specs.declared.states.TdiState.TheVariants.{ConfigUnlocked, ConfigLocked, Run, Error}
use Rattle.interface_state.specs.RegisterValues.{has_bit, changes_listed}
use Rattle.interface_state.specs.Machine.{DeviceTdi, bound_link_stream, lock_flags, after_failure, after_change, Call}
use Rattle.interface_state.specs.Machine.{WriteRegister, LevelReset, FirmwareUpdate, interface_after_call}
use Rattle.spec_interfaces.specs.Exchanges.{changes_device}
use Rattle.spec_interfaces.specs.Sites.{Site, sites}
use Rattle.spec_interfaces.specs.Views.{Managed, is_number, number_in, on_operation}
use Rattle.spec_interfaces.specs.Devices.{Around, interface_if_called, interface_asked, accepts_lock, one_if}
use Rattle.spec_interfaces.specs.Due.{AskedState, asked_due}
use Rattle.machine_whole.specs.Interfaces.{EndsRead, Face, Streams, around_of, next_face, gives_nonce, left_by}
use Rattle.machine_whole.specs.Interfaces.{with_each, is_true, asked_state_of_face, asked_due_of, answer_to}
use Rattle.machine_ports.specs.Machine.{LinkState, Stepped}
unfoldable use Rattle.machine_ports.specs.Machine.{step_of}
use Rattle.machine_whole.specs.Machine.{Whole, ends_in, whole_streams, beside_of, whole_after, memory_shown}
use Rattle.join_interfaces.specs.Faces.{IsFace, IsManaged}
use Rattle.join_accesses.specs.{Keeps, says_by_ports, EndsView, InterfacesView, LinkEnds, Links, links_state}
use Rattle.join_accesses.specs.{place_on_links, BesideCall, BesideStays, IsPlaced, IsDevice, IsBeside}
use Rattle.join_accesses.proofs.{StaysBound, asked_keeps, set_read, get_there, site_numbered, face_found, located_apart}
use Rattle.join_accesses.proofs.{located_set, interface_there, interface_absent, each_at, each_many, none_of}
use Rattle.join_accesses.proofs.{placed_keeps, AreBoth, elsewhere_beside, written_kept, interface_step}
use Rattle.interface_ends.specs.Replies.{called_at}
use Rattle.interface_host.specs.Views.{HostTdi}
use Rattle.trusted_memory.specs.{MemoryContents, IsLeftBy}

-- ---- numbers

pub same_number : (i j : ℕ) → (i == j) ≡ true → i ≡ j
same_number i j same = grind (arith, nat_tests)

apart_next : (i j : ℕ) → (suc i == suc j) ≡ false → (i == j) ≡ false
apart_next i j apart = grind (arith, nat_tests)

apart_sooner : (i j : ℕ) → (i == j) ≡ false → (suc i == suc j) ≡ false
apart_sooner i j apart = grind (arith, nat_tests)

apart_first : (i : ℕ) → (suc i == 0) ≡ false
apart_first i = grind (arith, nat_tests)

first_apart : (i : ℕ) → (0 == suc i) ≡ false
first_apart i = grind (arith, nat_tests)

true_false : {A : Type 0} (b : Bool) → b ≡ true → b ≡ false → A
true_false b is is_not = absurd cc

-- ---- lists

pub set_there : {A : Type 0} (xs : List A) (i : ℕ) (x y : A) → slice_get xs i ≡ Some x → slice_get (slice_set xs i y) i
    ≡ Some y
set_there [] i x y is = absurd (none-some x is)
set_there (z ∷ xs) zero x y is = refl
set_there (z ∷ xs) (suc i) x y is = set_there xs i x y is

pub set_apart : {A : Type 0} (xs : List A) (i j : ℕ) (y : A) → (i == j) ≡ false → slice_get (slice_set xs i y) j
    ≡ slice_get xs j
set_apart [] i j y apart = refl
set_apart (x ∷ xs) zero zero y apart = true_false (0 == 0) refl apart
set_apart (x ∷ xs) zero (suc j) y apart = refl
set_apart (x ∷ xs) (suc i) zero y apart = refl
set_apart (x ∷ xs) (suc i) (suc j) y apart = set_apart xs i j y (apart_next i j apart)

-- an item of a list in which one was set: that one, or another as before
pub set_item : {A : Type 0} (xs : List A) (i j : ℕ) (y z : A) → slice_get (slice_set xs i y) j ≡ Some z
    → ((i ≡ j) × (y ≡ z)) ⊎ (((i == j) ≡ false) × (slice_get xs j ≡ Some z))
set_item [] i j y z is = absurd (none-some z is)
set_item (x ∷ xs) zero zero y z is = inl (refl, same_Some y z is)
set_item (x ∷ xs) zero (suc j) y z is = inr (first_apart j, is)
set_item (x ∷ xs) (suc i) zero y z is = inr (apart_first i, is)
set_item (x ∷ xs) (suc i) (suc j) y z is = ⊎_elim (λ same. inl (ap suc same.0, same.1))
    (λ other. inr (apart_sooner i j other.0, other.1)) (set_item xs i j y z is)

either_none : (a b c : Bool) → a ≡ c → b ≡ false → (a || b) ≡ c
either_none a b c same none = grind arith

-- a test that one interface alone can meet
only_one : (g : Site → Face → Bool) (xs : List Site) (fs : List Face) (i : ℕ) (x : Site) (f : Face)
    → slice_get xs i ≡ Some x → slice_get fs i ≡ Some f
    → ((j : ℕ) (y : Site) (k : Face) → slice_get xs j ≡ Some y → slice_get fs j ≡ Some k → (i == j) ≡ false
    → g y k ≡ false) → list_any is_true (with_each g xs fs) ≡ g x f
only_one g [] fs i x f at there none = absurd (none-some x at)
only_one g (y ∷ xs) [] i x f at there none = absurd (none-some f there)
only_one g (y ∷ xs) (k ∷ fs) zero x f at there none =
    either_none (g y k) (list_any is_true (with_each g xs fs)) (g x f)
    (λ n. g (same_Some y x at n) (same_Some k f there n))
    (none_of g xs fs (λ j z m at' there'. none (suc j) z m at' there' (first_apart j)))
only_one g (y ∷ xs) (k ∷ fs) (suc i) x f at there none =
    rw (none 0 y k refl refl (apart_first i))
    (only_one g xs fs i x f at there
    (λ j z m at' there' apart. none (suc j) z m at' there' (apart_sooner i j apart)))

-- ---- calls that bind an interface to no stream

-- P of the stream of its link, if it is bound to it
abbrev Binds : (ℕ → Type 0) → TdiState → Type 0
Binds P state = IfSome (bound_link_stream state) P

failure_binds : (P : ℕ → Type 0) (state : TdiState) → Binds P (after_failure state)
failure_binds P ConfigUnlocked = tt
failure_binds P (ConfigLocked lock nonce) = tt
failure_binds P (Run lock) = tt
failure_binds P Error = tt

change_binds : (P : ℕ → Type 0) (b : Bool) (state : TdiState) → Binds P state → Binds P (after_change b state)
change_binds P true state is = failure_binds P state
change_binds P false state is = is

called_binds : (P : ℕ → Type 0) (b : Bool) (c : Call) (tdi : DeviceTdi)
    → (Binds P tdi.state → Binds P (interface_after_call tdi c).state) → Binds P tdi.state
    → Binds P (interface_if_called b c tdi).state
called_binds P true c tdi binds is = binds is
called_binds P false c tdi binds is = is

called_plan : (b : Bool) (c : Call) (tdi : DeviceTdi) → (interface_after_call tdi c).plan ≡ tdi.plan
    → (interface_if_called b c tdi).plan ≡ tdi.plan
called_plan true c tdi same = same
called_plan false c tdi same = refl

-- ---- interfaces of another number

other_face : (plan : Plan) (s : Streams) (after : EndsRead) (used : ℕ → ℕ) (e : InterfaceEvent) (verdict : Verdict)
    (x : Site) (f : Face) → is_number (number_in e) x.number ≡ false
    → next_face plan s after used (event.Interface e) verdict x f ≡ f
other_face plan s after used e verdict x f other = rw other refl

other_lock : (a : Around) (x : Site) (e : InterfaceEvent) (verdict : Verdict) (tdi : DeviceTdi)
    → is_number (number_in e) x.number ≡ false → accepts_lock a x (event.Interface e) verdict tdi ≡ false
other_lock a x (ie.Lock i loss) verdict tdi other = rw other refl
other_lock a x e verdict tdi other = refl

-- ---- places

places_apart : (ends : List LinkEnds) (i j a b p q : ℕ) → place_on_links 0 i ends ≡ Some (a, p)
    → place_on_links 0 j ends ≡ Some (b, q) → a ≡ b → (i == j) ≡ false → (p == q) ≡ false
places_apart ends i j a b p q is at link apart = ⊎_elim
    (λ same.
    let place = sym (same_number p q same) in
    let from = sym link in
    true_false (i == j) (eq-eqb i j (located_apart ends i j (a, p) is
    (at ∙ (λ n. Some (from n, place n))))) apart)
    (λ other. other) (cases_Bool (p == q))

-- ---- an event on one interface

and_none : (a b : Bool) → b ≡ false → (a && b) ≡ false
and_none a b none = grind arith

no_and : (a b : Bool) → a ≡ false → (a && b) ≡ false
no_and a b none = grind arith

none_more : (n : ℕ) (b : Bool) → b ≡ false → n + one_if b ≡ n
none_more n b none = rw none (omega arith)

and_same : (a b : Bool) → a ≡ true → (a && b) ≡ b
and_same a b is = grind arith

used_one : (d n : ℕ) (a b : Bool) → d ≡ n → a ≡ b → d + one_if b ≡ n + one_if a
used_one d n a b same is = rw (same, is) refl

abbrev one_link : LinkEnds → ℕ → DeviceTdi → Bool → LinkEnds
one_link l place tdi gives = record l {
  device = record l.device {
    interfaces = record {
      interfaces = slice_set l.device.interfaces.interfaces place tdi;
      nonces = l.device.interfaces.nonces;
      used = l.device.interfaces.used + one_if gives;
    };
  };
}

-- What it made of the interface of number `i`, at the manager and at the device of its link: they keep of it what the
-- machine keeps after the event, and a lock that it accepts takes a nonce.
pub record IsOne (plan : Plan) (ends : List LinkEnds) (m : InterfacesView) (w : Whole) (i : ℕ) (x : Site)
    (p : IsPlaced plan ends m w i x) (e : InterfaceEvent) (verdict : Verdict) (new : List LinkEnds)
    (m' : InterfacesView) : Type 0 where
  pub tdi : DeviceTdi
  pub interface : HostTdi
  pub portion : m'.portion ≡ m.portion
  pub manager : m'.interfaces ≡ slice_set m.interfaces i interface
  pub ends_are : new ≡ slice_set ends x.link (one_link p.link_ends p.place tdi
      (accepts_lock (around_of plan (whole_streams plan w) w.faces.used x p.face) x (event.Interface e) verdict
      p.face.tdi))
  pub keeps : IsFace (w.draw x.link x.plan.stream) x interface tdi
      (next_face plan (whole_streams plan w) (ends_in plan w.links) w.faces.used (event.Interface e) verdict x p.face)

module _ (plan : Plan) (ends : List LinkEnds) (m : InterfacesView) (memory : MemoryContents) (w : Whole)
    (before : IsBeside plan ends m memory w) (i : ℕ) (x : Site) (at : slice_get (sites plan) i ≡ Some x)
    (p : IsPlaced plan ends m w i x) (e : InterfaceEvent) (verdict : Verdict) (number : number_in e ≡ Some i)
    (new : List LinkEnds) (m' : InterfacesView) (one : IsOne plan ends m w i x p e verdict new m') where
  abbrev streams_now : Streams
  streams_now = whole_streams plan w

  abbrev whole_now : Whole
  whole_now = whole_after plan w (event.Interface e) verdict w.links

  abbrev gives : Bool
  gives = accepts_lock (around_of plan streams_now w.faces.used x p.face) x (event.Interface e) verdict p.face.tdi

  abbrev link_now : LinkEnds
  link_now = one_link p.link_ends p.place one.tdi gives

  abbrev ends_now : List LinkEnds
  ends_now = slice_set ends x.link link_now

  abbrev face_of : Site → Face → Face
  face_of y f = next_face plan streams_now (ends_in plan w.links) w.faces.used (event.Interface e) verdict y f

  is_other : (j : ℕ) (y : Site) → slice_get (sites plan) j ≡ Some y → (i == j) ≡ false
      → is_number (number_in e) y.number ≡ false
  is_other j y there apart = ap (λ (o : Option ℕ). is_number o y.number) number
      ∙ (ap (λ (n : ℕ). i == n) (site_numbered plan j y there) ∙ apart)

  given_at : (link : ℕ) → list_any is_true
      (with_each (gives_nonce plan streams_now w.faces.used (event.Interface e) verdict link) (sites plan) w.faces.list)
      ≡ ((x.link == link) && gives)
  given_at link = only_one (gives_nonce plan streams_now w.faces.used (event.Interface e) verdict link) (sites plan)
      w.faces.list i x p.face at p.face_is
      (λ j y f there kept apart. and_none (y.link == link) _
      (other_lock (around_of plan streams_now w.faces.used y f) y e verdict f.tdi (is_other j y there apart)))

  located_now : (j : ℕ) → place_on_links 0 j ends_now ≡ place_on_links 0 j ends
  located_now j = located_set 0 j ends x.link p.link_ends link_now p.ends_are
      (length-set p.link_ends.device.interfaces.interfaces p.place one.tdi)

  -- ---- devices

  one_device : IsDevice plan whole_now x.link link_now
  one_device =
      let old = before.devices x.link p.link_ends p.ends_are in
      record {
        nonces = old.nonces;
        used = used_one p.link_ends.device.interfaces.used (w.faces.used x.link) _ gives old.used
            (given_at x.link ∙ and_same (x.link == x.link) gives (eq-eqb x.link x.link refl));
        many = λ l is. length-set p.link_ends.device.interfaces.interfaces p.place one.tdi ∙ old.many l is;
      }

  other_device : (link : ℕ) (l : LinkEnds) → (x.link == link) ≡ false → slice_get ends link ≡ Some l
      → IsDevice plan whole_now link l
  other_device link l apart is =
      let old = before.devices link l is in
      record {
        nonces = old.nonces;
        used = old.used ∙ sym (none_more (w.faces.used link) _ (given_at link ∙ no_and (x.link == link) gives apart));
        many = old.many;
      }

  devices_now : (link : ℕ) (l : LinkEnds) → slice_get ends_now link ≡ Some l → IsDevice plan whole_now link l
  devices_now link l is = ⊎_elim
      (λ same. subst (λ (k : ℕ). IsDevice plan whole_now k l) same.0
      (subst (λ (y : LinkEnds). IsDevice plan whole_now x.link y) same.1 one_device))
      (λ other. other_device link l other.0 other.1) (set_item ends x.link link link_now l is)

  -- ---- places

  -- all that it is bound to after the event is Secure
  stays : StaysBound (says_by_ports plan w.links x.link) one.tdi
  stays =
      let says = says_by_ports plan w.links x.link in
      subst (StaysBound says) (sym one.keeps.tdi_is)
      (asked_keeps says (around_of plan streams_now w.faces.used x p.face)
      (left_by plan streams_now (ends_in plan w.links) x p.face.tdi) x e verdict p.face.tdi refl refl
      (subst (Keeps says x.plan) p.keeps.tdi_is (placed_keeps plan ends m w i x p)))

  one_placed : IsPlaced plan ends_now m' whole_now i x
  one_placed = record {
    link_ends = link_now;
    ends_are = set_there ends x.link p.link_ends link_now p.ends_are;
    place = p.place;
    located_is = located_now i ∙ p.located_is;
    tdi = one.tdi;
    tdi_is = set_there p.link_ends.device.interfaces.interfaces p.place p.tdi one.tdi p.tdi_is;
    interface = one.interface;
    interface_is = ap (λ (hs : List HostTdi). slice_get hs i) one.manager
        ∙ set_there m.interfaces i p.interface one.interface p.interface_is;
    face = face_of x p.face;
    face_is = each_at face_of (sites plan) w.faces.list i x p.face at p.face_is;
    keeps = one.keeps;
    secure = stays.secure;
    bound = stays.bound;
    held = stays.held;
  }

  -- another interface of the link
  near_placed : (j : ℕ) (y : Site) → slice_get (sites plan) j ≡ Some y → (i == j) ≡ false → x.link ≡ y.link
      → IsPlaced plan ends m w j y → IsPlaced plan ends_now m' whole_now j y
  near_placed j y there apart same q =
      let links : p.link_ends ≡ q.link_ends =
      same_Some p.link_ends q.link_ends (sym p.ends_are ∙ (ap (slice_get ends) same ∙ q.ends_are)) in
      record {
        link_ends = link_now;
        ends_are = ap (slice_get ends_now) (sym same) ∙ set_there ends x.link p.link_ends link_now p.ends_are;
        place = q.place;
        located_is = located_now j ∙ q.located_is;
        tdi = q.tdi;
        tdi_is = set_apart p.link_ends.device.interfaces.interfaces p.place q.place one.tdi
            (places_apart ends i j x.link y.link p.place q.place p.located_is q.located_is same apart)
            ∙ (ap (λ (l : LinkEnds). slice_get l.device.interfaces.interfaces q.place) links ∙ q.tdi_is);
        interface = q.interface;
        interface_is = ap (λ (hs : List HostTdi). slice_get hs j) one.manager
            ∙ (set_apart m.interfaces i j one.interface apart ∙ q.interface_is);
        face = q.face;
        face_is = each_at face_of (sites plan) w.faces.list j y q.face there q.face_is
            ∙ ap Some (other_face plan streams_now (ends_in plan w.links) w.faces.used e verdict y q.face
            (is_other j y there apart));
        keeps = q.keeps;
        secure = q.secure;
        bound = q.bound;
        held = q.held;
      }

  far_placed : (j : ℕ) (y : Site) → slice_get (sites plan) j ≡ Some y → (i == j) ≡ false → (x.link == y.link) ≡ false
      → IsPlaced plan ends m w j y → IsPlaced plan ends_now m' whole_now j y
  far_placed j y there apart far q = record {
    link_ends = q.link_ends;
    ends_are = set_apart ends x.link y.link link_now far ∙ q.ends_are;
    place = q.place;
    located_is = located_now j ∙ q.located_is;
    tdi = q.tdi;
    tdi_is = q.tdi_is;
    interface = q.interface;
    interface_is = ap (λ (hs : List HostTdi). slice_get hs j) one.manager
        ∙ (set_apart m.interfaces i j one.interface apart ∙ q.interface_is);
    face = q.face;
    face_is = each_at face_of (sites plan) w.faces.list j y q.face there q.face_is
        ∙ ap Some (other_face plan streams_now (ends_in plan w.links) w.faces.used e verdict y q.face
        (is_other j y there apart));
    keeps = q.keeps;
    secure = q.secure;
    bound = q.bound;
    held = q.held;
  }

  placed_now : (j : ℕ) (y : Site) → slice_get (sites plan) j ≡ Some y → IsPlaced plan ends_now m' whole_now j y
  placed_now j y there = ⊎_elim
      (λ is_same.
      let same = same_number i j is_same in
      let sites_same : x ≡ y = same_Some x y (sym at ∙ (ap (slice_get (sites plan)) same ∙ there)) in
      subst (λ (k : ℕ). IsPlaced plan ends_now m' whole_now k y) same
      (subst (λ (z : Site). IsPlaced plan ends_now m' whole_now i z) sites_same one_placed))
      (λ apart. ⊎_elim
      (λ near. near_placed j y there apart (same_number x.link y.link near) (before.placed j y there))
      (λ far. far_placed j y there apart far (before.placed j y there)) (cases_Bool (x.link == y.link)))
      (cases_Bool (i == j))

  -- ---- all of them

  pub one_beside : IsBeside plan new m' memory whole_now
  one_beside = subst (λ (ls : List LinkEnds). IsBeside plan ls m' memory whole_now) (sym one.ends_are) (record {
    portion = one.portion ∙ before.portion;
    managed = ap length one.manager ∙ (length-set m.interfaces i one.interface ∙ before.managed);
    faced = each_many face_of (sites plan) w.faces.list (sym before.faced);
    devices = devices_now;
    placed = placed_now;
    regions = before.regions;
    written = subst (IsLeftBy memory) (sym (written_kept plan w (event.Interface e) verdict refl)) before.written;
  })

-- ---- the step of the machine

-- the verdict of an event on an interface that is there
pub answer_there : (plan : Plan) (w : Whole) (e : InterfaceEvent) (i : ℕ) (x : Site) (f : Face) → number_in e ≡ Some i
    → slice_get (sites plan) i ≡ Some x → slice_get w.faces.list i ≡ Some f → (beside_of plan w).answer e
    ≡ asked_due plan x (asked_state_of_face plan (whole_streams plan w) w.faces.used x f) e
answer_there plan w e i x f number at there =
    ap (λ (o : Option ℕ). answer_to plan (whole_streams plan w) w.faces e o (memory_shown plan w.written e)) number
    ∙ ap (asked_due_of plan (whole_streams plan w) w.faces.used e) (face_found plan w.faces.list i x f at there)

-- an event on a number that no interface has
pub nowhere_beside : (plan : Plan) (old new : Links) (w : Whole) (e : InterfaceEvent) (verdict : Verdict) (i : ℕ)
    → AreBoth plan old new w → BesideStays old new → number_in e ≡ Some i → length (sites plan) ≤ i
    → ◌≡◌ {A = Stepped} (verdict, links_state plan new) (step_of plan (beside_of plan w) w.links (event.Interface e))
    → IsBeside plan new.ends.links new.keeper.interfaces new.trusted.contents
    (whole_after plan w (event.Interface e) verdict (links_state plan new))
nowhere_beside plan old new w e verdict i both keep number past is =
    elsewhere_beside plan old new w verdict (beside_of plan w) both keep e is
    (λ j y there. ap (λ (o : Option ℕ). is_number o y.number) number
    ∙ ne_eqb i y.number (λ same. absurd (omega (
      arith,
      same,
      past,
      site_numbered plan j y there,
      slice_get_within (sites plan) j y there,
    ))))

-- an event on an interface that is there
pub there_beside : (plan : Plan) (old new : Links) (w : Whole) (e : InterfaceEvent) (verdict : Verdict) (i : ℕ)
    (x : Site) (at : slice_get (sites plan) i ≡ Some x) (before : IsBeside plan old.ends.links old.keeper.interfaces
    old.trusted.contents w) → number_in e ≡ Some i → new.trusted.contents ≡ old.trusted.contents
    → IsOne plan old.ends.links old.keeper.interfaces w i x (before.placed i x at) e verdict new.ends.links
    new.keeper.interfaces
    → ◌≡◌ {A = Stepped} (verdict, links_state plan new) (step_of plan (beside_of plan w) w.links (event.Interface e))
    → IsBeside plan new.ends.links new.keeper.interfaces new.trusted.contents
    (whole_after plan w (event.Interface e) verdict (links_state plan new))
there_beside plan old new w e verdict i x at before number contents one is =
    subst (λ (st : LinkState). IsBeside plan new.ends.links new.keeper.interfaces new.trusted.contents
    (whole_after plan w (event.Interface e) verdict st))
    (sym (interface_step plan w (links_state plan new) e verdict is).1)
    (subst (λ (c : MemoryContents). IsBeside plan new.ends.links new.keeper.interfaces c
    (whole_after plan w (event.Interface e) verdict w.links)) (sym contents)
    (one_beside plan old.ends.links old.keeper.interfaces old.trusted.contents w before i x at (before.placed i x at) e
    verdict number new.ends.links new.keeper.interfaces one))

-- ---- calls

-- what a call of an interface means: if the machine's verdict applies it, the device's test does
record IsCall (number : ℕ) (test : DeviceTdi → Bool) (call : Call) (e : InterfaceEvent) : Type 0 where
  number_is : number_in e ≡ Some number
  asks : (a : Around) (x : Site) (verdict : Verdict) (tdi : DeviceTdi)
      → interface_asked a x e verdict tdi ≡ interface_if_called (changes_device verdict) call tdi
  manages : (drawn : ℕ) (verdict : Verdict) (g : Managed) → on_operation drawn e verdict g ≡ g
  locks : (a : Around) (x : Site) (verdict : Verdict) (tdi : DeviceTdi)
      → accepts_lock a x (event.Interface e) verdict tdi ≡ false
  applies : (plan : Plan) (x : Site) (s : AskedState) (tdi : DeviceTdi) → tdi.plan ≡ x.plan
      → changes_device (asked_due plan x s e) ≡ test tdi
  plans : (tdi : DeviceTdi) → (interface_after_call tdi call).plan ≡ tdi.plan
  binds : (planned : ℕ) (tdi : DeviceTdi) → Binds (λ s. s ≡ planned) tdi.state
      → Binds (λ s. s ≡ planned) (interface_after_call tdi call).state

called_one : (b gives : Bool) (l : LinkEnds) (place : ℕ) (tdi : DeviceTdi) (call : Call) → gives ≡ false
    → slice_get l.device.interfaces.interfaces place ≡ Some tdi
    → (if b then record l { device = record l.device { interfaces = called_at l.device.interfaces place tdi call } }
    else l) ≡ one_link l place (interface_if_called b call tdi) gives
called_one true gives l place tdi call none is =
    let used = sym (none_more l.device.interfaces.used gives none) in
    λ n. record l {
      device = record l.device {
        interfaces = record {
          interfaces = slice_set l.device.interfaces.interfaces place (interface_after_call tdi call);
          nonces = l.device.interfaces.nonces;
          used = used n;
        };
      };
    }
called_one false gives l place tdi call none is =
    let used = sym (none_more l.device.interfaces.used gives none) in
    let same = sym (set_read l.device.interfaces.interfaces place tdi is) in
    λ n. record l {
      device = record l.device {
        interfaces = record { interfaces = same n; nonces = l.device.interfaces.nonces; used = used n };
      };
    }

write_applied : (b : Bool) (n code : ℕ) → changes_device (if b then v.Interface (iv.Written n code) else v.Nothing) ≡ b
write_applied true n code = refl
write_applied false n code = refl

if_kept : {A : Type 0} (b : Bool) (new old : A) → new ≡ old → (if b then new else old) ≡ old
if_kept true new old same = same
if_kept false new old same = refl

if_taken : {A : Type 0} (b : Bool) (new old : A) → b ≡ true → (if b then new else old) ≡ new
if_taken b new old is = rw is refl

module _ (plan : Plan) (old new : Links) (w : Whole) (verdict : Verdict) (both : AreBoth plan old new w) where
  -- the interface of this number is called
  called_there : (number : ℕ) (test : DeviceTdi → Bool) (call : Call) (e : InterfaceEvent) (x : Site)
      → IsCall number test call e → BesideCall number test call old new → slice_get (sites plan) number ≡ Some x
      → verdict ≡ (beside_of plan w).answer e → (p : IsPlaced plan old.ends.links old.keeper.interfaces w number x)
      → IsOne plan old.ends.links old.keeper.interfaces w number x p e verdict new.ends.links new.keeper.interfaces
  called_there number test call e x c sides at verdict_is p =
      let before = both.whole.beside in
      let due = verdict_is ∙ answer_there plan w e number x p.face c.number_is at p.face_is in
      let here : is_number (number_in e) x.number ≡ true =
      ap (λ (o : Option ℕ). is_number o x.number) c.number_is
      ∙ eq-eqb number x.number (sym (site_numbered plan number x at)) in
      let around = around_of plan (whole_streams plan w) w.faces.used x p.face in
      let applied : changes_device verdict ≡ test p.tdi =
      ap changes_device due ∙ c.applies plan x
      (asked_state_of_face plan (whole_streams plan w) w.faces.used x p.face) p.tdi p.keeps.layout in
      record {
        tdi = interface_if_called (test p.tdi) call p.tdi;
        interface = p.interface;
        portion = ap (λ (m : InterfacesView). m.portion) sides.keeper;
        manager = ap (λ (m : InterfacesView). m.interfaces) sides.keeper
            ∙ sym (set_read old.keeper.interfaces.interfaces number p.interface p.interface_is);
        ends_are = ap (λ (v : EndsView). v.links)
            (sides.called (x.link, p.place) p.link_ends p.tdi
            (interface_there plan old.ends.links old.keeper.interfaces old.trusted.contents w number x p before
            both.links.fits at) p.ends_are p.tdi_is)
            ∙ ap (slice_set old.ends.links x.link)
            (called_one (test p.tdi) _ p.link_ends p.place p.tdi call (c.locks around x verdict p.face.tdi) p.tdi_is);
        keeps = record {
          managed = subst (λ (g : Managed). IsManaged (w.draw x.link x.plan.stream) x p.interface g)
              (sym (if_kept (is_number (number_in e) x.number) _ p.face.managed
              (c.manages w.links.draws verdict p.face.managed)))
              p.keeps.managed;
          tdi_is = (λ n. interface_if_called (sym applied n) call (p.keeps.tdi_is n)) ∙
              (sym (c.asks around x verdict p.face.tdi)
              ∙ sym (if_taken (is_number (number_in e) x.number) _ p.face.tdi here));
          layout = called_plan (test p.tdi) call p.tdi (c.plans p.tdi) ∙ p.keeps.layout;
          bound = called_binds (λ s. s ≡ x.plan.stream) (test p.tdi) call p.tdi (c.binds x.plan.stream p.tdi)
              p.keeps.bound;
        };
      }

  called_beside : (number : ℕ) (test : DeviceTdi → Bool) (call : Call) (e : InterfaceEvent) → IsCall number test call e
      → BesideCall number test call old new
      → ◌≡◌ {A = Stepped} (verdict, links_state plan new) (step_of plan (beside_of plan w) w.links (event.Interface e))
      → IsBeside plan new.ends.links new.keeper.interfaces new.trusted.contents
      (whole_after plan w (event.Interface e) verdict (links_state plan new))
  called_beside number test call e c sides is =
      let before = both.whole.beside in
      ⊎_elim
      (λ lt.
      let x = get_there (sites plan) number lt in
      there_beside plan old new w e verdict number x.0 x.1 before c.number_is sides.contents
      (called_there number test call e x.0 c sides x.1 (interface_step plan w (links_state plan new) e verdict is).0
      (before.placed number x.0 x.1)) is)
      (λ past. nowhere_beside plan old new w e verdict number both
      (sides.unnamed (interface_absent plan old.ends.links old.keeper.interfaces old.trusted.contents w number before
      past))
      c.number_is past is)
      (cases_lt number (length (sites plan)))

  -- ---- each of them

  pub write_beside : (i : ℕ) (register : Register) (value : ℕ)
      → BesideCall i (λ tdi. has_register tdi.plan register) (WriteRegister register value) old new
      → ◌≡◌ {A = Stepped} (verdict, links_state plan new)
      (step_of plan (beside_of plan w) w.links (event.Interface (ie.Write i register value)))
      → IsBeside plan new.ends.links new.keeper.interfaces new.trusted.contents
      (whole_after plan w (event.Interface (ie.Write i register value)) verdict (links_state plan new))
  write_beside i register value sides is = called_beside i (λ tdi. has_register tdi.plan register)
      (WriteRegister register value) (ie.Write i register value) (record {
        number_is = refl;
        asks = λ a x v tdi. refl;
        manages = λ drawn v g. refl;
        locks = λ a x v tdi. refl;
        applies = λ plan x s tdi layout. write_applied (has_register x.plan register) _ _
            ∙ ap (λ (p : InterfacePlan). has_register p register) (sym layout);
        plans = λ tdi. refl;
        binds = λ planned tdi is. change_binds (λ s. s ≡ planned)
            (changes_listed (lock_flags tdi.state) tdi.registers register value) tdi.state is;
      }) sides is

  pub flr_beside : (i : ℕ) → BesideCall i (λ tdi. true) LevelReset old new
      → ◌≡◌ {A = Stepped} (verdict, links_state plan new)
      (step_of plan (beside_of plan w) w.links (event.Interface (ie.Flr i)))
      → IsBeside plan new.ends.links new.keeper.interfaces new.trusted.contents
      (whole_after plan w (event.Interface (ie.Flr i)) verdict (links_state plan new))
  flr_beside i sides is = called_beside i (λ tdi. true) LevelReset (ie.Flr i) (record {
    number_is = refl;
    asks = λ a x v tdi. refl;
    manages = λ drawn v g. refl;
    locks = λ a x v tdi. refl;
    applies = λ plan x s tdi layout. refl;
    plans = λ tdi. refl;
    binds = λ planned tdi is. failure_binds (λ s. s ≡ planned) tdi.state;
  }) sides is

  pub firmware_beside : (i : ℕ) → BesideCall i (λ tdi. true) FirmwareUpdate old new
      → ◌≡◌ {A = Stepped} (verdict, links_state plan new)
      (step_of plan (beside_of plan w) w.links (event.Interface (ie.Firmware i)))
      → IsBeside plan new.ends.links new.keeper.interfaces new.trusted.contents
      (whole_after plan w (event.Interface (ie.Firmware i)) verdict (links_state plan new))
  firmware_beside i sides is = called_beside i (λ tdi. true) FirmwareUpdate (ie.Firmware i) (record {
    number_is = refl;
    asks = λ a x v tdi. refl;
    manages = λ drawn v g. refl;
    locks = λ a x v tdi. refl;
    applies = λ plan x s tdi layout. refl;
    plans = λ tdi. refl;
    binds = λ planned tdi is.
        change_binds (λ s. s ≡ planned) (has_bit 0 (lock_flags tdi.state)) tdi.state is;
  }) sides is
