-- Events that leave the reads that wait, the TLPs that wait at switches, the floors of devices or the memory of devices
-- as they are.
use Rattle.std.proofs.Common.{◌≡◌, ℕ, ◌+◌, ◌==◌, ◌&&◌, ◌∷◌, ◌++◌, zero, suc, Bool, true, false, List, [], length}
use Rattle.std.proofs.Common.{refl, sym, ap, ◌∙◌, arith, Some}
use Rattle.std.proofs.lemmas.Bool.Decides.{nat_tests}
use Rattle.std.proofs.lemmas.List.{append-nil}
use Rattle.std.proofs.lemmas.Option.{none-some, same_Some}
use Rattle.std.specs.Prelude.{drop, not, slice_get, slice_set, if◌then◌else◌, Option}
use Rattle.ide_types.specs.declared.direction.Direction.{Direction}
use Rattle.ide_types.specs.declared.port.PortName.{PortName}
use Rattle.ide_types.specs.declared.plan.Plan.{Plan}
use Rattle.script_events.specs.declared.event.Event.{Event}
use Rattle.script_events.specs.declared.event.Event.TheVariants as event
use Rattle.script_events.specs.declared.event.AccessEvent.TheVariants as ae
use Rattle.script_events.specs.declared.event.InterfaceEvent.TheVariants as ie
use Rattle.script_events.specs.declared.event.Loss.{Loss}
use Rattle.event_verdicts.specs.declared.verdict.Effect.{Effect}
use Rattle.event_verdicts.specs.declared.verdict.Effect.TheVariants as effect
use Rattle.event_verdicts.specs.declared.verdict.UnitName.{UnitName}
use Rattle.event_verdicts.specs.declared.verdict.Verdict.{Verdict}
use Rattle.event_verdicts.specs.declared.verdict.Verdict.TheVariants as v
use Rattle.event_verdicts.specs.declared.access.AccessVerdict.TheVariants as av
use Rattle.trusted_memory.specs.declared.queue.ReadTarget.{ReadTarget}
use Rattle.trusted_memory.specs.declared.queue.WaitingRead.{WaitingRead}
use Rattle.trusted_memory.specs.declared.span.Span.{Span}
use Rattle.guarded_memory.specs.declared.status.InterfaceStatus.{InterfaceStatus}
use Rattle.spec_interfaces.specs.Devices.{is_run}
use Rattle.spec_interfaces.specs.Floors.{floor_after_event}
use Rattle.spec_interfaces.specs.Sites.{Site}
use Rattle.machine_whole.specs.Interfaces.{Face}
unfoldable use Rattle.spec_links.specs.Ports.{port_of}
use Rattle.spec_links.specs.Ports.{is_device_port}
use Rattle.spec_links.specs.Guarded.{happens_by_packets, stored_each}
use Rattle.spec_links.specs.Hops.{HopTlp, is_forward_on}
use Rattle.spec_links.specs.Memory.{plain_of}
use Rattle.spec_links.specs.Plan.{is_same_port}
use Rattle.spec_links.specs.Sent.{answers_at, reads_by, targets_at}
use Rattle.law_reads.specs.Waiting.{waiting_next}
use Rattle.machine_whole.specs.Accesses.{floors_after, unit_tlps, waiting_reads_after}

-- ---- reads

-- it answers reads, or drops them
abbrev pub touches_reads : Event → Bool
touches_reads (event.Reset link ends) = true
touches_reads (event.Access (ae.Answer link)) = true
touches_reads (event.Access (ae.Respond link)) = true
touches_reads e = false

none_queued : (target : Span → Option ReadTarget) (end : PortName) (unit : UnitName) (es : List Effect)
    → reads_by target end unit es [] ≡ []
none_queued target end unit [] = refl
none_queued target end unit (effect.Queued ∷ es) = refl
none_queued target end unit (e ∷ es) = refl

no_answer : (port : PortName) (e : Event) → touches_reads e ≡ false → answers_at port e ≡ false
no_answer port (event.Access (ae.Answer l)) is = absurd cc
no_answer port (event.Access (ae.Respond l)) is = absurd cc
no_answer port e is = refl

none_joins : (b : Bool) (target : Span → Option ReadTarget) (end : PortName) (unit : UnitName) (es : List Effect)
    (rs : List WaitingRead) → (if b then rs ++ reads_by target end unit es [] else rs) ≡ rs
none_joins true target end unit es rs = ap (λ us. rs ++ us) (none_queued target end unit es) ∙ append-nil rs
none_joins false target end unit es rs = refl

-- it brings no bytes
pub reads_rest : (plan : Plan) (statuses : ℕ → List InterfaceStatus) (e : Event) (w : Verdict) (port : PortName)
    (rs : List WaitingRead) → touches_reads e ≡ false
    → rs ≡ waiting_reads_after plan statuses [] e w port rs
reads_rest plan statuses e (v.Accepted end unit effects) port rs is =
    sym (none_joins (is_same_port (port_of plan end) port) (targets_at port.side (statuses port.line)) end unit effects
    rs)
reads_rest plan statuses e (v.Sealed ds) port rs is =
    sym (ap (λ (b : Bool). if b then drop 1 rs else rs) (no_answer port e is))
reads_rest plan statuses e (v.Access (av.Dropped i c)) port rs is =
    sym (ap (λ (b : Bool). if b then drop 1 rs else rs) (no_answer port e is))
reads_rest plan statuses (event.Reset k ends) (v.Reset l) port rs is = absurd cc
reads_rest plan statuses e w port rs is = refl

-- while no bytes are brought, it matters not how interfaces stand
pub reads_by_any : (plan : Plan) (some others : ℕ → List InterfaceStatus) (e : Event) (w : Verdict) (port : PortName)
    (rs : List WaitingRead)
    → waiting_reads_after plan some [] e w port rs ≡ waiting_reads_after plan others [] e w port rs
reads_by_any plan some others e (v.Accepted end unit effects) port rs =
    let here = is_same_port (port_of plan end) port in
    none_joins here (targets_at port.side (some port.line)) end unit effects rs
    ∙ sym (none_joins here (targets_at port.side (others port.line)) end unit effects rs)
reads_by_any plan some others e (v.Sealed ds) port rs = refl
reads_by_any plan some others e (v.Access (av.Dropped i c)) port rs = refl
reads_by_any plan some others (event.Reset k ends) (v.Reset l) port rs = refl
reads_by_any plan some others e w port rs = refl

-- ---- TLPs at switches

-- it takes one that waits, or all
abbrev pub touches_hops : Event → Bool
touches_hops (event.Reset link ends) = true
touches_hops (event.Forward link d) = true
touches_hops e = false

pub no_unit : (plan : Plan) (w : Verdict) → unit_tlps plan [] w ≡ []
no_unit plan (v.Accepted port unit effects) = refl
no_unit plan w = refl

if_added : (b : Bool) (xs : List HopTlp) → (if b then xs ++ [] else xs) ≡ xs
if_added true xs = append-nil xs
if_added false xs = refl

no_forward : (link : ℕ) (d : Direction) (e : Event) → touches_hops e ≡ false → is_forward_on link d e ≡ false
no_forward link d (event.Forward l way) is = absurd cc
no_forward link d e is = refl

-- it brings no bytes
pub hops_rest : (e : Event) (w : Verdict) (link : ℕ) (d : Direction) (xs : List HopTlp) → touches_hops e ≡ false
    → xs ≡ waiting_next [] link d e w xs
hops_rest e (v.Accepted port unit effects) link d xs is = sym (if_added _ xs)
hops_rest e (v.Sealed ds) link d xs is = sym (ap (λ (b : Bool). if b then drop 1 xs else xs) (no_forward link d e is))
hops_rest (event.Reset k ends) (v.Reset l) link d xs is = absurd cc
hops_rest e w link d xs is = refl

-- ---- the memory of devices

-- it may set ranges to 0
abbrev pub touches_memory : Event → Bool
touches_memory (event.Reset link ends) = true
touches_memory (event.Interface (ie.Halt i loss)) = true
touches_memory (event.Interface (ie.Flr i)) = true
touches_memory e = false

pub none_stored : (plan : Plan) (statuses : ℕ → List InterfaceStatus) (e : Event) (port : PortName) (unit : UnitName)
    (effects : List Effect) (link : ℕ) → [] ≡ happens_by_packets plan statuses [] e (v.Accepted port unit effects) link
none_stored plan statuses e port unit effects link =
    by ((port_of plan port).line == link) (is_device_port plan (port_of plan port))
  where
    by : (a b : Bool) → [] ≡ (if a then (if b then stored_each (statuses (port_of plan port).line) unit
        (plain_of plan port unit []) [] else []) else [])
    by true true = refl
    by true false = refl
    by false b = refl

pub memory_rests : (plan : Plan) (statuses : ℕ → List InterfaceStatus) (e : Event) (w : Verdict) (link : ℕ)
    → touches_memory e ≡ false → [] ≡ happens_by_packets plan statuses [] e w link
memory_rests plan statuses e (v.Accepted port unit effects) link is = none_stored plan statuses e port unit effects link
memory_rests plan statuses (event.Reset l ends) (v.Reset k) link is = absurd cc
memory_rests plan statuses (event.Interface (ie.Halt i loss)) w link is = absurd cc
memory_rests plan statuses (event.Interface (ie.Flr i)) w link is = absurd cc
memory_rests plan statuses e w link is = refl

-- ---- floors

abbrev pub starts : Event → Bool
starts (event.Interface (ie.Start i loss)) = true
starts e = false

floor_rests : (e : Event) (x : Site) (ran runs : Bool) (draw floor : ℕ) → starts e ≡ false
    → floor_after_event e x ran runs draw floor ≡ floor
floor_rests (event.Interface (ie.Start i loss)) x ran runs draw floor is = absurd cc
floor_rests e x ran runs draw floor is = refl

-- as many interfaces are kept before the event and after it as there are, and as many floors
pub record AreMany (xs : List Site) (fs gs : List Face) (ns : List ℕ) : Type 0 where
  pub before : length fs ≡ length xs
  pub after : length gs ≡ length xs
  pub floors : length ns ≡ length xs

fewer : (x : Site) (xs : List Site) (f g : Face) (fs gs : List Face) (n : ℕ) (ns : List ℕ)
    → AreMany (x ∷ xs) (f ∷ fs) (g ∷ gs) (n ∷ ns) → AreMany xs fs gs ns
fewer x xs f g fs gs n ns many = record {
  before = omega (arith, many.before);
  after = omega (arith, many.after);
  floors = omega (arith, many.floors);
}

-- each floor stays
pub floors_stay : (e : Event) (draw : Site → ℕ) (xs : List Site) (fs gs : List Face) (ns : List ℕ)
    → ((i : ℕ) (x : Site) (ran runs : Bool) (floor : ℕ) → slice_get xs i ≡ Some x
    → floor_after_event e x ran runs (draw x) floor ≡ floor) → AreMany xs fs gs ns → floors_after e draw xs fs gs ns
    ≡ ns
floors_stay e draw [] fs gs [] stay many = refl
floors_stay e draw [] fs gs (n ∷ ns) stay many = absurd (omega (arith, many.floors))
floors_stay e draw (x ∷ xs) [] gs ns stay many = absurd (omega (arith, many.before))
floors_stay e draw (x ∷ xs) (f ∷ fs) [] ns stay many = absurd (omega (arith, many.after))
floors_stay e draw (x ∷ xs) (f ∷ fs) (g ∷ gs) [] stay many = absurd (omega (arith, many.floors))
floors_stay e draw (x ∷ xs) (f ∷ fs) (g ∷ gs) (n ∷ ns) stay many =
    λ i. stay 0 x (is_run f.tdi.state) (is_run g.tdi.state) n refl i
    ∷ floors_stay e draw xs fs gs ns (λ k y. stay (suc k) y) (fewer x xs f g fs gs n ns many) i

pub floors_rest : (e : Event) (draw : Site → ℕ) (xs : List Site) (fs gs : List Face) (ns : List ℕ)
    → starts e ≡ false → AreMany xs fs gs ns → floors_after e draw xs fs gs ns ≡ ns
floors_rest e draw xs fs gs ns is many =
    floors_stay e draw xs fs gs ns (λ i x ran runs floor at. floor_rests e x ran runs (draw x) floor is) many

pub floors_many : (e : Event) (draw : Site → ℕ) (xs : List Site) (fs gs : List Face) (ns : List ℕ)
    → AreMany xs fs gs ns → length (floors_after e draw xs fs gs ns) ≡ length xs
floors_many e draw [] fs gs ns many = refl
floors_many e draw (x ∷ xs) [] gs ns many = absurd (omega (arith, many.before))
floors_many e draw (x ∷ xs) (f ∷ fs) [] ns many = absurd (omega (arith, many.after))
floors_many e draw (x ∷ xs) (f ∷ fs) (g ∷ gs) [] many = absurd (omega (arith, many.floors))
floors_many e draw (x ∷ xs) (f ∷ fs) (g ∷ gs) (n ∷ ns) many =
    ap suc (floors_many e draw xs fs gs ns (fewer x xs f g fs gs n ns many))

-- ---- a start of an interface

unnamed : (i number : ℕ) (b : Bool) (draw floor : ℕ) → (i == number) ≡ false
    → (if (i == number) && b then draw else floor) ≡ floor
unnamed i number b draw floor other = rw other refl

abbrev came : Face → Face → Bool
came f g = not (is_run f.tdi.state) && is_run g.tdi.state

-- only the floor of the interface of this number changes, if it came into RUN
pub floors_started : (base k : ℕ) (loss : Option Loss) (draw : Site → ℕ) (xs : List Site) (fs gs : List Face)
    (ns : List ℕ) (x : Site) (f g : Face) → ((j : ℕ) (y : Site) → slice_get xs j ≡ Some y → y.number ≡ base + j)
    → slice_get xs k ≡ Some x → slice_get fs k ≡ Some f → slice_get gs k ≡ Some g → AreMany xs fs gs ns
    → floors_after (event.Interface (ie.Start (base + k) loss)) draw xs fs gs ns
    ≡ (if came f g then slice_set ns k (draw x) else ns)
floors_started base k loss draw [] fs gs ns x f g numbered at before after many = absurd (none-some x at)
floors_started base k loss draw (y ∷ xs) [] gs ns x f g numbered at before after many =
    absurd (omega (arith, many.before))
floors_started base k loss draw (y ∷ xs) (p ∷ fs) [] ns x f g numbered at before after many =
    absurd (omega (arith, many.after))
floors_started base k loss draw (y ∷ xs) (p ∷ fs) (q ∷ gs) [] x f g numbered at before after many =
    absurd (omega (arith, many.floors))
floors_started base zero loss draw (y ∷ xs) (p ∷ fs) (q ∷ gs) (n ∷ ns) x f g numbered at before after many =
    let first = numbered 0 y refl in
    let here : (base + 0 == y.number) ≡ true = grind (arith, nat_tests) in
    let rest = floors_stay (event.Interface (ie.Start (base + 0) loss)) draw xs fs gs ns
    (λ i z ran runs floor there.
    let later = numbered (suc i) z there in
    let other : (base + 0 == z.number) ≡ false = grind (arith, nat_tests) in
    unnamed (base + 0) z.number (not ran && runs) (draw z) floor other) (fewer y xs p q fs gs n ns many) in
    (λ i. (if here i && came p q then draw y else n) ∷ rest i)
    ∙ (by (came p q)
    ∙ (λ i. if came (same_Some p f before i) (same_Some q g after i)
    then slice_set (n ∷ ns) 0 (draw (same_Some y x at i)) else n ∷ ns))
  where
    by : (b : Bool) → (if true && b then draw y else n) ∷ ns ≡ (if b then slice_set (n ∷ ns) 0 (draw y) else n ∷ ns)
    by true = refl
    by false = refl
floors_started base (suc k) loss draw (y ∷ xs) (p ∷ fs) (q ∷ gs) (n ∷ ns) x f g numbered at before after many =
    let first = numbered 0 y refl in
    let other : (base + suc k == y.number) ≡ false = grind (arith, nat_tests) in
    let number : base + suc k ≡ (base + 1) + k = omega arith in
    let rest = floors_started (base + 1) k loss draw xs fs gs ns x f g
    (λ j z there. numbered (suc j) z there ∙ omega arith) at before after (fewer y xs p q fs gs n ns many) in
    (λ i. unnamed (base + suc k) y.number (came p q) (draw y) n other i
    ∷ floors_after (event.Interface (ie.Start (number i) loss)) draw xs fs gs ns)
    ∙ (ap (λ zs. n ∷ zs) rest ∙ by (came f g))
  where
    by : (b : Bool) → n ∷ (if b then slice_set ns k (draw x) else ns)
        ≡ (if b then slice_set (n ∷ ns) (suc k) (draw x) else n ∷ ns)
    by true = refl
    by false = refl

pub floors_unnamed : (i : ℕ) (loss : Option Loss) (draw : Site → ℕ) (xs : List Site) (fs gs : List Face) (ns : List ℕ)
    → ((j : ℕ) (y : Site) → slice_get xs j ≡ Some y → (i == y.number) ≡ false) → AreMany xs fs gs ns
    → floors_after (event.Interface (ie.Start i loss)) draw xs fs gs ns ≡ ns
floors_unnamed i loss draw xs fs gs ns other many = floors_stay (event.Interface (ie.Start i loss)) draw xs fs gs ns
    (λ j z ran runs floor there. unnamed i z.number (not ran && runs) (draw z) floor (other j z there)) many
