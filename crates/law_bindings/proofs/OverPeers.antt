-- What is stored through a stream between devices: it came under the draw of the stream, which an owner that is bound
-- to the stream needed at least when it was bound.
use Rattle.law_sealing.proofs.Terms.{◌≡◌, ◌⊎◌, inl, inr, ℕ, ◌+◌, ◌≤◌, ◌==◌, ◌&&◌, Bool, true, false, List, []}
use Rattle.law_sealing.proofs.Terms.{◌∷◌, ◌++◌, length, nat_le, Option, Some, None, Result, Ok, Err}
use Rattle.law_sealing.proofs.Terms.{refl, ap, sym, subst, ◌∙◌, arith, nat_tests, if◌then◌else◌, eqb-true, Plan}
use Rattle.law_sealing.proofs.Terms.{PortName, History, Event, Verdict, Sealed, Accepted, UnitName, Effect}
use Rattle.law_sealing.proofs.Terms.{Packet, SubStream, append_assoc, CauseLaw, received_in}
use Rattle.law_sealing.proofs.Terms.{accepted_packets}
use Rattle.law_sealing.proofs.Terms.{read_of, sent_bytes}
use Rattle.spec_links.specs.Terms.{header}
use Rattle.std.specs.Option.{option_and_then}
use Rattle.std.proofs.lemmas.Bool.{and_parts}
use Rattle.ide_types.specs.Fits.{FitsPlan}
use Rattle.ide_types.specs.Lines.{is_link_line}
use Rattle.ide_types.specs.Ports.{device_port}
use Rattle.tlp_layout.specs.declared.tlp.Tlp.{Tlp}
use Rattle.tlp_layout.specs.declared.fault.TlpFault.{TlpFault}
use Rattle.spec_keys.specs.Places.{KeyPlan}
use Rattle.spec_keys.specs.Keys.{on_in}
use Rattle.spec_keys.specs.Laws.{KeyCauseLaw}
use Rattle.spec_keys.specs.Operations.{Begun}
use Rattle.spec_keys.specs.History.{begun_of_draw, draws, op_of, begins_keyed}
unfoldable use Rattle.spec_keys.specs.History.{manager}
use Rattle.spec_keys.proofs.Owners.{owner, begun_below}
use Rattle.law_key_facts.proofs.Given.{key_cause, accepted_on}
use Rattle.law_key_facts.proofs.Unplanned.{on_at}
use Rattle.spec_links.specs.Plan.{key_plan}
use Rattle.spec_links.specs.History.{place_in_sub_stream}
use Rattle.law_sealing.proofs.Sums.{in_parts}
use Rattle.spec_interfaces.specs.Peers.{peer_end, receiver_at}
use Rattle.spec_interfaces.specs.Sites.{Site, site_at, sites, site_of_requester}
use Rattle.spec_interfaces.specs.Cause.{owner_read, owner_id}
unfoldable use Rattle.spec_interfaces.specs.Views.{stream_draw}
use Rattle.spec_interfaces.specs.Devices.{runs_at, locks_accepted}
use Rattle.spec_interfaces.proofs.Floors.{found}
use Rattle.spec_interfaces.proofs.OnLinks.{number_on_link}
use Rattle.law_memory.specs.Origin.{CameFrom}
use Rattle.law_locks.proofs.OneLock.{number_owned}
use Rattle.law_memory.proofs.Found.{cause_at}
use Rattle.law_bytes.proofs.MmioOrigins.{bound_made, mmio_origin}
use Rattle.law_memory.specs.Bindings.{IsBoundPacket}
use Rattle.law_delivery.specs.NoForgeryUnder.{UnitIsUnforged}
use Rattle.law_memory.proofs.AllLaws.{bind_origin_law}
use Rattle.law_bindings.specs.OverPeers.{StoresOverPeers, AcceptsFromOwners, IsBoundInNoOtherLock, PeerOriginLaw}
use Rattle.law_bindings.specs.OverPeers.{PeerStoreLaw}
use Rattle.law_bindings.proofs.OnlyDraw.{on_is_draw}
use Rattle.law_bindings.proofs.Floors.{refresh_draw}
use Rattle.law_key_facts.proofs.Seats.{on_key}
use Rattle.law_bindings.proofs.Stored.{here}
use Rattle.law_bindings.proofs.Sealed.{fits_view, none_since_bound, since_then}
use Rattle.law_bindings.specs.OneLock.{FitsView}
use Rattle.law_locks.proofs.Runs.{Since}
use Rattle.script_events.specs.declared.event.Event.TheVariants as event
use Rattle.spec_interfaces.proofs.Trusted.{draws_grow}

-- ---- draws of a stream never fall

-- over a pair it stays, or it is the next one
abbrev Steps : History → Event → Verdict → ℕ → ℕ → Type 0
Steps h e w line stream = (stream_draw ((e, w) ∷ h) line stream ≡ stream_draw h line stream)
    ⊎ (stream_draw ((e, w) ∷ h) line stream ≡ draws h)

establish_steps : (b : Bool) (m n : ℕ) → ((if b then m else n) ≡ n) ⊎ ((if b then m else n) ≡ m)
establish_steps true m n = inr refl
establish_steps false m n = inl refl

draw_steps : (plan : KeyPlan) (h : History) (e : Event) (w : Verdict) (line stream : ℕ)
    → KeyCauseLaw plan ((e, w) ∷ h) → is_link_line line ≡ false → Steps h e w line stream
unfolding stream_draw
draw_steps plan h (event.Establish l s loss) w line stream cause off =
    establish_steps ((l == line) && (s == stream) && begins_keyed (op_of h l s) (draws h) w) (draws h)
    (stream_draw h line stream)
draw_steps plan h (event.Refresh l s loss) w line stream cause off =
    inl (refresh_draw plan h l s loss w (receiver_at (device_port line) stream) cause off)
draw_steps plan h e w line stream cause off = inl refl

draw_below : (plan : KeyPlan) (h : History) → KeyCauseLaw plan h → (line stream : ℕ) → is_link_line line ≡ false
    → stream_draw h line stream ≤ draws h
unfolding stream_draw manager
draw_below plan [] cause line stream off = omega arith
draw_below plan ((e, w) ∷ h) cause line stream off =
    let before = draw_below plan h cause.2 line stream off in
    let grow = draws_grow h e w in
    elim (draw_steps plan h e w line stream cause off) [
      | inl same ↦ omega (arith, same, before, grow)
      | inr new ↦ omega (arith, new, grow)
    ]

grown : (since g : History) → draws g ≤ draws (since ++ g)
grown [] g = omega arith
grown ((e, w) ∷ since) g =
    let before = grown since g in let grow = draws_grow (since ++ g) e w in omega (arith, before, grow)

-- it stayed since, or is one that was made since
draw_since : (plan : KeyPlan) (since g : History) → KeyCauseLaw plan (since ++ g) → (line stream : ℕ)
    → is_link_line line ≡ false
    → (stream_draw (since ++ g) line stream ≡ stream_draw g line stream) ⊎
    (draws g ≤ stream_draw (since ++ g) line stream)
draw_since plan [] g cause line stream off = inl refl
draw_since plan ((e, w) ∷ since) g cause line stream off =
    let before = draw_since plan since g cause.2 line stream off in
    elim (draw_steps plan (since ++ g) e w line stream cause off) [
      | inl same ↦ elim before [
        | inl stays ↦ inl (same ∙ stays)
        | inr later ↦ inr (omega (arith, same, later))
      ]
      | inr new ↦ let more = grown since g in inr (omega (arith, new, more))
    ]

never_falls : (plan : KeyPlan) (k h : History) → CameFrom k h → KeyCauseLaw plan k → KeyCauseLaw plan h
    → (line stream : ℕ) → is_link_line line ≡ false → stream_draw k line stream ≤ stream_draw h line stream
never_falls plan k h came before cause line stream off =
    let below = draw_below plan k before line stream off in
    subst (λ (g : History). stream_draw k line stream ≤ stream_draw g line stream) came.is
    (elim (draw_since plan came.since k (subst (KeyCauseLaw plan) (sym came.is) cause) line stream off) [
      | inl same ↦ omega (arith, same)
      | inr later ↦ omega (arith, below, later)
    ])

-- a draw that was made before is that of the stream since then
made_then : (plan : KeyPlan) (g h : History) → CameFrom g h → KeyCauseLaw plan h → (line stream j : ℕ) (b : Begun)
    → is_link_line line ≡ false → begun_of_draw (manager g).begun j ≡ Some b → stream_draw h line stream ≡ j
    → stream_draw g line stream ≡ j
made_then plan g h came cause line stream j b off made is =
    let below = begun_below (manager g).begun j b made in
    elim (draw_since plan came.since g (subst (KeyCauseLaw plan) (sym came.is) cause) line stream off) [
      | inl same ↦ sym same ∙ (ap (λ (z : History). stream_draw z line stream) came.is ∙ is)
      | inr later ↦
          let least = subst (λ (z : History). draws g ≤ stream_draw z line stream) came.is later in
          absurd (omega (arith, below, least, is))
    ]

-- ---- the owner

record IsOwner (plan : Plan) (link : ℕ) (y : Site) : Type 0 where
  known : site_at plan y.number ≡ Some y
  link_is : y.link ≡ link

owner_at : (plan : Plan) (link : ℕ) (r : Result Tlp TlpFault) (y : Site) → owner_read plan link r ≡ Some y
    → IsOwner plan link y
owner_at plan link (Err f) y is = absurd cc
owner_at plan link (Ok t) y is = by (owner_id (header t)) is
  where
    by : (o : Option ℕ) → option_and_then (site_of_requester plan link) o ≡ Some y → IsOwner plan link y
    by None is = absurd cc
    by (Some rid) is =
        let there = found (λ x. (x.link == link) && (x.plan.requester == rid)) (sites plan) y is in
        record {
          known = number_owned plan link (Some rid) y is;
          link_is = eqb-true y.link link (and_parts (y.link == link) (y.plan.requester == rid) there.passes).0;
        }

-- ---- packet n of a unit

peer_off : (line : ℕ) → nat_le 24 line ≡ true → is_link_line line ≡ false
peer_off line late = grind (arith, nat_tests, late)

-- it came under the draw of the stream
pub accepted_draw : (plan : Plan) (h : History) (e : Event) (end : PortName) (unit : UnitName) (effects : List Effect)
    → CauseLaw plan ((e, Accepted end unit effects) ∷ h) → nat_le 24 end.line ≡ true
    → unit.draw ≡ stream_draw h end.line unit.stream
accepted_draw plan h e end unit effects cause late =
    let on = accepted_on plan h e end unit effects cause.0 in
    let s = received_in end unit in
    let there = on_at h end s on.0 unit.draw (on_key _ unit.draw on.1) in
    (on_is_draw (key_plan plan) h (key_cause plan h cause.1) (place_in_sub_stream end s there.sends)
    (peer_off end.line late) on.0 unit.draw (ap on_in there.on)).0

-- since a draw of the stream was made that it still has
no_other_lock : (plan : Plan) (g h : History) → CameFrom g h → CauseLaw plan h → (y : Site)
    → site_at plan y.number ≡ Some y → runs_at plan g y ≡ true → (stream : ℕ) (end : PortName)
    → peer_end plan.peers 0 y.link stream ≡ Some end → is_link_line end.line ≡ false → (j : ℕ) (b : Begun)
    → begun_of_draw (manager g).begun j ≡ Some b → stream_draw h end.line stream ≡ j
    → IsBoundInNoOtherLock plan g h y stream
no_other_lock plan g h came cause y known runs stream end at off j b made is k from to bound =
    let law = cause_at plan to.since k h to.is cause in
    let most = never_falls (key_plan plan) k h to (key_cause plan k law) (key_cause plan h cause) end.line stream off in
    sym (none_since_bound plan k law y known stream bound end at g j b made (omega (arith, most, is)) g (here g) from
    runs)

-- what the view says of a packet that an interface in RUN sealed under a draw
seen_then : (plan : Plan) (g h : History) → CameFrom g h → CauseLaw plan h → (y : Site) → site_at plan y.number ≡ Some y
    → runs_at plan g y ≡ true → (j : ℕ) (b : Begun) → begun_of_draw (manager g).begun j ≡ Some b → FitsView plan h y g j
seen_then plan g h came cause y known runs j b made =
    fits_view plan h y g j runs (subst (λ (z : History). Since plan (locks_accepted plan g y) j z y) came.is
    (since_then plan came.since g y j b known (subst (CauseLaw plan) (sym came.is) cause)
    (cause_at plan came.since g h came.is cause) runs made))

not_on_link : (plan : Plan) → FitsPlan plan → (x : Site) → site_at plan x.number ≡ Some x → (end : PortName)
    → end ≡ device_port x.link → nat_le 24 end.line ≡ true → ⊥
not_on_link plan fits x known end same late =
    let few = number_on_link plan x known in
    let most = fits.links_most in
    let line = ap (λ (q : PortName). q.line) same in
    grind (arith, nat_tests, few, most, line, late)

before_pair : (pair : Event × Verdict) (g h : History) → CameFrom (pair ∷ g) h → CameFrom g h
before_pair pair g h came =
    record { since = came.since ++ pair ∷ []; is = append_assoc came.since (pair ∷ []) g ∙ came.is }

record OwnerFacts (plan : Plan) (h : History) (end : PortName) (unit : UnitName) (m : ℕ) (p : Packet)
    (from : IsBoundPacket plan h (received_in end unit) unit.draw m p) : Type 0 where
  draw_is : stream_draw h end.line unit.stream ≡ unit.draw
  draw_was : stream_draw from.was.older end.line unit.stream ≡ unit.draw
  no_other : IsBoundInNoOtherLock plan from.was.older h from.was.owner.interface unit.stream
  view : FitsView plan h from.was.owner.interface from.was.older unit.draw

owner_facts : (plan : Plan) (h : History) (e : Event) (end : PortName) (unit : UnitName) (effects : List Effect) (m : ℕ)
    (p : Packet) → CauseLaw plan ((e, Accepted end unit effects) ∷ h) → nat_le 24 end.line ≡ true
    → (from : IsBoundPacket plan h (received_in end unit) unit.draw m p) → OwnerFacts plan h end unit m p from
owner_facts plan h e end unit effects m p cause late from =
    let was = from.was in
    let owned = owner_at plan was.link (read_of (sent_bytes plan was.older was.event)) was.owner.interface
    was.owner.owns in
    let names = in_parts (received_in end unit) unit.draw was.stands.sealed was.stands.under in
    let line : was.stands.sealed.0.port.line ≡ end.line = ap (λ (t : SubStream). t.line) names.2 in
    let made = bound_made plan h was.older was.event was.packets was.place was.stands.sealed cause.1 was.came
    was.stands.stands was.until in
    let draw = accepted_draw plan h e end unit effects cause late in
    let off = peer_off end.line late in
    let came = before_pair (was.event, Sealed was.packets) was.older h was.came in
    let j = was.stands.sealed.0.draw in
    let at_end : stream_draw h end.line unit.stream ≡ j = sym draw ∙ sym names.1 in
    let begun = owner was.stands.sealed.0.port.line was.stands.sealed.0.stream was.stands.sealed.0.k in
    record {
      draw_is = sym draw;
      draw_was = made_then (key_plan plan) was.older h came (key_cause plan h cause.1) end.line unit.stream j _ off made
          at_end ∙ names.1;
      no_other = no_other_lock plan was.older h came cause.1 was.owner.interface owned.known was.owner.runs
          unit.stream was.stands.sealed.0.port
          (ap (λ (l : ℕ). peer_end plan.peers 0 l unit.stream) owned.link_is ∙ was.at_device)
          (ap is_link_line line ∙ off) j _ made (ap (λ (l : ℕ). stream_draw h l unit.stream) line ∙ at_end);
      view = seen_then plan was.older h came cause.1 was.owner.interface owned.known was.owner.runs unit.draw begun
          (subst (λ (d : ℕ). begun_of_draw (manager was.older).begun d ≡ Some begun) names.1 made);
    }

-- ---- each pair

accepted_from : (plan : Plan) → FitsPlan plan → (h : History) (e : Event) (end : PortName) (unit : UnitName)
    (effects : List Effect) → CauseLaw plan ((e, Accepted end unit effects) ∷ h)
    → UnitIsUnforged plan h e (Accepted end unit effects) → AcceptsFromOwners plan h e (Accepted end unit effects)
accepted_from plan fits h e end unit effects cause none late n p stands trusted =
    let m = length (accepted_packets plan h (received_in end unit) unit.draw) + n in
    let bound = bind_origin_law plan fits ((e, Accepted end unit effects) ∷ h) cause in
    let from = bound.0 none late n p stands trusted in
    let facts = owner_facts plan h e end unit effects m p cause late from in
    record {
      from = from;
      draw_is = facts.draw_is;
      draw_was = facts.draw_was;
      no_other_lock = facts.no_other;
      view = facts.view;
    }

accepts_from : (plan : Plan) → FitsPlan plan → (h : History) (e : Event) (w : Verdict)
    → CauseLaw plan ((e, w) ∷ h) → UnitIsUnforged plan h e w → AcceptsFromOwners plan h e w
accepts_from plan fits h e (Accepted end unit effects) cause none =
    accepted_from plan fits h e end unit effects cause none
accepts_from plan fits h e w cause none = tt

stored_over : (plan : Plan) → FitsPlan plan → (h : History) (e : Event) (end : PortName) (unit : UnitName)
    (effects : List Effect) → CauseLaw plan ((e, Accepted end unit effects) ∷ h)
    → UnitIsUnforged plan h e (Accepted end unit effects) → StoresOverPeers plan h e (Accepted end unit effects)
stored_over plan fits h e end unit effects cause none late x bar n write p known stored stands trusted =
    elim ((mmio_origin plan fits ((e, Accepted end unit effects) ∷ h) cause).0 none x bar n write p known stored
    stands trusted) [
      | inl own ↦ absurd (not_on_link plan fits x known end own.end_is late)
      | inr came ↦ (
          let facts = owner_facts plan h e end unit effects _ p cause late came.from in
          record {
            runs = came.runs;
            bound = came.bound;
            owner = record {
              from = came.from;
              draw_is = facts.draw_is;
              draw_was = facts.draw_was;
              no_other_lock = facts.no_other;
              view = facts.view;
            };
            no_other_run = came.no_other_run;
          })
    ]

stores_over : (plan : Plan) → FitsPlan plan → (h : History) (e : Event) (w : Verdict)
    → CauseLaw plan ((e, w) ∷ h) → UnitIsUnforged plan h e w → StoresOverPeers plan h e w
stores_over plan fits h e (Accepted end unit effects) cause none =
    stored_over plan fits h e end unit effects cause none
stores_over plan fits h e w cause none = tt

pub peer_origin_law : (plan : Plan) → FitsPlan plan → (h : History) → CauseLaw plan h → PeerOriginLaw plan h
peer_origin_law plan fits [] cause = tt
peer_origin_law plan fits ((e, w) ∷ h) cause =
    (accepts_from plan fits h e w cause, peer_origin_law plan fits h cause.1)

pub peer_store_law : (plan : Plan) → FitsPlan plan → (h : History) → CauseLaw plan h → PeerStoreLaw plan h
peer_store_law plan fits [] cause = tt
peer_store_law plan fits ((e, w) ∷ h) cause =
    (stores_over plan fits h e w cause, peer_store_law plan fits h cause.1)
