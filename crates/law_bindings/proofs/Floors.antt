-- The floor of a binding is the draw of its stream, which is On at the interface's device: the bind took it so, and
-- while the stream is Secure there no other establish of it begins.
use Rattle.law_sealing.proofs.Terms.{◌≡◌, inl, inr, ℕ, ◌+◌, ◌≤◌, ◌==◌, ◌&&◌, Bool, true, false}
use Rattle.law_sealing.proofs.Terms.{[], ◌∷◌, Option, Some, refl, ap, sym, subst, ◌∙◌, arith, nat_tests}
use Rattle.law_sealing.proofs.Terms.{if◌then◌else◌, cases_Bool, Plan, PortName, History, Event, Verdict}
use Rattle.law_sealing.proofs.Terms.{CauseLaw}
use Rattle.std.proofs.lemmas.Bool.{and_parts, true≢false}
use Rattle.std.proofs.Common.{⊎_elim}
use Rattle.ide_types.specs.Lines.{is_link_line}
use Rattle.spec_keys.specs.Places.{KeyPlan, KeyPlace}
use Rattle.spec_keys.specs.Keys.{Keys, Keyed, Off, Loaded, On, key_in, on_in, draw_of_keyed}
use Rattle.spec_keys.specs.Operations.{StreamStage, Idle, work_of}
use Rattle.spec_keys.specs.History.{place_keys, keeps_live, history_status, op_of, draws, has_key, has_all}
use Rattle.spec_keys.specs.History.{failed_there}
use Rattle.spec_keys.specs.History.{begins_keyed, moments}
use Rattle.spec_keys.specs.Laws.{KeyCauseLaw}
unfoldable use Rattle.spec_keys.specs.Due.{key_due}
use Rattle.spec_keys.specs.Due.{ports_at}
use Rattle.spec_keys.specs.Places.{is_on_stream, key_place_at}
use Rattle.spec_keys.proofs.Owners.{same_place}
use Rattle.spec_keys.proofs.Whole.{elsewhere, fits as fits_whole}
use Rattle.ide_types.specs.declared.port.Side.{Side}
use Rattle.ide_types.specs.declared.sub.SubKind.TheVariants.{Pr, Npr, Cpl}
use Rattle.ide_types.specs.declared.port.Side.TheVariants.{Host, Device}
use Rattle.law_key_facts.proofs.Given.{key_cause}
use Rattle.spec_links.specs.Plan.{key_plan}
use Rattle.interface_state.specs.Bindings.{floor_on}
use Rattle.spec_interfaces.specs.Terms.{Loss}
use Rattle.spec_interfaces.specs.Peers.{is_secure, greatest_on, receiver_at, peer_end}
use Rattle.spec_interfaces.specs.Sites.{Site}
unfoldable use Rattle.spec_interfaces.specs.Views.{stream_draw}
unfoldable use Rattle.spec_interfaces.specs.Devices.{devices}
use Rattle.spec_interfaces.specs.Devices.{interface_at}
use Rattle.law_locks.proofs.SecurePeers.{bound_secure}
use Rattle.law_mmio.proofs.Secure.{secure_parts}
use Rattle.law_bindings.specs.Keys.{IsBoundUnder}
use Rattle.law_bindings.proofs.OnlyDraw.{KeepsOnly, Comes, nowhere, first, again, comes, only_draw, bare_idle}
use Rattle.law_bytes.proofs.StreamDraws.{and_none, not_begun}
use Rattle.law_bindings.proofs.OnlyDraw.{refresh_none, swapped}
use Rattle.law_bindings.proofs.Calls.{none_has}
use Rattle.law_memory.proofs.Floors.{floor_some}
use Rattle.law_bindings.proofs.Asks.{bound_came, live_means}
use Rattle.law_bindings.proofs.Counted.{in_peers}
use Rattle.law_bindings.proofs.Calls.{no_third}
use Rattle.script_events.specs.declared.event.Event.TheVariants as event
use Rattle.event_verdicts.specs.declared.verdict.Operation.TheVariants as op
use Rattle.event_verdicts.specs.declared.verdict.Verdict.TheVariants as v

-- ---- the draw that is On

record IsOn (draw : ℕ) (ks : Keys) : Type 0 where
  on : on_in ks.first ≡ Some draw
  greatest : greatest_on ks ≡ draw

on_first : (draw : ℕ) (a : Keyed) → ((i : ℕ) → draw_of_keyed a ≡ Some i → i ≡ draw)
    → keeps_live (record { first = a; second = Off }) ≡ true → IsOn draw (record { first = a; second = Off })
on_first draw Off only live = absurd (true≢false (sym live))
on_first draw (Loaded i) only live = absurd (true≢false (sym live))
on_first draw (On i) only live =
    let same = only i refl in record { on = ap (λ (n : ℕ). Some n) same; greatest = grind (arith, nat_tests, same) }

live_on : (draw : ℕ) (ks : Keys) → KeepsOnly draw ks → keeps_live ks ≡ true → IsOn draw ks
live_on draw ks keeps live =
    let same : ks ≡ record { first = ks.first; second = Off } =
    λ i. record { first = ks.first; second = keeps.second i } in
    subst (IsOn draw) (sym same) (on_first draw ks.first keeps.first (subst (λ (z : Keys). keeps_live z ≡ true) same
    live))

-- a stream that is Secure at an end has a key where the end receives posted requests
all_live : (h : History) (side : Side) (line stream : ℕ) → is_secure (history_status h side line stream) ≡ true
    → has_all (place_keys h) side line stream ≡ true
all_live h side line stream is = (secure_parts (failed_there h side line stream)
    (has_key (place_keys h) side line stream) (has_all (place_keys h) side line stream) is).1

fourth : (a b c d e : Bool) → (a && (b && (c && (d && e)))) ≡ true → d ≡ true
fourth a b c d e is = grind (arith, is)

live_there : (h : History) (side : Side) (line stream : ℕ) → is_secure (history_status h side line stream) ≡ true
    → keeps_live (place_keys h (receiver_at (record { side = side; line = line }) stream)) ≡ true
live_there h Device line stream is =
    (and_parts (keeps_live (place_keys h (key_place_at Device line stream false Pr))) _
    (all_live h Device line stream is)).0
live_there h Host line stream is =
    fourth (keeps_live (place_keys h (key_place_at Host line stream false Pr)))
    (keeps_live (place_keys h (key_place_at Host line stream false Npr)))
    (keeps_live (place_keys h (key_place_at Host line stream false Cpl)))
    (keeps_live (place_keys h (key_place_at Host line stream true Pr))) _ (all_live h Host line stream is)

pub secure_live : (h : History) (end : PortName) (stream : ℕ)
    → is_secure (history_status h end.side end.line stream) ≡ true
    → keeps_live (place_keys h (receiver_at end stream)) ≡ true
secure_live h end stream is = live_there h end.side end.line stream is

-- ---- no establish begins

not_idle : (plan : KeyPlan) (h : History) (p : KeyPlace) → KeyCauseLaw plan h → keeps_live (place_keys h p) ≡ true
    → op_of h p.line p.stream ≡ Idle → ⊥
not_idle plan h p cause live is =
    true≢false (sym live ∙ ap keeps_live (bare_idle (op_of h p.line p.stream) (draws h) p (moments h p)
    (fits_whole plan h cause p) is))

begins_not : (w : Verdict) (q : StreamStage) (next : ℕ) → Comes w q → (q ≡ Idle → ⊥) → begins_keyed q next w ≡ false
begins_not w q next (nowhere _ none) idle = rw none (and_none (work_of op.Establish q next).begins)
begins_not w _ next first idle = absurd (idle refl)
begins_not w _ next (again j n) idle = refl

establish_stays : (plan : KeyPlan) (h : History) (loss : Option Loss) (w : Verdict) (p : KeyPlace)
    → KeyCauseLaw plan ((event.Establish p.line p.stream loss, w) ∷ h) → keeps_live (place_keys h p) ≡ true
    → begins_keyed (op_of h p.line p.stream) (draws h) w ≡ false
unfolding key_due
establish_stays plan h loss w p cause live =
    begins_not w (op_of h p.line p.stream) (draws h)
    (comes (plan.has_stream p.line p.stream) plan (op_of h p.line p.stream) (draws h) (ports_at h) p.line p.stream loss
    w cause.0) (not_idle plan h p cause.2 live)

if_none : (b : Bool) (m n : ℕ) → b ≡ false → (if b then m else n) ≡ n
if_none b m n is = rw is refl

establish_draw : (plan : KeyPlan) (h : History) (l s : ℕ) (loss : Option Loss) (w : Verdict) (p : KeyPlace)
    → KeyCauseLaw plan ((event.Establish l s loss, w) ∷ h) → keeps_live (place_keys h p) ≡ true
    → stream_draw ((event.Establish l s loss, w) ∷ h) p.line p.stream ≡ stream_draw h p.line p.stream
unfolding stream_draw
establish_draw plan h l s loss w p cause live = elim (cases_Bool (is_on_stream p l s)) [
  | inl own ↦ elsewhere p l s (λ (a b : ℕ). KeyCauseLaw plan ((event.Establish a b loss, w) ∷ h)
      → stream_draw ((event.Establish a b loss, w) ∷ h) p.line p.stream ≡ stream_draw h p.line p.stream)
      (same_place p.line p.stream l s own)
      (λ here. if_none _ (draws h) (stream_draw h p.line p.stream)
      (no_third (p.line == p.line) (p.stream == p.stream) _ (establish_stays plan h loss w p here live))) cause
  | inr none ↦ if_none _ (draws h) (stream_draw h p.line p.stream)
      (not_begun p.line l p.stream s (begins_keyed (op_of h l s) (draws h) w) none)
]

pub refresh_draw : (plan : KeyPlan) (h : History) (l s : ℕ) (loss : Option Loss) (w : Verdict) (p : KeyPlace)
    → KeyCauseLaw plan ((event.Refresh l s loss, w) ∷ h) → is_link_line p.line ≡ false
    → stream_draw ((event.Refresh l s loss, w) ∷ h) p.line p.stream ≡ stream_draw h p.line p.stream
unfolding stream_draw
refresh_draw plan h l s loss (v.Refreshed a b j) p cause other = elim (cases_Bool (is_on_stream p l s)) [
  | inl own ↦ elsewhere p l s (λ (c d : ℕ). KeyCauseLaw plan ((event.Refresh c d loss, v.Refreshed a b j) ∷ h)
      → stream_draw ((event.Refresh c d loss, v.Refreshed a b j) ∷ h) p.line p.stream ≡ stream_draw h p.line p.stream)
      (same_place p.line p.stream l s own)
      (λ here. absurd (let wrong = refresh_none plan h loss (v.Refreshed a b j) p other here in cc)) cause
  | inr none ↦ if_none _ j (stream_draw h p.line p.stream) (swapped p.line l p.stream s none)
]
refresh_draw plan h l s loss w p cause other = refl

draw_stays : (plan : KeyPlan) (h : History) (e : Event) (w : Verdict) (p : KeyPlace)
    → KeyCauseLaw plan ((e, w) ∷ h) → is_link_line p.line ≡ false → keeps_live (place_keys h p) ≡ true
    → stream_draw ((e, w) ∷ h) p.line p.stream ≡ stream_draw h p.line p.stream
unfolding stream_draw
draw_stays plan h (event.Establish l s loss) w p cause other live = establish_draw plan h l s loss w p cause live
draw_stays plan h (event.Refresh l s loss) w p cause other live = refresh_draw plan h l s loss w p cause other
draw_stays plan h e w p cause other live = refl

-- ---- all pairs

peer_off : (line n : ℕ) → 24 + n ≤ line → is_link_line line ≡ false
peer_off line n least = grind (arith, nat_tests, least)

record IsDrawn (plan : Plan) (h : History) (link stream floor : ℕ) : Type 0 where
  end : PortName
  at_device : peer_end plan.peers 0 link stream ≡ Some end
  draw_is : stream_draw h end.line stream ≡ floor

off_link : (plan : Plan) (link stream : ℕ) (end : PortName) → peer_end plan.peers 0 link stream ≡ Some end
    → is_link_line end.line ≡ false
off_link plan link stream end at = peer_off end.line 0 (in_peers plan.peers 0 link stream end at).least

pub same_end : (a b : PortName) (o : Option PortName) → o ≡ Some a → o ≡ Some b → a ≡ b
same_end a b o one two = cc (one, two)

-- while it is bound, at its end
bound_live : (plan : Plan) (h : History) → CauseLaw plan h → (x : Site) (stream floor : ℕ)
    → floor_on stream (interface_at plan h x).bindings ≡ Some floor → (end : PortName)
    → peer_end plan.peers 0 x.link stream ≡ Some end → keeps_live (place_keys h (receiver_at end stream)) ≡ true
bound_live plan h cause x stream floor has end at =
    let peer = bound_secure plan h cause x stream (floor_some stream floor (interface_at plan h x).bindings has) in
    let same = same_end peer.end end (peer_end plan.peers 0 x.link stream) peer.at_device at in
    secure_live h end stream
    (subst (λ (q : PortName). is_secure (history_status h q.side q.line stream) ≡ true) same peer.secure)

drawn : (plan : Plan) (h : History) → CauseLaw plan h → (x : Site) (stream floor : ℕ)
    → floor_on stream (interface_at plan h x).bindings ≡ Some floor → IsDrawn plan h x.link stream floor
unfolding devices stream_draw
drawn plan [] cause x stream floor has = absurd (none_has stream floor [] refl has)
drawn plan ((e, w) ∷ h) cause x stream floor has =
    ⊎_elim (λ old.
    let was = drawn plan h cause.1 x stream floor old.was in
    record {
      end = was.end;
      at_device = was.at_device;
      draw_is = draw_stays (key_plan plan) h e w (receiver_at was.end stream)
          (key_cause plan ((e, w) ∷ h) cause) (off_link plan x.link stream was.end was.at_device)
          (bound_live plan h cause.1 x stream floor old.was was.end was.at_device) ∙ was.draw_is;
    }) (λ new.
    let live = live_means plan h x.link stream floor new.live in
    let p = receiver_at live.end stream in
    let on = live_on (stream_draw h live.end.line stream) (place_keys h p)
    (only_draw (key_plan plan) h (key_cause plan h cause.1) p (off_link plan x.link stream live.end live.at_device))
    (secure_live h live.end stream live.secure) in
    subst (λ (f : Event). IsDrawn plan ((f, w) ∷ h) x.link stream floor) (sym new.event) (record {
      end = live.end;
      at_device = live.at_device;
      draw_is = sym on.greatest ∙ sym live.floor_is;
    }))
    (bound_came plan h e w x stream floor has)

kept_is : (draw : ℕ) (ks : Keys) (set : Bool) (j : ℕ) → KeepsOnly draw ks → draw_of_keyed (key_in ks set) ≡ Some j
    → j ≡ draw
kept_is draw ks false j keeps is = keeps.first j is
kept_is draw ks true j keeps is = absurd (let wrong = sym (ap draw_of_keyed keeps.second) ∙ is in cc)

pub bound_under : (plan : Plan) (h : History) → CauseLaw plan h → (x : Site) (stream floor : ℕ)
    → floor_on stream (interface_at plan h x).bindings ≡ Some floor → IsBoundUnder plan h x stream floor
bound_under plan h cause x stream floor has =
    let was = drawn plan h cause x stream floor has in
    let p = receiver_at was.end stream in
    let off = off_link plan x.link stream was.end was.at_device in
    let keys = key_cause plan h cause in
    let on = live_on (stream_draw h was.end.line stream) (place_keys h p) (only_draw (key_plan plan) h keys p off)
    (bound_live plan h cause x stream floor has was.end was.at_device) in
    record {
      end = was.end;
      at_device = was.at_device;
      set = false;
      on = on.on ∙ ap (λ (n : ℕ). Some n) was.draw_is;
      draw_is = was.draw_is;
      only = λ q other j line id kept.
          kept_is (stream_draw h q.line q.stream) (place_keys h q) other j
          (only_draw (key_plan plan) h keys q (ap is_link_line line ∙ off)) kept
          ∙ ((λ i. stream_draw h (line i) (id i)) ∙ was.draw_is);
    }
