-- An operation on a stream of any line: interfaces follow the ends of their device's streams, and the manager of
-- interfaces is told what the machine reads off the verdict. An establish gives the stream its draw if one was made,
-- that is, if it began; a refresh does so if it ended; a stop breaks views if it began, and of a stream between devices
-- at each event, as its verdict always tells how far it came. A stream that is not there is not operated on.
use Rattle.std.proofs.Common.{◌≡◌, ◌⊎◌, inl, inr, ⊎_elim, ℕ, ◌==◌, ◌&&◌, ◌<◌, Bool, true, false, List, length}
use Rattle.std.proofs.Common.{Option, Some, None, refl, ap, sym, ◌∙◌, subst, arith}
use Rattle.std.specs.Prelude.{slice_get, slice_set, not, is_some, nat_lt, nat_le, option_map, if◌then◌else◌}
use Rattle.std.specs.List.{slice_index_or}
use Rattle.std.proofs.lemmas.Bool.{cases_Bool, true≢false}
use Rattle.std.proofs.lemmas.Bool.Decides.{nat_tests}
use Rattle.std.proofs.lemmas.List.{length-map, length-set}
use Rattle.std.proofs.lemmas.Option.{slice_get-map, slice_get_within}
use Rattle.ide_types.specs.Lines.{is_link_line, peer_line}
use Rattle.ide_types.specs.Ports.{host_port}
use Rattle.ide_types.specs.declared.plan.Plan.{Plan}
use Rattle.ide_types.specs.declared.plan.PeerPlan.{PeerPlan}
use Rattle.script_events.specs.declared.event.Event.{Event}
use Rattle.script_events.specs.declared.event.Event.TheVariants as event
use Rattle.script_events.specs.declared.event.Loss.{Loss}
use Rattle.event_verdicts.specs.declared.verdict.Operation.{Operation}
use Rattle.event_verdicts.specs.declared.verdict.Operation.TheVariants as op
use Rattle.event_verdicts.specs.declared.verdict.Verdict.{Verdict}
use Rattle.event_verdicts.specs.declared.verdict.Verdict.TheVariants as v
use Rattle.spec_keys.specs.Operations.{StreamStage, Idle, work_of, reach_of}
use Rattle.spec_keys.specs.History.{begins_keyed}
use Rattle.spec_interfaces.specs.Sites.{Site}
use Rattle.spec_interfaces.specs.Views.{Managed, managed_after, peer_of, stop_begins, view_broken}
use Rattle.key_host.specs.Managers.{ManagerView, Named, named_stream, op_named}
use Rattle.interface_host.specs.Views.{HostTdi, broken_view, left_by_peer_stop, left_by_stop, keyed_by}
use Rattle.interface_host.specs.Managers.{all_interfaces, peer_stop}
use Rattle.trusted_memory.specs.{MemoryContents, IsLeftBy}
use Rattle.join_interfaces.specs.Faces.{IsManaged}
use Rattle.machine_ports.specs.Machine.{LinkState, Stepped, find_op, ports_of, step_of}
use Rattle.machine_whole.specs.Machine.{Whole, whole_streams, op_or_idle, draw_after, written_after, beside_of}
use Rattle.machine_whole.specs.Machine.{whole_after, arrival_of}
use Rattle.join_accesses.specs.{EndsView, InterfacesView, keyed_if, Links, links_state, peers_drawn, port_on}
use Rattle.join_accesses.specs.{BesideOperation, stopped_if, told_on_line, told_by_link, told_by_peer, stream_named}
use Rattle.join_accesses.specs.{AreDrawn, IsBeside}
use Rattle.join_accesses.proofs.{op_is, unnamed, is_of_ports, beside_led, link_few, AreBoth, written_kept}
use Rattle.world.proofs.Arrives.{each_led, only_leaves}
use Rattle.world.proofs.Told.{keyed_managed, link_stop, none_breaks, one_drawn, peer_stop_breaks, peer_stopped}
use Rattle.world.proofs.Told.{peer_stream_id, set_managed, stopped_managed, early_line, same_link}
use Rattle.world.proofs.Begins.{establish_done, establish_nothing, refresh_nothing, none_refreshed, stop_nothing}
use Rattle.world.proofs.Begins.{stop_verdict, drew_is, and_never, and_always, begins_stop, stop_reaches}
use Rattle.world.proofs.Calls.{same_number}

-- ---- what the manager is told

-- each interface is changed so, and no other part that counts
record IsTold (m m' : InterfacesView) (f : HostTdi → HostTdi) : Type 0 where
  portion : m'.portion ≡ m.portion
  many : length m'.interfaces ≡ length m.interfaces
  each : (i : ℕ) (h : HostTdi) → slice_get m.interfaces i ≡ Some h → slice_get m'.interfaces i ≡ Some (f h)

told_if : (b : Bool) (f : HostTdi → HostTdi) (m : InterfacesView)
    → IsTold m (if b then all_interfaces f m else m) (λ h. if b then f h else h)
told_if true f m = record {
  portion = refl;
  many = length-map m.interfaces f;
  each = λ i h is. slice_get-map f m.interfaces i ∙ ap (option_map f) is;
}
told_if false f m = record { portion = refl; many = refl; each = λ i h is. is }

told_same : (m m' n : InterfacesView) (f : HostTdi → HostTdi) → n ≡ m' → IsTold m m' f → IsTold m n f
told_same m m' n f same is = subst (λ (k : InterfacesView). IsTold m k f) (sym same) is

-- the manager's test of a stream is the machine's
is_bound_there : (link stream : ℕ) (draw : ℕ) (x : Site) (h : HostTdi) (g : Managed) → IsManaged draw x h g
    → ((h.link == link) && (h.stream == stream)) ≡ ((link == x.link) && (stream == x.plan.stream))
is_bound_there link stream draw x h g is =
    let one = same_link h.link x.link link is.laid_out.link in
    let two = same_link h.stream x.plan.stream stream is.laid_out.stream in
    λ n. one n && two n

-- ---- the name of a stream

-- there is no such stream, or it is this one
record IsNamed (m : ManagerView) (ends : EndsView) (line stream : ℕ) : Type 0 where
  it : Named
  here : stream_named m ends line stream ≡ Some (line, stream)
  found : named_stream m line stream ≡ Some it

name_by : (a b c : Bool) (o : Option Named) (at : ℕ × ℕ) → ((if a && b && c && is_some o then Some at else None) ≡ None)
    ⊎ ((n : Named) × ((if a && b && c && is_some o then Some at else None) ≡ Some at) × (o ≡ Some n))
name_by false b c o at = inl refl
name_by true false c o at = inl refl
name_by true true false o at = inl refl
name_by true true true None at = inl refl
name_by true true true (Some n) at = inr (n, refl, refl)

name_cases : (m : ManagerView) (ends : EndsView) (line stream : ℕ)
    → (stream_named m ends line stream ≡ None) ⊎ IsNamed m ends line stream
name_cases m ends line stream =
    ⊎_elim (λ none. inl none) (λ n. inr (record { it = n.0; here = n.1; found = n.2 }))
    (name_by (nat_lt line 32) (nat_le stream 255) (is_some (port_on ends (host_port line))) (named_stream m line stream)
    (line, stream))

-- ---- what it makes of what stands beside the ports

module _ (plan : Plan) (old new : Links) (w : Whole) (verdict : Verdict) (both : AreBoth plan old new w)
    (o : Operation) (line stream : ℕ) (sides : BesideOperation o line stream verdict old new) where
  -- the machine's operation on the stream
  found_here : (n : IsNamed old.keeper.keys.manager old.ends line stream)
      → find_op plan w.links line stream ≡ Some n.it.stream.op
  found_here n = ap (λ (st : LinkState). find_op plan st line stream) both.whole.links
      ∙ (op_is plan old.ends old.keeper.keys old.packets.packets line stream both.links ∙ ap op_named n.found)

  found_nowhere : stream_named old.keeper.keys.manager old.ends line stream ≡ None
      → find_op plan w.links line stream ≡ None
  found_nowhere none = ap (λ (st : LinkState). find_op plan st line stream) both.whole.links
      ∙ unnamed plan old.ends old.keeper.keys old.packets.packets line stream both.links (sym none)

  told_here : (n : IsNamed old.keeper.keys.manager old.ends line stream) → new.keeper.interfaces
      ≡ told_on_line o line stream n.it.stream.op w.links.draws (links_state plan new).draws verdict
      old.keeper.interfaces
  told_here n = sides.told n.it n.here n.found
      ∙ ap (λ (st : LinkState). told_on_line o line stream n.it.stream.op st.draws (links_state plan new).draws verdict
      old.keeper.interfaces) (sym both.whole.links)

  drawn_here : (n : IsNamed old.keeper.keys.manager old.ends line stream)
      → new.keeper.peer_draws ≡ peers_drawn o line w.links.draws (links_state plan new).draws old.keeper.peer_draws
  drawn_here n = sides.drawn n.it n.here n.found
      ∙ ap (λ (st : LinkState). peers_drawn o line st.draws (links_state plan new).draws old.keeper.peer_draws)
      (sym both.whole.links)

  -- the interfaces follow the ends of their device's streams, and the manager is told so
  operated_beside : (e : Event) (f : HostTdi → HostTdi) → is_of_ports e verdict ≡ true
      → arrival_of plan w.links e ≡ None → IsTold old.keeper.interfaces new.keeper.interfaces f
      → ((x : Site) (h : HostTdi) (g : Managed) → x.link < 8 → IsManaged (w.draw x.link x.plan.stream) x h g
      → IsManaged (draw_after (whole_streams plan w).op w.links.draws e verdict w.draw x.link x.plan.stream) x (f h)
      (managed_after (whole_streams plan w).op w.links.draws x e verdict g))
      → IsBeside plan new.ends.links new.keeper.interfaces new.trusted.contents
      (whole_after plan w e verdict (links_state plan new))
  operated_beside e f ports none told managed =
      beside_led plan w e verdict (links_state plan new) old.ends.links new.ends.links old.keeper.interfaces
      new.keeper.interfaces old.trusted.contents new.trusted.contents both.links.fits both.whole.beside (record {
        many = both.links_after.many ∙ sym both.links.many;
        led = each_led plan old new w both sides.devices;
        only = λ i x g at there. only_leaves plan w e verdict (links_state plan new) x g ports;
        portion = told.portion;
        interfaces = told.many;
        managed = λ i x h g at is there kept. record {
          interface = f h;
          interface_is = told.each i h is;
          managed = managed x h g.managed (link_few plan i x both.links.fits at) kept;
        };
        regions = ap (λ (c : MemoryContents). c.regions) sides.contents ∙ both.whole.beside.regions;
        written = subst (λ (c : MemoryContents). IsLeftBy c (written_after plan w e verdict)) (sym sides.contents)
            (subst (IsLeftBy old.trusted.contents) (sym (written_kept plan w e verdict none))
            both.whole.beside.written);
      })

  -- it tells the manager nothing
  untold_beside : (e : Event) → is_of_ports e verdict ≡ true → arrival_of plan w.links e ≡ None → new.keeper.interfaces
      ≡ old.keeper.interfaces
      → ((x : Site) (g : Managed) → x.link < 8 → draw_after (whole_streams plan w).op w.links.draws e verdict w.draw
      x.link x.plan.stream ≡ w.draw x.link x.plan.stream)
      → ((x : Site) (g : Managed) → x.link < 8 → managed_after (whole_streams plan w).op w.links.draws x e verdict g
      ≡ g) → IsBeside plan new.ends.links new.keeper.interfaces new.trusted.contents
      (whole_after plan w e verdict (links_state plan new))
  untold_beside e ports none told draw kept =
      operated_beside e (λ h. h) ports none
      (told_same old.keeper.interfaces old.keeper.interfaces new.keeper.interfaces (λ h. h) told
      (record { portion = refl; many = refl; each = λ i h is. is }))
      (λ x h g few is.
      subst (λ (n : ℕ). IsManaged n x h (managed_after (whole_streams plan w).op w.links.draws x e verdict g))
      (sym (draw x g few)) (subst (IsManaged (w.draw x.link x.plan.stream) x h) (sym (kept x g few)) is))

-- ---- lines

link_early : (line : ℕ) → is_link_line line ≡ true → nat_le 24 line ≡ false
link_early line is = grind (arith, nat_tests)

-- another line than that of a link is none of an interface's
far_line : (line link : ℕ) → is_link_line line ≡ false → link < 8 → (line == link) ≡ false
far_line line link is few = grind (arith, nat_tests)

if_far : {A : Type 0} (a b c : Bool) (m n : A) → a ≡ false → (if a && b && c then m else n) ≡ n
if_far a b c m n far = rw far refl

-- ---- each of them

module _ (plan : Plan) (old new : Links) (w : Whole) (verdict : Verdict) (both : AreBoth plan old new w)
    (line stream : ℕ) (loss : Option Loss) where
  abbrev IsAfter : Event → Type 0
  IsAfter e = IsBeside plan new.ends.links new.keeper.interfaces new.trusted.contents
      (whole_after plan w e verdict (links_state plan new))

  abbrev Steps : Event → Type 0
  Steps e = ◌≡◌ {A = Stepped} (verdict, links_state plan new) (step_of plan (beside_of plan w) w.links e)

  -- ---- what is told on each kind of line

  told_link : (o : Operation) (q : StreamStage) (before after : ℕ) → is_link_line line ≡ true
      → told_on_line o line stream q before after verdict old.keeper.interfaces
      ≡ told_by_link o line stream q before after verdict old.keeper.interfaces
  told_link o q before after here =
      ap (λ (b : Bool). if b then told_by_link o line stream q before after verdict old.keeper.interfaces
      else if nat_le 24 line then told_by_peer o line old.keeper.interfaces else old.keeper.interfaces) here

  told_far : (o : Operation) (q : StreamStage) (before after : ℕ) → is_link_line line ≡ false
      → told_on_line o line stream q before after verdict old.keeper.interfaces
      ≡ (if nat_le 24 line then told_by_peer o line old.keeper.interfaces else old.keeper.interfaces)
  told_far o q before after far =
      ap (λ (b : Bool). if b then told_by_link o line stream q before after verdict old.keeper.interfaces
      else if nat_le 24 line then told_by_peer o line old.keeper.interfaces else old.keeper.interfaces) far

  peer_or_none : (b : Bool) → (if b then old.keeper.interfaces else old.keeper.interfaces) ≡ old.keeper.interfaces
  peer_or_none true = refl
  peer_or_none false = refl

  -- ---- establish

  abbrev Begins : Bool → Type 0
  Begins b = begins_keyed ((whole_streams plan w).op line stream) w.links.draws verdict ≡ b

  -- whether the stream has the next draw, and what the manager was told of it
  record IsEstablished : Type 0 where
    began : Bool
    begins : Begins began
    keyed : is_link_line line ≡ true
        → new.keeper.interfaces ≡ keyed_if began line stream w.links.draws old.keeper.interfaces
    untold : is_link_line line ≡ false → new.keeper.interfaces ≡ old.keeper.interfaces
    drawn : new.keeper.peer_draws
        ≡ (if nat_le 24 line && began then slice_set old.keeper.peer_draws (peer_of line) w.links.draws
        else old.keeper.peer_draws)
    named : began ≡ true → (p : ℕ) (q : PeerPlan) → slice_get plan.peers p ≡ Some q → (line == peer_line p) ≡ true
        → (stream == q.id) ≡ true

  no_set : {A : Type 0} (a : Bool) (m n : A) → n ≡ (if a && false then m else n)
  no_set true m n = refl
  no_set false m n = refl

  establish_told : BesideOperation op.Establish line stream verdict old new → Steps (event.Establish line stream loss)
      → IsEstablished
  establish_told sides is = ⊎_elim
      (λ none.
      let nothing = establish_nothing plan (beside_of plan w) w.links (links_state plan new) line stream loss verdict
      (found_nowhere plan old new w verdict both op.Establish line stream sides none) is in
      record {
        began = false;
        begins = ap (begins_keyed ((whole_streams plan w).op line stream) w.links.draws) nothing ∙ and_never _;
        keyed = λ here. (sides.unnamed none).0;
        untold = λ far. (sides.unnamed none).0;
        drawn = (sides.unnamed none).1 ∙ no_set (nat_le 24 line) _ old.keeper.peer_draws;
        named = λ no. absurd (true≢false (sym no));
      })
      (λ n.
      let found = found_here plan old new w verdict both op.Establish line stream sides n in
      let finished = establish_done plan (beside_of plan w) w.links (links_state plan new) line stream loss
      n.it.stream.op verdict found is in
      let told = told_here plan old new w verdict both op.Establish line stream sides n in
      record {
        began = not ((links_state plan new).draws == w.links.draws);
        begins = ap (λ (q : Option StreamStage). begins_keyed (op_or_idle q) w.links.draws verdict) found
            ∙ sym (drew_is plan w.links (links_state plan new) line stream n.it.stream.op verdict finished);
        keyed = λ here. told ∙ told_link op.Establish n.it.stream.op w.links.draws (links_state plan new).draws here;
        untold = λ far. told ∙ told_far op.Establish n.it.stream.op w.links.draws (links_state plan new).draws far
            ∙ peer_or_none (nat_le 24 line);
        drawn = drawn_here plan old new w verdict both op.Establish line stream sides n;
        named = λ began p q at here. this_id n.it.stream.op p q at here found;
      })
      (name_cases old.keeper.keys.manager old.ends line stream)
    where
      this_id : (o : StreamStage) (p : ℕ) (q : PeerPlan) → slice_get plan.peers p ≡ Some q → (line == peer_line p)
          ≡ true → find_op plan w.links line stream ≡ Some o → (stream == q.id) ≡ true
      this_id o p q at here found = peer_stream_id plan w.links p stream q o at
          (ap (λ (n : ℕ). find_op plan w.links n stream) (sym (same_number line (peer_line p) here)) ∙ found)

  establish_of_link : (e : IsEstablished) → is_link_line line ≡ true
      → BesideOperation op.Establish line stream verdict old new → IsAfter (event.Establish line stream loss)
  establish_of_link e here sides =
      operated_beside plan old new w verdict both op.Establish line stream sides (event.Establish line stream loss)
      (λ h. if e.began then keyed_by line stream w.links.draws h else h) refl refl
      (told_same old.keeper.interfaces _ new.keeper.interfaces _ (e.keyed here)
      (told_if e.began (keyed_by line stream w.links.draws) old.keeper.interfaces))
      (λ x h g few is.
      let bound = is_bound_there line stream (w.draw x.link x.plan.stream) x h g is in
      subst (λ (c : Bool). IsManaged
      (if (line == x.link) && (stream == x.plan.stream)
      && begins_keyed ((whole_streams plan w).op line stream) w.links.draws verdict
      then w.links.draws else w.draw x.link x.plan.stream) x
      (if e.began then (if c then record h { draw = w.links.draws } else h) else h) g) (sym bound)
      (subst (λ (c : Bool). IsManaged
      (if (line == x.link) && (stream == x.plan.stream) && c then w.links.draws else w.draw x.link x.plan.stream) x
      (if e.began then (if (line == x.link) && (stream == x.plan.stream) then record h { draw = w.links.draws } else h)
      else h) g) (sym e.begins)
      (keyed_managed e.began (line == x.link) (stream == x.plan.stream) w.links.draws (w.draw x.link x.plan.stream) x h
      g is)))

  pub establish_beside : BesideOperation op.Establish line stream verdict old new
      → Steps (event.Establish line stream loss) → IsAfter (event.Establish line stream loss)
  establish_beside sides is =
      let e = establish_told sides is in
      ⊎_elim (λ here. establish_of_link e here sides)
      (λ far. untold_beside plan old new w verdict both op.Establish line stream sides
      (event.Establish line stream loss) refl refl (e.untold far)
      (λ x g few. if_far (line == x.link) (stream == x.plan.stream)
      (begins_keyed ((whole_streams plan w).op line stream) w.links.draws verdict) w.links.draws
      (w.draw x.link x.plan.stream) (far_line line x.link far few))
      (λ x g few. refl))
      (cases_Bool (is_link_line line))

  -- a stream between devices that began has the draw
  pub establish_drawn : BesideOperation op.Establish line stream verdict old new
      → Steps (event.Establish line stream loss) → AreDrawn plan new.keeper.peer_draws
      (draw_after (whole_streams plan w).op w.links.draws (event.Establish line stream loss) verdict w.draw)
  establish_drawn sides is =
      let e = establish_told sides is in
      let before = both.whole.drawn in
      record {
        many = ap (λ (ns : List ℕ). length ns) e.drawn ∙ many_set (nat_le 24 line && e.began) ∙ before.many;
        each = λ p q at.
            ap (λ (ns : List ℕ). slice_index_or ns p 0) e.drawn
            ∙ one_drawn old.keeper.peer_draws line stream w.links.draws (w.draw (peer_line p) q.id) p q.id e.began
            (omega (arith, slice_get_within plan.peers p q at, both.links.fits.peers_most, before.many))
            (before.each p q at)
            (λ began late here. e.named began p q at here)
            ∙ (λ i. if (line == peer_line p) && (stream == q.id) && sym e.begins i then w.links.draws
            else w.draw (peer_line p) q.id);
      }
    where
      many_set : (b : Bool) → length (if b then slice_set old.keeper.peer_draws (peer_of line) w.links.draws
          else old.keeper.peer_draws) ≡ length old.keeper.peer_draws
      many_set true = length-set old.keeper.peer_draws (peer_of line) w.links.draws
      many_set false = refl

  -- ---- refresh

  -- the stream of a link has the draw of the refresh that ended
  refresh_told : (q : StreamStage) (before after : ℕ) (u : Verdict) → verdict ≡ u
      → BesideOperation op.Refresh line stream verdict old new
      → new.keeper.interfaces ≡ told_by_link op.Refresh line stream q before after u old.keeper.interfaces
      → IsAfter (event.Refresh line stream loss)
  refresh_told q before after (v.Refreshed a b j) same sides told =
      operated_beside plan old new w verdict both op.Refresh line stream sides (event.Refresh line stream loss)
      (λ h. if true then keyed_by line stream j h else h) refl refl
      (told_same old.keeper.interfaces _ new.keeper.interfaces _ told
      (told_if true (keyed_by line stream j) old.keeper.interfaces))
      (λ x h g few is.
      let bound = is_bound_there line stream (w.draw x.link x.plan.stream) x h g is in
      subst (λ (u : Verdict). IsManaged (draw_after (whole_streams plan w).op w.links.draws
      (event.Refresh line stream loss) u w.draw x.link x.plan.stream) x (keyed_by line stream j h) g) (sym same)
      (subst (λ (c : Bool). IsManaged
      (if (line == x.link) && (stream == x.plan.stream) then j else w.draw x.link x.plan.stream) x
      (if c then record h { draw = j } else h) g) (sym bound)
      (set_managed ((line == x.link) && (stream == x.plan.stream)) j (w.draw x.link x.plan.stream) x h g is)))
  refresh_told q before after u same sides told =
      untold_beside plan old new w verdict both op.Refresh line stream sides (event.Refresh line stream loss) refl refl
      told
      (λ x g few. ap (λ (t : Verdict). draw_after (whole_streams plan w).op w.links.draws
      (event.Refresh line stream loss) t w.draw x.link x.plan.stream) same)
      (λ x g few. refl)

  -- on another line than that of a link it tells nothing
  refresh_far : BesideOperation op.Refresh line stream verdict old new → is_link_line line ≡ false
      → new.keeper.interfaces ≡ old.keeper.interfaces
  refresh_far sides far = ⊎_elim (λ none. (sides.unnamed none).0)
      (λ n. told_here plan old new w verdict both op.Refresh line stream sides n
      ∙ told_far op.Refresh n.it.stream.op w.links.draws (links_state plan new).draws far
      ∙ peer_or_none (nat_le 24 line))
      (name_cases old.keeper.keys.manager old.ends line stream)

  refresh_of_link : BesideOperation op.Refresh line stream verdict old new → is_link_line line ≡ true
      → Steps (event.Refresh line stream loss) → IsAfter (event.Refresh line stream loss)
  refresh_of_link sides here is = ⊎_elim
      (λ none.
      refresh_told Idle 0 0 v.Nothing
      (refresh_nothing plan (beside_of plan w) w.links (links_state plan new) line stream loss verdict
      (found_nowhere plan old new w verdict both op.Refresh line stream sides none) is) sides (sides.unnamed none).0)
      (λ n. refresh_told n.it.stream.op w.links.draws (links_state plan new).draws verdict refl sides
      (told_here plan old new w verdict both op.Refresh line stream sides n
      ∙ told_link op.Refresh n.it.stream.op w.links.draws (links_state plan new).draws here))
      (name_cases old.keeper.keys.manager old.ends line stream)

  pub refresh_beside : BesideOperation op.Refresh line stream verdict old new → Steps (event.Refresh line stream loss)
      → IsAfter (event.Refresh line stream loss)
  refresh_beside sides is = ⊎_elim (λ here. refresh_of_link sides here is)
      (λ far. refresh_told Idle 0 0 v.Nothing
      (none_refreshed plan (beside_of plan w) w.links (links_state plan new) line stream loss verdict far is) sides
      (refresh_far sides far))
      (cases_Bool (is_link_line line))

  -- no stream between devices has another draw
  refresh_elsewhere : (u : Verdict) (p id : ℕ) → nat_le 24 line ≡ false
      → draw_after (whole_streams plan w).op w.links.draws (event.Refresh line stream loss) u w.draw (peer_line p) id
      ≡ w.draw (peer_line p) id
  refresh_elsewhere (v.Refreshed a b j) p id early = two_far (line == peer_line p) (early_line line p early)
    where
      two_far : (c : Bool) → c ≡ false
          → (if c && (stream == id) then j else w.draw (peer_line p) id) ≡ w.draw (peer_line p) id
      two_far c far = rw far refl
  refresh_elsewhere u p id early = refl

  refresh_draws : Steps (event.Refresh line stream loss) → (p id : ℕ)
      → draw_after (whole_streams plan w).op w.links.draws (event.Refresh line stream loss) verdict w.draw
      (peer_line p) id ≡ w.draw (peer_line p) id
  refresh_draws is p id = ⊎_elim (λ here. refresh_elsewhere verdict p id (link_early line here))
      (λ far. ap (λ (u : Verdict). draw_after (whole_streams plan w).op w.links.draws
      (event.Refresh line stream loss) u w.draw (peer_line p) id)
      (none_refreshed plan (beside_of plan w) w.links (links_state plan new) line stream loss verdict far is))
      (cases_Bool (is_link_line line))

  pub refresh_drawn : BesideOperation op.Refresh line stream verdict old new → Steps (event.Refresh line stream loss)
      → AreDrawn plan new.keeper.peer_draws (draw_after (whole_streams plan w).op w.links.draws
      (event.Refresh line stream loss) verdict w.draw)
  refresh_drawn sides is =
      let same : new.keeper.peer_draws ≡ old.keeper.peer_draws = ⊎_elim (λ none. (sides.unnamed none).1)
      (λ n. drawn_here plan old new w verdict both op.Refresh line stream sides n)
      (name_cases old.keeper.keys.manager old.ends line stream) in
      let before = both.whole.drawn in
      record {
        many = ap (λ (ns : List ℕ). length ns) same ∙ before.many;
        each = λ p q at. ap (λ (ns : List ℕ). slice_index_or ns p 0) same ∙ before.each p q at
            ∙ sym (refresh_draws is p q.id);
      }

  -- ---- stop

  stop_of_link : (b : Bool) → BesideOperation op.Stop line stream verdict old new → new.keeper.interfaces
      ≡ stopped_if b line stream old.keeper.interfaces → stop_begins ((whole_streams plan w).op line stream)
      w.links.draws verdict ≡ b → nat_le 24 line ≡ false → IsAfter (event.Stop line stream loss)
  stop_of_link b sides told begins early =
      operated_beside plan old new w verdict both op.Stop line stream sides (event.Stop line stream loss)
      (λ h. if b then left_by_stop line stream h else h) refl refl
      (told_same old.keeper.interfaces _ new.keeper.interfaces _ told
      (told_if b (left_by_stop line stream) old.keeper.interfaces))
      (λ x h g few is.
      let bound = is_bound_there line stream (w.draw x.link x.plan.stream) x h g is in
      subst (IsManaged (w.draw x.link x.plan.stream) x (if b then left_by_stop line stream h else h))
      (sym (link_stop (whole_streams plan w).op w.links.draws x line stream loss verdict g early))
      (subst (λ (c : Bool). IsManaged (w.draw x.link x.plan.stream) x
      (if b then (if c then record h { seen = broken_view h.seen } else h) else h)
      (if (line == x.link) && (stream == x.plan.stream)
      && stop_begins ((whole_streams plan w).op line stream) w.links.draws verdict
      then record g { view = view_broken g.view } else g)) (sym bound)
      (subst (λ (c : Bool). IsManaged (w.draw x.link x.plan.stream) x
      (if b then (if (line == x.link) && (stream == x.plan.stream) then record h { seen = broken_view h.seen } else h)
      else h)
      (if (line == x.link) && (stream == x.plan.stream) && c then record g { view = view_broken g.view } else g))
      (sym begins)
      (stopped_managed b (line == x.link) (stream == x.plan.stream) (w.draw x.link x.plan.stream) x h g is))))

  -- of a stream between devices
  stop_of_peer : BesideOperation op.Stop line stream verdict old new → is_link_line line ≡ false → nat_le 24 line ≡ true
      → is_some (reach_of op.Stop verdict) ≡ true
      → new.keeper.interfaces ≡ peer_stop (peer_of line) old.keeper.interfaces → IsAfter (event.Stop line stream loss)
  stop_of_peer sides far late reaches told =
      operated_beside plan old new w verdict both op.Stop line stream sides (event.Stop line stream loss)
      (left_by_peer_stop (peer_of line)) refl refl
      (told_same old.keeper.interfaces _ new.keeper.interfaces _ told
      (told_if true (left_by_peer_stop (peer_of line)) old.keeper.interfaces))
      (λ x h g few is. subst (IsManaged (w.draw x.link x.plan.stream) x (left_by_peer_stop (peer_of line) h))
      (sym (peer_stop_breaks (whole_streams plan w).op w.links.draws x line stream loss verdict g late
      (far_line line x.link far few) reaches))
      (peer_stopped (peer_of line) (w.draw x.link x.plan.stream) x h g is))

  if_late : (b : Bool) → b ≡ true
      → (if b then told_by_peer op.Stop line old.keeper.interfaces else old.keeper.interfaces)
      ≡ peer_stop (peer_of line) old.keeper.interfaces
  if_late b late = rw late refl

  if_early : (b : Bool) → b ≡ false
      → (if b then told_by_peer op.Stop line old.keeper.interfaces else old.keeper.interfaces) ≡ old.keeper.interfaces
  if_early b early = rw early refl

  -- of a stream that is not there
  stop_nowhere : BesideOperation op.Stop line stream verdict old new
      → stream_named old.keeper.keys.manager old.ends line stream ≡ None → Steps (event.Stop line stream loss)
      → IsAfter (event.Stop line stream loss)
  stop_nowhere sides none is =
      let nothing = stop_nothing plan (beside_of plan w) w.links (links_state plan new) line stream loss verdict
      (found_nowhere plan old new w verdict both op.Stop line stream sides none) is in
      untold_beside plan old new w verdict both op.Stop line stream sides (event.Stop line stream loss) refl refl
      (sides.unnamed none).0 (λ x g few. refl)
      (λ x g few. none_breaks (whole_streams plan w).op w.links.draws x line stream loss verdict g
      (ap (λ (u : Verdict). is_some (reach_of op.Stop u)) nothing))

  stop_here : BesideOperation op.Stop line stream verdict old new → IsNamed old.keeper.keys.manager old.ends line stream
      → Steps (event.Stop line stream loss) → IsAfter (event.Stop line stream loss)
  stop_here sides n is =
      let found = found_here plan old new w verdict both op.Stop line stream sides n in
      let q = n.it.stream.op in
      let said = stop_verdict plan (beside_of plan w) w.links (links_state plan new) line stream loss q verdict found is
      in
      let reaches : is_some (reach_of op.Stop verdict) ≡ true =
      ap (λ (u : Verdict). is_some (reach_of op.Stop u)) said
      ∙ stop_reaches q w.links.draws (ports_of plan w.links) line stream loss in
      let told = told_here plan old new w verdict both op.Stop line stream sides n in
      let draws = (links_state plan new).draws in
      ⊎_elim
      (λ here. stop_of_link (work_of op.Stop q 0).begins sides (told ∙ told_link op.Stop q w.links.draws draws here)
      (ap (λ (r : Option StreamStage). stop_begins (op_or_idle r) w.links.draws verdict) found
      ∙ (and_always (work_of op.Stop q w.links.draws).begins (is_some (reach_of op.Stop verdict)) reaches
      ∙ begins_stop q w.links.draws 0)) (link_early line here))
      (λ far. ⊎_elim
      (λ late. stop_of_peer sides far late reaches
      (told ∙ told_far op.Stop q w.links.draws draws far ∙ if_late (nat_le 24 line) late))
      (λ early.
      untold_beside plan old new w verdict both op.Stop line stream sides (event.Stop line stream loss) refl refl
      (told ∙ told_far op.Stop q w.links.draws draws far ∙ if_early (nat_le 24 line) early) (λ x g few. refl)
      (λ x g few. link_stop (whole_streams plan w).op w.links.draws x line stream loss verdict g early
      ∙ if_far (line == x.link) (stream == x.plan.stream) _ _ g (far_line line x.link far few)))
      (cases_Bool (nat_le 24 line)))
      (cases_Bool (is_link_line line))

  pub stop_beside : BesideOperation op.Stop line stream verdict old new → Steps (event.Stop line stream loss)
      → IsAfter (event.Stop line stream loss)
  stop_beside sides is = ⊎_elim (λ none. stop_nowhere sides none is) (λ n. stop_here sides n is)
      (name_cases old.keeper.keys.manager old.ends line stream)

  pub stop_drawn : BesideOperation op.Stop line stream verdict old new → AreDrawn plan new.keeper.peer_draws w.draw
  stop_drawn sides = subst (λ (ns : List ℕ). AreDrawn plan ns w.draw)
      (sym (⊎_elim (λ none. (sides.unnamed none).1)
      (λ n. drawn_here plan old new w verdict both op.Stop line stream sides n)
      (name_cases old.keeper.keys.manager old.ends line stream))) both.whole.drawn
