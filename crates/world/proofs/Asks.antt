-- An operation of the manager on an interface changes that one alone, as the machine does: exchange by exchange it is
-- the machine's step, with what the ends show of the streams that it names (`joined_is`). If no interface has the
-- number, or its device has no such stream, none is asked.
use Rattle.std.proofs.Common.{◌≡◌, ℕ, ◌≤◌, List, length, refl, ap, sym, ◌∙◌, ◌+◌, subst, Option, Some, ⊎_elim, Bool}
use Rattle.std.proofs.Common.{true, false}
use Rattle.std.specs.Prelude.{slice_get, slice_set, if◌then◌else◌, ◌<◌}
use Rattle.std.proofs.lemmas.Bool.{cases_Bool, cases_lt}
use Rattle.ide_types.specs.declared.plan.Plan.{Plan}
use Rattle.ide_types.specs.declared.plan.PeerPlan.{PeerPlan}
use Rattle.script_events.specs.declared.event.Event.TheVariants as event
use Rattle.script_events.specs.declared.event.InterfaceEvent.{InterfaceEvent}
use Rattle.script_events.specs.declared.event.InterfaceEvent.TheVariants as ie
use Rattle.script_events.specs.declared.event.Loss.{Loss}
use Rattle.event_verdicts.specs.declared.verdict.Verdict.{Verdict}
use Rattle.event_verdicts.specs.declared.verdict.Verdict.TheVariants as v
use Rattle.spec_interfaces.specs.Peers.{has_peer}
use Rattle.spec_interfaces.specs.Sites.{Site, sites}
use Rattle.spec_interfaces.specs.Views.{number_in}
use Rattle.spec_interfaces.specs.Devices.{accepts_lock, one_if}
use Rattle.machine_whole.specs.Interfaces.{around_of, next_face}
use Rattle.interface_host.specs.declared.operation.InterfaceOperation.{InterfaceOperation}
use Rattle.interface_host.specs.declared.operation.InterfaceOperation.TheVariants as op
use Rattle.interface_ends.specs.Replies.{DeviceTdis}
use Rattle.machine_ports.specs.Machine.{Stepped, step_of}
use Rattle.join_interfaces.specs.Faces.{IsFace}
use Rattle.join_interfaces.specs.Joined.{InterfaceOperationsJoin}
use Rattle.join_interfaces.specs.Verdicts.{op_event}
use Rattle.join_accesses.specs.{EndsView, has_peer_if_there, has_peer_in, InterfacesView, Links, links_state}
use Rattle.join_accesses.specs.{managed_peer_stream, BesideAsking, BesideBinding, IsPlaced, IsBeside}
use Rattle.machine_whole.specs.Machine.{Whole, ends_in, whole_streams, beside_of, whole_after}
use Rattle.join_accesses.proofs.{PeerFits, joined_is, peer_fits, get_there, interface_there, interface_absent, AreBoth}
use Rattle.join_accesses.proofs.{interface_step, unasked_beside, is_of_peer}
use Rattle.world.proofs.Calls.{IsOne, there_beside, nowhere_beside, answer_there}

op_number : (o : InterfaceOperation) (i : ℕ) (loss : Option Loss) → number_in (op_event o i loss) ≡ Some i
op_number op.Lock i loss = refl
op_number op.Report i loss = refl
op_number op.Start i loss = refl
op_number op.Halt i loss = refl
op_number op.State i loss = refl
op_number (op.Bind peer) i loss = refl
op_number (op.Unbind peer) i loss = refl

module _ (plan : Plan) (old new : Links) (w : Whole) (verdict : Verdict) (both : AreBoth plan old new w)
    (join : InterfaceOperationsJoin) where
  -- of a stream between devices that the operation names, all is as the machine has it
  abbrev Fits : Site → InterfaceOperation → Type 0
  Fits x o = PeerFits plan old.ends old.keeper old.packets.packets old.trusted.contents w join both.links
      both.whole.beside both.whole.drawn both.whole.links x o

  abbrev IsAsked : InterfaceEvent → Type 0
  IsAsked e =
      ◌≡◌ {A = Stepped} (verdict, links_state plan new) (step_of plan (beside_of plan w) w.links (event.Interface e))
      → IsBeside plan new.ends.links new.keeper.interfaces new.trusted.contents
      (whole_after plan w (event.Interface e) verdict (links_state plan new))

  asked_there : (i : ℕ) (x : Site) (o : InterfaceOperation) (loss : Option Loss) → BesideAsking i o loss old new
      → slice_get (sites plan) i ≡ Some x → Fits x o → verdict ≡ (beside_of plan w).answer (op_event o i loss)
      → (p : IsPlaced plan old.ends.links old.keeper.interfaces w i x)
      → IsOne plan old.ends.links old.keeper.interfaces w i x p (op_event o i loss) verdict new.ends.links
      new.keeper.interfaces
  asked_there i x o loss sides at fits verdict_is p =
      let j = joined_is plan old.ends old.keeper old.packets.packets old.trusted.contents w join both.links
      both.whole.beside both.whole.drawn both.whole.links i o loss x p at fits in
      let due = verdict_is ∙ answer_there plan w (op_event o i loss) i x p.face (op_number o i loss) at p.face_is in
      let same : j.verdict ≡ verdict = j.verdict_is ∙ sym due in
      let ended = sides.asked (x.link, p.place) p.link_ends p.interface
      (interface_there plan old.ends.links old.keeper.interfaces old.trusted.contents w i x p both.whole.beside
      both.links.fits at)
      p.ends_are p.interface_is in
      record {
        tdi = j.tdi;
        interface = j.interface;
        portion = ap (λ (m : InterfacesView). m.portion) ended.0 ∙ j.portion_is;
        manager = ap (λ (m : InterfacesView). m.interfaces) ended.0 ∙ j.manager_is;
        ends_are = ap (λ (e : EndsView). e.links) ended.1 ∙ ap (λ (d : DeviceTdis). slice_set old.ends.links x.link
            (record p.link_ends { device = record p.link_ends.device { interfaces = d } }))
            (j.device_is ∙ (λ n. record {
              interfaces = slice_set p.link_ends.device.interfaces.interfaces p.place j.tdi;
              nonces = p.link_ends.device.interfaces.nonces;
              used = p.link_ends.device.interfaces.used + one_if
                  (accepts_lock (around_of plan (whole_streams plan w) w.faces.used x p.face) x
                  (event.Interface (op_event o i loss)) (same n) p.face.tdi);
            }));
        keeps = subst (λ (u : Verdict). IsFace (w.draw x.link x.plan.stream) x j.interface j.tdi
            (next_face plan (whole_streams plan w) (ends_in plan w.links) w.faces.used
            (event.Interface (op_event o i loss)) u x p.face)) same j.face;
      }

  -- the operation on an interface that is there
  there_asked : (i : ℕ) (x : Site) (o : InterfaceOperation) (loss : Option Loss) → BesideAsking i o loss old new
      → slice_get (sites plan) i ≡ Some x → Fits x o → IsAsked (op_event o i loss)
  there_asked i x o loss sides at fits is =
      let before = both.whole.beside in
      there_beside plan old new w (op_event o i loss) verdict i x at before (op_number o i loss) sides.contents
      (asked_there i x o loss sides at fits
      (interface_step plan w (links_state plan new) (op_event o i loss) verdict is).0 (before.placed i x at)) is

  pub asked_beside : (i : ℕ) (o : InterfaceOperation) (loss : Option Loss) → BesideAsking i o loss old new
      → ((x : Site) → slice_get (sites plan) i ≡ Some x → Fits x o) → IsAsked (op_event o i loss)
  asked_beside i o loss sides fits is =
      let before = both.whole.beside in
      ⊎_elim
      (λ lt. let x = get_there (sites plan) i lt in there_asked i x.0 o loss sides x.1 (fits x.0 x.1) is)
      (λ past. nowhere_beside plan old new w (op_event o i loss) verdict i both
      (sides.unnamed (interface_absent plan old.ends.links old.keeper.interfaces old.trusted.contents w i before past))
      (op_number o i loss) past is)
      (cases_lt i (length (sites plan)))

  -- ---- operations on streams between devices

  -- the device of an interface that is there has the stream exactly if the topology says so
  has_there : (i line stream : ℕ) (x : Site) → slice_get (sites plan) i ≡ Some x
      → has_peer_in old.keeper old.ends i line stream ≡ has_peer plan.peers x.link line stream
  has_there i line stream x at =
      let p = both.whole.beside.placed i x at in
      ap (has_peer_if_there old.ends line stream)
      (interface_there plan old.ends.links old.keeper.interfaces old.trusted.contents w i x p both.whole.beside
      both.links.fits at)
      ∙ ap (λ (ps : List PeerPlan). has_peer ps x.link line stream) both.links.peers_are

  has_nowhere : (i line stream : ℕ) → length (sites plan) ≤ i → has_peer_in old.keeper old.ends i line stream ≡ false
  has_nowhere i line stream past = ap (has_peer_if_there old.ends line stream)
      (interface_absent plan old.ends.links old.keeper.interfaces old.trusted.contents w i both.whole.beside past)

  -- an operation on a stream of this line
  record IsPeerOp (i line stream : ℕ) (loss : Option Loss) (o : InterfaceOperation) : Type 0 where
    number_is : number_in (op_event o i loss) ≡ Some i
    of_peer : is_of_peer (op_event o i loss) ≡ true
    fits : (x : Site) → has_peer plan.peers x.link line stream ≡ true → Fits x o
    few : (x : Site) → has_peer plan.peers x.link line stream ≡ true → stream < 256
    answers : (x : Site) → slice_get (sites plan) i ≡ Some x → has_peer plan.peers x.link line stream ≡ false
        → (beside_of plan w).answer (op_event o i loss) ≡ v.Nothing

  peer_beside : (i line stream : ℕ) (loss : Option Loss) (o : InterfaceOperation)
      → IsPeerOp i line stream loss o → BesideBinding i line stream o loss old new → IsAsked (op_event o i loss)
  peer_beside i line stream loss o c sides = ⊎_elim
      (λ lt.
      let x = get_there (sites plan) i lt in
      let has_is = has_there i line stream x.0 x.1 in
      ⊎_elim
      (λ has. there_asked i x.0 o loss (sides.asked (c.few x.0 has) (has_is ∙ has)) x.1 (c.fits x.0 has))
      (λ none is.
      unasked_beside plan old new w verdict (beside_of plan w) both (sides.absent (has_is ∙ none)) (op_event o i loss)
      c.of_peer ((interface_step plan w (links_state plan new) (op_event o i loss) verdict is).0 ∙ c.answers x.0 x.1
      none) is)
      (cases_Bool (has_peer plan.peers x.0.link line stream)))
      (λ past is. nowhere_beside plan old new w (op_event o i loss) verdict i both
      (sides.absent (has_nowhere i line stream past)) c.number_is past is)
      (cases_lt i (length (sites plan)))

  none_due : (b : Bool) (due : Verdict) → b ≡ false → (if b then due else v.Nothing) ≡ v.Nothing
  none_due b due none = rw none refl

  peers_fit : (x : Site) (line stream : ℕ) → has_peer plan.peers x.link line stream ≡ true
      → Fits x (op.Bind (managed_peer_stream old.keeper line stream))
      × Fits x (op.Unbind (managed_peer_stream old.keeper line stream))
  peers_fit = peer_fits plan old.ends old.keeper old.packets.packets old.trusted.contents w join both.links
      both.whole.beside both.whole.drawn both.whole.links

  pub bind_beside : (i line stream : ℕ) (loss : Option Loss) → BesideBinding i line stream
      (op.Bind (managed_peer_stream old.keeper line stream)) loss old new → IsAsked (ie.Bind i line stream loss)
  bind_beside i line stream loss =
      peer_beside i line stream loss (op.Bind (managed_peer_stream old.keeper line stream))
      (record {
        number_is = refl;
        of_peer = refl;
        fits = λ x has. (peers_fit x line stream has).0;
        few = λ x has. (peers_fit x line stream has).1.1;
        answers = λ x at none.
            let p = both.whole.beside.placed i x at in
            answer_there plan w (ie.Bind i line stream loss) i x p.face refl at p.face_is
            ∙ none_due (has_peer plan.peers x.link line stream) _ none;
      })

  pub unbind_beside : (i line stream : ℕ) (loss : Option Loss)
      → BesideBinding i line stream (op.Unbind (managed_peer_stream old.keeper line stream)) loss old new
      → IsAsked (ie.Unbind i line stream loss)
  unbind_beside i line stream loss =
      peer_beside i line stream loss (op.Unbind (managed_peer_stream old.keeper line stream))
      (record {
        number_is = refl;
        of_peer = refl;
        fits = λ x has. (peers_fit x line stream has).1;
        few = λ x has. (peers_fit x line stream has).1.1;
        answers = λ x at none.
            let p = both.whole.beside.placed i x at in
            answer_there plan w (ie.Unbind i line stream loss) i x p.face refl at p.face_is
            ∙ none_due (has_peer plan.peers x.link line stream) _ none;
      })
