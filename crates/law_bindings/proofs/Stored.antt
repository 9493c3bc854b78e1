-- Each key serves one lock of what is stored with T in the memory of an interface: the later of two such writes is from
-- the floor on, so the interface was in no other RUN since the draw of the earlier one was made.
use Rattle.law_sealing.proofs.Terms.{◌≡◌, inl, inr, [], ◌∷◌, ◌++◌}
use Rattle.law_sealing.proofs.Terms.{Some, refl, sym, ◌∙◌, arith, append_assoc, Plan}
use Rattle.law_sealing.proofs.Terms.{History, Accepted, CauseLaw, received_in}
use Rattle.ide_types.specs.Fits.{FitsPlan}
use Rattle.interface_state.specs.Machine.{own_binding, bound_link_stream}
use Rattle.spec_keys.specs.Operations.{Begun}
use Rattle.spec_keys.specs.History.{begun_of_draw, manager}
use Rattle.spec_keys.proofs.Owners.{owner}
use Rattle.law_key_facts.proofs.Given.{accepted_on}
use Rattle.law_key_facts.proofs.SealedKeys.{on_is_owned}
use Rattle.spec_interfaces.specs.Sites.{Site, site_at}
use Rattle.spec_interfaces.specs.Devices.{interface_at, locks_accepted}
use Rattle.spec_interfaces.specs.Floors.{device_floor}
use Rattle.law_memory.specs.Origin.{CameFrom}
use Rattle.law_locks.proofs.OneLock.{fronts}
use Rattle.law_memory.proofs.Found.{cause_at}
use Rattle.law_bytes.specs.NoOtherRun.{IsInNoOtherRun}
use Rattle.law_bytes.proofs.Taken.{IsTaken, is_taken}
use Rattle.law_bytes.proofs.NoOtherRun.{no_other_run, no_other_since}
use Rattle.law_bytes.proofs.BindFloors.{bound_floor}
use Rattle.law_bindings.specs.OneLock.{StoredTrusted, OneLockPerStoredKey}
use Rattle.law_memory.proofs.Floors.{both_floors, own_floor}
use Rattle.law_locks.proofs.AllLaws.{own_number}
use Rattle.law_key_facts.proofs.Seats.{on_key}

-- ---- the one before the other

pub here : (g : History) → CameFrom g g
here g = record { since = []; is = refl }

module _ (plan : Plan) (fits : FitsPlan plan) (h : History) (cause : CauseLaw plan h) (x : Site)
    (known : site_at plan x.number ≡ Some x) where
  at_pair : (a : StoredTrusted plan h x) → CauseLaw plan ((a.event, Accepted a.port a.unit a.effects) ∷ a.older)
  at_pair a = cause_at plan a.since ((a.event, Accepted a.port a.unit a.effects) ∷ a.older) h a.came cause

  taken_at : (a : StoredTrusted plan h x) → IsTaken plan a.older x a.port a.unit a.packet
  taken_at a = is_taken plan a.older a.event a.port a.unit a.effects x a.bar a.number a.write a.packet (at_pair a).0
      known a.stored a.stands a.has_t

  made_at : (a : StoredTrusted plan h x) → (b : Begun) × (begun_of_draw (manager a.older).begun a.unit.draw ≡ Some b)
  made_at a =
      let on = accepted_on plan a.older a.event a.port a.unit a.effects (at_pair a).0 in
      let s = received_in a.port a.unit in (
        owner s.line s.stream on.0,
        on_is_owned a.older a.port s on.0 a.unit.draw (on_key _ a.unit.draw on.1),
      )

  -- since its draw was made the interface was in no other RUN than when a later one came under it
  none_since : (a b : StoredTrusted plan h x) → a.unit.draw ≡ b.unit.draw → IsInNoOtherRun plan a.older b.older x
  none_since a b same =
      let taken = taken_at b in
      let made = made_at a in
      let law = (at_pair b).1 in
      elim (both_floors b.unit.stream taken.floor
      (own_binding (device_floor plan b.older x) (bound_link_stream (interface_at plan b.older x).state))
      (interface_at plan b.older x).bindings taken.bound) [
        | inl own ↦
            let is = (own_floor b.unit.stream taken.floor (device_floor plan b.older x) _ own).1 in
            no_other_run plan fits b.older law x known taken.runs a.older a.unit.draw made.0 made.1
            (omega (arith, is, taken.from_floor, same))
        | inr bound ↦
            let first = bound_floor plan b.older law x known b.unit.stream taken.floor bound in
            no_other_since plan b.older law x known first.older first.came first.same_lock a.older a.unit.draw made.0
            made.1 (omega (arith, first.needs, taken.from_floor, same))
      ]

  earlier : (a b : StoredTrusted plan h x) → a.unit.draw ≡ b.unit.draw → (since : History) → since ++ a.older ≡ b.older
      → locks_accepted plan a.older x ≡ locks_accepted plan b.older x
  earlier a b same since is =
      none_since a b same a.older (here a.older) (record { since = since; is = is }) (taken_at a).runs

  one_lock_stored : (a b : StoredTrusted plan h x) → a.unit.draw ≡ b.unit.draw
      → locks_accepted plan a.older x ≡ locks_accepted plan b.older x
  one_lock_stored a b same =
      elim (fronts (a.since ++ (a.event, Accepted a.port a.unit a.effects) ∷ [])
      (b.since ++ (b.event, Accepted b.port b.unit b.effects) ∷ []) a.older b.older
      (append_assoc a.since _ a.older ∙ (a.came ∙ (sym b.came ∙ sym (append_assoc b.since _ b.older))))) [
        | inl s ↦ sym (earlier b a (sym same) s.0 s.1)
        | inr s ↦ earlier a b same s.0 s.1
      ]

pub one_lock_per_stored_key : (plan : Plan) → FitsPlan plan → (h : History) → CauseLaw plan h
    → OneLockPerStoredKey plan h
one_lock_per_stored_key plan fits h cause i x at a b same =
    one_lock_stored plan fits h cause x (own_number plan i x at) a b same
