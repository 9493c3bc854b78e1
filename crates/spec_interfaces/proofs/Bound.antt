-- An interface is bound to streams between devices in CONFIG_LOCKED and RUN alone.
use Rattle.std.proofs.Common.{◌≡◌, ℕ, ◌&&◌, ◌⊎◌, inl, inr, Bool, true, false, List, [], Option, Some, None, refl, sym}
use Rattle.std.proofs.Common.{ap, ◌∙◌, if◌then◌else◌, arith}
use Rattle.std.proofs.lemmas.Bool.{cases_Bool, true≢false}
use Rattle.spec_interfaces.specs.Terms.{Plan, History, Binding, TdiState, ConfigUnlocked, ConfigLocked, Run, Error}
use Rattle.spec_interfaces.specs.Terms.{binds, state_code}
use Rattle.interface_state.specs.Machine.{is_locked}
use Rattle.spec_interfaces.specs.Sites.{Site}
use Rattle.spec_interfaces.specs.Devices.{interface_at, runs_at, is_bound_at, peer_t}
use Rattle.spec_interfaces.specs.Cause.{owner_read}
use Rattle.tlp_layout.specs.Reading.{read_of}
use Rattle.spec_interfaces.specs.Laws.{BindLawHolds, OwnerIsBound, PeerSealsBound}
use Rattle.spec_interfaces.proofs.Locks.{bound_at}

code_of : (s : TdiState) → is_locked s ≡ true → (state_code s ≡ 1) ⊎ (state_code s ≡ 2)
code_of (ConfigLocked lock nonce) is = inl refl
code_of (Run lock) is = inr refl
code_of ConfigUnlocked is = absurd cc
code_of Error is = absurd cc

none_binds : (stream : ℕ) (bs : List Binding) → bs ≡ [] → binds stream bs ≡ true → ⊥
none_binds stream bs none is = true≢false (sym is ∙ ap (λ (b : List Binding). binds stream b) none)

-- ---- T on a stream between devices

both : (p q : Bool) → (p && q) ≡ true → (p ≡ true) × (q ≡ true)
both true q e = (refl, e)
both false q e = absurd cc

unsynced : (sync t : Bool) → (if sync then false else t) ≡ true → t ≡ true
unsynced sync t e = grind arith

owner_bound : (plan : Plan) (h : History) (link stream : ℕ) (bytes : List ℕ) (o : Option Site)
    → owner_read plan link (read_of bytes) ≡ o → peer_t plan h o stream ≡ true → OwnerIsBound plan h link stream bytes
owner_bound plan h link stream bytes None is e = absurd cc
owner_bound plan h link stream bytes (Some x) is e =
    let parts = both (runs_at plan h x) (is_bound_at plan h x stream) e in
    record { interface = x; owns = is; runs = parts.0; bound = parts.1 }

pub peer_seals_bound : PeerSealsBound
peer_seals_bound plan h link bytes d fits has = owner_bound plan h link d.stream bytes
    (owner_read plan link (read_of bytes)) refl (unsynced d.sync _ (sym fits ∙ has))

-- ---- the law

pub bind_law : BindLawHolds
bind_law plan h x stream is = by (cases_Bool (is_locked (interface_at plan h x).state))
  where
    by : (is_locked (interface_at plan h x).state ≡ true) ⊎ (is_locked (interface_at plan h x).state ≡ false)
        → (state_code (interface_at plan h x).state ≡ 1) ⊎ (state_code (interface_at plan h x).state ≡ 2)
    by (inl locked) = code_of (interface_at plan h x).state locked
    by (inr rests) = absurd (none_binds stream (interface_at plan h x).bindings ((bound_at plan h x).locked rests) is)
