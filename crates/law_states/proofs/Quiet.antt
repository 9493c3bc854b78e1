-- At an event on an interface no stream leaves Secure.
use Rattle.std.proofs.Common.{◌≡◌, ℕ, ◌&&◌, ◌||◌, ◌∷◌, Bool, true, false, not, List, [], refl}
use Rattle.std.specs.Prelude.{is_some, Option}
use Rattle.ide_types.specs.declared.port.Side.TheVariants.{Device}
use Rattle.ide_types.specs.declared.binding.Binding.{Binding}
use Rattle.spec_links.specs.Terms.{Plan, InterfaceEvent, Verdict, History}
unfoldable use Rattle.spec_links.specs.Due.{due}
use Rattle.spec_interfaces.specs.Sites.{Site}
use Rattle.spec_interfaces.specs.Peers.{live_at, live_by_id, any_leaves, peer_end}
use Rattle.spec_interfaces.specs.Devices.{has_secure_stream, is_stream_left}
use Rattle.interface_state.specs.Machine.{DeviceTdi}
use Rattle.law_mmio.proofs.Secure.{interface_leaves_secure}
use Rattle.law_locks.proofs.SecurePeers.{still_live}
use Rattle.script_events.specs.declared.event.Event.TheVariants as event

not_left : (a b : Bool) → (a ≡ true → b ≡ true) → (a && not b) ≡ false
not_left true b is = rw (is refl) refl
not_left false b is = refl

none_of : (before after : ℕ → Option ℕ) (bs : List Binding)
    → ((s : ℕ) → is_some (before s) ≡ true → is_some (after s) ≡ true) → any_leaves before after bs ≡ false
none_of before after [] still = refl
none_of before after (b ∷ bs) still =
    rw (not_left (is_some (before b.stream)) (is_some (after b.stream)) (still b.stream))
    (none_of before after bs still)

none_or : (a b : Bool) → a ≡ false → b ≡ false → (a || b) ≡ false
none_or a b one two = rw (one, two) refl

pub none_left : (plan : Plan) (h : History) (e : InterfaceEvent) (w : Verdict) (x : Site) (t : DeviceTdi)
    → w ≡ due plan h (event.Interface e) → is_stream_left plan h (event.Interface e) w x t ≡ false
none_left plan h e w x t is =
    none_or _ _
    (not_left (has_secure_stream h x) (has_secure_stream ((event.Interface e, w) ∷ h) x)
    (interface_leaves_secure plan h e w Device x.link x.plan.stream is))
    (none_of (live_by_id (live_at h) plan.peers x.link)
    (live_by_id (live_at ((event.Interface e, w) ∷ h)) plan.peers x.link)
    t.bindings
    (λ s. still_live plan h e w s (peer_end plan.peers 0 x.link s) is))
