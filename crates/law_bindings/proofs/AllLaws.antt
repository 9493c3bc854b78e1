-- The laws of bindings.
use Rattle.law_sealing.proofs.Terms.{◌≡◌, ℕ, true, Plan, History, CauseLaw, subst}
use Rattle.spec_interfaces.specs.Views.{managed_view, is_bind_asked}
use Rattle.ide_types.specs.Fits.{FitsPlan}
use Rattle.spec_interfaces.specs.Devices.{interface_at}
use Rattle.law_locks.proofs.Fronts.{at_each, pairs_due}
use Rattle.law_bindings.specs.Asked.{WereAsked, TellsBinding, BreaksViews}
use Rattle.law_bindings.specs.Keys.{AreBoundUnder, NoneIsStale}
use Rattle.law_bindings.specs.OneLock.{AllFitView}
use Rattle.law_bindings.specs.Statements.{BindingsAreAskedHolds, VerdictsTellHolds, StopsBreakViewsHolds}
use Rattle.law_bindings.specs.Statements.{BindingsHoldKeysHolds, TrustedOnAllStreamsHolds, OneLockPerPeerKeyHolds}
use Rattle.law_bindings.specs.Statements.{OneLockPerStoredKeyHolds, PeerOriginHolds, PeerStoreHolds}
use Rattle.law_bindings.specs.Statements.{PeersNeverStaleHolds}
use Rattle.law_bindings.specs.Asked.{AreBound}
use Rattle.law_bindings.specs.Statements.{BindingsLastHolds}
use Rattle.law_bindings.proofs.Lasts.{are_bound}
use Rattle.law_bindings.proofs.Stale.{none_is_stale}
use Rattle.law_bindings.proofs.OverPeers.{peer_origin_law as peers_origin, peer_store_law as peers_store}
use Rattle.law_bindings.proofs.Floors.{bound_under}
use Rattle.law_bindings.proofs.Sealed.{all_fit_view, one_lock_per_peer_key as one_lock_sealed}
use Rattle.law_bindings.proofs.Stored.{one_lock_per_stored_key as one_lock_stored}
use Rattle.law_bindings.proofs.Calls.{binds_has}
use Rattle.law_bindings.proofs.Asks.{came_of_bind}
use Rattle.law_bindings.proofs.Counted.{counted}
use Rattle.law_bindings.proofs.Tells.{tells_binding}
use Rattle.law_locks.proofs.AllLaws.{own_number}
use Rattle.law_bindings.proofs.Stops.{breaks_views}

was_asked : (plan : Plan) → FitsPlan plan → (h : History) → CauseLaw plan h → WereAsked plan h
was_asked plan fits h cause i x stream at is =
    let known = own_number plan i x at in
    let floor = binds_has stream (interface_at plan h x).bindings is in
    let from = came_of_bind plan h cause x known stream floor.0 floor.1 in
    record {
      line = from.line;
      loss = from.loss;
      verdict = from.verdict;
      older = from.older;
      since = from.since;
      came = from.came;
      reached = from.reached;
      same_lock = from.same_lock;
      flag = from.flag;
      peer = from.peer;
      line_is = from.line_is;
      not_unbound = from.not_unbound;
      counted = subst (λ (l : ℕ). is_bind_asked l (managed_view h x).asked ≡ true) from.line_is
          (counted plan fits h cause x known stream floor.0 floor.1 from.peer.end from.peer.at_device);
    }

pub bindings_are_asked : BindingsAreAskedHolds
bindings_are_asked plan fits h cause = at_each plan (WereAsked plan) (was_asked plan fits) h cause

pub bindings_last : BindingsLastHolds
bindings_last plan h cause = at_each plan (AreBound plan) (are_bound plan) h cause

pub verdicts_tell_bindings : VerdictsTellHolds
verdicts_tell_bindings plan h cause = pairs_due plan (TellsBinding plan) (tells_binding plan) h cause

pub stops_break_views : StopsBreakViewsHolds
stops_break_views plan fits h cause = pairs_due plan (BreaksViews plan) (breaks_views plan fits) h cause

pub bindings_hold_keys : BindingsHoldKeysHolds
bindings_hold_keys plan h cause = at_each plan (AreBoundUnder plan)
    (λ g c i x stream floor at has. bound_under plan g c x stream floor has) h cause

pub trusted_on_all_streams : TrustedOnAllStreamsHolds
trusted_on_all_streams plan fits h cause = at_each plan (AllFitView plan)
    (λ g c i x at a there. all_fit_view plan fits g c x (own_number plan i x at) a there) h cause

pub one_lock_per_peer_key : OneLockPerPeerKeyHolds
one_lock_per_peer_key plan fits h cause = one_lock_sealed plan fits h cause

pub one_lock_per_stored_key : OneLockPerStoredKeyHolds
one_lock_per_stored_key plan fits h cause = one_lock_stored plan fits h cause

pub peer_origin_law : PeerOriginHolds
peer_origin_law plan fits h cause = peers_origin plan fits h cause

pub peer_store_law : PeerStoreHolds
peer_store_law plan fits h cause = peers_store plan fits h cause

pub peers_are_never_stale : PeersNeverStaleHolds
peers_are_never_stale plan fits h cause = pairs_due plan (NoneIsStale plan) (none_is_stale plan fits) h cause
