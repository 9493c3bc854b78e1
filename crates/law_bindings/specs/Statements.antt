-- The laws of bindings, of every history in which each verdict is the one that is due.
use Rattle.ide_types.specs.declared.plan.Plan.{Plan}
use Rattle.ide_types.specs.Fits.{FitsPlan}
use Rattle.spec_keys.specs.History.{History}
use Rattle.spec_links.specs.Cause.{CauseLaw}
use Rattle.law_bindings.specs.Asked.{BindingsAreAsked, BindingsLast, VerdictsTellBindings, StopsBreakViews}
use Rattle.law_bindings.specs.Keys.{BindingsHoldKeys, PeersAreNeverStale}
use Rattle.law_bindings.specs.OneLock.{TrustedOnAllStreams, OneLockPerPeerKey, OneLockPerStoredKey}
use Rattle.law_bindings.specs.OverPeers.{PeerOriginLaw, PeerStoreLaw}

abbrev pub BindingsAreAskedHolds : Type 0
BindingsAreAskedHolds = (plan : Plan) → FitsPlan plan → (h : History) → CauseLaw plan h → BindingsAreAsked plan h

abbrev pub BindingsLastHolds : Type 0
BindingsLastHolds = (plan : Plan) (h : History) → CauseLaw plan h → BindingsLast plan h

abbrev pub VerdictsTellHolds : Type 0
VerdictsTellHolds = (plan : Plan) (h : History) → CauseLaw plan h → VerdictsTellBindings plan h

abbrev pub StopsBreakViewsHolds : Type 0
StopsBreakViewsHolds = (plan : Plan) → FitsPlan plan → (h : History) → CauseLaw plan h → StopsBreakViews plan h

abbrev pub BindingsHoldKeysHolds : Type 0
BindingsHoldKeysHolds = (plan : Plan) (h : History) → CauseLaw plan h → BindingsHoldKeys plan h

abbrev pub TrustedOnAllStreamsHolds : Type 0
TrustedOnAllStreamsHolds = (plan : Plan) → FitsPlan plan → (h : History) → CauseLaw plan h → TrustedOnAllStreams plan h

abbrev pub OneLockPerPeerKeyHolds : Type 0
OneLockPerPeerKeyHolds = (plan : Plan) → FitsPlan plan → (h : History) → CauseLaw plan h → OneLockPerPeerKey plan h

abbrev pub OneLockPerStoredKeyHolds : Type 0
OneLockPerStoredKeyHolds = (plan : Plan) → FitsPlan plan → (h : History) → CauseLaw plan h → OneLockPerStoredKey plan h

abbrev pub PeerOriginHolds : Type 0
PeerOriginHolds = (plan : Plan) → FitsPlan plan → (h : History) → CauseLaw plan h → PeerOriginLaw plan h

abbrev pub PeerStoreHolds : Type 0
PeerStoreHolds = (plan : Plan) → FitsPlan plan → (h : History) → CauseLaw plan h → PeerStoreLaw plan h

abbrev pub PeersNeverStaleHolds : Type 0
PeersNeverStaleHolds = (plan : Plan) → FitsPlan plan → (h : History) → CauseLaw plan h → PeersAreNeverStale plan h
