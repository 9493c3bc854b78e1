-- What a sealed verdict tells, if it was due.
use Rattle.spec_links.proofs.Terms.{Bool, List, Option, Some, [], ap, arith, false, refl, subst, sym, true, ℕ, ◌∙◌, ◌∷◌}
use Rattle.spec_links.proofs.Terms.{◌≡◌, unwrap_or, Cpl, Npr, Pr, is_same_sub, Lanes, Sending, described_seal}
use Rattle.spec_links.proofs.Terms.{is_keyless, lanes_at, needs_sync, no_key, KeyName, live_key, sealed_packets}
use Rattle.spec_links.proofs.Terms.{is_quiet, lane_out, Event, History, Plan, PortName, Sealed, SealedPacket, Send}
use Rattle.spec_links.proofs.Terms.{SubKind, Verdict, Access, KeyPlace, StreamStage, touches, seal_touches}
use Rattle.spec_links.proofs.Senders.{has_key, listed_seals, sealed_by_is, and_false, AreOther, needs_posted}
pub use Rattle.spec_links.proofs.Causes.{IsSealing, is_sealing, sealed_by_sealing, sealing_is}
pub use Rattle.spec_links.specs.History.{sending_port}
use Rattle.script_events.specs.declared.event.Event.TheVariants.{Forward}
use Rattle.script_events.specs.declared.event.AccessEvent.TheVariants as ae
unfoldable use Rattle.spec_links.proofs.Terms.{base, manager}

-- ---- each packet under the live key of its sub-stream

pub record IsLive (plan : Plan) (h : History) (port : PortName) (stream : ℕ) (d : SealedPacket) : Type 0 where
  pub port_is : d.port ≡ port
  pub stream_is : d.stream ≡ stream
  pub key : KeyName
  pub live : live_key h port (lane_out port stream d.sub) ≡ Some key
  pub draw : d.draw ≡ key.draw
  pub set : d.k ≡ key.k

abbrev pub AllLive : Plan → History → PortName → ℕ → List SealedPacket → Type 0
AllLive plan h port stream [] = Unit {0}
AllLive plan h port stream (d ∷ ds) = IsLive plan h port stream d × AllLive plan h port stream ds

is_live : (plan : Plan) (h : History) (s : Sending) (u : SubKind) (number : ℕ) (m t sync : Bool)
    → is_keyless (lanes_at plan h s.port s.stream) u ≡ false
    → IsLive plan h s.port s.stream (described_seal (lanes_at plan h s.port s.stream) s u number m t sync)
is_live plan h s u number m t sync keyed =
    let x = has_key (lanes_at plan h s.port s.stream) u keyed in
    record {
      port_is = refl;
      stream_is = refl;
      key = x.key;
      live = x.is;
      draw = ap
          (λ (o : Option KeyName). (unwrap_or o no_key).draw) x.is;
      set = ap
          (λ (o : Option KeyName). (unwrap_or o no_key).k) x.is;
    }

listed_live : (plan : Plan) (h : History) (s : Sending) (number : ℕ) (n c : Bool)
    → let x = lanes_at plan h s.port s.stream in
    is_keyless x s.class ≡ false → (n ≡ true → is_keyless x Npr ≡ false) → (c ≡ true → is_keyless x Cpl ≡ false)
    → AllLive plan h s.port s.stream (listed_seals x s number n c)
unfolding listed_seals
listed_live plan h s number false false keyed r c = (is_live plan h s s.class _ _ _ _ keyed, tt)
listed_live plan h s number true false keyed r c =
    (is_live plan h s Npr _ _ _ _ (r refl), (is_live plan h s s.class _ _ _ _ keyed, tt))
listed_live plan h s number false true keyed r c =
    (is_live plan h s Cpl _ _ _ _ (c refl), (is_live plan h s s.class _ _ _ _ keyed, tt))
listed_live plan h s number true true keyed r c = (
  is_live plan h s Npr _ _ _ _ (r refl),
  (is_live plan h s Cpl _ _ _ _ (c refl), (is_live plan h s s.class _ _ _ _ keyed, tt)),
)

pub all_live : (plan : Plan) (h : History) (port : PortName) (bytes : List ℕ) (ds : List SealedPacket)
    (is : IsSealing plan h port bytes ds) → AllLive plan h is.sending.port is.sending.stream ds
all_live plan h port bytes ds is =
    let s = is.sending in
    let x = lanes_at plan h s.port s.stream in
    subst (AllLive plan h s.port s.stream) (sym (is.list ∙ sealed_by_is x s is.number))
    (listed_live plan h s is.number (needs_sync x s.class Npr) (needs_sync x s.class Cpl) is.free.1.0
    (and_false _ _ is.free.1.1.1.0) (and_false _ _ is.free.1.1.1.1.0))

-- ---- the packets of a send are of different sub-streams

abbrev pub AllApart : List SealedPacket → Type 0
AllApart [] = Unit {0}
AllApart (d ∷ ds) = AreOther d.sub ds × AllApart ds

listed_apart : (x : Lanes) (s : Sending) (number : ℕ) (n c : Bool) → (n ≡ true → s.class ≡ Pr)
    → (c ≡ true → s.class ≡ Pr) → AllApart (listed_seals x s number n c)
unfolding listed_seals
listed_apart x s number false false r k = (tt, tt)
listed_apart x s number true false r k = ((ap (is_same_sub Npr) (r refl), tt), (tt, tt))
listed_apart x s number false true r k = ((ap (is_same_sub Cpl) (k refl), tt), (tt, tt))
listed_apart x s number true true r k =
    ((refl, (ap (is_same_sub Npr) (r refl), tt)), ((ap (is_same_sub Cpl) (k refl), tt), (tt, tt)))

pub all_apart : (plan : Plan) (h : History) (port : PortName) (bytes : List ℕ) (ds : List SealedPacket)
    → IsSealing plan h port bytes ds → AllApart ds
all_apart plan h port bytes ds is =
    let s = is.sending in
    let x = lanes_at plan h s.port s.stream in
    subst AllApart (sym (is.list ∙ sealed_by_is x s is.number))
    (listed_apart x s is.number _ _ (needs_posted x s.class Npr) (needs_posted x s.class Cpl))

-- ---- verdicts that seal nothing

abbrev pub seals_none : Verdict → Bool
seals_none (Sealed ds) = false
seals_none _ = true

pub quiet_seals_none : (w : Verdict) → is_quiet w ≡ true → seals_none w ≡ true
quiet_seals_none w none = grind arith

pub sealed_same : (plan : Plan) (h : History) (e : Event) (w : Verdict) → seals_none w ≡ true
    → sealed_packets plan ((e, w) ∷ h) ≡ sealed_packets plan h
unfolding sealed_packets
sealed_same plan h e (Sealed ds) none = absurd cc
sealed_same plan h _ _ none = refl

-- ---- an event that may seal is no operation and no reset

pub sealing_touches : (ops : ℕ → ℕ → StreamStage) (n : ℕ) (e : Event) (ds : List SealedPacket) (p : KeyPlace)
    → is_sealing e ≡ true → touches ops n e (Sealed ds) p ≡ seal_touches p ds
sealing_touches ops n (Send q bytes more trusted) ds p seals = refl
sealing_touches ops n (Access (ae.Answer link)) ds p seals = refl
sealing_touches ops n (Access (ae.Respond link)) ds p seals = refl
sealing_touches ops n (Forward link d) ds p seals = refl
sealing_touches ops n e ds p seals = absurd cc

pub sealing_manager : (h : History) (e : Event) (w : Verdict) → is_sealing e ≡ true → manager ((e, w) ∷ h) ≡ manager h
unfolding manager
sealing_manager h (Send q bytes more trusted) w seals = refl
sealing_manager h (Access (ae.Answer link)) w seals = refl
sealing_manager h (Access (ae.Respond link)) w seals = refl
sealing_manager h (Forward link d) w seals = refl
sealing_manager h e w seals = absurd cc

pub sealing_base : (h : History) (e : Event) (w : Verdict) (line stream : ℕ) → is_sealing e ≡ true
    → base ((e, w) ∷ h) line stream ≡ base h line stream
unfolding base
sealing_base h (Send q bytes more trusted) w line stream seals = refl
sealing_base h (Access (ae.Answer l)) w line stream seals = refl
sealing_base h (Access (ae.Respond l)) w line stream seals = refl
sealing_base h (Forward l d) w line stream seals = refl
sealing_base h e w line stream seals = absurd cc
