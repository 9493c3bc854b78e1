-- Packets with T: the device's port sealed each in RUN, under a draw that was made.
use Rattle.std.proofs.Common.{◌≡◌, ℕ, ◌<◌, ◌≤◌, ◌==◌, ◌&&◌, ◌∷◌, ◌++◌, Bool, true, false, List, [], length, Option}
use Rattle.std.proofs.Common.{Some, None, if◌then◌else◌, sym, ◌∙◌, subst, arith}
use Rattle.ide_types.specs.declared.port.Side.TheVariants.{Device}
use Rattle.std.proofs.lemmas.Bool.Decides.{nat_tests}
use Rattle.spec_interfaces.specs.Terms.{AllByRecursion, PortName, Plan, Event, Verdict, SealedPacket, History, draws}
use Rattle.spec_interfaces.specs.Sites.{Site}
use Rattle.spec_interfaces.specs.Devices.{peer_t, runs_at, sets_t}
use Rattle.spec_interfaces.proofs.OnLinks.{owner_on_link}
use Rattle.std.specs.Prelude.{nat_le, nat_lt, not}
use Rattle.spec_interfaces.specs.Cause.{InterfaceCause, PairFits, SealFits, t_at, owners_link, owner_read}
use Rattle.ide_types.specs.Ends.{port_beside_end}
use Rattle.spec_interfaces.specs.Laws.{IsTrusted, OfTrusted}
use Rattle.tlp_layout.specs.Reading.{read_of}
use Rattle.spec_keys.specs.Laws.{KeyCauseLaw}
use Rattle.spec_keys.specs.Places.{KeyPlan, KeyPlace}
use Rattle.spec_keys.specs.Keys.{Touch, Seal}
use Rattle.spec_keys.specs.Operations.{StreamOperations, Reach, manager_after_operation, manager_after, work_of}
use Rattle.spec_keys.specs.Operations.{reach_of}
use Rattle.spec_keys.specs.History.{manager, moments, touches_after, is_sender, seal_touches, touches_if}
use Rattle.spec_keys.specs.Terms.{Operation}
use Rattle.spec_keys.proofs.Shapes.{draws_used}
use Rattle.spec_keys.proofs.Whole.{fits, more_begun}
use Rattle.script_events.specs.declared.event.Event.TheVariants as event
use Rattle.event_verdicts.specs.declared.verdict.Operation.TheVariants as op
use Rattle.event_verdicts.specs.declared.verdict.Verdict.TheVariants as v

-- ---- draws

operated_grows : (m : StreamOperations) (o : Operation) (line stream : ℕ) (r : Option Reach)
    → length m.begun ≤ length (manager_after_operation m o line stream r).begun
operated_grows m o line stream None = omega arith
operated_grows m o line stream (Some r) = more_begun m.begun line stream
    (work_of o (m.ops line stream) (length m.begun))

after_grows : (m : StreamOperations) (e : Event) (w : Verdict) → length m.begun ≤ length (manager_after m e w).begun
after_grows m (event.Establish line stream loss) w = operated_grows m op.Establish line stream (reach_of op.Establish w)
after_grows m (event.Refresh line stream loss) w = operated_grows m op.Refresh line stream (reach_of op.Refresh w)
after_grows m (event.Stop line stream loss) w = operated_grows m op.Stop line stream (reach_of op.Stop w)
after_grows m (event.Reset link ends) (v.Reset l) = omega arith
after_grows m e w = omega arith

-- draws are never unmade
pub draws_grow : (h : History) (e : Event) (w : Verdict) → draws h ≤ draws ((e, w) ∷ h)
unfolding manager
draws_grow h e w = after_grows (manager h) e w

used_more : (ts : List Touch) (t : Touch) → draws_used ts ≤ draws_used (t ∷ ts)
unfolding draws_used
used_more ts t = grind arith

used_behind : (ts more : List Touch) → draws_used ts ≤ draws_used (touches_after ts more)
used_behind ts [] = omega arith
used_behind ts (t ∷ more) = let a = used_more ts t in let b = used_behind (t ∷ ts) more in omega arith

sealed_used : (ts more : List Touch) (j : ℕ) (m : Bool) → j < draws_used (touches_after (Seal j m ∷ ts) more)
unfolding draws_used
sealed_used ts more j m = let a = used_behind (Seal j m ∷ ts) more in grind arith

used_when : (ts more : List Touch) (b m : Bool) (j : ℕ) → b ≡ true
    → j < draws_used (touches_after ts (touches_if b (Seal j m) ++ more))
used_when ts more true m j is = sealed_used ts more j m
used_when ts more false m j is = absurd cc

-- the draws of the packets that a place seals are used there
all_used : (p : KeyPlace) (ts : List Touch) (ds : List SealedPacket) (top : ℕ)
    → draws_used (touches_after ts (seal_touches p ds)) ≤ top
    → AllByRecursion (λ d. is_sender p d ≡ true → d.draw < top) ds
all_used p ts [] top le = tt
all_used p ts (d ∷ ds) top le = (
  λ is. let lt = used_when ts (seal_touches p ds) (is_sender p d) d.m d.draw is in omega arith,
  by_test (all_used p ts ds top) (all_used p (Seal d.draw d.m ∷ ts) ds top) (is_sender p d) le,
)
  where
    by_test : (draws_used (touches_after ts (seal_touches p ds)) ≤ top
        → AllByRecursion (λ y. is_sender p y ≡ true → y.draw < top) ds)
        → (draws_used (touches_after (Seal d.draw d.m ∷ ts) (seal_touches p ds)) ≤ top
        → AllByRecursion (λ y. is_sender p y ≡ true → y.draw < top) ds)
        → (b : Bool) → draws_used (touches_after ts (touches_if b (Seal d.draw d.m) ++ seal_touches p ds)) ≤ top
        → AllByRecursion (λ y. is_sender p y ≡ true → y.draw < top) ds
    by_test without with_it true le = with_it le
    by_test without with_it false le = without le

abbrev place_of : SealedPacket → KeyPlace
place_of d = record { side = d.port.side; line = d.port.line; stream = d.stream; sends = true; sub = d.sub }

is_own : (d : SealedPacket) → is_sender (place_of d) d ≡ true
is_own d = grind (arith, nat_tests)

at_own : (ds : List SealedPacket) (top : ℕ) →
    ((p : KeyPlace) → AllByRecursion (λ d. is_sender p d ≡ true → d.draw < top) ds)
    → AllByRecursion (λ d. d.draw < top) ds
at_own [] top all = tt
at_own (d ∷ ds) top all = ((all (place_of d)).0 (is_own d), at_own ds top (λ p. (all p).1))

-- what a send sealed is under draws that were made
sealed_below : (kp : KeyPlan) (h : History) (port : PortName) (bytes : List ℕ) (more trusted : Bool)
    (ds : List SealedPacket)
    → KeyCauseLaw kp ((event.Send port bytes more trusted, v.Sealed ds) ∷ h) → AllByRecursion (λ d. d.draw < draws h) ds
unfolding manager moments
sealed_below kp h port bytes more trusted ds cause =
    at_own ds (draws h) (λ p. all_used p (moments h p) ds (draws h)
    (fits kp ((event.Send port bytes more trusted, v.Sealed ds) ∷ h) cause p).below.within)

-- ---- T

both_first : (a b : Bool) → (a && b) ≡ true → a ≡ true
both_first a b e = grind arith

unsynced : (sync t : Bool) → (if sync then false else t) ≡ true → t ≡ true
unsynced sync t e = grind arith

-- a packet with T was sealed in RUN
sealed_in_run : (plan : Plan) (h : History) (x : Site) (bytes : List ℕ) (trusted : Bool) (d : SealedPacket)
    → SealFits plan h bytes trusted d → IsTrusted plan x bytes d → runs_at plan h x ≡ true
sealed_in_run plan h x bytes trusted d fits is =
    let t : t_at plan h d.port (owner_read plan (owners_link plan d.port) (read_of bytes)) d.stream trusted
    ≡ true = unsynced d.sync _ (sym fits.t_is ∙ is.has_t) in
    let at = subst (λ (q : PortName). t_at plan h q (owner_read plan (owners_link plan q) (read_of bytes)) d.stream
    trusted ≡ true) is.at_device t in
    by (nat_le 24 x.link) (nat_lt x.link (length plan.links)) (owner_on_link plan x.link (read_of bytes) x is.owned) at
  where
    by : (late there : Bool) → there ≡ true → (if late && not there then peer_t plan h (owner_read plan
        (if late && not there then (port_beside_end plan.peers (record { side = Device; line = x.link })).line
        else x.link)
        (read_of bytes)) d.stream
        else sets_t plan h x.link d.stream (owner_read plan
        (if late && not there then (port_beside_end plan.peers (record { side = Device; line = x.link })).line
        else x.link)
        (read_of bytes))) ≡ true → runs_at plan h x ≡ true
    by late false on at = absurd cc
    by true true on at = both_first (runs_at plan h x) (x.plan.stream == d.stream) (rw is.owned at at)
    by false true on at = both_first (runs_at plan h x) (x.plan.stream == d.stream) (rw is.owned at at)

pub record Fresh (plan : Plan) (h : History) (x : Site) (d : SealedPacket) : Type 0 where
  pub runs : runs_at plan h x ≡ true
  pub made : d.draw < draws h

all_fresh : (plan : Plan) (h : History) (x : Site) (bytes : List ℕ) (trusted : Bool) (ds : List SealedPacket)
    → AllByRecursion (SealFits plan h bytes trusted) ds → AllByRecursion (λ d. d.draw < draws h) ds
    → AllByRecursion (λ d. IsTrusted plan x bytes d → Fresh plan h x d) ds
all_fresh plan h x bytes trusted [] fit below = tt
all_fresh plan h x bytes trusted (d ∷ ds) fit below = (
  λ is. record { runs = sealed_in_run plan h x bytes trusted d fit.0 is; made = below.0 },
  all_fresh plan h x bytes trusted ds fit.1 below.1,
)

-- ---- all packets with T

all_lead : (Q : SealedPacket → Type 0) (P R : SealedPacket → Type 0) (ds : List SealedPacket)
    → ((d : SealedPacket) → P d → R d) → AllByRecursion (λ d. Q d → P d) ds → AllByRecursion (λ d. Q d → R d) ds
all_lead Q P R [] leads all = tt
all_lead Q P R (d ∷ ds) leads all = (λ q. leads d (all.0 q), all_lead Q P R ds leads all.1)

-- more is true of them
pub trusted_lead : (plan : Plan) (x : Site) (P Q : History → SealedPacket → Type 0) (h : History)
    → ((g : History) (d : SealedPacket) → P g d → Q g d) → OfTrusted plan x P h → OfTrusted plan x Q h
trusted_lead plan x P Q [] leads all = tt
trusted_lead plan x P Q ((event.Send port bytes more trusted, v.Sealed ds) ∷ h) leads all =
    (all_lead (IsTrusted plan x bytes) (P h) (Q h) ds (leads h) all.0, trusted_lead plan x P Q h leads all.1)
trusted_lead plan x P Q ((e, w) ∷ h) leads all = trusted_lead plan x P Q h leads all

-- after one more pair
pub trusted_on : (plan : Plan) (kp : KeyPlan) (h : History) (e : Event) (w : Verdict) (x : Site)
    (P : History → SealedPacket → Type 0)
    → KeyCauseLaw kp ((e, w) ∷ h) → PairFits plan h e w → ((d : SealedPacket) → Fresh plan h x d → P h d)
    → OfTrusted plan x P h → OfTrusted plan x P ((e, w) ∷ h)
trusted_on plan kp h (event.Send port bytes more trusted) (v.Sealed ds) x P cause fit leads all = (
  all_lead (IsTrusted plan x bytes) (Fresh plan h x) (P h) ds leads
      (all_fresh plan h x bytes trusted ds fit (sealed_below kp h port bytes more trusted ds cause)),
  all,
)
trusted_on plan kp h e w x P cause fit leads all = all

-- each is of a draw that was made
pub all_made : (plan : Plan) (kp : KeyPlan) (h : History) (x : Site) → KeyCauseLaw kp h → InterfaceCause plan h
    → OfTrusted plan x (λ g d. d.draw < draws h) h
all_made plan kp [] x cause fit = tt
all_made plan kp ((e, w) ∷ h) x cause fit =
    let le = draws_grow h e w in
    trusted_on plan kp h e w x (λ g d. d.draw < draws ((e, w) ∷ h)) cause fit.0
    (λ d fresh. let lt = fresh.made in omega arith)
    (trusted_lead plan x (λ g d. d.draw < draws h) (λ g d. d.draw < draws ((e, w) ∷ h)) h (λ g d lt. omega arith)
    (all_made plan kp h x cause.2 fit.1))
