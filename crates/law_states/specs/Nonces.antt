-- Each lock of an interface takes a place of its own in the nonces of its link.
use Rattle.std.specs.Prelude.{◌≡◌, ℕ, ◌+◌, ◌<◌, ◌==◌, ◌&&◌, ◌∷◌, ◌++◌, true, List, [], length, Some, slice_get}
use Rattle.ide_types.specs.declared.plan.Plan.{Plan}
use Rattle.spec_keys.specs.History.{History}
use Rattle.spec_interfaces.specs.Terms.{list_any, Event, Verdict, Lock, ConfigLocked}
use Rattle.spec_interfaces.specs.Sites.{Site, sites, site_at, nonces_of}
use Rattle.spec_interfaces.specs.Devices.{one_if}
use Rattle.interface_state.specs.Machine.{is_unlocked}
use Rattle.law_states.specs.States.{state_at, locks}
use Rattle.event_verdicts.specs.declared.verdict.Verdict.TheVariants as v
use Rattle.ide_types.specs.declared.verdict.InterfaceVerdict.TheVariants as iv

-- how many locks the interfaces of a link took
unfoldable pub locks_on : Plan → History → ℕ → ℕ
locks_on plan [] link = 0
locks_on plan ((e, w) ∷ h) link =
    locks_on plan h link + one_if (list_any (λ x. (x.link == link) && locks plan h e w x) (sites plan))

-- a pair took the interface from CONFIG_UNLOCKED to CONFIG_LOCKED, with this nonce
pub record LockAt (plan : Plan) (h : History) (x : Site) : Type 0 where
  pub event : Event
  pub verdict : Verdict
  pub older : History
  pub since : History
  pub came : since ++ (event, verdict) ∷ older ≡ h
  pub lock : Lock
  pub nonce : List ℕ
  pub was : is_unlocked (state_at plan older x) ≡ true
  pub is : state_at plan ((event, verdict) ∷ older) x ≡ ConfigLocked lock nonce

-- the nonce is that of this place of the link's list, which is the number of the locks before it, and the one that a
-- verdict tells
pub record TakesPlace (plan : Plan) (h : History) (x : Site) (a : LockAt plan h x) (place : ℕ) : Type 0 where
  pub before : locks_on plan a.older x.link ≡ place
  pub stands : slice_get (nonces_of plan x.link) place ≡ Some a.nonce
  pub told : (i : ℕ) (nonce : List ℕ) → a.verdict ≡ v.Interface (iv.Locked i nonce) → nonce ≡ a.nonce

-- of two locks of a link's interfaces the later one took a later place
pub record TakesLater (plan : Plan) (h : History) (x y : Site) (a : LockAt plan h x) (b : LockAt plan h y) : Type 0
  where
    pub first : ℕ
    pub second : ℕ
    pub takes_first : TakesPlace plan h x a first
    pub takes_second : TakesPlace plan h y b second
    pub in_order : first < second

abbrev pub NonceLaw : Plan → History → Type 0
NonceLaw plan h = (i j : ℕ) (x y : Site) (a : LockAt plan h x) (b : LockAt plan h y) → site_at plan i ≡ Some x
    → site_at plan j ≡ Some y → x.link ≡ y.link → length a.older < length b.older → TakesLater plan h x y a b
