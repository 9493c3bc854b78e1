-- What is sealed and what is accepted leaves a place fit for the state of its stream.
use Rattle.spec_keys.proofs.Terms.{◌≡◌, ℕ, ◌+◌, ◌<◌, ◌≤◌, Bool, true, false, Option, Some, None, List, ◌∷◌, refl, ◌∙◌}
use Rattle.spec_keys.proofs.Terms.{arith, max, KeyPlace, Touch, Seal, Accept, Keyed, Keys, key_in, on_in, keys}
use Rattle.spec_keys.proofs.Terms.{slot_beside_other, slot_of, live_draw_in, option_or, sender_draw, uses, StreamStage}
use Rattle.spec_keys.proofs.Shapes.{Marks, marks, draws_started, Shape, Bare, draws_used, IsAt, sealed_shape, is_newer}
use Rattle.spec_keys.proofs.Shapes.{seals, accepts, used_bound, none_above_used, never_more}
use Rattle.spec_keys.proofs.Touches.{TouchFits}
use Rattle.spec_keys.proofs.Stages.{old_alone, old_both, waiting, following, alone, both, before, half, full}
use Rattle.spec_keys.proofs.Fits.{Fits, FitsAt, Turned, Below, below_more}

-- ---- a use leaves the stage of a place: it changes nothing, or ends the older of two keys

fits_uses : (m : Bool) (o : StreamStage) (top : ℕ) (u v : Marks) (p : KeyPlace) (sh : Shape)
    → v.started_below ≡ u.started_below → (sh ≡ Bare → ⊥) → Fits o top u p sh → Fits o top v p (sealed_shape m sh)
fits_uses m o top u v p sh same not_bare fits = grind
    (arith, before, half, full, old_alone, old_both, waiting, following, alone, both)

-- ---- a packet is sealed under the Live key, a unit accepted under one that is On

-- a draw that is On is used
below_use : (s : Bool) (ts us : List Touch) (sh : Shape) (k : Bool) (j top : ℕ) → IsAt s ts sh
    → on_in (key_in (keys s ts) k) ≡ Some j → j < top → Below ts top → draws_used us ≡ max (j + 1) (draws_used ts)
    → draws_started us ≡ draws_started ts → uses us ≡ (j ∷ uses ts) → Below us top
below_use s ts us sh k j top is on lt below more same here =
    let falls = never_more j (uses ts) (none_above_used ts j (used_bound s ts sh k j is on)) below.falls in
    record { within = grind arith; fresh = grind arith; falls = rw here falls }

slot_on_live : (mine other : Keyed) (j : ℕ) → live_draw_in (slot_beside_other true mine other) ≡ Some j → on_in mine
    ≡ Some j
slot_on_live mine other j e = grind arith

-- a Live draw is On
pub live_is_on : (ks : Keys) (j : ℕ) → sender_draw ks ≡ Some j → (set : Bool) × (on_in (key_in ks set) ≡ Some j)
live_is_on ks j live = by_first (live_draw_in (slot_of true ks false)) refl live
  where
    by_first : (o : Option ℕ) → live_draw_in (slot_of true ks false) ≡ o
        → option_or o (live_draw_in (slot_of true ks true)) ≡ Some j → (set : Bool) × (on_in (key_in ks set) ≡ Some j)
    by_first None e live = (true, slot_on_live ks.second ks.first j live)
    by_first (Some i) e live = (false, slot_on_live ks.first ks.second j (e ∙ live))

-- a use after which others come
pub use_first : (o : StreamStage) (top : ℕ) (p : KeyPlace) (ts : List Touch) (t : Touch) (more : List Touch)
    → (at : FitsAt o top p ts) → TouchFits p.sends ts at.shape t → Turned o top p (t ∷ ts) more
    → Turned o top p ts (t ∷ more)
use_first o top p ts t more at may turned = record
    { now = turned.now; come = (record { shape = at.shape; is = at.is; may = may }, turned.come) }

not_bare_on : (s : Bool) (ts : List Touch) (sh : Shape) (k : Bool) (j : ℕ) → IsAt s ts sh → on_in (key_in (keys s ts) k)
    ≡ Some j → sh ≡ Bare → ⊥
not_bare_on s ts sh k j is on bare = grind arith

pub seals_fit : (o : StreamStage) (top : ℕ) (p : KeyPlace) (ts : List Touch) (j : ℕ) (m : Bool) → p.sends ≡ true
    → sender_draw (keys p.sends ts) ≡ Some j → j < top → FitsAt o top p ts → FitsAt o top p (Seal j m ∷ ts)
unfolding draws_used draws_started
seals_fit o top p ts j m sends live lt at =
    let on = live_is_on (keys p.sends ts) j live in
    record {
      shape = sealed_shape m at.shape;
      is = rw sends (seals ts at.shape j m (rw sends at at.is) (rw sends at live));
      fits = fits_uses m o top (marks ts) (marks (Seal j m ∷ ts)) p at.shape refl
          (not_bare_on p.sends ts at.shape on.0 j at.is on.1) at.fits;
      below = below_use p.sends ts (Seal j m ∷ ts) at.shape on.0 j top at.is on.1 lt at.below refl refl refl;
    }

pub accepts_fit : (o : StreamStage) (top : ℕ) (p : KeyPlace) (ts : List Touch) (set : Bool) (j : ℕ) → p.sends ≡ false
    → on_in (key_in (keys p.sends ts) set) ≡ Some j → j < top → FitsAt o top p ts → FitsAt o top p (Accept j ∷ ts)
unfolding draws_used draws_started
accepts_fit o top p ts set j sends on lt at = record {
  shape = sealed_shape (is_newer j at.shape) at.shape;
  is = rw sends (accepts ts at.shape set j (rw sends at at.is) (rw sends at on));
  fits = fits_uses (is_newer j at.shape) o top (marks ts) (marks (Accept j ∷ ts)) p at.shape refl
      (not_bare_on p.sends ts at.shape set j at.is on) at.fits;
  below = below_use p.sends ts (Accept j ∷ ts) at.shape set j top at.is on lt at.below refl refl refl;
}

-- ---- more draws were made

raised : (o : StreamStage) (top more : ℕ) (u : Marks) (p : KeyPlace) (sh : Shape) → top ≤ more → Fits o top u p sh
    → Fits o more u p sh
raised o top more u p sh le fits = grind arith

pub raise : (o : StreamStage) (top more : ℕ) (p : KeyPlace) (ts : List Touch) → top ≤ more → FitsAt o top p ts
    → FitsAt o more p ts
raise o top more p ts le at = record {
  shape = at.shape;
  is = at.is;
  fits = raised o top more (marks ts) p at.shape le at.fits;
  below = below_more ts top
      more le at.below;
}
