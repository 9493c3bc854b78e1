-- The topology meets every bound and rule of plans.
use Rattle.std.proofs.Common.{◌≡◌, refl, sym, subst, ℕ, zero, suc, ◌%◌, ◌<◌, ◌≤◌, List, [], ◌∷◌, length, replicate}
use Rattle.std.proofs.Common.{arith, lit≤}
use Rattle.std.specs.Prelude.{IfOk, Result, Ok, Err}
use Rattle.std.specs.List.{All}
use Rattle.ide_types.specs.declared.interface.BarPlan.{BarPlan}
use Rattle.ide_types.specs.declared.plan.Plan.{Plan}
use Rattle.ide_types.specs.declared.plan.Region.{Region}
use Rattle.ide_types.specs.declared.stream.AddressRange.{AddressRange}
use Rattle.std.proofs.lemmas.List.Elements.{All-nil, All-cons, All-from_recursion}
use Rattle.ide_types.specs.Fits.{FitsAddresses, FitsBar, FitsInterface, FitsLink, FitsPeer, FitsPlan, FitsRegion}
use Rattle.ide_types.specs.Fits.{FitsStream}
use Rattle.history_events.specs.GeneratedTopology.{keys_below, the_interface, the_link, the_plan, the_stream}
use Rattle.history_events.proofs.NumberedKeys.{keys_fit, keys_differ, length_keys}

no_element : (j : ℕ) → j < 0 → ⊥
no_element j below = omega (arith, below)

-- of one element there is no pair
no_pair : (i j : ℕ) → i < j → j < 1 → ⊥
no_pair i j lt below = omega (arith, lt, below)

abbrev the_range : List AddressRange
the_range = (record { base = 1073741824; limit = 1074790399 }) ∷ []

abbrev the_bars : List BarPlan
the_bars = (record { base = 1073741824; pages = 16; attributes = 0 }) ∷ []

abbrev the_regions : List Region
the_regions = (record { base = 268435456; size = 65536 }) ∷ []

stream_fits : FitsStream the_stream
stream_fits = record {
  id = lit≤ tt;
  aggregation = refl;
  selector = (
    (lit≤ tt, lit≤ tt),
    lit≤ tt,
    All-from_recursion FitsAddresses the_range
        (record { base = refl; limit = refl; in_order = lit≤ tt; most = lit≤ tt }, tt),
  );
}

zeros : (n : ℕ) → All (λ b. b < 256) (replicate n 0)
zeros zero = All-nil (λ b. b < 256)
zeros (suc n) = All-cons (λ b. b < 256) 0 (replicate n 0) (lit≤ tt) (zeros n)

interface_fits : FitsInterface (the_stream ∷ []) the_interface
interface_fits = record {
  requester = lit≤ tt;
  stream = refl;
  flags = lit≤ tt;
  offset = refl;
  offset_most = lit≤ tt;
  command = lit≤ tt;
  msix = lit≤ tt;
  lnr = lit≤ tt;
  cache_line = lit≤ tt;
  tph = lit≤ tt;
  pasid = lit≤ tt;
  ats = lit≤ tt;
  info = lit≤ tt;
  info_bytes = zeros 64;
  bars = lit≤ tt;
  each_bar = All-from_recursion FitsBar the_bars (record { base = lit≤ tt; pages = lit≤ tt; attributes = lit≤ tt }, tt);
}

link_fits : FitsLink the_link
link_fits = record {
  nonces = subst (λ (n : ℕ). n ≤ 1024) (sym (length_keys 1024)) (lit≤ tt);
  each_nonce = keys_fit 1024;
  streams_least = lit≤ tt;
  streams_most = lit≤ tt;
  each_stream = All-from_recursion FitsStream (the_stream ∷ []) (stream_fits, tt);
  ids_differ = λ i j d lt below. absurd (no_pair i j lt below);
  one_default = λ i j d lt below. absurd (no_pair i j lt below);
  classes_apart = λ i j d lt below. absurd (no_pair i j lt below);
  each_interface = All-from_recursion (FitsInterface (the_stream ∷ [])) (the_interface ∷ []) (interface_fits, tt);
  requesters_differ = λ i j d lt below. absurd (no_pair i j lt below);
  hop = tt;
}

pub the_plan_fits : FitsPlan the_plan
the_plan_fits =
    let long : length (keys_below 6144) ≡ 6144 = length_keys 6144 in
    record {
      version_least = lit≤ tt;
      version_most = lit≤ tt;
      portion_least = lit≤ tt;
      portion_most = lit≤ tt;
      units_least = lit≤ tt;
      units_most = lit≤ tt;
      pool_least = subst (λ (n : ℕ). 6 ≤ n) (sym long) (lit≤ tt);
      pool_most = subst (λ (n : ℕ). n ≤ 6144) (sym long) (lit≤ tt);
      pool_sixes = subst (λ (n : ℕ). n % 6 ≡ 0) (sym long) refl;
      each_key = keys_fit 6144;
      keys_differ = keys_differ 6144 (lit≤ tt);
      links_least = lit≤ tt;
      links_most = lit≤ tt;
      each_link = All-from_recursion FitsLink (the_link ∷ []) (link_fits, tt);
      interfaces_most = lit≤ tt;
      regions_most = lit≤ tt;
      each_region = All-from_recursion FitsRegion the_regions
          (record { base = refl; size = refl; size_least = lit≤ tt; most = lit≤ tt }, tt);
      memory_most = lit≤ tt;
      regions_apart = λ i j d lt below. absurd (no_pair i j lt below);
      peers_most = lit≤ tt;
      each_peer = All-nil (FitsPeer (the_link ∷ []));
      peer_ids_differ = λ i j d lt below. absurd (no_element j below);
    }

-- a plan that is given
pub plan_given : {E : Type 0} (r : Result Plan E) → IfOk r (λ p. p ≡ the_plan) → IfOk r FitsPlan
plan_given (Ok p) is = subst FitsPlan (sym is) the_plan_fits
plan_given (Err e) is = tt
