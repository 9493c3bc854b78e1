-- What the tables of a topology give meets every bound of its keys.
use Rattle.std.proofs.Common.{◌≡◌, refl, ℕ, ◌+◌, ◌≤◌, nat_le, nat_lt, List, [], length, Bool, true, false, not, Option}
use Rattle.std.proofs.Common.{Some, None, arith, codes, lit≤}
use Rattle.std.specs.List.{All}
use Rattle.std.proofs.lemmas.Bool.{leb-true, ltb-true, ltb-false, eqb-true}
use Rattle.std.proofs.lemmas.List.Elements.{All-nil}
use Rattle.toml.specs.Data.{Data, Members}
use Rattle.ide_types.specs.declared.stream.IdRange.{IdRange}
use Rattle.ide_types.specs.declared.stream.AddressRange.{AddressRange}
use Rattle.ide_types.specs.Fits.{is_aggregation, FitsIds, FitsAddresses, FitsSelector, FitsStream, FitsBar, FitsRegion}
use Rattle.toml_walk.specs.declared.bounds.Form.TheVariants.{Pages, Mebibytes, LastOfMebibyte, UnitMode}
use Rattle.toml_walk.specs.Bounds.{greatest, within, bounds_of_form}
use Rattle.toml_walk.specs.Paths.{Path}
use Rattle.toml_walk.specs.Walk.{only_known, required_value, optional, list, count_between, any_number}
use Rattle.toml_walk.specs.Values.{number, truth, two}
use Rattle.toml_walk.proofs.Holds.{Holds, gives, anything, next, weaker, checked, Admitted, Listed, number_holds}
use Rattle.toml_walk.proofs.Holds.{required_holds, optional_holds, list_holds, two_holds}
use Rattle.topology.specs.declared.draft.StreamKind.{StreamKind}
use Rattle.topology.specs.declared.draft.StreamKind.TheVariants as kind
use Rattle.topology.specs.Tables.{stream_kind, is_selective_kind, only_if, id_range, ids_in_order, address_range}
use Rattle.topology.specs.Tables.{addresses_in_order, truth_if, selector_for, stream_names, stream_keys, bar_names}
use Rattle.topology.specs.Tables.{bar_keys, region_names, region_keys, peer_names, peer_keys}
use Rattle.ide_types.specs.declared.plan.PeerPlan.{PeerPlan}

-- a number from 0 to the most
abbrev pub Upto : ℕ → ℕ → Type 0
Upto most n = n ≤ most

pub upto : (most : ℕ) (path : Path) (d : Data) → Holds (Upto most) (number (within 0 most) path d)
upto most path d = weaker (Admitted (within 0 most)) (Upto most) _ (number_holds _ path d) (λ n a. a.most)

ids_hold : (allowed : Bool) (path : Path) (d : Data) → Holds FitsIds (id_range allowed path d)
ids_hold allowed path d =
    next (λ (p : ℕ × ℕ). Admitted (within 0 65535) p.0 × Admitted (within 0 65535) p.1) FitsIds
    (two allowed (within 0 65535) (within 0 65535) path d) (ids_in_order path) (two_holds allowed _ _ path d)
    (λ p a. checked FitsIds (nat_le p.0 p.1) (Some (record { base = p.0; limit = p.1 })) _
    (λ h. (leb-true p.0 p.1 h, a.1.most)))

addresses_hold : (path : Path) (d : Data) → Holds FitsAddresses (address_range path d)
addresses_hold path d =
    next (λ (p : ℕ × ℕ). Admitted (bounds_of_form 0 greatest Mebibytes) p.0
    × Admitted (bounds_of_form 0 greatest LastOfMebibyte) p.1)
    FitsAddresses
    (two true (bounds_of_form 0 greatest Mebibytes) (bounds_of_form 0 greatest LastOfMebibyte) path d)
    (addresses_in_order path)
    (two_holds true _ _ path d)
    (λ p a. checked FitsAddresses (nat_lt p.0 p.1) (record { base = p.0; limit = p.1 }) _ (λ h. record {
      base = eqb-true _ _ a.0.form;
      limit = eqb-true _ _ a.1.form;
      in_order = ltb-true p.0 p.1 h;
      most = omega (arith, a.1.most);
    }))

selector_fits : (k : StreamKind) (ids : Option IdRange) (addresses : List AddressRange) (default : Bool)
    (classes : List ℕ) → FitsIds ids → (length addresses ≤ 8) × All FitsAddresses addresses → All (λ c. c ≤ 7) classes
    → FitsSelector (selector_for k ids addresses default classes)
selector_fits kind.Selective ids addresses default classes i a c = (i, a.0, a.1)
selector_fits kind.Link ids addresses default classes i a c = c

ranges_hold : (allowed : Bool) (path : Path) (d : Data) → Holds (λ xs. (length xs ≤ 8) × All FitsAddresses xs)
    (list (only_if allowed (count_between 0 8)) address_range path d)
ranges_hold allowed path d =
    weaker (Listed (only_if allowed (count_between 0 8)) FitsAddresses) _ _
    (list_holds _ FitsAddresses address_range addresses_hold path d)
    (λ xs l. (ltb-false 8 (length xs) l.most, l.each))

classes_hold : (allowed : Bool) (path : Path) (d : Data) → Holds (All (λ c. c ≤ 7))
    (list (only_if allowed any_number) (number (within 0 7)) path d)
classes_hold allowed path d = weaker (Listed (only_if allowed any_number) (Upto 7)) _ _
    (list_holds _ (Upto 7) (number (within 0 7)) (upto 7) path d) (λ xs l. l.each)

-- key by key, as the keys are read; the kind says which lists may have elements
pub stream_holds : (t : Path) (ms : Members) → Holds FitsStream (stream_keys t ms)
unfolding stream_keys
stream_holds t ms =
    next (λ _. Unit {0}) FitsStream (only_known t stream_names ms) _ (anything _) (λ _ _.
    next (Upto 255) FitsStream (required_value t ms (codes "id") (number (within 0 255))) _
    (required_holds (Upto 255) t ms (codes "id") _ (upto 255)) (λ id id_fits.
    next (λ _. Unit {0}) FitsStream (required_value t ms (codes "kind") stream_kind) _ (anything _) (λ k _.
    next (Admitted (bounds_of_form 1 8 UnitMode)) FitsStream
    (optional t ms (codes "mode") 1 (number (bounds_of_form 1 8 UnitMode))) _
    (optional_holds _ t ms (codes "mode") 1 _ (record { least = lit≤ tt; most = lit≤ tt; form = refl })
    (number_holds _)) (λ aggregation aggregation_fits.
    next FitsIds FitsStream (optional t ms (codes "rid") None (id_range (is_selective_kind k))) _
    (optional_holds FitsIds t ms (codes "rid") None _ tt (ids_hold (is_selective_kind k))) (λ ids ids_fit.
    next (λ xs. (length xs ≤ 8) × All FitsAddresses xs) FitsStream
    (optional t ms (codes "ranges") [] (list (only_if (is_selective_kind k) (count_between 0 8)) address_range)) _
    (optional_holds _ t ms (codes "ranges") [] _ (lit≤ tt, All-nil FitsAddresses) (ranges_hold (is_selective_kind k)))
    (λ addresses addresses_fit.
    next (λ _. Unit {0}) FitsStream (optional t ms (codes "default") false (truth_if (is_selective_kind k))) _
    (anything _) (λ default _.
    next (All (λ c. c ≤ 7)) FitsStream
    (optional t ms (codes "tcs") [] (list (only_if (not (is_selective_kind k)) any_number) (number (within 0 7)))) _
    (optional_holds _ t ms (codes "tcs") [] _ (All-nil (λ c. c ≤ 7)) (classes_hold (not (is_selective_kind k))))
    (λ classes classes_fit.
    next (λ _. Unit {0}) FitsStream (optional t ms (codes "closed") false truth) _ (anything _) (λ closed _.
    gives FitsStream _ (record {
      id = id_fits;
      aggregation = aggregation_fits.form;
      selector = selector_fits k ids addresses default classes ids_fit
          addresses_fit classes_fit;
    }))))))))))

pub bar_holds : (t : Path) (ms : Members) → Holds FitsBar (bar_keys t ms)
unfolding bar_keys
bar_holds t ms =
    next (λ _. Unit {0}) FitsBar (only_known t bar_names ms) _ (anything _) (λ _ _.
    next (Upto greatest) FitsBar (required_value t ms (codes "base") (number (within 0 greatest))) _
    (required_holds _ t ms (codes "base") _ (upto greatest)) (λ base base_fits.
    next (Upto 1048576) FitsBar (required_value t ms (codes "pages") (number (within 0 1048576))) _
    (required_holds _ t ms (codes "pages") _ (upto 1048576)) (λ pages pages_fit.
    next (Upto 15) FitsBar (optional t ms (codes "attributes") 0 (number (within 0 15))) _
    (optional_holds _ t ms (codes "attributes") 0 _ (lit≤ tt) (upto 15)) (λ attributes attributes_fit.
    gives FitsBar _ (record { base = omega (arith, base_fits); pages = pages_fit; attributes = attributes_fit })))))

pub region_holds : (t : Path) (ms : Members) → Holds FitsRegion (region_keys t ms)
unfolding region_keys
region_holds t ms =
    next (λ _. Unit {0}) FitsRegion (only_known t region_names ms) _ (anything _) (λ _ _.
    next (Admitted (bounds_of_form 0 greatest Pages)) FitsRegion
    (required_value t ms (codes "base") (number (bounds_of_form 0 greatest Pages))) _
    (required_holds _ t ms (codes "base") _ (number_holds _)) (λ base base_fits.
    next (Admitted (bounds_of_form 4096 greatest Pages)) FitsRegion
    (required_value t ms (codes "size") (number (bounds_of_form 4096 greatest Pages))) _
    (required_holds _ t ms (codes "size") _ (number_holds _)) (λ size size_fits.
    checked FitsRegion (nat_le (base + size) 9223372036854775808) (record { base = base; size = size }) _ (λ h. record {
      base = eqb-true _ _ base_fits.form;
      size = eqb-true _ _ size_fits.form;
      size_least = size_fits.least;
      most = leb-true (base + size) 9223372036854775808 h;
    }))))

-- ---- streams between devices

pub record PeerHolds (p : PeerPlan) : Type 0 where
  pub id : p.id ≤ 255
  pub aggregation : is_aggregation p.aggregation ≡ true

pub peer_holds : (t : Path) (ms : Members) → Holds PeerHolds (peer_keys t ms)
unfolding peer_keys
peer_holds t ms =
    next (λ _. Unit {0}) PeerHolds (only_known t peer_names ms) _ (anything _) (λ _ _.
    next (Upto 255) PeerHolds (required_value t ms (codes "id") (number (within 0 255))) _
    (required_holds _ t ms (codes "id") _ (upto 255)) (λ id id_fits.
    next (λ _. Unit {0}) PeerHolds (required_value t ms (codes "a") (number (within 0 7))) _ (anything _) (λ near _.
    next (λ _. Unit {0}) PeerHolds (required_value t ms (codes "b") (number (within 0 7))) _ (anything _) (λ far _.
    next (Admitted (bounds_of_form 1 8 UnitMode)) PeerHolds
    (optional t ms (codes "mode") 1 (number (bounds_of_form 1 8 UnitMode))) _
    (optional_holds _ t ms (codes "mode") 1 _ (record { least = lit≤ tt; most = lit≤ tt; form = refl })
    (number_holds _)) (λ aggregation aggregation_fits.
    gives PeerHolds _ (record { id = id_fits; aggregation = aggregation_fits.form }))))))
