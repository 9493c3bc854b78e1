-- Hops and streams between devices of a plan that a topology means meet their bounds and rules.
use Rattle.std.proofs.Common.{◌≡◌, ◌≢◌, ◌∙◌, sym, refl, subst, ℕ, zero, suc, ◌<◌, ◌≤◌, ◌==◌, ◌||◌, List, [], ◌∷◌}
use Rattle.std.proofs.Common.{map, take, get_or, Bool, true, false, Option, Some, None, Ok, arith}
use Rattle.std.specs.Prelude.{IfSome, slice_get, find, option_map}
use Rattle.std.specs.List.{All, AllPairs, list_any}
use Rattle.std.specs.Option.{unwrap_or}
use Rattle.std.proofs.lemmas.Bool.{eqb-false, eqb-true, eq-eqb}
use Rattle.std.proofs.lemmas.List.{length-map}
use Rattle.std.proofs.lemmas.List.Elements.{All-nil, All-cons}
use Rattle.std.proofs.lemmas.Option.{slice_get-get_or, slice_get-map}
use Rattle.ide_types.specs.declared.stream.StreamPlan.{StreamPlan}
use Rattle.ide_types.specs.declared.plan.PeerPlan.{PeerPlan}
use Rattle.ide_types.specs.Plans.{has_stream_id, lists_class, hop_has_id, link_has_id, links_have_id}
use Rattle.ide_types.specs.Fits.{FitsHopIfAny, FitsPeer}
use Rattle.toml_walk.specs.Paths.{Path}
use Rattle.topology.specs.declared.draft.LinkDraft.{LinkDraft}
use Rattle.topology.specs.Rules.{link_has, draft_streams, is_peer_with_id, refused_class, classes_apart}
use Rattle.topology.specs.Meaning.{hop_of, link_of}
use Rattle.topology.proofs.TableFits.{Upto, PeerHolds}
use Rattle.topology.proofs.RuleFits.{PeerRuled, HopRuled, HopIsRuled, or_parts}

-- ---- lists

-- none of the elements meets the test
pub none_any : {A : Type 0} (f : A → Bool) (xs : List A) → list_any f xs ≡ false → (k : ℕ) (x : A)
    → slice_get xs k ≡ Some x → f x ≡ false
none_any f [] e zero x is = absurd cc
none_any f [] e (suc k) x is = absurd cc
none_any f (y ∷ ys) e zero x is =
    let same : y ≡ x = cc in subst (λ z. f z ≡ false) same (or_parts (f y) (list_any f ys) e).0
none_any f (y ∷ ys) e (suc k) x is = none_any f ys (or_parts (f y) (list_any f ys) e).1 k x is

pub earlier_taken : {A : Type 0} (xs : List A) (i j : ℕ) (x : A) → i < j → slice_get xs i ≡ Some x
    → slice_get (take j xs) i ≡ Some x
earlier_taken [] zero j x lt is = absurd cc
earlier_taken [] (suc i) j x lt is = absurd cc
earlier_taken (y ∷ ys) i zero x lt is = absurd (omega (arith, lt))
earlier_taken (y ∷ ys) zero (suc j) x lt is = is
earlier_taken (y ∷ ys) (suc i) (suc j) x lt is = earlier_taken ys i j x (omega (arith, lt)) is

found_none : {A : Type 0} (f : A → Bool) (x : A) (xs : List A) (b : Bool) → f x ≡ b → find f (x ∷ xs) ≡ None
    → (f x ≡ false) × (find f xs ≡ None)
found_none f x xs true is e =
    let some : Some x ≡ None = rw is at e in
    absurd cc
found_none f x xs false is e = (is, rw is at e)

none_found : {A : Type 0} (f : A → Bool) (xs : List A) → find f xs ≡ None → All (λ x. f x ≡ false) xs
none_found f [] e = All-nil (λ x. f x ≡ false)
none_found f (x ∷ xs) e =
    let both = found_none f x xs (f x) refl e in
    All-cons (λ y. f y ≡ false) x xs both.0 (none_found f xs both.1)

-- ---- hops

no_class : (path : Path) (streams : List StreamPlan) (classes : List ℕ) → classes_apart path streams (Some classes)
    ≡ Ok tt → find (lists_class streams) classes ≡ None
no_class path streams classes e = by (find (lists_class streams) classes) e
  where
    by : (o : Option ℕ) → refused_class path o ≡ Ok tt → o ≡ None
    by None e = refl
    by (Some c) e = cc

classes_fit : (path : Path) (streams : List StreamPlan) (o : Option (List ℕ)) → classes_apart path streams o ≡ Ok tt
    → All (λ c. lists_class streams c ≡ false) (unwrap_or o [])
classes_fit path streams None e = All-nil (λ c. lists_class streams c ≡ false)
classes_fit path streams (Some classes) e = none_found (lists_class streams) classes (no_class path streams classes e)

classes_small : (o : Option (List ℕ)) → IfSome o (All (λ c. c ≤ 7)) → All (λ c. c ≤ 7) (unwrap_or o [])
classes_small None h = All-nil (λ c. c ≤ 7)
classes_small (Some classes) h = h

pub hop_fits : (peers : List PeerPlan) (link : ℕ) (streams : List StreamPlan) (hop : Option ℕ)
    (classes : Option (List ℕ)) → IfSome hop (Upto 255) → IfSome classes (All (λ c. c ≤ 7))
    → ((id : ℕ) → hop ≡ Some id → HopRuled peers link streams id classes) → FitsHopIfAny streams (hop_of hop classes)
hop_fits peers link streams None classes h c r = tt
hop_fits peers link streams (Some id) classes h c r =
    let ruled = r id refl in
    record {
      id = h;
      id_is_new = ruled.id_new;
      classes = classes_small classes c;
      classes_apart = classes_fit ruled.path streams classes ruled.apart;
    }

-- ---- streams between devices

ends_near : (link id : ℕ) (p : PeerPlan) → p.near ≡ link → p.id ≡ id → is_peer_with_id link id p ≡ true
ends_near link id p near same = rw (eq-eqb p.id id same, eq-eqb p.near link near) refl

ends_far : (link id : ℕ) (p : PeerPlan) → p.far ≡ link → p.id ≡ id → is_peer_with_id link id p ≡ true
ends_far link id p far same = rw (eq-eqb p.id id same, eq-eqb p.far link far) (or_true (p.near == link))
  where
    or_true : (b : Bool) → (b || true) ≡ true
    or_true true = refl
    or_true false = refl

-- the hop of a link that the stream ends at has another ID
hop_other : (hop : Option ℕ) (classes : Option (List ℕ)) (id : ℕ) → ((n : ℕ) → hop ≡ Some n → n ≢ id)
    → hop_has_id (hop_of hop classes) id ≡ false
hop_other None classes id other = refl
hop_other (Some n) classes id other = apart_test n id (other n refl)
  where
    apart_test : (a b : ℕ) → a ≢ b → (a == b) ≡ false
    apart_test a b differ = by (a == b) refl
      where
        by : (c : Bool) → (a == b) ≡ c → c ≡ false
        by true is = absurd (differ (eqb-true a b is))
        by false is = refl

-- no stream and no hop of the link has the ID
no_id : (links : List LinkDraft) (link id : ℕ) (o : Option LinkDraft) → slice_get links link ≡ o
    → has_stream_id (draft_streams o) id ≡ false → ((l : LinkDraft) → o ≡ Some l → (n : ℕ) → l.hop ≡ Some n → n ≢ id)
    → link_has_id (option_map link_of o) id ≡ false
no_id links link id None is own other = refl
no_id links link id (Some l) is own other = rw (own, hop_other l.hop l.hop_classes id (other l refl)) refl

pub links_have_not : (links : List LinkDraft) (link id : ℕ) → link_has links link id ≡ false
    → ((l : LinkDraft) → slice_get links link ≡ Some l → (n : ℕ) → l.hop ≡ Some n → n ≢ id)
    → links_have_id (map link_of links) link id ≡ false
links_have_not links link id own other = subst (λ o. link_has_id o id ≡ false) (sym (slice_get-map link_of links link))
    (no_id links link id (slice_get links link) refl own other)

true_false : true ≡ false → ⊥
true_false e = cc

pub peer_fits : (links : List LinkDraft) (peers earlier : List PeerPlan) (k : ℕ) (p : PeerPlan)
    → slice_get peers k ≡ Some p → PeerHolds p → PeerRuled links earlier p
    → ((i : ℕ) (l : LinkDraft) → slice_get links i ≡ Some l → HopIsRuled peers i l) → FitsPeer (map link_of links) p
peer_fits links peers earlier k p is h r hops = record {
  id = h.id;
  near = rw (length-map links link_of) r.near;
  far = rw (length-map links link_of) r.far;
  apart = λ same. eqb-false p.far p.near r.apart (sym same);
  aggregation = h.aggregation;
  near_id_is_new = links_have_not links p.near p.id r.near_new (λ l there n hop same.
      true_false (sym (ends_near p.near n p refl (sym same))
      ∙ none_any (is_peer_with_id p.near n) peers (hops p.near l there n hop).peers_new k p is));
  far_id_is_new = links_have_not links p.far p.id r.far_new (λ l there n hop same.
      true_false (sym (ends_far p.far n p refl (sym same))
      ∙ none_any (is_peer_with_id p.far n) peers (hops p.far l there n hop).peers_new k p is));
}

pub ids_differ : (links : List LinkDraft) (peers : List PeerPlan)
    → ((k : ℕ) (p : PeerPlan) → slice_get peers k ≡ Some p → PeerRuled links (take k peers) p)
    → AllPairs (λ a b. a.id ≢ b.id) peers
ids_differ links peers each i j d below within =
    let a = slice_get-get_or peers i d (omega (arith, below, within)) in
    let b = slice_get-get_or peers j d within in
    let ruled = each j (get_or peers j d) b in
    eqb-false (get_or peers i d).id (get_or peers j d).id
    (none_any (λ q. q.id == (get_or peers j d).id) (take j peers) ruled.id_new i (get_or peers i d)
    (earlier_taken peers i j (get_or peers i d) below a))
