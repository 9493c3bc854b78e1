-- Every plan that a topology means meets the bounds and rules of plans.
use Rattle.std.proofs.Common.{◌≡◌, ◌≢◌, ◌∙◌, sym, refl, ℕ, List, [], ◌∷◌, map, length, take, false, Some, Result, Ok}
use Rattle.std.proofs.Common.{Err, arith}
use Rattle.std.specs.Prelude.{sum_by, slice_get, IfOk}
use Rattle.std.proofs.lemmas.Option.{slice_get-get_or}
use Rattle.std.specs.List.{AllPairs}
use Rattle.std.specs.Str.{bytes_eq}
use Rattle.std.proofs.lemmas.Bool.{ltb-false, eqb-false}
use Rattle.std.proofs.lemmas.Bool.Decides.{not_from_Decides}
use Rattle.std.proofs.lemmas.List.{length-map}
use Rattle.std.proofs.lemmas.List.Elements.{All-map}
use Rattle.std.proofs.lemmas.List.Sums.{sum_by-cons}
use Rattle.std.proofs.lemmas.Slice.Eq.{bytes_eq-Decides}
use Rattle.toml.specs.Data.{Members}
use Rattle.ide_types.specs.declared.interface.InterfacePlan.{InterfacePlan}
use Rattle.ide_types.specs.declared.plan.LinkPlan.{LinkPlan}
use Rattle.ide_types.specs.declared.plan.PeerPlan.{PeerPlan}
use Rattle.ide_types.specs.declared.plan.Plan.{Plan}
use Rattle.ide_types.specs.Plans.{same_id, both_default, share_class, overlap}
use Rattle.ide_types.specs.Fits.{FitsInterface, FitsLink, FitsPlan}
use Rattle.toml_walk.specs.declared.fault.PlanError.{PlanError}
use Rattle.toml_walk.specs.Fault.{◌>>=◌, Gives}
use Rattle.toml_walk.proofs.Holds.{Holds, next, gives}
use Rattle.topology.specs.declared.draft.InterfaceDraft.{InterfaceDraft}
use Rattle.topology.specs.declared.draft.LinkDraft.{LinkDraft}
use Rattle.topology.specs.declared.draft.PlanDraft.{PlanDraft}
use Rattle.topology.specs.Tables.{top_keys}
use Rattle.topology.specs.Rules.{same_requester, interface_count, rules}
use Rattle.topology.specs.Meaning.{link_of, drafted_plan, table_plan}
use Rattle.topology.proofs.DraftFits.{DraftFits, LinkHolds, TopHolds, top_holds}
use Rattle.topology.proofs.RuleFits.{LinkRuled, Ruled, ruled, clash_free, clash_free_map, PeerRuled, peers_ruled}
use Rattle.topology.proofs.RuleFits.{HopIsRuled, hops_ruled}
use Rattle.topology.proofs.HopFits.{hop_fits, peer_fits, ids_differ}

weaker_pairs : {A : Type 0} (R S : A → A → Type 0) (xs : List A) → ((a b : A) → R a b → S a b) → AllPairs R xs
    → AllPairs S xs
weaker_pairs R S xs w h = λ i j d below lt. w _ _ (h i j d below lt)

-- a link that meets its keys' bounds and its rules
link_fits : (peers : List PeerPlan) (link : ℕ) (l : LinkDraft) → LinkHolds l → LinkRuled l → HopIsRuled peers link l
    → FitsLink (link_of l)
unfolding DraftFits
link_fits peers link l h r o = record {
  nonces = h.nonces;
  each_nonce = h.each_nonce;
  streams_least = h.streams_least;
  streams_most = h.streams_most;
  each_stream = h.each_stream;
  ids_differ = weaker_pairs (λ s t. same_id s t ≡ false) (λ s t. s.id ≢ t.id) l.streams (λ s t e. eqb-false s.id t.id e)
      (clash_free _ same_id l.streams r.ids);
  one_default = clash_free _ both_default l.streams r.defaults;
  classes_apart = clash_free _ share_class l.streams r.classes;
  each_interface = All-map (FitsInterface l.streams) (λ (d : InterfaceDraft). d.interface) l.interfaces
      (λ k d lt. h.each_interface k d lt l.streams h.each_stream (r.bound k d lt));
  requesters_differ = clash_free_map _ same_requester (λ (i j : InterfacePlan). i.requester ≢ j.requester)
      (λ (d : InterfaceDraft). d.interface) l.interfaces
      (λ a b e. eqb-false a.interface.requester b.interface.requester e) r.requesters;
  hop = hop_fits peers link l.streams l.hop l.hop_classes h.hop h.hop_classes o;
}

counts : (ls : List LinkDraft) → sum_by (λ (l : LinkPlan). length l.interfaces) (map link_of ls) ≡ interface_count ls
counts [] = refl
counts (l ∷ ls) =
    let one : length (link_of l).interfaces ≡ length l.interfaces = length-map l.interfaces
    (λ (d : InterfaceDraft). d.interface) in
    sum_by-cons (λ (p : LinkPlan). length p.interfaces) (link_of l) (map link_of ls) ∙ rw (one, counts ls)
    (sym (sum_by-cons (λ (d : LinkDraft). length d.interfaces) l ls))

-- the bounds of each key come from its reading, the rest from the rule that names it
plan_fits : (d : PlanDraft) → TopHolds d → Ruled d → FitsPlan (drafted_plan d)
plan_fits d h r =
    let links : length (map link_of d.links) ≡ length d.links = length-map d.links link_of in
    let hops : (i : ℕ) (l : LinkDraft) → slice_get d.links i ≡ Some l
    → HopIsRuled d.peers i l = (λ i l is. hops_ruled d.peers 0 d.links r.hops i i l (omega arith) is) in
    let peers : (k : ℕ) (p : PeerPlan) → slice_get d.peers k ≡ Some p
    → PeerRuled d.links (take k d.peers) p =
    (λ k p is. peers_ruled d.links d.peers 0 d.peers r.peers k k p (omega arith)
    is) in
    record {
      version_least = h.version.least;
      version_most = h.version.most;
      portion_least = h.portion.least;
      portion_most = h.portion.most;
      units_least = h.units.least;
      units_most = h.units.most;
      pool_least = h.pool.least;
      pool_most = ltb-false 6144 (length d.pool) h.pool.most;
      pool_sixes = r.pool_sixes;
      each_key = h.pool.each;
      keys_differ = weaker_pairs (λ a b. bytes_eq a b ≡ false) (λ a b. a ≢ b) d.pool
          (λ a b e. not_from_Decides _ (bytes_eq-Decides a b) e) (clash_free _ bytes_eq d.pool r.pool);
      links_least = rw links h.links.least;
      links_most = rw links (ltb-false 8 (length d.links) h.links.most);
      each_link = All-map FitsLink link_of d.links
          (λ k l lt. link_fits d.peers k _ (h.links.each k l lt) (r.each_link k l lt)
          (hops k _ (slice_get-get_or d.links k l lt)));
      interfaces_most = rw (counts d.links) r.interfaces;
      regions_most = ltb-false 16 (length d.memory) h.regions.most;
      each_region = h.regions.each;
      memory_most = r.memory;
      regions_apart = clash_free _ overlap d.memory r.regions;
      peers_most = ltb-false 8 (length d.peers) h.peers.most;
      each_peer = λ k p lt. peer_fits d.links d.peers (take k d.peers) k _ (slice_get-get_or d.peers k p lt)
          (h.peers.each k p lt) (peers k _ (slice_get-get_or d.peers k p lt)) hops;
      peer_ids_differ = ids_differ d.links d.peers peers;
    }

meaning_fits : (ms : Members) → Holds FitsPlan (table_plan ms)
meaning_fits ms =
    next TopHolds FitsPlan (top_keys [] ms) (λ d. rules d >>= λ _. Ok (drafted_plan d)) (top_holds [] ms) (λ d h.
    next (λ _. rules d ≡ Ok tt) FitsPlan (rules d) (λ _. Ok (drafted_plan d)) (record { given = λ u e. e }) (λ _ e.
    gives FitsPlan (drafted_plan d) (plan_fits d h (ruled d e))))

-- a plan that is given
pub given_fits : (ms : Members) (result : Result Plan PlanError) → Gives (λ p. p) result (table_plan ms)
    → IfOk result FitsPlan
given_fits ms (Ok p) g = (meaning_fits ms).given p g
given_fits ms (Err e) g = tt
