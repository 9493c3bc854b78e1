-- What the keys of a topology say, before the rules over several values, meets every bound of the keys.
use Rattle.std.proofs.Common.{◌≡◌, sym, refl, ℕ, ℤ, pos, negsuc, ◌≤◌, ◌<◌, ◌==◌, ◌&&◌, ◌||◌, nat_le, List, [], ◌∷◌}
use Rattle.std.proofs.Common.{length, Bool, true, false, arith, codes, lit≤, inl, inr}
use Rattle.std.specs.Prelude.{Option, None, IfSome}
use Rattle.std.specs.List.{All}
use Rattle.std.proofs.lemmas.Bool.{ltb-false, eqb-true, eq-eqb, le-leb, and_parts, and_from, or_cases}
use Rattle.std.proofs.lemmas.List.Elements.{All-nil, All-head, All-tail}
use Rattle.toml.specs.Data.{Data, Members}
use Rattle.ide_types.specs.declared.stream.StreamPlan.{StreamPlan}
use Rattle.ide_types.specs.Plans.{has_selective, is_selective}
use Rattle.ide_types.specs.Fits.{AreBytes, IsKey, FitsStream, FitsBar, FitsInterface, FitsRegion}
use Rattle.toml_walk.specs.declared.bounds.Form.TheVariants.{Pages}
use Rattle.toml_walk.specs.Bounds.{greatest, within, bounds_of_form}
use Rattle.toml_walk.specs.Paths.{Path}
use Rattle.toml_walk.specs.Walk.{only_known, required_value, optional, table, list, count_between, any_number}
use Rattle.toml_walk.specs.Walk.{given_value}
use Rattle.toml_walk.specs.Values.{integer, number, truth, key_bytes, hex_bytes}
use Rattle.toml_walk.proofs.Holds.{Holds, gives, anything, next, weaker, Admitted, Listed, number_holds, key_holds}
use Rattle.toml_walk.proofs.Holds.{hex_holds, required_holds, optional_holds, given_holds, table_holds, list_holds}
use Rattle.topology.specs.declared.draft.LinkDraft.{LinkDraft}
use Rattle.topology.specs.declared.draft.PlanDraft.{PlanDraft}
use Rattle.topology.specs.Tables.{stream_keys, bar_keys, stream_id_of, register_keys, interface_names, interface_keys}
use Rattle.topology.specs.Tables.{link_names, link_keys, region_keys, peer_keys, is_newer, top_names, top_keys}
use Rattle.topology.specs.Rules.{is_id, is_bound}
use Rattle.topology.proofs.TableFits.{Upto, upto, stream_holds, bar_holds, region_holds, PeerHolds, peer_holds}
use Rattle.topology.specs.declared.draft.InterfaceDraft.{InterfaceDraft}
use Rattle.topology.specs.declared.draft.RegisterDraft.{RegisterDraft}

id_is : (z : ℤ) (id : ℕ) → id ≤ 255 → is_id z id ≡ true → (id == stream_id_of z) ≡ true
id_is (pos n) id small h =
    let e : n ≡ id = eqb-true n id h in
    let low : nat_le n 255 ≡ true = le-leb n 255 (omega arith) in
    eq-eqb id _ (rw low (sym e))
id_is (negsuc n) id small h = cc

-- the interface is bound to a selective stream, by its ID
bound_selective : (z : ℤ) (streams : List StreamPlan) → All FitsStream streams → is_bound streams z ≡ true
    → has_selective (stream_id_of z) streams ≡ true
bound_selective z [] fits h = cc
bound_selective z (s ∷ ss) fits h =
    elim (or_cases (is_selective s.selector && is_id z s.id) (is_bound ss z) h) [
      | inl here ↦
          let parts = and_parts (is_selective s.selector) (is_id z s.id) here in
          let one : (is_selective s.selector && s.id == stream_id_of z)
          ≡ true = and_from _ _ parts.0 (id_is z s.id (All-head FitsStream s ss fits).id parts.1) in
          rw one refl
      | inr later ↦ or_right _ (has_selective (stream_id_of z) ss)
          (bound_selective z ss (All-tail FitsStream s ss fits) later)
    ]
  where
    or_right : (a b : Bool) → b ≡ true → (a || b) ≡ true
    or_right true b h = refl
    or_right false b h = h

-- an interface meets its bounds if its stream is one of these
unfoldable pub DraftFits : InterfaceDraft → Type 0
DraftFits d = (streams : List StreamPlan) → All FitsStream streams → is_bound streams d.stream ≡ true
    → FitsInterface streams d.interface

bars_hold : (path : Path) (d : Data) → Holds (λ xs. (length xs ≤ 6) × All FitsBar xs)
    (list (count_between 0 6) (table bar_keys) path d)
bars_hold path d =
    weaker (Listed (count_between 0 6) FitsBar) _ _
    (list_holds _ FitsBar (table bar_keys) (table_holds FitsBar bar_keys bar_holds) path d)
    (λ xs l. (ltb-false 6 (length xs) l.most, l.each))

pub record FitsRegisters (r : RegisterDraft) : Type 0 where
  pub command : r.command ≤ 65535
  pub msix : r.msix ≤ 65535
  pub lnr : r.lnr ≤ 65535
  pub cache_line : r.cache_line ≤ 255
  pub tph : r.tph ≤ 4294967295
  pub pasid : r.pasid ≤ 65535
  pub ats : r.ats ≤ 65535

registers_hold : (t : Path) (ms : Members) → Holds FitsRegisters (register_keys t ms)
unfolding register_keys
registers_hold t ms =
    next (Upto 65535) FitsRegisters (optional t ms (codes "command") 0 (number (within 0 65535))) _
    (optional_holds _ t ms (codes "command") 0 _ (lit≤ tt) (upto 65535)) (λ command command_fits.
    next (Upto 65535) FitsRegisters (optional t ms (codes "msix") 0 (number (within 0 65535))) _
    (optional_holds _ t ms (codes "msix") 0 _ (lit≤ tt) (upto 65535)) (λ msix msix_fits.
    next (Upto 65535) FitsRegisters (optional t ms (codes "lnr") 0 (number (within 0 65535))) _
    (optional_holds _ t ms (codes "lnr") 0 _ (lit≤ tt) (upto 65535)) (λ lnr lnr_fits.
    next (Upto 255) FitsRegisters (optional t ms (codes "cacheline") 0 (number (within 0 255))) _
    (optional_holds _ t ms (codes "cacheline") 0 _ (lit≤ tt) (upto 255)) (λ line line_fits.
    next (Upto 4294967295) FitsRegisters (optional t ms (codes "tph") 0 (number (within 0 4294967295))) _
    (optional_holds _ t ms (codes "tph") 0 _ (lit≤ tt) (upto 4294967295)) (λ tph tph_fits.
    next (Upto 65535) FitsRegisters (optional t ms (codes "pasid") 0 (number (within 0 65535))) _
    (optional_holds _ t ms (codes "pasid") 0 _ (lit≤ tt) (upto 65535)) (λ pasid pasid_fits.
    next (Upto 65535) FitsRegisters (optional t ms (codes "ats") 0 (number (within 0 65535))) _
    (optional_holds _ t ms (codes "ats") 0 _ (lit≤ tt) (upto 65535)) (λ ats ats_fits.
    gives FitsRegisters _ (record {
      command = command_fits;
      msix = msix_fits;
      lnr = lnr_fits;
      cache_line = line_fits;
      tph = tph_fits;
      pasid = pasid_fits;
      ats = ats_fits;
    }))))))))

-- key by key, as the keys are read: each reader gives its bound, and the last step collects them
pub interface_holds : (version : ℕ) (t : Path) (ms : Members) → Holds DraftFits (interface_keys version t ms)
unfolding interface_keys DraftFits
interface_holds version t ms =
    next (λ _. Unit {0}) DraftFits (only_known t (interface_names version) ms) _ (anything _) (λ _ _.
    next (Upto 65535) DraftFits (required_value t ms (codes "rid") (number (within 0 65535))) _
    (required_holds _ t ms (codes "rid") _ (upto 65535)) (λ rid rid_fits.
    next (λ _. Unit {0}) DraftFits (required_value t ms (codes "stream") integer) _ (anything _) (λ z _.
    next (Upto 31) DraftFits (optional t ms (codes "flags") 0 (number (within 0 31))) _
    (optional_holds _ t ms (codes "flags") 0 _ (lit≤ tt) (upto 31)) (λ flags flags_fit.
    next (Admitted (bounds_of_form 0 greatest Pages)) DraftFits
    (optional t ms (codes "offset") 0 (number (bounds_of_form 0 greatest Pages))) _
    (optional_holds _ t ms (codes "offset") 0 _ (record { least = lit≤ tt; most = lit≤ tt; form = refl })
    (number_holds _)) (λ offset offset_fits.
    next FitsRegisters DraftFits (register_keys t ms) _ (registers_hold t ms) (λ registers registers_fit.
    next (λ _. Unit {0}) DraftFits (optional t ms (codes "reads") false truth) _ (anything _) (λ reads _.
    next (λ bytes. (length bytes ≤ 1024) × AreBytes bytes) DraftFits (optional t ms (codes "info") [] (hex_bytes 1024))
    _
    (optional_holds _ t ms (codes "info") [] _ (lit≤ tt, All-nil (λ b. b < 256)) (hex_holds 1024)) (λ info info_fits.
    next (λ xs. (length xs ≤ 6) × All FitsBar xs) DraftFits
    (optional t ms (codes "bars") [] (list (count_between 0 6) (table bar_keys))) _
    (optional_holds _ t ms (codes "bars") [] _ (lit≤ tt, All-nil FitsBar) bars_hold) (λ bars bars_fit.
    gives DraftFits _ (λ streams streams_fit bound. record {
      requester = rid_fits;
      stream = bound_selective z streams streams_fit bound;
      flags = flags_fit;
      offset = eqb-true _ _ offset_fits.form;
      offset_most = omega (arith, offset_fits.most);
      command = registers_fit.command;
      msix = registers_fit.msix;
      lnr = registers_fit.lnr;
      cache_line = registers_fit.cache_line;
      tph = omega (arith, registers_fit.tph);
      pasid = registers_fit.pasid;
      ats = registers_fit.ats;
      info = info_fits.0;
      info_bytes = info_fits.1;
      bars = bars_fit.0;
      each_bar = bars_fit.1;
    }))))))))))

pub record LinkHolds (l : LinkDraft) : Type 0 where
  pub nonces : length l.nonces ≤ 1024
  pub each_nonce : All IsKey l.nonces
  pub streams_least : 1 ≤ length l.streams
  pub streams_most : length l.streams ≤ 16
  pub each_stream : All FitsStream l.streams
  pub each_interface : All DraftFits l.interfaces
  pub hop : IfSome l.hop (Upto 255)
  pub hop_classes : IfSome l.hop_classes (All (λ c. c ≤ 7))

classes_hold : (path : Path) (d : Data) → Holds (All (λ c. c ≤ 7)) (list any_number (number (within 0 7)) path d)
classes_hold path d = weaker (Listed any_number (Upto 7)) _ _
    (list_holds _ (Upto 7) (number (within 0 7)) (upto 7) path d) (λ xs l. l.each)

nonces_hold : (path : Path) (d : Data) → Holds (λ xs. (length xs ≤ 1024) × All IsKey xs)
    (list (count_between 0 1024) key_bytes path d)
nonces_hold path d = weaker (Listed (count_between 0 1024) IsKey) _ _ (list_holds _ IsKey key_bytes key_holds path d)
    (λ xs l. (ltb-false 1024 (length xs) l.most, l.each))

interfaces_hold : (version : ℕ) (path : Path) (d : Data) → Holds (All DraftFits)
    (list any_number (table (interface_keys version)) path d)
interfaces_hold version path d = weaker (Listed any_number DraftFits) _ _
    (list_holds _ DraftFits (table (interface_keys version))
    (table_holds DraftFits (interface_keys version) (interface_holds version)) path d)
    (λ xs l. l.each)

-- key by key, as the keys are read
pub link_holds : (version : ℕ) (t : Path) (ms : Members) → Holds LinkHolds (link_keys version t ms)
unfolding link_keys
link_holds version t ms =
    next (λ _. Unit {0}) LinkHolds (only_known t (link_names version) ms) _ (anything _) (λ _ _.
    next (λ xs. (length xs ≤ 1024) × All IsKey xs) LinkHolds
    (optional t ms (codes "nonces") [] (list (count_between 0 1024) key_bytes)) _
    (optional_holds _ t ms (codes "nonces") [] _ (lit≤ tt, All-nil IsKey) nonces_hold) (λ nonces nonces_fit.
    next (Listed (count_between 1 16) FitsStream) LinkHolds
    (required_value t ms (codes "stream") (list (count_between 1 16) (table stream_keys))) _
    (required_holds _ t ms (codes "stream") _
    (list_holds _ FitsStream (table stream_keys) (table_holds FitsStream stream_keys stream_holds)))
    (λ streams streams_fit.
    next (All DraftFits) LinkHolds
    (optional t ms (codes "interface") [] (list any_number (table (interface_keys version)))) _
    (optional_holds _ t ms (codes "interface") [] _ (All-nil DraftFits) (interfaces_hold version))
    (λ interfaces interfaces_fit.
    next (λ (o : Option ℕ). IfSome o (Upto 255)) LinkHolds
    (optional t ms (codes "hop") None (given_value (number (within 0 255)))) _
    (optional_holds _ t ms (codes "hop") None _ tt (given_holds (Upto 255) _ (upto 255))) (λ hop hop_fits.
    next (λ (o : Option (List ℕ)). IfSome o (All (λ c. c ≤ 7))) LinkHolds
    (optional t ms (codes "hop_tcs") None (given_value (list any_number (number (within 0 7))))) _
    (optional_holds _ t ms (codes "hop_tcs") None _ tt (given_holds (All (λ c. c ≤ 7)) _ classes_hold))
    (λ hop_classes hop_classes_fit.
    gives LinkHolds _ (record {
      nonces = nonces_fit.0;
      each_nonce = nonces_fit.1;
      streams_least = streams_fit.least;
      streams_most = ltb-false 16 (length streams) streams_fit.most;
      each_stream = streams_fit.each;
      each_interface = interfaces_fit;
      hop = hop_fits;
      hop_classes = hop_classes_fit;
    })))))))

pub record TopHolds (d : PlanDraft) : Type 0 where
  pub version : Admitted (within 1 2) d.version
  pub portion : Admitted (within 16 65535) d.portion
  pub units : Admitted (within 1 4294967296) d.units_per_key
  pub pool : Listed (count_between 6 6144) IsKey d.pool
  pub links : Listed (count_between 1 8) LinkHolds d.links
  pub regions : Listed (count_between 0 16) FitsRegion d.memory
  pub peers : Listed (count_between 0 8) PeerHolds d.peers

-- key by key, as the keys are read
pub top_holds : (t : Path) (ms : Members) → Holds TopHolds (top_keys t ms)
unfolding top_keys
top_holds t ms =
    next (λ _. Unit {0}) TopHolds (only_known t (top_names (is_newer ms)) ms) _ (anything _) (λ _ _.
    next (Admitted (within 1 2)) TopHolds (required_value t ms (codes "version") (number (within 1 2))) _
    (required_holds _ t ms (codes "version") _ (number_holds _)) (λ version version_fits.
    next (Admitted (within 16 65535)) TopHolds (optional t ms (codes "portion") 64 (number (within 16 65535))) _
    (optional_holds _ t ms (codes "portion") 64 _ (record { least = lit≤ tt; most = lit≤ tt; form = refl })
    (number_holds _)) (λ portion portion_fits.
    next (Admitted (within 1 4294967296)) TopHolds
    (optional t ms (codes "units_per_key") 4294967296 (number (within 1 4294967296))) _
    (optional_holds _ t ms (codes "units_per_key") 4294967296 _
    (record { least = lit≤ tt; most = lit≤ tt; form = refl }) (number_holds _)) (λ units units_fit.
    next (Listed (count_between 6 6144) IsKey) TopHolds
    (required_value t ms (codes "pool") (list (count_between 6 6144) key_bytes)) _
    (required_holds _ t ms (codes "pool") _ (list_holds _ IsKey key_bytes key_holds)) (λ pool pool_fits.
    next (Listed (count_between 1 8) LinkHolds) TopHolds
    (required_value t ms (codes "link") (list (count_between 1 8) (table (link_keys version)))) _
    (required_holds _ t ms (codes "link") _
    (list_holds _ LinkHolds (table (link_keys version))
    (table_holds LinkHolds (link_keys version) (link_holds version)))) (λ links links_fit.
    next (Listed (count_between 0 16) FitsRegion) TopHolds
    (optional t ms (codes "memory") [] (list (count_between 0 16) (table region_keys))) _
    (optional_holds _ t ms (codes "memory") [] _ (record { least = lit≤ tt; most = refl; each = All-nil FitsRegion })
    (list_holds _ FitsRegion (table region_keys) (table_holds FitsRegion region_keys region_holds)))
    (λ memory memory_fits.
    next (Listed (count_between 0 8) PeerHolds) TopHolds
    (optional t ms (codes "p2p") [] (list (count_between 0 8) (table peer_keys))) _
    (optional_holds _ t ms (codes "p2p") [] _ (record { least = lit≤ tt; most = refl; each = All-nil PeerHolds })
    (list_holds _ PeerHolds (table peer_keys) (table_holds PeerHolds peer_keys peer_holds)))
    (λ peers peers_fit.
    gives TopHolds _ (record {
      version = version_fits;
      portion = portion_fits;
      units = units_fit;
      pool = pool_fits;
      links = links_fit;
      regions = memory_fits;
      peers = peers_fit;
    })))))))))
