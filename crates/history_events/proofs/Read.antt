-- The table means the topology of generated events.
use Rattle.std.proofs.Common.{◌≡◌, ◌≢◌, refl, ℕ, ◌+◌, ◌%◌, ◌≤◌, pos, false, nat_lt, List, [], ◌∷◌, length, None}
use Rattle.std.proofs.Common.{Ok, arith, codes, inl, inr}
use Rattle.std.specs.List.{position_from}
use Rattle.std.specs.Str.{bytes_eq}
use Rattle.std.proofs.lemmas.Bool.{cases_Bool}
use Rattle.std.proofs.lemmas.Bool.Decides.{nat_tests}
use Rattle.std.proofs.lemmas.Slice.Eq.{bytes_eq-Decides}
use Rattle.hex.proofs.HexLemmas.{decode_sized-encode_lower}
use Rattle.hex.proofs.OnLiterals.{hex_on_literals}
use Rattle.toml.specs.Data.{Data, array}
use Rattle.toml_walk.specs.Values.{key_bytes}
use Rattle.toml_walk.specs.Paths.{Path, Key as key_step, Place}
use Rattle.toml_walk.specs.Walk.{count_between, each, list, data_list, within_span}
use Rattle.ide_types.specs.declared.plan.Plan.{Plan}
use Rattle.history_events.specs.GeneratedTopology.{the_interface, the_link, the_plan, the_stream}
use Rattle.topology.specs.declared.draft.LinkDraft.{LinkDraft}
use Rattle.topology.specs.declared.draft.PlanDraft.{PlanDraft}
use Rattle.topology.specs.Meaning.{table_plan}
use Rattle.topology.specs.Rules.{hop_rules, link_rules, pair_from, peer_rules, rules}
use Rattle.topology.specs.Tables.{bar_keys, interface_keys, link_keys, region_keys, register_keys, stream_keys, top_keys}
use Rattle.history_events.proofs.TextKeys.{Apart, Differ, Key, Keys}
use Rattle.history_events.proofs.Parts.{are_bytes}
use Rattle.history_events.proofs.Table.{interface_table, key_data, key_list, link_table, stream_table, table_with}

-- ---- lists of keys

key_read : (path : Path) (k : List ℕ) → Key k → key_bytes path (key_data k) ≡ Ok k
key_read path k key = rw (decode_sized-encode_lower k 32 key.long (are_bytes k key.bytes)) refl

each_read : (path : Path) (i : ℕ) (ks : List (List ℕ)) → Keys ks → each key_bytes path i (data_list (key_list ks))
    ≡ Ok ks
each_read path i [] keys = refl
each_read path i (k ∷ ks) keys = rw (key_read (Place i ∷ path) k keys.0, each_read path (i + 1) ks keys.1) refl

as_many : (ks : List (List ℕ)) → length (data_list (key_list ks)) ≡ length ks
as_many [] = refl
as_many (k ∷ ks) = let e = as_many ks in omega (arith, e)

not_less : (m n : ℕ) → n ≤ m → nat_lt m n ≡ false
not_less m n le = grind (arith, nat_tests)

counted : (least most : ℕ) (path : Path) (ds : List Data) → least ≤ length ds → length ds ≤ most
    → within_span (count_between least most) path ds ≡ Ok ds
counted least most path ds enough few = rw (not_less most (length ds) few, not_less (length ds) least enough) refl

keys_read : (least most : ℕ) (path : Path) (ks : List (List ℕ)) → Keys ks → least ≤ length ks → length ks ≤ most
    → list (count_between least most) key_bytes path (array (key_list ks)) ≡ Ok ks
keys_read least most path ks keys enough few =
    let many = as_many ks in
    rw (
      counted least most path (data_list (key_list ks)) (omega (arith, many, enough)) (omega (arith, many, few)),
      each_read path 0 ks keys,
    ) refl

-- ---- the tables

link_draft : List (List ℕ) → LinkDraft
link_draft nonces = record {
  nonces = nonces;
  streams = the_stream ∷ [];
  interfaces = (record { stream = pos 5; interface = the_interface }) ∷ [];
  hop = None;
  hop_classes = None;
}

plan_draft : (pool nonces : List (List ℕ)) → PlanDraft
plan_draft pool nonces = record {
  version = 1;
  portion = 64;
  units_per_key = 4294967296;
  pool = pool;
  links = link_draft nonces ∷ [];
  memory = (record { base = 268435456; size = 65536 }) ∷ [];
  peers = [];
}

stream_read : (path : Path) → stream_keys path stream_table ≡ Ok the_stream
unfolding stream_keys
stream_read path = refl

interface_read : (path : Path) → interface_keys 1 path interface_table
    ≡ Ok (record { stream = pos 5; interface = the_interface })
unfolding interface_keys register_keys bar_keys hex_on_literals
interface_read path = refl

link_read : (path : Path) (nonces : List (List ℕ)) → Keys nonces → length nonces ≤ 1024
    → link_keys 1 path (link_table nonces) ≡ Ok (link_draft nonces)
unfolding link_keys link_draft
link_read path nonces keys few =
    rw (
      keys_read 0 1024 (key_step (codes "nonces") ∷ path) nonces keys (omega arith) few,
      stream_read (Place 0 ∷ key_step (codes "stream") ∷ path),
      interface_read (Place 0 ∷ key_step (codes "interface") ∷ path),
    ) refl

top_read : (pool nonces : List (List ℕ)) → Keys pool → Keys nonces → 6 ≤ length pool → length pool ≤ 6144
    → length nonces ≤ 1024 → top_keys [] (table_with pool nonces) ≡ Ok (plan_draft pool nonces)
unfolding top_keys region_keys plan_draft
top_read pool nonces keys others enough few most =
    rw (
      keys_read 6 6144 (key_step (codes "pool") ∷ []) pool keys enough few,
      link_read (Place 0 ∷ key_step (codes "link") ∷ []) nonces others most,
    ) refl

-- ---- the rules

unequal : (k l : List ℕ) → k ≢ l → bytes_eq k l ≡ false
unequal k l other = elim (cases_Bool (bytes_eq k l)) [
  | inl same ↦ absurd (other ((bytes_eq-Decides k l).0 same))
  | inr apart ↦ apart
]

none_later : (k : List ℕ) (ks : List (List ℕ)) (i : ℕ) → Apart k ks → position_from (bytes_eq k) i ks ≡ None
none_later k [] i apart = refl
none_later k (l ∷ ks) i apart = rw (unequal k l apart.0) (none_later k ks (i + 1) apart.1)

no_pair : (ks : List (List ℕ)) (i : ℕ) → Differ ks → pair_from bytes_eq i ks ≡ None
no_pair [] i differ = refl
no_pair (k ∷ ks) i differ = rw (none_later k ks (i + 1) differ.0, no_pair ks (i + 1) differ.1) refl

rules_hold : (pool nonces : List (List ℕ)) → Differ pool → length pool % 6 ≡ 0 → rules (plan_draft pool nonces) ≡ Ok tt
unfolding rules link_rules peer_rules hop_rules plan_draft link_draft
rules_hold pool nonces differ sixes = rw (sixes, no_pair pool 0 differ) refl

abbrev pub plan_with : (pool nonces : List (List ℕ)) → Plan
plan_with pool nonces = record the_plan { pool = pool; links = (record the_link { nonces = nonces }) ∷ [] }

pub plan_read : (pool nonces : List (List ℕ)) → Keys pool → Keys nonces → Differ pool → 6 ≤ length pool
    → length pool ≤ 6144 → length pool % 6 ≡ 0 → length nonces ≤ 1024
    → table_plan (table_with pool nonces) ≡ Ok (plan_with pool nonces)
unfolding plan_draft link_draft
plan_read pool nonces keys others differ enough few sixes most =
    rw (top_read pool nonces keys others enough few most, rules_hold pool nonces differ sixes) refl
