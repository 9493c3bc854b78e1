-- The topology's text is ASCII of no great length, and means the topology.
use Rattle.std.proofs.Common.{◌≡◌, refl, sym, ap, ◌∙◌, subst, ℕ, ◌+◌, ◌*◌, ◌%◌, ◌≤◌, true, nat_lt, List}
use Rattle.std.proofs.Common.{[], ◌∷◌, ◌++◌, length, Ok, arith, lit≤, length-append, codes}
use Rattle.std.specs.List.{list_all}
use Rattle.std.specs.Str.{IsAscii}
use Rattle.std.proofs.lemmas.Bool.{ltb-true}
use Rattle.std.proofs.lemmas.List.Sums.{AllPass-from_list_all}
use Rattle.std.proofs.lemmas.Str.{IsAscii-append, IsUtf8-from_ascii}
use Rattle.std.proofs.lemmas.Str.Ascii.{IsAscii-from_all}
use Rattle.hex.specs.Hex.{encode_lower, lower_digits}
use Rattle.hex.proofs.HexLemmas.{IsAscii-encode_with, length-encode_with}
use Rattle.toml.proofs.ReadBack.{parse_document-printed}
use Rattle.history_events.specs.GeneratedTopology.{keys_below, the_plan}
use Rattle.history_events.proofs.NumberedKeys.{keys_differ, keys_fit, length_keys}
use Rattle.ide_types.specs.Names.{Text}
use Rattle.topology.specs.Meaning.{plan_of, plan_of_document}
use Rattle.topology.proofs.Document.{document_read}
use Rattle.history_events.specs.TopologyText.{bar_text, generated_topology, interface_text, key_item, key_items}
use Rattle.history_events.specs.TopologyText.{link_text, memory_text, range_text, stream_text, topology_with}
use Rattle.history_events.proofs.TextKeys.{Differ, Key, Keys, differ_of, keys_of}
use Rattle.history_events.proofs.Printed.{printed}
use Rattle.history_events.proofs.Read.{plan_read, plan_with}
use Rattle.history_events.proofs.Table.{dated, flat, sorted, table_with}

-- ---- its bytes

ascii : (text : Text) → list_all (λ b. nat_lt b 128) text ≡ true → IsAscii text
ascii text h = IsAscii-from_all text
    (λ k d lt. ltb-true _ 128 (AllPass-from_list_all (λ b. nat_lt b 128) text h k d lt))

key_ascii : (k : List ℕ) → IsAscii (key_item k)
key_ascii k =
    IsAscii-append (codes "\n    \"") (encode_lower k ++ codes "\",") (ascii (codes "\n    \"") refl)
    (IsAscii-append (encode_lower k) (codes "\",") (IsAscii-encode_with lower_digits k (ascii lower_digits refl))
    (ascii (codes "\",") refl))

keys_ascii : (ks : List (List ℕ)) → IsAscii (key_items ks)
keys_ascii [] = ascii [] refl
keys_ascii (k ∷ ks) = IsAscii-append (key_item k) (key_items ks) (key_ascii k) (keys_ascii ks)

abbrev fixed_text : Text
fixed_text = interface_text ++ (bar_text ++ (stream_text ++ (range_text ++ memory_text)))

link_ascii : IsAscii link_text
unfolding link_text
link_ascii = ascii link_text refl

fixed_ascii : IsAscii fixed_text
unfolding interface_text bar_text stream_text range_text memory_text
fixed_ascii = ascii fixed_text refl

text_ascii : (pool nonces : List (List ℕ)) → IsAscii (topology_with pool nonces)
text_ascii pool nonces =
    IsAscii-append (codes "pool = [") _ (ascii (codes "pool = [") refl)
    (IsAscii-append (key_items pool) _ (keys_ascii pool)
    (IsAscii-append link_text _ link_ascii
    (IsAscii-append (key_items nonces) _ (keys_ascii nonces) fixed_ascii)))

-- ---- its length

key_long : (k : List ℕ) → Key k → length (key_item k) ≡ 72
key_long k key =
    let digits = length-encode_with lower_digits k in
    let both = length-append (encode_lower k) (codes "\",") in
    let long = key.long in
    omega (arith, digits, both, long)

keys_long : (ks : List (List ℕ)) → Keys ks → length (key_items ks) ≡ 72 * length ks
keys_long [] keys = refl
keys_long (k ∷ ks) keys =
    let first = key_long k keys.0 in
    let later = keys_long ks keys.1 in
    let both = length-append (key_item k) (key_items ks) in
    omega (arith, first, later, both)

link_long : length link_text ≤ 40
unfolding link_text
link_long = lit≤ tt

fixed_long : length fixed_text ≤ 600
unfolding interface_text bar_text stream_text range_text memory_text
fixed_long = lit≤ tt

text_short : (pool nonces : List (List ℕ)) → Keys pool → Keys nonces
    → length (topology_with pool nonces) ≤ 648 + 72 * (length pool + length nonces)
text_short pool nonces keys others =
    let one = length-append (codes "pool = [") (key_items pool ++ (link_text ++ (key_items nonces ++ fixed_text))) in
    let two = length-append (key_items pool) (link_text ++ (key_items nonces ++ fixed_text)) in
    let three = length-append link_text (key_items nonces ++ fixed_text) in
    let four = length-append (key_items nonces) fixed_text in
    let first = keys_long pool keys in
    let second = keys_long nonces others in
    let link = link_long in
    let last = fixed_long in
    omega (arith, one, two, three, four, first, second, link, last)

-- ---- its meaning

text_read : (pool nonces : List (List ℕ)) → Keys pool → Keys nonces → Differ pool → 6 ≤ length pool
    → length pool ≤ 6144 → length pool % 6 ≡ 0 → 2 ≤ length nonces → length nonces ≤ 1024
    → plan_of (topology_with pool nonces) ≡ Ok (plan_with pool nonces)
text_read pool nonces keys others differ enough few sixes two most =
    let text = topology_with pool nonces in
    let table = table_with pool nonces in
    let read = parse_document-printed true table text
    (printed pool nonces keys others (omega (arith, enough)) two) (flat pool nonces) (dated pool nonces)
    (sorted pool nonces) in
    ap plan_of_document (document_read text table (IsUtf8-from_ascii text (text_ascii pool nonces)) read)
    ∙ plan_read pool nonces keys others differ enough few sixes most

pool_keys : Keys (keys_below 6144)
pool_keys = keys_of (keys_below 6144) (keys_fit 6144)

nonce_keys : Keys (keys_below 1024)
nonce_keys = keys_of (keys_below 1024) (keys_fit 1024)

pub topology_read : plan_of generated_topology ≡ Ok the_plan
unfolding generated_topology
topology_read =
    let pool_long = length_keys 6144 in
    let nonces_long = length_keys 1024 in
    text_read (keys_below 6144) (keys_below 1024) pool_keys nonce_keys
    (differ_of (keys_below 6144) (keys_differ 6144 (lit≤ tt))) (omega (arith, pool_long)) (omega (arith, pool_long))
    (subst (λ (n : ℕ). n % 6 ≡ 0) (sym pool_long) refl) (omega (arith, nonces_long)) (omega (arith, nonces_long))

pub topology_short : length generated_topology ≤ 1048576
unfolding generated_topology
topology_short =
    let pool_long = length_keys 6144 in
    let nonces_long = length_keys 1024 in
    let all = text_short (keys_below 6144) (keys_below 1024) pool_keys nonce_keys in
    omega (arith, pool_long, nonces_long, all)
