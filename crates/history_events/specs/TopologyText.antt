-- The topology of generated events as a text in TOML, laid out as TOML is printed with a line for each element of a
-- list.
use Rattle.std.specs.Prelude.{ℕ, List, ◌++◌, flat_map, codes}
use Rattle.hex.specs.Hex.{encode_lower}
use Rattle.ide_types.specs.Names.{Text}
use Rattle.history_events.specs.GeneratedTopology.{keys_below}

-- the 64 hexadecimal digits of a key, on a line of its own
abbrev pub key_item : List ℕ → Text
key_item key = codes "\n    \"" ++ (encode_lower key ++ codes "\",")

abbrev pub key_items : List (List ℕ) → Text
key_items keys = flat_map key_item keys

-- what stands after the keys of the pool, and after the nonces
unfoldable pub link_text : Text
link_text = codes "\n]\nversion = 1\n\n[[link]]\nnonces = ["

-- 32 zero bytes
abbrev pub zeros : Text
zeros = codes "0000000000000000000000000000000000000000000000000000000000000000"

unfoldable pub interface_text : Text
interface_text =
    codes "\n]\n\n[[link.interface]]\ncacheline = 16\ncommand = 6\ninfo = \""
    ++ (zeros ++ (zeros ++ codes "\"\nrid = 256\nstream = 5\n"))

unfoldable pub bar_text : Text
bar_text = codes "\n[[link.interface.bars]]\nbase = 1073741824\npages = 16\n"

unfoldable pub stream_text : Text
stream_text = codes "\n[[link.stream]]\nid = 5\nkind = \"selective\"\n"

unfoldable pub range_text : Text
range_text = codes "ranges = [[\n    1073741824,\n    1074790399,\n]]\nrid = [\n    256,\n    256,\n]\n"

unfoldable pub memory_text : Text
memory_text = codes "\n[[memory]]\nbase = 268435456\nsize = 65536\n"

-- by the keys of the pool and the nonces of the link
abbrev pub topology_with : (pool nonces : List (List ℕ)) → Text
topology_with pool nonces =
    codes "pool = [" ++ (key_items pool ++ (link_text ++ (key_items nonces ++ (interface_text ++ (bar_text
    ++ (stream_text ++ (range_text ++ memory_text)))))))

-- of 6,144 keys and 1,024 nonces
unfoldable pub generated_topology : Text
generated_topology = topology_with (keys_below 6144) (keys_below 1024)
