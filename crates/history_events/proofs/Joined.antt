-- A text that was written part by part.
use Rattle.std.proofs.Common.{◌≡◌, ◌∙◌, ℕ, List, ◌++◌, append_assoc, codes}
use Rattle.ide_types.specs.Names.{Text}
use Rattle.history_events.specs.TopologyText.{bar_text, interface_text, key_items, link_text, memory_text, range_text}
use Rattle.history_events.specs.TopologyText.{stream_text, topology_with}

pub joined : (pool nonces : List (List ℕ)) (a b c d e f g h i : Text) → a ≡ codes "pool = [" → b ≡ a ++ key_items pool
    → c ≡ b ++ link_text → d ≡ c ++ key_items nonces → e ≡ d ++ interface_text → f ≡ e ++ bar_text
    → g ≡ f ++ stream_text → h ≡ g ++ range_text → i ≡ h ++ memory_text → i ≡ topology_with pool nonces
joined pool nonces a b c d e f g h i is-a is-b is-c is-d is-e is-f is-g is-h is-i =
    is-i ∙ rw (is-h, is-g, is-f, is-e, is-d, is-c, is-b, is-a) (simp append_assoc)
