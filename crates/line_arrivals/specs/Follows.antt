-- What keys and packets make of the interfaces of devices.
use Rattle.std.specs.Prelude.{ℕ, ◌≡◌, ◌⊎◌, slice_get, Some}
use Rattle.interface_ends.specs.Replies.{settled_interfaces}
use Rattle.join_arrivals.specs.{secure_or_live, LinkEnds, EndsView, peer_live}

-- Of link `i`: they are settled by the ends of the device's streams as these are afterwards; or the device is as
-- before, and so is what it says of its streams to others.
abbrev pub IsSettledOrSame : EndsView → EndsView → ℕ → LinkEnds → LinkEnds → Type 0
IsSettledOrSame old new i l l' =
    (l'.device.interfaces ≡ settled_interfaces (secure_or_live l'.device.port (peer_live new i)) l.device.interfaces)
    ⊎ ((l'.device ≡ l.device) × ((id : ℕ) → peer_live new i id ≡ peer_live old i id))

abbrev pub AllFollow : EndsView → EndsView → Type 0
AllFollow old new = (i : ℕ) (l l' : LinkEnds) → slice_get old.links i ≡ Some l → slice_get new.links i ≡ Some l'
    → IsSettledOrSame old new i l l'
