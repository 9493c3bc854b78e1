-- Packets by number, and what an event brings to which port.
use Rattle.machine_ports.proofs.Terms.{◌≡◌, ℕ, ◌-◌, ◌==◌, Bool, true, false, List, slice_get, Option, Some, None}
use Rattle.machine_ports.proofs.Terms.{option_map, refl, ap, ◌∙◌, if◌then◌else◌, kept_packet, LinkPacket, Packet}
use Rattle.machine_ports.proofs.Terms.{packet_by_number, packet_numbered, SealedList, SealedPacket}
use Rattle.std.proofs.lemmas.Option.{slice_get-map}
use Rattle.machine_ports.proofs.Changes.{kept_all}

-- a sealed packet as it is kept
abbrev pub packet_kept : SealedPacket × Packet → LinkPacket
packet_kept x = kept_packet x.0.port x.1

numbered : (packets : List LinkPacket) (xs : SealedList) (n : ℕ) → packets ≡ kept_all xs → packet_numbered packets n
    ≡ option_map packet_kept (packet_by_number xs n)
numbered packets xs n are = ap (λ (ps : List LinkPacket). packet_numbered ps n) are ∙ by_zero (n == 0)
  where
    by_zero : (b : Bool) → (if b then None else slice_get (kept_all xs) (n - 1))
        ≡ option_map packet_kept (if b then None else slice_get xs (n - 1))
    by_zero true = refl
    by_zero false = slice_get-map packet_kept xs (n - 1)

-- what is made of a packet of that number
pub of_numbered : {A : Type 0} (packets : List LinkPacket) (xs : SealedList) (n : ℕ) → packets ≡ kept_all xs
    → (f : Option LinkPacket → A) (g : Option (SealedPacket × Packet) → A) → f None ≡ g None
    → ((x : SealedPacket × Packet) → f (Some (packet_kept x)) ≡ g (Some x))
    → f (packet_numbered packets n) ≡ g (packet_by_number xs n)
of_numbered packets xs n are f g none some = ap f (numbered packets xs n are) ∙ by_packet (packet_by_number xs n)
  where
    by_packet : (o : Option (SealedPacket × Packet)) → f (option_map packet_kept o) ≡ g o
    by_packet None = none
    by_packet (Some x) = some x
