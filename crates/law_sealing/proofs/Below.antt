-- What the crates below tell: of reading TLPs and of cutting packets.
use Rattle.law_sealing.proofs.Terms.{◌≡◌, ℕ, ◌<◌, List, length, map, refl, All-from_recursion, AllByRecursion, All, Ok}
use Rattle.law_sealing.proofs.Terms.{Tlp, SpellsHead, head_bytes, header, body, body_size, read_of, Packet, FitsPacket}
use Rattle.law_sealing.proofs.Terms.{packet_bytes, authenticated_bytes, encrypted_bytes, packet_without_tag, IdePacket}
use Rattle.law_sealing.proofs.Terms.{cut_of, read_spells_tlp, one_list}
use Rattle.ide_prefix.proofs.Cuts.{cuts_iff}

-- what was read has a header with a spelling, and as many bytes of payload as that says
pub record IsRead (t : Tlp) : Type 0 where
  pub head : SpellsHead (header t) (head_bytes (header t))
  pub size : length (body t) ≡ body_size (header t).has_payload (header t).lead.length
  pub bytes : All (λ b. b < 256) (body t)

pub is_read : (bytes : List ℕ) (t : Tlp) → read_of bytes ≡ Ok t → IsRead t
is_read bytes t is =
    let spells = (read_spells_tlp t bytes).1 is in
    record {
      head = record { fits = spells.fits.head; spelled = refl };
      size = spells.fits.size;
      bytes = spells.fits.bytes;
    }

pub is_cut : (p : Packet) → FitsPacket p → cut_of (packet_bytes p) ≡ Ok (IdePacket p)
is_cut p fits = (cuts_iff p (packet_bytes p)).0 (record { fits = fits; spelled = refl })

pub cut_fits : (bytes : List ℕ) (p : Packet) → cut_of bytes ≡ Ok (IdePacket p) → FitsPacket p
cut_fits bytes p is = ((cuts_iff p bytes).1 is).fits

-- the authenticated bytes and the ciphertext of two units make them equal, but for their tags
pub same_packets : (ps qs : List Packet) → AllByRecursion FitsPacket ps → AllByRecursion FitsPacket qs
    → authenticated_bytes ps ≡ authenticated_bytes qs → encrypted_bytes ps ≡ encrypted_bytes qs
    → map packet_without_tag ps ≡ map packet_without_tag qs
same_packets ps qs ps_fit qs_fit a c = one_list ps qs (All-from_recursion FitsPacket ps ps_fit)
    (All-from_recursion FitsPacket qs qs_fit) a c
