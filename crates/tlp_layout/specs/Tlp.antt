-- The spelling of a TLP: its header, then its payload (PCI Express Base 6.0 section 2.2, as this profile has it).
use Rattle.std.specs.Prelude.{◌≡◌, ℕ, ◌*◌, ◌<◌, Bool, List, ◌++◌, length, ◌==◌, if◌then◌else◌, All, Result, Ok, Err}
use Rattle.tlp_layout.specs.Terms.{TlpFault, HeadView, Tlp, TlpView}
use Rattle.tlp_layout.specs.Head.{head_bytes, FitsHead}

abbrev pub header : Tlp → HeadView
header t = t.head

-- its payload, no bytes if the header has none
abbrev pub body : Tlp → List ℕ
body t = t.payload

-- the TLP of a header and a payload
abbrev pub with_payload : HeadView → List ℕ → Tlp
with_payload h b = record { head = h; payload = b }

-- the payload's length in bytes: Length counts double words, and 0 stands for 1024
abbrev pub body_size : Bool → ℕ → ℕ
body_size has_payload length = if has_payload then 4 * (if length == 0 then 1024 else length) else 0

abbrev pub tlp_bytes : Tlp → List ℕ
tlp_bytes t = head_bytes (header t) ++ body t

-- what has a spelling
pub record FitsTlp (t : Tlp) : Type 0 where
  pub head : FitsHead (header t)
  pub size : length (body t) ≡ body_size (header t).has_payload (header t).lead.length
  pub bytes : All (λ b. b < 256) (body t)

-- the bytes are this TLP's
pub record SpellsTlp (t : Tlp) (bytes : List ℕ) : Type 0 where
  pub fits : FitsTlp t
  pub spelled : bytes ≡ tlp_bytes t

-- the bytes are a TLP's
pub record IsTlp (bytes : List ℕ) : Type 0 where
  pub tlp : Tlp
  pub spells : SpellsTlp tlp bytes

-- the TLP that a view shows: lent bytes are the bytes
abbrev pub viewed_tlp : TlpView → Tlp
viewed_tlp v = with_payload v.head v.payload.now

-- what a reader answers, with the TLP in the view's place
abbrev pub viewed_result : Result TlpView TlpFault → Result Tlp TlpFault
viewed_result (Ok v) = Ok (viewed_tlp v)
viewed_result (Err f) = Err f
