-- What a forgery is to the cipher (SP 800-38D): a key, an IV, additional data and a ciphertext with a tag that
-- verifies, of which no unit was sealed under that key. `NoForgeryUnder` speaks of a sub-stream, a draw and numbers of
-- units; this is the same, said of bytes alone.
use Rattle.std.specs.Prelude.{◌≡◌, ◌+◌, ◌<◌, ◌++◌, ◌∷◌, ◌^◌, ℕ, true, Some, Ok, List, [], slice_get}
use Rattle.spec_links.specs.Terms.{Plan, PortName, Event, Packet, iv_of, authenticated_bytes, encrypted_bytes, History}
use Rattle.spec_links.specs.Plan.{SubStream, key_of}
use Rattle.spec_links.specs.Units.{units}
use Rattle.spec_links.specs.History.{sent_packets, ahead_sent, ahead_due, ArrivedBytes, arrival_of_event, received_in}
use Rattle.spec_links.specs.Due.{Ending, before_tag, is_verified, unit_packets_ended}
use Rattle.spec_links.specs.Laws.{WasSealed, last_tag}
use Rattle.law_delivery.specs.NoForgeryUnder.{NoForgeryUnder}
use Rattle.gcm_seal.specs.Gcm.{seal_of, open_of}

-- some unit was sealed, and finished, under these bytes of a key with this IV, these authenticated bytes (what came
-- ahead of the unit, and its packets') and this ciphertext
pub record WasSealedUnder (plan : Plan) (h : History) (key iv authenticated encrypted : List ℕ) : Type 0 where
  pub sub_stream : SubStream
  pub draw : ℕ
  pub place : ℕ
  pub unit : List Packet
  pub finished : slice_get (units (sent_packets plan h sub_stream draw)) place ≡ Some unit
  pub same_key : key_of plan draw sub_stream ≡ key
  pub same_iv : iv_of sub_stream.sub (place + 1) ≡ iv
  pub same_authenticated : ahead_sent plan h sub_stream draw (place + 1) ++ authenticated_bytes unit ≡ authenticated
  pub same_encrypted : encrypted_bytes unit ≡ encrypted

-- of the unit whose tag is looked at: what the receiver gives to the cipher
abbrev pub IsOfSealed : Plan → History → PortName → Ending → Type 0
IsOfSealed plan h port x =
    WasSealedUnder plan h (key_of plan x.unit.draw (received_in port x.unit)) (iv_of x.unit.sub x.unit.unit)
    (ahead_due plan h (received_in port x.unit) x.unit.unit ++ authenticated_bytes (unit_packets_ended plan h port x))
    (encrypted_bytes (unit_packets_ended plan h port x))

-- a tag of the sub-stream under the draw that verifies at this event is of what was sealed under its key
abbrev pub CipherNotForgedUnder : Plan → History → Event → SubStream → ℕ → Type 0
CipherNotForgedUnder plan h e s j =
    (a : ArrivedBytes) (x : Ending) → arrival_of_event plan h e ≡ Some a → before_tag plan h a ≡ Ok x
    → received_in a.port x.unit ≡ s → x.unit.draw ≡ j → is_verified plan h a.port x ≡ true
    → IsOfSealed plan h a.port x

-- no tag of the sub-stream under the draw verified of what was not sealed under its key
abbrev pub NoCipherForgeryUnder : Plan → History → SubStream → ℕ → Type 0
NoCipherForgeryUnder plan [] s j = Unit {0}
NoCipherForgeryUnder plan ((e, w) ∷ h) s j = CipherNotForgedUnder plan h e s j × NoCipherForgeryUnder plan h s j

pub record ForgeriesAreOfCipher (plan : Plan) (h : History) : Type 0 where
  -- each finished unit is one sealing of the cipher: its ciphertext and its tag are those of its plaintext
  pub sealings : (s : SubStream) (j place : ℕ) (unit : List Packet)
      → slice_get (units (sent_packets plan h s j)) place ≡ Some unit → let key = key_of plan j s in
      let iv = iv_of s.sub (place + 1) in
      seal_of key iv (ahead_sent plan h s j (place + 1) ++ authenticated_bytes unit)
      (open_of key iv (encrypted_bytes unit))
      ≡ (encrypted_bytes unit, last_tag unit)
  -- if a tag verifies, and such a unit was sealed, it is the one that `NotForgedUnder` asks for (of a number that fits
  -- in the 8 bytes of an IV)
  pub one_unit : (e : Event) (a : ArrivedBytes) (x : Ending) → arrival_of_event plan h e ≡ Some a
      → before_tag plan h a ≡ Ok x → is_verified plan h a.port x ≡ true → x.unit.unit < 2 ^ 64
      → IsOfSealed plan h a.port x → WasSealed plan h a.port x
  -- so the two premises are one, of each sub-stream under each draw
  pub suffices : (s : SubStream) (j : ℕ) → NoCipherForgeryUnder plan h s j → NoForgeryUnder plan h s j
  pub follows : (s : SubStream) (j : ℕ) → NoForgeryUnder plan h s j → NoCipherForgeryUnder plan h s j
