-- Where each byte of trusted memory comes from.
use Rattle.std.specs.Prelude.{◌≡◌, ◌∷◌, ℕ, Bool, true, List, Ok, Some}
use Rattle.ide_types.specs.Ports.{device_port}
use Rattle.tlp_layout.specs.declared.tlp.Tlp.{Tlp}
use Rattle.spec_links.specs.Terms.{Plan, Send, Sealed}
use Rattle.spec_links.specs.Terms.{SealedPacket, History, header, body, read_of, owner_id, Write, memory_write}
use Rattle.spec_interfaces.specs.Sites.{Site}
use Rattle.spec_interfaces.specs.Devices.{runs_at, locks_accepted}
use Rattle.law_verdicts.specs.{CameFrom}

-- The bytes of a memory write were given to a send at the device's port of the link, by the interface of its requester
-- ID, while that was in RUN, under as many locks as after this history.
pub record WasSent (plan : Plan) (h : History) (x : Site) (write : Write) : Type 0 where
  pub bytes : List ℕ
  pub more : Bool
  pub trusted : Bool
  pub ds : List SealedPacket
  pub older : History
  pub came : CameFrom ((Send (device_port x.link) bytes more trusted, Sealed ds) ∷ older) h
  pub tlp : Tlp
  pub reads : read_of bytes ≡ Ok tlp
  pub is_write : memory_write (header tlp) (body tlp) ≡ Some write
  pub requester : owner_id (header tlp) ≡ Some x.plan.requester
  pub runs : runs_at plan older x ≡ true
  pub same_lock : locks_accepted plan older x ≡ locks_accepted plan h x
