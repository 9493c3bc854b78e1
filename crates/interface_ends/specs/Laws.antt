-- What the answers of a device's interfaces imply.
use Rattle.std.specs.Prelude.{ℕ, ◌≡◌, List}
use Rattle.tdisp_codec.specs.Replies as reply
use Rattle.interface_ends.specs.declared.said.StreamSaid.{StreamSaid}
use Rattle.interface_ends.specs.Replies.{DeviceTdis, interfaces_after_answer, device_reply}

abbrev pub ErrorsChangeNothing : Type 0
ErrorsChangeNothing = (d : DeviceTdis) (bytes : List ℕ) (said : StreamSaid) (function code value : ℕ)
    → device_reply d bytes said ≡ reply.Error function code value → interfaces_after_answer d bytes said ≡ d
