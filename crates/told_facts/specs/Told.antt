-- What the verdict tells of the exchanges of an operation: how far it came, and the reply that it shows.
use Rattle.std.specs.Prelude.{ℕ, ◌==◌, nat_lt, if◌then◌else◌, List, [], ◌∷◌, ◌++◌, length, codes}
use Rattle.std.specs.Fmt.{decimal}
use Rattle.hex.specs.Hex.{encode_lower}
use Rattle.ide_types.specs.{Text, joined_words}
use Rattle.ide_types.specs.declared.verdict.InterfaceVerdict.{InterfaceVerdict}
use Rattle.ide_types.specs.declared.verdict.InterfaceVerdict.TheVariants as iv
use Rattle.event_verdicts.specs.declared.verdict.Verdict.{Verdict}
use Rattle.event_verdicts.specs.declared.verdict.Verdict.TheVariants as v
use Rattle.tdisp_codec.specs.Replies.{reply_spelling}
use Rattle.tdisp_codec.specs.Replies as reply
use Rattle.interface_ends.specs.Replies.{refused_reply}
use Rattle.told_facts.specs.Terms.{Answer, Fact}
use Rattle.told_facts.specs.Terms.answer
use Rattle.told_facts.specs.Terms.fact
use Rattle.told_facts.specs.Words.{fact_word}
use Rattle.told_facts.specs.declared.told.Fate.{Fate}
use Rattle.told_facts.specs.declared.told.Fate.TheVariants as fate

-- ---- how far an operation came

-- those before the one at which it ended were answered, and those after it did not come
abbrev pub fate_by : ℕ → ℕ → Fate → Fate
fate_by n last ended = if n == last then ended else if nat_lt n last then fate.Answered else fate.NotCome

-- an operation that the manager refuses has none
abbrev pub interface_fate : InterfaceVerdict → Fate
interface_fate (iv.RefusedWrongState view) = fate.NotCome
interface_fate iv.RefusedNotReported = fate.NotCome
interface_fate (iv.RefusedRefreshFirst draw needed) = fate.NotCome
interface_fate w = fate.Answered

-- of exchange n
abbrev pub fate_of : Verdict → ℕ → Fate
fate_of (v.LostRequest last) n = fate_by n last fate.RequestLost
fate_of (v.LostReply last) n = fate_by n last fate.ReplyLost
fate_of (v.RefusedDevice last code) n = fate_by n last (fate.Refused code)
fate_of (v.Established line stream draw) n = fate.Answered
fate_of (v.Refreshed line stream draw) n = fate.Answered
fate_of (v.Stopped line stream) n = fate.Answered
fate_of (v.Interface w) n = interface_fate w
fate_of w n = fate.NotCome

-- ---- the reply

-- that of an interface, to a request of this function ID
abbrev pub shown_reply : ℕ → InterfaceVerdict → List ℕ
shown_reply function (iv.Locked i nonce) = reply_spelling (reply.LockInterface function nonce)
shown_reply function (iv.Started i draw) = reply_spelling (reply.StartInterface function)
shown_reply function (iv.Halted i needs) = reply_spelling (reply.StopInterface function)
shown_reply function (iv.State i state) = reply_spelling (reply.DeviceInterfaceState function state)
shown_reply function (iv.Bound i line) = reply_spelling (reply.BindP2p function)
shown_reply function (iv.Unbound i line) = reply_spelling (reply.UnbindP2p function)
shown_reply function w = []

abbrev pub reply_shown_by : ℕ → Verdict → List ℕ
reply_shown_by function (v.Interface w) = shown_reply function w
reply_shown_by function w = []

abbrev pub answered_reply : Verdict → Answer → List ℕ
answered_reply w (answer.Known done refused) = done
answered_reply w (answer.Shown function) = reply_shown_by function w

-- an interface refuses by an ERROR with the code
abbrev pub refusing_reply : ℕ → Answer → List ℕ
refusing_reply code (answer.Known done refused) = refused
refusing_reply code (answer.Shown function) = reply_spelling (refused_reply function code)

-- ---- lines

abbrev pub message_line : ℕ → Text → List ℕ → Text
message_line n kind bytes = joined_words (codes "exchange" ∷ decimal n ∷ kind ∷ encode_lower bytes ∷ [])

-- a request without bytes is not known
abbrev pub request_line : ℕ → List ℕ → Text
request_line n bytes = if length bytes == 0 then [] else message_line n (codes "request") bytes

abbrev pub reply_line : ℕ → List ℕ → Text
reply_line n bytes = message_line n (codes "reply") bytes

abbrev pub lost_line : ℕ → Text → Text
lost_line n kind = joined_words (codes "exchange" ∷ decimal n ∷ codes "lost" ∷ kind ∷ [])

-- a request that is lost is not told
abbrev pub exchange_lines : Verdict → ℕ → List ℕ → Answer → Fate → Text
exchange_lines w n request a fate.NotCome = []
exchange_lines w n request a fate.RequestLost = lost_line n (codes "request")
exchange_lines w n request a fate.ReplyLost = request_line n request ++ lost_line n (codes "reply")
exchange_lines w n request a (fate.Refused code) = request_line n request ++ reply_line n (refusing_reply code a)
exchange_lines w n request a fate.Answered = request_line n request ++ reply_line n (answered_reply w a)

-- a line begins with a space, and ends with a line feed
abbrev pub fact_line : Fact → Text
fact_line x = joined_words (fact_word x ∷ [])

abbrev pub fact_lines : Verdict → Fact → Text
fact_lines w (fact.Exchange n request a) = exchange_lines w n request a (fate_of w n)
fact_lines w x = fact_line x
