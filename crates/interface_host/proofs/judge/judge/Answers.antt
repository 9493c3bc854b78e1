use Rattle.tdisp_codec.specs.Replies.{reply_reading}
use Rattle.interface_host.proofs.Rooms.{reply_room}
use Rattle.interface_host.proofs.judge.judge.Goals as goal

pub returns-in-Reply-Some-clause-room : goal.returns-in-Reply-Some-clause-room
returns-in-Reply-Some-clause-room c = rw c.of_bytes.ensures
    (reply_room c.args.step c.args.function c.args.asked c.args.read (reply_reading c.in-Reply-Some.bytes.now))
