-- The host's local calls at a place.
use Rattle.join_keys.proofs.CallTerms.{◌≡◌, Bool, arith, true, ℕ, List, ◌++◌, SubKind, Plan, Work, Reach, makes_draw}
use Rattle.join_keys.proofs.CallTerms.{is_number_between, lane_key, key_number, StreamCall, stream_call, Host, lane}
use Rattle.join_keys.proofs.CallTerms.{place_at_end, host_go, host_calls, if◌then◌else◌, map}
use Rattle.join_keys.proofs.Slots.{first_call, second_call, is_of}
use Rattle.join_keys.proofs.Streams.{one_if, calls_at, all_by}

abbrev pub host_stream_calls : Plan → ℕ → Work → Reach → List StreamCall
host_stream_calls plan stream w r = map (stream_call Host) (host_calls plan stream w r)

pub calls_asked : (plan : Plan) (w : Work) (line stream : ℕ) (sends : Bool) (u : SubKind) (r : Reach)
    → calls_at sends u (host_stream_calls plan stream w r)
    ≡ one_if w.begins (first_call w
    (lane_key plan w.draw (key_number Host (lane (place_at_end line stream sends Host u)))))
    ++ one_if (if makes_draw w.operation then is_number_between w.first (host_go w.operation) r.acknowledged else
    w.begins)
    (second_call w)
calls_asked plan w line stream sends u r = grind arith

pub kind_asked : (plan : Plan) (w : Work) (stream : ℕ) (r : Reach)
    → all_by (is_of w.operation) (host_stream_calls plan stream w r) ≡ true
kind_asked plan w stream r = grind arith
