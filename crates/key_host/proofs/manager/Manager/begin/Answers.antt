use Rattle.std.proofs.Common.{◌≡◌, Some, sym, ◌∙◌, get_or}
use Rattle.key_host.specs.Operations.{op_name}
use Rattle.key_host.specs.Managers.{stream_place}
use Rattle.key_host.proofs.Begins.{found, begun_by}
use Rattle.key_host.proofs.manager.Manager.begin.Goals as goal

pub returns-clause-pool : goal.returns-clause-pool
returns-clause-pool g c =
    let at : stream_place c.args.self.now (op_name c.args.op).line (op_name c.args.op).stream
    ≡ Some c.in-Some.place = rw (← c.line.ensures, ← c.stream.ensures) (sym c.place.ensures ∙ c.in-Some.is) in
    let is : c.index_mut-stream.result.now ≡ get_or c.args.self.now.streams c.in-Some.place
    c.index_mut-stream.result.now = rw (← c.self.view_is) c.index_mut-stream.ensures.value in
    rw (found c.args.self.now _ _ c.in-Some.place c.index_mut-stream.result.now at is, ← c.operation.ensures)
    c.begin-answer.ensures.pool

pub returns-clause-calls : goal.returns-clause-calls
returns-clause-calls g c =
    let at : stream_place c.args.self.now (op_name c.args.op).line (op_name c.args.op).stream
    ≡ Some c.in-Some.place = rw (← c.line.ensures, ← c.stream.ensures) (sym c.place.ensures ∙ c.in-Some.is) in
    let is : c.index_mut-stream.result.now ≡ get_or c.args.self.now.streams c.in-Some.place
    c.index_mut-stream.result.now = rw (← c.self.view_is) c.index_mut-stream.ensures.value in
    rw (found c.args.self.now _ _ c.in-Some.place c.index_mut-stream.result.now at is, ← c.operation.ensures)
    c.begin-answer.ensures.calls

pub returns-clause-manager : goal.returns-clause-manager
returns-clause-manager g c =
    let at : stream_place c.args.self.now (op_name c.args.op).line (op_name c.args.op).stream
    ≡ Some c.in-Some.place = rw (← c.line.ensures, ← c.stream.ensures) (sym c.place.ensures ∙ c.in-Some.is) in
    let is : c.index_mut-stream.result.now ≡ get_or c.args.self.now.streams c.in-Some.place
    c.index_mut-stream.result.now = rw (← c.self.view_is) c.index_mut-stream.ensures.value in
    rw (found c.args.self.now _ _ c.in-Some.place c.index_mut-stream.result.now at is)
    (begun_by c.self.inside.streams.items c.self.inside.asking _ c.in-Some.place c.index_mut-stream.result.now _ _ _
    c.operation.result _ _ _ c.self.view_is c.index_mut-stream.ensures.value c.operation.ensures
    c.begin-answer.ensures.stream c.begin-answer.ensures.answer c.asking_begun-self-inside.ensures)
