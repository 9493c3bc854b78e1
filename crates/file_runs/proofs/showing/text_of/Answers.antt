use Rattle.std.proofs.Common.{◌∙◌, sym}
use Rattle.file_runs.proofs.Shows.{cut_shows}
use Rattle.file_runs.proofs.showing.text_of.Goals as goal

pub returns-in-Err : goal.returns-in-Err
returns-in-Err c =
    let words = cut_shows c.args.bytes.now _ (sym c.is_empty.ensures ∙ c.if-is_empty.false) c.in-Err.ensures.reading in
    rw words c.packet_fault_text.ensures
