use Rattle.std.proofs.Common.{string_bytes}
use Rattle.std.proofs.lemmas.Str.{IsUtf8-string_bytes}
use Rattle.toml.specs.View.{table_view}
use Rattle.topology.proofs.Document.{document_read}
use Rattle.topology.proofs.migration.text_of.Goals as goal

pub returns-in-Ok-clause-text : goal.returns-in-Ok-clause-text
returns-in-Ok-clause-text c =
    let back = c.in-Ok.ensures.reads_back (c.requires c.ascend_in_members.ensures) in
    rw (c.new.ensures, c.into_bytes.ensures.value)
    (document_read (string_bytes c.in-Ok.text) (table_view c.args.table.now) (IsUtf8-string_bytes c.in-Ok.text)
    back)
