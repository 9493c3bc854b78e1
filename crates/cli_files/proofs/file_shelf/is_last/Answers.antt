use Rattle.std.proofs.Common.{◌∙◌, ◌-◌, ℕ, List, Option, Some, String, Global, length, map, option_map, ap, sym}
use Rattle.std.specs.Prelude.{slice_get, string_bytes}
use Rattle.std.proofs.lemmas.List.{length-map}
use Rattle.std.proofs.lemmas.Option.{slice_get-map}
use Rattle.std.proofs.lemmas.Slice.Eq.{bytes_eq-Decides}
use Rattle.cli_files.proofs.file_shelf.is_last.Goals as goal

pub returns-in-Some : goal.returns-in-Some
returns-in-Some c = λ same.
    let names = map string_bytes c.args.asked.now in
    let one = ap (λ (n : ℕ). slice_get names (n - 1)) (length-map c.args.asked.now string_bytes) in
    let two = slice_get-map string_bytes c.args.asked.now (length c.args.asked.now - 1) in
    let three = ap (λ (o : Option (String Global)). option_map string_bytes o) (sym c.in-Some.ensures.value) in
    let is = (bytes_eq-Decides c.as_str.result.now c.args.name.now).0 (sym c.eq.ensures ∙ same) in
    one ∙ two ∙ three ∙ ap (λ (t : List ℕ). Some t) (sym c.as_str.ensures.value ∙ is)
