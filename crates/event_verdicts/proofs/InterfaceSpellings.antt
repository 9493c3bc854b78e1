-- No word of the line of an interface or of memory has a space in it.
use Rattle.std.proofs.Common.{rules, ◌-◌}
use Rattle.ide_types.specs.ViewNames.{view_word}
use Rattle.ide_types.specs.declared.view.View.{View}
use Rattle.ide_types.specs.declared.view.View.TheVariants as view
use Rattle.ide_types.specs.declared.verdict.InterfaceVerdict.{InterfaceVerdict}
use Rattle.ide_types.specs.declared.verdict.InterfaceVerdict.TheVariants as iv
use Rattle.event_verdicts.specs.InterfaceLines.{interface_words, FitsInterfaceVerdict}
use Rattle.event_verdicts.proofs.Joins.{IsWord, AreWords}
use Rattle.event_verdicts.proofs.Readings.{few_peers}
use Rattle.event_verdicts.proofs.WordSpellings.{decimal_word, hex_word, bytes_are_word}

view_is_word : (v : View) → IsWord (view_word v)
view_is_word view.Unlocked = search rules
view_is_word view.Locked = search rules
view_is_word view.Running = search rules
view_is_word view.Doubt = search rules
view_is_word view.Broken = search rules

pub interface_is_words : (x : InterfaceVerdict) → FitsInterfaceVerdict x → AreWords (interface_words x)
interface_is_words (iv.Locked i nonce) h = let a = decimal_word i h.0 in let b = hex_word nonce h.1 in search rules
interface_is_words (iv.Reported i report) h = let a = decimal_word i h.0 in let b = bytes_are_word report h.1 in search
    rules
interface_is_words (iv.Started i j) h = let a = decimal_word i h.0 in let b = decimal_word j h.1 in search rules
interface_is_words (iv.Halted i n) h = let a = decimal_word i h.0 in let b = decimal_word n h.1 in search rules
interface_is_words (iv.Bound i l) h = let a = decimal_word i h.0 in let b = decimal_word (l - 24) (few_peers l h.1) in
    search rules
interface_is_words (iv.Unbound i l) h = let a = decimal_word i h.0 in let b = decimal_word (l - 24) (few_peers l h.1) in
    search rules
interface_is_words (iv.State i s) h = let a = decimal_word i h.0 in let b = decimal_word s h.1 in search rules
interface_is_words (iv.View i v) h = let a = decimal_word i h in let b = view_is_word v in search rules
interface_is_words (iv.Written i s) h = let a = decimal_word i h.0 in let b = decimal_word s h.1 in search rules
interface_is_words (iv.Flr i s) h = let a = decimal_word i h.0 in let b = decimal_word s h.1 in search rules
interface_is_words (iv.Firmware i s) h = let a = decimal_word i h.0 in let b = decimal_word s h.1 in search rules
interface_is_words (iv.Memory bs) h = let a = bytes_are_word bs h in search rules
interface_is_words (iv.RefusedWrongState v) h = let a = view_is_word v in search rules
interface_is_words iv.RefusedNotReported h = search rules
interface_is_words (iv.RefusedRefreshFirst j n) h = let a = decimal_word j h.0 in let b = decimal_word n h.1 in search
    rules
