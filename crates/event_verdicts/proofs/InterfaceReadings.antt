-- The verdict of an event on an interface or on memory is read from its words.
use Rattle.std.proofs.Common.{◌≡◌, ◌+◌, List, refl, codes}
use Rattle.std.specs.Prelude.{if◌then◌else◌}
use Rattle.std.specs.Str.{bytes_eq}
use Rattle.ide_types.specs.Names.{Text}
use Rattle.ide_types.specs.ViewNames.{view_word}
use Rattle.ide_types.specs.declared.view.View.{View}
use Rattle.ide_types.specs.declared.view.View.TheVariants as view
use Rattle.ide_types.specs.declared.verdict.InterfaceVerdict.{InterfaceVerdict}
use Rattle.ide_types.specs.declared.verdict.InterfaceVerdict.TheVariants as iv
use Rattle.event_verdicts.proofs.WordReadings.{word_at, number, bytes, pairs}

abbrev pub view_named : Text → View
view_named w =
    if bytes_eq w (codes "unlocked") then view.Unlocked
    else if bytes_eq w (codes "locked") then view.Locked
    else if bytes_eq w (codes "running") then view.Running
    else if bytes_eq w (codes "doubt") then view.Doubt
    else view.Broken

pub view_back : (v : View) → view_named (view_word v) ≡ v
view_back view.Unlocked = refl
view_back view.Locked = refl
view_back view.Running = refl
view_back view.Doubt = refl
view_back view.Broken = refl

abbrev pub interface_refusal : List Text → InterfaceVerdict
interface_refusal ws =
    if bytes_eq (word_at ws 0) (codes "wrongstate") then iv.RefusedWrongState (view_named (word_at ws 1))
    else if bytes_eq (word_at ws 0) (codes "notreported") then iv.RefusedNotReported
    else iv.RefusedRefreshFirst (number (word_at ws 1)) (number (word_at ws 2))

abbrev pub interface_by : Text → List Text → InterfaceVerdict
interface_by first ws =
    if bytes_eq first (codes "locked") then iv.Locked (number (word_at ws 0)) (pairs (word_at ws 1))
    else if bytes_eq first (codes "reported") then iv.Reported (number (word_at ws 0)) (bytes (word_at ws 1))
    else if bytes_eq first (codes "started") then iv.Started (number (word_at ws 0)) (number (word_at ws 2))
    else if bytes_eq first (codes "halted") then iv.Halted (number (word_at ws 0)) (number (word_at ws 2))
    else if bytes_eq first (codes "bound") then iv.Bound (number (word_at ws 0)) (24 + number (word_at ws 1))
    else if bytes_eq first (codes "unbound") then iv.Unbound (number (word_at ws 0)) (24 + number (word_at ws 1))
    else if bytes_eq first (codes "state") then iv.State (number (word_at ws 0)) (number (word_at ws 1))
    else if bytes_eq first (codes "view") then iv.View (number (word_at ws 0)) (view_named (word_at ws 1))
    else if bytes_eq first (codes "written") then iv.Written (number (word_at ws 0)) (number (word_at ws 1))
    else if bytes_eq first (codes "flr") then iv.Flr (number (word_at ws 0)) (number (word_at ws 1))
    else if bytes_eq first (codes "firmware") then iv.Firmware (number (word_at ws 0)) (number (word_at ws 1))
    else iv.Memory (bytes (word_at ws 0))
