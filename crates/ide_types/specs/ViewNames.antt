-- The words of a manager's views.
use Rattle.std.specs.Prelude.{codes}
use Rattle.ide_types.specs.Names.{Text}
use Rattle.ide_types.specs.declared.view.View.{View}
use Rattle.ide_types.specs.declared.view.View.TheVariants.{Unlocked, Locked, Running, Doubt, Broken}

abbrev pub view_word : View → Text
view_word Unlocked = codes "unlocked"
view_word Locked = codes "locked"
view_word Running = codes "running"
view_word Doubt = codes "doubt"
view_word Broken = codes "broken"
