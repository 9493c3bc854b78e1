-- That an interface was in no other RUN.
use Rattle.std.specs.Prelude.{◌≡◌, true}
use Rattle.spec_links.specs.Terms.{Plan, History}
use Rattle.spec_interfaces.specs.Sites.{Site}
use Rattle.spec_interfaces.specs.Devices.{runs_at, locks_accepted}
use Rattle.law_verdicts.specs.{CameFrom}

-- From the one history on, up to the other, the interface was in no RUN but under the lock that stands in the end: it
-- was under that lock already, or in no RUN, and none was entered and left since.
abbrev pub IsInNoOtherRun : Plan → History → History → Site → Type 0
IsInNoOtherRun plan g h x =
    (k : History) → CameFrom g k → CameFrom k h → runs_at plan k x ≡ true → locks_accepted plan k x
    ≡ locks_accepted plan h x
