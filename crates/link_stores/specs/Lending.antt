-- What stands at one link, lent to be changed.
use Rattle.std.specs.Prelude.{ℕ, List, slice_set}
use Rattle.std.specs.Borrow.{Lends, MutBor, Fml}
use Rattle.link_stores.specs.contracts.accesses.Accesses.{the_row}
use Rattle.link_stores.specs.contracts.link.LinkAccesses.{the_row as link_row}
use Rattle.link_stores.specs.declared.link.LinkAccesses.{LinkAccesses}

-- all links end with the last value at this one
abbrev pub LendsLink : MutBor (List LinkAccesses) → ℕ → MutBor LinkAccesses → Fml
LendsLink s link r = Lends the_row link_row s r (slice_set s.now link)
