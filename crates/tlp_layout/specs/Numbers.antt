-- The numbers of flags, routings and statuses in a header (PCI Express Base 6.0 section 2.2).
use Rattle.std.specs.Prelude.{◌≡◌, ℕ, ◌<◌, Bool, ◌==◌, if◌then◌else◌}
use Rattle.tlp_layout.specs.Terms.{Routing, CompletionStatus}
use Rattle.tlp_layout.specs.Terms.routings
use Rattle.tlp_layout.specs.Terms.statuses

abbrev pub bit : Bool → ℕ
bit b = if b then 1 else 0

abbrev pub routing_bits : Routing → ℕ
routing_bits routings.ToRootComplex = 0
routing_bits routings.ByAddress = 1
routing_bits routings.ById = 2
routing_bits routings.FromRootComplex = 3
routing_bits routings.Local = 4
routing_bits routings.Gathered = 5

-- the routing of a number up to 5
abbrev pub routing_from : ℕ → Routing
routing_from n =
    if n == 0 then routings.ToRootComplex
    else if n == 1 then routings.ByAddress
    else if n == 2 then routings.ById
    else if n == 3 then routings.FromRootComplex
    else if n == 4 then routings.Local
    else routings.Gathered

abbrev pub status_bits : CompletionStatus → ℕ
status_bits statuses.Successful = 0
status_bits statuses.UnsupportedRequest = 1
status_bits statuses.CompleterAbort = 4
status_bits (statuses.Other n) = n

abbrev pub completion_status : ℕ → CompletionStatus
completion_status n =
    if n == 0 then statuses.Successful
    else if n == 1 then statuses.UnsupportedRequest
    else if n == 4 then statuses.CompleterAbort
    else statuses.Other n

-- 3 bits; a number that has a name goes by its name
abbrev pub FitsStatus : CompletionStatus → Type 0
FitsStatus s = (status_bits s < 8) × (completion_status (status_bits s) ≡ s)
