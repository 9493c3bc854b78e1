-- What the answer to the oldest read that waits at a port comes to, ahead of the ports (this profile).
use Rattle.std.specs.Prelude.{ℕ, true, Bool, if◌then◌else◌, List, [], ◌∷◌, Option, Some, None, Result, Ok, Err}
use Rattle.ide_types.specs.Ports.{host_port}
use Rattle.ide_types.specs.declared.binding.Binding.{Binding}
use Rattle.ide_types.specs.declared.port.PortName.{PortName}
use Rattle.ide_types.specs.declared.port.Side.{Side}
use Rattle.ide_types.specs.declared.port.Side.TheVariants.{Host, Device}
use Rattle.ide_types.specs.declared.plan.Plan.{Plan}
use Rattle.tlp_layout.specs.Outgoing.{stream_taken}
use Rattle.spec_links.specs.Terms.{Site, site_of_requester, site_on, WaitingRead, ReadArrival, ReadTarget}
use Rattle.spec_links.specs.Terms.{Claim, claim_of, judged_claim, least_draw, InterfaceStatus, MemReadView}
use Rattle.event_verdicts.specs.declared.access.AccessVerdict.TheVariants as av
use Rattle.event_verdicts.specs.declared.verdict.BlockCause.{BlockCause}
use Rattle.event_verdicts.specs.declared.verdict.Verdict.{Verdict}
use Rattle.event_verdicts.specs.declared.verdict.Verdict.TheVariants as v
use Rattle.spec_links.specs.Admission.{Grants, Policy}
use Rattle.spec_links.specs.Due.{judged_bound}
use Rattle.spec_links.specs.Plan.{has_link}
use Rattle.spec_links.specs.Ports.{outgoing_at}

-- the completion of a read: the end and the stream that it goes out on, its T, and the least draw that it may be sealed
-- under
pub record ReadCompletion : Type 0 where
  pub end : PortName
  pub stream : ℕ
  pub trusted : Bool
  pub floor : ℕ
  pub bytes : List ℕ

-- ---- at a host's port

-- what is judged, with the completion's bytes: with T, on the bound stream
abbrev pub bound_completion : PortName → List ℕ → Result Binding Verdict → Result ReadCompletion Verdict
bound_completion port bytes (Err verdict) = Err verdict
bound_completion port bytes (Ok bound) =
    Ok (record { end = port; stream = bound.stream; trusted = true; floor = bound.floor; bytes = bytes })

-- of an interface with this binding, if its view is Running, to a read that came under a draw
abbrev pub completion_by : Plan → PortName → ℕ → ℕ → List ℕ → Option Binding → Result ReadCompletion Verdict
completion_by plan port interface draw bytes bound =
    bound_completion port bytes (judged_bound (stream_taken (outgoing_at plan port bytes)) interface draw bound)

-- the interface is that of the reader's requester ID
abbrev pub site_completion : Plan → PortName → ℕ → List ℕ → Option Binding → Option Site → Result ReadCompletion Verdict
site_completion plan port draw bytes bound None = Err v.Nothing
site_completion plan port draw bytes bound (Some x) = completion_by plan port x.number draw bytes bound

abbrev pub host_completion : Plan → Grants → ℕ → List ℕ → WaitingRead → Result ReadCompletion Verdict
host_completion plan grants link bytes r =
    site_completion plan (host_port link) r.came.draw bytes (grants link r.read.requester)
    (site_of_requester plan link r.read.requester)

-- ---- at a device's port

-- under this claim: on the stream and at the end on which the read came, with T as it had it
abbrev pub claimed_completion : ReadArrival → ℕ → List ℕ → Result Claim BlockCause → Result ReadCompletion Verdict
claimed_completion came interface bytes (Err c) = Err (v.Access (av.Dropped interface c))
claimed_completion came interface bytes (Ok claim) = Ok (record {
  end = came.end;
  stream = came.stream;
  trusted = came.trusted;
  floor = least_draw claim came;
  bytes = bytes;
})

-- of a read of this target, by how the interfaces stand now
abbrev pub response_by : List InterfaceStatus → List ℕ → WaitingRead → ReadTarget → Option Site
    → Result ReadCompletion Verdict
response_by statuses bytes r target None = Err v.Nothing
response_by statuses bytes r target (Some x) =
    claimed_completion r.came x.number bytes (judged_claim (claim_of statuses r.read.span) target r.came)

abbrev pub target_completion : Plan → List InterfaceStatus → ℕ → List ℕ → WaitingRead → Option ReadTarget
    → Result ReadCompletion Verdict
target_completion plan statuses link bytes r None = Err v.Nothing
target_completion plan statuses link bytes r (Some target) =
    response_by statuses bytes r target (site_on plan link target.interface)

abbrev pub device_completion : Plan → List InterfaceStatus → ℕ → List ℕ → WaitingRead → Result ReadCompletion Verdict
device_completion plan statuses link bytes r = target_completion plan statuses link bytes r r.target

-- ---- at either

-- to a read that waits at a port, with these bytes for its completion
abbrev pub completion_at_side : Plan → Policy → Side → ℕ → List ℕ → WaitingRead → Result ReadCompletion Verdict
completion_at_side plan policy Host link bytes r = host_completion plan policy.grants link bytes r
completion_at_side plan policy Device link bytes r = device_completion plan (policy.statuses link) link bytes r

-- to the first of those that wait
abbrev pub completion_first : Plan → Policy → (MemReadView → List ℕ) → PortName → List WaitingRead
    → Result ReadCompletion Verdict
completion_first plan policy bytes port [] = Err (v.Access (av.Empty port.line))
completion_first plan policy bytes port (r ∷ rs) = completion_at_side plan policy port.side port.line (bytes r.read) r

abbrev pub port_completion : Plan → Policy → (MemReadView → List ℕ) → PortName → List WaitingRead
    → Result ReadCompletion Verdict
port_completion plan policy bytes port rs =
    if has_link plan port.line then completion_first plan policy bytes port rs else Err v.Nothing
