-- Exchanges leave each interface in its place: the manager and the device have as many interfaces as before.
use Rattle.all_links.proofs.Terms.{◌≡◌, ℕ, suc, zero, length, length-set, refl, ap, ◌∙◌, Option, Some, None, Result}
use Rattle.all_links.proofs.Terms.{nat_lt, nat_le, if◌then◌else◌, EndsView, InterfacesView, Links, peer_live}
use Rattle.std.specs.Prelude.{Ok, Err}
use Rattle.ide_types.specs.declared.status.StreamStatus.{StreamStatus}
use Rattle.script_events.specs.declared.event.Loss.{Loss}
use Rattle.script_events.specs.declared.event.Lost.{Lost}
use Rattle.script_events.specs.declared.event.Lost.TheVariants.{Request, Reply}
use Rattle.tdisp_codec.specs.declared.request.RequestView.{RequestView}
use Rattle.interface_host.specs.declared.operation.InterfaceOperation.{InterfaceOperation}
use Rattle.interface_host.specs.declared.operation.InterfaceOutcome.{InterfaceOutcome}
use Rattle.interface_host.specs.declared.operation.InterfaceOutcome.TheVariants.{Next, Done, Refused}
use Rattle.interface_host.specs.declared.operation.InterfaceRefusal.{InterfaceRefusal}
use Rattle.interface_host.specs.Managers.{CurrentInterface, current_interface, nothing_read}
use Rattle.interface_host.specs.Steps.{first_step}
use Rattle.interface_host.specs.Views.{HostTdi, interface_refusal_of, interface_unless}
use Rattle.interface_ends.specs.declared.said.StreamSaid.{StreamSaid}
use Rattle.interface_state.specs.declared.error_codes.ErrorCode.{ErrorCode}
use Rattle.interface_ends.specs.Replies.{DeviceTdis, NamedTdi, interfaces_asked_by, interfaces_by, request_checked}
use Rattle.interface_ends.specs.Exchanges.{asked_bytes, device_after_step}
use Rattle.interface_ends.specs.Operations.{interfaces_after_request}
use Rattle.interface_ends.specs.Keepers.{Ended, current_lost, interface_exchanged, ended_if_over, by_current}
use Rattle.interface_ends.specs.Keepers.{interface_operated, unless_refused}
unfoldable use Rattle.interface_ends.specs.Keepers.{manager_walk}
use Rattle.line_arrivals.specs.{operated_on, HostKeeper, AsksAtLink, place_on_links}
use Rattle.all_links.specs.Interfaces.{interface_named}
use Rattle.all_links.proofs.Asked.{is_found, place_kept}

-- as many as before
record KeepsMany (m : InterfacesView) (d : DeviceTdis) (e : Ended) : Type 0 where
  managed : length e.manager.interfaces ≡ length m.interfaces
  devices : length e.device.interfaces ≡ length d.interfaces

-- ---- one exchange

named_many : (d : DeviceTdis) (request : RequestView) (said : StreamSaid) (o : Option NamedTdi)
    → length (interfaces_asked_by d request said o).interfaces ≡ length d.interfaces
named_many d request said None = refl
named_many d request said (Some n) = length-set d.interfaces n.place _

asked_many : (d : DeviceTdis) (said : StreamSaid) (o : Result RequestView ErrorCode)
    → length (interfaces_by d said o).interfaces ≡ length d.interfaces
asked_many d said (Ok request) = named_many d request said _
asked_many d said (Err code) = refl

carried_many : (lost : Option Lost) (d d' : DeviceTdis) → length d'.interfaces ≡ length d.interfaces
    → length (interfaces_after_request lost d d').interfaces ≡ length d.interfaces
carried_many None d d' same = same
carried_many (Some Request) d d' same = refl
carried_many (Some Reply) d d' same = same

exchange_many : (said : StreamSaid) (loss : Option Loss) (m : InterfacesView) (d : DeviceTdis) (c : CurrentInterface)
    → KeepsMany m d (interface_exchanged said loss m d c)
exchange_many said loss m d c = record {
  managed = length-set m.interfaces c.asking.place _;
  devices = carried_many (current_lost loss m c) d
      (device_after_step c.asking.step m.portion (length m.read.bytes) c.interface d said)
      (asked_many d said (request_checked (asked_bytes c.asking.step m.portion (length m.read.bytes) c.interface)));
}

-- ---- exchange after exchange

over_many : (m : InterfacesView) (d : DeviceTdis) (o : InterfaceOutcome) (now rest : Ended) → KeepsMany m d now
    → KeepsMany m d rest → KeepsMany m d (ended_if_over o now rest)
over_many m d Next now rest many more = more
over_many m d (Done shown) now rest many more = many
over_many m d (Refused refusal) now rest many more = many

current_many : (m : InterfacesView) (d : DeviceTdis) (o : Option CurrentInterface) (asked : CurrentInterface → Ended)
    → ((c : CurrentInterface) → KeepsMany m d (asked c))
    → KeepsMany m d (by_current o asked (record { outcome = Next; manager = m; device = d }))
current_many m d None asked many = record { managed = refl; devices = refl }
current_many m d (Some c) asked many = many c

then_many : (m : InterfacesView) (d : DeviceTdis) (now rest : Ended) → KeepsMany m d now
    → KeepsMany now.manager now.device rest → KeepsMany m d rest
then_many m d now rest many more = record {
  managed = more.managed ∙ many.managed;
  devices = more.devices ∙ many.devices;
}

walk_many : (more : ℕ) (said : StreamSaid) (loss : Option Loss) (m : InterfacesView) (d : DeviceTdis)
    → KeepsMany m d (manager_walk more said loss m d)
unfolding manager_walk
walk_many zero said loss m d = record { managed = refl; devices = refl }
walk_many (suc more) said loss m d =
    current_many m d (current_interface m)
    (λ c. let now : Ended = interface_exchanged said loss m d c in
    ended_if_over now.outcome now (manager_walk more said loss now.manager now.device))
    (λ c. let now : Ended = interface_exchanged said loss m d c in
    let rest : Ended = manager_walk more said loss now.manager now.device in
    let many = exchange_many said loss m d c in
    over_many m d now.outcome now rest many
    (then_many m d now rest many (walk_many more said loss now.manager now.device)))

-- ---- an operation

begun_many : (refusal : Option InterfaceRefusal) (said : StreamSaid) (loss : Option Loss) (m begun : InterfacesView)
    (d : DeviceTdis) → begun.interfaces ≡ m.interfaces
    → KeepsMany m d (unless_refused refusal m d (manager_walk 1140 said loss (interface_unless refusal m begun) d))
begun_many (Some refusal) said loss m begun d same = record { managed = refl; devices = refl }
begun_many None said loss m begun d same =
    let many = walk_many 1140 said loss begun d in
    record { managed = many.managed ∙ ap (λ xs. length xs) same; devices = many.devices }

operated_many : (place : ℕ) (o : InterfaceOperation) (status : StreamStatus) (draws : ℕ) (said : StreamSaid)
    (loss : Option Loss) (m : InterfacesView) (d : DeviceTdis) (i : HostTdi)
    → KeepsMany m d (interface_operated place o status draws said loss m d i)
operated_many place o status draws said loss m d i =
    begun_many (interface_refusal_of o status i) said loss m (record m {
      asking = Some (record { place = place; step = first_step o; draws = draws });
      read = nothing_read;
    }) d refl

pub asked_place : (old : Links) (n : ℕ) (at : ℕ × ℕ) (o : InterfaceOperation) (loss : Option Loss)
    (outcome : InterfaceOutcome) (ends : EndsView) (k : HostKeeper) → Some at
    ≡ interface_named old.keeper.interfaces old.ends.links n → AsksAtLink old.ends at.0 old.keeper n o loss outcome ends
    k
    → interface_named k.interfaces ends.links n ≡ interface_named old.keeper.interfaces old.ends.links n
asked_place old n at o loss outcome ends k named asks =
    let x = is_found old.keeper.interfaces old.ends n at named in
    let a = asks x.ends_at x.link_there in
    let is = a.2.ended x.kept x.kept_there in
    let e : Ended = operated_on n o loss old.keeper.keys (peer_live old.ends at.0) old.keeper.interfaces x.ends_at
    x.kept in
    let many : KeepsMany old.keeper.interfaces x.ends_at.device.interfaces e =
    operated_many n o _ _ _ loss old.keeper.interfaces x.ends_at.device.interfaces x.kept in
    place_kept k.interfaces old.ends ends n at.0 x.ends_at a.0 x.link_there a.1
    (ap (λ (d : DeviceTdis). length d.interfaces) is.device_is ∙ many.devices)
    ∙ ap (λ (count : ℕ). if nat_lt n count then (if nat_le n 255 then place_on_links 0 n old.ends.links else None)
    else None) (ap (λ (m : InterfacesView). length m.interfaces) is.manager_is ∙ many.managed)
