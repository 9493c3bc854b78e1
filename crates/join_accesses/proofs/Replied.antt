-- What the answer to the oldest read that waits at a port comes to is what the machine says: a completion has the same
-- bytes, goes out on the same stream and has the same floor. At a host's port the reader's interface is that of the
-- manager; at a device's port an interface of a link has the same number and the same requester ID by its place.
use Rattle.std.proofs.Common.{◌≡◌, ℕ, zero, suc, ◌+◌, ◌<◌, ◌≤◌, ◌==◌, ◌∷◌, Bool, true, false, List, [], length, refl}
use Rattle.std.proofs.Common.{sym}
use Rattle.std.proofs.Common.{ap, ◌∙◌, arith, Option, Some, None, ⊎_elim}
use Rattle.std.proofs.lemmas.Bool.{cases_lt, le-leb, le-ltb, lt-ltb}
use Rattle.std.proofs.lemmas.Option.{none-some, same_Some, slice_get_within, slice_get_past}
use Rattle.std.specs.Option.{option_map, option_map_or, option_and_then}
use Rattle.std.specs.Prelude.{filter, slice_get, if◌then◌else◌, Err, Result}
use Rattle.ide_types.specs.Fits.{FitsPlan}
use Rattle.ide_types.specs.Ports.{host_port, device_port}
use Rattle.ide_types.specs.declared.binding.Binding.{Binding}
use Rattle.ide_types.specs.declared.interface.InterfacePlan.{InterfacePlan}
use Rattle.ide_types.specs.declared.plan.Plan.{Plan}
use Rattle.ide_types.specs.declared.port.PortName.{PortName}
use Rattle.ide_types.specs.declared.port.Side.{Side}
use Rattle.ide_types.specs.declared.port.Side.TheVariants.{Host, Device}
use Rattle.event_verdicts.specs.declared.verdict.Verdict.{Verdict}
use Rattle.event_verdicts.specs.declared.verdict.Verdict.TheVariants as v
use Rattle.interface_state.specs.Machine.{DeviceTdi}
use Rattle.tlp_layout.specs.Outgoing.{outgoing_of, stream_taken}
use Rattle.trusted_memory.specs.{host_completer}
unfoldable use Rattle.trusted_memory.specs.{completion_bytes}
use Rattle.trusted_memory.specs.declared.queue.ReadTarget.{ReadTarget}
use Rattle.trusted_memory.specs.declared.queue.WaitingRead.{WaitingRead}
use Rattle.trusted_memory.specs.declared.read.MemReadView.{MemReadView}
use Rattle.guarded_memory.specs.{claim_of, claimed_byte, judged_claim, mmio_byte}
use Rattle.guarded_memory.specs.Happenings.{byte_shown}
use Rattle.guarded_memory.specs.declared.claims.Claim.{Claim}
use Rattle.spec_interfaces.specs.Sites.{Site, sites, site_of_requester}
use Rattle.spec_interfaces.specs.Floors.{interfaces_before, site_on}
use Rattle.spec_interfaces.proofs.Floors.{planned_on}
use Rattle.spec_links.specs.Sent.{claim_completion, completer_on}
use Rattle.link_stores.specs.declared.link.LinkAccesses.{LinkAccesses}
use Rattle.link_stores.specs.{reads_on}
use Rattle.machine_ports.specs.Replies.{bound_completion, claimed_completion, completion_by, site_completion}
use Rattle.machine_ports.specs.Replies.{host_completion, response_by, target_completion}
use Rattle.machine_ports.specs.Replies.{completion_at_side, completion_first, ReadCompletion}
use Rattle.machine_whole.specs.Interfaces.{grant_of}
use Rattle.machine_whole.specs.Machine.{Whole, completion_from_memory, machine_completion, policy_of, statuses_of}
use Rattle.join_world.specs.{host_stream, IsLink, judged_bound, LinkEnds, WholeLinks, claim_bytes}
use Rattle.join_world.specs.{requester_at, host_reply, reply_numbered, response_numbered, target_reply, reply_on_side}
use Rattle.join_world.specs.{reply_oldest, reply_at_link, port_reply, small_number, link_statuses, number_on_links}
use Rattle.join_world.specs.Accesses.{AreAccesses, link_seen, on_link}
use Rattle.join_world.specs.Whole.{IsBeside}
use Rattle.join_world.proofs.Besides.{grant_is}
use Rattle.join_world.proofs.Places.{get_there, site_numbered, sites_few}
use Rattle.join_world.proofs.Sites.{held_before, site_at_place}
use Rattle.join_accesses.proofs.OnLinks.{on_link_at, on_link_past}
use Rattle.join_accesses.proofs.Accessed.{before_is, laid_many, reader_is, statuses_there}

-- ---- interfaces by their places

-- its number counts those of earlier links
number_there : (ends : List LinkEnds) (link place : ℕ) (l : LinkEnds) → slice_get ends link ≡ Some l
    → place < length l.device.interfaces.interfaces
    → number_on_links ends link place ≡ Some (held_before ends link + place)
number_there [] link place l is lt = absurd (none-some l is)
number_there (x ∷ ls) zero place l is lt =
    let many = ap (λ (y : LinkEnds). length y.device.interfaces.interfaces) (same_Some x l is) in
    let same : place ≡ 0 + place = omega arith in
    rw (lt-ltb place (length x.device.interfaces.interfaces) (omega (arith, lt, many))) (ap Some same)
number_there (x ∷ ls) (suc link) place l is lt =
    let n = length x.device.interfaces.interfaces in
    let same : n + (held_before ls link + place) ≡ n + held_before ls link + place = omega arith in
    ap (option_map (λ (k : ℕ). n + k)) (number_there ls link place l is lt) ∙ ap Some same

number_past : (ends : List LinkEnds) (link place : ℕ) (l : LinkEnds) → slice_get ends link ≡ Some l
    → length l.device.interfaces.interfaces ≤ place → number_on_links ends link place ≡ None
number_past [] link place l is le = absurd (none-some l is)
number_past (x ∷ ls) zero place l is le =
    let many = ap (λ (y : LinkEnds). length y.device.interfaces.interfaces) (same_Some x l is) in
    rw (le-ltb place (length x.device.interfaces.interfaces) (omega (arith, le, many))) refl
number_past (x ∷ ls) (suc link) place l is le =
    ap (option_map (λ (k : ℕ). length x.device.interfaces.interfaces + k)) (number_past ls link place l is le)

on_itself : (link : ℕ) (xs : List Site) → on_link link xs xs ≡ filter (λ x. x.link == link) xs
on_itself link [] = refl
on_itself link (x ∷ xs) = by (x.link == link) (on_itself link xs)
  where
    by : (b : Bool) → on_link link xs xs ≡ filter (λ y. y.link == link) xs
        → (if b then x ∷ on_link link xs xs else on_link link xs xs)
        ≡ (if b then x ∷ filter (λ y. y.link == link) xs else filter (λ y. y.link == link) xs)
    by true rest = ap (λ ys. x ∷ ys) rest
    by false rest = rest

site_there : (plan : Plan) (link place : ℕ) → place < length (planned_on plan.links link)
    → site_on plan link place ≡ slice_get (sites plan) (interfaces_before plan.links link + place)
site_there plan link place lt = ap (λ xs. slice_get xs place) (sym (on_itself link (sites plan)))
    ∙ on_link_at plan link place (sites plan) refl lt

site_past : (plan : Plan) (link place : ℕ) → length (planned_on plan.links link) ≤ place
    → site_on plan link place ≡ None
site_past plan link place le = ap (λ xs. slice_get xs place) (sym (on_itself link (sites plan)))
    ∙ on_link_past plan link place (sites plan) refl le

module _ (plan : Plan) (s : WholeLinks) (w : Whole)
    (beside : IsBeside plan s.links.ends.links s.links.keeper.interfaces s.links.trusted.contents w)
    (fits : FitsPlan plan) (many : length s.links.ends.links ≡ length plan.links)
    (whole : length s.accesses ≡ length s.links.ends.links)
    (accesses : AreAccesses plan (link_seen s.accesses) w.accesses)
    (each_link : (link : ℕ) (l : LinkEnds) → slice_get s.links.ends.links link ≡ Some l → IsLink plan link l) where
  -- ---- at a host's port

  judged_is : (link : ℕ) (l : LinkEnds) (interface draw : ℕ) (bytes : List ℕ) (bound : Option Binding)
      → slice_get s.links.ends.links link ≡ Some l
      → bound_completion (host_port link) bytes (judged_bound (host_stream l bytes) interface draw bound)
      ≡ completion_by plan (host_port link) interface draw bytes bound
  judged_is link l interface draw bytes bound is =
      let e = each_link link l is in
      (λ i. bound_completion (host_port link) bytes (judged_bound
      (stream_taken (outgoing_of (e.host.plans i) (e.host.name i).side bytes)) interface draw bound))

  numbered_is : (link : ℕ) (l : LinkEnds) (r : WaitingRead) (o : Option Site)
      → slice_get s.links.ends.links link ≡ Some l
      → reply_numbered s.links.keeper.interfaces l link s.links.trusted.contents r
      (option_map (λ (x : Site). x.number) o)
      ≡ site_completion plan (host_port link) r.came.draw (completion_from_memory plan w (host_port link) r.read)
      (grant_of plan w.faces link r.read.requester) o
  numbered_is link l r None is = refl
  numbered_is link l r (Some x) is =
      (λ i. bound_completion (host_port link)
      (completion_bytes host_completer (λ a. beside.written a i) r.read)
      (judged_bound (host_stream l (completion_bytes host_completer (λ a. beside.written a i) r.read)) x.number
      r.came.draw (grant_is plan s.links.ends.links s.links.keeper.interfaces s.links.trusted.contents w beside fits
      many link r.read.requester i)))
      ∙ judged_is link l x.number r.came.draw (completion_from_memory plan w (host_port link) r.read)
      (grant_of plan w.faces link r.read.requester) is

  host_is : (link : ℕ) (l : LinkEnds) (r : WaitingRead) → slice_get s.links.ends.links link ≡ Some l
      → host_reply s.links.keeper.interfaces l link s.links.trusted.contents r
      ≡ host_completion plan (grant_of plan w.faces) link (completion_from_memory plan w (host_port link) r.read) r
  host_is link l r is =
      ap (reply_numbered s.links.keeper.interfaces l link s.links.trusted.contents r)
      (reader_is plan s.links.ends.links s.links.keeper.interfaces s.links.trusted.contents w beside fits many
      s.accesses whole accesses link r.read.requester)
      ∙ numbered_is link l r (site_of_requester plan link r.read.requester) is

  -- ---- at a device's port

  module _ (link : ℕ) (l : LinkEnds) (is : slice_get s.links.ends.links link ≡ Some l) where
    laid_is : length (planned_on plan.links link) ≡ length l.device.interfaces.interfaces
    laid_is = laid_many plan s.links.ends.links s.links.keeper.interfaces s.links.trusted.contents w beside fits many
        link l is

    -- the interface at this place
    record IsOfPlace (place : ℕ) : Type 0 where
      site : Site
      tdi : DeviceTdi
      site_is : site_on plan link place ≡ Some site
      tdi_is : slice_get l.device.interfaces.interfaces place ≡ Some tdi
      plan_is : tdi.plan ≡ site.plan
      number_is : site.number ≡ held_before s.links.ends.links link + place
      few : site.number ≤ 255

    of_place : (place : ℕ) → place < length l.device.interfaces.interfaces → IsOfPlace place
    of_place place lt =
        let ends = s.links.ends.links in
        let n = held_before ends link + place in
        let t = get_there l.device.interfaces.interfaces place lt in
        let x = site_at_place plan ends s.links.keeper.interfaces s.links.trusted.contents w link place l t.0 beside
        many is t.1 in
        let number = site_numbered plan n x.site x.site_is in
        record {
          site = x.site;
          tdi = t.0;
          site_is = site_there plan link place (omega (arith, lt, laid_is))
              ∙ (ap (λ (k : ℕ). slice_get (sites plan) (k + place)) (sym (before_is plan ends
              s.links.keeper.interfaces s.links.trusted.contents w beside fits many link)) ∙ x.site_is);
          tdi_is = t.1;
          plan_is = x.plan_is;
          number_is = number;
          few = omega (arith, number, slice_get_within (sites plan) n x.site x.site_is, sites_few plan fits);
        }

    none_past : (place : ℕ) → length l.device.interfaces.interfaces ≤ place → site_on plan link place ≡ None
    none_past place le = site_past plan link place (omega (arith, le, laid_is))

    number_is : (place : ℕ) → option_and_then small_number (number_on_links s.links.ends.links link place)
        ≡ option_map (λ (x : Site). x.number) (site_on plan link place)
    number_is place = ⊎_elim
        (λ lt.
        let x = of_place place lt in
        ap (option_and_then small_number) (number_there s.links.ends.links link place l is lt
        ∙ ap Some (sym x.number_is))
        ∙ (ap (λ (b : Bool). if b then Some x.site.number else None) (le-leb x.site.number 255 x.few)
        ∙ sym (ap (option_map (λ (y : Site). y.number)) x.site_is)))
        (λ le. ap (option_and_then small_number) (number_past s.links.ends.links link place l is le)
        ∙ sym (ap (option_map (λ (y : Site). y.number)) (none_past place le)))
        (cases_lt place (length l.device.interfaces.interfaces))

    requester_is : (place : ℕ) → requester_at l place ≡ completer_on plan link place
    requester_is place = ⊎_elim
        (λ lt.
        let x = of_place place lt in
        ap (λ (o : Option DeviceTdi). option_map_or (λ (t : DeviceTdi). t.plan.requester) o 0) x.tdi_is
        ∙ (ap (λ (p : InterfacePlan). p.requester) x.plan_is
        ∙ sym (ap (λ (o : Option Site). option_map_or (λ (y : Site). y.plan.requester) o 0) x.site_is)))
        (λ le.
        ap (λ (o : Option DeviceTdi). option_map_or (λ (t : DeviceTdi). t.plan.requester) o 0)
        (slice_get_past l.device.interfaces.interfaces place le)
        ∙ sym (ap (λ (o : Option Site). option_map_or (λ (y : Site). y.plan.requester) o 0) (none_past place le)))
        (cases_lt place (length l.device.interfaces.interfaces))

    module _ (a : LinkAccesses) (at : slice_get s.accesses link ≡ Some a) where
      byte_is : (i b offset : ℕ) → mmio_byte a.guarded i b offset ≡ byte_shown (w.accesses.happened link) i b offset
      byte_is i b offset =
          ap (λ (o : Option LinkAccesses). option_map_or (λ (x : LinkAccesses). mmio_byte x.guarded) o
          (λ i b offset. 0) i b offset) (sym at)
          ∙ accesses.bytes link i b offset

      claim_is : (read : MemReadView) (o : Option Claim)
          → claim_bytes l a.guarded read o ≡ claim_completion plan link (w.accesses.happened link) read o
      claim_is read None = refl
      claim_is read (Some c) = λ i. completion_bytes (requester_is c.interface i)
          (claimed_byte (λ n b offset. byte_is n b offset i) c) read

      statuses_is : link_statuses l a ≡ statuses_of plan w link
      statuses_is = statuses_there plan s.links.ends.links s.links.keeper.interfaces s.links.trusted.contents w beside
          fits many s.accesses whole accesses link l a is at

      claimed_is : (r : WaitingRead) (target : ReadTarget) (o : Option Site)
          → response_numbered l a r target (option_map (λ (x : Site). x.number) o)
          ≡ response_by (statuses_of plan w link) (completion_from_memory plan w (device_port link) r.read) r target o
      claimed_is r target None = refl
      claimed_is r target (Some x) =
          (λ i. claimed_completion r.came x.number
          (claim_bytes l a.guarded r.read (claim_of (statuses_is i) r.read.span))
          (judged_claim (claim_of (statuses_is i) r.read.span) target r.came))
          ∙ ap (λ (bytes : List ℕ). claimed_completion r.came x.number bytes
          (judged_claim (claim_of (statuses_of plan w link) r.read.span) target r.came))
          (claim_is r.read (claim_of (statuses_of plan w link) r.read.span))

      target_is : (r : WaitingRead) (o : Option ReadTarget)
          → target_reply s.links.ends.links l a link r o
          ≡ target_completion plan (statuses_of plan w link) link
          (completion_from_memory plan w (device_port link) r.read) r o
      target_is r None = refl
      target_is r (Some target) = ap (response_numbered l a r target) (number_is target.interface)
          ∙ claimed_is r target (site_on plan link target.interface)

      -- ---- at either

      side_is : (side : Side) (r : WaitingRead)
          → reply_on_side side s l a link r
          ≡ completion_at_side plan (policy_of plan w) side link
          (completion_from_memory plan w (record { side = side; line = link }) r.read) r
      side_is Host r = host_is link l r is
      side_is Device r = target_is r r.target

      first_is : (side : Side) (rs : List WaitingRead)
          → reply_oldest (record { side = side; line = link }) s l a rs
          ≡ completion_first plan (policy_of plan w)
          (completion_from_memory plan w (record { side = side; line = link })) (record { side = side; line = link })
          rs
      first_is side [] = refl
      first_is side (r ∷ rs) = side_is side r

  pub reply_is : (port : PortName) → port_reply s port ≡ machine_completion plan w port
  reply_is port = ⊎_elim
      (λ lt.
      let l = get_there s.links.ends.links port.line lt in
      let a = get_there s.accesses port.line (omega (arith, lt, whole)) in
      let reads = ap (λ (o : Option LinkAccesses). option_map_or (reads_on port.side) o []) (sym a.1)
      ∙ accesses.reads port in
      (λ i. reply_at_link port s (l.1 i) (a.1 i))
      ∙ (first_is port.line l.0 l.1 a.0 a.1 port.side (reads_on port.side a.0)
      ∙ (ap first reads
      ∙ sym (ap (λ (b : Bool). if b then first (w.accesses.waiting port) else Err v.Nothing)
      (lt-ltb port.line (length plan.links) (omega (arith, lt, many)))))))
      (λ le.
      ap (λ (o : Option LinkEnds). reply_at_link port s o (slice_get s.accesses port.line))
      (slice_get_past s.links.ends.links port.line le)
      ∙ sym (ap (λ (b : Bool). if b then first (w.accesses.waiting port) else Err v.Nothing)
      (le-ltb port.line (length plan.links) (omega (arith, le, many)))))
      (cases_lt port.line (length s.links.ends.links))
    where
      first : List WaitingRead → Result ReadCompletion Verdict
      first = completion_first plan (policy_of plan w) (completion_from_memory plan w port) port
