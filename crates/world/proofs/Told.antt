-- What the manager of interfaces is told by operations on streams, line by line: it keeps of each interface what the
-- machine keeps of it. An operation on a stream of a link tells of the interfaces that are bound to it; a stop of a
-- stream between devices breaks the views of those for which a binding to it was asked.
use Rattle.std.proofs.Common.{◌≡◌, ◌≢◌, ℕ, ◌==◌, ◌&&◌, ◌||◌, ◌+◌, ◌-◌, ◌<◌, Bool, true, false, List, [], ◌∷◌, length}
use Rattle.std.proofs.Common.{Option, Some, None, refl, ap, sym, ◌∙◌, subst, arith, suc, zero, ⊎_elim}
use Rattle.std.specs.Prelude.{slice_get, slice_set, is_some, nat_le, if◌then◌else◌, unwrap_or, map, replicate}
use Rattle.std.proofs.lemmas.List.Elements.{All-replicate}
use Rattle.std.specs.List.{slice_index_or}
use Rattle.std.proofs.lemmas.List.{get_or-set_same, get_or-set_other}
use Rattle.std.proofs.lemmas.Bool.{cases_Bool}
use Rattle.std.proofs.lemmas.Bool.Decides.{nat_tests}
use Rattle.std.proofs.lemmas.Option.{none-some, same_Some}
use Rattle.ide_types.specs.Lines.{peer_line}
use Rattle.ide_types.specs.Fits.{IsKey}
use Rattle.ide_types.specs.declared.plan.Plan.{Plan}
use Rattle.ide_types.specs.declared.plan.PeerPlan.{PeerPlan}
use Rattle.ide_types.specs.declared.stream.StreamPlan.{StreamPlan}
use Rattle.script_events.specs.declared.event.Event.TheVariants as event
use Rattle.script_events.specs.declared.event.Loss.{Loss}
use Rattle.event_verdicts.specs.declared.verdict.Operation.TheVariants as op
use Rattle.event_verdicts.specs.declared.verdict.Verdict.{Verdict}
use Rattle.spec_keys.specs.Operations.{StreamStage, reach_of, work_of}
use Rattle.spec_interfaces.specs.Sites.{Site}
use Rattle.spec_interfaces.specs.Views.{Managed, managed_after, stop_begins, view_broken, peer_of, is_bind_asked}
use Rattle.interface_host.specs.Views.{HostTdi, Seen, IsUnlocked, IsLocked, IsRunning, IsDoubt, IsBroken, nonce_of}
use Rattle.interface_host.specs.Views.{broken_view, left_by_peer_stop, is_asked}
use Rattle.join_interfaces.specs.Faces.{SeenAs, IsManaged}
use Rattle.spec_links.specs.Plan.{streams_by_link, hop_by_link, peer_streams, behind_near, behind_links, lone_stream}
use Rattle.spec_links.specs.Plan.{streams_of}
unfoldable use Rattle.spec_links.specs.Plan.{streams_by_line}
use Rattle.spec_links.proofs.Ends.{behind_eight}
use Rattle.machine_ports.specs.Machine.{LinkState, found_by_id}
unfoldable use Rattle.machine_ports.specs.Machine.{find_op}

-- ---- a view that is broken

zero_key : IsKey (replicate 32 0)
zero_key = (refl, All-replicate (λ b. b < 256) 32 0 (omega arith))

broken_nonce : (s : Seen) → IsKey (nonce_of s) → IsKey (nonce_of (broken_view s))
broken_nonce IsUnlocked is = is
broken_nonce (IsLocked nonce is_reported) is = zero_key
broken_nonce (IsRunning floor) is = zero_key
broken_nonce IsDoubt is = zero_key
broken_nonce IsBroken is = zero_key

broken_seen : (s : Seen) (g : Managed) → SeenAs s g → SeenAs (broken_view s) (record g { view = view_broken g.view })
broken_seen IsUnlocked g is = ap view_broken is
broken_seen (IsLocked nonce is_reported) g is = ap view_broken is.0
broken_seen (IsRunning floor) g is = ap view_broken is.0
broken_seen IsDoubt g is = ap view_broken is
broken_seen IsBroken g is = ap view_broken is

pub broken_managed : (b : Bool) (draw : ℕ) (x : Site) (h : HostTdi) (g : Managed) → IsManaged draw x h g
    → IsManaged draw x (if b then record h { seen = broken_view h.seen } else h)
    (if b then record g { view = view_broken g.view } else g)
broken_managed true draw x h g is = record {
  laid_out = record {
    link = is.laid_out.link;
    requester = is.laid_out.requester;
    stream = is.laid_out.stream;
    flags = is.laid_out.flags;
    offset = is.laid_out.offset;
  };
  draw_is = is.draw_is;
  needs = is.needs;
  started = is.started;
  seen = broken_seen h.seen g is.seen;
  nonce = broken_nonce h.seen is.nonce;
  asked = is.asked;
}
broken_managed false draw x h g is = is

-- ---- numbers

pub same_link : (a b link : ℕ) → a ≡ b → (a == link) ≡ (link == b)
same_link a b link same = rw same (grind (arith, nat_tests))

-- ---- the draw of its stream

pub set_managed : (b : Bool) (drawn draw : ℕ) (x : Site) (h : HostTdi) (g : Managed) → IsManaged draw x h g
    → IsManaged (if b then drawn else draw) x (if b then record h { draw = drawn } else h) g
set_managed true drawn draw x h g is = record {
  laid_out = record {
    link = is.laid_out.link;
    requester = is.laid_out.requester;
    stream = is.laid_out.stream;
    flags = is.laid_out.flags;
    offset = is.laid_out.offset;
  };
  draw_is = refl;
  needs = is.needs;
  started = is.started;
  seen = is.seen;
  nonce = is.nonce;
  asked = is.asked;
}
set_managed false drawn draw x h g is = is

pub keyed_managed : (b one two : Bool) (drawn draw : ℕ) (x : Site) (h : HostTdi) (g : Managed) → IsManaged draw x h g
    → IsManaged (if one && two && b then drawn else draw) x
    (if b then (if one && two then record h { draw = drawn } else h) else h) g
keyed_managed true true true drawn draw x h g is = set_managed true drawn draw x h g is
keyed_managed true true false drawn draw x h g is = is
keyed_managed true false two drawn draw x h g is = is
keyed_managed false true true drawn draw x h g is = is
keyed_managed false true false drawn draw x h g is = is
keyed_managed false false two drawn draw x h g is = is

pub stopped_managed : (b one two : Bool) (draw : ℕ) (x : Site) (h : HostTdi) (g : Managed) → IsManaged draw x h g
    → IsManaged draw x (if b then (if one && two then record h { seen = broken_view h.seen } else h) else h)
    (if one && two && b then record g { view = view_broken g.view } else g)
stopped_managed true true true draw x h g is = broken_managed true draw x h g is
stopped_managed true true false draw x h g is = is
stopped_managed true false two draw x h g is = is
stopped_managed false true true draw x h g is = is
stopped_managed false true false draw x h g is = is
stopped_managed false false two draw x h g is = is

-- a stop of a stream between devices
pub peer_stopped : (number draw : ℕ) (x : Site) (h : HostTdi) (g : Managed) → IsManaged draw x h g
    → IsManaged draw x (left_by_peer_stop number h)
    (if is_asked number g.asked then record g { view = view_broken g.view } else g)
peer_stopped number draw x h g is =
    subst (λ (bs : List Bool). IsManaged draw x
    (if is_asked number bs then record h { seen = broken_view h.seen } else h)
    (if is_asked number g.asked then record g { view = view_broken g.view } else g)) (sym is.asked)
    (broken_managed (is_asked number g.asked) draw x h g is)

-- ---- what a stop breaks at the machine

or_none : (a b : Bool) → b ≡ false → (a || b) ≡ a
or_none a b none = grind arith

no_and : (a b : Bool) → a ≡ false → (a && b) ≡ false
no_and a b none = grind arith

module _ (ops : ℕ → ℕ → StreamStage) (drawn : ℕ) (x : Site) (line stream : ℕ) (loss : Option Loss) (w : Verdict)
    (g : Managed)
  where
    -- of a stream of a link, or of a hop
    pub link_stop : nat_le 24 line ≡ false → managed_after ops drawn x (event.Stop line stream loss) w g
        ≡ (if (line == x.link) && (stream == x.plan.stream) && stop_begins (ops line stream) drawn w
        then record g { view = view_broken g.view } else g)
    link_stop early = ap (λ (b : Bool). if b then record g { view = view_broken g.view } else g)
        (or_none _ _ (no_and (is_bind_asked line g.asked) _ (no_and (nat_le 24 line) _ early)))

    -- of a stream between devices
    pub peer_stop_breaks : nat_le 24 line ≡ true → (line == x.link) ≡ false → is_some (reach_of op.Stop w) ≡ true
        → managed_after ops drawn x (event.Stop line stream loss) w g
        ≡ (if is_asked (peer_of line) g.asked then record g { view = view_broken g.view } else g)
    peer_stop_breaks late far reaches = ap (λ (b : Bool). if b then record g { view = view_broken g.view } else g)
        (by (nat_le 24 line) (line == x.link) (is_some (reach_of op.Stop w)) late far reaches)
      where
        by : (a b c : Bool) → a ≡ true → b ≡ false → c ≡ true
            → ((b && (stream == x.plan.stream) && stop_begins (ops line stream) drawn w)
            || ((a && unwrap_or (slice_get g.asked (line - 24)) false) && c)) ≡ is_asked (peer_of line) g.asked
        by a b c is_a is_b is_c = rw (is_a, is_b, is_c) (all (is_asked (peer_of line) g.asked))
          where
            all : (d : Bool) → (d && true) ≡ d
            all true = refl
            all false = refl

    -- without an answer that tells how far it came it breaks nothing
    pub none_breaks : is_some (reach_of op.Stop w) ≡ false
        → managed_after ops drawn x (event.Stop line stream loss) w g ≡ g
    none_breaks none = ap (λ (b : Bool). if b then record g { view = view_broken g.view } else g)
        (by ((line == x.link) && (stream == x.plan.stream)) (work_of op.Stop (ops line stream) drawn).begins
        (is_bind_asked line g.asked) (is_some (reach_of op.Stop w)) none)
      where
        by : (own begins asked reaches : Bool) → reaches ≡ false
            → ((own && (begins && reaches)) || (asked && reaches)) ≡ false
        by own begins asked reaches none = rw none (all own begins asked)
          where
            all : (a b c : Bool) → ((a && (b && false)) || (c && false)) ≡ false
            all a b c = grind arith

-- ---- streams between devices

pub peer_row : (plan : Plan) (p : ℕ) → streams_of plan (peer_line p) ≡ slice_index_or (peer_streams plan) p []
unfolding streams_by_line
peer_row plan p =
    let one : 24 + p - 8 ≡ 16 + p = omega arith in
    let two : 16 + p - 8 ≡ 8 + p = omega arith in
    let three : 8 + p - 8 ≡ p = omega arith in
    behind_eight (streams_by_link plan) (behind_links plan) (24 + p) (omega arith)
    ∙ (ap (λ (n : ℕ). slice_index_or (behind_links plan) n []) one
    ∙ (behind_eight (hop_by_link plan) (behind_near plan) (16 + p) (omega arith)
    ∙ (ap (λ (n : ℕ). slice_index_or (behind_near plan) n []) two
    ∙ (behind_eight (hop_by_link plan) (peer_streams plan) (8 + p) (omega arith)
    ∙ ap (λ (n : ℕ). slice_index_or (peer_streams plan) n []) three))))

one_row : (ps : List PeerPlan) (p : ℕ) (q : PeerPlan) → slice_get ps p ≡ Some q
    → slice_index_or (map (λ (r : PeerPlan). lone_stream r.id r.aggregation ∷ []) ps) p []
    ≡ lone_stream q.id q.aggregation ∷ []
one_row [] p q is = absurd (none-some q is)
one_row (r ∷ ps) zero q is = ap (λ (t : PeerPlan). lone_stream t.id t.aggregation ∷ []) (same_Some r q is)
one_row (r ∷ ps) (suc p) q is = one_row ps p q is

only_id : {A : Type 0} (s : StreamPlan) (xs : List A) (id : ℕ) (y : A) → found_by_id (s ∷ []) xs id ≡ Some y
    → (id == s.id) ≡ true
only_id s [] id y is = absurd (none-some y is)
only_id s (x ∷ xs) id y is = by (s.id == id) is refl
  where
    by : (b : Bool) → (if b then Some x else None) ≡ Some y → (s.id == id) ≡ b → (id == s.id) ≡ true
    by true is same = grind (arith, nat_tests)
    by false is same = absurd (none-some y is)

-- the manager has no other stream on the line of one between devices
pub peer_stream_id : (plan : Plan) (st : LinkState) (p stream : ℕ) (q : PeerPlan) (o : StreamStage)
    → slice_get plan.peers p ≡ Some q → find_op plan st (peer_line p) stream ≡ Some o → (stream == q.id) ≡ true
unfolding find_op
peer_stream_id plan st p stream q o at found =
    let row = peer_row plan p ∙ one_row plan.peers p q at in
    only_id (lone_stream q.id q.aggregation) (slice_index_or st.ops (peer_line p) []) stream o
    (ap (λ (ss : List StreamPlan). found_by_id ss (slice_index_or st.ops (peer_line p) []) stream) (sym row) ∙ found)

-- ---- the draws of streams between devices

apart_numbers : (i j : ℕ) → (i == j) ≡ false → j ≢ i
apart_numbers i j apart = grind (arith, nat_tests)

set_read : (ns : List ℕ) (i n : ℕ) → i < length ns → slice_index_or (slice_set ns i n) i 0 ≡ n
set_read ns i n less = get_or-set_same ns i n 0 less

set_elsewhere : (ns : List ℕ) (i j n : ℕ) → (i == j) ≡ false
    → slice_index_or (slice_set ns i n) j 0 ≡ slice_index_or ns j 0
set_elsewhere ns i j n apart = get_or-set_other ns i j n 0 (apart_numbers i j apart)

-- a link's stream, or a hop's, is none between devices
pub early_line : (line p : ℕ) → nat_le 24 line ≡ false → (line == peer_line p) ≡ false
early_line line p early = grind (arith, nat_tests)

this_number : (line p : ℕ) → nat_le 24 line ≡ true → (line == peer_line p) ≡ true → peer_of line ≡ p
this_number line p late is = grind (arith, nat_tests)

other_number : (line p : ℕ) → nat_le 24 line ≡ true → (line == peer_line p) ≡ false → (peer_of line == p) ≡ false
other_number line p late is = grind (arith, nat_tests)

-- an establish that began gives its stream the next draw
pub one_drawn : (ns : List ℕ) (line stream drawn before p id : ℕ) (b : Bool) → p < length ns → slice_index_or ns p 0
    ≡ before → (b ≡ true → nat_le 24 line ≡ true → (line == peer_line p) ≡ true → (stream == id) ≡ true)
    → slice_index_or (if nat_le 24 line && b then slice_set ns (peer_of line) drawn else ns) p 0
    ≡ (if (line == peer_line p) && (stream == id) && b then drawn else before)
one_drawn ns line stream drawn before p id false there is same =
    let left = none_of (nat_le 24 line) in
    let right = none_of ((line == peer_line p) && (stream == id)) in
    (λ i. slice_index_or (if left i then slice_set ns (peer_of line) drawn else ns) p 0) ∙ is
    ∙ (λ i. if sym right i then drawn else before)
  where
    none_of : (a : Bool) → (a && false) ≡ false
    none_of true = refl
    none_of false = refl
one_drawn ns line stream drawn before p id true there is same = ⊎_elim
    (λ late. ⊎_elim
    (λ here.
    let n = this_number line p late here in
    set_if_late (nat_le 24 line) (peer_of line) late
    ∙ subst (λ (m : ℕ). slice_index_or (slice_set ns m drawn) p 0 ≡ drawn) (sym n) (set_read ns p drawn there)
    ∙ sym (both_meet (line == peer_line p) (stream == id) here (same refl late here)))
    (λ apart. set_if_late (nat_le 24 line) (peer_of line) late
    ∙ set_elsewhere ns (peer_of line) p drawn (other_number line p late apart) ∙ is
    ∙ sym (not_here (line == peer_line p) apart))
    (cases_Bool (line == peer_line p)))
    (λ early. kept_early (nat_le 24 line) early ∙ is ∙ sym (not_here (line == peer_line p) (early_line line p early)))
    (cases_Bool (nat_le 24 line))
  where
    set_if_late : (a : Bool) (m : ℕ) → a ≡ true → slice_index_or (if a && true then slice_set ns m drawn else ns) p 0
        ≡ slice_index_or (slice_set ns m drawn) p 0
    set_if_late a m is_a = rw is_a refl

    kept_early : (a : Bool) → a ≡ false → slice_index_or (if a && true then slice_set ns (peer_of line) drawn else ns) p
        0 ≡ slice_index_or ns p 0
    kept_early a is_a = rw is_a refl

    both_meet : (a b : Bool) → a ≡ true → b ≡ true → (if a && b && true then drawn else before) ≡ drawn
    both_meet a b is_a is_b = rw (is_a, is_b) refl

    not_here : (a : Bool) → a ≡ false → (if a && (stream == id) && true then drawn else before) ≡ before
    not_here a is_a = rw is_a refl
