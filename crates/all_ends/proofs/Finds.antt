-- The states of the ports of all lines, as the machine has them, and one end changed. The machine has one list, of each
-- line its near end and then its far end: an end is read and set at twice its line and its side (`row_at`, `rows_set`).
use Rattle.all_ends.proofs.Terms.{◌≡◌, ℕ, suc, zero, ◌+◌, ◌-◌, ◌*◌, ◌<◌, ◌≤◌, List, [], ◌∷◌, ◌++◌, length, refl, ap}
use Rattle.all_ends.proofs.Terms.{sym, ◌∙◌, subst, arith, Option, Some, None, option_map, slice_get, slice_set}
use Rattle.all_ends.proofs.Terms.{slice_index_or, option_map_or, same_Some, none-some, slice_get_within, set-get_or}
use Rattle.all_ends.proofs.Terms.{length-append, replicate, Side, Host, Device, PortName, Plan, StreamPlan}
use Rattle.all_ends.proofs.Terms.{sent_direction, StreamState, streams_of, stream_plan, with_id, aggregation_of}
use Rattle.all_ends.proofs.Terms.{is_closed, LinkPacket, port_at, port_place, find, with_stream_state, PortEnd, Found}
use Rattle.all_ends.proofs.Terms.{found_stream, changed_states, LinkEnds, PairEnds, EndsView, port_in, with_port}
use Rattle.all_ends.proofs.Terms.{pair_port, with_pair_port, KeeperView, ports_in, pair_ports, in_sixteen, rows_of}
use Rattle.all_ends.proofs.Terms.{state_of, IsPort, IsLink, IsPair, AreLinks, machine_found, machine_changed}
use Rattle.all_ends.proofs.Terms.{found_plan, LinePlace, Link, Near, Pair, port_at_place, port_on, with_port_at_place}
use Rattle.all_ends.proofs.Terms.{with_port_on, changed_at, false}
use Rattle.machine_ports.specs.Machine.{changed_by_id as id_changed, found_by_id as id_found}
use Rattle.std.proofs.lemmas.List.{get_or_append_left, get_or-append_right, set-append_left, set-append_right}
use Rattle.all_ends.proofs.ByPlace.{by_place, filled_get, filled_set, filled_length}

-- ---- the states of one end, in lists of ends

twice : (i d : ℕ) → 2 * suc i + d ≡ suc (suc (2 * i + d))
twice i d = omega arith

one_most : (s : Side) → sent_direction s ≤ 1
one_most Host = omega arith
one_most Device = omega arith

pub mapped : {A B : Type 0} (g : A → B) (o : Option A) (y : B) → option_map g o ≡ Some y
    → (x : A) × (o ≡ Some x) × (g x ≡ y)
mapped g None y is = absurd (none-some y is)
mapped g (Some x) y is = (x, refl, same_Some (g x) y is)

states_at : (ls : List LinkEnds) (s : Side) (i : ℕ) (l : LinkEnds) → slice_get ls i ≡ Some l
    → slice_index_or (ports_in ls) (2 * i + sent_direction s) [] ≡ (port_in s l).states
states_at [] s i l is = absurd (none-some l is)
states_at (x ∷ ls) Host zero l is = ap (λ (y : LinkEnds). y.host.states) (same_Some x l is)
states_at (x ∷ ls) Device zero l is = ap (λ (y : LinkEnds). y.device.port.states) (same_Some x l is)
states_at (x ∷ ls) s (suc i) l is = ap (λ (n : ℕ). slice_index_or (ports_in (x ∷ ls)) n []) (twice i (sent_direction s))
    ∙ states_at ls s i l is

pair_states_at : (ls : List PairEnds) (s : Side) (i : ℕ) (l : PairEnds) → slice_get ls i ≡ Some l
    → slice_index_or (pair_ports ls) (2 * i + sent_direction s) [] ≡ (pair_port s l).states
pair_states_at [] s i l is = absurd (none-some l is)
pair_states_at (x ∷ ls) Host zero l is = ap (λ (y : PairEnds). y.near.port.states) (same_Some x l is)
pair_states_at (x ∷ ls) Device zero l is = ap (λ (y : PairEnds). y.far.port.states) (same_Some x l is)
pair_states_at (x ∷ ls) s (suc i) l is = ap (λ (n : ℕ). slice_index_or (pair_ports (x ∷ ls)) n [])
    (twice i (sent_direction s)) ∙ pair_states_at ls s i l is

states_set : (ls : List LinkEnds) (s : Side) (i : ℕ) (l : LinkEnds) (e : PortEnd) → slice_get ls i ≡ Some l
    → ports_in (changed_at ls i (with_port s e)) ≡ slice_set (ports_in ls) (2 * i + sent_direction s) e.states
states_set [] s i l e is = absurd (none-some l is)
states_set (x ∷ ls) Host zero l e is = refl
states_set (x ∷ ls) Device zero l e is = refl
states_set (x ∷ ls) s (suc i) l e is =
    ap (λ (zs : List (List StreamState)). x.host.states ∷ x.device.port.states ∷ zs) (states_set ls s i l e is)
    ∙ ap (λ (n : ℕ). slice_set (ports_in (x ∷ ls)) n e.states) (sym (twice i (sent_direction s)))

pair_states_set : (ls : List PairEnds) (s : Side) (i : ℕ) (l : PairEnds) (e : PortEnd) → slice_get ls i ≡ Some l
    → pair_ports (changed_at ls i (with_pair_port s e)) ≡ slice_set (pair_ports ls) (2 * i + sent_direction s) e.states
pair_states_set [] s i l e is = absurd (none-some l is)
pair_states_set (x ∷ ls) Host zero l e is = refl
pair_states_set (x ∷ ls) Device zero l e is = refl
pair_states_set (x ∷ ls) s (suc i) l e is =
    ap (λ (zs : List (List StreamState)). x.near.port.states ∷ x.far.port.states ∷ zs) (pair_states_set ls s i l e is)
    ∙ ap (λ (n : ℕ). slice_set (pair_ports (x ∷ ls)) n e.states) (sym (twice i (sent_direction s)))

pub ports_length : (ls : List LinkEnds) → length (ports_in ls) ≡ 2 * length ls
ports_length [] = refl
ports_length (l ∷ ls) = omega (arith, ports_length ls)

pub pairs_length : (ls : List PairEnds) → length (pair_ports ls) ≡ 2 * length ls
pairs_length [] = refl
pairs_length (l ∷ ls) = omega (arith, pairs_length ls)

-- ---- all lines

-- as many as the rows have place for
pub record IsWired (v : EndsView) : Type 0 where
  pub few : length v.links ≤ 8
  pub near_many : length v.near ≡ 8

pub wired : (plan : Plan) (v : EndsView) (k : KeeperView) → AreLinks plan v k → IsWired v
wired plan v k links = record {
  few = (let many = links.many in let most = links.fits.links_most in omega (arith, many, most));
  near_many = links.near_many;
}

abbrev Row : Type 0
Row = List StreamState

abbrev no_row : Row
no_row = []

module _ (v : EndsView) (w : IsWired v) where
  abbrev first_rows : List Row
  first_rows = in_sixteen (ports_in v.links)

  abbrev near_rows : List Row
  near_rows = ports_in v.near

  abbrev pair_rows : List Row
  pair_rows = pair_ports v.pairs

  sixteen : length first_rows ≡ 16
  sixteen = filled_length 16 16 (ports_in v.links) no_row (omega arith)

  near_sixteen : length near_rows ≡ 16
  near_sixteen = (let all = ports_length v.near in let many = w.near_many in omega (arith, all, many))

  both_rows : length (first_rows ++ near_rows) ≡ 32
  both_rows = (let all = length-append first_rows near_rows in omega (arith, all, sixteen, near_sixteen))

  -- where rows are found
  pub first_at : (n : ℕ) → n < 16 → slice_index_or (rows_of v) n [] ≡ slice_index_or first_rows n []
  first_at n lt = get_or_append_left (first_rows ++ near_rows) pair_rows [] n (omega (arith, both_rows, lt))
      ∙ get_or_append_left first_rows near_rows [] n (omega (arith, sixteen, lt))

  near_at : (n : ℕ) → n < 16 → slice_index_or (rows_of v) (16 + n) [] ≡ slice_index_or near_rows n []
  near_at n lt =
      let back : (16 + n) - 16 ≡ n = omega arith in
      get_or_append_left (first_rows ++ near_rows) pair_rows [] (16 + n) (omega (arith, both_rows, lt))
      ∙ (get_or-append_right first_rows near_rows 16 (16 + n) [] sixteen (omega arith)
      ∙ ap (λ (m : ℕ). slice_index_or near_rows m []) back)

  pub pair_at : (n : ℕ) → slice_index_or (rows_of v) (32 + n) [] ≡ slice_index_or pair_rows n []
  pair_at n =
      let back : (32 + n) - 32 ≡ n = omega arith in
      get_or-append_right (first_rows ++ near_rows) pair_rows 32 (32 + n) [] both_rows (omega arith)
      ∙ ap (λ (m : ℕ). slice_index_or pair_rows m []) back

  -- and set
  first_set : (n : ℕ) (y : Row) → n < 16 → slice_set (rows_of v) n y ≡ slice_set first_rows n y ++ near_rows
      ++ pair_rows
  first_set n y lt =
      set-append_left (first_rows ++ near_rows) pair_rows n y (omega (arith, both_rows, lt))
      ∙ ap (λ (rows : List Row). rows ++ pair_rows)
      (set-append_left first_rows near_rows n y (omega (arith, sixteen, lt)))

  near_set : (n : ℕ) (y : Row) → n < 16
      → slice_set (rows_of v) (16 + n) y ≡ first_rows ++ slice_set near_rows n y ++ pair_rows
  near_set n y lt =
      let back : (16 + n) - 16 ≡ n = omega arith in
      set-append_left (first_rows ++ near_rows) pair_rows (16 + n) y (omega (arith, both_rows, lt))
      ∙ ap (λ (rows : List Row). rows ++ pair_rows)
      (set-append_right first_rows near_rows 16 (16 + n) y sixteen (omega arith)
      ∙ ap (λ (m : ℕ). first_rows ++ slice_set near_rows m y) back)

  pair_set : (n : ℕ) (y : Row) → slice_set (rows_of v) (32 + n) y ≡ first_rows ++ near_rows ++ slice_set pair_rows n y
  pair_set n y =
      let back : (32 + n) - 32 ≡ n = omega arith in
      set-append_right (first_rows ++ near_rows) pair_rows 32 (32 + n) y both_rows (omega arith)
      ∙ ap (λ (m : ℕ). first_rows ++ near_rows ++ slice_set pair_rows m y) back

  -- at twice the line and the side
  module _ (s : Side) where
    abbrev at_row : ℕ → ℕ
    at_row line = 2 * line + sent_direction s

    near_row : (i : ℕ) → at_row (8 + i) ≡ 16 + at_row i
    near_row i = omega arith

    pair_row : (i : ℕ) → at_row (16 + i) ≡ 32 + at_row i
    pair_row i = omega arith

    abbrev ReadsAt : ℕ → LinePlace → Type 0
    ReadsAt line place = (e : PortEnd) → port_at_place v s place ≡ Some e
        → slice_index_or (rows_of v) (at_row line) [] ≡ e.states

    read_link : (i : ℕ) → i < 8 → ReadsAt i (Link i)
    read_link i lt e is =
        let x = mapped (λ (l : LinkEnds). port_in s l) (slice_get v.links i) e is in
        let one = one_most s in
        let within = slice_get_within v.links i x.0 x.1 in
        let all = ports_length v.links in
        first_at (at_row i) (omega (arith, lt, one))
        ∙ (filled_get 16 (at_row i) (ports_in v.links) (replicate 16 no_row) no_row (omega (arith, within, all, one))
        (omega (arith, lt, one))
        ∙ (states_at v.links s i x.0 x.1 ∙ ap (λ (p : PortEnd). p.states) x.2))

    read_near : (i : ℕ) → i < 8 → ReadsAt (8 + i) (Near i)
    read_near i lt e is =
        let x = mapped (λ (l : LinkEnds). port_in s l) (slice_get v.near i) e is in
        let one = one_most s in
        ap (λ (n : ℕ). slice_index_or (rows_of v) n []) (near_row i)
        ∙ (near_at (at_row i) (omega (arith, lt, one))
        ∙ (states_at v.near s i x.0 x.1 ∙ ap (λ (p : PortEnd). p.states) x.2))

    read_pair : (i : ℕ) → ReadsAt (16 + i) (Pair i)
    read_pair i e is =
        let x = mapped (λ (l : PairEnds). pair_port s l) (slice_get v.pairs i) e is in
        ap (λ (n : ℕ). slice_index_or (rows_of v) n []) (pair_row i)
        ∙ (pair_at (at_row i) ∙ (pair_states_at v.pairs s i x.0 x.1 ∙ ap (λ (p : PortEnd). p.states) x.2))

    abbrev SetsAt : ℕ → LinePlace → Type 0
    SetsAt line place = (e e' : PortEnd) → port_at_place v s place ≡ Some e
        → rows_of (with_port_at_place v s place e') ≡ slice_set (rows_of v) (at_row line) e'.states

    set_link : (i : ℕ) → i < 8 → SetsAt i (Link i)
    set_link i lt e e' is =
        let x = mapped (λ (l : LinkEnds). port_in s l) (slice_get v.links i) e is in
        let one = one_most s in
        let within = slice_get_within v.links i x.0 x.1 in
        let all = ports_length v.links in
        ap (λ (rows : List Row). rows ++ near_rows ++ pair_rows)
        (ap (λ (rows : List Row). in_sixteen rows) (states_set v.links s i x.0 e' x.1)
        ∙ filled_set 16 (at_row i) (ports_in v.links) (replicate 16 no_row) e'.states
        (omega (arith, within, all, one)) (omega (arith, lt, one)))
        ∙ sym (first_set (at_row i) e'.states (omega (arith, lt, one)))

    set_near : (i : ℕ) → i < 8 → SetsAt (8 + i) (Near i)
    set_near i lt e e' is =
        let x = mapped (λ (l : LinkEnds). port_in s l) (slice_get v.near i) e is in
        let one = one_most s in
        ap (λ (rows : List Row). first_rows ++ rows ++ pair_rows) (states_set v.near s i x.0 e' x.1)
        ∙ (sym (near_set (at_row i) e'.states (omega (arith, lt, one)))
        ∙ ap (λ (n : ℕ). slice_set (rows_of v) n e'.states) (sym (near_row i)))

    set_pair : (i : ℕ) → SetsAt (16 + i) (Pair i)
    set_pair i e e' is =
        let x = mapped (λ (l : PairEnds). pair_port s l) (slice_get v.pairs i) e is in
        ap (λ (rows : List Row). first_rows ++ near_rows ++ rows) (pair_states_set v.pairs s i x.0 e' x.1)
        ∙ (sym (pair_set (at_row i) e'.states)
        ∙ ap (λ (n : ℕ). slice_set (rows_of v) n e'.states) (sym (pair_row i)))

  pub row_at : (end : PortName) (e : PortEnd) → port_on v end ≡ Some e
      → slice_index_or (rows_of v) (port_place end) [] ≡ e.states
  row_at end e is = by_place (ReadsAt end.side) (read_link end.side) (read_near end.side) (read_pair end.side) end.line
      e is

  pub rows_set : (end : PortName) (e e' : PortEnd) → port_on v end ≡ Some e
      → rows_of (with_port_on v end e') ≡ slice_set (rows_of v) (port_place end) e'.states
  rows_set end e e' is = by_place (SetsAt end.side) (set_link end.side) (set_near end.side) (set_pair end.side) end.line
      e e' is

-- ---- the port of a plan

of_link : (plan : Plan) (line : ℕ) (l : LinkEnds) (s : Side) → IsLink plan line l
    → IsPort plan (port_at s line) (port_in s l)
of_link plan line l Host is = is.host
of_link plan line l Device is = is.device

of_pair : (plan : Plan) (line : ℕ) (l : PairEnds) (s : Side) → IsPair plan line l
    → IsPort plan (port_at s line) (pair_port s l)
of_pair plan line l Host is = is.near
of_pair plan line l Device is = is.far

module _ (plan : Plan) (v : EndsView) (k : KeeperView) (links : AreLinks plan v k) where
  abbrev PortAt : Side → ℕ → LinePlace → Type 0
  PortAt s line place = (e : PortEnd) → port_at_place v s place ≡ Some e → IsPort plan (port_at s line) e

  at_link : (s : Side) (i : ℕ) → i < 8 → PortAt s i (Link i)
  at_link s i lt e is =
      let x = mapped (λ (l : LinkEnds). port_in s l) (slice_get v.links i) e is in
      subst (λ (p : PortEnd). IsPort plan (port_at s i) p) x.2 (of_link plan i x.0 s (links.each_link i x.0 x.1))

  at_near : (s : Side) (i : ℕ) → i < 8 → PortAt s (8 + i) (Near i)
  at_near s i lt e is =
      let x = mapped (λ (l : LinkEnds). port_in s l) (slice_get v.near i) e is in
      subst (λ (p : PortEnd). IsPort plan (port_at s (8 + i)) p) x.2
      (of_link plan (8 + i) x.0 s (links.each_near i x.0 x.1))

  at_pair : (s : Side) (i : ℕ) → PortAt s (16 + i) (Pair i)
  at_pair s i e is =
      let x = mapped (λ (l : PairEnds). pair_port s l) (slice_get v.pairs i) e is in
      subst (λ (p : PortEnd). IsPort plan (port_at s (16 + i)) p) x.2
      (of_pair plan (16 + i) x.0 s (links.each_pair i x.0 x.1))

  pub port_is : (end : PortName) (e : PortEnd) → port_on v end ≡ Some e → IsPort plan end e
  port_is end e is = by_place (PortAt end.side) (at_link end.side) (at_near end.side) (at_pair end.side) end.line e is

-- ---- the machine's streams at an end

module _ (plan : Plan) (v : EndsView) (k : KeeperView) (packets : List LinkPacket) (w : IsWired v) (end : PortName)
    (e : PortEnd) (is : port_on v end ≡ Some e) where
  pub find_at : (id : ℕ) → IsPort plan end e → find plan (state_of plan v k packets) end id
      ≡ option_map (λ (f : Found). f.state) (found_stream e.plans e.states id)
  unfolding find
  find_at id at_port =
      ap (λ (xs : List StreamState). id_found (streams_of plan end.line) xs id) (row_at v w end e is)
      ∙ (ap (λ (ss : List StreamPlan). id_found ss e.states id) (sym at_port.plans)
      ∙ machine_found e.plans e.states id)

  pub put_at : (id : ℕ) (x : StreamState) (e' : PortEnd) → IsPort plan end e → e'.states
      ≡ changed_states e.plans e.states id x
      → with_stream_state plan (state_of plan v k packets) end id x ≡ state_of plan (with_port_on v end e') k packets
  unfolding with_stream_state
  put_at id x e' at_port states =
      let here : id_changed (streams_of plan end.line) (slice_index_or (rows_of v) (port_place end) []) id x
      ≡ e'.states =
      ap (λ (xs : List StreamState). id_changed (streams_of plan end.line) xs id x) (row_at v w end e is)
      ∙ (ap (λ (ss : List StreamPlan). id_changed ss e.states id x) (sym at_port.plans)
      ∙ (machine_changed e.plans e.states id x ∙ sym states)) in
      let all = ap (λ (xs : List StreamState). slice_set (rows_of v) (port_place end) xs) here
      ∙ sym (rows_set v w end e e' is) in
      ap (λ (ps : List (List StreamState)). record (state_of plan v k packets) { ports = ps }) all

  pub state_kept : (e' : PortEnd) → e'.states ≡ e.states
      → state_of plan v k packets ≡ state_of plan (with_port_on v end e') k packets
  state_kept e' same =
      let kept : rows_of (with_port_on v end e') ≡ rows_of v =
      rows_set v w end e e' is
      ∙ (ap (λ (xs : List StreamState). slice_set (rows_of v) (port_place end) xs)
      (same ∙ sym (row_at v w end e is))
      ∙ set-get_or (rows_of v) (port_place end) []) in
      ap (λ (ps : List (List StreamState)). record (state_of plan v k packets) { ports = ps }) (sym kept)

plan_at : (plan : Plan) (end : PortName) (e : PortEnd) (id : ℕ) (f : Found) → IsPort plan end e
    → found_stream e.plans e.states id ≡ Some f → stream_plan plan end.line id ≡ Some f.plan
unfolding stream_plan
plan_at plan end e id f is at =
    ap (λ (ss : List StreamPlan). with_id ss id) (sym is.plans) ∙ found_plan e.plans e.states id f at

pub aggregation_at : (plan : Plan) (end : PortName) (e : PortEnd) (id : ℕ) (f : Found) → IsPort plan end e
    → found_stream e.plans e.states id ≡ Some f → aggregation_of plan end.line id ≡ f.plan.aggregation
aggregation_at plan end e id f is at = ap
    (λ (o : Option StreamPlan). option_map_or (λ (s : StreamPlan). s.aggregation) o 1)
    (plan_at plan end e id f is at)

pub closed_at : (plan : Plan) (end : PortName) (e : PortEnd) (id : ℕ) (f : Found) → IsPort plan end e
    → found_stream e.plans e.states id ≡ Some f → is_closed plan end.line id ≡ f.plan.closed
closed_at plan end e id f is at = ap (λ (o : Option StreamPlan). option_map_or (λ (s : StreamPlan). s.closed) o false)
    (plan_at plan end e id f is at)
