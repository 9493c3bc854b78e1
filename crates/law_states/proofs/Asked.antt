-- Which bindings the manager asked for since a lock.
use Rattle.std.proofs.Common.{◌≡◌, ℕ, ◌+◌, ◌-◌, ◌<◌, ◌≤◌, ◌==◌, ◌&&◌}
use Rattle.std.proofs.Common.{◌||◌, ◌∷◌, zero, suc, Bool, true, false, not, List}
use Rattle.ide_types.specs.Ports.{host_port, device_port}
use Rattle.ide_types.specs.Lines.{peer_line as peer_line_of}
use Rattle.std.proofs.Common.{[], Option, Some, length, if◌then◌else◌, refl, sym, ap, ◌∙◌, subst, arith}
use Rattle.std.proofs.lemmas.Bool.{true≢false, eqb-true}
use Rattle.std.proofs.lemmas.Bool.Decides.{nat_tests}
use Rattle.std.specs.Prelude.{slice_get, slice_set, replicate, unwrap_or}
use Rattle.ide_types.specs.declared.plan.PeerPlan.{PeerPlan}
use Rattle.ide_types.specs.declared.port.PortName.{PortName}
unfoldable use Rattle.ide_types.specs.Ends.{peer_end}
use Rattle.spec_links.specs.Cause.{CauseLaw}
use Rattle.spec_interfaces.specs.Terms.{Plan, Event, Loss, Verdict, History, op_of, draws}
use Rattle.spec_interfaces.specs.Terms.{option_map_or}
use Rattle.spec_interfaces.specs.Sites.{Site, site_at}
use Rattle.spec_interfaces.specs.Exchanges.{is_asked_at}
use Rattle.spec_interfaces.specs.Peers.{has_peer}
use Rattle.spec_interfaces.specs.Views.{Managed, on_lock, on_report, on_start, on_halt, on_state, on_bind, view_broken}
use Rattle.spec_interfaces.specs.Views.{number_in, is_number, stop_breaks, peer_of, managed_after, no_binds}
unfoldable use Rattle.spec_interfaces.specs.Views.{managed_view}
use Rattle.spec_interfaces.specs.Due.{bind_due, asked_state}
use Rattle.spec_interfaces.proofs.Views.{due_own}
use Rattle.law_memory.proofs.Causes.{interface_cause}
use Rattle.law_states.specs.Views.{asks_lock}
unfoldable use Rattle.law_states.specs.Views.{was_bind_asked}
use Rattle.script_events.specs.declared.event.Event.TheVariants as event
use Rattle.script_events.specs.declared.event.InterfaceEvent.TheVariants as ie
use Rattle.event_verdicts.specs.declared.verdict.Verdict.TheVariants as v

-- ---- lists of tests

abbrev pub at_place : List Bool → ℕ → Bool
at_place bs n = unwrap_or (slice_get bs n) false

none_at : (k n : ℕ) → at_place (replicate k false) n ≡ false
none_at zero n = refl
none_at (suc k) zero = refl
none_at (suc k) (suc n) = none_at k n

zero_suc : (k : ℕ) → (0 == suc k) ≡ false
zero_suc k = grind (arith, nat_tests)

suc_zero : (k : ℕ) → (suc k == 0) ≡ false
suc_zero k = grind (arith, nat_tests)

suc_suc : (n k : ℕ) → (suc n == suc k) ≡ (n == k)
suc_suc n k = grind (arith, nat_tests)

set_at : (bs : List Bool) (n k : ℕ) → n < length bs → at_place (slice_set bs n true) k ≡ ((n == k) || at_place bs k)
set_at [] n k lt = absurd (omega (arith, lt))
set_at (b ∷ bs) zero zero lt = refl
set_at (b ∷ bs) zero (suc k) lt = rw (zero_suc k) refl
set_at (b ∷ bs) (suc n) zero lt = rw (suc_zero n) refl
set_at (b ∷ bs) (suc n) (suc k) lt = rw (suc_suc n k) (set_at bs n k (omega (arith, lt)))

set_length : (bs : List Bool) (n : ℕ) (b : Bool) → length (slice_set bs n b) ≡ length bs
set_length [] n b = refl
set_length (c ∷ bs) zero b = refl
set_length (c ∷ bs) (suc n) b = ap suc (set_length bs n b)

-- ---- lines of streams between devices

record IsPeerLine (line many : ℕ) : Type 0 where
  least : 24 ≤ line
  most : line < 24 + many

abbrev has_line : Option PortName → ℕ → Bool
has_line o line = option_map_or (λ e. e.line == line) o false

peer_line : (ps : List PeerPlan) (n link stream line : ℕ) → has_line (peer_end ps n link stream) line ≡ true
    → (24 + n ≤ line) × (line < 24 + n + length ps)
unfolding peer_end
peer_line [] n link stream line is = absurd (true≢false (sym is))
peer_line (p ∷ ps) n link stream line is =
    by (p.id == stream && p.near == link) (p.id == stream && p.far == link) is
    (λ later. let r = peer_line ps (n + 1) link stream line later in (omega (arith, r), omega (arith, r)))
  where
    here : (24 + n == line) ≡ true → (24 + n ≤ line) × (line < 24 + n + length (p ∷ ps))
    here is = let same = eqb-true (24 + n) line is in (omega (arith, same), omega (arith, same))

    by : (near far : Bool) → has_line (if near then Some (host_port (peer_line_of n)) else
        if far then Some (device_port (peer_line_of n)) else peer_end ps (n + 1) link stream) line ≡ true
        → (has_line (peer_end ps (n + 1) link stream) line ≡ true
        → (24 + n ≤ line) × (line < 24 + n + length (p ∷ ps)))
        → (24 + n ≤ line) × (line < 24 + n + length (p ∷ ps))
    by true far is later = here is
    by false true is later = here is
    by false false is later = later is

bound_line : (plan : Plan) (link line stream : ℕ) → has_peer plan.peers link line stream ≡ true
    → IsPeerLine line (length plan.peers)
bound_line plan link line stream is =
    let r = peer_line plan.peers 0 link stream line is in
    record { least = omega (arith, r); most = omega (arith, r) }

-- ---- a BIND_P2P that is asked

asked_if_there : (b : Bool) (w : Verdict) → is_asked_at (if b then w else v.Nothing) 1 ≡ true → b ≡ true
asked_if_there true w is = refl
asked_if_there false w is = is

asked_line : (plan : Plan) (h : History) (i line stream : ℕ) (loss : Option Loss) (w : Verdict) (x : Site)
    → site_at plan x.number ≡ Some x → CauseLaw plan ((event.Interface (ie.Bind i line stream loss), w) ∷ h)
    → (i == x.number) ≡ true → is_asked_at w 1 ≡ true → IsPeerLine line (length plan.peers)
asked_line plan h i line stream loss w x at cause own asked =
    let fit = interface_cause plan ((event.Interface (ie.Bind i line stream loss), w) ∷ h) cause in
    let due_is = due_own plan h x (ie.Bind i line stream loss) i w at refl own fit.0 in
    bound_line plan x.link line stream
    (asked_if_there (has_peer plan.peers x.link line stream) (bind_due x (asked_state plan h x) line stream loss)
    (ap (λ (z : Verdict). is_asked_at z 1) (sym due_is) ∙ asked))

-- ---- what is kept of them

pub record AskedIs (h : History) (x : Site) (asked : List Bool) : Type 0 where
  pub many : length asked ≡ 8
  pub is : (line : ℕ) → 24 ≤ line → at_place asked (peer_of line) ≡ was_bind_asked h x line

lock_asked : (b : Bool) (m : Managed) (w : Verdict) → (if b then on_lock m w else m).asked
    ≡ (if b && asks_lock w then no_binds else m.asked)
lock_asked b m w = grind arith

report_asked : (b : Bool) (m : Managed) (w : Verdict) → (if b then on_report m w else m).asked ≡ m.asked
report_asked b m w = grind arith

start_asked : (b : Bool) (m : Managed) (w : Verdict) → (if b then on_start m w else m).asked ≡ m.asked
start_asked b m w = grind arith

halt_asked : (b : Bool) (drawn : ℕ) (m : Managed) (w : Verdict) → (if b then on_halt drawn m w else m).asked ≡ m.asked
halt_asked b drawn m w = grind arith

state_asked : (b : Bool) (m : Managed) (w : Verdict) → (if b then on_state m w else m).asked ≡ m.asked
state_asked b m w = grind arith

bind_asked : (b : Bool) (line : ℕ) (m : Managed) (w : Verdict) → (if b then on_bind line m w else m).asked
    ≡ (if b && is_asked_at w 1 then slice_set m.asked (peer_of line) true else m.asked)
bind_asked true line m w = by (is_asked_at w 1)
  where
    by : (c : Bool) → (if c then record m { asked = slice_set m.asked (peer_of line) true } else m).asked
        ≡ (if c then slice_set m.asked (peer_of line) true else m.asked)
    by true = refl
    by false = refl
bind_asked false line m w = refl

same_asked : (b : Bool) (m : Managed) → (if b then m else m).asked ≡ m.asked
same_asked b m = grind arith

broken_asked : (b : Bool) (m : Managed) → (if b then record m { view = view_broken m.view } else m).asked ≡ m.asked
broken_asked b m = grind arith

-- by a lock, and by a bind
after_lock : (b : Bool) (asked : List Bool) (h : History) (x : Site) → AskedIs h x asked → (g : History)
    → ((line : ℕ) → was_bind_asked g x line ≡ (not b && was_bind_asked h x line))
    → AskedIs g x (if b then no_binds else asked)
after_lock true asked h x was g step =
    record { many = refl; is = λ line le. none_at 8 (peer_of line) ∙ sym (step line) }
after_lock false asked h x was g step = record { many = was.many; is = λ line le. was.is line le ∙ sym (step line) }

same_place : (a b : ℕ) → 24 ≤ a → 24 ≤ b → (a - 24 == b - 24) ≡ (a == b)
same_place a b one two = grind (arith, nat_tests, one, two)

after_bind : (b : Bool) (bound : ℕ) (asked : List Bool) (h : History) (x : Site) → AskedIs h x asked → (g : History)
    → (b ≡ true → IsPeerLine bound 8)
    → ((line : ℕ) → was_bind_asked g x line ≡ ((b && (bound == line)) || was_bind_asked h x line))
    → AskedIs g x (if b then slice_set asked (peer_of bound) true else asked)
after_bind true bound asked h x was g there step = record {
  many = set_length asked (peer_of bound) true ∙ was.many;
  is = λ line le.
      let at = there refl in
      let lt : bound - 24 < length asked = omega (arith, at.least, at.most, was.many) in
      set_at asked (peer_of bound) (peer_of line) lt
      ∙ ap (λ (b : Bool). b || at_place asked (peer_of line)) (same_place bound line at.least le)
      ∙ ap (λ (b : Bool). (bound == line) || b) (was.is line le) ∙ sym (step line);
}
after_bind false bound asked h x was g there step =
    record { many = was.many; is = λ line le. was.is line le ∙ sym (step line) }

after_other : (asked next : List Bool) (h : History) (x : Site) → AskedIs h x asked → next ≡ asked → (g : History)
    → ((line : ℕ) → was_bind_asked g x line ≡ was_bind_asked h x line) → AskedIs g x next
after_other asked next h x was same g step =
    record {
      many = ap length same ∙ was.many;
      is = λ line le. ap (λ (bs : List Bool). at_place bs (peer_of line)) same
          ∙ was.is line le ∙ sym (step line);
    }

swapped : (a b c d : Bool) → ((a && b && c) || d) ≡ (((a && c) && b) || d)
swapped a b c d = grind arith

peers_of : (line many : ℕ) → many ≤ 8 → IsPeerLine line many → IsPeerLine line 8
peers_of line many few at = record { least = at.least; most = omega (arith, few, at.most) }

both : (a b : Bool) → (a && b) ≡ true → (a ≡ true) × (b ≡ true)
both true b is = (refl, is)
both false b is = absurd (true≢false (sym is))

asked_step : (plan : Plan) (h : History) (e : Event) (w : Verdict) (x : Site) → length plan.peers ≤ 8
    → site_at plan x.number ≡ Some x → CauseLaw plan ((e, w) ∷ h) → AskedIs h x (managed_view h x).asked
    → AskedIs ((e, w) ∷ h) x (managed_after (op_of h) (draws h) x e w (managed_view h x)).asked
unfolding was_bind_asked
asked_step plan h (event.Interface (ie.Lock i loss)) w x few at cause was =
    subst (AskedIs ((event.Interface (ie.Lock i loss), w) ∷ h) x)
    (sym (lock_asked (i == x.number) (managed_view h x) w))
    (after_lock ((i == x.number) && asks_lock w) (managed_view h x).asked h x was
    ((event.Interface (ie.Lock i loss), w) ∷ h) (λ line. refl))
asked_step plan h (event.Interface (ie.Bind i line stream loss)) w x few at cause was =
    subst (AskedIs ((event.Interface (ie.Bind i line stream loss), w) ∷ h) x)
    (sym (bind_asked (i == x.number) line (managed_view h x) w))
    (after_bind ((i == x.number) && is_asked_at w 1) line (managed_view h x).asked h x was
    ((event.Interface (ie.Bind i line stream loss), w) ∷ h)
    (λ is. let parts = both (i == x.number) (is_asked_at w 1) is in
    peers_of line (length plan.peers) few (asked_line plan h i line stream loss w x at cause parts.0 parts.1))
    (λ l. swapped (i == x.number) (line == l) (is_asked_at w 1) (was_bind_asked h x l)))
asked_step plan h (event.Interface (ie.Report i loss)) w x few at cause was =
    after_other (managed_view h x).asked _ h x was (report_asked (i == x.number) (managed_view h x) w) _ (λ line. refl)
asked_step plan h (event.Interface (ie.Start i loss)) w x few at cause was =
    after_other (managed_view h x).asked _ h x was (start_asked (i == x.number) (managed_view h x) w) _ (λ line. refl)
asked_step plan h (event.Interface (ie.Halt i loss)) w x few at cause was =
    after_other (managed_view h x).asked _ h x was (halt_asked (i == x.number) (draws h) (managed_view h x) w) _
    (λ line. refl)
asked_step plan h (event.Interface (ie.State i loss)) w x few at cause was =
    after_other (managed_view h x).asked _ h x was (state_asked (i == x.number) (managed_view h x) w) _ (λ line. refl)
asked_step plan h (event.Interface e) w x few at cause was =
    after_other (managed_view h x).asked _ h x was (same_asked (is_number (number_in e) x.number) (managed_view h x)) _
    (λ line. refl)
asked_step plan h (event.Stop line stream loss) w x few at cause was =
    after_other (managed_view h x).asked _ h x was
    (broken_asked (stop_breaks (op_of h) (draws h) x line stream w (managed_view h x)) (managed_view h x)) _
    (λ line. refl)
asked_step plan h (event.Reset link ends) (v.Reset l) x few at cause was =
    after_other (managed_view h x).asked _ h x was (broken_asked (link == x.link) (managed_view h x)) _ (λ line. refl)
asked_step plan h e w x few at cause was = after_other (managed_view h x).asked _ h x was refl _ (λ line. refl)

pub asked_is : (plan : Plan) (h : History) (x : Site) → length plan.peers ≤ 8 → site_at plan x.number ≡ Some x
    → CauseLaw plan h → AskedIs h x (managed_view h x).asked
unfolding managed_view was_bind_asked
asked_is plan [] x few at cause = record { many = refl; is = λ line le. none_at 8 (peer_of line) }
asked_is plan ((e, w) ∷ h) x few at cause =
    asked_step plan h e w x few at cause (asked_is plan h x few at cause.1)
