-- On a line that is no link's, which has no refresh, each draw that is kept at a place is that of the stream's last
-- establish that began, and it is kept in set 0.
use Rattle.spec_keys.proofs.Terms.{◌≡◌, ℕ, ◌==◌, ◌&&◌, Bool, true, false, List, [], ◌∷◌, ◌++◌, Option, Some}
use Rattle.spec_keys.proofs.Terms.{None, refl, ap, sym, subst, ◌∙◌, arith, nat_tests, nat_lt, if◌then◌else◌, is_some}
use Rattle.spec_keys.proofs.Terms.{Loss, SealedPacket, Verdict, KeyPlan, KeyPlace, is_on_stream, Touch, Program, Go}
use Rattle.spec_keys.proofs.Terms.{Stop}
use Rattle.spec_keys.proofs.Terms.{Clear, Seal, Accept, Keyed, Off, Loaded, On, Keys, no_keys, key_in, on_in, refuses}
use Rattle.spec_keys.proofs.Terms.{StreamStage, Idle, Establishing, Up, Refreshing, Stopping, Work, Reach}
use Rattle.spec_keys.proofs.Terms.{work_of, reach_of}
use Rattle.spec_keys.proofs.Terms.{History, op_of, draws, on_it, work_touches, touches_if, touches_after, came}
use Rattle.spec_keys.proofs.Terms.{place_keys, begins_keyed, KeyCauseLaw, seal_touches}
use Rattle.spec_keys.proofs.Terms.{is_local, is_number_between, stop_exchange, is_sender, ◌+◌}
use Rattle.spec_keys.proofs.Terms.{from_at, below_at, program_exchange, go_exchange, establish_on, PortView, is_cleared}
use Rattle.spec_keys.proofs.Terms.{ports_at, inl, inr}
use Rattle.spec_keys.proofs.Tests.{same-true}
use Rattle.spec_keys.proofs.Owners.{same_place}
use Rattle.spec_keys.proofs.Fits.{FitsAt}
use Rattle.spec_keys.proofs.Shapes.{keys_of, at_start}
use Rattle.spec_keys.proofs.Whole.{fits, elsewhere}
use Rattle.law_bytes.proofs.StreamDraws.{Follows, follows, and_none, not_begun}
use Rattle.spec_keys.specs.Keys.{draw_of_keyed, keys_after_touch, without_outlived, is_open, is_outlived, unless_below}
use Rattle.spec_keys.specs.Keys.{with_key}
use Rattle.std.proofs.lemmas.Bool.{true≢false, cases_Bool}
unfoldable use Rattle.spec_keys.proofs.Terms.{keys, manager, moments, key_due}
use Rattle.ide_types.specs.Lines.{is_link_line}
use Rattle.script_events.specs.declared.event.Event.TheVariants as event
use Rattle.event_verdicts.specs.declared.verdict.Operation.TheVariants as op
use Rattle.event_verdicts.specs.declared.verdict.Verdict.TheVariants as v
unfoldable use Rattle.spec_interfaces.specs.Views.{stream_draw}

-- ---- one touch

-- no draw but this is kept, and that in set 0
pub record KeepsOnly (draw : ℕ) (ks : Keys) : Type 0 where
  pub first : (i : ℕ) → draw_of_keyed ks.first ≡ Some i → i ≡ draw
  pub second : ks.second ≡ Off

-- it gives no key but that of this draw, in set 0
abbrev GivesOnly : ℕ → Touch → Type 0
GivesOnly draw (Program set j) = (set ≡ false) × (j ≡ draw)
GivesOnly draw (Go set j) = (set ≡ false) × (j ≡ draw)
GivesOnly draw t = Unit {0}

abbrev AllGiveOnly : ℕ → List Touch → Type 0
AllGiveOnly draw [] = Unit {0}
AllGiveOnly draw (t ∷ ts) = GivesOnly draw t × AllGiveOnly draw ts

no_draw : (draw i : ℕ) → draw_of_keyed Off ≡ Some i → i ≡ draw
no_draw draw i is = absurd cc

its_draw : (draw j i : ℕ) → j ≡ draw → Some j ≡ Some i → i ≡ draw
its_draw draw j i same is = let there : j ≡ i = cc (is) in sym there ∙ same

abbrev IsOnly : ℕ → Keyed → Type 0
IsOnly draw a = (i : ℕ) → draw_of_keyed a ≡ Some i → i ≡ draw

or_off : (draw : ℕ) (b : Bool) (a : Keyed) → IsOnly draw a → IsOnly draw (if b then Off else a)
or_off draw true a only = no_draw draw
or_off draw false a only = only

off_or : (b : Bool) (a : Keyed) → a ≡ Off → (if b then Off else a) ≡ Off
off_or true a is = refl
off_or false a is = is

outlived_keeps : (draw : ℕ) (s : Bool) (opens : ℕ → Bool) (ks : Keys) → KeepsOnly draw ks
    → KeepsOnly draw (without_outlived s opens ks)
outlived_keeps draw false opens ks keeps = keeps
outlived_keeps draw true opens ks keeps = record {
  first = or_off draw (is_outlived opens (on_in ks.first) (on_in ks.second)) ks.first keeps.first;
  second = off_or (is_outlived opens (on_in ks.second) (on_in ks.first)) ks.second keeps.second;
}

below_only : (draw j : ℕ) (a : Keyed) → IsOnly draw a → IsOnly draw (unless_below j a)
below_only draw j Off only = only
below_only draw j (Loaded i) only = only
below_only draw j (On i) only = or_off draw (nat_lt i j) (On i) only

below_off : (j : ℕ) (a : Keyed) → a ≡ Off → unless_below j a ≡ Off
below_off j a is = rw is refl

loaded_keeps : (draw : ℕ) (b : Bool) (ks : Keys) (j : ℕ) → j ≡ draw → KeepsOnly draw ks
    → KeepsOnly draw (if b then ks else with_key ks false (Loaded j))
loaded_keeps draw true ks j same keeps = keeps
loaded_keeps draw false ks j same keeps =
    record { first = λ i is. its_draw draw j i same is; second = keeps.second }

after_keeps : (draw : ℕ) (s : Bool) (ks : Keys) (t : Touch) → GivesOnly draw t → KeepsOnly draw ks
    → KeepsOnly draw (keys_after_touch s ks t)
after_keeps draw s ks (Program true j) gives keeps = absurd (true≢false gives.0)
after_keeps draw s ks (Program false j) gives keeps = loaded_keeps draw (refuses s ks false) ks j gives.1 keeps
after_keeps draw s ks (Go true j) gives keeps = absurd (true≢false gives.0)
after_keeps draw s ks (Go false j) gives keeps =
    record { first = λ i is. its_draw draw j i gives.1 is; second = keeps.second }
after_keeps draw s ks (Stop true) gives keeps = record { first = keeps.first; second = refl }
after_keeps draw s ks (Stop false) gives keeps = record { first = no_draw draw; second = keeps.second }
after_keeps draw s ks Clear gives keeps = record { first = no_draw draw; second = refl }
after_keeps draw s ks (Seal j m) gives keeps = keeps
after_keeps draw s ks (Accept j) gives keeps =
    record { first = below_only draw j ks.first keeps.first; second = below_off j ks.second keeps.second }

abbrev pub KeptAfter : ℕ → Bool → List Touch → Type 0
KeptAfter draw s ts = KeepsOnly draw (keys s ts)

touch_keeps : (draw : ℕ) (s : Bool) (ts : List Touch) (t : Touch) → GivesOnly draw t → KeptAfter draw s ts
    → KeptAfter draw s (t ∷ ts)
unfolding keys
touch_keeps draw s ts t gives keeps =
    outlived_keeps draw s (is_open (t ∷ ts)) _ (after_keeps draw s (keys s ts) t gives keeps)

touches_keep : (draw : ℕ) (s : Bool) (ts more : List Touch) → AllGiveOnly draw more → KeptAfter draw s ts
    → KeptAfter draw s (touches_after ts more)
touches_keep draw s ts [] all keeps = keeps
touches_keep draw s ts (t ∷ more) all keeps =
    touches_keep draw s (t ∷ ts) more all.1 (touch_keeps draw s ts t all.0 keeps)

-- ---- what an event gives

both_give : (draw : ℕ) (ts us : List Touch) → AllGiveOnly draw ts → AllGiveOnly draw us → AllGiveOnly draw (ts ++ us)
both_give draw [] us one two = two
both_give draw (t ∷ ts) us one two = (one.0, both_give draw ts us one.1 two)

gives_if : (draw : ℕ) (b : Bool) (t : Touch) → GivesOnly draw t → AllGiveOnly draw (touches_if b t)
gives_if draw true t gives = (gives, tt)
gives_if draw false t gives = tt

sealed_gives : (draw : ℕ) (p : KeyPlace) (ds : List SealedPacket) → AllGiveOnly draw (seal_touches p ds)
sealed_gives draw p [] = tt
sealed_gives draw p (d ∷ ds) =
    both_give draw (touches_if (is_sender p d) (Seal d.draw d.m)) (seal_touches p ds)
    (gives_if draw (is_sender p d) (Seal d.draw d.m) tt) (sealed_gives draw p ds)

came_gives : (draw : ℕ) (p : KeyPlace) (w : Verdict) → AllGiveOnly draw (came p w)
came_gives draw p (v.Sealed ds) = sealed_gives draw p ds
came_gives draw p (v.Accepted port unit effects) = gives_if draw _ (Accept unit.draw) tt
came_gives draw p w = tt

two_give : (draw : ℕ) (a b : Bool) (t u : Touch) → GivesOnly draw t → GivesOnly draw u
    → AllGiveOnly draw (touches_if a t ++ touches_if b u)
two_give draw a b t u one two = both_give draw (touches_if a t) (touches_if b u) (gives_if draw a t one)
    (gives_if draw b u two)

stop_gives : (draw : ℕ) (w : Work) (o : Option Reach) (p : KeyPlace) → w.operation ≡ op.Stop
    → AllGiveOnly draw (work_touches w o p)
stop_gives draw w None p is = tt
stop_gives draw w (Some r) p is = rw is (by (is_local p))
  where
    by : (b : Bool) → AllGiveOnly draw (if b then touches_if w.begins Clear
        else touches_if (is_number_between w.first (stop_exchange p) r.carried) (Stop false)
        ++ touches_if (is_number_between w.first (stop_exchange p + 6) r.carried) (Stop true))
    by true = gives_if draw w.begins Clear tt
    by false = two_give draw (is_number_between w.first (stop_exchange p) r.carried)
        (is_number_between w.first (stop_exchange p + 6) r.carried) (Stop false) (Stop true) tt tt

establish_gives : (draw : ℕ) (w : Work) (r : Reach) (p : KeyPlace) → w.operation ≡ op.Establish
    → w.set ≡ false → w.draw ≡ draw → AllGiveOnly draw (work_touches w (Some r) p)
establish_gives draw w r p is set same =
    rw is (two_give draw
    (is_number_between (from_at w p) (program_exchange op.Establish p) (below_at r p))
    (is_number_between (from_at w p) (go_exchange op.Establish p) (below_at r p))
    (Program w.set w.draw) (Go w.set w.draw) (set, same) (set, same))

-- ---- an establish

-- it comes no further, or the stream has no keys yet, or is being keyed
pub data Comes (w : Verdict) : StreamStage → Type 0 where
  nowhere : (q : StreamStage) → reach_of op.Establish w ≡ None → Comes w q
  first : Comes w Idle
  again : (j n : ℕ) → Comes w (Establishing j n)

pub comes : (has : Bool) (plan : KeyPlan) (q : StreamStage) (next : ℕ) (ports : PortView) (line stream : ℕ)
    (loss : Option Loss) (w : Verdict)
    → w ≡ (if has then establish_on plan q next ports line stream loss else v.Nothing) → Comes w q
comes false plan q next ports line stream loss w is = nowhere q (ap (reach_of op.Establish) is)
comes true plan Idle next ports line stream loss w is = first
comes true plan (Establishing j n) next ports line stream loss w is = again j n
comes true plan (Up k j) next ports line stream loss w is = nowhere (Up k j) (ap (reach_of op.Establish) is)
comes true plan (Refreshing k j n) next ports line stream loss w is =
    nowhere (Refreshing k j n) (ap (reach_of op.Establish) is)
comes true plan (Stopping n) next ports line stream loss w is = nowhere (Stopping n) (ap (reach_of op.Establish) is)

bare_keeps : (draw : ℕ) (s : Bool) (ts : List Touch) → keys s ts ≡ no_keys → KeptAfter draw s ts
bare_keeps draw s ts none = subst (KeepsOnly draw) (sym none) (record { first = no_draw draw; second = refl })

and_some : (b : Bool) → (b && true) ≡ b
and_some true = refl
and_some false = refl

-- of the stream of a place
establish_own : (q : StreamStage) (next draw : ℕ) (w : Verdict) (p : KeyPlace) (ts : List Touch) → Comes w q
    → ((j n : ℕ) → q ≡ Establishing j n → draw ≡ j) → (q ≡ Idle → keys p.sends ts ≡ no_keys)
    → KeptAfter draw p.sends ts
    → KeptAfter (if begins_keyed q next w then next else draw) p.sends
    (touches_after ts (work_touches (work_of op.Establish q next) (reach_of op.Establish w) p))
establish_own q next draw w p ts comes is bare keeps = by q comes (reach_of op.Establish w) refl is bare
  where
    by : (q : StreamStage) → Comes w q → (o : Option Reach) → reach_of op.Establish w ≡ o
        → ((j n : ℕ) → q ≡ Establishing j n → draw ≡ j) → (q ≡ Idle → keys p.sends ts ≡ no_keys)
        → KeptAfter (if (work_of op.Establish q next).begins && is_some o then next else draw) p.sends
        (touches_after ts (work_touches (work_of op.Establish q next) o p))
    by q c None at is bare = rw (and_none (work_of op.Establish q next).begins) keeps
    by _ (nowhere q none) (Some r) at is bare = absurd (let wrong = sym at ∙ none in cc)
    by _ first (Some r) at is bare =
        touches_keep next p.sends ts (work_touches (work_of op.Establish Idle next) (Some r) p)
        (establish_gives next (work_of op.Establish Idle next) r p refl refl refl)
        (bare_keeps next p.sends ts (bare refl))
    by _ (again j n) (Some r) at is bare =
        touches_keep draw p.sends ts (work_touches (work_of op.Establish (Establishing j n) next) (Some r) p)
        (establish_gives draw (work_of op.Establish (Establishing j n) next) r p refl refl (sym (is j n refl))) keeps

-- ---- all pairs

pub bare_idle : (q : StreamStage) (top : ℕ) (p : KeyPlace) (ts : List Touch) → FitsAt q top p ts → q ≡ Idle
    → keys p.sends ts ≡ no_keys
bare_idle Idle top p ts at is = at.is.are ∙ ap keys_of at.fits
bare_idle (Establishing j n) top p ts at is = absurd cc
bare_idle (Up k j) top p ts at is = absurd cc
bare_idle (Refreshing k j n) top p ts at is = absurd cc
bare_idle (Stopping n) top p ts at is = absurd cc

-- an establish that goes on has the draw of the stream
keyed_draw : (plan : KeyPlan) (h : History) → KeyCauseLaw plan h → (p : KeyPlace) (j n : ℕ)
    → op_of h p.line p.stream ≡ Establishing j n → stream_draw h p.line p.stream ≡ j
keyed_draw plan h cause p j n is =
    let q = record p { sends = false } in
    subst (λ (o : StreamStage). Follows (stream_draw h p.line p.stream) (moments h q) o) is (follows plan h cause q
    refl)

abbrev pub Kept : History → KeyPlace → Type 0
Kept h p = KeptAfter (stream_draw h p.line p.stream) p.sends (moments h p)

on_own : (plan : KeyPlan) (h : History) (loss : Option Loss) (w : Verdict) (p : KeyPlace)
    → KeyCauseLaw plan ((event.Establish p.line p.stream loss, w) ∷ h) → Kept h p
    → Kept ((event.Establish p.line p.stream loss, w) ∷ h) p
unfolding manager moments stream_draw key_due
on_own plan h loss w p cause keeps =
    rw (same-true p.line, same-true p.stream)
    (establish_own (op_of h p.line p.stream) (draws h) (stream_draw h p.line p.stream) w p (moments h p)
    (comes (plan.has_stream p.line p.stream) plan (op_of h p.line p.stream) (draws h) (ports_at h) p.line p.stream loss
    w cause.0)
    (keyed_draw plan h cause.2 p) (bare_idle (op_of h p.line p.stream) (draws h) p (moments h p) (fits plan h cause.2
    p))
    keeps)

pub swapped : (a b c d : ℕ) → ((a == b) && (c == d)) ≡ false → ((b == a) && (d == c)) ≡ false
swapped a b c d other = grind (arith, nat_tests, other)

off_own : (h : History) (l s : ℕ) (loss : Option Loss) (w : Verdict) (p : KeyPlace) → is_on_stream p l s ≡ false
    → Kept h p → Kept ((event.Establish l s loss, w) ∷ h) p
unfolding moments stream_draw
off_own h l s loss w p other keeps =
    rw (other, not_begun p.line l p.stream s (begins_keyed (op_of h l s) (draws h) w) other) keeps

on_none : (b : Bool) → on_it b [] ≡ []
on_none true = refl
on_none false = refl

-- none is refreshed
pub refresh_none : (plan : KeyPlan) (h : History) (loss : Option Loss) (w : Verdict) (p : KeyPlace)
    → is_link_line p.line ≡ false → KeyCauseLaw plan ((event.Refresh p.line p.stream loss, w) ∷ h) → w ≡ v.Nothing
unfolding key_due
refresh_none plan h loss w p other cause = rw other at cause.0

refresh_other : (h : History) (l s : ℕ) (loss : Option Loss) (w : Verdict) (p : KeyPlace) → is_on_stream p l s ≡ false
    → Kept h p → Kept ((event.Refresh l s loss, w) ∷ h) p
unfolding moments stream_draw
refresh_other h l s loss (v.Refreshed a b j) p other keeps = rw (other, swapped p.line l p.stream s other) keeps
refresh_other h l s loss w p other keeps = rw other keeps

refresh_nothing : (h : History) (l s : ℕ) (loss : Option Loss) (p : KeyPlace) → Kept h p
    → Kept ((event.Refresh l s loss, v.Nothing) ∷ h) p
unfolding moments stream_draw
refresh_nothing h l s loss p keeps = rw (on_none (is_on_stream p l s)) keeps

on_gives : (draw : ℕ) (b : Bool) (ts : List Touch) → AllGiveOnly draw ts → AllGiveOnly draw (on_it b ts)
on_gives draw true ts all = all
on_gives draw false ts all = tt

stop_is : (q : StreamStage) (next : ℕ) → (work_of op.Stop q next).operation ≡ op.Stop
stop_is (Stopping n) next = refl
stop_is q next = refl

pub only_draw : (plan : KeyPlan) (h : History) → KeyCauseLaw plan h → (p : KeyPlace) → is_link_line p.line ≡ false
    → Kept h p
unfolding manager moments stream_draw
only_draw plan [] cause p other = bare_keeps 0 p.sends [] (at_start p.sends).are
only_draw plan ((event.Establish l s loss, w) ∷ h) cause p other =
    let before = only_draw plan h cause.2 p other in
    elim (cases_Bool (is_on_stream p l s)) [
      | inl own ↦ elsewhere p l s (λ (a b : ℕ). KeyCauseLaw plan ((event.Establish a b loss, w) ∷ h)
          → Kept ((event.Establish a b loss, w) ∷ h) p) (same_place p.line p.stream l s own)
          (λ here. on_own plan h loss w p here before) cause
      | inr none ↦ off_own h l s loss w p none before
    ]
only_draw plan ((event.Refresh l s loss, w) ∷ h) cause p other =
    let before = only_draw plan h cause.2 p other in
    elim (cases_Bool (is_on_stream p l s)) [
      | inl own ↦ elsewhere p l s (λ (a b : ℕ). KeyCauseLaw plan ((event.Refresh a b loss, w) ∷ h)
          → Kept ((event.Refresh a b loss, w) ∷ h) p) (same_place p.line p.stream l s own)
          (λ here. subst (λ (u : Verdict). Kept ((event.Refresh p.line p.stream loss, u) ∷ h) p)
          (sym (refresh_none plan h loss w p other here)) (refresh_nothing h p.line p.stream loss p before)) cause
      | inr none ↦ refresh_other h l s loss w p none before
    ]
only_draw plan ((event.Stop l s loss, w) ∷ h) cause p other =
    touches_keep (stream_draw h p.line p.stream) p.sends (moments h p)
    (on_it (is_on_stream p l s) (work_touches (work_of op.Stop (op_of h l s) (draws h)) (reach_of op.Stop w) p))
    (on_gives (stream_draw h p.line p.stream) (is_on_stream p l s)
    (work_touches (work_of op.Stop (op_of h l s) (draws h)) (reach_of op.Stop w) p)
    (stop_gives (stream_draw h p.line p.stream) (work_of op.Stop (op_of h l s) (draws h)) (reach_of op.Stop w) p
    (stop_is (op_of h l s) (draws h))))
    (only_draw plan h cause.2 p other)
only_draw plan ((event.Reset l ends, v.Reset k) ∷ h) cause p other =
    touches_keep (stream_draw h p.line p.stream) p.sends (moments h p)
    (touches_if (is_cleared ends p.side p.line) Clear)
    (gives_if (stream_draw h p.line p.stream) (is_cleared ends p.side p.line) Clear tt)
    (only_draw plan h cause.2 p other)
only_draw plan ((event.Reset l ends, w) ∷ h) cause p other = only_draw plan h cause.2 p other
only_draw plan ((e, w) ∷ h) cause p other =
    touches_keep (stream_draw h p.line p.stream) p.sends (moments h p) (came p w)
    (came_gives (stream_draw h p.line p.stream) p w) (only_draw plan h cause.2 p other)

-- ---- what is On

on_kept : (a : Keyed) (j : ℕ) → on_in a ≡ Some j → draw_of_keyed a ≡ Some j
on_kept Off j is = absurd cc
on_kept (Loaded i) j is = absurd cc
on_kept (On i) j is = is

off_none : (a : Keyed) (j : ℕ) → a ≡ Off → on_in a ≡ Some j → ⊥
off_none a j off is = absurd (let wrong = sym (ap on_in off) ∙ is in cc)

only_on : (draw : ℕ) (ks : Keys) (set : Bool) (j : ℕ) → KeepsOnly draw ks → on_in (key_in ks set) ≡ Some j
    → (j ≡ draw) × (set ≡ false)
only_on draw ks false j keeps is = (keeps.first j (on_kept ks.first j is), refl)
only_on draw ks true j keeps is = absurd (off_none ks.second j keeps.second is)

-- the draw that is On at a place of such a stream is that of its last establish
pub on_is_draw : (plan : KeyPlan) (h : History) → KeyCauseLaw plan h → (p : KeyPlace) → is_link_line p.line ≡ false
    → (set : Bool) (j : ℕ) → on_in (key_in (place_keys h p) set) ≡ Some j
    → (j ≡ stream_draw h p.line p.stream) × (set ≡ false)
on_is_draw plan h cause p other set j is =
    only_on (stream_draw h p.line p.stream) (place_keys h p) set j (only_draw plan h cause p other) is
