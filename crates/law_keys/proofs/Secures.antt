-- No move of a refresh takes a port out of Secure.
use Rattle.spec_keys.specs.Due.{has_refresh}
use Rattle.spec_keys.specs.Keys.{Program}
use Rattle.spec_keys.specs.History.{touches_if}
use Rattle.spec_keys.specs.Laws.{touches_by, keys_within}
use Rattle.law_keys.proofs.Terms.{◌≡◌, ℕ, Bool, true, false, Option, Some, None, List, [], ◌∷◌, ap, ◌∙◌, arith}
use Rattle.law_keys.proofs.Terms.{nat_tests, ◌||◌, ◌&&◌, if◌then◌else◌, Host, Event, Loss, StreamStatus, Verdict}
use Rattle.law_keys.proofs.Terms.{KeyPlan, KeyPlace, key_place_at, places_of, is_on_stream, keys, is_open, Keys, Touch}
use Rattle.law_keys.proofs.Terms.{Go, keys_after_touch, without_outlived, StreamStage, Idle, Establishing, Up}
use Rattle.law_keys.proofs.Terms.{Refreshing, Stopping, Reach, work_of, reach_of, History, op_of, draws}
use Rattle.law_keys.proofs.Terms.{work_touches, on_it, touches_after, moments, place_keys, keeps_live, has_key, has_all}
use Rattle.law_keys.proofs.Terms.{fails_there, failed_there, keyed_status, history_status, PortView, ports_at}
use Rattle.law_keys.proofs.Terms.{refresh_on, key_due, KeyCauseLaw, StaysSecure, StaysSecureAtEvent, finished_verdict}
use Rattle.law_keys.proofs.Terms.{is_cut, performed_is, may_refresh, unless_open, ◌⊎◌}
use Rattle.std.proofs.Common.{◌++◌, All}
use Rattle.std.proofs.lemmas.List.Elements.{All-head, All-tail, All-take, All-nil}
use Rattle.std.specs.List.{list_all}
use Rattle.spec_keys.proofs.Terms.{Side, SubKind}
use Rattle.script_events.specs.declared.event.Event.TheVariants as event
use Rattle.event_verdicts.specs.declared.verdict.Operation.TheVariants as op
use Rattle.ide_types.specs.declared.status.StreamStatus.TheVariants as status
use Rattle.event_verdicts.specs.declared.verdict.Verdict.TheVariants as v

-- ---- a KEY_PROG and a GO leave a place that has a Live key with one, whatever happened there before

abbrev gives_key : Touch → Bool
gives_key (Program set j) = true
gives_key (Go set j) = true
gives_key t = false

abbrev GivesKey : Touch → Type 0
GivesKey t = gives_key t ≡ true

touched_live : (sends : Bool) (ks : Keys) (t : Touch) → gives_key t ≡ true → keeps_live ks ≡ true
    → keeps_live (keys_after_touch sends ks t) ≡ true
touched_live sends ks t gives live = grind (arith, nat_tests)

outlived_live : (sends : Bool) (open_is : ℕ → Bool) (ks : Keys) → keeps_live ks ≡ true
    → keeps_live (without_outlived sends open_is ks) ≡ true
outlived_live sends open_is ks live = grind (arith, nat_tests)

stays_live : (sends : Bool) (ts more : List Touch) → All GivesKey more
    → keeps_live (keys sends ts) ≡ true → keeps_live (keys sends (touches_after ts more)) ≡ true
unfolding keys
stays_live sends ts [] all live = live
stays_live sends ts (t ∷ more) all live = stays_live sends (t ∷ ts) more (All-tail GivesKey t more all)
    (outlived_live sends (is_open (t ∷ ts)) (keys_after_touch sends (keys sends ts) t)
    (touched_live sends (keys sends ts) t (All-head GivesKey t more all) live))

-- ---- a refresh touches places in no other way

given_if : (a b k l : Bool) (i j : ℕ)
    → All GivesKey (touches_if a (Program k i) ++ touches_if b (Go l j))
given_if a b k l i j = grind arith

refresh_gives : (q : StreamStage) (next : ℕ) (r : Option Reach) (p : KeyPlace)
    → All GivesKey (work_touches (work_of op.Refresh q next) r p)
refresh_gives q next None p = All-nil GivesKey
refresh_gives Idle next (Some r) p = given_if _ _ _ _ _ _
refresh_gives (Establishing j n) next (Some r) p = given_if _ _ _ _ _ _
refresh_gives (Up set j) next (Some r) p = given_if _ _ _ _ _ _
refresh_gives (Refreshing set j n) next (Some r) p = given_if _ _ _ _ _ _
refresh_gives (Stopping n) next (Some r) p = given_if _ _ _ _ _ _

on_it_gives : (here : Bool) (ts : List Touch) → All GivesKey ts
    → All GivesKey (on_it here ts)
on_it_gives true ts all = all
on_it_gives false ts all = All-nil GivesKey

place_gives : (h : History) (line stream : ℕ) (loss : Option Loss) (x : Verdict) (p : KeyPlace)
    → All GivesKey (touches_by h (event.Refresh line stream loss) x p)
place_gives h line stream loss x p = on_it_gives (is_on_stream p line stream) _
    (refresh_gives (op_of h line stream) (draws h) (reach_of op.Refresh x) p)

-- ---- no check fails

refresh_free_as : (has : Bool) (plan : KeyPlan) (q : StreamStage) (next : ℕ) (ports : PortView) (host : StreamStatus)
    (line stream : ℕ) (x : Verdict) (side : Side)
    → (x ≡ finished_verdict line stream (work_of op.Refresh q next)) ⊎ (is_cut x ≡ true) → fails_there side line stream
    (if has then may_refresh plan line next q host (unless_open ports line stream (work_of op.Refresh q next).set) x
    else v.Nothing) ≡ false
refresh_free_as has plan q next ports host line stream x side performs = grind arith

refresh_free : (has : Bool) (plan : KeyPlan) (q : StreamStage) (next : ℕ) (ports : PortView) (host : StreamStatus)
    (line stream : ℕ) (loss : Option Loss) (side : Side)
    → fails_there side line stream (if has then refresh_on plan q next ports host line stream loss else v.Nothing)
    ≡ false
refresh_free has plan q next ports host line stream loss side = refresh_free_as has plan q next ports host line stream _
    side (performed_is ports line stream loss (work_of op.Refresh q next))

-- ---- all six places

six_keyed : (test other : KeyPlace → Bool) (side : Side) (line stream : ℕ)
    → ((upward : Bool) (u : SubKind) → test (key_place_at side line stream upward u) ≡ true
    → other (key_place_at side line stream upward u) ≡ true)
    → list_all test (places_of side line stream) ≡ true → list_all other (places_of side line stream) ≡ true
six_keyed test other side line stream leads all = grind arith

-- what Secure says
secure_says : (f some all : Bool) → keyed_status f some all ≡ status.Secure → (f ≡ false) × (all ≡ true)
secure_says f some all e = grind arith

secure_if : (f some all : Bool) → f ≡ false → all ≡ true → keyed_status f some all ≡ status.Secure
secure_if f some all e g = grind arith

secure_is : (a b has some all : Bool) → a ≡ false → b ≡ false → all ≡ true → keyed_status ((a || b) && has) some all
    ≡ status.Secure
secure_is a b has some all e f g = grind arith

refresh_stays : (plan : KeyPlan) (h : History) (line stream : ℕ) (loss : Option Loss) (x : Verdict)
    → KeyCauseLaw plan ((event.Refresh line stream loss, x) ∷ h)
    → StaysSecureAtEvent h (event.Refresh line stream loss) x
unfolding failed_there key_due moments
refresh_stays plan h line stream loss x cause side secure =
    let says = secure_says (failed_there h side line stream) (has_key (place_keys h) side line stream)
    (has_all (place_keys h) side line stream) secure in
    let at = key_place_at side line stream in
    let gives = place_gives h line stream loss x in
    let before = λ (p : KeyPlace). keeps_live (place_keys h p) in
    let after = λ (p : KeyPlace). keeps_live (place_keys ((event.Refresh line stream loss, x) ∷ h) p) in
    let free = refresh_free (has_refresh plan line stream) plan (op_of h line stream) (draws h) (ports_at h)
    (history_status h Host line stream) line stream loss side in (
      λ so_far. secure_if _ _ _ says.0
          (six_keyed before (λ p. keeps_live (keys_within h (event.Refresh line stream loss) x so_far p)) side line
          stream (λ upward u live. stays_live (at upward u).sends (moments h (at upward u)) _
          (All-take GivesKey (so_far (at upward u)) _ (gives (at upward u))) live) says.1),
      secure_is (fails_there side line stream x) (failed_there h side line stream) _ _ _
          (ap (fails_there side line stream) cause.0 ∙ free) says.0
          (six_keyed before after side line stream
          (λ upward u live. stays_live (at upward u).sends (moments h (at upward u)) _ (gives (at upward u)) live)
          says.1),
    )

stays_at_pair : (plan : KeyPlan) (h : History) (e : Event) (x : Verdict) → KeyCauseLaw plan ((e, x) ∷ h)
    → StaysSecureAtEvent h e x
stays_at_pair plan h (event.Refresh line stream loss) x cause = refresh_stays plan h line stream loss x cause
stays_at_pair plan h _ x cause = tt

pub stream_stays_secure : (plan : KeyPlan) (h : History) → KeyCauseLaw plan h → StaysSecure h
stream_stays_secure plan [] cause = tt
stream_stays_secure plan ((e, x) ∷ h) cause = (stays_at_pair plan h e x cause, stream_stays_secure plan h cause.2)
