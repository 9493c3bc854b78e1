-- A draw belongs to one stream and one key set: those of the operation that began with it.
use Rattle.spec_keys.proofs.Terms.{◌≡◌, ℕ, ◌<◌, ◌==◌, Bool, true, false, Option, Some, None, List, [], ◌∷◌, length}
use Rattle.spec_keys.proofs.Terms.{refl, subst, arith, ◌&&◌, if◌then◌else◌, Event, Operation, SealedPacket, Verdict}
use Rattle.spec_keys.proofs.Terms.{KeyPlace, is_on_stream, is_local, Touch, Program, Go, Stop, makes_draw, new_work}
use Rattle.spec_keys.proofs.Terms.{◌++◌, Clear, Keyed, Off, Loaded, On, Keys, key_in, draw_of_keyed, on_in}
use Rattle.spec_keys.proofs.Terms.{keys_after_touch, is_open, without_outlived, keys, StreamStage, Idle, Establishing}
use Rattle.spec_keys.proofs.Terms.{Up, Refreshing, Stopping, Work, Reach, StreamOperations, Begun, PortName, is_hosted}
use Rattle.spec_keys.proofs.Terms.{is_cleared, work_of, reach_of, op_after_reach, op_after_reset, begun_after_work}
use Rattle.spec_keys.proofs.Terms.{manager_after_operation, manager_after, History, manager, begun_of_draw, touches_if}
use Rattle.spec_keys.proofs.Terms.{work_touches, on_it, seal_touches, came, touches, touches_after, moments, nat_tests}
use Rattle.script_events.specs.declared.event.Event.TheVariants as event
use Rattle.event_verdicts.specs.declared.verdict.Operation.TheVariants as op
use Rattle.event_verdicts.specs.declared.verdict.Verdict.TheVariants as v

-- ---- keys of known owners

-- the key of a set is of a draw that the set may have
abbrev OwnedKey : (Bool → ℕ → Type 0) → Bool → Keyed → Type 0
OwnedKey O set Off = Unit {0}
OwnedKey O set (Loaded j) = O set j
OwnedKey O set (On j) = O set j

pub record OwnedKeys (O : Bool → ℕ → Type 0) (ks : Keys) : Type 0 where
  pub first_is : OwnedKey O false ks.first
  pub second_is : OwnedKey O true ks.second

abbrev pub TouchOwned : (Bool → ℕ → Type 0) → Touch → Type 0
TouchOwned O (Program set j) = O set j
TouchOwned O (Go set j) = O set j
TouchOwned O _ = Unit {0}

touched_owned : (O : Bool → ℕ → Type 0) (s : Bool) (f : ℕ → Bool) (ks : Keys) (t : Touch) → OwnedKeys O ks
    → TouchOwned O t → OwnedKeys O (without_outlived s f (keys_after_touch s ks t))
touched_owned O s f ks t owned mine = grind arith

-- each touch that programs or starts a key is of a draw of its set
abbrev pub AllOwned : (Bool → ℕ → Type 0) → List Touch → Type 0
AllOwned O [] = Unit {0}
AllOwned O (t ∷ ts) = TouchOwned O t × AllOwned O ts

pub behind_owned : (O : Bool → ℕ → Type 0) (s : Bool) (ts more : List Touch) → OwnedKeys O (keys s ts) → AllOwned O more
    → OwnedKeys O (keys s (touches_after ts more))
unfolding keys
behind_owned O s ts [] owned all = owned
behind_owned O s ts (t ∷ more) owned all = behind_owned O s (t ∷ ts) more
    (touched_owned O s (is_open (t ∷ ts)) (keys s ts) t owned all.0) all.1

pub more_owned : (O P : Bool → ℕ → Type 0) (ks : Keys) → ((set : Bool) (j : ℕ) → O set j → P set j) → OwnedKeys O ks
    → OwnedKeys P ks
more_owned O P ks leads owned = grind arith

-- ---- the operations that began

pub begun_below : (bs : List Begun) (j : ℕ) (x : Begun) → begun_of_draw bs j ≡ Some x → j < length bs
begun_below [] j x e = absurd cc
begun_below (b ∷ bs) j x e = let less = begun_below bs j x in grind (arith, nat_tests)

begun_more : (b : Begun) (bs : List Begun) (j : ℕ) (x : Begun) → begun_of_draw bs j ≡ Some x → begun_of_draw (b ∷ bs) j
    ≡ Some x
begun_more b bs j x e = grind (arith, nat_tests, begun_below)

begun_now : (b : Begun) (bs : List Begun) → begun_of_draw (b ∷ bs) (length bs) ≡ Some b
begun_now b bs = grind (arith, nat_tests)

abbrev pub owner : ℕ → ℕ → Bool → Begun
owner line stream set = record { line = line; stream = stream; set = set }

-- the draw's operation was on the stream, with the set
abbrev pub Owner : List Begun → ℕ → ℕ → Bool → ℕ → Type 0
Owner bs line stream set j = begun_of_draw bs j ≡ Some (owner line stream set)

abbrev pub OpOwned : List Begun → ℕ → ℕ → StreamStage → Type 0
OpOwned bs line stream Idle = Unit {0}
OpOwned bs line stream (Establishing j n) = Owner bs line stream false j
OpOwned bs line stream (Up set j) = Owner bs line stream set j
OpOwned bs line stream (Refreshing set j n) = Owner bs line stream set j
OpOwned bs line stream (Stopping n) = Unit {0}

-- what began stays
abbrev Longer : List Begun → List Begun → Type 0
Longer bs cs = (j : ℕ) (x : Begun) → begun_of_draw bs j ≡ Some x → begun_of_draw cs j ≡ Some x

op_longer : (bs cs : List Begun) → Longer bs cs → (line stream : ℕ) (o : StreamStage) → OpOwned bs line stream o
    → OpOwned cs line stream o
op_longer bs cs longer line stream o owned = grind arith

begun_longer : (bs : List Begun) (line stream : ℕ) (w : Work) → Longer bs (begun_after_work bs line stream w)
begun_longer bs line stream w j x e = grind (arith, begun_more)

pub work_is : (o : Operation) (q : StreamStage) (next : ℕ) → (work_of o q next).operation ≡ o
work_is o q next = grind arith

after_owned : (bs : List Begun) (line stream : ℕ) (o : Operation) (q : StreamStage) (r : Reach) (hosted : Bool)
    → OpOwned bs line stream q → OpOwned (begun_after_work bs line stream (work_of o q (length bs))) line stream
    (op_after_reach hosted (work_of o q (length bs)) r)
after_owned bs line stream o q r hosted owned = grind (arith, begun_now)

abbrev pub OpsOwned : StreamOperations → Type 0
OpsOwned m = (line stream : ℕ) → OpOwned m.begun line stream (m.ops line stream)

pub same_place : (a b line stream : ℕ) → ((a == line) && (b == stream)) ≡ true → (a ≡ line) × (b ≡ stream)
same_place a b line stream e = grind (arith, nat_tests)

-- by whether an event is on the stream
pub by_stream : (a b : ℕ) (P : ℕ → ℕ → Bool → Type 0) → P a b true → ((x y : ℕ) → P x y false) → (x y : ℕ)
    → P x y ((a == x) && (b == y))
by_stream a b P here other x y = by_test ((a == x) && (b == y)) refl
  where
    by_test : (f : Bool) → ((a == x) && (b == y)) ≡ f → P x y f
    by_test true e = let same = same_place a b x y e in subst (λ (z : ℕ). P x z true) same.1
        (subst (λ (z : ℕ). P z b true) same.0 here)
    by_test false e = other x y

operated_owned : (m : StreamOperations) (o : Operation) (line stream : ℕ) (r : Option Reach) → OpsOwned m
    → OpsOwned (manager_after_operation m o line stream r)
operated_owned m o line stream None owned a b = owned a b
operated_owned m o line stream (Some r) owned a b =
    by_stream a b (λ x y f. OpOwned (begun_after_work m.begun x y (work_of o (m.ops x y) (length m.begun))) a b
    (if f then op_after_reach (is_hosted x) (work_of o (m.ops x y) (length m.begun)) r else m.ops a b))
    (after_owned m.begun a b o (m.ops a b) r (is_hosted a) (owned a b))
    (λ x y. op_longer m.begun _ (begun_longer m.begun x y (work_of o (m.ops x y) (length m.begun))) a b (m.ops a b)
    (owned a b)) line stream

cut_owned : (bs : List Begun) (ends : List PortName) (line stream : ℕ) (q : StreamStage) → OpOwned bs line stream q
    → OpOwned bs line stream (op_after_reset ends line q)
cut_owned bs ends line stream q owned = grind arith

pub manager_owned : (h : History) → OpsOwned (manager h)
unfolding manager
manager_owned [] line stream = tt
manager_owned ((event.Establish line stream loss, verdict) ∷ h) a b = operated_owned (manager h) op.Establish line
    stream (reach_of op.Establish verdict) (manager_owned h) a b
manager_owned ((event.Refresh line stream loss, verdict) ∷ h) a b = operated_owned (manager h) op.Refresh line stream
    (reach_of op.Refresh verdict) (manager_owned h) a b
manager_owned ((event.Stop line stream loss, verdict) ∷ h) a b = operated_owned (manager h) op.Stop line stream
    (reach_of op.Stop verdict) (manager_owned h) a b
manager_owned ((event.Reset link ends, v.Reset l) ∷ h) a b = cut_owned (manager h).begun ends a b
    ((manager h).ops a b) (manager_owned h a b)
manager_owned ((event.Reset link ends, _) ∷ h) a b = manager_owned h a b
manager_owned ((_, verdict) ∷ h) a b = manager_owned h a b

pub after_longer : (m : StreamOperations) (e : Event) (verdict : Verdict)
    → Longer m.begun (manager_after m e verdict).begun
after_longer m e verdict j x is = grind (arith, begun_more)

-- ---- what an event touches

pub cleared_owned : (O : Bool → ℕ → Type 0) (f : Bool) → AllOwned O (touches_if f Clear)
cleared_owned O f = grind arith

sealed_owned : (O : Bool → ℕ → Type 0) (p : KeyPlace) (ds : List SealedPacket) → AllOwned O (seal_touches p ds)
sealed_owned O p [] = tt
sealed_owned O p (d ∷ ds) = let more = sealed_owned O p ds in grind arith

pub came_owned : (O : Bool → ℕ → Type 0) (p : KeyPlace) (verdict : Verdict) → AllOwned O (came p verdict)
came_owned O p (v.Sealed packets) = sealed_owned O p packets
came_owned O p (v.Accepted port unit effects) = grind arith
came_owned O p _ = tt

-- the owner of a place's keys, after an event
abbrev pub OwnerAt : StreamOperations → KeyPlace → Bool → ℕ → Type 0
OwnerAt m p set j = Owner m.begun p.line p.stream set j

keyed_owned : (O : Bool → ℕ → Type 0) (f g set : Bool) (j : ℕ) → O set j
    → AllOwned O (touches_if f (Program set j) ++ touches_if g (Go set j))
keyed_owned O f g set j mine = grind arith

stopped_owned : (O : Bool → ℕ → Type 0) (a b c d : Bool)
    → AllOwned O (if a then touches_if b Clear else touches_if c (Stop false) ++ touches_if d (Stop true))
stopped_owned O a b c d = grind arith

pub worked_owned : (O : Bool → ℕ → Type 0) (o : Operation) (set : Bool) (draw first : ℕ) (begins : Bool)
    (r : Option Reach)
    (p : KeyPlace) → (makes_draw o ≡ true → O set draw) → AllOwned O
    (work_touches (new_work o set draw first begins) r p)
worked_owned O o set draw first begins None p mine = tt
worked_owned O op.Stop set draw first begins (Some r) p mine = stopped_owned O (is_local p) begins _ _
worked_owned O op.Establish set draw first begins (Some r) p mine = keyed_owned O _ _ set draw (mine refl)
worked_owned O op.Refresh set draw first begins (Some r) p mine = keyed_owned O _ _ set draw (mine refl)

-- the draw of an operation is its stream's
draw_owned : (bs : List Begun) (line stream : ℕ) (o : Operation) (q : StreamStage) → OpOwned bs line stream q
    → makes_draw (work_of o q (length bs)).operation ≡ true
    → Owner (begun_after_work bs line stream (work_of o q (length bs))) line stream (work_of o q (length bs)).set
    (work_of o q (length bs)).draw
draw_owned bs line stream o q owned draws = grind (arith, begun_now)

operation_owned : (m : StreamOperations) (o : Operation) (line stream : ℕ) (r : Option Reach) (p : KeyPlace)
    → OpOwned m.begun p.line p.stream (m.ops p.line p.stream)
    → AllOwned (OwnerAt (manager_after_operation m o line stream r) p)
    (on_it (is_on_stream p line stream) (work_touches (work_of o (m.ops line stream) (length m.begun)) r p))
operation_owned m o line stream None p owned = by_stream p.line p.stream (λ x y f. AllOwned (OwnerAt m p) (on_it f []))
    tt (λ x y. tt) line stream
operation_owned m o line stream (Some r) p owned = by_stream p.line p.stream
    (λ x y f. AllOwned (OwnerAt (manager_after_operation m o x y (Some r)) p)
    (on_it f (work_touches (work_of o (m.ops x y) (length m.begun)) (Some r) p)))
    (let w = work_of o (m.ops p.line p.stream) (length m.begun) in
    worked_owned (OwnerAt (manager_after_operation m o p.line p.stream (Some r)) p) w.operation w.set w.draw w.first
    w.begins (Some r)
    p (draw_owned m.begun p.line p.stream o (m.ops p.line p.stream) owned))
    (λ x y. tt) line stream

touches_owned : (m : StreamOperations) (e : Event) (verdict : Verdict) (p : KeyPlace) → OpsOwned m
    → AllOwned (OwnerAt (manager_after m e verdict) p) (touches m.ops (length m.begun) e verdict p)
touches_owned m (event.Establish line stream loss) verdict p owned =
    operation_owned m op.Establish line stream (reach_of op.Establish verdict) p (owned p.line p.stream)
touches_owned m (event.Refresh line stream loss) verdict p owned =
    operation_owned m op.Refresh line stream (reach_of op.Refresh verdict) p (owned p.line p.stream)
touches_owned m (event.Stop line stream loss) verdict p owned = operation_owned m op.Stop line stream
    (reach_of op.Stop verdict) p (owned p.line p.stream)
touches_owned m (event.Reset link ends) (v.Reset l) p owned = cleared_owned _ (is_cleared ends p.side p.line)
touches_owned m (event.Reset link ends) _ p owned = tt
touches_owned m _ verdict p owned = came_owned _ p verdict

pub keys_owned : (h : History) (p : KeyPlace) → OwnedKeys (OwnerAt (manager h) p) (keys p.sends (moments h p))
unfolding manager moments keys
keys_owned [] p = record { first_is = tt; second_is = tt }
keys_owned ((e, verdict) ∷ h) p =
    behind_owned (OwnerAt (manager ((e, verdict) ∷ h)) p) p.sends (moments h p)
    (touches (manager h).ops (length (manager h).begun) e verdict p)
    (more_owned (OwnerAt (manager h) p) (OwnerAt (manager ((e, verdict) ∷ h)) p) (keys p.sends (moments h p))
    (λ set j mine. after_longer (manager h) e verdict j _ mine) (keys_owned h p))
    (touches_owned (manager h) e verdict p (manager_owned h))

-- the draw that is kept in a set, and the draw that is On there
owned_kept : (O : Bool → ℕ → Type 0) (ks : Keys) (set : Bool) (j : ℕ) → OwnedKeys O ks → draw_of_keyed (key_in ks set)
    ≡ Some j → O set j
owned_kept O ks set j owned e = grind arith

pub owned_on : (O : Bool → ℕ → Type 0) (ks : Keys) (set : Bool) (j : ℕ) → OwnedKeys O ks → on_in (key_in ks set)
    ≡ Some j → O set j
owned_on O ks set j owned e = grind arith

pub kept_owned : (h : History) (p : KeyPlace) (set : Bool) (j : ℕ)
    → draw_of_keyed (key_in (keys p.sends (moments h p)) set) ≡ Some j → OwnerAt (manager h) p set j
kept_owned h p set j e = owned_kept (OwnerAt (manager h) p) (keys p.sends (moments h p)) set j (keys_owned h p) e

pub on_owned : (h : History) (p : KeyPlace) (set : Bool) (j : ℕ)
    → on_in (key_in (keys p.sends (moments h p)) set) ≡ Some j → OwnerAt (manager h) p set j
on_owned h p set j e = owned_on (OwnerAt (manager h) p) (keys p.sends (moments h p)) set j (keys_owned h p) e
