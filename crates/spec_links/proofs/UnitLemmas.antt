-- Units of a list that gains packets, and prefixes of a list of units.
use Rattle.spec_links.proofs.Terms.{Bool, List, Some, [], ap, append_assoc, arith, drop, false, length, refl, slice_get}
use Rattle.spec_links.proofs.Terms.{subst, suc, sym, take, true, zero, ℕ, ◌++◌, ◌∙◌, ◌∷◌, ◌≡◌, ◌≤◌, append-nil}
use Rattle.spec_links.proofs.Terms.{take-append-drop, get_or_from_slice_get, slice_get_within, flat_map, AllByRecursion}
use Rattle.spec_links.proofs.Terms.{Packet, if◌then◌else◌, open_unit, rest_after, units, units_finished}
use Rattle.std.proofs.Math.Seq.{take-suc}
use Rattle.std.proofs.lemmas.Grind.{flat_map-append}
use Rattle.spec_links.proofs.LastPlaces.{all_of}

-- the packets of units, in order
abbrev pub packets_of_units : List (List Packet) → List Packet
packets_of_units us = flat_map (λ (u : List Packet). u) us

-- ---- more packets

units_finished-append : (unfinished ps qs : List Packet) → units_finished unfinished (ps ++ qs)
    ≡ units_finished unfinished ps
    ++ units_finished (rest_after unfinished ps) qs
units_finished-append unfinished [] qs = refl
units_finished-append unfinished (p ∷ ps) qs = grind
    (arith, units_finished-append [] ps qs, units_finished-append (unfinished ++ p ∷ []) ps qs)

rest_after-append : (unfinished ps qs : List Packet) → rest_after unfinished (ps ++ qs)
    ≡ rest_after (rest_after unfinished ps) qs
rest_after-append unfinished [] qs = refl
rest_after-append unfinished (p ∷ ps) qs = grind
    (arith, rest_after-append [] ps qs, rest_after-append (unfinished ++ p ∷ []) ps qs)

joined_after : (unfinished ps : List Packet)
    → packets_of_units (units_finished unfinished ps) ++ rest_after unfinished ps ≡ unfinished ++ ps
joined_after unfinished [] = sym (append-nil unfinished)
joined_after unfinished (q ∷ ps) = grind
    (arith, append_assoc, joined_after [] ps, joined_after (unfinished ++ q ∷ []) ps)

pub units-append : (ps qs : List Packet) → units (ps ++ qs) ≡ units ps ++ units_finished (open_unit ps) qs
unfolding units open_unit
units-append ps qs = units_finished-append [] ps qs

pub open_unit-append : (ps qs : List Packet) → open_unit (ps ++ qs) ≡ rest_after (open_unit ps) qs
unfolding open_unit
open_unit-append ps qs = rest_after-append [] ps qs

-- what a packet does to the units
pub units-snoc : (ps : List Packet) (p : Packet) → units (ps ++ p ∷ [])
    ≡ (if p.prefix.m then units ps ++ (open_unit ps ++ p ∷ []) ∷ [] else units ps)
units-snoc ps p = grind (arith, units-append ps (p ∷ []), append-nil)

pub open_unit-snoc : (ps : List Packet) (p : Packet) → open_unit (ps ++ p ∷ [])
    ≡ (if p.prefix.m then [] else open_unit ps ++ p ∷ [])
open_unit-snoc ps p = open_unit-append ps (p ∷ [])

pub units-end : (ps : List Packet) (p : Packet) → p.prefix.m ≡ true → units (ps ++ p ∷ []) ≡ units ps
    ++ (open_unit ps ++ p ∷ []) ∷ []
units-end ps p m = units-snoc ps p ∙ ap
    (λ (b : Bool). if b then units ps ++ (open_unit ps ++ p ∷ []) ∷ [] else units ps) m

pub units-more : (ps : List Packet) (p : Packet) → p.prefix.m ≡ false → units (ps ++ p ∷ []) ≡ units ps
units-more ps p m = units-snoc ps p ∙ ap
    (λ (b : Bool). if b then units ps ++ (open_unit ps ++ p ∷ []) ∷ [] else units ps) m

pub open_unit-end : (ps : List Packet) (p : Packet) → p.prefix.m ≡ true → open_unit (ps ++ p ∷ []) ≡ []
open_unit-end ps p m = open_unit-snoc ps p ∙ ap (λ (b : Bool). if b then [] else open_unit ps ++ p ∷ []) m

pub open_unit-more : (ps : List Packet) (p : Packet) → p.prefix.m ≡ false → open_unit (ps ++ p ∷ []) ≡ open_unit ps ++ p
    ∷ []
open_unit-more ps p m = open_unit-snoc ps p ∙ ap (λ (b : Bool). if b then [] else open_unit ps ++ p ∷ []) m

-- the units and what is open are all the packets
pub joined_units : (ps : List Packet) → packets_of_units (units ps) ++ open_unit ps ≡ ps
unfolding units open_unit
joined_units ps = joined_after [] ps

-- ---- M

pub All-snoc : (P : Packet → Type 0) (ps : List Packet) (p : Packet) → AllByRecursion P ps → P p
    → AllByRecursion P (ps ++ p ∷ [])
All-snoc P [] p all here = (here, tt)
All-snoc P (q ∷ ps) p all here = (all.0, All-snoc P ps p all.1 here)

-- no packet has M
abbrev pub IsFront : List Packet → Type 0
IsFront = AllByRecursion (λ (p : Packet). p.prefix.m ≡ false)

-- only the last packet has M
abbrev pub EndsInM : List Packet → Type 0
EndsInM [] = Unit {0}
EndsInM (p ∷ []) = p.prefix.m ≡ true
EndsInM (p ∷ q ∷ ps) = (p.prefix.m ≡ false) × EndsInM (q ∷ ps)

pub EndsInM-snoc : (ps : List Packet) (p : Packet) → IsFront ps → p.prefix.m ≡ true → EndsInM (ps ++ p ∷ [])
EndsInM-snoc [] p unfinished m = m
EndsInM-snoc (q ∷ []) p unfinished m = (unfinished.0, m)
EndsInM-snoc (q ∷ r ∷ ps) p unfinished m = (unfinished.0, EndsInM-snoc (r ∷ ps) p unfinished.1 m)

open_after_front : (f ps : List Packet) → IsFront ps → rest_after f ps ≡ f ++ ps
open_after_front f [] unfinished = sym (append-nil f)
open_after_front f (p ∷ ps) unfinished =
    ap (λ (b : Bool). if b then rest_after [] ps else rest_after (f ++ p ∷ []) ps) unfinished.0 ∙
    (open_after_front (f ++ p ∷ []) ps unfinished.1 ∙ append_assoc f (p ∷ []) ps)

pub open_unit-unfinished : (ps qs : List Packet) → IsFront qs → open_unit (ps ++ qs) ≡ open_unit ps ++ qs
open_unit-unfinished ps qs unfinished = open_unit-append ps qs ∙ open_after_front (open_unit ps) qs unfinished

-- what the packets before and each packet keep holds of each unit
each_unit : (F : List Packet → Type 0) (R : Packet → Type 0) (P : List Packet → Type 0) → F []
    → ((f : List Packet) (p : Packet) → F f → R p → p.prefix.m ≡ true → P (f ++ p ∷ []))
    → ((f : List Packet) (p : Packet) → F f → R p → p.prefix.m ≡ false → F (f ++ p ∷ []))
    → (unfinished ps : List Packet) → F unfinished → AllByRecursion R ps
    → AllByRecursion P (units_finished unfinished ps)
each_unit F R P none ends goes unfinished [] f all = tt
each_unit F R P none ends goes unfinished (q ∷ ps) f all =
    by_m q.prefix.m refl (each_unit F R P none ends goes [] ps none all.1)
    (λ g. each_unit F R P none ends goes (unfinished ++ q ∷ []) ps g all.1)
  where
    by_m : (b : Bool) → q.prefix.m ≡ b → AllByRecursion P (units_finished [] ps)
        → (F (unfinished ++ q ∷ []) → AllByRecursion P (units_finished (unfinished ++ q ∷ []) ps))
        → AllByRecursion P (if b then (unfinished ++ q ∷ []) ∷ units_finished [] ps else units_finished
        (unfinished ++ q ∷ [])
        ps)
    by_m true m rest more = (ends unfinished q f all.0 m, rest)
    by_m false m rest more = more (goes unfinished q f all.0 m)

pub units_all : (P : Packet → Type 0) (ps : List Packet) → AllByRecursion P ps
    → AllByRecursion (AllByRecursion P) (units ps)
unfolding units
units_all P ps all = each_unit (AllByRecursion P) P (AllByRecursion P) tt (λ f p g here m. All-snoc P f p g here)
    (λ f p g here m. All-snoc P f p g here) [] ps tt all

-- each unit ends in M, and only there
pub units_end : (ps : List Packet) → AllByRecursion EndsInM (units ps)
unfolding units
units_end ps = each_unit IsFront (λ p. Unit {0}) EndsInM tt (λ f p g here m. EndsInM-snoc f p g m)
    (λ f p g here m. All-snoc _ f p g m) [] ps tt (all_of _ (λ p. tt) ps)

-- what holds of all units holds of one
pub unit_at : (P : List Packet → Type 0) (us : List (List Packet)) (k : ℕ) (x : List Packet) → AllByRecursion P us
    → slice_get us k ≡ Some x → P x
unit_at P [] k x all is = absurd cc
unit_at P (y ∷ us) zero x all is = let same : y ≡ x = cc in subst P same all.0
unit_at P (y ∷ us) (suc k) x all is = unit_at P us k x all.1 is

-- ---- prefixes of the units

pub take_next : (us : List (List Packet)) (k : ℕ) (x : List Packet) → slice_get us k ≡ Some x → take (suc k) us
    ≡ take k us ++ x ∷ []
take_next us k x is = rw (take-suc us k x (slice_get_within us k x is), get_or_from_slice_get us k x x is)

pub below : (us : List (List Packet)) (k : ℕ) (x : List Packet) → slice_get us k ≡ Some x → suc k ≤ length us
below us k x is = slice_get_within us k x is

pub joined-snoc : (us : List (List Packet)) (x : List Packet) → packets_of_units (us ++ x ∷ []) ≡ packets_of_units us
    ++ x
joined-snoc us x = flat_map-append (λ u. u) us (x ∷ []) ∙ ap (λ z. packets_of_units us ++ z) (append-nil x)

-- the first units and the others, joined, are all
pub joined_take : (us : List (List Packet)) (k : ℕ) → packets_of_units (take k us) ++ packets_of_units (drop k us)
    ≡ packets_of_units us
joined_take us k = sym (flat_map-append (λ u. u) (take k us) (drop k us)) ∙ ap packets_of_units (take-append-drop k us)
