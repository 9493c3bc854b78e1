-- How far a place has come in an establish or a refresh of draw j in set k.
use Rattle.spec_keys.proofs.Terms.{◌≡◌, ℕ, ◌+◌, ◌<◌, ◌≤◌, ◌⊎◌, inl, inr, Bool, true, false, List, ◌∷◌, ◌++◌, refl}
use Rattle.spec_keys.proofs.Terms.{arith, not, nat_tests, Touch, Program, Go, refuses, is_open, keys, is_number_between}
use Rattle.spec_keys.proofs.Terms.{touches_if, touches_after}
use Rattle.spec_keys.proofs.Touches.{Programs, bare_programs, waiting_programs, other_programs, following_programs}
use Rattle.spec_keys.proofs.Touches.{older_programs, Goes, waiting_goes, alone_goes, following_goes, both_goes}
use Rattle.spec_keys.proofs.Touches.{TouchFits, AllCome}
use Rattle.spec_keys.proofs.Shapes.{Marks, marks, draws_started, Shape, Bare, Waiting, Alone, Following, Both}
use Rattle.spec_keys.proofs.Shapes.{draws_used, after_go, IsAt, goes_waiting, goes_following}

-- before its KEY_PROG: in an establish there is no key, in a refresh an older draw is On in the other set
pub data Rest (k : Bool) (j : ℕ) (u : Marks) : Bool → Shape → Type 0 where
  unkeyed : u.used_below ≤ j → Rest k j u false Bare
  old_alone : (i : ℕ) → i < j → Rest k j u true (Alone (not k) i)
  old_both : (e i : ℕ) → i < j → Rest k j u true (Both (not k) e i)

-- between its KEY_PROG and its GO
pub data Half (k : Bool) (j : ℕ) : Bool → Shape → Type 0 where
  waiting : Half k j false (Waiting k j)
  following : (i : ℕ) → Half k j true (Following k i j)

-- after its GO: in a refresh the older draw may still be On
pub data Full (k : Bool) (j : ℕ) : Bool → Shape → Type 0 where
  alone : (r : Bool) → Full k j r (Alone k j)
  both : (i : ℕ) → Full k j true (Both k i j)

-- a is the exchange of its KEY_PROG, b that of its GO, and all exchanges below n were acknowledged
pub data Rising (r k : Bool) (j a b n : ℕ) (u : Marks) : Shape → Type 0 where
  before : (sh : Shape) → n ≤ a → u.started_below ≤ j → Rest k j u r sh → Rising r k j a b n u sh
  half : (sh : Shape) → n ≤ b → Half k j r sh → Rising r k j a b n u sh
  full : (sh : Shape) → a < n → Full k j r sh → Rising r k j a b n u sh

-- a place whose keys are of such a shape
pub record At (s : Bool) (ts : List Touch) (P : Shape → Type 0) : Type 0 where
  pub shape : Shape
  pub is : IsAt s ts shape
  pub fits : P shape

-- touches, in order, that come when they may and lead to such a shape
pub record Lands (s : Bool) (ts more : List Touch) (P : Shape → Type 0) : Type 0 where
  pub at : At s (touches_after ts more) P
  pub come : AllCome s ts more

rest_programs : (k : Bool) (j : ℕ) (u : Marks) (r : Bool) (sh : Shape) → Rest k j u r sh → Programs k sh
rest_programs k j u r sh rest = grind (arith, bare_programs, other_programs, older_programs)

half_programs : (k : Bool) (j : ℕ) (r : Bool) (sh : Shape) → Half k j r sh → Programs k sh
half_programs k j r sh h = grind (arith, waiting_programs, following_programs)

half_goes : (k : Bool) (j : ℕ) (r : Bool) (sh : Shape) → Half k j r sh → Goes k j sh
half_goes k j r sh h = grind (arith, waiting_goes, following_goes)

full_goes : (k : Bool) (j : ℕ) (r : Bool) (sh : Shape) → Full k j r sh → Goes k j sh
full_goes k j r sh f = grind (arith, alone_goes, both_goes)

full_after : (s opens k : Bool) (i j : ℕ) → Full k j true (after_go s opens k i j)
full_after s opens k i j = grind (arith, alone, both)

pub comes_if : (f s : Bool) (ts : List Touch) (sh : Shape) (t : Touch) → IsAt s ts sh → TouchFits s ts sh t
    → AllCome s ts (touches_if f t)
comes_if true s ts sh t is may = (record { shape = sh; is = is; may = may }, tt)
comes_if false s ts sh t is may = tt

programmed : (s r k : Bool) (j : ℕ) (ts : List Touch) (sh : Shape) → IsAt s ts sh → draws_started ts ≤ j
    → Rest k j (marks ts) r sh
    → At s (Program k j ∷ ts) (Half k j r) ⊎ ((refuses s (keys s ts) k ≡ true) × IsAt s (Program k j ∷ ts) sh)
unfolding keys draws_used draws_started is_open
programmed s false k j ts _ is fresh (unkeyed le) = inl
    (record { shape = Waiting k j; is = grind arith; fits = waiting })
programmed s true k j ts _ is fresh (old_alone i lt) = inl
    (record { shape = Following k i j; is = grind arith; fits = following i })
programmed false true k j ts _ is fresh (old_both e i lt) = inl
    (record { shape = Following k i j; is = grind (arith, nat_tests); fits = following i })
programmed true true k j ts _ is fresh (old_both e i lt) = inr (grind (arith, nat_tests), grind (arith, nat_tests))

programmed_again : (s r k f : Bool) (j : ℕ) (ts : List Touch) (sh : Shape) → IsAt s ts sh → Half k j r sh
    → IsAt s (touches_after ts (touches_if f (Program k j))) sh
unfolding keys draws_used draws_started
programmed_again s r k f j ts sh is h = grind arith

gone : (s r k : Bool) (j : ℕ) (ts : List Touch) (sh : Shape) → IsAt s ts sh → Half k j r sh
    → At s (Go k j ∷ ts) (Full k j r)
gone s r k j ts _ is waiting = record { shape = Alone k j; is = goes_waiting s ts k j is; fits = alone r }
gone s r k j ts _ is (following i) =
    record {
      shape = after_go s (is_open ts i) k i j;
      is = goes_following s ts k i j is;
      fits = full_after s
          (is_open ts i) k i j;
    }

gone_again : (s r k f : Bool) (j : ℕ) (ts : List Touch) (sh : Shape) → IsAt s ts sh → Full k j r sh
    → IsAt s (touches_after ts (touches_if f (Go k j))) sh
unfolding keys draws_used draws_started is_open
gone_again s r k f j ts sh is h = grind (arith, nat_tests)

-- ---- an event of the operation

-- the event carries the exchanges from n on that are below `below`, and those below `next` are acknowledged
pub record Spans (n next below : ℕ) : Type 0 where
  pub forward : n ≤ next
  pub reached : next ≤ below
  pub within_one : below ≤ next + 1

-- what the event touches
abbrev pub rising_touches : (k : Bool) (j a b n below : ℕ) → List Touch
rising_touches k j a b n below = touches_if (is_number_between n a below) (Program k j)
    ++ touches_if (is_number_between n b below) (Go k j)

abbrev Risen : (s r k : Bool) (j a b next : ℕ) → List Touch → List Touch → Type 0
Risen s r k j a b next ts more = Lands s ts more (Rising r k j a b next (marks (touches_after ts more)))

-- an event that gets no further than the KEY_PROG reaches no GO
no_go : (n a b next below : ℕ) → a < b → Spans n next below → next ≤ a → is_number_between n b below ≡ false
no_go n a b next below lt spans le = grind (arith, nat_tests)

not_refused : (a next n : ℕ) (b : Bool) → n ≤ a → (n ≤ a → a < next → b ≡ false) → b ≡ true → next ≤ a
not_refused a next n b le takes refused = grind arith

-- one event of an establish or a refresh, if no KEY_PROG was acknowledged that the place refuses
pub rises : (s r k : Bool) (j a b n next below : ℕ) (ts : List Touch) → a < b → Spans n next below
    → (n ≤ a → a < next → refuses s (keys s ts) k ≡ false)
    → At s ts (Rising r k j a b n (marks ts)) → Risen s r k j a b next ts (rising_touches k j a b n below)
unfolding draws_used draws_started
rises s r k j a b n next below ts lt spans takes at = by_stage at.shape at.is at.fits
  where
    -- after the KEY_PROG
    half_way : (us : List Touch) → (sh : Shape) → IsAt s us sh → Half k j r sh → n ≤ b → (f : Bool)
        → is_number_between n b below ≡ f → Risen s r k j a b next us (touches_if f (Go k j))
    half_way us sh is h le false eq = record
        { at = record { shape = sh; is = is; fits = half sh (grind (arith, nat_tests)) h }; come = tt }
    half_way us sh is h le true eq =
        let on = gone s r k j us sh is h in
        record {
          at = record { shape = on.shape; is = on.is; fits = full on.shape (grind (arith, nat_tests)) on.fits };
          come = (record { shape = sh; is = is; may = half_goes k j r sh h }, tt);
        }

    -- the KEY_PROG, and then what comes after it
    programs_first : (f : Bool) (sh : Shape) → IsAt s ts sh → Programs k sh → (more : List Touch)
        → Risen s r k j a b next (touches_after ts (touches_if f (Program k j))) more
        → Risen s r k j a b next ts (touches_if f (Program k j) ++ more)
    programs_first true sh is may more lands = record
        { at = lands.at; come = (record { shape = sh; is = is; may = may }, lands.come) }
    programs_first false sh is may more lands = lands

    by_stage : (sh : Shape) → IsAt s ts sh → Rising r k j a b n (marks ts) sh
        → Risen s r k j a b next ts (rising_touches k j a b n below)
    by_stage sh is (before _ le low rest) = by_test (is_number_between n a below) refl
      where
        stays : (us : List Touch) → marks us ≡ marks ts → IsAt s us sh → next ≤ a
            → Risen s r k j a b next us (touches_if (is_number_between n b below) (Go k j))
        stays us same at still =
            rw (no_go n a b next below lt spans still)
            (record { at = record { shape = sh; is = at; fits = rw same (before sh still low rest) }; come = tt })

        by_answer : At s (Program k j ∷ ts) (Half k j r) ⊎
            ((refuses s (keys s ts) k ≡ true) × IsAt s (Program k j ∷ ts) sh)
            → Risen s r k j a b next (Program k j ∷ ts) (touches_if (is_number_between n b below) (Go k j))
        by_answer (inl on) = half_way (Program k j ∷ ts) on.shape on.is on.fits (omega (arith, lt, le))
            (is_number_between n b below) refl
        by_answer (inr refused) = stays (Program k j ∷ ts) refl refused.1
            (not_refused a next n (refuses s (keys s ts) k) le takes refused.0)

        by_test : (f : Bool) → is_number_between n a below ≡ f → Risen s r k j a b next ts
            (touches_if f (Program k j) ++ touches_if (is_number_between n b below) (Go k j))
        by_test false eq = stays ts refl is (grind (arith, nat_tests))
        by_test true eq = programs_first true sh is (rest_programs k j (marks ts) r sh rest) _
            (by_answer (programmed s r k j ts sh is low rest))
    by_stage sh is (half _ le h) =
        programs_first (is_number_between n a below) sh is (half_programs k j r sh h) _
        (half_way _ sh (programmed_again s r k (is_number_between n a below) j ts sh is h) h le
        (is_number_between n b below) refl)
    by_stage sh is (full _ past h) =
        let none : is_number_between n a below ≡ false = grind (arith, nat_tests) in
        rw none (record {
          at = record {
            shape = sh;
            is = gone_again s r k (is_number_between n b below) j ts sh is h;
            fits = full sh
                (omega (arith, past, spans.forward)) h;
          };
          come = comes_if (is_number_between n b below) s ts sh (Go k j) is (full_goes k j r sh h);
        })
