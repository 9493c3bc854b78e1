-- What an answer and a response are to the oldest read that waits at their port.
use Rattle.std.proofs.Common.{◌≡◌, ℕ, zero, suc, ◌≤◌, ◌∷◌, Bool, true, false, List, [], Some, slice_get, length, drop}
use Rattle.std.proofs.Common.{refl, ap, sym, ◌∙◌, arith}
use Rattle.std.specs.Prelude.{◌↔◌, if◌then◌else◌}
use Rattle.std.proofs.lemmas.Bool.{true≢false}
use Rattle.std.proofs.lemmas.List.{drop_all}
use Rattle.spec_links.specs.Terms.{Plan, PortName, Verdict, History, WaitingRead}
use Rattle.spec_links.specs.Cause.{CauseLaw}
use Rattle.spec_links.specs.Plan.{has_link}
use Rattle.spec_links.specs.Memory.{queued_reads, waiting_reads}
use Rattle.spec_links.specs.Sent.{reads_taken}
use Rattle.spec_links.specs.Due.{first_answered, read_due}
use Rattle.spec_links.proofs.HopFirst.{drop_first}
use Rattle.law_reads.proofs.Order.{reads_in_order}
use Rattle.event_verdicts.specs.declared.access.AccessVerdict.TheVariants as av
use Rattle.event_verdicts.specs.declared.verdict.Verdict.TheVariants as v
use Rattle.law_sending.specs.Sends.{IsOldestAt, NoneWaits}

-- ---- lists

pub drop_here : {A : Type 0} (xs : List A) (n : ℕ) (x : A) → slice_get xs n ≡ Some x → drop n xs ≡ x ∷ drop (suc n) xs
drop_here [] n x is = absurd cc
drop_here (y ∷ xs) zero x is = let same : y ≡ x = cc (is) in ap (λ z. z ∷ xs) same
drop_here (y ∷ xs) (suc n) x is = drop_here xs n x is

pub dropped_all : {A : Type 0} (xs : List A) (n : ℕ) → drop n xs ≡ [] → length xs ≤ n
dropped_all [] n is = omega arith
dropped_all (y ∷ xs) zero is = absurd cc
dropped_all (y ∷ xs) (suc n) is = let le = dropped_all xs n is in omega (arith, le)

-- ---- the verdict

abbrev pub is_empty : Verdict → Bool
is_empty (v.Access (av.Empty link)) = true
is_empty w = false

module _ (plan : Plan) (h : History) (port : PortName) (answer : WaitingRead → Verdict) (w : Verdict)
    (is : w ≡ read_due plan h port answer) (known : has_link plan port.line ≡ true) where
  by_waiting : (rs : List WaitingRead) → waiting_reads plan h port ≡ rs → w ≡ first_answered answer port.line rs
  by_waiting rs waits = is
      ∙ (ap (λ (b : Bool). if b then first_answered answer port.line (waiting_reads plan h port) else v.Nothing) known
      ∙ ap (first_answered answer port.line) waits)

  pub answers_oldest : (r : WaitingRead) → IsOldestAt plan h port r → w ≡ answer r
  answers_oldest r place = by_waiting (r ∷ drop (suc (reads_taken h port)) (queued_reads plan h port))
      (drop_here (queued_reads plan h port) (reads_taken h port) r place)

  -- it is `empty` exactly if none waits, if no read is answered so
  pub empty_exactly : CauseLaw plan h
      → ((r : WaitingRead) → IsOldestAt plan h port r → is_empty (answer r) ≡ false)
      → (w ≡ v.Access (av.Empty port.line)) ↔ NoneWaits plan h port
  empty_exactly cause full = (all_taken, none_left)
    where
      all_taken : w ≡ v.Access (av.Empty port.line) → NoneWaits plan h port
      all_taken empty = by (waiting_reads plan h port) refl
        where
          by : (rs : List WaitingRead) → waiting_reads plan h port ≡ rs → NoneWaits plan h port
          by [] waits =
              let least = dropped_all (queued_reads plan h port) (reads_taken h port) waits in
              let most = (reads_in_order plan h cause).0 port in
              omega (arith, least, most)
          by (r ∷ rs) waits = absurd (true≢false (sym (ap is_empty empty)
              ∙ (ap is_empty (by_waiting (r ∷ rs) waits)
              ∙ full r (drop_first (reads_taken h port) (queued_reads plan h port) r rs waits))))

      none_left : NoneWaits plan h port → w ≡ v.Access (av.Empty port.line)
      none_left same =
          by_waiting [] (drop_all (reads_taken h port) (queued_reads plan h port) (omega (arith, same)))
