-- A report, read portion by portion at one event.
use Rattle.std.proofs.Common.{◌≡◌, ℕ, suc, zero, ◌+◌, ◌-◌, ◌<◌, ◌≤◌, ◌==◌, Bool, true, false, List, [], ◌∷◌, ◌++◌}
use Rattle.std.proofs.Common.{length, take, drop, Option, Some, None, Ok, Err, refl, ap, sym, subst, ◌∙◌, arith}
use Rattle.std.proofs.Common.{length-take, length-drop, take_all}
use Rattle.std.specs.Prelude.{slice_set, nat_le, nat_lt, ◌&&◌, ◌||◌, if◌then◌else◌}
use Rattle.std.specs.Option.{option_map}
use Rattle.spec_keys.proofs.Terms.{nat_tests}
use Rattle.spec_keys.proofs.Tests.{le-true, lt-true, true-same, true-le, false-le}
use Rattle.script_events.specs.declared.event.Loss.{Loss}
use Rattle.script_events.specs.declared.event.Lost.{Lost}
use Rattle.script_events.specs.declared.event.Lost.TheVariants.{Request, Reply}
use Rattle.interface_state.specs.declared.states.Lock.{Lock}
use Rattle.interface_state.specs.Kept.{kept_report}
use Rattle.interface_state.specs.Machine.{DeviceTdi, lock_of, portion_of}
use Rattle.interface_host.specs.declared.operation.InterfaceOperation.TheVariants as op
use Rattle.interface_host.specs.declared.step.Step.TheVariants as step
use Rattle.interface_host.specs.Judging.{Portion}
use Rattle.interface_host.specs.Views.{HostTdi, step_request, report_outcome}
use Rattle.interface_ends.specs.declared.said.StreamSaid.{StreamSaid}
use Rattle.interface_ends.specs.Replies.{DeviceTdis, NamedTdi, interfaces_after_call}
use Rattle.interface_ends.specs.Exchanges.{portion_due, Meets, IsReport, ExchangesAreDue}
use Rattle.spec_keys.specs.Due.{lost_message}
use Rattle.interface_ends.specs.Operations.{judgment_if_carried, interfaces_after_request, Walking, WalkedInterface}
use Rattle.interface_ends.specs.Operations.{walked_by, walking_next, continued_walk, interface_walk, begun_walking}
use Rattle.interface_ends.specs.Operations.{stated_once, at_step}
use Rattle.interface_ends.specs.Reports.{portion_count, lost_exchange_within, ReportIsRead, ReportsAreRead}
use Rattle.interface_ends.specs.Reports.{ReportsAreRefused}
use Rattle.interface_ends.proofs.Operations.{same_set, once_stated, goes, IsOver, stops}

-- ---- the exchange that is lost

some_by : (l : Loss) (e c : ℕ) (x : Lost) (b : Bool) → (l.exchange == e) ≡ b → (if b then Some l.lost else None)
    ≡ Some x → 1 ≤ c → lost_exchange_within (Some l) e c ≡ Some e
some_by l e c x true test is some =
    let same : l.exchange ≡ e = true-same l.exchange e test in
    rw (le-true e l.exchange (omega (arith, same)), lt-true l.exchange (e + c) (omega (arith, same))) (ap Some same)
some_by l e c x false test is some = absurd cc

-- the exchange of this number
lost_here : (loss : Option Loss) (e c : ℕ) (x : Lost) → lost_message loss e ≡ Some x → 1 ≤ c
    → lost_exchange_within loss e c ≡ Some e
lost_here None e c x is some = absurd cc
lost_here (Some l) e c x is some = some_by l e c x (l.exchange == e) refl is some

tests : (x e c : ℕ) → (x == e) ≡ false → (nat_le e x && nat_lt x (e + suc c))
    ≡ (nat_le (e + 1) x && nat_lt x (e + 1 + c))
tests x e c differ = grind (arith, nat_tests)

not_by : (l : Loss) (e c : ℕ) (b : Bool) → (l.exchange == e) ≡ b → (if b then Some l.lost else None) ≡ None
    → lost_exchange_within (Some l) e (suc c) ≡ lost_exchange_within (Some l) (e + 1) c
not_by l e c true test is = absurd cc
not_by l e c false test is = ap (λ b. if b then Some l.exchange else None) (tests l.exchange e c test)

-- a later one
lost_later : (loss : Option Loss) (e c : ℕ) → lost_message loss e ≡ None → lost_exchange_within loss e (suc c)
    ≡ lost_exchange_within loss (e + 1) c
lost_later None e c is = refl
lost_later (Some l) e c is = not_by l e c (l.exchange == e) refl is

no_test : (x e : ℕ) → (nat_le e x && nat_lt x (e + 0)) ≡ false
no_test x e = grind (arith, nat_tests)

lost_nowhere : (loss : Option Loss) (e : ℕ) → lost_exchange_within loss e 0 ≡ None
lost_nowhere None e = refl
lost_nowhere (Some l) e = ap (λ b. if b then Some l.exchange else None) (no_test l.exchange e)

least_by : (more portion left : ℕ) (b : Bool) → 1 ≤ (if b then 1 else suc (portion_count more portion (left - portion)))
least_by more portion left true = omega arith
least_by more portion left false = omega arith

-- ---- one portion

abbrev part : List ℕ → ℕ → ℕ → List ℕ
part r portion off = take portion (drop off r)

abbrev behind : List ℕ → ℕ → ℕ → ℕ
behind r portion off = length (drop (off + portion) r)

abbrev at_portion : HostTdi → DeviceTdis → List ℕ → ℕ → Walking
at_portion i d bytes q = record
    { interface = i; step = step.Report; read = record { bytes = bytes; portions = q }; device = d }

tested : (r : List ℕ) (portion off : ℕ) → 1 ≤ portion → off < length r → ((portion == 0) || nat_le (length r) off)
    ≡ false
tested r portion off some lt = grind (arith, nat_tests)

interfaces_after_answer : (tdi : DeviceTdi) (lock : Option Lock) (l : Lock) (portion off : ℕ) → lock ≡ Some l
    → 1 ≤ portion → off < length (kept_report tdi.plan l)
    → portion_due (portion_of (option_map (kept_report tdi.plan) lock) off portion)
    ≡ Portion (part (kept_report tdi.plan l) portion off) (behind (kept_report tdi.plan l) portion off)
interfaces_after_answer tdi lock l portion off is some lt =
    ap (λ k. portion_due (portion_of (option_map (kept_report tdi.plan) k) off portion)) is
    ∙ ap (λ (b : Bool). portion_due
    (if b then Err 1 else Ok
    (part (kept_report tdi.plan l) portion off, behind (kept_report tdi.plan l) portion off)))
    (tested (kept_report tdi.plan l) portion off some lt)

-- the device is as before, whatever is lost
unmoved : (d : DeviceTdis) (n : NamedTdi) (i : HostTdi) (portion read : ℕ) (said : StreamSaid) (l : Option Lost)
    → slice_set d.interfaces n.place n.tdi ≡ d.interfaces
    → interfaces_after_request l d (interfaces_after_call d n (step_request step.Report portion read i) said) ≡ d
unmoved d n i portion read said None same = ap
    (λ xs. (let k : DeviceTdis = record { interfaces = xs; nonces = d.nonces; used = d.used } in k)) same
unmoved d n i portion read said (Some Request) same = refl
unmoved d n i portion read said (Some Reply) same = ap
    (λ xs. (let k : DeviceTdis = record { interfaces = xs; nonces = d.nonces; used = d.used } in k)) same

-- a portion that is read, or lost
abbrev now_at : ℕ → Option Lost → HostTdi → DeviceTdis → List ℕ → List ℕ → ℕ → ℕ → ℕ → WalkedInterface
now_at draws l i d r bytes q portion off = walked_by draws (at_portion i d bytes q)
    (judgment_if_carried l (Portion (part r portion off) (behind r portion off))) d

once : ExchangesAreDue → (portion draws : ℕ) (said : StreamSaid) (loss : Option Loss) (i : HostTdi) (d : DeviceTdis)
    (n : NamedTdi) (lock : Lock) (off q : ℕ) (bytes : List ℕ)
    → Meets portion i d n → lock_of n.tdi.state ≡ Some lock → length bytes ≡ off
    → off < length (kept_report n.tdi.plan lock) → off ≤ 1140
    → stated_once portion draws said (lost_message loss (q + 1)) n (at_portion i d bytes q)
    ≡ now_at draws (lost_message loss (q + 1)) i d (kept_report n.tdi.plan lock) bytes q portion off
once due portion draws said loss i d n lock off q bytes m is long lt short =
    ap (λ j. walked_by draws (at_portion i d bytes q) (judgment_if_carried (lost_message loss (q + 1)) j)
    (interfaces_after_request (lost_message loss (q + 1)) d
    (interfaces_after_call d n (step_request step.Report portion (length bytes) i) said)))
    (ap (λ k. portion_due (portion_of (option_map (kept_report n.tdi.plan) (lock_of n.tdi.state)) k portion)) long ∙
    interfaces_after_answer n.tdi (lock_of n.tdi.state) lock portion off is m.portion_least lt)
    ∙ ap (λ x. walked_by draws (at_portion i d bytes q)
    (judgment_if_carried (lost_message loss (q + 1))
    (Portion (part (kept_report n.tdi.plan lock) portion off) (behind (kept_report n.tdi.plan lock) portion off)))
    x)
    (unmoved d n i portion (length bytes) said (lost_message loss (q + 1)) (same_set d i.requester n m.named_is))

-- ---- all portions

none_taken : (j : ℕ) → take {A = ℕ} j [] ≡ []
none_taken zero = refl
none_taken (suc j) = refl

taken_on : (n k : ℕ) (xs : List ℕ) → take n xs ++ take k (drop n xs) ≡ take (n + k) xs
taken_on zero k xs = ap (λ j. take j xs) (let e : k ≡ 0 + k = omega arith in e)
taken_on (suc n) k [] = none_taken k ∙ sym (none_taken (suc n + k))
taken_on (suc n) k (x ∷ xs) = ap (λ ys. x ∷ ys) (taken_on n k xs) ∙ ap (λ j. take j (x ∷ xs))
    (let e : suc (n + k) ≡ suc n + k = omega arith in e)

-- what a report gives from this portion on
abbrev Reads : ℕ → ℕ → ℕ → StreamSaid → Option Loss → HostTdi → DeviceTdis → List ℕ → ℕ → ℕ → Type 0
Reads more portion draws said loss i d r off q =
    ReportIsRead (lost_exchange_within loss (q + 1) (portion_count more portion (length r - off))) r i d
    (interface_walk more portion draws said loss (at_portion i d (take off r) q))

-- a portion that is lost
cut_short : (more portion draws : ℕ) (loss : Option Loss) (i : HostTdi) (d : DeviceTdis) (r : List ℕ) (off q : ℕ)
    (x : Lost) (w : WalkedInterface)
    → lost_message loss (q + 1) ≡ Some x → w ≡ now_at draws (Some x) i d r (take off r) q portion off
    → ReportIsRead (lost_exchange_within loss (q + 1) (portion_count (suc more) portion (length r - off))) r i d w
cut_short more portion draws loss i d r off q x w is comes =
    let lost : lost_exchange_within loss (q + 1) (portion_count (suc more) portion (length r - off)) ≡ Some (q + 1)
    = lost_here loss (q + 1) _ x is (least_by more portion (length r - off) (nat_le (length r - off) portion)) in
    record {
      outcome_is = rw (comes, lost) refl;
      interface_is = rw (comes, lost) refl;
      device_is = rw comes refl;
      report_is = λ none. absurd (no_some (sym none ∙ lost));
    }
  where
    no_some : {n : ℕ} → None ≡ Some n → ⊥
    no_some e = absurd cc

-- the last portion
ended : (more portion draws : ℕ) (loss : Option Loss) (i : HostTdi) (d : DeviceTdis) (r : List ℕ) (off q : ℕ)
    (w : WalkedInterface)
    → lost_message loss (q + 1) ≡ None → length r ≤ off + portion → w
    ≡ now_at draws None i d r (take off r) q portion off
    → behind r portion off ≡ 0 → nat_le (length r - off) portion ≡ true
    → ReportIsRead (lost_exchange_within loss (q + 1) (portion_count (suc more) portion (length r - off))) r i d w
ended more portion draws loss i d r off q w is short comes last one =
    let lost : lost_exchange_within loss (q + 1) (portion_count (suc more) portion (length r - off)) ≡ None
    = ap (λ b. lost_exchange_within loss (q + 1)
    (if b then 1 else suc (portion_count more portion (length r - off - portion))))
    one ∙ lost_later loss (q + 1) 0 is ∙ lost_nowhere loss (q + 1 + 1) in
    record {
      outcome_is = rw (comes, lost, last) refl;
      interface_is = rw (comes, lost, last) refl;
      device_is = rw comes refl;
      report_is = λ none. rw comes (taken_on off portion r ∙ take_all (off + portion) r short);
    }

-- one portion of several
later : (more portion draws : ℕ) (said : StreamSaid) (loss : Option Loss) (i : HostTdi) (d : DeviceTdis) (r : List ℕ)
    (off q : ℕ) (w : WalkedInterface)
    → lost_message loss (q + 1) ≡ None → nat_le (length r - off) portion ≡ false
    → Reads more portion draws said loss i d r (off + portion) (q + 1)
    → w ≡ interface_walk more portion draws said loss (at_portion i d (take (off + portion) r) (q + 1))
    → ReportIsRead (lost_exchange_within loss (q + 1) (portion_count (suc more) portion (length r - off))) r i d w
later more portion draws said loss i d r off q w is several rest comes =
    let left : length r - off - portion ≡ length r - (off + portion) = omega arith in
    let lost : lost_exchange_within loss (q + 1 + 1) (portion_count more portion (length r - (off + portion)))
    ≡ lost_exchange_within loss (q + 1) (portion_count (suc more) portion (length r - off))
    = sym (ap (λ b. lost_exchange_within loss (q + 1)
    (if b then 1 else suc (portion_count more portion (length r - off - portion)))) several
    ∙ lost_later loss (q + 1) (portion_count more portion (length r - off - portion)) is ∙ ap
    (λ k. lost_exchange_within loss (q + 1 + 1) (portion_count more portion k)) left) in
    subst (λ x. ReportIsRead (lost_exchange_within loss (q + 1) (portion_count (suc more) portion (length r - off))) r i
    d x)
    (sym comes)
    (subst (λ l. ReportIsRead l r i d
    (interface_walk more portion draws said loss (at_portion i d (take (off + portion) r) (q + 1)))) lost rest)

positive : (k : ℕ) → 1 ≤ k → (k == 0) ≡ false
positive k some = grind (arith, nat_tests)

-- a portion with a remainder goes on
goes_on : (more portion draws : ℕ) (said : StreamSaid) (loss : Option Loss) (i : HostTdi) (d : DeviceTdis)
    (r bytes : List ℕ) (q off : ℕ) → 1 ≤ behind r portion off
    → continued_walk (now_at draws None i d r bytes q portion off).outcome (now_at draws None i d r bytes q portion off)
    (interface_walk more portion draws said loss
    (walking_next step.Report (now_at draws None i d r bytes q portion off)))
    ≡ interface_walk more portion draws said loss (at_portion i d (bytes ++ part r portion off) (q + 1))
goes_on more portion draws said loss i d r bytes q off some = rw (positive (behind r portion off) some) refl

-- from the exchange that is lost, or not
reads_by : ExchangesAreDue → (more portion draws : ℕ) (said : StreamSaid) (loss : Option Loss) (i : HostTdi)
    (d : DeviceTdis) (n : NamedTdi) (lock : Lock) (off q : ℕ) (l : Option Lost) (b : Bool) (w : WalkedInterface)
    → Meets portion i d n → off < length (kept_report n.tdi.plan lock) → lost_message loss (q + 1) ≡ l
    → nat_le (length (kept_report n.tdi.plan lock) - off) portion ≡ b
    → w ≡ continued_walk (now_at draws l i d (kept_report n.tdi.plan lock) (take off (kept_report n.tdi.plan lock)) q
    portion
    off).outcome
    (now_at draws l i d (kept_report n.tdi.plan lock) (take off (kept_report n.tdi.plan lock)) q portion off)
    (interface_walk more portion draws said loss
    (walking_next step.Report
    (now_at draws l i d (kept_report n.tdi.plan lock) (take off (kept_report n.tdi.plan lock)) q portion off)))
    → (b ≡ false → Reads more portion draws said loss i d (kept_report n.tdi.plan lock) (off + portion) (q + 1))
    → ReportIsRead (lost_exchange_within loss (q + 1)
    (portion_count (suc more) portion (length (kept_report n.tdi.plan lock) - off))) (kept_report n.tdi.plan lock) i
    d w
reads_by due more portion draws said loss i d n lock off q (Some x) b w m lt is test comes rest = cut_short more
    portion draws loss i d (kept_report n.tdi.plan lock) off q x w is comes
reads_by due more portion draws said loss i d n lock off q None true w m lt is test comes rest =
    let r = kept_report n.tdi.plan lock in
    let few : length r - off ≤ portion = true-le (length r - off) portion test in
    let last : behind r portion off ≡ 0 = omega (arith, length-drop (off + portion) r) in
    let over : IsOver (now_at draws None i d r (take off r) q portion off).outcome = subst
    (λ k. IsOver (report_outcome (q + 1) (Portion (part r portion off) k))) (sym last) tt in
    ended more portion draws loss i d r off q w is (omega arith)
    (comes ∙ stops _ (now_at draws None i d r (take off r) q portion off) _ over) last test
reads_by due more portion draws said loss i d n lock off q None false w m lt is test comes rest =
    let r = kept_report n.tdi.plan lock in
    let many : portion < length r - off = false-le (length r - off) portion test in
    let some : 1 ≤ behind r portion off = omega (arith, length-drop (off + portion) r) in
    later more portion draws said loss i d r off q w is test (rest refl)
    (comes ∙ goes_on more portion draws said loss i d r (take off r) q off some
    ∙ ap (λ bytes. interface_walk more portion draws said loss (at_portion i d bytes (q + 1)))
    (taken_on off portion r))

reads : ExchangesAreDue → (more portion draws : ℕ) (said : StreamSaid) (loss : Option Loss) (i : HostTdi)
    (d : DeviceTdis)
    (n : NamedTdi) (lock : Lock) (off q : ℕ)
    → Meets portion i d n → lock_of n.tdi.state ≡ Some lock → IsReport (kept_report n.tdi.plan lock)
    → off < length (kept_report n.tdi.plan lock) → length (kept_report n.tdi.plan lock) ≤ off + more
    → Reads more portion draws said loss i d (kept_report n.tdi.plan lock) off q
reads due zero portion draws said loss i d n lock off q m is report lt fuel = absurd (omega arith)
reads due (suc more) portion draws said loss i d n lock off q m is report lt fuel =
    let r = kept_report n.tdi.plan lock in
    let short = report.short in
    let least = m.portion_least in
    let long : length (take off r) ≡ off = omega (arith, length-take off r) in
    let now = once_stated due portion draws said loss n (at_portion i d (take off r) q) (omega arith) tt m
    ∙ once due portion draws said loss i d n lock off q (take off r) m is long lt (omega arith) in
    reads_by due more portion draws said loss i d n lock off q (lost_message loss (q + 1))
    (nat_le (length r - off) portion) _ m lt refl refl
    (goes more portion draws said loss (at_portion i d (take off r) q) _ now)
    (λ several.
    let many : portion < length r - off = false-le (length r - off) portion several in
    reads due more portion draws said loss i d n lock (off + portion) (q + 1) m is report (omega arith) (omega arith))

kept : (tdi : DeviceTdi) (lock : Option Lock) (l : Lock) → lock ≡ Some l
    → Rattle.std.specs.Prelude.IfSome lock (λ k. IsReport (kept_report tdi.plan k)) → IsReport (kept_report tdi.plan l)
kept tdi lock l is report = subst (λ o. Rattle.std.specs.Prelude.IfSome o (λ k. IsReport (kept_report tdi.plan k))) is
    report

pub reports_read : ExchangesAreDue → ReportsAreRead
reports_read due more portion draws said loss i d n lock m is fuel =
    let report = kept n.tdi (lock_of n.tdi.state) lock is m.report in
    let some = report.some in
    let whole : length (kept_report n.tdi.plan lock) - 0 ≡ length (kept_report n.tdi.plan lock) = omega arith in
    subst (λ k. ReportIsRead (lost_exchange_within loss 1 (portion_count more portion k)) (kept_report n.tdi.plan lock)
    i d
    (interface_walk more portion draws said loss (begun_walking op.Report i d))) whole
    (reads due more portion draws said loss i d n lock 0 0 m is report (omega arith) (omega arith))

-- ---- no report

refused_over : (tdi : DeviceTdi) (lock : Option Lock) (loss : Option Loss) (l : Option Lost) (off portion : ℕ) → lock
    ≡ None
    → IsOver (report_outcome 1
    (judgment_if_carried l (portion_due (portion_of (option_map (kept_report tdi.plan) lock) off portion))))
refused_over tdi lock loss None off portion is = subst
    (λ k. IsOver (report_outcome 1 (portion_due (portion_of (option_map (kept_report tdi.plan) k) off portion))))
    (sym is) tt
refused_over tdi lock loss (Some x) off portion is = tt

pub reports_refused : ExchangesAreDue → ReportsAreRefused
reports_refused due more portion draws said loss i d n m is =
    let now = stated_once portion draws said (lost_message loss 1) n (at_step step.Report i d) in
    goes more portion draws said loss (at_step step.Report i d) now
    (once_stated due portion draws said loss n (at_step step.Report i d) (omega arith) tt m)
    ∙ stops now.outcome now _ (refused_over n.tdi (lock_of n.tdi.state) loss (lost_message loss 1) 0 portion is)
