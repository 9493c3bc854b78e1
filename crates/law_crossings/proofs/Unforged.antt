-- If no tag of a sub-stream was forged under the draws that a segment was given since its link's last reset, none was
-- under any draw from the mark of that reset on: no other one was ever On there.
use Rattle.law_sealing.proofs.Terms.{◌≡◌, ℕ, ◌≤◌, false, [], ◌∷◌, Ok, refl, ap, sym, subst}
use Rattle.law_sealing.proofs.Terms.{arith, inl, inr, cases_Bool, AllByRecursion, Plan, History, Event, Verdict}
use Rattle.law_sealing.proofs.Terms.{PortName, SubKind, SubStream, CauseLaw, ArrivedBytes, Ending, before_tag}
use Rattle.law_sealing.proofs.Terms.{lane_in, received_in, receiving_sub_stream, key_in, port_keys, On}
unfoldable use Rattle.law_sealing.proofs.Terms.{arrival_of_event}
use Rattle.spec_links.proofs.Terms.{Reset, draws}
use Rattle.spec_links.proofs.Causes.{received_there}
use Rattle.spec_links.specs.Hops.{clears_hop}
unfoldable use Rattle.spec_links.specs.HopLaws.{draws_since}
use Rattle.spec_interfaces.proofs.Trusted.{draws_grow}
use Rattle.law_delivery.specs.NoForgeryUnder.{NoForgeryUnder, NotForgedUnder}
use Rattle.law_delivery.proofs.Closed.{all_map}
use Rattle.law_delivery.proofs.EachForgery.{passed_of}
use Rattle.law_delivery.proofs.Orders.{is_drawn}
use Rattle.law_hops.specs.LocalLaws.{NoForgerySince}
use Rattle.law_hops.proofs.Since.{IsSegment, on_since, on_begun}
unfoldable use Rattle.law_hops.proofs.Since.{mark}
use Rattle.law_hops.proofs.Crossing.{clears, older_since, mark_older}
use Rattle.event_verdicts.specs.declared.verdict.Verdict.TheVariants as v

-- no tag of a sub-stream that an end of a segment receives was forged under a draw from the last reset on
abbrev pub IsUnforged : Plan → History → ℕ → PortName → ℕ → SubKind → Type 0
IsUnforged plan h link q stream u = (j : ℕ) → mark h link ≤ j → NoForgeryUnder plan h (lane_in q stream u) j

pub older_unforged : (plan : Plan) (h : History) (e : Event) (w : Verdict) (link : ℕ) (q : PortName) (stream : ℕ)
    (u : SubKind) → clears w e link ≡ false → IsUnforged plan ((e, w) ∷ h) link q stream u
    → IsUnforged plan h link q stream u
older_unforged plan h e w link q stream u stays none j up =
    (none j (subst (λ (m : ℕ). m ≤ j) (sym (mark_older h e w link stays)) up)).1

-- the draw of a tag that is looked at is On there
on_before : (plan : Plan) (h : History) (a : ArrivedBytes) (x : Ending) → before_tag plan h a ≡ Ok x
    → key_in (port_keys h a.port (received_in a.port x.unit)) x.packet.prefix.k ≡ On x.unit.draw
on_before plan h a x is =
    let passed = passed_of plan h a x is in
    let s = receiving_sub_stream a.port x.packet in
    subst (λ (t : SubStream). key_in (port_keys h a.port t) x.packet.prefix.k ≡ On x.unit.draw)
    (sym (received_there plan h a.port x.packet x.unit passed))
    (is_drawn (key_in (port_keys h a.port s) x.packet.prefix.k) x.unit.draw passed.live)

none_begun : (plan : Plan) (h : History) (s : SubStream) (j : ℕ) → draws h ≤ j → NoForgeryUnder plan h s j
none_begun plan [] s j up = tt
none_begun plan ((e, w) ∷ h) s j up =
    let more = draws_grow h e w in
    let below : draws h ≤ j = omega (arith, up, more) in (
      λ a x came before same draw verified. absurd
          (let less = on_begun h a.port (received_in a.port x.unit) x.packet.prefix.k x.unit.draw
          (on_before plan h a x before) in
          omega (arith, less, draw, below)),
      none_begun plan h s j below,
    )

-- at a pair a tag under this draw is looked at only if the draw was given since then
at_pair : (plan : Plan) (h : History) (e : Event) (w : Verdict) → CauseLaw plan h → (link : ℕ) (q : PortName)
    (stream : ℕ) (u : SubKind) (j : ℕ) → IsSegment link q.line → (T : Type 0)
    → (T → NoForgeryUnder plan ((e, w) ∷ h) (lane_in q stream u) j)
    → AllByRecursion (λ (i : ℕ). i ≡ j → T) (draws_since h link q.line) → NotForgedUnder plan h e (lane_in q stream u) j
at_pair plan h e w cause link q stream u j segment T each all a x came before same draw verified =
    let line_is : q.line ≡ a.port.line = ap (λ (s : SubStream). s.line) (sym same) in
    let given = on_since (λ (i : ℕ). i ≡ j → T) plan h cause link a.port (received_in a.port x.unit)
    x.packet.prefix.k x.unit.draw refl (subst (IsSegment link) line_is segment)
    (subst (λ (n : ℕ). AllByRecursion (λ (i : ℕ). i ≡ j → T) (draws_since h link n)) line_is all)
    (on_before plan h a x before) in
    (each (given draw)).0 a x came before same draw verified

-- what follows of this draw, if it was given since then, tells of each pair
by_draws : (plan : Plan) (h : History) → CauseLaw plan h → (link : ℕ) (q : PortName) (stream : ℕ) (u : SubKind) (j : ℕ)
    → IsSegment link q.line → (T : Type 0) → (T → NoForgeryUnder plan h (lane_in q stream u) j)
    → AllByRecursion (λ (i : ℕ). i ≡ j → T) (draws_since h link q.line) → mark h link ≤ j
    → NoForgeryUnder plan h (lane_in q stream u) j
unfolding mark draws_since arrival_of_event
by_draws plan [] cause link q stream u j segment T each all up = tt
by_draws plan ((Reset k ends, v.Reset l) ∷ h) cause link q stream u j segment T each all up = (
  λ a x came. absurd cc,
  elim (cases_Bool (clears_hop ends link)) [
    | inl is ↦ none_begun plan h (lane_in q stream u) j (rw is at up)
    | inr stays ↦
        by_draws plan h cause.1 link q stream u j segment T (λ t. (each t).1) (rw stays at all) (rw stays at up)
  ],
)
by_draws plan ((e, v.Reset l) ∷ h) cause link q stream u j segment T each all up =
    let older = older_since (λ (i : ℕ). i ≡ j → T) h e (v.Reset l) link q.line refl all in (
      at_pair plan h e (v.Reset l) cause.1 link q stream u j segment T each older,
      by_draws plan h cause.1 link q stream u j segment T (λ t. (each t).1) older
          (subst (λ (m : ℕ). m ≤ j) (mark_older h e (v.Reset l) link refl) up),
    )
by_draws plan ((e, w) ∷ h) cause link q stream u j segment T each all up =
    let older = older_since (λ (i : ℕ). i ≡ j → T) h e w link q.line refl all in (
      at_pair plan h e w cause.1 link q stream u j segment T each older,
      by_draws plan h cause.1 link q stream u j segment T (λ t. (each t).1) older
          (subst (λ (m : ℕ). m ≤ j) (mark_older h e w link refl) up),
    )

pub unforged_since : (plan : Plan) (h : History) → CauseLaw plan h → (link : ℕ) (q : PortName) (stream : ℕ)
    (u : SubKind) → IsSegment link q.line → NoForgerySince plan h link q stream u → IsUnforged plan h link q stream u
unforged_since plan h cause link q stream u segment none j up =
    by_draws plan h cause link q stream u j segment (NoForgeryUnder plan h (lane_in q stream u) j) (λ t. t)
    (all_map (λ (i : ℕ). NoForgeryUnder plan h (lane_in q stream u) i)
    (λ (i : ℕ). i ≡ j → NoForgeryUnder plan h (lane_in q stream u) j) (draws_since h link q.line)
    (λ i t is. subst (NoForgeryUnder plan h (lane_in q stream u)) is t) none) up
