-- What a send of a TLP comes to: a send on the stream that takes it, or `plain`.
use Rattle.std.proofs.Common.{◌≡◌, ℕ, zero, suc, ◌<◌, ◌==◌, ◌&&◌, Bool, true, false, List, [], ◌∷◌, length}
use Rattle.std.proofs.Common.{Option, Some, None, Ok, slice_get, refl, ap, sym, ◌∙◌, inl, inr, ◌⊎◌}
use Rattle.std.proofs.Common.{arith}
use Rattle.std.specs.Prelude.{if◌then◌else◌}
use Rattle.std.proofs.lemmas.Bool.{true≢false, eqb-true, eq-eqb}
use Rattle.ide_types.specs.Ends.{hop_end, link_hop}
use Rattle.ide_types.specs.Fits.{FitsPlan}
use Rattle.ide_types.specs.Plans.{is_among}
use Rattle.ide_types.specs.declared.plan.HopPlan.{HopPlan}
use Rattle.ide_types.specs.declared.plan.LinkPlan.{LinkPlan}
use Rattle.ide_types.specs.declared.port.Side.{Side}
use Rattle.ide_types.specs.declared.port.Side.TheVariants.{Host, Device}
use Rattle.ide_types.specs.declared.stream.StreamPlan.{StreamPlan}
unfoldable use Rattle.tlp_layout.specs.Choice.{choice_of}
use Rattle.tlp_layout.specs.Choice.{chosen_stream}
use Rattle.tlp_layout.specs.Outgoing.{Outgoing, OnNone, OnStream, outgoing_as_read, outgoing_if_chosen}
unfoldable use Rattle.tlp_layout.specs.Outgoing.{outgoing_of}
use Rattle.spec_links.specs.Terms.{Plan, PortName, Send, Verdict, History, Tlp, header, read_of}
use Rattle.spec_links.specs.Plan.{streams_of}
use Rattle.spec_links.specs.Ports.{may_send, port_of, outgoing_at, takes_none, hop_lists}
unfoldable use Rattle.spec_links.specs.Ports.{sealing_end}
use Rattle.spec_links.specs.Due.{send_due, bytes_due}
unfoldable use Rattle.spec_links.specs.Due.{due}
use Rattle.spec_links.proofs.HopRows.{near_row, far_row}
use Rattle.law_hops.proofs.Sends.{lone_takes}
use Rattle.law_sending.specs.Choice.{IsInList, IsTakenByNone, IsListedByHop, GoesOnStream, GoesInClear}
use Rattle.law_sending.proofs.Taking.{some_at, any_from, taken, TakesIf}
use Rattle.event_verdicts.specs.declared.verdict.Verdict.TheVariants as v

-- ---- the hop

pub listed : (class : ℕ) (classes : List ℕ) → is_among class classes ≡ true → IsInList class classes
listed class classes is =
    let some = some_at (λ d. class == d) classes is in
    let same : class ≡ some.item = eqb-true class some.item some.passes in
    record { place = some.place; stands = some.stands ∙ ap (λ (n : ℕ). Some n) (sym same) }

pub is_listed : (class : ℕ) (classes : List ℕ) → IsInList class classes → is_among class classes ≡ true
is_listed class classes has = any_from (λ d. class == d) classes has.place class has.stands (eq-eqb class class refl)

-- a link with a hop is one of the plan's
pub hop_known : (links : List LinkPlan) (n : ℕ) (hop : HopPlan) → link_hop (slice_get links n) ≡ Some hop
    → n < length links
hop_known [] n hop is = absurd cc
hop_known (l ∷ links) zero hop is = omega arith
hop_known (l ∷ links) (suc n) hop is = let less = hop_known links n hop is in omega (arith, less)

pub hop_out : (plan : Plan) → FitsPlan plan → (side : Side) (link : ℕ) (hop : HopPlan) (bytes : List ℕ) (t : Tlp)
    → link_hop (slice_get plan.links link) ≡ Some hop → read_of bytes ≡ Ok t
    → outgoing_at plan (hop_end side link) bytes ≡ OnStream t hop.id
hop_out plan fits Host link hop bytes t is reads =
    let less = hop_known plan.links link hop is in
    let most = fits.links_most in
    ap (λ (ss : List StreamPlan). outgoing_of ss Host bytes) (near_row plan link hop (omega (arith, less, most)) is)
    ∙ lone_takes hop.id Host bytes t reads
hop_out plan fits Device link hop bytes t is reads =
    let less = hop_known plan.links link hop is in
    let most = fits.links_most in
    ap (λ (ss : List StreamPlan). outgoing_of ss Device bytes) (far_row plan link hop (omega (arith, less, most)) is)
    ∙ lone_takes hop.id Device bytes t reads

-- ---- what a send comes to

pub record ComesProtected (plan : Plan) (h : History) (end : PortName) (t : Tlp) (more trusted : Bool) (w : Verdict)
    : Type 0 where
  pub at : PortName
  pub stream : ℕ
  pub goes : GoesOnStream plan end (header t) at stream
  pub is : w ≡ send_due plan h at (OnStream t stream) more trusted

pub record ComesPlain (plan : Plan) (end : PortName) (t : Tlp) (w : Verdict) : Type 0 where
  pub goes : GoesInClear plan end (header t)
  pub is : w ≡ v.Plain (port_of plan end)

read_out : (streams : List StreamPlan) (side : Side) (bytes : List ℕ) (t : Tlp) (o : Option ℕ) → read_of bytes ≡ Ok t
    → chosen_stream (choice_of streams side (header t)) ≡ o
    → outgoing_of streams side bytes ≡ outgoing_if_chosen t o
unfolding outgoing_of
read_out streams side bytes t o reads is = ap (outgoing_as_read streams side) reads ∙ ap (outgoing_if_chosen t) is

pub sends : (plan : Plan) (h : History) (end : PortName) (bytes : List ℕ) (more trusted : Bool) (w : Verdict)
    → may_send plan end ≡ true → w ≡ due plan h (Send end bytes more trusted)
    → w ≡ bytes_due plan h (sealing_end plan end bytes) bytes more trusted
unfolding due
sends plan h end bytes more trusted w can is =
    is
    ∙ ap (λ (b : Bool). if b then bytes_due plan h (sealing_end plan end bytes) bytes more trusted else v.Nothing) can

own_end : (plan : Plan) (end : PortName) (bytes : List ℕ) (o : Outgoing) → outgoing_at plan end bytes ≡ o
    → takes_none o ≡ false → sealing_end plan end bytes ≡ end
unfolding sealing_end
own_end plan end bytes o out takes =
    ap (λ (p : Outgoing). if takes_none p && hop_lists (link_hop (slice_get plan.links end.line)) (read_of bytes)
    then hop_end end.side end.line else end) out
    ∙ ap (λ (b : Bool). if b && hop_lists (link_hop (slice_get plan.links end.line)) (read_of bytes)
    then hop_end end.side end.line else end) takes

by_hop : (plan : Plan) (end : PortName) (bytes : List ℕ) (b : Bool) → outgoing_at plan end bytes ≡ OnNone
    → hop_lists (link_hop (slice_get plan.links end.line)) (read_of bytes) ≡ b
    → sealing_end plan end bytes ≡ (if b then hop_end end.side end.line else end)
unfolding sealing_end
by_hop plan end bytes b out lists =
    ap (λ (p : Outgoing). if takes_none p && hop_lists (link_hop (slice_get plan.links end.line)) (read_of bytes)
    then hop_end end.side end.line else end) out
    ∙ ap (λ (c : Bool). if c then hop_end end.side end.line else end) lists

module _ (plan : Plan) (fits : FitsPlan plan) (h : History) (end : PortName) (bytes : List ℕ) (more trusted : Bool)
    (w : Verdict) (due_is : w ≡ bytes_due plan h (sealing_end plan end bytes) bytes more trusted) (t : Tlp)
    (reads : read_of bytes ≡ Ok t) where
  abbrev Comes : Type 0
  Comes = ComesProtected plan h end t more trusted w ⊎ ComesPlain plan end t w

  hop_as_read : (o : Option HopPlan) → hop_lists o (read_of bytes) ≡ hop_lists o (Ok t)
  hop_as_read o = ap (hop_lists o) reads

  in_clear : (o : Option HopPlan) → link_hop (slice_get plan.links end.line) ≡ o → hop_lists o (Ok t) ≡ false
      → outgoing_at plan end bytes ≡ OnNone → IsTakenByNone (streams_of plan end.line) end.side (header t) → Comes
  in_clear o is unlisted out none =
      let lists : hop_lists (link_hop (slice_get plan.links end.line)) (read_of bytes) ≡ false =
      ap (λ (p : Option HopPlan). hop_lists p (read_of bytes)) is ∙ (hop_as_read o ∙ unlisted) in
      let at = by_hop plan end bytes false out lists in
      inr (record {
        goes = record { none = none; unlisted = λ stream has. listed_not o is unlisted stream has };
        is = due_is ∙ (ap (λ (e : PortName). bytes_due plan h e bytes more trusted) at
            ∙ ap (λ (p : Outgoing). send_due plan h end p more trusted) out);
      })
    where
      listed_not : (o : Option HopPlan) → link_hop (slice_get plan.links end.line) ≡ o → hop_lists o (Ok t) ≡ false
          → (stream : ℕ) → IsListedByHop plan end.line (header t).lead.tc stream → ⊥
      listed_not o is unlisted stream has =
          let same : Some has.hop ≡ o = sym has.is ∙ is in
          let lists : hop_lists (Some has.hop) (Ok t) ≡ true =
          is_listed (header t).lead.tc has.hop.classes has.lists in
          true≢false (sym lists ∙ (ap (λ (p : Option HopPlan). hop_lists p (Ok t)) same ∙ unlisted))

  on_hop : (hop : HopPlan) → link_hop (slice_get plan.links end.line) ≡ Some hop
      → hop_lists (Some hop) (Ok t) ≡ true → outgoing_at plan end bytes ≡ OnNone
      → IsTakenByNone (streams_of plan end.line) end.side (header t) → Comes
  on_hop hop is lists out none =
      let yields : hop_lists (link_hop (slice_get plan.links end.line)) (read_of bytes) ≡ true =
      ap (λ (p : Option HopPlan). hop_lists p (read_of bytes)) is ∙ (hop_as_read (Some hop) ∙ lists) in
      let at = by_hop plan end bytes true out yields in
      inl (record {
        at = hop_end end.side end.line;
        stream = hop.id;
        goes = inr (record {
          at_hop = refl;
          none = none;
          lists = record {
            hop = hop;
            is = is;
            lists = listed (header t).lead.tc hop.classes lists;
            id = refl;
          };
        });
        is = due_is ∙ (ap (λ (e : PortName). bytes_due plan h e bytes more trusted) at
            ∙ ap (λ (p : Outgoing). send_due plan h (hop_end end.side end.line) p more trusted)
            (hop_out plan fits end.side end.line hop bytes t is reads));
      })

  by_lists : (hop : HopPlan) → link_hop (slice_get plan.links end.line) ≡ Some hop → (b : Bool)
      → hop_lists (Some hop) (Ok t) ≡ b → outgoing_at plan end bytes ≡ OnNone
      → IsTakenByNone (streams_of plan end.line) end.side (header t) → Comes
  by_lists hop is true lists out none = on_hop hop is lists out none
  by_lists hop is false lists out none = in_clear (Some hop) is lists out none

  by_hop_of : (o : Option HopPlan) → link_hop (slice_get plan.links end.line) ≡ o
      → outgoing_at plan end bytes ≡ OnNone → IsTakenByNone (streams_of plan end.line) end.side (header t) → Comes
  by_hop_of None is out none = in_clear None is refl out none
  by_hop_of (Some hop) is out none = by_lists hop is (hop_lists (Some hop) (Ok t)) refl out none

  by_chosen : (o : Option ℕ) → chosen_stream (choice_of (streams_of plan end.line) end.side (header t)) ≡ o
      → TakesIf (streams_of plan end.line) end.side (header t) o → Comes
  by_chosen (Some id) is takes =
      let out = read_out (streams_of plan end.line) end.side bytes t (Some id) reads is in
      let at = own_end plan end bytes (OnStream t id) out refl in
      inl (record {
        at = end;
        stream = id;
        goes = inl (refl, takes);
        is = due_is ∙ (ap (λ (e : PortName). bytes_due plan h e bytes more trusted) at
            ∙ ap (λ (p : Outgoing). send_due plan h end p more trusted) out);
      })
  by_chosen None is takes =
      by_hop_of (link_hop (slice_get plan.links end.line)) refl
      (read_out (streams_of plan end.line) end.side bytes t None reads is) takes

  pub way_out : Comes
  way_out = by_chosen (chosen_stream (choice_of (streams_of plan end.line) end.side (header t))) refl
      (taken (streams_of plan end.line) end.side (header t))
