-- What bytes that are sent come to at an end.
use Rattle.std.proofs.Common.{◌≡◌, ℕ, ◌||◌, Bool, List, [], ◌∷◌, length, refl, ap, arith, inl, inr, sym, subst, Option}
use Rattle.std.proofs.Common.{Some, None, Result, Ok, Err}
use Rattle.std.proofs.lemmas.Bool.{cases_Bool}
use Rattle.std.proofs.lemmas.Bool.Decides.{nat_tests}
use Rattle.std.proofs.lemmas.Option.{none-some, same_Some}
use Rattle.std.specs.Prelude.{true, false, is_some, nat_lt}
use Rattle.ide_types.specs.declared.port.PortName.{PortName}
use Rattle.ide_types.specs.declared.port.Side.{Side}
use Rattle.ide_types.specs.declared.plan.Plan.{Plan}
use Rattle.ide_types.specs.declared.stream.StreamPlan.{StreamPlan}
use Rattle.tlp_layout.specs.Choice.{choice_of, chosen_stream}
use Rattle.tlp_layout.specs.Outgoing.{Outgoing, NoTlp, OnNone, OnStream, outgoing_as_read, outgoing_if_chosen}
use Rattle.tlp_layout.specs.Outgoing.{stream_taken}
unfoldable use Rattle.tlp_layout.specs.Outgoing.{outgoing_of}
use Rattle.spec_links.specs.Plan.{has_link, has_port, streams_of}
use Rattle.spec_links.specs.Ports.{outgoing_at}
use Rattle.tlp_layout.specs.Reading.{read_of}
use Rattle.tlp_layout.specs.Tlp.{header}
use Rattle.tlp_layout.specs.declared.fault.TlpFault.{TlpFault}
use Rattle.tlp_layout.specs.declared.tlp.Tlp.{Tlp}
use Rattle.why_facts.specs.Forms.{at_port}
use Rattle.world.specs.{AreLinks, WholeLinks, port_on}
use Rattle.world.proofs.{ends_there}
use Rattle.ide_why.specs.Facts.{sending_facts, stream_sends}
use Rattle.ide_why.specs.Reading.{stream_read}

-- a TLP that takes a stream
on_chosen : (t u : Tlp) (o : Option ℕ) (stream : ℕ) → t ≡ u → Some stream ≡ stream_taken (outgoing_if_chosen t o)
    → outgoing_if_chosen t o ≡ OnStream u stream
on_chosen t u None stream same is = absurd (none-some stream (sym is))
on_chosen t u (Some n) stream same is = (λ i. OnStream (same i) (same_Some n stream (sym is) i))

on_read : (streams : List StreamPlan) (side : Side) (r : Result Tlp TlpFault) (u : Tlp) (stream : ℕ) → r ≡ Ok u
    → Some stream ≡ stream_taken (outgoing_as_read streams side r) → outgoing_as_read streams side r ≡ OnStream u stream
on_read streams side (Err f) u stream ok is = absurd (none-some stream (sym is))
on_read streams side (Ok t) u stream ok is =
    let same : t ≡ u = cc in
    on_chosen t u (chosen_stream (choice_of streams side (header t))) stream same is

plain_lines : (plan : Plan) (s : WholeLinks) (end : PortName) (out : Outgoing) → None ≡ stream_taken out
    → at_port plan end ∷ [] ≡ sending_facts plan s end out
plain_lines plan s end (NoTlp f) is = refl
plain_lines plan s end OnNone is = refl
plain_lines plan s end (OnStream t stream) is = absurd (none-some stream is)

module _ (plan : Plan) (s : WholeLinks) (end : PortName) (bytes : List ℕ) where
  pub sent_plain : None ≡ stream_taken (outgoing_at plan end bytes)
      → at_port plan end ∷ [] ≡ sending_facts plan s end (outgoing_at plan end bytes)
  sent_plain is = plain_lines plan s end (outgoing_at plan end bytes) is

  pub sent_no_tlp : (f : TlpFault) → read_of bytes ≡ Err f
      → at_port plan end ∷ [] ≡ sending_facts plan s end (outgoing_at plan end bytes)
  unfolding outgoing_of
  sent_no_tlp f is = rw is refl

  pub sent_on : (t : Tlp) (stream : ℕ) → read_of bytes ≡ Ok t → Some stream ≡ stream_taken (outgoing_at plan end bytes)
      → stream_sends plan s end stream (header t) (stream_read plan s end stream)
      ≡ sending_facts plan s end (outgoing_at plan end bytes)
  unfolding outgoing_of
  sent_on t stream ok is = sym (ap (sending_facts plan s end) (on_read _ _ (read_of bytes) t stream ok is))

  -- an end of the topology is there
  pub end_there : AreLinks plan s.links.ends s.links.keeper.keys → has_port plan end ≡ true
      → None ≡ port_on s.links.ends end → ⊥
  end_there links has none =
      let some = ends_there plan s.links.ends s.links.keeper.keys links end has in
      let no : false ≡ true = subst (λ o. is_some o ≡ true) (sym none) some in absurd cc

-- an end that is not there has no streams
module _ (plan : Plan) (s : WholeLinks) (end : PortName) where
  empty : (streams : List StreamPlan) → nat_lt 0 (length streams) ≡ false → streams ≡ []
  empty [] few = refl
  empty (x ∷ xs) few = let none : length (x ∷ xs) ≡ 0 = grind (arith, nat_tests, few) in absurd (omega (arith, none))

  second_of : (a b : Bool) → (a || b) ≡ false → b ≡ false
  second_of a b is = grind arith

  pub none_there : AreLinks plan s.links.ends s.links.keeper.keys → None ≡ port_on s.links.ends end
      → streams_of plan end.line ≡ []
  none_there links none = elim (cases_Bool (has_port plan end)) [
    | inl has ↦ absurd (end_there plan s end [] links has none)
    | inr lacks ↦
        empty (streams_of plan end.line)
        (second_of (has_link plan end.line) (nat_lt 0 (length (streams_of plan end.line))) lacks)
  ]
