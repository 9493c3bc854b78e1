-- A memory write is posted; what a response seals with T is a completion, and so no write.
use Rattle.law_sealing.proofs.Terms.{◌≡◌, ◌∷◌, ℕ, Bool, true, false, List, Some, None, Result, Ok, inl, inr}
use Rattle.law_sealing.proofs.Terms.{SubKind, refl, ap, sym, ◌∙◌, if◌then◌else◌, cases_Bool, Plan, History, Sealed}
use Rattle.law_sealing.proofs.Terms.{SealedPacket, Packet, Pr, Cpl, CauseLaw, class_of, FitsPacket}
use Rattle.std.proofs.lemmas.Bool.{true≢false}
use Rattle.tlp_layout.specs.declared.head.HeadView.{HeadView}
use Rattle.tlp_layout.specs.declared.head.Fields.{Fields}
use Rattle.tlp_layout.specs.declared.head.Fields.TheVariants.{Memory, Config, Message, Completion}
use Rattle.tlp_layout.specs.declared.fault.TlpFault.{TlpFault}
use Rattle.tlp_layout.specs.Reading.{read_head_of}
use Rattle.tlp_layout.specs.Class.{layout_of, kind_of_layout, kind_class}
use Rattle.tlp_layout.proofs.Readings.{read_head_spells}
use Rattle.trusted_memory.specs.declared.span.Span.{Span}
use Rattle.trusted_memory.specs.Spans.{write_span, span_of_fields}
use Rattle.spec_links.proofs.Terms.{Access}
use Rattle.script_events.specs.declared.event.AccessEvent.TheVariants as ae
use Rattle.law_memory.proofs.Packets.{IsOf}
use Rattle.law_memory.proofs.Responses.{responded, response_class, response_packets, response_sending}
use Rattle.law_verdicts.proofs.{all_get}
use Rattle.law_bytes.proofs.SealedBy.{IsAmong}

-- ---- a write is posted

write_class : (head : HeadView) (s : Span) → write_span head ≡ Some s → class_of head ≡ Pr
write_class head s is = by head.has_payload head.lead.length head.fields is
  where
    by : (has : Bool) (n : ℕ) (fields : Fields) → (if has then span_of_fields n fields else None) ≡ Some s
        → kind_class (kind_of_layout (layout_of fields) has) ≡ Pr
    by true n (Memory f) is = refl
    by true n (Config f) is = absurd cc
    by true n (Message f) is = absurd cc
    by true n (Completion f) is = absurd cc
    by false n fields is = absurd cc

one_head : (r : Result HeadView TlpFault) (a b : HeadView) → r ≡ Ok a → r ≡ Ok b → a ≡ b
one_head r a b one two = cc (one, two)

-- so its sub-stream is the posted one
pub sub_posted : (p : Packet) → FitsPacket p → p.prefix.t ≡ true → (head : HeadView) → read_head_of p.head ≡ Ok head
    → (s : Span) → write_span head ≡ Some s → p.prefix.sub ≡ Pr
sub_posted p fits trusted head reads s writes = elim fits.carries [
  | inl carried ↦
      let again = (read_head_spells carried.head p.head).0 carried.spells in
      let same : carried.head ≡ head = one_head (read_head_of p.head) carried.head head again reads in
      sym carried.class ∙ (ap class_of same ∙ write_class head s writes)
  | inr sync ↦ absurd (true≢false (sym trusted ∙ sync.t))
]

-- ---- no response seals it

pub trusted_completes : (plan : Plan) (h : History) (link : ℕ) (ds : List SealedPacket) (d : SealedPacket)
    → CauseLaw plan ((Access (ae.Respond link), Sealed ds) ∷ h) → IsAmong ds d → d.t ≡ true → d.sub ≡ Cpl
trusted_completes plan h link ds d cause among trusted =
    let is = responded plan h link ds cause.0 in
    let of = all_get (IsOf (response_sending is.read.came is.tlp)) ds among.index d
    (response_packets plan h link ds is) among.listed in
    elim (cases_Bool d.sync) [
      | inl sync ↦ absurd (true≢false (sym trusted
          ∙ (of.t_is ∙ ap (λ (b : Bool). if b then false else is.read.came.trusted) sync)))
      | inr plain ↦ of.sub_is plain ∙ response_class plan h link ds cause.1 is
    ]

pub no_response : (plan : Plan) (h : History) (link : ℕ) (ds : List SealedPacket) (d : SealedPacket)
    → CauseLaw plan ((Access (ae.Respond link), Sealed ds) ∷ h) → IsAmong ds d → d.t ≡ true → (d.sub ≡ Cpl → ⊥)
    → ⊥
no_response plan h link ds d cause among trusted request =
    request (trusted_completes plan h link ds d cause among trusted)

pub not_completed : (u : SubKind) → u ≡ Pr → u ≡ Cpl → ⊥
not_completed u posted completes = apart (sym posted ∙ completes)
  where
    apart : Pr ≡ Cpl → ⊥
    apart is = absurd cc
