-- What is read of a completion's bytes is a completion, by its completer: no other TLP begins with the byte 4Ah.
use Rattle.law_sealing.proofs.Terms.{◌≡◌, ℕ, ◌+◌, ◌*◌, ◌<◌, Bool, List, ◌∷◌, Ok, refl, ap, sym, ◌∙◌, arith, subst, ◌++◌}
use Rattle.law_sealing.proofs.Terms.{Cpl, Tlp, header, class_of, read_of}
use Rattle.std.proofs.Common.{◌^◌, get_or}
use Rattle.std.specs.Int.{byte_at}
use Rattle.tlp_layout.proofs.Readings.{read_spells_tlp}
use Rattle.tlp_layout.specs.Numbers.{bit, routing_bits}
use Rattle.tlp_layout.specs.Head.{type_of, FitsFields, first_byte, lead_bytes, tag_of_fields, field_bytes}
use Rattle.tlp_layout.specs.Class.{layout_of, kind_of_layout, kind_class}
use Rattle.tlp_layout.specs.Tlp.{body}
use Rattle.tlp_layout.specs.declared.head.Fields.{Fields}
use Rattle.tlp_layout.specs.declared.head.Fields.TheVariants.{Memory, Config, Message, Completion}
use Rattle.tlp_layout.specs.declared.head.CompletionFields.{CompletionFields}
use Rattle.tlp_layout.specs.declared.head.Routing.{Routing}
use Rattle.trusted_memory.specs.declared.read.MemReadView.{MemReadView}
unfoldable use Rattle.trusted_memory.specs.Completions.{completion_bytes}

no_message : (r : Routing) (has wide : Bool) → 74 ≡ 64 * bit has + 32 * bit wide + (16 + routing_bits r) → ⊥
no_message r has wide is = grind arith

no_memory : (has wide : Bool) → 74 ≡ 64 * bit has + 32 * bit wide + 0 → ⊥
no_memory has wide is = grind arith

no_config : (has wide one : Bool) → 74 ≡ 64 * bit has + 32 * bit wide + (4 + bit one) → ⊥
no_config has wide one is = grind arith

-- the fields of one
record IsCompletion (fields : Fields) : Type 0 where
  of : CompletionFields
  is : fields ≡ Completion of

fields_by : (has wide : Bool) (fields : Fields) → 74 ≡ 64 * bit has + 32 * bit wide + type_of fields
    → IsCompletion fields
fields_by has wide (Memory f) is = absurd (no_memory has wide is)
fields_by has wide (Config f) is = absurd (no_config has wide f.one is)
fields_by has wide (Message f) is = absurd (no_message f.routing has wide is)
fields_by has wide (Completion f) is = record { of = f; is = refl }

fields_read : (completer : ℕ) (byte : ℕ → ℕ) (r : MemReadView) (t : Tlp)
    → read_of (completion_bytes completer byte r) ≡ Ok t → IsCompletion (header t).fields
unfolding completion_bytes
fields_read completer byte r t is = fields_by (header t).has_payload (header t).lead.wide (header t).fields
    (ap (λ (bs : List ℕ). get_or bs 0 0) ((read_spells_tlp t (completion_bytes completer byte r)).1 is).spelled)

pub completion_class : (completer : ℕ) (byte : ℕ → ℕ) (r : MemReadView) (t : Tlp)
    → read_of (completion_bytes completer byte r) ≡ Ok t → class_of (header t) ≡ Cpl
completion_class completer byte r t is =
    ap (λ (f : Fields). kind_class (kind_of_layout (layout_of f) (header t).has_payload))
    (fields_read completer byte r t is).is

-- ---- its completer

two_bytes : (m n : ℕ) → m < 2 ^ 16 → n < 2 ^ 16 → byte_at 1 m ≡ byte_at 1 n → byte_at 0 m ≡ byte_at 0 n → m ≡ n
two_bytes m n small less high low = omega (arith, small, less, high, low)

pub record IsBy (completer : ℕ) (t : Tlp) : Type 0 where
  pub fields : CompletionFields
  pub is : (header t).fields ≡ Completion fields
  pub completer_is : fields.completer ≡ completer

pub completion_by : (completer : ℕ) (byte : ℕ → ℕ) (r : MemReadView) (t : Tlp) → completer < 2 ^ 16
    → read_of (completion_bytes completer byte r) ≡ Ok t → IsBy completer t
unfolding completion_bytes
completion_by completer byte r t small is =
    let h = header t in
    let place : ℕ → Fields → ℕ =
    λ i k. get_or ((first_byte h ∷ (lead_bytes h.lead (tag_of_fields k) ++ field_bytes h.lead.wide k)) ++ body t) i 0 in
    let fields = fields_read completer byte r t is in
    let spells = (read_spells_tlp t (completion_bytes completer byte r)).1 is in
    let fits = subst (FitsFields h.lead) fields.is spells.fits.head.fields in
    let high : byte_at 1 completer ≡ byte_at 1 fields.of.completer =
    ap (λ (bs : List ℕ). get_or bs 4 0) spells.spelled ∙ ap (place 4) fields.is in
    let low : byte_at 0 completer ≡ byte_at 0 fields.of.completer =
    ap (λ (bs : List ℕ). get_or bs 5 0) spells.spelled ∙ ap (place 5) fields.is in
    record {
      fields = fields.of;
      is = fields.is;
      completer_is = sym (two_bytes completer fields.of.completer small fits.1 high low);
    }
