-- The header of a message, and where messages go off: of requests and of replies alike, a reader finds the message or
-- the place where the bytes go off. The 17 bytes of a header are written out one by one, so that each field stands at
-- its place; the tests of places 0, 1 and 2 are followed in their order, and then the length, which type and body say.
-- What else a kind of messages owes is about its bodies alone (`IsCodec`).
use Rattle.std.proofs.Common.{◌≡◌, ℕ, ◌+◌, ◌^◌, ◌<◌, ◌≤◌, Bool, true, cond, eqb, List, [], ◌∷◌, ◌++◌, length, get_or}
use Rattle.std.proofs.Common.{drop, None, refl, sym, ap, subst, ◌∙◌, inl, inr, arith, length-drop, get_or-drop}
use Rattle.std.proofs.lemmas.Bool.Decides.{nat_tests}
use Rattle.std.proofs.lemmas.Bool.{cases_lt, eq-eqb, ne_eqb, le-ltb, eqb-true}
use Rattle.byteorder.specs.Endian.{little_bytes}
use Rattle.byteorder.specs.Numbers.{little_number-reads_back}
use Rattle.ide_types.proofs.Cells.{IsBytes, cells}
use Rattle.tdisp_codec.specs.declared.fault.TdispFault.TheVariants.{Version, Kind}
use Rattle.tdisp_codec.specs.Messages.{IsIgnored, message_bytes, SpellsMessage, type_in, function_field, body_in}
use Rattle.tdisp_codec.specs.Messages.{message_fault, message_fault_at_place}
use Rattle.tdisp_codec.proofs.Octets.{no_bytes, AreOctets, are_bytes, octets, joins, leads, drop_split_cells}
use Rattle.tdisp_codec.proofs.Octets.{list_cells, number_4, below_4, drop_octets, four_bytes, ignored_bytes}
use Rattle.tdisp_codec.proofs.Shapes.{IsSized, IsShaped, Judged, judged_at, judged_length, IsReader}

-- what stands in the bytes of a message
pub record IsMessage (type function : ℕ) (body s : List ℕ) : Type 0 where
  pub protocol : get_or s 0 0 ≡ 1
  pub version : get_or s 1 0 ≡ 16
  pub type_is : type_in s ≡ type
  pub function_is : function_field s ≡ function
  pub body_is : body_in s ≡ body
  pub long : length s ≡ 17 + length body

-- the reserved bytes are written out one by one, so that each field is computed at its place
pub header_read : (type function : ℕ) (body s : List ℕ) → function < 2 ^ 32 → SpellsMessage type function body s
    → IsMessage type function body s
header_read type function body s fits p =
    let a = p.first.bytes in
    let b = p.second.bytes in
    let ea : a ≡ cells 2 0 a = list_cells 2 a p.first.long in
    let eb : b ≡ cells 8 0 b = list_cells 8 b p.second.long in
    let one : message_bytes a b type function body ≡ message_bytes (cells 2 0 a) b type function body = ap
    (λ (x : List ℕ). message_bytes x b type function body) ea in
    let two : message_bytes (cells 2 0 a) b type function body
    ≡ message_bytes (cells 2 0 a) (cells 8 0 b) type function body = ap
    (λ (x : List ℕ). message_bytes (cells 2 0 a) x type function body) eb in
    let back = little_number-reads_back 4 function (cells 8 0 b ++ body) fits in
    subst (IsMessage type function body) (sym (p.spelled ∙ one ∙ two))
    (record {
      protocol = refl;
      version = refl;
      type_is = refl;
      function_is = back;
      body_is = refl;
      long = omega
          arith;
    })

pub header_octets : (type function : ℕ) (body s : List ℕ) → type < 256 → AreOctets body
    → SpellsMessage type function body s → IsBytes s
header_octets type function body s lt all p =
    let first = octets p.first.bytes p.first.octets in
    let second = octets p.second.bytes p.second.octets in
    let whole = leads 1 (omega arith)
    (leads 16 (omega arith) (leads type lt (joins first (joins (four_bytes function) (joins second all))))) in
    rw p.spelled (are_bytes whole)

pub header_spells : (s : List ℕ) → IsBytes s → 17 ≤ length s → get_or s 0 0 ≡ 1 → get_or s 1 0 ≡ 16
    → SpellsMessage (type_in s) (function_field s) (body_in s) s
header_spells s f le e0 e1 =
    let x4 : little_bytes 4 (function_field s) ≡ cells 4 5 s = number_4 5 s f in
    let whole : cells 17 0 s ++ drop 17 s ≡ message_bytes (cells 2 3 s) (cells 8 9 s) (type_in s) (function_field s)
    (drop 17 s) = cc in
    record {
      first = ignored_bytes 2 3 s f;
      second = ignored_bytes 8 9 s f;
      spelled = drop_split_cells 17 0 s le ∙ whole;
    }

-- ---- the shape of messages, for requests and for replies

abbrev pub message_fits : (ℕ → Bool) → ℕ → ℕ → Bool
message_fits known place b = cond (eqb place 0) (eqb b 1)
    (cond (eqb place 1) (eqb b 16) (cond (eqb place 2) (known b) true))

abbrev pub message_size : (ℕ → List ℕ → ℕ) → List ℕ → ℕ
message_size body_size s = 17 + body_size (type_in s) (body_in s)

past_three : (known : ℕ → Bool) (i b : ℕ) → 3 ≤ i → message_fits known i b ≡ true
past_three known i b le = grind (arith, nat_tests)

right_all : (known : ℕ → Bool) (s : List ℕ) → get_or s 0 0 ≡ 1 → get_or s 1 0 ≡ 16 → known (get_or s 2 0) ≡ true
    → (i : ℕ) → message_fits known i (get_or s i 0) ≡ true
right_all known s e o k i = grind (arith, nat_tests)

-- the length of a body is said by bytes within it
abbrev pub SaysItsSize : (ℕ → List ℕ → ℕ) → Type 0
SaysItsSize body_size = (type : ℕ) (b c : List ℕ) → ((i : ℕ) → i < body_size type b → get_or b i 0 ≡ get_or c i 0)
    → body_size type b ≡ body_size type c

pub messages_sized : (known : ℕ → Bool) (body_size : ℕ → List ℕ → ℕ) (k : ℕ) → k < 256 → known k ≡ true
    → SaysItsSize body_size → IsSized (message_fits known) (1 ∷ 16 ∷ k ∷ []) (message_size body_size)
messages_sized known body_size k lt e says = record {
  octets = are_bytes (leads 1 (omega arith) (leads 16 (omega arith) (leads k lt no_bytes)));
  early = right_all known (1 ∷ 16 ∷ k ∷ []) refl refl e;
  more = λ s. omega arith;
  same = λ s t agree.
      let type : type_in s ≡ type_in t = agree 2 (omega arith) in
      let body : body_size (type_in s) (body_in s) ≡ body_size (type_in s) (body_in t) = says (type_in s) (body_in s)
      (body_in t) (λ i less. get_or-drop 17 s i 0 ∙ agree (17 + i) (omega arith) ∙ sym (get_or-drop 17 t i 0)) in
      let next : body_size (type_in s) (body_in t) ≡ body_size (type_in t) (body_in t) = ap
      (λ (n : ℕ). body_size n (body_in t)) type in
      omega arith;
}

-- by the tests of the reader, place by place, and then by the length
messages_judged : (known : ℕ → Bool) (body_size : ℕ → List ℕ → ℕ) (s : List ℕ) → IsBytes s
    → Judged (message_fits known) (message_size body_size) message_fault_at_place s
    (message_fault (known (type_in s)) (message_size body_size s) s)
messages_judged known body_size s octets =
    let at = judged_at (message_fits known) (message_size body_size) message_fault_at_place s in
    at 0 (Kind 0) _ (omega arith) (omega arith) (λ i lt. absurd (omega arith)) refl (λ more one.
    at 1 (Version 1) _ (omega arith) (omega arith) one refl (λ more two.
    at 2 (Kind 2) _ (omega arith) (omega arith) two refl (λ more three.
    judged_length (message_fits known) (message_size body_size) message_fault_at_place s octets
    (λ i lt. elim (cases_lt i 3) [ inl less ↦ three i less | inr past ↦ past_three known i _ past ])
    (rw (eq-eqb (length s) (length s) refl) refl)
    (λ lt. rw (
      ne_eqb (message_size body_size s) (length s) (λ e. omega arith),
      ne_eqb (message_size body_size s) 1 (λ e. omega arith),
      le-ltb (message_size body_size s) 3 (omega arith),
    ) refl))))

-- ---- from a message's fields to its shape, and back

same_message : (type type' function function' : ℕ) (body body' s : List ℕ) → type ≡ type' → function ≡ function'
    → body ≡ body' → SpellsMessage type function body s → SpellsMessage type' function' body' s
same_message type type' function function' body body' s e f g p = rw (← e, ← f, ← g) p

-- kinds of messages: their fields, and what is read of the bytes
pub record Messages (V : Type 0) : Type 1 where
  pub Fits : V → Type 0
  pub type_of : V → ℕ
  pub function_of : V → ℕ
  pub reserved_of : V → ℕ
  pub body_of : V → List ℕ → List ℕ
  pub known : ℕ → Bool
  pub body_size : ℕ → List ℕ → ℕ
  pub from : ℕ → ℕ → List ℕ → V

pub record IsSpelling {V : Type 0} (m : Messages V) (v : V) (s : List ℕ) : Type 0 where
  pub function : m.function_of v < 2 ^ 32
  pub fits : m.Fits v
  pub reserved : IsIgnored (m.reserved_of v)
  pub message : SpellsMessage (m.type_of v) (m.function_of v) (m.body_of v reserved.bytes) s

-- the body of a value as it is written, and read again
pub record IsWritten {V : Type 0} (m : Messages V) (v : V) (body : List ℕ) : Type 0 where
  pub known : m.known (m.type_of v) ≡ true
  pub octets : AreOctets body
  pub size : length body ≡ m.body_size (m.type_of v) body
  pub again : m.from (m.type_of v) (m.function_of v) body ≡ v

-- a body is that of the value that is read from it
pub record IsBack {V : Type 0} (m : Messages V) (type function : ℕ) (body : List ℕ) (v : V) : Type 0 where
  pub fits : m.Fits v
  pub reserved : IsIgnored (m.reserved_of v)
  pub type_is : type ≡ m.type_of v
  pub function_is : function ≡ m.function_of v
  pub body_is : body ≡ m.body_of v reserved.bytes

pub record IsCodec {V : Type 0} (m : Messages V) (Spells : V → List ℕ → Type 0) : Type 0 where
  pub one : ℕ
  pub one_known : m.known one ≡ true
  pub small : (type : ℕ) → m.known type ≡ true → type < 256
  pub says : SaysItsSize m.body_size
  pub spelling : (v : V) (s : List ℕ) → Spells v s → IsSpelling m v s
  pub spells : (v : V) (s : List ℕ) → IsSpelling m v s → Spells v s
  pub written : (v : V) (x : IsIgnored (m.reserved_of v)) → m.Fits v → IsWritten m v (m.body_of v x.bytes)
  pub back : (type function : ℕ) (b : List ℕ) → m.known type ≡ true → IsBytes b → length b ≡ m.body_size type b
      → IsBack m type function b (m.from type function b)

module _ {V : Type 0} {m : Messages V} {Spells : V → List ℕ → Type 0} (c : IsCodec m Spells) where
  -- what the header says of type, function and body fixes the length and the value
  message_shape : (v : V) (s : List ℕ) → Spells v s → IsShaped (message_fits m.known) (message_size m.body_size) s
      × (m.from (type_in s) (function_field s) (body_in s) ≡ v)
  message_shape v s spells =
      let p = c.spelling v s spells in
      let w = c.written v p.reserved p.fits in
      let h = header_read _ _ _ s p.function p.message in
      let type = h.type_is in
      let function = h.function_is in
      let body = h.body_is in (
        record {
          octets = header_octets _ _ _ s (c.small _ w.known) w.octets p.message;
          fitting = λ i lt. right_all m.known s h.protocol h.version (ap m.known type ∙ w.known) i;
          long = rw (type, body) (h.long ∙ ap (λ (n : ℕ). 17 + n) w.size);
        },
        rw (type, function, body) w.again,
      )

  message_spells : (s : List ℕ) → IsShaped (message_fits m.known) (message_size m.body_size) s
      → Spells (m.from (type_in s) (function_field s) (body_in s)) s
  message_spells s shape =
      let long = shape.long in
      let f = shape.octets in
      let protocol : get_or s 0 0 ≡ 1 = eqb-true _ _ (shape.fitting 0 (omega arith)) in
      let version : get_or s 1 0 ≡ 16 = eqb-true _ _ (shape.fitting 1 (omega arith)) in
      let b = c.back (type_in s) (function_field s) (body_in s) (shape.fitting 2 (omega arith)) (drop_octets 17 s f)
      (omega (arith, length-drop 17 s)) in
      c.spells _ s (record {
        function = subst (λ (n : ℕ). n < 2 ^ 32) b.function_is (below_4 5 s f);
        fits = b.fits;
        reserved = b.reserved;
        message = same_message _ _ _ _ _ _ s b.type_is b.function_is b.body_is
            (header_spells s f (omega arith) protocol version);
      })

  pub message_reader : IsReader Spells (λ s. m.from (type_in s) (function_field s) (body_in s)) (message_fits m.known)
      (message_size m.body_size) message_fault_at_place
      (λ s. message_fault (m.known (type_in s)) (message_size m.body_size s) s)
  message_reader = record {
    head = 1 ∷ 16 ∷ c.one ∷ [];
    sized = messages_sized m.known m.body_size c.one (c.small c.one c.one_known) c.one_known c.says;
    shape_of = message_shape;
    spells_of = message_spells;
    judged = messages_judged m.known m.body_size;
  }

-- bytes without a fault have the message's length
pub none_long : (known : Bool) (size : ℕ) (s : List ℕ) → message_fault known size s ≡ None → length s ≡ size
none_long known size s e = grind (arith, nat_tests)
