-- Bytes spell a request exactly if they are read as it, and go off where the reader says.
use Rattle.std.proofs.Common.{◌≡◌, ℕ, ◌≤◌, true, List, [], ◌∷◌, ◌++◌, length, get_or, refl, sym, ap, ◌∙◌, arith}
use Rattle.std.proofs.Common.{length-append}
use Rattle.std.proofs.lemmas.Bool.Decides.{nat_tests}
use Rattle.byteorder.specs.Endian.{little_bytes}
use Rattle.byteorder.specs.Numbers.{little_number-reads_back}
use Rattle.ide_types.proofs.Cells.{IsBytes, cells}
use Rattle.tdisp_codec.specs.declared.request.RequestView.{RequestView}
use Rattle.tdisp_codec.specs.declared.request.RequestView.TheVariants.{GetVersion, GetCapabilities, LockInterface}
use Rattle.tdisp_codec.specs.declared.request.RequestView.TheVariants.{GetDeviceInterfaceReport}
use Rattle.tdisp_codec.specs.declared.request.RequestView.TheVariants.{GetDeviceInterfaceState, StartInterface}
use Rattle.tdisp_codec.specs.declared.request.RequestView.TheVariants.{StopInterface, BindP2p, UnbindP2p}
use Rattle.tdisp_codec.specs.Messages.{IsIgnored}
use Rattle.tdisp_codec.specs.Requests.{request_type, request_function, request_reserved, request_body, request_spelling}
use Rattle.tdisp_codec.specs.Requests.{FitsRequestBody, FitsRequest, SpellsRequest, is_request, request_size}
use Rattle.tdisp_codec.specs.Requests.{typed_request}
use Rattle.tdisp_codec.proofs.Octets.{octets, joins, leads, at_value, take_long, nonce_fits, list_cells, all_of}
use Rattle.tdisp_codec.proofs.Octets.{number_2, number_8, below_2, below_8, two_bytes, eight_bytes, no_bytes}
use Rattle.tdisp_codec.proofs.Octets.{ignored_bytes, zeros}
use Rattle.tdisp_codec.proofs.Messages.{Messages, IsWritten, IsBack, IsCodec}

abbrev requests : Messages RequestView
requests = record {
  Fits = FitsRequestBody;
  type_of = request_type;
  function_of = request_function;
  reserved_of = request_reserved;
  body_of = request_body;
  known = is_request;
  body_size = λ type body. request_size type;
  from = typed_request;
}

-- ---- from a request to its body, and back

-- the reserved byte is written out, so each field is computed at its place
lock_again : (function flags stream offset mask : ℕ) (x : List ℕ)
    → FitsRequestBody (LockInterface function flags stream offset mask) → length x ≡ 1 → typed_request 0x83 function
    (little_bytes 2 flags ++ (stream ∷ (x ++ (little_bytes 8 offset ++ little_bytes 8 mask))))
    ≡ LockInterface function flags stream offset mask
lock_again function flags stream offset mask x f long =
    let one : x ≡ get_or x 0 0 ∷ [] = list_cells 1 x long in
    let a = little_number-reads_back 2 flags (stream ∷ (get_or x 0 0 ∷ (little_bytes 8 offset ++ little_bytes 8 mask)))
    f.0 in
    let b = little_number-reads_back 8 offset (little_bytes 8 mask) f.2 in
    let c = little_number-reads_back 8 mask [] f.3 in
    rw one (cc)

-- request by request: the body as it is written has the length of its type, and gives the fields back
written : (r : RequestView) (x : IsIgnored (request_reserved r)) → FitsRequestBody r
    → IsWritten requests r (request_body r x.bytes)
written (GetVersion function) x f = record { known = refl; octets = no_bytes; size = refl; again = refl }
written (GetCapabilities function) x f = record
    { known = refl; octets = octets x.bytes x.octets; size = x.long; again = refl }
written (LockInterface function flags stream offset mask) x f = record {
  known = refl;
  octets = joins (two_bytes flags)
      (leads stream f.1 (joins (octets x.bytes x.octets) (joins (eight_bytes offset) (eight_bytes mask))));
  size = omega (arith, x.long, length-append x.bytes (little_bytes 8 offset ++ little_bytes 8 mask));
  again = lock_again function flags stream offset mask x.bytes f x.long;
}
written (GetDeviceInterfaceReport function offset count) x f = record {
  known = refl;
  octets = joins (two_bytes offset) (two_bytes count);
  size = refl;
  again = cc (little_number-reads_back 2 offset (little_bytes 2 count) f.0, little_number-reads_back 2 count [] f.1);
}
written (GetDeviceInterfaceState function) x f = record { known = refl; octets = no_bytes; size = refl; again = refl }
written (StartInterface function nonce) x f = record {
  known = refl;
  octets = octets nonce f.1;
  size = f.0;
  again = ap (StartInterface function) (take_long 32 nonce f.0);
}
written (StopInterface function) x f = record { known = refl; octets = no_bytes; size = refl; again = refl }
written (BindP2p function stream) x f = record
    { known = refl; octets = leads stream f no_bytes; size = refl; again = refl }
written (UnbindP2p function stream) x f = record
    { known = refl; octets = leads stream f no_bytes; size = refl; again = refl }

abbrev Back : ℕ → ℕ → List ℕ → Type 0
Back type function body = IsBack requests type function body (typed_request type function body)

lock_back : (function : ℕ) (b : List ℕ) → IsBytes b → length b ≡ 20 → Back 0x83 function b
lock_back function b f long =
    let x2 = number_2 0 b f in
    let x8 = number_8 4 b f in
    let y8 = number_8 12 b f in
    let lock = typed_request 0x83 function b in
    let whole : cells 20 0 b ≡ request_body lock (cells 1 3 b) = cc in
    record {
      fits = (below_2 0 b f, f 2, below_8 4 b f, below_8 12 b f);
      reserved = ignored_bytes 1 3 b f;
      type_is = refl;
      function_is = refl;
      body_is = list_cells 20 b long ∙ whole;
    }

request_among : (type : ℕ) → is_request type ≡ true → (0x81 ≤ type) × (type ≤ 0x89)
request_among type known = grind (arith, nat_tests)

-- type by type: a body of the length of the type is the spelling of what is read of it
back : (type function : ℕ) (b : List ℕ) → is_request type ≡ true → IsBytes b → length b ≡ request_size type
    → Back type function b
back type function b known f =
    let at = at_value (λ (t : ℕ). length b ≡ request_size t → Back t function b) type in
    at 0x81 (λ long. record
    { fits = tt; reserved = zeros 0; type_is = refl; function_is = refl; body_is = list_cells 0 b long }) (λ n1.
    at 0x82 (λ long. record {
      fits = tt;
      reserved = record { bytes = b; long = long; octets = all_of b f };
      type_is = refl;
      function_is = refl;
      body_is = refl;
    }) (λ n2.
    at 0x83 (lock_back function b f) (λ n3.
    at 0x84 (λ long.
    record {
      fits = (below_2 0 b f, below_2 2 b f);
      reserved = zeros 0;
      type_is = refl;
      function_is = refl;
      body_is = list_cells 4 b long ∙ cc (number_2 0 b f, number_2 2 b f);
    }) (λ n4.
    at 0x85 (λ long. record
    { fits = tt; reserved = zeros 0; type_is = refl; function_is = refl; body_is = list_cells 0 b long }) (λ n5.
    at 0x86 (λ long. record {
      fits = (nonce_fits b f long);
      reserved = zeros 0;
      type_is = refl;
      function_is = refl;
      body_is = sym
          (take_long 32 b long);
    }) (λ n6.
    at 0x87 (λ long. record
    { fits = tt; reserved = zeros 0; type_is = refl; function_is = refl; body_is = list_cells 0 b long }) (λ n7.
    at 0x88 (λ long. record
    { fits = f 0; reserved = zeros 0; type_is = refl; function_is = refl; body_is = list_cells 1 b long }) (λ n8.
    at 0x89 (λ long. record
    { fits = f 0; reserved = zeros 0; type_is = refl; function_is = refl; body_is = list_cells 1 b long }) (λ n9.
    let small = request_among type known in absurd (omega arith))))))))))

-- ---- the grammar

pub codec : IsCodec requests SpellsRequest
codec = record {
  one = 0x81;
  one_known = refl;
  small = λ type known. let range = request_among type known in omega arith;
  says = λ type b c agree. refl;
  spelling = λ r s p. record { function = p.fits.0; fits = p.fits.1; reserved = p.reserved; message = p.message };
  spells = λ r s p. record { fits = (p.function, p.fits); reserved = p.reserved; message = p.message };
  written = written;
  back = back;
}

pub written_spells : (r : RequestView) → FitsRequest r → SpellsRequest r (request_spelling r)
written_spells r f = record {
  fits = f;
  reserved = zeros (request_reserved r);
  message = record
      { first = zeros 2; second = zeros 8; spelled = refl };
}
