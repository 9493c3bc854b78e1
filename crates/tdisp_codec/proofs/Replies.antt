-- Bytes spell a reply exactly if they are read as it, and go off where the reader says.
use Rattle.std.proofs.Common.{◌≡◌, ℕ, ◌+◌, ◌^◌, ◌<◌, ◌≤◌, true, List, [], ◌∷◌, ◌++◌, length, get_or, take, drop, refl}
use Rattle.std.proofs.Common.{sym, ap, ◌∙◌, arith, length-append, length-drop, get_or-drop, take_at}
use Rattle.std.proofs.lemmas.Bool.Decides.{nat_tests}
use Rattle.std.specs.Prelude.{◌⊎◌, All}
use Rattle.std.proofs.lemmas.Bool.{ne_eqb}
use Rattle.std.proofs.lemmas.List.{drop_at}
use Rattle.byteorder.specs.Endian.{little_bytes, little_number}
use Rattle.byteorder.specs.Numbers.{little_number-reads_back}
use Rattle.ide_types.proofs.Cells.{IsBytes, cells}
use Rattle.tdisp_codec.specs.Messages.{IsIgnored}
use Rattle.tdisp_codec.specs.Replies.{Reply, Version, Capabilities, LockInterface, DeviceInterfaceReport}
use Rattle.tdisp_codec.specs.Replies.{DeviceInterfaceState, StartInterface, StopInterface, BindP2p, UnbindP2p, Error}
use Rattle.tdisp_codec.specs.Replies.{reply_type, reply_function, reply_reserved, reply_body, reply_spelling}
use Rattle.tdisp_codec.specs.Replies.{IsCountedReply}
use Rattle.tdisp_codec.specs.Replies.{FitsReplyBody, FitsReply, SpellsReply, is_reply, reply_size, typed_reply}
use Rattle.tdisp_codec.proofs.Octets.{octets, joins, leads, at_value, take_long, nonce_fits, IsByte, list_cells}
use Rattle.tdisp_codec.proofs.Octets.{drop_split_cells, take_cells, drop_octets, all_of, number_2, number_4, below_2}
use Rattle.tdisp_codec.proofs.Octets.{below_4, two_bytes, four_bytes, no_bytes, ignored_bytes, zeros, same_2}
use Rattle.tdisp_codec.proofs.Messages.{SaysItsSize, Messages, IsWritten, IsBack, IsCodec}

-- ---- from a reply to its body, and back

abbrev replies : Messages Reply
replies = record {
  Fits = λ r. IsCountedReply r × FitsReplyBody r;
  type_of = reply_type;
  function_of = reply_function;
  reserved_of = reply_reserved;
  body_of = reply_body;
  known = is_reply;
  body_size = reply_size;
  from = typed_reply;
}

abbrev limits : ℕ → List ℕ → ℕ → ℕ → ℕ → List ℕ
limits lock_flags x width this all = little_bytes 2 lock_flags ++ (x ++ (width ∷ this ∷ all ∷ []))

-- each list is written out to its length, so each field is computed at its place
capabilities_again : (function device lock_flags width this all : ℕ) (requests x : List ℕ) → device < 2 ^ 32
    → length requests ≡ 16 → lock_flags < 2 ^ 16 → length x ≡ 3
    → typed_reply 0x02 function (little_bytes 4 device ++ (requests ++ limits lock_flags x width this all))
    ≡ Capabilities function device requests lock_flags width this all
capabilities_again function device lock_flags width this all requests x d long l three =
    let y = cells 3 0 x in
    let rest = limits lock_flags y width this all in
    let body = little_bytes 4 device ++ (requests ++ rest) in
    let a : little_number 4 body ≡ device = little_number-reads_back 4 device (requests ++ rest) d in
    let b : take 16 (drop 4 body) ≡ requests = take_at requests rest 16 long in
    let c : drop 20 body ≡ rest = drop_at requests rest 16 long in
    let e : little_number 2 rest ≡ lock_flags = little_number-reads_back 2 lock_flags (y ++ (width ∷ this ∷ all ∷ [])) l
    in
    let one : x ≡ y = list_cells 3 x three in
    rw one (cc)

-- reply by reply: the body as it is written has the length that is read of it, and gives the fields back
written : (r : Reply) (x : IsIgnored (reply_reserved r)) → IsCountedReply r → FitsReplyBody r
    → IsWritten replies r (reply_body r x.bytes)
written (Version function versions) x c f = record
    { known = refl; octets = leads (length versions) c (octets versions f); size = omega arith; again = refl }
written (Capabilities function device requests lock_flags width this all) x c f = record {
  known = refl;
  octets = joins (four_bytes device) (joins (octets requests f.2)
      (joins (two_bytes lock_flags)
      (joins (octets x.bytes x.octets) (leads width f.4 (leads this f.5 (leads all f.6 no_bytes))))));
  size = omega (
    arith,
    f.1,
    x.long,
    length-append requests (limits lock_flags x.bytes width this all),
    length-append
        x.bytes (width ∷ this ∷ all ∷ []),
  );
  again = capabilities_again function device lock_flags width this all requests x.bytes f.0 f.1 f.3 x.long;
}
written (LockInterface function nonce) x c f = record {
  known = refl;
  octets = octets nonce f.1;
  size = f.0;
  again = ap (LockInterface function) (take_long 32 nonce f.0);
}
written (DeviceInterfaceReport function remainder portion) x c f = record {
  known = refl;
  octets = joins (two_bytes (length portion)) (joins (two_bytes remainder) (octets portion f.1));
  size = let e = little_number-reads_back 2 (length portion) (little_bytes 2 remainder ++ portion) c in omega
      (arith, e);
  again = cc (little_number-reads_back 2 remainder portion f.0);
}
written (DeviceInterfaceState function state) x c f = record
    { known = refl; octets = leads state f no_bytes; size = refl; again = refl }
written (StartInterface function) x c f = record { known = refl; octets = no_bytes; size = refl; again = refl }
written (StopInterface function) x c f = record { known = refl; octets = no_bytes; size = refl; again = refl }
written (BindP2p function) x c f = record { known = refl; octets = no_bytes; size = refl; again = refl }
written (UnbindP2p function) x c f = record { known = refl; octets = no_bytes; size = refl; again = refl }
written (Error function code value) x c f = record {
  known = refl;
  octets = joins (four_bytes code) (four_bytes value);
  size = refl;
  again = cc (little_number-reads_back 4 code (little_bytes 4 value) f.0, little_number-reads_back 4 value [] f.1);
}

abbrev Back : ℕ → ℕ → List ℕ → Type 0
Back type function body = IsBack replies type function body (typed_reply type function body)

-- its fields stand at fixed places, so the 28 bytes are cut there
capabilities_back : (function : ℕ) (b : List ℕ) → IsBytes b → length b ≡ 28 → Back 0x02 function b
capabilities_back function b f long =
    let x4 = number_4 0 b f in
    let x2 = number_2 20 b f in
    let e5 = get_or-drop 20 b 5 0 in
    let e6 = get_or-drop 20 b 6 0 in
    let e7 = get_or-drop 20 b 7 0 in
    let r : take 16 (drop 4 b) ≡ cells 16 4 b = take_cells 16 4 b (omega arith) in
    let some : All IsByte (take 16 (drop 4 b)) = rw r (ignored_bytes 16 4 b f).octets in
    let whole : cells 28 0 b ≡ reply_body (typed_reply 0x02 function b) (cells 3 22 b) = rw r (cc) in
    record {
      fits = (
        tt,
        (
          below_4 0 b f,
          ap length r,
          some,
          below_2 20 b f,
          drop_octets 20 b f 5,
          drop_octets 20 b f 6,
          drop_octets 20 b f 7,
        ),
      );
      reserved = ignored_bytes 3 22 b f;
      type_is = refl;
      function_is = refl;
      body_is = list_cells 28 b long ∙ whole;
    }

-- the count stands in the first byte, or in the first two, and what follows is the list
version_back : (function : ℕ) (b : List ℕ) → IsBytes b → length b ≡ 1 + get_or b 0 0 → Back 0x01 function b
version_back function b f long =
    let small = f 0 in
    let count : length (drop 1 b) ≡ get_or b 0 0 = omega (arith, length-drop 1 b) in
    record {
      fits = (omega arith, all_of (drop 1 b) (drop_octets 1 b f));
      reserved = zeros 0;
      type_is = refl;
      function_is = refl;
      body_is = rw count (drop_split_cells 1 0 b (omega arith));
    }

portion_back : (function : ℕ) (b : List ℕ) → IsBytes b → length b ≡ 4 + little_number 2 b → Back 0x04 function b
portion_back function b f long =
    let small = below_2 0 b f in
    let count : length (drop 4 b) ≡ little_number 2 b = omega (arith, length-drop 4 b) in
    let whole : cells 4 0 b ++ drop 4 b ≡ reply_body (typed_reply 0x04 function b) [] = rw count
    (cc (number_2 0 b f, number_2 2 b f)) in
    record {
      fits = (omega arith, (below_2 2 b f, all_of (drop 4 b) (drop_octets 4 b f)));
      reserved = zeros 0;
      type_is = refl;
      function_is = refl;
      body_is = drop_split_cells 4 0 b (omega arith) ∙ whole;
    }

reply_among : (type : ℕ) → is_reply type ≡ true → (1 ≤ type) × (type ≤ 0x7f) × ((type ≤ 9) ⊎ (type ≡ 0x7f))
reply_among type known = grind (arith, nat_tests)

-- type by type: a body of the length that the type asks for is the spelling of what is read of it
back : (type function : ℕ) (b : List ℕ) → is_reply type ≡ true → IsBytes b → length b ≡ reply_size type b
    → Back type function b
back type function b known f =
    let at = at_value (λ (t : ℕ). length b ≡ reply_size t b → Back t function b) type in
    at 0x01 (version_back function b f) (λ n1.
    at 0x02 (capabilities_back function b f) (λ n2.
    at 0x03 (λ long. record {
      fits = (tt, nonce_fits b f long);
      reserved = zeros 0;
      type_is = refl;
      function_is = refl;
      body_is = sym
          (take_long 32 b long);
    }) (λ n3.
    at 0x04 (portion_back function b f) (λ n4.
    at 0x05 (λ long. record
    { fits = (tt, f 0); reserved = zeros 0; type_is = refl; function_is = refl; body_is = list_cells 1 b long })
    (λ n5.
    at 0x06 (λ long. record
    { fits = (tt, tt); reserved = zeros 0; type_is = refl; function_is = refl; body_is = list_cells 0 b long })
    (λ n6.
    at 0x07 (λ long. record
    { fits = (tt, tt); reserved = zeros 0; type_is = refl; function_is = refl; body_is = list_cells 0 b long })
    (λ n7.
    at 0x08 (λ long. record
    { fits = (tt, tt); reserved = zeros 0; type_is = refl; function_is = refl; body_is = list_cells 0 b long })
    (λ n8.
    at 0x09 (λ long. record
    { fits = (tt, tt); reserved = zeros 0; type_is = refl; function_is = refl; body_is = list_cells 0 b long })
    (λ n9.
    at 0x7f (λ long.
    record {
      fits = (tt, (below_4 0 b f, below_4 4 b f));
      reserved = zeros 0;
      type_is = refl;
      function_is = refl;
      body_is = list_cells 8 b long ∙ cc (number_4 0 b f, number_4 4 b f);
    }) (λ n10.
    let among = reply_among type known in absurd (omega arith)))))))))))

-- the length of a body is said by its first bytes
says : SaysItsSize reply_size
says type b c =
    let at = at_value (λ (t : ℕ). ((i : ℕ) → i < reply_size t b → get_or b i 0 ≡ get_or c i 0) → reply_size t b
    ≡ reply_size t c) type in
    at 0x01 (λ a. ap (λ (n : ℕ). 1 + n) (a 0 (omega arith))) (λ n1.
    at 0x04 (λ a. ap (λ (n : ℕ). 4 + n) (same_2 b c (a 0 (omega arith)) (a 1 (omega arith)))) (λ n4 a.
    rw (ne_eqb type 1 n1, ne_eqb type 4 n4) refl))

-- ---- the grammar

pub codec : IsCodec replies SpellsReply
codec = record {
  one = 1;
  one_known = refl;
  small = λ type known. let among = reply_among type known in omega arith;
  says = says;
  spelling = λ r s p. record
      { function = p.fits.0; fits = (p.fits.1, p.fits.2); reserved = p.reserved; message = p.message };
  spells = λ r s p. record { fits = (p.function, p.fits.0, p.fits.1); reserved = p.reserved; message = p.message };
  written = λ r x f. written r x f.0 f.1;
  back = back;
}

pub written_spells : (r : Reply) → FitsReply r → SpellsReply r (reply_spelling r)
written_spells r f = record {
  fits = f;
  reserved = zeros (reply_reserved r);
  message = record
      { first = zeros 2; second = zeros 8; spelled = refl };
}
