-- Keys that stand alike are the same, and each stands in printable ASCII.
use Rattle.std.proofs.Common.{◌≡◌, refl, sym, ap, subst, ◌∙◌, ℕ, ◌+◌, ◌-◌, ◌*◌, ◌/◌, ◌%◌, ◌<◌, ◌≤◌, ◌==◌, ◌||◌, nat_lt}
use Rattle.std.proofs.Common.{nat_le, Bool, true, false, not, cond, List, [], ◌∷◌, ◌++◌, append_assoc, length, flat_map}
use Rattle.std.proofs.Common.{codes, arith}
use Rattle.std.specs.Str.{chars, IsUtf8, encode_utf8_all}
use Rattle.std.proofs.Math.Utf8.{scalar, scalars as all_scalars, scalar_fits}
use Rattle.std.proofs.lemmas.Str.{scalars-chars, encodes-chars}
use Rattle.std.specs.List.{All, list_any}
use Rattle.std.proofs.lemmas.List.Elements.{All-nil, All-cons, All-append, All-from_recursion}
use Rattle.std.proofs.lemmas.Bool.{true≢false, and_parts, and_from, le-leb, eqb-true, ltb-true, ltb-false, lt-ltb}
use Rattle.std.proofs.lemmas.Bool.Decides.{nat_tests}
use Rattle.toml_walk.specs.Shown.{is_bare, is_bare_byte, is_quoted_byte, upper_digit, four_digits}
use Rattle.ide_types.specs.Names.{is_printable}
use Rattle.toml_walk.specs.Shown.{numbered_escape, shown_char, quoted_text, spelled_key}

-- ---- a reader of what is shown of characters

abbrev value_of_digit : ℕ → ℕ
value_of_digit d = cond (nat_lt d 58) (d - 48) (d - 55)

abbrev four : (ℕ → List ℕ → ℕ × List ℕ) → List ℕ → ℕ × List ℕ
four k (a ∷ b ∷ c ∷ d ∷ bs) = k
    (((value_of_digit a * 16 + value_of_digit b) * 16 + value_of_digit c) * 16 + value_of_digit d) bs
four k _ = (0, [])

abbrev named_escape : ℕ → ℕ
named_escape b = cond (b == 98) 8 (cond (b == 116) 9 (cond (b == 110) 10 (cond (b == 102) 12 (cond (b == 114) 13 b))))

abbrev escape : List ℕ → ℕ × List ℕ
escape [] = (0, [])
escape (b ∷ bs) = cond (b == 117) (four (λ n rest. (n, rest)) bs)
    (cond (b == 85) (four (λ m more. four (λ n rest. (m * 65536 + n, rest)) more) bs) (named_escape b, bs))

abbrev unshown : List ℕ → ℕ × List ℕ
unshown [] = (0, [])
unshown (b ∷ bs) = cond (b == 92) (escape bs) (b, bs)

digit_back : (e : ℕ) → e < 16 → value_of_digit (upper_digit e) ≡ e
digit_back e few = go (nat_lt e 10) refl
  where
    go : (b : Bool) → nat_lt e 10 ≡ b → value_of_digit (upper_digit e) ≡ e
    go true is =
        let small : e < 10 = ltb-true e 10 is in
        let test : nat_lt (48 + e) 58 ≡ true = lt-ltb (48 + e) 58 (omega (arith, small)) in
        rw (is, test) (omega arith)
    go false is =
        let great : 10 ≤ e = ltb-false e 10 is in
        let test : nat_lt (55 + e) 58 ≡ false = grind (arith, nat_tests) in
        rw (is, test) (omega arith)

four_back : (k : ℕ → List ℕ → ℕ × List ℕ) (n : ℕ) (x : List ℕ) → four k (four_digits n ++ x) ≡ k (n % 65536) x
four_back k n x =
    let a = digit_back (n / 4096 % 16) (omega arith) in
    let b = digit_back (n / 256 % 16) (omega arith) in
    let c = digit_back (n / 16 % 16) (omega arith) in
    let d = digit_back (n % 16) (omega arith) in
    let whole : ((n / 4096 % 16 * 16 + n / 256 % 16) * 16 + n / 16 % 16) * 16 + n % 16 ≡ n % 65536 = omega arith in
    rw (a, b, c, d, whole) refl

-- a character is read back from what is shown of it
numbered_back : (b : Bool) (c : ℕ) (x : List ℕ) → c < 4294967296 → nat_lt c 65536 ≡ b → unshown (numbered_escape c ++ x)
    ≡ (c, x)
numbered_back true c x few is =
    let small : c < 65536 = ltb-true c 65536 is in
    let same : c % 65536 ≡ c = omega (arith, small) in
    rw is (four_back (λ n rest. (n, rest)) c x ∙ rw same refl)
numbered_back false c x few is =
    let high : c / 65536 % 65536 ≡ c / 65536 = omega (arith, few) in
    let whole : c / 65536 * 65536 + c % 65536 ≡ c = omega arith in
    let inner : four (λ m more. four (λ n rest. (m * 65536 + n, rest)) more)
    (four_digits (c / 65536) ++ (four_digits c ++ x)) ≡ four (λ n rest. (c / 65536 % 65536 * 65536 + n, rest))
    (four_digits c ++ x)
    = four_back (λ m more. four (λ n rest. (m * 65536 + n, rest)) more) (c / 65536) (four_digits c ++ x) in
    rw is (inner ∙ (four_back (λ n rest. (c / 65536 % 65536 * 65536 + n, rest)) c x ∙ rw (high, whole) refl))

module _ (c : ℕ) (x : List ℕ) (few : c < 4294967296) where
  printable_back : (b : Bool) → is_printable c ≡ b → (c == 34) ≡ false → (c == 92) ≡ false → (c == 8) ≡ false → (c == 9)
      ≡ false → (c == 10) ≡ false → (c == 12) ≡ false → (c == 13) ≡ false → unshown (shown_char c ++ x) ≡ (c, x)
  printable_back true is a b d e f g h = rw (a, b, d, e, f, g, h, is, b) refl
  printable_back false is a b d e f g h = rw (a, b, d, e, f, g, h, is) (numbered_back (nat_lt c 65536) c x few refl)

  r6 : (t : Bool) → (c == 13) ≡ t → (c == 34) ≡ false → (c == 92) ≡ false → (c == 8) ≡ false → (c == 9) ≡ false
      → (c == 10) ≡ false → (c == 12) ≡ false → unshown (shown_char c ++ x) ≡ (c, x)
  r6 true is a b d e f g = rw (eqb-true c 13 is) refl
  r6 false is a b d e f g = printable_back (is_printable c) refl a b d e f g is

  r5 : (t : Bool) → (c == 12) ≡ t → (c == 34) ≡ false → (c == 92) ≡ false → (c == 8) ≡ false → (c == 9) ≡ false
      → (c == 10) ≡ false → unshown (shown_char c ++ x) ≡ (c, x)
  r5 true is a b d e f = rw (eqb-true c 12 is) refl
  r5 false is a b d e f = r6 (c == 13) refl a b d e f is

  r4 : (t : Bool) → (c == 10) ≡ t → (c == 34) ≡ false → (c == 92) ≡ false → (c == 8) ≡ false → (c == 9) ≡ false
      → unshown (shown_char c ++ x) ≡ (c, x)
  r4 true is a b d e = rw (eqb-true c 10 is) refl
  r4 false is a b d e = r5 (c == 12) refl a b d e is

  r3 : (t : Bool) → (c == 9) ≡ t → (c == 34) ≡ false → (c == 92) ≡ false → (c == 8) ≡ false
      → unshown (shown_char c ++ x) ≡ (c, x)
  r3 true is a b d = rw (eqb-true c 9 is) refl
  r3 false is a b d = r4 (c == 10) refl a b d is

  r2 : (t : Bool) → (c == 8) ≡ t → (c == 34) ≡ false → (c == 92) ≡ false → unshown (shown_char c ++ x) ≡ (c, x)
  r2 true is a b = rw (eqb-true c 8 is) refl
  r2 false is a b = r3 (c == 9) refl a b is

  r1 : (t : Bool) → (c == 92) ≡ t → (c == 34) ≡ false → unshown (shown_char c ++ x) ≡ (c, x)
  r1 true is a = rw (eqb-true c 92 is) refl
  r1 false is a = r2 (c == 8) refl a is

  r0 : (t : Bool) → (c == 34) ≡ t → unshown (shown_char c ++ x) ≡ (c, x)
  r0 true is = rw (eqb-true c 34 is) refl
  r0 false is = r1 (c == 92) refl is

pub char_back : (c : ℕ) (x : List ℕ) → c < 4294967296 → unshown (shown_char c ++ x) ≡ (c, x)
char_back c x few = r0 c x few (c == 34) refl

-- ---- keys

-- two characters and what follows them, from what is shown
same_first : (c d : ℕ) (x y : List ℕ) → c < 4294967296 → d < 4294967296 → shown_char c ++ x ≡ shown_char d ++ y
    → (c ≡ d) × (x ≡ y)
same_first c d x y few less e =
    let both : (c, x) ≡ (d, y) = sym (char_back c x few) ∙ (ap unshown e ∙ char_back d y less) in
    (ap (λ (p : ℕ × List ℕ). p.0) both, ap (λ (p : ℕ × List ℕ). p.1) both)

-- no character begins as the end of a basic string does
no_end : (c : ℕ) (x : List ℕ) → c < 4294967296 → shown_char c ++ x ≡ 34 ∷ [] → ⊥
no_end c x few e =
    let both : (c, x) ≡ (34, []) = sym (char_back c x few) ∙ ap unshown e in
    let quote : c ≡ 34 = ap (λ (p : ℕ × List ℕ). p.0) both in
    let there : shown_char 34 ++ x ≡ 34 ∷ [] = subst (λ (n : ℕ). shown_char n ++ x ≡ 34 ∷ []) quote e in
    absurd cc

fits : (c : ℕ) → scalar c ≡ true → c < 4294967296
fits c is = scalar_fits c is

same_chars : (cs ds : List ℕ) → all_scalars cs ≡ true → all_scalars ds ≡ true → flat_map shown_char cs ++ 34 ∷ []
    ≡ flat_map shown_char ds ++ 34 ∷ [] → cs ≡ ds
same_chars [] [] a b e = refl
same_chars [] (d ∷ ds) a b e =
    let p = and_parts (scalar d) (all_scalars ds) b in
    absurd (no_end d (flat_map shown_char ds ++ 34 ∷ []) (fits d p.0)
    (sym (append_assoc (shown_char d) (flat_map shown_char ds) (34 ∷ [])) ∙ sym e))
same_chars (c ∷ cs) [] a b e =
    let p = and_parts (scalar c) (all_scalars cs) a in
    absurd (no_end c (flat_map shown_char cs ++ 34 ∷ []) (fits c p.0)
    (sym (append_assoc (shown_char c) (flat_map shown_char cs) (34 ∷ [])) ∙ e))
same_chars (c ∷ cs) (d ∷ ds) a b e =
    let p = and_parts (scalar c) (all_scalars cs) a in
    let q = and_parts (scalar d) (all_scalars ds) b in
    let joined : shown_char c ++ (flat_map shown_char cs ++ 34 ∷ []) ≡ shown_char d
    ++ (flat_map shown_char ds ++ 34 ∷ [])
    = sym (append_assoc (shown_char c) (flat_map shown_char cs) (34 ∷ [])) ∙
    (e ∙ append_assoc (shown_char d) (flat_map shown_char ds) (34 ∷ [])) in
    let both = same_first c d (flat_map shown_char cs ++ 34 ∷ []) (flat_map shown_char ds ++ 34 ∷ []) (fits c p.0)
    (fits d q.0) joined in
    let rest : cs ≡ ds = same_chars cs ds p.1 q.1 both.1 in
    rw (both.0, rest) refl

no_bare : (b : Bool) → not (b || true) ≡ true → ⊥
no_bare true h = true≢false (sym h)
no_bare false h = true≢false (sym h)

-- a bare key does not begin as a basic string does
bare_first : (k rest : List ℕ) → is_bare k ≡ true → k ≡ 34 ∷ rest → ⊥
bare_first k rest bare e =
    let there : is_bare (34 ∷ rest) ≡ true = subst (λ (t : List ℕ). is_bare t ≡ true) e bare in
    no_bare (length (34 ∷ rest) == 0) there

quoted_apart : (k l : List ℕ) → IsUtf8 k → IsUtf8 l → quoted_text (chars k) ≡ quoted_text (chars l) → k ≡ l
quoted_apart k l one two e =
    let inner : flat_map shown_char (chars k) ++ 34 ∷ [] ≡ flat_map shown_char (chars l) ++ 34 ∷ [] = ap tail e in
    let same : chars k ≡ chars l = same_chars (chars k) (chars l) (scalars-chars k one) (scalars-chars l two) inner in
    sym (encodes-chars k one) ∙ (ap encode_utf8_all same ∙ encodes-chars l two)
  where
    tail : List ℕ → List ℕ
    tail [] = []
    tail (b ∷ bs) = bs

-- keys that stand alike are the same
pub keys_apart : (a b : Bool) (k l : List ℕ) → is_bare k ≡ a → is_bare l ≡ b → IsUtf8 k → IsUtf8 l → spelled_key k
    ≡ spelled_key l → k ≡ l
keys_apart true true k l is at one two e = rw (is, at) at e
keys_apart true false k l is at one two e =
    let begins : k ≡ quoted_text (chars l) = rw (is, at) at e in
    absurd (bare_first k (flat_map shown_char (chars l) ++ codes "\"") is begins)
keys_apart false true k l is at one two e =
    let begins : quoted_text (chars k) ≡ l = rw (is, at) at e in
    absurd (bare_first l (flat_map shown_char (chars k) ++ codes "\"") at (sym begins))
keys_apart false false k l is at one two e = quoted_apart k l one two (rw (is, at) at e)

-- ---- printable ASCII

abbrev pub Printable : List ℕ → Type 0
Printable xs = All (λ b. is_printable b ≡ true) xs

digit_printable : (e : ℕ) → e < 16 → is_printable (upper_digit e) ≡ true
digit_printable e few = go (nat_lt e 10) refl
  where
    go : (b : Bool) → nat_lt e 10 ≡ b → is_printable (upper_digit e) ≡ true
    go true is =
        let small : e < 10 = ltb-true e 10 is in
        rw is (and_from (nat_le 32 (48 + e)) (nat_le (48 + e) 126) (le-leb 32 (48 + e) (omega arith))
        (le-leb (48 + e) 126 (omega (arith, small))))
    go false is = rw is (and_from (nat_le 32 (55 + e)) (nat_le (55 + e) 126) (le-leb 32 (55 + e) (omega arith))
        (le-leb (55 + e) 126 (omega (arith, few))))

four_printable : (n : ℕ) → Printable (four_digits n)
four_printable n =
    All-from_recursion (λ b. is_printable b ≡ true) (four_digits n) (
      digit_printable (n / 4096 % 16) (omega arith),
      (
        digit_printable (n / 256 % 16) (omega arith),
        (digit_printable (n / 16 % 16) (omega arith), (digit_printable (n % 16) (omega arith), tt)),
      ),
    )

numbered_printable : (b : Bool) (c : ℕ) → nat_lt c 65536 ≡ b → Printable (numbered_escape c)
numbered_printable true c is = rw is
    (All-append (λ b. is_printable b ≡ true) (codes "\\u") (four_digits c)
    (All-from_recursion (λ b. is_printable b ≡ true) (codes "\\u") (refl, (refl, tt))) (four_printable c))
numbered_printable false c is =
    rw is (All-append (λ b. is_printable b ≡ true) (codes "\\U") (four_digits (c / 65536) ++ four_digits c)
    (All-from_recursion (λ b. is_printable b ≡ true) (codes "\\U") (refl, (refl, tt)))
    (All-append (λ b. is_printable b ≡ true) (four_digits (c / 65536)) (four_digits c) (four_printable (c / 65536))
    (four_printable c)))

chosen : (t : Bool) (xs ys : List ℕ) → Printable xs → Printable ys → Printable (cond t xs ys)
chosen true xs ys h k = h
chosen false xs ys h k = k

last_printable : (b : Bool) (c : ℕ) → is_printable c ≡ b → Printable (cond b (c ∷ []) (numbered_escape c))
last_printable true c is = All-from_recursion (λ b. is_printable b ≡ true) (c ∷ []) (is, tt)
last_printable false c is = numbered_printable (nat_lt c 65536) c refl

escape_printable : (b : ℕ) → is_printable b ≡ true → Printable (92 ∷ b ∷ [])
escape_printable b is = All-from_recursion (λ x. is_printable x ≡ true) (92 ∷ b ∷ []) (refl, (is, tt))

char_printable : (c : ℕ) → Printable (shown_char c)
char_printable c =
    chosen (c == 34) _ _ (escape_printable 34 refl)
    (chosen (c == 92) _ _ (escape_printable 92 refl)
    (chosen (c == 8) _ _ (escape_printable 98 refl) (chosen (c == 9) _ _ (escape_printable 116 refl)
    (chosen (c == 10) _ _ (escape_printable 110 refl)
    (chosen (c == 12) _ _ (escape_printable 102 refl)
    (chosen (c == 13) _ _ (escape_printable 114 refl) (last_printable (is_printable c) c refl)))))))

chars_printable : (cs : List ℕ) → Printable (flat_map shown_char cs)
chars_printable [] = All-nil (λ b. is_printable b ≡ true)
chars_printable (c ∷ cs) = All-append (λ b. is_printable b ≡ true) (shown_char c) (flat_map shown_char cs)
    (char_printable c) (chars_printable cs)

quote_printable : Printable (34 ∷ [])
quote_printable = All-from_recursion (λ b. is_printable b ≡ true) (34 ∷ []) (refl, tt)

quoted_printable : (cs : List ℕ) → Printable (quoted_text cs)
quoted_printable cs =
    All-append (λ b. is_printable b ≡ true) (34 ∷ []) (flat_map shown_char cs ++ 34 ∷ []) quote_printable
    (All-append (λ b. is_printable b ≡ true) (flat_map shown_char cs) (34 ∷ []) (chars_printable cs) quote_printable)

bare_byte : (b : ℕ) → is_bare_byte b ≡ true → is_printable b ≡ true
bare_byte b h = and_from (nat_le 32 b) (nat_le b 126) (le-leb 32 b (least b h)) (le-leb b 126 (most b h))
  where
    least : (b : ℕ) → is_bare_byte b ≡ true → 32 ≤ b
    least b h = grind (arith, nat_tests)

    most : (b : ℕ) → is_bare_byte b ≡ true → b ≤ 126
    most b h = grind (arith, nat_tests)

neither : (a b : Bool) → (a || b) ≡ false → (a ≡ false) × (b ≡ false)
neither true b h = absurd (true≢false h)
neither false b h = (refl, h)

not_not : (b : Bool) → not b ≡ false → b ≡ true
not_not true h = refl
not_not false h = absurd (true≢false h)

bare_printable : (k : List ℕ) → list_any is_quoted_byte k ≡ false → Printable k
bare_printable [] h = All-nil (λ b. is_printable b ≡ true)
bare_printable (b ∷ bs) h =
    let parts = neither (is_quoted_byte b) (list_any is_quoted_byte bs) h in
    All-cons (λ x. is_printable x ≡ true) b bs (bare_byte b (not_not (is_bare_byte b) parts.0))
    (bare_printable bs parts.1)

not_true : (b : Bool) → not b ≡ true → b ≡ false
not_true true h = absurd (true≢false (sym h))
not_true false h = refl

none_quoted : (k : List ℕ) → is_bare k ≡ true → list_any is_quoted_byte k ≡ false
none_quoted k is =
    let parts = neither (length k == 0) (list_any is_quoted_byte k)
    (not_true (length k == 0 || list_any is_quoted_byte k) is) in
    parts.1

key_printable : (b : Bool) (k : List ℕ) → is_bare k ≡ b → Printable (spelled_key k)
key_printable true k is = rw is (bare_printable k (none_quoted k is))
key_printable false k is = rw is (quoted_printable (chars k))

pub shown_printable : (k : List ℕ) → Printable (spelled_key k)
shown_printable k = key_printable (is_bare k) k refl
