-- Headers are a grammar, and TLPs are one. What is spelled walks byte by byte. What walks and wants no more has a right
-- header and as many bytes after it as that wants, and is spelled. Else a byte more may follow, until none is wanted.
use Rattle.std.proofs.Common.{◌≡◌, ℕ, ◌+◌, ◌-◌, ◌<◌, ◌≤◌, List, ◌++◌, length, get_or, take, drop, refl, sym, ap, subst}
use Rattle.std.proofs.Common.{◌∙◌, inl, inr, arith, length-append, length-take, length-drop, get_or-take, get_or-drop}
use Rattle.std.proofs.Common.{take-append-drop}
use Rattle.std.specs.Prelude.{All}
use Rattle.std.proofs.lemmas.Bool.{cases_lt}
use Rattle.std.proofs.lemmas.List.{get_or_past, take_all, get_or_append_left, get_or-append_right}
use Rattle.std.proofs.lemmas.List.Elements.{All-from_get_or}
use Rattle.tlp_layout.specs.{Layout, HeadView, head_bytes, FitsHead, SpellsHead, IsHead, head_size, head_of, rest_size}
use Rattle.tlp_layout.specs.{whole_size, may_follow, layout_of, body_size, tlp_bytes, FitsTlp, SpellsTlp, IsTlp, header}
use Rattle.tlp_layout.specs.{body, with_payload}
use Rattle.tlp_layout.specs.Terms.{Tlp}
use Rattle.tlp_layout.specs.Terms.layouts
use Rattle.tlp_layout.specs.Reading.{fields_of}
use Rattle.ide_types.proofs.Cells.{IsBytes, all_bytes}
use Rattle.tlp_layout.proofs.Heads.{IsRight, back, kept, again, head_size_at_least}
use Rattle.tlp_layout.proofs.Walk.{IsWalked, whole_front, fits_from, walked_in, next_fits}
use Rattle.ide_types.proofs.Fronts.{IsGrammar}

-- ---- headers

right_walks : (k : Layout) (s : List ℕ) → IsRight k s → IsWalked k s (length s)
right_walks k s r = record { fit = λ i lt. r.fit i; kind = r.kind; agrees = λ i p lt less. r.agrees i p lt }

pub is_right : (s : List ℕ) → IsHead s → (k : Layout) × IsRight k s
is_right s h = (
  layout_of h.head.fields,
  subst (IsRight (layout_of h.head.fields)) (sym h.spells.spelled)
      (kept h.head h.spells.fits),
)

pub take_right : (k : Layout) (s : List ℕ) (n : ℕ) → n ≡ head_size (get_or s 0 0) → n ≤ length s
    → IsWalked k s (length s) → IsRight k (take n s)
take_right k s n e le w =
    let some : 12 ≤ n = omega (arith, head_size_at_least (get_or s 0 0)) in
    let long : length (take n s) ≡ n = omega (arith, length-take n s) in
    let first : get_or (take n s) 0 0 ≡ get_or s 0 0 = get_or-take n s 0 0 (omega arith) in
    record {
      fit = λ i. elim (cases_lt i n) [
        | inl lt ↦ rw (get_or-take n s i 0 lt) (w.fit i (omega arith))
        | inr past ↦ rw (get_or_past (take n s) i 0 (omega arith)) (omega arith)
      ];
      kind = rw first w.kind;
      size = rw first (long ∙ e);
      agrees = λ i p lt. let here : i < n = omega arith in rw (first, get_or-take n s i 0 here)
          (w.agrees i p (omega arith) (omega arith));
    }

pub heads : IsGrammar IsHead (λ s. head_size (get_or s 0 0)) may_follow 1
heads = record {
  least = λ s. omega (arith, head_size_at_least (get_or s 0 0));
  front = λ n s le. ap head_size (get_or-take n s 0 0 le);
  walks = λ s h. let r = is_right s h in (fits_from r.0 s (length s) (right_walks r.0 s r.1) (omega arith), r.1.size);
  whole = λ s w size.
      let k = walked_in s (omega (arith, size, head_size_at_least (get_or s 0 0))) w in
      let r = rw (take_all (length s) s (omega arith)) at (take_right k.0 s (length s) size (omega arith) k.1) in
      record { head = head_of k.0 s; spells = back k.0 s r };
  next = λ s w lt. next_fits s w;
}

-- ---- TLPs

pub spells_with : (h : HeadView) (b : List ℕ) → FitsHead h → length b ≡ body_size h.has_payload h.lead.length
    → All (λ x. x < 256) b → SpellsTlp (with_payload h b) (head_bytes h ++ b)
spells_with h b fits e all = record { fits = record { head = fits; size = e; bytes = all }; spelled = refl }

-- bytes that are a TLP: a right header, and as many bytes after it as it wants
pub record IsWhole (k : Layout) (s : List ℕ) : Type 0 where
  pub walked : IsWalked k s (length s)
  pub size : length s ≡ whole_size s

-- a header walks, whatever bytes follow
pub walked_of : (k : Layout) (h b : List ℕ) → IsRight k h → IsBytes b → IsWalked k (h ++ b) (length (h ++ b))
walked_of k h b r all =
    let long : 12 ≤ length h = omega (arith, r.size, head_size_at_least (get_or h 0 0)) in
    let first : get_or (h ++ b) 0 0 ≡ get_or h 0 0 = get_or_append_left h b 0 0 (omega arith) in
    record {
      fit = λ i lt. elim (cases_lt i (length h)) [
        | inl less ↦ rw (get_or_append_left h b 0 i less) (r.fit i)
        | inr past ↦ rw (get_or-append_right h b (length h) i 0 refl past) (all (i - length h))
      ];
      kind = rw first r.kind;
      agrees = λ i p lt less.
          let small : i < head_size (get_or h 0 0) = rw first at less in
          let inside : i < length h = omega (arith, r.size) in
          rw (first, get_or_append_left h b 0 i inside) (r.agrees i p inside);
    }

whole_of : (k : Layout) (h b : List ℕ) → IsRight k h → IsBytes b → length b ≡ rest_size (h ++ b) → IsWhole k (h ++ b)
whole_of k h b r all e =
    let long : 12 ≤ length h = omega (arith, r.size, head_size_at_least (get_or h 0 0)) in
    let first : get_or (h ++ b) 0 0 ≡ get_or h 0 0 = get_or_append_left h b 0 0 (omega arith) in
    record { walked = walked_of k h b r all; size = omega (arith, length-append h b, r.size, ap head_size first, e) }

pub whole_from : (t : Tlp) → FitsTlp t → IsWhole (layout_of (header t).fields) (tlp_bytes t)
whole_from t fits =
    let same : head_of (layout_of (header t).fields) (head_bytes (header t) ++ body t)
    ≡ header t = again (header t) (body t) fits.head in
    let wants = ap (λ (v : HeadView). body_size v.has_payload v.lead.length) same in
    whole_of (layout_of (header t).fields) (head_bytes (header t)) (body t) (kept (header t) fits.head)
    (all_bytes (body t) fits.bytes) (fits.size ∙ sym wants)

pub is_whole : (s : List ℕ) → IsTlp s → (k : Layout) × IsWhole k s
is_whole s t = (
  layout_of (header t.tlp).fields,
  subst (IsWhole (layout_of (header t.tlp).fields))
      (sym t.spells.spelled) (whole_from t.tlp t.spells.fits),
)

kind_again : (k : Layout) (s : List ℕ) → layout_of (fields_of k s) ≡ k
kind_again layouts.Memory s = refl
kind_again layouts.Config s = refl
kind_again layouts.Message s = refl
kind_again layouts.Completion s = refl

-- the header is that of its bytes alone
head_front : (k : Layout) (s : List ℕ) (n : ℕ) → SpellsHead (head_of k (take n s)) (take n s) → head_of k s
    ≡ head_of k (take n s)
head_front k s n r =
    let v = head_of k (take n s) in
    let one : head_of (layout_of v.fields) (head_bytes v ++ drop n s) ≡ v = again v (drop n s) r.fits in
    let parts : head_bytes v ++ drop n s ≡ s = ap (λ (x : List ℕ). x ++ drop n s) (sym r.spelled) ∙ take-append-drop n s
    in
    subst (λ (j : Layout). head_of j s ≡ v) (kind_again k (take n s))
    (subst (λ (x : List ℕ). head_of (layout_of v.fields) x ≡ v) parts one)

-- what walks and is as long as its header says is spelled by its parts
pub parts_spell : (k : Layout) (s : List ℕ) → IsWalked k s (length s) → length s ≡ whole_size s
    → SpellsTlp (with_payload (head_of k s) (drop (head_size (get_or s 0 0)) s)) s
parts_spell k s w size =
    let n = head_size (get_or s 0 0) in
    let r = back k (take n s) (take_right k s n refl (omega (arith, size)) w) in
    let v = head_of k (take n s) in
    let same : head_of k s ≡ v = head_front k s n r in
    let long : length (drop n s) ≡ body_size v.has_payload v.lead.length =
    omega (arith, length-drop n s, ap (λ (x : HeadView). body_size x.has_payload x.lead.length) same) in
    let bytes = All-from_get_or (λ (x : ℕ). x < 256) (drop n s) 0
    (λ i lt. rw get_or-drop (w.fit (n + i) (omega (arith, length-drop n s)))) in
    let one = spells_with v (drop n s) r.fits long bytes in
    let parts : head_bytes v ++ drop n s ≡ s = ap (λ (x : List ℕ). x ++ drop n s) (sym r.spelled) ∙ take-append-drop n s
    in
    subst (λ (x : HeadView). SpellsTlp (with_payload x (drop n s)) s) (sym same)
    (subst (SpellsTlp (with_payload v (drop n s))) parts one)

pub tlps : IsGrammar IsTlp whole_size may_follow 4
tlps = record {
  least = λ s. omega (arith, head_size_at_least (get_or s 0 0));
  front = whole_front;
  walks = λ s t. let r = is_whole s t in (fits_from r.0 s (length s) r.1.walked (omega arith), r.1.size);
  whole = λ s w size.
      let k = walked_in s (omega (arith, size, head_size_at_least (get_or s 0 0))) w in
      record { tlp = _; spells = parts_spell k.0 s k.1 size };
  next = λ s w lt. next_fits s w;
}
