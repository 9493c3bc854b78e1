-- The readings are those of the grammar: what they read is spelled so, and what they refuse goes off there.
use Rattle.std.proofs.Common.{◌≡◌, ℕ, ◌≤◌, Bool, List, [], ◌++◌, length, cond, get_or, take, drop, Option, unwrap_or}
use Rattle.std.proofs.Common.{Result, Ok, Err, refl, sym, ap, ◌∙◌, arith, append-nil, ◌<◌}
use Rattle.std.specs.Prelude.{All, ◌↔◌, IfOk, IfErr, MatchResult}
use Rattle.std.proofs.Math.Seq.{drop-append_seam, take-append_seam}
use Rattle.ide_types.proofs.Walks.{reads_iff, refuses_iff}
use Rattle.tlp_layout.specs.{Layout, TlpFault, HeadView, TlpView, head_bytes, head_length, FitsHead, SpellsHead}
use Rattle.tlp_layout.specs.{body_size, FitsTlp, tlp_bytes, SpellsTlp, header, body, with_payload, viewed_tlp}
use Rattle.tlp_layout.specs.{viewed_result, head_size, fault_at, IsFault, IsHeadFault, head_of, head_read, tlp_read}
use Rattle.tlp_layout.specs.{read_head_of, read_of}
use Rattle.tlp_layout.specs.Terms.{Tlp}
use Rattle.tlp_layout.specs.Terms.layouts
use Rattle.tlp_layout.proofs.Heads.{kept, again}
use Rattle.tlp_layout.proofs.Walk.{body_at_most}
use Rattle.tlp_layout.proofs.Grammar.{spells_with, heads, tlps}

-- ---- the value of what is spelled

pub head_again : (h : HeadView) (more : List ℕ) → FitsHead h → head_read (head_bytes h ++ more) ≡ h
head_again h more fits = ap (λ (o : Option Layout). head_of (unwrap_or o layouts.Memory) (head_bytes h ++ more))
    (kept h fits).kind ∙ again h more fits

pub head_value : (h : HeadView) (s : List ℕ) → SpellsHead h s → head_read s ≡ h
head_value h s p = ap head_read (p.spelled ∙ sym (append-nil (head_bytes h))) ∙ head_again h [] p.fits

pub drop_front : (a b : List ℕ) (n : ℕ) → n ≡ length a → drop n (a ++ b) ≡ b
drop_front a b n e = rw e (drop-append_seam a b)

pub head_sized : (h : HeadView) → FitsHead h → length (head_bytes h) ≡ head_length h
head_sized h fits =
    let wide = ap (λ (x : HeadView). x.lead.wide) (head_again h [] fits) in
    (kept h fits).size ∙ ap (λ (w : Bool). cond w 16 12) wide

-- the parts of a TLP
pub front_is : (t : Tlp) (s : List ℕ) → SpellsTlp t s → SpellsHead (header t) (take (head_length (header t)) s)
front_is t s p = record {
  fits = p.fits.head;
  spelled = ap (take (head_length (header t))) p.spelled ∙ rw (← head_sized (header t) p.fits.head)
      (take-append_seam (head_bytes (header t)) (body t));
}

pub rest_is : (t : Tlp) (s : List ℕ) → SpellsTlp t s → drop (head_length (header t)) s ≡ body t
rest_is t s p = ap (drop (head_length (header t))) p.spelled ∙ drop_front (head_bytes (header t)) (body t) _
    (sym (head_sized (header t) p.fits.head))

pub tlp_value : (t : Tlp) (s : List ℕ) → SpellsTlp t s → tlp_read s ≡ t
tlp_value t s p =
    let h = head_again (header t) (body t) p.fits.head in
    let b : drop (head_size (get_or (tlp_bytes t) 0 0)) (tlp_bytes t)
    ≡ body t = drop_front (head_bytes (header t)) (body t) _ (sym (kept (header t) p.fits.head).size) in
    ap tlp_read p.spelled ∙ ap
    (λ (x : HeadView). with_payload x (drop (head_size (get_or (tlp_bytes t) 0 0)) (tlp_bytes t))) h ∙ ap
    (with_payload (header t)) b

pub small_body : (t : Tlp) → FitsTlp t → length (body t) ≤ 4096
small_body t f = omega (arith, f.size, body_at_most (header t).has_payload (header t).lead.length f.head.lead.length)

-- a header and the payload that it wants
pub spells_whole : (h : HeadView) (b : List ℕ) → FitsHead h → length b ≡ body_size h.has_payload h.lead.length
    → All (λ x. x < 256) b → (SpellsTlp (with_payload h b) (head_bytes h ++ b)) × (header (with_payload h b) ≡ h)
spells_whole h b fits size all = (spells_with h b fits size all, refl)

-- ---- one value, one fault

pub same_tlp : (t u : Tlp) (s : List ℕ) → SpellsTlp t s → SpellsTlp u s → t ≡ u
same_tlp t u s p q = sym (tlp_value t s p) ∙ tlp_value u s q

pub same_head : (h k : HeadView) (s : List ℕ) → SpellsHead h s → SpellsHead k s → h ≡ k
same_head h k s p q = sym (head_value h s p) ∙ head_value k s q

-- ---- the readings

pub read_head_spells : (h : HeadView) (s : List ℕ) → (SpellsHead h s) ↔ (read_head_of s ≡ Ok h)
unfolding read_head_of
read_head_spells = reads_iff heads head_read fault_at SpellsHead (λ s x. (x.head, x.spells))
    (λ h s p. (record { head = h; spells = p }, head_value h s p))

pub read_head_refuses : (f : TlpFault) (s : List ℕ) → (IsHeadFault s f) ↔ (read_head_of s ≡ Err f)
unfolding read_head_of
read_head_refuses = refuses_iff heads head_read fault_at

pub read_spells_tlp : (t : Tlp) (s : List ℕ) → (SpellsTlp t s) ↔ (read_of s ≡ Ok t)
unfolding read_of
read_spells_tlp = reads_iff tlps tlp_read fault_at SpellsTlp (λ s x. (x.tlp, x.spells))
    (λ t s p. (record { tlp = t; spells = p }, tlp_value t s p))

pub read_refuses : (f : TlpFault) (s : List ℕ) → (IsFault s f) ↔ (read_of s ≡ Err f)
unfolding read_of
read_refuses = refuses_iff tlps tlp_read fault_at

-- ---- what the readers answer

pub read_again : (s : List ℕ) (r : Result TlpView TlpFault) → IfOk r (λ v. SpellsTlp (viewed_tlp v) s)
    → IfErr r (IsFault s) → (t : Tlp) → SpellsTlp t s → MatchResult r (λ v. viewed_tlp v ≡ t) (λ _. ⊥)
read_again s (Ok v) ok err t p = same_tlp (viewed_tlp v) t s ok p
read_again s (Err f) ok err t p = err.1.not_spelled (record { tlp = t; spells = p })

pub read_is : (s : List ℕ) (r : Result TlpView TlpFault) → IfOk r (λ v. SpellsTlp (viewed_tlp v) s)
    → IfErr r (IsFault s) → viewed_result r ≡ read_of s
read_is s (Ok v) ok err = sym ((read_spells_tlp (viewed_tlp v) s).0 ok)
read_is s (Err f) ok err = sym ((read_refuses f s).0 err)

pub read_head_again : (s : List ℕ) (r : Result HeadView TlpFault) → IfOk r (λ h. SpellsHead h s)
    → IfErr r (IsHeadFault s) → (h : HeadView) → SpellsHead h s → r ≡ Ok h
read_head_again s (Ok k) ok err h p = ap (λ (x : HeadView). Ok x) (same_head k h s ok p)
read_head_again s (Err f) ok err h p = absurd (err.1.not_spelled (record { head = h; spells = p }))

pub read_head_is : (s : List ℕ) (r : Result HeadView TlpFault) → IfOk r (λ h. SpellsHead h s) → IfErr r (IsHeadFault s)
    → r ≡ read_head_of s
read_head_is s (Ok k) ok err = sym ((read_head_spells k s).0 ok)
read_head_is s (Err f) ok err = sym ((read_head_refuses f s).0 err)
