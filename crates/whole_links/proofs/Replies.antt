-- What a reply comes to, by the reads that wait at a port.
use Rattle.std.proofs.Common.{◌≡◌, ℕ, ◌∷◌, List, [], refl, ap, sym, ◌∙◌, subst}
use Rattle.std.specs.Prelude.{Some, None, Result, Ok, Err, slice_get, MatchResult, IfOk}
use Rattle.std.proofs.lemmas.Option.{none-some, same_Some}
use Rattle.ide_types.specs.declared.port.Side.{Side}
use Rattle.event_verdicts.specs.declared.access.AccessVerdict.TheVariants as av
use Rattle.event_verdicts.specs.declared.verdict.Verdict.{Verdict}
use Rattle.event_verdicts.specs.declared.verdict.Verdict.TheVariants as v
use Rattle.tlp_layout.specs.declared.fault.TlpFault.{TlpFault}
use Rattle.tlp_layout.specs.declared.head.HeadView.{HeadView}
use Rattle.tlp_layout.specs.declared.tlp.Tlp.{Tlp}
use Rattle.tlp_layout.specs.Tlp.{header}
use Rattle.tlp_layout.specs.Reading.{read_of, IsTlpWithHead}
use Rattle.trusted_memory.specs.declared.read.MemReadView.{MemReadView}
use Rattle.trusted_memory.specs.{completion, completion_head}
unfoldable use Rattle.trusted_memory.specs.{completion_bytes}
use Rattle.trusted_memory.specs.declared.queue.WaitingRead.{WaitingRead}
use Rattle.machine_ports.specs.Machine.{port_at}
use Rattle.all_links.specs.{LinkEnds}
use Rattle.link_stores.specs.declared.link.LinkAccesses.{LinkAccesses}
use Rattle.link_stores.specs.{reads_on}
use Rattle.whole_links.specs.declared.whole.WholeLinks.{WholeLinks}
use Rattle.whole_links.specs.declared.reply.Reply.{Reply}
use Rattle.whole_links.specs.Besides.{port_reply, reply_at_link, reply_oldest, reply_on_side}

module _ (s : WholeLinks) (side : Side) (link : ℕ) (l : LinkEnds) (a : LinkAccesses)
    (l_is : slice_get s.links.ends.links link ≡ Some l)
    (a_is : slice_get s.accesses link ≡ Some a) where
  here : port_reply s (port_at side link) ≡ reply_oldest (port_at side link) s l a (reads_on side a)
  here = (λ i. reply_at_link (port_at side link) s (l_is i) (a_is i))

  pub reply_empty : None ≡ slice_get (reads_on side a) 0
      → Err (v.Access (av.Empty link)) ≡ port_reply s (port_at side link)
  reply_empty none = by_reads (reads_on side a) none ∙ sym here
    where
      by_reads : (rs : List WaitingRead) → None ≡ slice_get rs 0 → Err (v.Access (av.Empty link))
          ≡ reply_oldest (port_at side link) s l a rs
      by_reads [] none = refl
      by_reads (r ∷ rs) none = absurd (none-some r none)

  pub reply_read : (r : WaitingRead) → Some r ≡ slice_get (reads_on side a) 0
      → reply_on_side side s l a link r ≡ port_reply s (port_at side link)
  reply_read r first = by_reads (reads_on side a) first ∙ sym here
    where
      by_reads : (rs : List WaitingRead) → Some r ≡ slice_get rs 0
          → reply_on_side side s l a link r ≡ reply_oldest (port_at side link) s l a rs
      by_reads [] first = absurd (none-some r (sym first))
      by_reads (q ∷ rs) first =
          ap (λ (x : WaitingRead). reply_on_side side s l a link x) (same_Some r q first)

-- ---- a completion that was made

-- it is a TLP with the header that it was written with
pub made_with : (completer : ℕ) (byte : ℕ → ℕ) (read : MemReadView) (head : HeadView) (bytes : List ℕ)
    → bytes ≡ completion_bytes completer byte read → head ≡ completion_head completer read
    → read_of (completion_bytes completer byte read) ≡ Ok (completion completer byte read) → IsTlpWithHead head bytes
made_with completer byte read head bytes made is reads =
    subst (λ (r : Result Tlp TlpFault). MatchResult r (λ t. header t ≡ head) (λ _. ⊥)) (sym (ap read_of made ∙ reads))
    (sym is)

-- a reply that is judged goes by it
pub reply_made : (bytes : List ℕ) (head : HeadView) (r : Result Reply Verdict) → IfOk r (λ x. x.head ≡ head)
    → IsTlpWithHead head bytes → IfOk r (λ x. IsTlpWithHead x.head bytes)
reply_made bytes head (Ok x) same at = subst (λ (h : HeadView). IsTlpWithHead h bytes) (sym same) at
reply_made bytes head (Err verdict) same at = tt
