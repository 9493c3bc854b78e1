-- What a verdict shows of a range is what the stored writes left.
use Rattle.std.proofs.Common.{◌≡◌, ℕ, ◌+◌, ◌*◌, ◌<◌, zero, suc, Bool, List, Option, Some, None}
use Rattle.std.proofs.Common.{length, refl, ap, ◌∙◌, arith}
use Rattle.std.specs.Prelude.{slice_get, slice_index}
use Rattle.spec_links.specs.Terms.{Plan, Event, Verdict, History, bytes_from}
unfoldable use Rattle.spec_links.specs.Terms.{byte_last_written}
use Rattle.spec_links.specs.Cause.{CauseLaw}
unfoldable use Rattle.spec_links.specs.Due.{due}
use Rattle.spec_links.specs.Guarded.{link_happenings, mmio_if, mmio_shown}
use Rattle.spec_interfaces.specs.Sites.{Site, site_at}
use Rattle.spec_interfaces.specs.Floors.{place_of}
use Rattle.spec_interfaces.proofs.Floors.{number_at}
use Rattle.guarded_memory.specs.Happenings.{byte_shown}
use Rattle.guarded_memory.specs.Contents.{page_counts, fits_range}
use Rattle.law_mmio.specs.Mmio.{ShowsRange, ShowsStored}
use Rattle.law_mmio.proofs.SameWrites.{same_writes}
use Rattle.law_mmio.specs.Stored.{stored_byte, writes_since_zero}
use Rattle.law_mmio.proofs.Numbers.{last_byte}
use Rattle.script_events.specs.declared.event.Event.TheVariants as event
use Rattle.script_events.specs.declared.event.AccessEvent.TheVariants as ae
use Rattle.event_verdicts.specs.declared.verdict.Verdict.TheVariants as v
use Rattle.event_verdicts.specs.declared.access.AccessVerdict.TheVariants as access

pub length-bytes : (f : ℕ → ℕ) (at n : ℕ) → length (bytes_from f at n) ≡ n
length-bytes f at zero = refl
length-bytes f at (suc n) = ap (λ (k : ℕ). suc k) (length-bytes f (at + 1) n)

pub bytes_at : (f : ℕ → ℕ) (at n k : ℕ) → k < n → slice_get (bytes_from f at n) k ≡ Some (f (at + k))
bytes_at f at zero k less = absurd (omega arith)
bytes_at f at (suc n) zero less = let e : at ≡ at + 0 = omega arith in ap (λ (a : ℕ). Some (f a)) e
bytes_at f at (suc n) (suc k) less =
    let e : (at + 1) + k ≡ at + suc k = omega arith in bytes_at f (at + 1) n k (omega arith) ∙ ap
    (λ (a : ℕ). Some (f a)) e

-- the bytes of two verdicts
if_shown : (b : Bool) (bytes shown : List ℕ) → v.Access (access.Mmio bytes) ≡ mmio_if b shown → bytes ≡ shown
if_shown b bytes shown is = grind arith

-- of an interface of the topology
shown_of : (plan : Plan) (h : History) (i bar offset len : ℕ) (bytes : List ℕ) → CauseLaw plan h → (o : Option Site)
    → site_at plan i ≡ o → v.Access (access.Mmio bytes) ≡ mmio_shown plan (link_happenings plan h) o bar offset len
    → ShowsRange plan h i bar offset len bytes
shown_of plan h i bar offset len bytes cause None at is = absurd cc
shown_of plan h i bar offset len bytes cause (Some x) at is =
    let shown = byte_shown (link_happenings plan h x.link) (place_of plan x) bar in
    let same = if_shown (fits_range (4096 * slice_index (page_counts x.plan) bar) offset len) bytes
    (bytes_from shown offset len) is in
    let known : site_at plan x.number ≡ Some x = ap (site_at plan) (number_at plan i x at) ∙ at in
    record {
      interface = x;
      known = at;
      as_many = ap length same ∙ length-bytes shown offset len;
      shown = λ k less. record {
        byte = stored_byte plan h x bar (offset + k);
        is = ap (λ (bs : List ℕ). slice_get bs k) same ∙ bytes_at shown offset len k less
            ∙ ap (λ ws. Some (byte_last_written ws (offset + k))) (same_writes plan h cause x bar known);
        left = last_byte (writes_since_zero plan h x bar) (offset + k);
      };
    }

pub shows_stored : (plan : Plan) (h : History) (e : Event) (w : Verdict) → CauseLaw plan h → w ≡ due plan h e
    → ShowsStored plan h e w
unfolding due
shows_stored plan h (event.Access (ae.Mmio i bar offset len)) (v.Access (access.Mmio bytes)) cause is =
    shown_of plan h i bar offset len bytes cause (site_at plan i) refl is
shows_stored plan h (event.Access (ae.Mmio i bar offset len)) (v.Access w) cause is = tt
shows_stored plan h (event.Access (ae.Mmio i bar offset len)) w cause is = tt
shows_stored plan h (event.Access e) w cause is = tt
shows_stored plan h e w cause is = tt
