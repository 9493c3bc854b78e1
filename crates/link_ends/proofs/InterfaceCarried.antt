-- An exchange that is carried.
use Rattle.std.proofs.Common.{◌≡◌, ℕ, List, length, Option, Some, None, refl, ap, sym, ◌∙◌}
use Rattle.std.specs.Prelude.{IfSome, IsSome}
use Rattle.script_events.specs.declared.event.Loss.{Loss}
use Rattle.script_events.specs.declared.event.Lost.{Lost}
use Rattle.tdisp_codec.specs.Requests.{request_spelling}
use Rattle.tdisp_codec.specs.Replies.{reply_reading}
use Rattle.interface_host.specs.declared.operation.InterfaceOutcome.{InterfaceOutcome}
use Rattle.interface_host.specs.Judging.{JudgedAnswer, interface_reply_judged}
use Rattle.interface_host.specs.Managers.{InterfaceManagerView, CurrentInterface, current_exchange, interface_request}
use Rattle.interface_host.specs.Managers.{outcome_by, taken_interface_manager}
use Rattle.interface_ends.specs.declared.said.StreamSaid.{StreamSaid}
use Rattle.interface_ends.specs.Replies.{DeviceTdis, interfaces_after_answer, answer_bytes}
use Rattle.spec_keys.specs.Due.{lost_message}
use Rattle.interface_ends.specs.Operations.{judgment_if_carried, interfaces_after_request}
use Rattle.interface_ends.specs.Keepers.{Ended, IsInterfaceExchanged}
use Rattle.interface_host.specs.Judging.{Lost as NotCarried}
use Rattle.link_ends.specs.DeviceEnds.{DeviceEnd}
use Rattle.link_ends.specs.InterfaceKeepers.{ended_with}

-- what holds of the exchange that is asked
pub some_map : {A : Type 0} {P Q : A → Type 0} (o : Option A) → ((a : A) → P a → Q a) → IfSome o P → IfSome o Q
some_map None f p = tt
some_map (Some a) f p = f a p

pub some_same : {A B : Type 0} (o : Option A) (b : B) → IfSome o (λ a. b ≡ b)
some_same None b = tt
some_same (Some a) b = refl

abbrev judged_bytes : InterfaceManagerView → CurrentInterface → List ℕ → JudgedAnswer
judged_bytes m c bytes = interface_reply_judged c.asking.step c.interface.requester m.portion (length m.read.bytes)
    (reply_reading bytes)

abbrev ended_by : InterfaceManagerView → CurrentInterface → DeviceTdis → Option Lost → JudgedAnswer → DeviceTdis → Ended
ended_by m c d l j after = record {
  outcome = outcome_by m c (judgment_if_carried l j);
  manager = taken_interface_manager m c (judgment_if_carried l j);
  device = interfaces_after_request l d
      after;
}

-- nothing is lost; `said` is what the device says of the stream of the exchange that is asked
pub carried_whole : (x : Option CurrentInterface) (m after : InterfaceManagerView) (d device : DeviceTdis)
    (said : CurrentInterface → StreamSaid) (loss : Option Loss) (number : ℕ) (bytes : List ℕ) (o : InterfaceOutcome)
    → IfSome x (λ c. number ≡ current_exchange m c) → lost_message loss number ≡ None
    → IfSome x (λ c. device ≡ interfaces_after_answer d (request_spelling (interface_request m c)) (said c))
    → IfSome x (λ c. bytes ≡ answer_bytes d (request_spelling (interface_request m c)) (said c))
    → IfSome x (λ c. o ≡ outcome_by m c (judged_bytes m c bytes))
    → IfSome x (λ c. after ≡ taken_interface_manager m c (judged_bytes m c bytes))
    → IfSome x (λ c. IsInterfaceExchanged (said c) loss m d c (ended_with o after device))
carried_whole None m after d device said loss number bytes o n l dev rep out man = tt
carried_whole (Some c) m after d device said loss number bytes o n l dev rep out man =
    let whole : lost_message loss (current_exchange m c) ≡ None = ap (lost_message loss) (sym n) ∙ l in
    let same : ended_with o after device
    ≡ ended_by m c d None (judged_bytes m c (answer_bytes d (request_spelling (interface_request m c)) (said c)))
    (interfaces_after_answer d (request_spelling (interface_request m c)) (said c))
    = rw (out, man, dev, rep) refl in
    record {
      ends = same ∙ ap
          (λ k. ended_by m c d k (judged_bytes m c (answer_bytes d (request_spelling (interface_request m c)) (said c)))
          (interfaces_after_answer d (request_spelling (interface_request m c)) (said c))) (sym whole);
    }

-- the request or the reply is lost
pub carried_lost : (x : Option CurrentInterface) (m after : InterfaceManagerView) (d device : DeviceTdis)
    (said : CurrentInterface → StreamSaid) (loss : Option Loss) (number : ℕ) (lost : Lost) (o : InterfaceOutcome)
    → IfSome x (λ c. number ≡ current_exchange m c) → lost_message loss number ≡ Some lost
    → IfSome x (λ c. device ≡ interfaces_after_request (Some lost) d
    (interfaces_after_answer d (request_spelling (interface_request m c)) (said c)))
    → IfSome x (λ c. o ≡ outcome_by m c NotCarried)
    → IfSome x (λ c. after ≡ taken_interface_manager m c NotCarried)
    → IfSome x (λ c. IsInterfaceExchanged (said c) loss m d c (ended_with o after device))
carried_lost None m after d device said loss number lost o n l dev out man = tt
carried_lost (Some c) m after d device said loss number lost o n l dev out man =
    let is : lost_message loss (current_exchange m c) ≡ Some lost = ap (lost_message loss) (sym n) ∙ l in
    let same : ended_with o after device
    ≡ ended_by m c d (Some lost)
    (judged_bytes m c (answer_bytes d (request_spelling (interface_request m c)) (said c)))
    (interfaces_after_answer d (request_spelling (interface_request m c)) (said c)) = rw (out, man, dev) refl in
    record {
      ends = same ∙ ap
          (λ k. ended_by m c d k (judged_bytes m c (answer_bytes d (request_spelling (interface_request m c)) (said c)))
          (interfaces_after_answer d (request_spelling (interface_request m c)) (said c))) (sym is);
    }

-- a device whose interfaces alone may differ
pub interfaces_alone : (x : Option CurrentInterface) (f : CurrentInterface → DeviceTdis) (old new : DeviceEnd)
    → IsSome x → IfSome x (λ c. new ≡ record old { interfaces = f c })
    → new ≡ record old { interfaces = new.interfaces }
interfaces_alone None f old new there is = absurd cc
interfaces_alone (Some c) f old new there is = is ∙ ap (λ (e : DeviceEnd). record old { interfaces = e.interfaces })
    (sym is)
