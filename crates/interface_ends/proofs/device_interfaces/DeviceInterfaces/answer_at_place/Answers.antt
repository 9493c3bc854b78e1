use Rattle.std.proofs.Common.{◌≡◌, ◌+◌, ◌<◌, Some, true, false, length, ap, sym, ◌∙◌, arith}
use Rattle.std.specs.Prelude.{slice_get}
use Rattle.ide_types.proofs.Places.{get_at}
use Rattle.interface_ends.proofs.Answers.{taken_some, reply_now, device_now}
use Rattle.interface_ends.proofs.device_interfaces.DeviceInterfaces.answer_at_place.Goals as goal

pub overflow_add-self : goal.overflow_add-self
overflow_add-self c =
    let some = taken_some c.index_mut-interface.result.now c.args.request c.args.said c.next_nonce-nonce.result
    (sym c.answer_one.ensures.taken ∙ c.if-answer_one.true) in
    let left : c.self.inside.used < length c.self.inside.nonces.items = rw
    (ap (λ d. d.used) c.self.view_is, ap (λ d. d.nonces) c.self.view_is) (c.next_nonce-nonce.ensures.left some) in
    grind (arith, left)

pub returns-then-answer_one-clause-reply : goal.returns-then-answer_one-clause-reply
returns-then-answer_one-clause-reply c =
    let is : slice_get c.args.self.now.interfaces c.args.place
    ≡ Some c.index_mut-interface.result.now = get_at c.args.self.now.interfaces c.args.place
    c.index_mut-interface.result.now c.requires.exists (rw (← c.self.view_is) c.index_mut-interface.ensures.value)
    in
    reply_now c.args.self.now c.args.place _ c.args.request c.args.said c.next_nonce-nonce.result _ _ is
    c.next_nonce-nonce.ensures.value c.answer_one.ensures.reply

pub returns-else-answer_one-clause-reply : goal.returns-else-answer_one-clause-reply
returns-else-answer_one-clause-reply c =
    let is : slice_get c.args.self.now.interfaces c.args.place
    ≡ Some c.index_mut-interface.result.now = get_at c.args.self.now.interfaces c.args.place
    c.index_mut-interface.result.now c.requires.exists (rw (← c.self.view_is) c.index_mut-interface.ensures.value)
    in
    reply_now c.args.self.now c.args.place _ c.args.request c.args.said c.next_nonce-nonce.result _ _ is
    c.next_nonce-nonce.ensures.value c.answer_one.ensures.reply

pub returns-then-answer_one-clause-device : goal.returns-then-answer_one-clause-device
returns-then-answer_one-clause-device c =
    let is : slice_get c.args.self.now.interfaces c.args.place
    ≡ Some c.index_mut-interface.result.now = get_at c.args.self.now.interfaces c.args.place
    c.index_mut-interface.result.now c.requires.exists (rw (← c.self.view_is) c.index_mut-interface.ensures.value)
    in
    device_now c.args.self.now c.args.place _ _ c.args.request c.args.said true c.next_nonce-nonce.result _ _ _ is
    c.next_nonce-nonce.ensures.value c.answer_one.ensures.interface
    (sym c.if-answer_one.true ∙ c.answer_one.ensures.taken) (ap (λ d. d.interfaces) c.self.view_is)
    (ap (λ d. d.nonces) c.self.view_is) (ap (λ d. d.used + 1) c.self.view_is)

pub returns-else-answer_one-clause-device : goal.returns-else-answer_one-clause-device
returns-else-answer_one-clause-device c =
    let is : slice_get c.args.self.now.interfaces c.args.place
    ≡ Some c.index_mut-interface.result.now = get_at c.args.self.now.interfaces c.args.place
    c.index_mut-interface.result.now c.requires.exists (rw (← c.self.view_is) c.index_mut-interface.ensures.value)
    in
    device_now c.args.self.now c.args.place _ _ c.args.request c.args.said false c.next_nonce-nonce.result _ _ _ is
    c.next_nonce-nonce.ensures.value c.answer_one.ensures.interface
    (sym c.if-answer_one.false ∙ c.answer_one.ensures.taken) (ap (λ d. d.interfaces) c.self.view_is)
    (ap (λ d. d.nonces) c.self.view_is) (ap (λ d. d.used) c.self.view_is)
