use Rattle.std.proofs.Common.{◌≡◌, ℕ, ◌==◌, true, List, [], ◌++◌, length, sym, ap, ◌∙◌, arith}
use Rattle.gcm_seal.specs.Gcm.{masked_bytes}
use Rattle.ide_prefix.specs.Packet.{prefix_bytes}
use Rattle.ide_prefix.specs.Units.{encrypted_bytes}
use Rattle.sub_stream.specs.Gathered.{clear_of, with_packet}
use Rattle.sub_stream.proofs.Sealed.{bytes-sealed, bytes-alone, parts-appended}
use Rattle.sub_stream.proofs.sender.append_packet.Goals as goal

pub returns-then-is_empty-clause-items : goal.returns-then-is_empty-clause-items
returns-then-is_empty-clause-items c =
    let p = parts-appended c.args.cipher.now c.args.iv.now c.args.out.now.items c.append_untagged.new.out.items
    c.as_slice.result.now c.args.head.now c.args.payload.now c.body.result.now c.parts_from.result.0.now
    c.parts_from.result.1.now c.args.prefix.now c.args.unit.now.packets c.len-start.result c.parts_from.ensures.parts
    (omega (arith, c.len-start.ensures, c.args.out.now.ok.0)) c.as_slice.ensures.value c.body.ensures.value
    c.append_untagged.ensures.items in
    let none : (length (clear_of c.args.unit.now) == 0) ≡ true =
    ap (λ (l : List ℕ). length l == 0) (sym c.clear_bytes.ensures.value) ∙ sym c.is_empty.ensures ∙ c.if-is_empty.true
    in
    bytes-alone c.args.cipher.now c.args.iv.now c.args.out.now.items c.append_untagged.new.out.items _
    c.parts_from.result.0.now c.parts_from.result.1.now c.args.head.now c.args.payload.now c.tag-tag.result
    c.args.prefix.now c.args.unit.now c.args.prefix.now.m none c.if-prefix.true p.2 p.0 p.1 c.tag-tag.ensures
    c.append.ensures.items

parts : (c : goal.After-append_tag) → (c.parts_from.result.0.now ≡ prefix_bytes c.args.prefix.now ++ c.args.head.now)
    × (c.parts_from.result.1.now
    ≡ masked_bytes c.args.cipher.now c.args.iv.now (length (encrypted_bytes c.args.unit.now.packets))
    c.args.payload.now)
    × (c.append_untagged.new.out.items ≡ c.args.out.now.items ++ (prefix_bytes c.args.prefix.now ++ (c.args.head.now
    ++ masked_bytes c.args.cipher.now c.args.iv.now (length (encrypted_bytes c.args.unit.now.packets))
    c.args.payload.now)))
parts c =
    parts-appended c.args.cipher.now c.args.iv.now c.args.out.now.items c.append_untagged.new.out.items
    c.as_slice.result.now c.args.head.now c.args.payload.now c.body.result.now c.parts_from.result.0.now
    c.parts_from.result.1.now c.args.prefix.now c.args.unit.now.packets c.len-start.result c.parts_from.ensures.parts
    (omega (arith, c.len-start.ensures, c.args.out.now.ok.0)) c.as_slice.ensures.value c.body.ensures.value
    c.append_untagged.ensures.items

joined : (c : goal.After-append_tag) → c.push.new.self ≡ with_packet c.args.unit.now (record {
  prefix = c.args.prefix.now;
  head = c.args.head.now;
  body = masked_bytes c.args.cipher.now c.args.iv.now (length (encrypted_bytes c.args.unit.now.packets))
      c.args.payload.now;
  tag = [];
})
joined c =
    c.push.ensures ∙ ap (λ (b : List ℕ). with_packet c.args.unit.now
    (record { prefix = c.args.prefix.now; head = c.args.head.now; body = b; tag = [] })) (parts c).1

pub returns-else-prefix-clause-items : goal.returns-else-prefix-clause-items
returns-else-prefix-clause-items c =
    bytes-sealed c.args.cipher.now c.args.iv.now c.args.out.now.items c.append_untagged.new.out.items _
    c.args.head.now c.args.payload.now c.args.prefix.now c.args.unit.now c.push.new.self c.args.prefix.now.m
    (parts c).2 (joined c) c.append_tag.ensures.items

pub returns-else-prefix-clause-unit : goal.returns-else-prefix-clause-unit
returns-else-prefix-clause-unit c e = joined c
