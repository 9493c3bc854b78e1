-- A stream whose slots changed, settled once or twice.
use Rattle.join_keys.proofs.CallTerms.{◌≡◌, Bool, arith, true, subst, SubKind, LaneSlots, StreamState, at_sub}
use Rattle.join_keys.proofs.CallTerms.{each_sub, if◌then◌else◌, ◌&&◌, ◌||◌, Pr, Npr, Cpl, any_live}

-- ---- a stream by its slots

abbrev pub outs : StreamState → SubKind → LaneSlots
outs x u = (at_sub x.tx u).slots

abbrev pub ins : StreamState → SubKind → LaneSlots
ins x u = (at_sub x.rx u).slots

abbrev pub with_slots : (SubKind → LaneSlots) → (SubKind → LaneSlots) → StreamState → StreamState
with_slots f g x = record {
  tx = each_sub (λ u. record { slots = f u; posted = (at_sub x.tx u).posted; total = (at_sub x.tx u).total });
  rx = each_sub (λ u. record
      { slots = g u; sum = (at_sub x.rx u).sum; got = (at_sub x.rx u).got; total = (at_sub x.rx u).total });
  failed = x.failed;
}

-- counts and a failure stand only in a direction that has a Live slot
abbrev pub rested_by : Bool → Bool → StreamState → StreamState
rested_by out into x = record {
  tx = each_sub (λ u. record {
    slots = (at_sub x.tx u).slots;
    posted = if out then (at_sub x.tx u).posted else 0;
    total = if out then (at_sub x.tx u).total else 0;
  });
  rx = each_sub (λ u. record {
    slots = (at_sub x.rx u).slots;
    sum = if into then (at_sub x.rx u).sum else 0;
    got = if into then (at_sub x.rx u).got else 0;
    total = if into then (at_sub x.rx u).total else 0;
  });
  failed = x.failed && (out || into);
}

abbrev pub any_of : (SubKind → LaneSlots) → Bool
any_of f = any_live (f Pr) || any_live (f Npr) || any_live (f Cpl)

abbrev pub settle : StreamState → StreamState
settle x = rested_by (any_of (outs x)) (any_of (ins x)) x

-- ---- settled twice

-- if no direction begins to have a Live slot, the last settling alone is enough
pub settled_again : (f g : SubKind → LaneSlots) (x : StreamState) (o i p q : Bool) → (p ≡ true → o ≡ true)
    → (q ≡ true → i ≡ true) → rested_by p q (with_slots f g (rested_by o i x)) ≡ rested_by p q (with_slots f g x)
settled_again f g x o i p q out into = grind arith

settled_before : (f g : SubKind → LaneSlots) (x : StreamState) (o i p q : Bool) → (o ≡ true → p ≡ true)
    → (i ≡ true → q ≡ true) → rested_by p q (with_slots f g (rested_by o i x)) ≡ with_slots f g (rested_by o i x)
settled_before f g x o i p q out into = grind arith

-- if each direction keeps its Live slots, a settled stream stays settled
pub stays_settled : (f g : SubKind → LaneSlots) (x : StreamState) → settle x ≡ x
    → (any_of (outs x) ≡ true → any_of f ≡ true) → (any_of (ins x) ≡ true → any_of g ≡ true)
    → settle (with_slots f g x) ≡ with_slots f g x
stays_settled f g x is out into = subst (λ (y : StreamState). settle (with_slots f g y) ≡ with_slots f g y) is
    (settled_before f g x (any_of (outs x)) (any_of (ins x)) (any_of f) (any_of g) out into)

-- ---- one of three

or_three : (a b c p q r : Bool) → (a ≡ true → p ≡ true) → (b ≡ true → q ≡ true) → (c ≡ true → r ≡ true) → (a || b || c)
    ≡ true → (p || q || r) ≡ true
or_three a b c p q r first second third one = grind arith

pub any_each : (f g : SubKind → LaneSlots) → ((u : SubKind) → any_live (f u) ≡ true → any_live (g u) ≡ true) → any_of f
    ≡ true → any_of g ≡ true
any_each f g each some = or_three (any_live (f Pr)) (any_live (f Npr)) (any_live (f Cpl)) (any_live (g Pr))
    (any_live (g Npr)) (any_live (g Cpl)) (each Pr) (each Npr) (each Cpl) some
