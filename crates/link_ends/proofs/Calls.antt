-- No exchange of an operation finishes or accepts a unit at a port.
use Rattle.link_ends.proofs.Terms.{◌≡◌, ℕ, List, [], ◌∷◌, ◌∙◌, Option, Some, None, IsSome, IfSome, PlaceCall, PortEnd}
use Rattle.link_ends.proofs.Terms.{DeviceEnd, asked_device, after_call, LinkEnds, KeysAlone, ap, Current, request_asked}
use Rattle.link_ends.proofs.Terms.{object_spelling, Side, subst, sym}
use Rattle.key_messages.specs.{call_of}
use Rattle.std.proofs.Common.{◌++◌}
use Rattle.key_host.specs.Streams.{has_host, end_asked}
use Rattle.ide_types.specs.declared.port.Side.TheVariants.{Host, Device}
use Rattle.link_ends.specs.declared.end.LineEnd.{LineEnd}
use Rattle.link_ends.specs.declared.pair.PairEnds.{PairEnds}
use Rattle.link_ends.specs.LineEnds.{answered_end, line_end_after, call_at_end, line_end_in, with_end}
use Rattle.link_ends.specs.PairKeepers.{NoMorePairUnits}
use Rattle.link_ends.proofs.Ports.{PortMoves}
use Rattle.ide_port.specs.{UnitsGrow}
use Rattle.ide_port.proofs.Units.{stays, grow-on, called-units}

moved_units : (e e' : PortEnd) (cs : List PlaceCall) → PortMoves e cs e' → UnitsGrow 0 e e'
moved_units e e' [] moves = subst (λ (p : PortEnd). UnitsGrow 0 e p) (sym moves) (stays 0 e)
moved_units e e' (c ∷ cs) moves =
    let first : UnitsGrow 0 e moves.0 = subst (λ (p : PortEnd). UnitsGrow 0 e p) (sym moves.1.moved) (called-units c e)
    in
    grow-on 0 0 e moves.0 e' first (moved_units moves.0 e' cs moves.2)

pub host_units : {A : Type 0} (o : Option A) (asks : A → List PlaceCall) (e e' : PortEnd) → IsSome o
    → IfSome o (λ (a : A). PortMoves e (asks a) e') → UnitsGrow 0 e e'
host_units None asks e e' there moves = absurd cc
host_units (Some a) asks e e' there moves = moved_units e e' (asks a) moves

after_units : (e : PortEnd) (o : Option PlaceCall) → UnitsGrow 0 e (after_call e o)
after_units e None = stays 0 e
after_units e (Some c) = called-units c e

pub device_units : {A : Type 0} (o : Option A) (request : A → List ℕ) (draw : A → ℕ) (d d' : DeviceEnd) → IsSome o
    → IfSome o (λ (a : A). d' ≡ asked_device d (request a) (draw a)) → UnitsGrow 0 d.port d'.port
device_units None request draw d d' there is = absurd cc
device_units (Some a) request draw d d' there is =
    subst (λ (x : DeviceEnd). UnitsGrow 0 d.port x.port) (sym is) (after_units d.port (call_of (request a) (draw a)))

pub units_same : (l : LinkEnds) → KeysAlone l l
units_same l = record { host = stays 0 l.host; device = stays 0 l.device.port; interfaces = λ i. l.device.interfaces }

pub units_on : (l m n : LinkEnds) → KeysAlone l m → KeysAlone m n → KeysAlone l n
units_on l m n one two = record {
  host = grow-on 0 0 l.host m.host n.host one.host two.host;
  device = grow-on 0 0 l.device.port m.device.port n.device.port one.device two.device;
  interfaces = two.interfaces ∙ one.interfaces;
}

pub device_interfaces : {A : Type 0} (o : Option A) (request : A → List ℕ) (draw : A → ℕ) (d d' : DeviceEnd) → IsSome o
    → IfSome o (λ (a : A). d' ≡ asked_device d (request a) (draw a)) → d'.interfaces ≡ d.interfaces
device_interfaces None request draw d d' there is = absurd cc
device_interfaces (Some a) request draw d d' there is = ap (λ (x : DeviceEnd). x.interfaces) is

-- what comes of the request that the manager asks, and of its draw
pub asked_is : {A : Type 0} (o : Option Current) (f : List ℕ → ℕ → A) (x : A) (given items before : List ℕ) (draw : ℕ)
    → given ≡ items → before ≡ []
    → IfSome o (λ (c : Current). items ≡ before ++ object_spelling (request_asked (has_host c.stream) c.asked c.stream))
    → IfSome o (λ (c : Current). draw ≡ c.asked.draw) → x ≡ f given draw
    → IfSome o (λ (c : Current). x ≡ f (object_spelling (request_asked (has_host c.stream) c.asked c.stream))
    c.asked.draw)
asked_is None f x given items before draw same none asks draws is = tt
asked_is (Some c) f x given items before draw same none asks draws is =
    let bytes = object_spelling (request_asked (has_host c.stream) c.asked c.stream) in
    let request : given ≡ bytes = same ∙ (asks ∙ ap (λ (bs : List ℕ). bs ++ bytes) none) in
    is ∙ (λ i. f (request i) (draws i))

-- the same at the end that it is for
pub asked_of_end : {A : Type 0} (o : Option Current) (f : Side → List ℕ → ℕ → A) (x : A) (side : Side)
    (given items before : List ℕ) (draw : ℕ) → given ≡ items → before ≡ []
    → IfSome o (λ (c : Current). side ≡ end_asked (has_host c.stream) c.asked)
    → IfSome o (λ (c : Current). items ≡ before ++ object_spelling (request_asked (has_host c.stream) c.asked c.stream))
    → IfSome o (λ (c : Current). draw ≡ c.asked.draw) → x ≡ f side given draw
    → IfSome o (λ (c : Current). x ≡ f (end_asked (has_host c.stream) c.asked)
    (object_spelling (request_asked (has_host c.stream) c.asked c.stream)) c.asked.draw)
asked_of_end None f x side given items before draw same none sides asks draws is = tt
asked_of_end (Some c) f x side given items before draw same none sides asks draws is =
    let bytes = object_spelling (request_asked (has_host c.stream) c.asked c.stream) in
    let request : given ≡ bytes = same ∙ (asks ∙ ap (λ (bs : List ℕ). bs ++ bytes) none) in
    is ∙ (λ i. f (sides i) (request i) (draws i))

-- ---- at the two ends of a line that is keyed by messages at both

end_after_units : (e : LineEnd) (o : Option PlaceCall) → UnitsGrow 0 e.port (line_end_after e o).port
end_after_units e None = stays 0 e.port
end_after_units e (Some c) = called-units (call_at_end e.side c) e.port

answered_units : (side : Side) (l : PairEnds) (request : List ℕ) (draw : ℕ)
    → NoMorePairUnits l (with_end side (answered_end (line_end_in side l) request draw) l)
answered_units Host l request draw =
    record { near = end_after_units l.near (call_of request draw); far = stays 0 l.far.port }
answered_units Device l request draw =
    record { near = stays 0 l.near.port; far = end_after_units l.far (call_of request draw) }

pub pair_units : {A : Type 0} (o : Option A) (side : A → Side) (request : A → List ℕ) (draw : A → ℕ) (l l' : PairEnds)
    → IsSome o → IfSome o
    (λ (a : A). l' ≡ with_end (side a) (answered_end (line_end_in (side a) l) (request a) (draw a)) l)
    → NoMorePairUnits l l'
pair_units None side request draw l l' there is = absurd cc
pair_units (Some a) side request draw l l' there is =
    subst (λ (x : PairEnds). NoMorePairUnits l x) (sym is) (answered_units (side a) l (request a) (draw a))

pub pair_units_same : (l : PairEnds) → NoMorePairUnits l l
pair_units_same l = record { near = stays 0 l.near.port; far = stays 0 l.far.port }

pub pair_units_on : (l m n : PairEnds) → NoMorePairUnits l m → NoMorePairUnits m n → NoMorePairUnits l n
pair_units_on l m n one two = record {
  near = grow-on 0 0 l.near.port m.near.port n.near.port one.near two.near;
  far = grow-on 0 0 l.far.port m.far.port n.far.port one.far two.far;
}
