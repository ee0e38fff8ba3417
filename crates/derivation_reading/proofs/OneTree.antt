-- Events are those of one tree, and so a text of the grammar is one of one tree.
use Rattle.std.proofs.Common.{◌≡◌, ℕ, List, [], ◌∷◌, ◌++◌, refl, sym, ap, ◌∙◌, append_assoc, arith}
use Rattle.geo_conditions.specs.declared.object.ObjId.{ObjId}
use Rattle.derivation.specs.declared.event.Event.{Event}
use Rattle.derivation.specs.declared.event.Event.TheVariants as events
use Rattle.derivation.specs.declared.side.Side.{Side}
use Rattle.derivation.specs.declared.side.Side.TheVariants.{Upto, From}
use Rattle.derivation.specs.declared.half.Half.{Half}
use Rattle.derivation.specs.declared.half.Half.TheVariants.{OfPlace, OfSide}
use Rattle.derivation.specs.Covers.{CoverTree, Leaf, Fork, events_of}
use Rattle.derivation.specs.PlaceCovers.{PlaceCover, open_events, covers_events}
use Rattle.derivation.specs.Chains.{bound_event}
use Rattle.derivation.specs.Nodes.{Node, Split, DropNode, Bound, GoneNode, DeadNode, split_event, node_events}
use Rattle.derivation_reading.specs.Terminals.{Lexeme}
use Rattle.derivation_reading.specs.Grammar.{Lookup, an}
use Rattle.derivation_reading.specs.Language.{TextWords}
use Rattle.derivation_reading.proofs.Steps.{same_left}
use Rattle.derivation_reading.proofs.FromTrees.{text_spells}

-- two parts behind each other
parts : (p q x r s y : List Event) → (p ++ q) ++ x ≡ (r ++ s) ++ y → p ++ (q ++ x) ≡ r ++ (s ++ y)
parts p q x r s y e = sym (append_assoc p q x) ∙ e ∙ append_assoc r s y

cover_same : (t u : CoverTree) (x y : List Event) → events_of t ++ x ≡ events_of u ++ y → (t ≡ u) × (x ≡ y)
cover_same (Leaf i) (Leaf j) x y e = (let same : i ≡ j = cc in ap Leaf same, cc)
cover_same (Fork (Upto d v) a b) (Fork (Upto f w) c g) x y e =
    let tails : (events_of a ++ events_of b) ++ x ≡ (events_of c ++ events_of g) ++ y = cc in
    let dimension : d ≡ f = cc in
    let value : v ≡ w = cc in
    let p = cover_same a c (events_of b ++ x) (events_of g ++ y) (parts (events_of a) (events_of b) x (events_of c) (events_of g) y tails) in
    let q = cover_same b g x y p.1 in
    (λ i. Fork (Upto (dimension i) (value i)) (p.0 i) (q.0 i), q.1)
cover_same (Fork (From d v) a b) (Fork (From f w) c g) x y e =
    let tails : (events_of a ++ events_of b) ++ x ≡ (events_of c ++ events_of g) ++ y = cc in
    let dimension : d ≡ f = cc in
    let value : v ≡ w = cc in
    let p = cover_same a c (events_of b ++ x) (events_of g ++ y) (parts (events_of a) (events_of b) x (events_of c) (events_of g) y tails) in
    let q = cover_same b g x y p.1 in
    (λ i. Fork (From (dimension i) (value i)) (p.0 i) (q.0 i), q.1)
cover_same (Fork (Upto d v) a b) (Fork (From f w) c g) x y e = absurd cc
cover_same (Fork (From d v) a b) (Fork (Upto f w) c g) x y e = absurd cc
cover_same (Leaf i) (Fork (Upto d v) a b) x y e = absurd cc
cover_same (Leaf i) (Fork (From d v) a b) x y e = absurd cc
cover_same (Fork (Upto d v) a b) (Leaf i) x y e = absurd cc
cover_same (Fork (From d v) a b) (Leaf i) x y e = absurd cc

-- the events of a list of covers, behind its first place
behind_place : (t : CoverTree) (more : List PlaceCover) (x : List Event)
    → ((events_of t ++ open_events more) ++ events.EndCovers ∷ []) ++ x ≡ events_of t ++ (covers_events more ++ x)
behind_place t more x =
    ap (λ (z : List Event). z ++ x) (append_assoc (events_of t) (open_events more) (events.EndCovers ∷ [])) ∙ append_assoc (events_of t) (covers_events more) x

list_same : (l k : List PlaceCover) (x y : List Event) → covers_events l ++ x ≡ covers_events k ++ y → (l ≡ k) × (x ≡ y)
list_same [] [] x y e = (refl, cc)
list_same (c ∷ l) (d ∷ k) x y e =
    let place : c.place ≡ d.place = cc in
    let tails : ((events_of c.tree ++ open_events l) ++ events.EndCovers ∷ []) ++ x ≡ ((events_of d.tree ++ open_events k) ++ events.EndCovers ∷ []) ++ y = cc in
    let p = cover_same c.tree d.tree (covers_events l ++ x) (covers_events k ++ y) (sym (behind_place c.tree l x) ∙ tails ∙ behind_place d.tree k y) in
    let q = list_same l k x y p.1 in
    let front : c ≡ d = λ i. record { place = place i; tree = p.0 i } in
    (λ i. front i ∷ q.0 i, q.1)
list_same l k x y e = absurd cc

split_same : (o p : ℕ) (f g : Half) → split_event o f ≡ split_event p g → (o ≡ p) × (f ≡ g)
split_same o p (OfPlace s) (OfPlace t) e = (let object : an o ≡ an p = cc in let place : s ≡ t = cc in (ap (λ (z : ObjId). z.0) object, ap OfPlace place))
split_same o p (OfSide (Upto d v)) (OfSide (Upto f w)) e =
    let object : an o ≡ an p = cc in
    let dimension : d ≡ f = cc in
    let value : v ≡ w = cc in
    (ap (λ (z : ObjId). z.0) object, λ i. OfSide (Upto (dimension i) (value i)))
split_same o p (OfSide (From d v)) (OfSide (From f w)) e =
    let object : an o ≡ an p = cc in
    let dimension : d ≡ f = cc in
    let value : v ≡ w = cc in
    (ap (λ (z : ObjId). z.0) object, λ i. OfSide (From (dimension i) (value i)))
split_same o p (OfPlace s) (OfSide (Upto d v)) e = absurd cc
split_same o p (OfPlace s) (OfSide (From d v)) e = absurd cc
split_same o p (OfSide (Upto d v)) (OfPlace s) e = absurd cc
split_same o p (OfSide (From d v)) (OfPlace s) e = absurd cc
split_same o p (OfSide (Upto d v)) (OfSide (From f w)) e = absurd cc
split_same o p (OfSide (From d v)) (OfSide (Upto f w)) e = absurd cc

bound_same : (o p : ℕ) (f g : Side) → bound_event o f ≡ bound_event p g → (o ≡ p) × (f ≡ g)
bound_same o p (Upto d v) (Upto f w) e =
    let object : an o ≡ an p = cc in
    let dimension : d ≡ f = cc in
    let value : v ≡ w = cc in
    (ap (λ (z : ObjId). z.0) object, λ i. Upto (dimension i) (value i))
bound_same o p (From d v) (From f w) e =
    let object : an o ≡ an p = cc in
    let dimension : d ≡ f = cc in
    let value : v ≡ w = cc in
    (ap (λ (z : ObjId). z.0) object, λ i. From (dimension i) (value i))
bound_same o p (Upto d v) (From f w) e = absurd cc
bound_same o p (From d v) (Upto f w) e = absurd cc

-- which kind of node an event begins, and a list of events
abbrev kind_at : Event → ℕ
kind_at (events.SplitShape o s) = 0
kind_at (events.SplitUpto o d v) = 0
kind_at (events.SplitFrom o d v) = 0
kind_at (events.Drop o s) = 1
kind_at (events.Raise o d v) = 2
kind_at (events.Lower o d v) = 2
kind_at (events.Gone o) = 3
kind_at _ = 4

abbrev kind_before : List Event → ℕ
kind_before [] = 5
kind_before (e ∷ es) = kind_at e

abbrev kind_of : Node → ℕ
kind_of (Split o half a b) = 0
kind_of (DropNode o s tree rest) = 1
kind_of (Bound o side list rest) = 2
kind_of (GoneNode o list) = 3
kind_of (DeadNode i) = 4

kind_is : (n : Node) (x : List Event) → kind_before (node_events n ++ x) ≡ kind_of n
kind_is (Split o (OfPlace s) a b) x = refl
kind_is (Split o (OfSide (Upto d v)) a b) x = refl
kind_is (Split o (OfSide (From d v)) a b) x = refl
kind_is (DropNode o s tree rest) x = refl
kind_is (Bound o (Upto d v) list rest) x = refl
kind_is (Bound o (From d v) list rest) x = refl
kind_is (GoneNode o list) x = refl
kind_is (DeadNode i) x = refl

kinds_same : (m n : Node) (x y : List Event) → node_events m ++ x ≡ node_events n ++ y → kind_of m ≡ kind_of n
kinds_same m n x y e = sym (kind_is m x) ∙ ap kind_before e ∙ kind_is n y

node_same : (m n : Node) (x y : List Event) → node_events m ++ x ≡ node_events n ++ y → (m ≡ n) × (x ≡ y)
node_same (Split o f a b) (Split p g c d) x y e =
    let first : split_event o f ≡ split_event p g = cc in
    let tails : (node_events a ++ node_events b) ++ x ≡ (node_events c ++ node_events d) ++ y = cc in
    let h = split_same o p f g first in
    let l = node_same a c (node_events b ++ x) (node_events d ++ y) (parts (node_events a) (node_events b) x (node_events c) (node_events d) y tails) in
    let r = node_same b d x y l.1 in
    (λ i. Split (h.0 i) (h.1 i) (l.0 i) (r.0 i), r.1)
node_same (DropNode o s t a) (DropNode p r u b) x y e =
    let tails : (events_of t ++ node_events a) ++ x ≡ (events_of u ++ node_events b) ++ y = cc in
    let object : an o ≡ an p = cc in
    let place : s ≡ r = cc in
    let c = cover_same t u (node_events a ++ x) (node_events b ++ y) (parts (events_of t) (node_events a) x (events_of u) (node_events b) y tails) in
    let n = node_same a b x y c.1 in
    (λ i. DropNode ((object i).0) (place i) (c.0 i) (n.0 i), n.1)
node_same (Bound o f l a) (Bound p g k b) x y e =
    let first : bound_event o f ≡ bound_event p g = cc in
    let tails : (covers_events l ++ node_events a) ++ x ≡ (covers_events k ++ node_events b) ++ y = cc in
    let h = bound_same o p f g first in
    let c = list_same l k (node_events a ++ x) (node_events b ++ y) (parts (covers_events l) (node_events a) x (covers_events k) (node_events b) y tails) in
    let n = node_same a b x y c.1 in
    (λ i. Bound (h.0 i) (h.1 i) (c.0 i) (n.0 i), n.1)
node_same (GoneNode o l) (GoneNode p k) x y e =
    let tails : covers_events l ++ x ≡ covers_events k ++ y = cc in
    let object : an o ≡ an p = cc in
    let c = list_same l k x y tails in
    (λ i. GoneNode ((object i).0) (c.0 i), c.1)
node_same (DeadNode j) (DeadNode k) x y e = (let same : j ≡ k = cc in ap DeadNode same, cc)
node_same m n x y e = (let kinds = kinds_same m n x y e in absurd (omega arith))

-- the trees of a text of the grammar are one
pub one_tree : (L : Lookup) (ws : List Lexeme) (a b : Node) → TextWords L a ws → TextWords L b ws → a ≡ b
one_tree L ws a b x y =
    let first = text_spells L ws (node_events a) (record { root = a; words = x; events = refl }) in
    let second = text_spells L ws (node_events b) (record { root = b; words = y; events = refl }) in
    (node_same a b [] [] (ap (λ (z : List Event). z ++ []) (same_left first second).1)).0
