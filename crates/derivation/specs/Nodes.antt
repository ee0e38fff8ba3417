-- Derivations as trees of nodes, and their events in text order.
use Rattle.std.specs.Prelude.{ℕ, suc, ◌+◌, ◌<◌, List, [], ◌∷◌, ◌++◌}
use Rattle.derivation.specs.declared.event.Event.{Event}
use Rattle.derivation.specs.declared.event.Event.TheVariants.{SplitShape, SplitUpto, SplitFrom, Drop, Gone, Dead}
use Rattle.derivation.specs.declared.side.Side.{Side}
use Rattle.derivation.specs.declared.side.Side.TheVariants.{Upto, From}
use Rattle.derivation.specs.declared.half.Half.{Half}
use Rattle.derivation.specs.declared.half.Half.TheVariants.{OfPlace, OfSide}
use Rattle.derivation.specs.Covers.{CoverTree, events_of}
use Rattle.derivation.specs.PlaceCovers.{PlaceCover, covers_events}
use Rattle.derivation.specs.Chains.{bound_event}

-- A node splits what is left to an object, and both parts are derivations; or it drops a place or moves a bound, shows by covers that
-- nothing is lost, and the rest is one; or it ends: an object has no point, or a condition is refuted.
pub data Node : Type 0 where
  Split : (o : ℕ) → (half : Half) → (a b : Node) → Node
  DropNode : (o s : ℕ) → (tree : CoverTree) → (rest : Node) → Node
  Bound : (o : ℕ) → (side : Side) → (list : List PlaceCover) → (rest : Node) → Node
  GoneNode : (o : ℕ) → (list : List PlaceCover) → Node
  DeadNode : (i : ℕ) → Node

-- the event of a split
abbrev pub split_event : ℕ → Half → Event
split_event o (OfPlace s) = SplitShape (record { 0 = o }) s
split_event o (OfSide (Upto d v)) = SplitUpto (record { 0 = o }) d v
split_event o (OfSide (From d v)) = SplitFrom (record { 0 = o }) d v

abbrev pub node_events : Node → List Event
node_events (Split o half a b) = split_event o half ∷ (node_events a ++ node_events b)
node_events (DropNode o s tree rest) = Drop (record { 0 = o }) s ∷ (events_of tree ++ node_events rest)
node_events (Bound o side list rest) = bound_event o side ∷ (covers_events list ++ node_events rest)
node_events (GoneNode o list) = Gone (record { 0 = o }) ∷ covers_events list
node_events (DeadNode i) = Dead i ∷ []

-- how many nodes there are
abbrev pub size : Node → ℕ
size (Split o half a b) = suc (size a + size b)
size (DropNode o s tree rest) = suc (size rest)
size (Bound o side list rest) = suc (size rest)
size (GoneNode o list) = 1
size (DeadNode i) = 1

-- each object that the nodes name is below n
abbrev pub IsOver : ℕ → Node → Type 0
IsOver n (Split o half a b) = (o < n) × IsOver n a × IsOver n b
IsOver n (DropNode o s tree rest) = (o < n) × IsOver n rest
IsOver n (Bound o side list rest) = (o < n) × IsOver n rest
IsOver n (GoneNode o list) = o < n
IsOver n (DeadNode i) = Unit {0}
