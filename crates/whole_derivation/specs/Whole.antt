-- Whole derivations: the events of one tree that is valid on a state, and that speaks of what exists there.
use Rattle.std.specs.Prelude.{◌≡◌, ◌<◌, ◌≤◌, ◌++◌, true, ℕ, List, [], ◌∷◌, length}
use Rattle.geo_conditions.specs.declared.cond.Cond.{Cond}
use Rattle.geo_conditions.specs.Reach.{State, has, dims}
use Rattle.derivation.specs.declared.event.Event.{Event}
use Rattle.derivation.specs.declared.half.Half.{Half}
use Rattle.derivation.specs.declared.half.Half.TheVariants.{OfPlace, OfSide}
use Rattle.derivation.specs.Covers.{IsCut, HasNumbersIn}
use Rattle.derivation.specs.PlaceCovers.{PlaceCover}
use Rattle.derivation.specs.Nodes.{Node, Split, DropNode, Bound, GoneNode, DeadNode, node_events}
use Rattle.derivation.specs.Valid.{Valid}

-- the object has the place, or the cut is one in its dimensions
abbrev pub HalfFits : State → ℕ → Half → Type 0
HalfFits S o (OfPlace s) = has S o s ≡ true
HalfFits S o (OfSide side) = (o < length S) × IsCut (dims S o) side

-- the object has the places of the covers, and their trees have cuts in its dimensions and numbers of m conditions
abbrev pub CoversFit : State → ℕ → ℕ → List PlaceCover → Type 0
CoversFit S m o [] = Unit {0}
CoversFit S m o (c ∷ more) = (has S o c.place ≡ true) × HasNumbersIn (dims S o) m c.tree × CoversFit S m o more

-- what the nodes name exists on S, where there are m conditions
abbrev pub NodeFits : State → ℕ → Node → Type 0
NodeFits S m (Split o half a b) = HalfFits S o half × NodeFits S m a × NodeFits S m b
NodeFits S m (DropNode o s tree rest) = (has S o s ≡ true) × HasNumbersIn (dims S o) m tree × NodeFits S m rest
NodeFits S m (Bound o side list rest) = (o < length S) × IsCut (dims S o) side × CoversFit S m o list × NodeFits S m rest
NodeFits S m (GoneNode o list) = (o < length S) × CoversFit S m o list
NodeFits S m (DeadNode i) = i ≤ m

-- the events are one derivation, which is valid on S
pub record IsDerivation (cs : List Cond) (S : State) (es : List Event) : Type 0 where
  pub root : Node
  pub events : es ≡ node_events root
  pub valid : Valid cs S root
  pub fits : NodeFits S (length cs) root

-- from S the events lead to T: with a derivation of T behind them they are one of S
abbrev pub Completes : List Cond → State → List Event → State → Type 0
Completes cs S es T = (fs : List Event) → IsDerivation cs T fs → IsDerivation cs S (es ++ fs)
