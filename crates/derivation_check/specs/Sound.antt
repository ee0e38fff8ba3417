-- What a valid derivation shows: that a state has no solution.
use Rattle.std.specs.Prelude.{◌≤◌, List}
use Rattle.geo_conditions.specs.declared.cond.Cond.{Cond}
use Rattle.geo_conditions.specs.Reach.{State, Tuple, TupleIn}
use Rattle.geo_conditions.specs.Conditions.{AllFit, AllHold}
use Rattle.derivation.specs.declared.half.Half.{Half}
use Rattle.derivation.specs.declared.half.Half.TheVariants.{OfPlace, OfSide}
use Rattle.derivation.specs.Nodes.{Node, Split, DropNode, Bound, GoneNode, DeadNode}

-- the conditions name only objects and dimensions of S, and a tuple inside S makes each of them true
pub record Solves (cs : List Cond) (S : State) (t : Tuple) : Type 0 where
  pub fits : AllFit cs S
  pub inside : TupleIn t S
  pub holds : AllHold cs t

-- places count from 1
abbrev pub HasPlace : Half → Type 0
HasPlace (OfPlace s) = 1 ≤ s
HasPlace (OfSide side) = Unit {0}

abbrev pub HasPlaces : Node → Type 0
HasPlaces (Split o half a b) = HasPlace half × HasPlaces a × HasPlaces b
HasPlaces (DropNode o s tree rest) = (1 ≤ s) × HasPlaces rest
HasPlaces (Bound o side list rest) = HasPlaces rest
HasPlaces (GoneNode o list) = Unit {0}
HasPlaces (DeadNode i) = Unit {0}
