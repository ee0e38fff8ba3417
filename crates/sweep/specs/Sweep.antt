-- What a sweep promises.
use Rattle.std.specs.Prelude.{◌≡◌, ◌&&◌, ℕ, nat_eq, Bool, true, false, ℤ, pos, negsuc, ◌+ℤ◌, List, ◌++◌}
use Rattle.std.specs.List.{list_any}
use Rattle.geo_base.specs.Boxes.{coordinate}
use Rattle.geo_conditions.specs.declared.cond.Cond.{Cond}
use Rattle.geo_conditions.specs.Reach.{State, Region, with_at}
use Rattle.derivation.specs.declared.event.Event.{Event}
use Rattle.derivation.specs.Cuts.{part_upto, part_from}
use Rattle.derivation.specs.Covers.{CoverTree, events_of, covers, refutes, HasCutsIn, NamesOnly}

-- the part of the box whose coordinate in the lead dimension comes before that of p
abbrev pub part_before : ℕ → Bool → List ℤ → Region → Region
part_before lead true p b = part_upto b lead (coordinate p lead +ℤ negsuc 0)
part_before lead false p b = part_from b lead (coordinate p lead +ℤ pos 1)

-- Behind the old events, the new ones are a cover of the box b of o at the place s, on S under the conditions. Its leaves name numbers
-- that were picked, and its cuts are within k dimensions.
pub record IsCovered (k : ℕ) (cs : List Cond) (picks : List ℕ) (S : State) (o s : ℕ) (b : Region) (old new : List Event) : Type 0 where
  pub tree : CoverTree
  pub events : new ≡ old ++ events_of tree
  pub covers : covers cs S o s b tree ≡ true
  pub cuts : HasCutsIn k tree
  pub names : NamesOnly picks b tree

-- the number i was picked, and its condition is refuted with o at the place s in the box from lo to hi
abbrev pub refutes_pick : List Cond → List ℕ → State → ℕ → ℕ → ℕ → List ℤ → List ℤ → Bool
refutes_pick cs picks S o s i lo hi = list_any (nat_eq i) picks && refutes cs i (with_at S o s (record { lo = lo; hi = hi }))
