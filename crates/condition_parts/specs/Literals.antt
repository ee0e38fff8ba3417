-- Literals of which one is enough.
use Rattle.std.specs.Prelude.{◌≡◌, ◌||◌, Bool, List}
use Rattle.std.specs.List.{list_any}
use Rattle.geo_conditions.specs.declared.cond.Cond.{Cond}
use Rattle.geo_conditions.specs.Reach.{State}
use Rattle.geo_conditions.specs.Conditions.{possible, FitsIn, AllFit}

-- one of the conditions is possible
abbrev pub some_possible : List Cond → State → Bool
some_possible cs S = list_any (λ c. possible c S) cs

-- one of the new conditions is possible where one of the old ones is, or c; and they name only what those name
pub record AddsTo (c : Cond) (old new : List Cond) : Type 0 where
  pub same : (S : State) → some_possible new S ≡ (some_possible old S || possible c S)
  pub fit : (S : State) → AllFit old S → FitsIn c S → AllFit new S

-- the same with some conditions in the place of one
pub record AddsAll (cs old new : List Cond) : Type 0 where
  pub same : (S : State) → some_possible new S ≡ (some_possible old S || some_possible cs S)
  pub fit : (S : State) → AllFit old S → AllFit cs S → AllFit new S

-- c is possible where one of the literals is, and names only what they name
pub record IsOneOf (literals : List Cond) (c : Cond) : Type 0 where
  pub same : (S : State) → possible c S ≡ some_possible literals S
  pub fit : (S : State) → AllFit literals S → FitsIn c S
