-- Going down from a state: what is kept, and a size that falls.
use Rattle.std.specs.Prelude.{ℕ, ◌+◌, ◌-◌, List, [], ◌∷◌, ℤ}
use borrow.Author.Differences.{up, down}
use Rattle.geo_conditions.specs.declared.cond.Cond.{Cond}
use Rattle.geo_conditions.specs.Reach.{State, Reach, how_many, Inside}
use Rattle.geo_conditions.specs.Supported.{IsSupported}

-- R lies inside S, and loses no supported state
pub record Keeps (cs : List Cond) (S R : State) : Type 0 where
  pub inside : Inside R S
  pub all : (T : State) → IsSupported cs T → Inside T S → Inside T R

-- how far x is above l
abbrev pub gap : ℤ → ℤ → ℕ
gap l x = (up x + down l) - (up l + down x)

abbrev pub widths : List ℤ → List ℤ → ℕ
widths [] hs = 0
widths (l ∷ ls) [] = 0
widths (l ∷ ls) (h ∷ hs) = gap l h + widths ls hs

abbrev pub weight : Reach → ℕ
weight r = how_many r.places + widths r.region.lo r.region.hi

abbrev pub size : State → ℕ
size [] = 0
size (r ∷ S) = weight r + size S
