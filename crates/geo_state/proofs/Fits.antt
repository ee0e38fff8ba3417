-- What fits a state fits each state inside it.
use Rattle.std.proofs.Common.{List, get_or, arith}
use Rattle.std.specs.List.{All}
use Rattle.geo_conditions.specs.declared.cond.Cond.{Cond, Lin, Shape, NotShape, AtLeast', Row_of-Cond, end_of-Cond, more_of-Cond}
use Rattle.geo_conditions.specs.Conditions.{FitsIn, AllFitIn}
use Rattle.geo_conditions.specs.Reach.{State, Inside}

mutual
  -- a condition
  pub fits_inside : (c : Cond) (S R : State) → Inside R S → FitsIn c S → FitsIn c R
  fits_inside (Lin f) S R i h = λ k d b. (omega (arith, i.objects, (h k d b).0), omega (arith, (i.each (get_or f.terms k d).object.0).same_lo, (h k d b).1))
  fits_inside (Shape o s) S R i h = omega (arith, i.objects)
  fits_inside (NotShape o s) S R i h = omega (arith, i.objects)
  fits_inside (AtLeast' n shape cs) S R i h = row_inside cs S R i h

  row_inside : {m : _} → (cs : Row_of-Cond m) (S R : State) → Inside R S → AllFitIn cs S → AllFitIn cs R
  row_inside end_of-Cond S R i h = tt
  row_inside (more_of-Cond c cs) S R i h = (fits_inside c S R i h.0, row_inside cs S R i h.1)

-- a list of conditions
pub all_fit : (cs : List Cond) (S R : State) → Inside R S → All (λ c. FitsIn c S) cs → All (λ c. FitsIn c R) cs
all_fit cs S R i h k d b = fits_inside (get_or cs k d) S R i (h k d b)
