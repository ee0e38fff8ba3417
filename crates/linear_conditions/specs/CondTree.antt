-- Conditions as plain trees: what the program's conditions stand for, and their truth on a tuple.
use Rattle.std.specs.Prelude.{ℕ, ◌+◌, ◌==◌, not, Bool, List, [], ◌∷◌, ℤ, pos}
use lib.Signed.{le_z}
use Rattle.geo_base.specs.Tuple.{Tuple, spot}
use Rattle.geo_conditions.specs.Form.{Sum}
use Rattle.geo_conditions.specs.Reach.{count}
use Rattle.geo_conditions.specs.Conditions.{value}
use Rattle.geo_conditions.specs.declared.cond.Cond.{Cond, Lin, Shape, NotShape, AtLeast', Row_of-Cond, end_of-Cond, more_of-Cond}

-- a condition. Objects count from 0, places of shapes from 1
mutual
  pub data CondTree : Type 0 where
    linear : Sum → CondTree
    shape_is : (object place : ℕ) → CondTree
    shape_is_not : (object place : ℕ) → CondTree
    at_least : ℤ → CondTrees → CondTree

  pub data CondTrees : Type 0 where
    no_conds : CondTrees
    a_cond : CondTree → CondTrees → CondTrees

abbrev pub conds : List CondTree → CondTrees
conds [] = no_conds
conds (c ∷ cs) = a_cond c (conds cs)

abbrev mutual
  -- what a condition of the program stands for
  pub cond_view : Cond → CondTree
  cond_view (Lin f) = linear f
  cond_view (Shape o s) = shape_is o.0 s
  cond_view (NotShape o s) = shape_is_not o.0 s
  cond_view (AtLeast' n shape cs) = at_least n (row_view cs)

  pub row_view : {m : _} → Row_of-Cond m → CondTrees
  row_view end_of-Cond = no_conds
  row_view (more_of-Cond c cs) = a_cond (cond_view c) (row_view cs)

abbrev mutual
  -- the condition is true on the tuple
  pub true_on : Tuple → CondTree → Bool
  true_on t (linear f) = le_z (value f t) (pos 0)
  true_on t (shape_is o s) = (spot t o).place == s
  true_on t (shape_is_not o s) = not ((spot t o).place == s)
  true_on t (at_least n cs) = le_z n (pos (true_count t cs))

  -- how many of the conditions are true on the tuple
  pub true_count : Tuple → CondTrees → ℕ
  true_count t no_conds = 0
  true_count t (a_cond c cs) = count (true_on t c) + true_count t cs
