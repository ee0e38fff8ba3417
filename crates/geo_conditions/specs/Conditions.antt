-- Conditions: their truth on a tuple, and whether they are possible on a state.
use Rattle.std.specs.Prelude.{◌≡◌, true, false, ℕ, ◌+◌, ◌<◌, Bool, not, ◌==◌, List, [], ◌∷◌, length, ℤ, pos, negsuc, ◌+ℤ◌, ◌*ℤ◌}
use Rattle.std.specs.List.{All}
use lib.Signed.{le_z}
use Rattle.geo_conditions.specs.declared.form.Term.{Term}
use Rattle.geo_conditions.specs.Form.{Sum}
use Rattle.geo_conditions.specs.declared.cond.Cond.{Cond, Lin, Shape, NotShape, AtLeast', Row_of-Cond, end_of-Cond, more_of-Cond}
use Rattle.geo_base.specs.Boxes.{coordinate}
use Rattle.geo_conditions.specs.Reach.{State, Tuple, Exists, has, low, high, is_only, count, reach, spot}

-- the factor times the one end or the other, by the factor's sign
abbrev pub least_product : ℤ → ℤ → ℤ → ℤ
least_product (pos n) lo hi = pos n *ℤ lo
least_product (negsuc n) lo hi = negsuc n *ℤ hi

-- the sum over the terms, each at its own value
abbrev pub sum_of : (Term → ℤ) → List Term → ℤ
sum_of f [] = pos 0
sum_of f (t ∷ ts) = f t +ℤ sum_of f ts

-- the value of the form on the tuple
abbrev pub value : Sum → Tuple → ℤ
value f t =
    f.constant +ℤ sum_of (λ a. a.factor *ℤ coordinate (spot t a.object.0).origin a.dimension) f.terms

-- the least value of the term on the state
abbrev pub least_term : State → Term → ℤ
least_term S a = least_product a.factor (low S a.object.0 a.dimension) (high S a.object.0 a.dimension)

-- the least value of the form on the state
abbrev pub least_value : Sum → State → ℤ
least_value f S = f.constant +ℤ sum_of (least_term S) f.terms

abbrev mutual
  -- the condition is true on the tuple
  pub holds : Cond → Tuple → Bool
  holds (Lin f) t = le_z (value f t) (pos 0)
  holds (Shape o s) t = (spot t o.0).place == s
  holds (NotShape o s) t = not ((spot t o.0).place == s)
  holds (AtLeast' n shape cs) t = le_z n (pos (how_many_hold cs t))

  pub how_many_hold : {m : _} → Row_of-Cond m → Tuple → ℕ
  how_many_hold end_of-Cond t = 0
  how_many_hold (more_of-Cond c cs) t = count (holds c t) + how_many_hold cs t

abbrev mutual
  -- the condition is possible on the state. Where it is not, it is refuted
  pub possible : Cond → State → Bool
  possible (Lin f) S = le_z (least_value f S) (pos 0)
  possible (Shape o s) S = has S o.0 s
  possible (NotShape o s) S = not (is_only (reach S o.0).places s)
  possible (AtLeast' n shape cs) S = le_z n (pos (how_many_possible cs S))

  pub how_many_possible : {m : _} → Row_of-Cond m → State → ℕ
  how_many_possible end_of-Cond S = 0
  how_many_possible (more_of-Cond c cs) S = count (possible c S) + how_many_possible cs S

abbrev mutual
  -- the condition names only objects and dimensions of S
  pub FitsIn : Cond → State → Type 0
  FitsIn (Lin f) S = All (λ a. Exists S a.object.0 a.dimension) f.terms
  FitsIn (Shape o s) S = o.0 < length S
  FitsIn (NotShape o s) S = o.0 < length S
  FitsIn (AtLeast' n shape cs) S = AllFitIn cs S

  pub AllFitIn : {m : _} → Row_of-Cond m → State → Type 0
  AllFitIn end_of-Cond S = Unit {0}
  AllFitIn (more_of-Cond c cs) S = FitsIn c S × AllFitIn cs S

-- the condition is refuted on the state: it is not possible
abbrev pub IsRefuted : Cond → State → Type 0
IsRefuted c S = possible c S ≡ false

-- the conditions name only objects and dimensions of S
abbrev pub AllFit : List Cond → State → Type 0
AllFit cs S = All (λ c. FitsIn c S) cs

-- each of the conditions is true on the tuple
abbrev pub AllHold : List Cond → Tuple → Type 0
AllHold cs t = All (λ c. holds c t ≡ true) cs
