-- The linear conditions of a comparison, by the difference of its two sides. Each says that a form is at most 0.
use Rattle.std.specs.Prelude.{◌≡◌, ◌||◌, not, Bool, true, false, List, [], ◌∷◌, pos, negsuc}
use Rattle.rule_syntax.specs.declared.tree.Rel.{Rel}
use Rattle.rule_syntax.specs.declared.tree.Rel.TheVariants.{Lt, Le, Eq, Ne, Ge, Gt}
use Rattle.geo_conditions.specs.Form.{Sum, IsForm}
use Rattle.linear_conditions.specs.Sums.{add_sums, scale, constant_sum, has_terms, fits_sum}

abbrev pub negated : Sum → Sum
negated f = scale (negsuc 0) f

abbrev pub difference : Sum → Sum → Sum
difference f g = add_sums f (negated g)

abbrev pub plus_one : Sum → Sum
plus_one f = add_sums f (constant_sum (pos 1))

-- all of the forms must be at most 0, or one of them
pub record Leaves : Type 0 where
  pub all : Bool
  pub forms : List Sum

abbrev pub leaves_of : Rel → Sum → Leaves
leaves_of Le f = record { all = true; forms = f ∷ [] }
leaves_of Lt f = record { all = true; forms = plus_one f ∷ [] }
leaves_of Ge f = record { all = true; forms = negated f ∷ [] }
leaves_of Gt f = record { all = true; forms = plus_one (negated f) ∷ [] }
leaves_of Eq f = record { all = true; forms = f ∷ (negated f ∷ []) }
leaves_of Ne f = record { all = false; forms = plus_one f ∷ (plus_one (negated f) ∷ []) }

-- a leaf's form is within the bounds; one without terms is no leaf
abbrev pub leaf_fits : Sum → Bool
leaf_fits f = not (has_terms f) || fits_sum f

-- a sum that is a form, if it has terms
abbrev pub IsLeaf : Sum → Type 0
IsLeaf f = has_terms f ≡ true → IsForm f.terms f.constant

abbrev pub AreLeaves : List Sum → Type 0
AreLeaves [] = Unit {0}
AreLeaves (f ∷ fs) = IsLeaf f × AreLeaves fs

-- the comparison that is true where the other one is false
abbrev pub opposite : Rel → Rel
opposite Le = Gt
opposite Lt = Ge
opposite Ge = Lt
opposite Gt = Le
opposite Eq = Ne
opposite Ne = Eq

-- a comparison under a sign: true for plus
abbrev pub under : Bool → Rel → Rel
under true rel = rel
under false rel = opposite rel
