-- The program's conditions and their trees: the same truth, and the same children.
use Rattle.std.proofs.Common.{◌≡◌, ℕ, ◌+◌, List, [], ◌∷◌, ◌++◌, map, refl, ap, ◌∙◌, ℤ, pos}
use mathlib.Core.Former.{Count}
use lib.Signed.{le_z}
use Rattle.geo_base.specs.Tuple.{Tuple}
use Rattle.geo_conditions.specs.declared.cond.Cond.{Row_of-Cond, end_of-Cond, more_of-Cond, items-the_row-Cond, items_hidden-the_row-Cond-0, Cond, AtLeast, AtLeast', Lin, Shape, NotShape}
use Rattle.geo_conditions.specs.declared.cond.Conds.{Conds}
use Rattle.geo_conditions.specs.Reach.{count}
use Rattle.geo_conditions.specs.Conditions.{holds, how_many_hold}
use Rattle.linear_conditions.specs.CondTree.{at_least, a_cond, conds, cond_view, row_view, true_on, true_count}

mutual
  pub view-true : (t : Tuple) (c : Cond) → true_on t (cond_view c) ≡ holds c t
  view-true t (Lin f) = refl
  view-true t (Shape o s) = refl
  view-true t (NotShape o s) = refl
  view-true t (AtLeast' n shape cs) = ap (λ (m : ℕ). le_z n (pos m)) (row-true t cs)

  row-true : (t : Tuple) {m : Count} (cs : Row_of-Cond m) → true_count t (row_view cs) ≡ how_many_hold cs t
  row-true t end_of-Cond = refl
  row-true t (more_of-Cond c cs) = λ i. count (view-true t c i) + row-true t cs i

row_of : Cond → (n : Count) × Row_of-Cond n
row_of (AtLeast' n shape row) = (_, row)
row_of _ = (_, end_of-Cond)

row-conds : (n : Count) (row : Row_of-Cond n) → row_view row ≡ conds (map cond_view (items-the_row-Cond n row))
row-conds n end_of-Cond = refl
row-conds n (more_of-Cond c cs) = ap (a_cond (cond_view c)) (row-conds _ cs)

-- a node's children
pub view-at_least : (n : ℤ) (children : Conds) → cond_view (AtLeast n children) ≡ at_least n (conds (map cond_view children.items.items))
unfolding row_of
view-at_least n children =
    let row = row_of (AtLeast n children) in
    ap (at_least n) (row-conds row.0 row.1)
    ∙ ap (λ (xs : List Cond). at_least n (conds (map cond_view xs))) (items_hidden-the_row-Cond-0 children.items)

-- two children, put in one after another
pub two-made : (xs ys zs : List Cond) (a b : Cond) → xs ≡ [] → ys ≡ xs ++ a ∷ [] → zs ≡ ys ++ b ∷ [] → map cond_view zs ≡ cond_view a ∷ (cond_view b ∷ [])
two-made xs ys zs a b x y z = ap (map cond_view) (z ∙ ap (λ (q : List Cond). q ++ b ∷ []) (y ∙ ap (λ (q : List Cond). q ++ a ∷ []) x))
