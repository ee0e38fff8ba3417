-- The conditions that a node gives.
use Rattle.std.proofs.Common.{◌≡◌, ℕ, Bool, true, false, cond, List, [], ◌∷◌, ◌++◌, length, map, ℤ, sym, ap, ◌∙◌, refl, arith}
use Rattle.std.specs.List.{flat_map}
use Rattle.std.proofs.lemmas.List.{length-map}
use Rattle.geo_conditions.specs.declared.cond.Cond.{Cond, AtLeast}
use Rattle.geo_conditions.specs.declared.cond.Conds.{Conds}
use Rattle.linear_conditions.specs.CondTree.{CondTree, at_least, conds, cond_view}
use Rattle.linear_conditions.proofs.CondViews.{view-at_least}
use Rattle.rule_ground.specs.Rules.{tree_length, is_count, conds_of, conds_of_each}

tree-length : (xs : List CondTree) → tree_length (conds xs) ≡ length xs
tree-length [] = refl
tree-length (x ∷ xs) = omega (arith, tree-length xs)

each-flat : (xs : List CondTree) → conds_of_each (conds xs) ≡ flat_map conds_of xs
each-flat [] = refl
each-flat (x ∷ xs) = ap (λ l. conds_of x ++ l) (each-flat xs)

node-flat : (n : ℤ) (xs : List CondTree) (m : ℕ) (b : Bool) → length xs ≡ m → b ≡ is_count n m → conds_of (at_least n (conds xs)) ≡ cond b (flat_map conds_of xs) (at_least n (conds xs) ∷ [])
node-flat n xs m b e h =
    ap (λ c. cond c (conds_of_each (conds xs)) (at_least n (conds xs) ∷ [])) (ap (is_count n) (tree-length xs ∙ e) ∙ sym h)
    ∙ ap (λ l. cond b l (at_least n (conds xs) ∷ [])) (each-flat xs)

-- all of whose children must hold
pub flat-each : (c : Cond) (n : ℤ) (children : Conds) (m : ℕ) (b : Bool) → c ≡ AtLeast n children → m ≡ length children.items.items → b ≡ is_count n m → b ≡ true → conds_of (cond_view c) ≡ flat_map conds_of (map cond_view children.items.items)
flat-each c n children m b e l h t =
    ap (λ x. conds_of (cond_view x)) e ∙ ap conds_of (view-at_least n children)
    ∙ node-flat n (map cond_view children.items.items) m b (length-map children.items.items cond_view ∙ sym l) h
    ∙ ap (λ x. cond x (flat_map conds_of (map cond_view children.items.items)) (at_least n (conds (map cond_view children.items.items)) ∷ [])) t

pub flat-whole : (c : Cond) (n : ℤ) (children : Conds) (m : ℕ) (b : Bool) → c ≡ AtLeast n children → m ≡ length children.items.items → b ≡ is_count n m → b ≡ false → conds_of (cond_view c) ≡ cond_view c ∷ []
flat-whole c n children m b e l h t =
    let v = ap cond_view e ∙ view-at_least n children in
    ap conds_of v
    ∙ node-flat n (map cond_view children.items.items) m b (length-map children.items.items cond_view ∙ sym l) h
    ∙ ap (λ x. cond x (flat_map conds_of (map cond_view children.items.items)) (at_least n (conds (map cond_view children.items.items)) ∷ [])) t
    ∙ ap (λ x. x ∷ []) (sym v)

pub copied-node : (c : Cond) (n : ℤ) (children list : Conds) (d : Cond) → c ≡ AtLeast n children → map cond_view list.items.items ≡ map cond_view children.items.items → cond_view d ≡ at_least n (conds (map cond_view list.items.items)) → cond_view d ≡ cond_view c
copied-node c n children list d e h g = g ∙ ap (λ xs. at_least n (conds xs)) h ∙ sym (ap cond_view e ∙ view-at_least n children)
