-- The full members of a walk of a problem are its layouts.
use Rattle.std.proofs.Common.{◌≡◌, ℤ, true, List, [], ◌∷◌, ◌++◌, map, sym, ap, ◌∙◌, subst, refl}
use Rattle.std.specs.Prelude.{All, filter}
use Rattle.std.proofs.lemmas.List.Elements.{All-cons, All-filter, All-head, All-nil, All-tail, filter_passes}
use Rattle.geo_base.specs.Tuple.{Tuple}
use Rattle.geo_conditions.specs.Walk.{Tree, IsFront, IsIn, IsWalk, is_full, values}
use Rattle.geo_conditions.proofs.Tokens.{every_walk}
use Rattle.layout_search.proofs.Members.{member-layout, values-tell}
use Rattle.layout_search.proofs.States.{state-is}
use Rattle.problem_data.specs.Problem.{ProblemData}
use Rattle.problem_data.specs.Cells.{IsWideTuple, IsShaped}
use Rattle.problem_data.specs.Layouts.{IsLayout}
use Rattle.problem_data.specs.WellFormed.{IsWellFormed}
use Rattle.rule_ground.specs.Order.{order_of}
use Rattle.rule_ground.specs.Start.{first_state}
use Rattle.rule_ground.proofs.Starts.{names-each}
use Rattle.layout_search.specs.Page.{IsWalkOf}

-- a tuple has the form of one
pub shaped-tuple : (p : ProblemData) (t : Tuple) → IsWideTuple p t → IsShaped p t
shaped-tuple p t h = record { objects = h.objects; each = λ o l. (h.each o l).form }

pub all-back : {X : Type 0} (P : X → Type 0) (xs ys : List X) → All P (xs ++ ys) → All P ys
all-back P [] ys h = h
all-back P (x ∷ xs) ys h = all-back P xs ys (All-tail P x (xs ++ ys) h)

-- the full members of a front
pub full-members : (W : Tree) (w : List (List ℤ)) → IsFront W w → All (λ q. IsIn W q × (is_full W q ≡ true)) (filter (is_full W) w)
full-members W w front = λ k d b. (All-filter (is_full W) (IsIn W) w front.members k d b, filter_passes (is_full W) w k d b)

module _ (p : ProblemData) (W : Tree) (well : IsWellFormed p) (of : IsWalkOf p W) where
  pub one-layout : (q : List ℤ) → IsIn W q → is_full W q ≡ true → (t : Tuple) × IsLayout p t × (values W.variables t ≡ q)
  one-layout q m full =
      let (cs, past, are, e) = of in
      let h = member-layout p cs past q well are (subst (λ (V : Tree). IsIn V q) e m) (subst (λ (V : Tree). is_full V q ≡ true) e full) in
      (h.0, h.1, ap (λ (V : Tree). values V.variables h.0) e ∙ h.2)

  pub tell : (t u : Tuple) → IsWideTuple p t → IsWideTuple p u → values W.variables t ≡ values W.variables u → t ≡ u
  tell t u a b h = let (cs, past, are, e) = of in values-tell p t u well a b (subst (λ (V : Tree). values V.variables t ≡ values V.variables u) e h)

  pub layouts-of : (found : List (List ℤ)) → All (λ q. IsIn W q × (is_full W q ≡ true)) found → (ts : List Tuple) × All (IsLayout p) ts × (map (values W.variables) ts ≡ found)
  layouts-of [] h = ([], All-nil (IsLayout p), refl)
  layouts-of (q ∷ qs) h =
      let own = All-head (λ r. IsIn W r × (is_full W r ≡ true)) q qs h in
      let a = one-layout q own.0 own.1 in
      let r = layouts-of qs (All-tail (λ r. IsIn W r × (is_full W r ≡ true)) q qs h) in
      (a.0 ∷ r.0, All-cons (IsLayout p) a.0 r.0 a.1 r.1, λ i. a.2 i ∷ r.2 i)

  pub the-walk : (w : List (List ℤ)) × IsWalk W w
  the-walk =
      let (cs, past, are, e) = of in
      let h = every_walk p.dims cs (first_state p) (order_of p) past (state-is p well) (names-each p well) in
      (h.0, subst (λ (V : Tree). IsWalk V h.0) (sym e) h.1)
