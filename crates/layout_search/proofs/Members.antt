-- A full member of a walk of a problem, under any conditions that fit it, has the values of a tuple
-- of its hulls.
use Rattle.std.proofs.Common.{◌≡◌, ℤ, true, List, [], ◌∷◌, ◌++◌, length, refl, sym, ap, ◌∙◌, subst, arith, Option, Some}
use Rattle.std.specs.Prelude.{All, Contains}
use Rattle.std.specs.Option.{option_map}
use Rattle.std.proofs.lemmas.Bool.Decides.{nat_tests}
use Rattle.std.proofs.lemmas.List.Elements.{Contains-append_right}
use Rattle.geo_base.specs.Tuple.{Tuple}
use Rattle.geo_conditions.specs.declared.cond.Cond.{Cond}
use Rattle.geo_conditions.specs.Conditions.{AllFit, AllHold}
use Rattle.geo_conditions.specs.Reach.{State}
use Rattle.geo_conditions.specs.Walk.{Tree, Order, values, variables_in, is_full, IsIn, IsFront}
use Rattle.geo_conditions.proofs.Layouts.{member_is_layout, values_tell}
use Rattle.problem_data.specs.Problem.{ProblemData}
use Rattle.problem_data.specs.Cells.{IsWideTuple}
use Rattle.problem_data.specs.Layouts.{IsLayout}
use Rattle.problem_data.specs.WellFormed.{IsWellFormed}
use Rattle.rule_ground.specs.Order.{order_of, variables_for}
use Rattle.rule_ground.specs.Start.{first_state}
use Rattle.rule_ground.proofs.Starts.{names-each, tuples-are}
use Rattle.trail_search.specs.Next.{SearchView, Answers}
use Rattle.trail_search.specs.declared.step.Step.TheVariants.{Found}
use Rattle.layout_search.specs.FirstLayout.{AreConditionsOf, walk_past, walk_after}
use Rattle.layout_search.specs.Found.{HasFoundIn}
use Rattle.layout_search.proofs.States.{state-is}

pub at-element : {X : Type 0} (P : X → Type 0) (xs : List X) (x : X) → All P xs → Contains xs x → P x
at-element P xs x all (k, b, e) = subst P e (all k x b)

-- the walk of a problem whose parts are these
pub same-walk : (p : ProblemData) (cs ds : List Cond) (S : State) (o : Order) (after : Option Tuple) (W : Tree) → ds ≡ cs → S ≡ first_state p → o ≡ order_of p
    → W ≡ record { conditions = ds; first = S; variables = variables_in o; after = option_map (values (variables_in o)) after } → W ≡ walk_after p cs after
same-walk p cs ds S o after W d s e walk = walk ∙ (λ i. record { conditions = d i; first = s i; variables = variables_in (e i); after = option_map (values (variables_in (e i))) after })

module _ (p : ProblemData) (cs : List Cond) (past : Option (List ℤ)) (well : IsWellFormed p) (fit : AllFit cs (first_state p)) where
  pub member-tuple : (q : List ℤ) → IsIn (walk_past p cs past) q → is_full (walk_past p cs past) q ≡ true → (t : Tuple) × IsWideTuple p t × AllHold cs t × (values (variables_for p) t ≡ q)
  member-tuple q m full =
      let long : length q ≡ length (variables_for p) = grind (arith, nat_tests, full) in
      let l = member_is_layout p.dims cs (first_state p) (order_of p) q well.some (state-is p well) fit (names-each p well) m.0 long in
      (l.0, (tuples-are p l.0 well).0 l.1, l.2, l.3)

  -- what a search has found is a tuple of the problem's hulls
  pub found-tuple : (a b : SearchView) → a.walk ≡ walk_past p cs past → b.walk ≡ a.walk → Answers a Found b → HasFoundIn p b
  found-tuple a b walk same (w, q, (front, count), few, none, full, found, most, over) =
      let W = walk_past p cs past in
      let front' : IsFront W (w ++ q ∷ []) = subst (λ (V : Tree). IsFront V (w ++ q ∷ [])) (same ∙ walk) front in
      let m : IsIn W q = at-element (IsIn W) (w ++ q ∷ []) q front'.members (Contains-append_right w (q ∷ []) q (0, omega arith, refl)) in
      let full' : is_full W q ≡ true = subst (λ (V : Tree). is_full V q ≡ true) walk full in
      let l = member-tuple q m full' in
      (l.0, l.1, found ∙ ap Some (sym l.3) ∙ ap (λ (V : Tree). Some (values V.variables l.0)) (sym (same ∙ walk)))

-- two tuples of a problem's hulls with the same values are one
pub values-tell : (p : ProblemData) (t u : Tuple) → IsWellFormed p → IsWideTuple p t → IsWideTuple p u → values (variables_for p) t ≡ values (variables_for p) u → t ≡ u
values-tell p t u well a b e = values_tell p.dims (first_state p) (order_of p) t u (state-is p well) (names-each p well) ((tuples-are p t well).1 a) ((tuples-are p u well).1 b) e

-- under the problem's own conditions it is a layout
pub member-layout : (p : ProblemData) (cs : List Cond) (past : Option (List ℤ)) (q : List ℤ) → IsWellFormed p → AreConditionsOf p cs → IsIn (walk_past p cs past) q → is_full (walk_past p cs past) q ≡ true
    → (t : Tuple) × IsLayout p t × (values (variables_for p) t ≡ q)
member-layout p cs past q well are m full =
    let h = member-tuple p cs past well are.fit q m full in
    (h.0, (are.meaning h.0 h.1).0 h.2, h.3)
