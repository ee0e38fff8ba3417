-- What a search over the conditions of a problem answers.
use Rattle.std.proofs.Common.{◌≡◌, ℕ, ℤ, true, false, List, [], ◌∷◌, ◌++◌, drop, sym, ap, ◌∙◌, subst, refl, arith, Option, Some, None}
use Rattle.std.specs.Prelude.{All}
use Rattle.geo_base.specs.Tuple.{Tuple}
use Rattle.geo_conditions.specs.declared.cond.Cond.{Cond}
use Rattle.geo_conditions.specs.Conditions.{AllFit, AllHold}
use Rattle.geo_conditions.specs.Reach.{IsState}
use Rattle.geo_conditions.specs.Walk.{Tree, Order, variables_in, values, is_full, IsFront, IsWhole, GoesOn, Precedes}
use Rattle.layout_search.proofs.Members.{found-tuple, values-tell}
use Rattle.layout_search.proofs.States.{state-is}
use Rattle.layout_search.specs.Found.{HasFoundIn}
use Rattle.problem_data.specs.Problem.{ProblemData}
use Rattle.problem_data.specs.Cells.{IsWideTuple}
use Rattle.problem_data.specs.WellFormed.{IsWellFormed}
use Rattle.rule_ground.specs.Order.{order_of, variables_for}
use Rattle.rule_ground.specs.Start.{first_state}
use Rattle.rule_ground.proofs.Starts.{names-each, tuples-are}
use Rattle.derivation.specs.declared.event.Event.{Event}
use Rattle.whole_derivation.specs.Whole.{IsDerivation}
use Rattle.trail_search.specs.Next.{HasRecorded, SearchView, Answers, AsBefore, Steps, HasFound}
use Rattle.trail_search.specs.declared.step.Step.{Step}
use Rattle.trail_search.specs.declared.step.Step.TheVariants.{Found, Ended, Budget}
use Rattle.layout_search.specs.FirstLayout.{walk_of, IsFirstSolution, HasNoSolution, Lists}
use Rattle.layout_search.specs.declared.first.Outcome.TheVariants as outcomes
use Rattle.layout_search.proofs.Walked.{IsGood, found-listed, found-first, ended-listed, ended-none, spent-listed}

-- a search that has not set off, over that walk and within that budget
record IsFresh (W : Tree) (n : ℕ) (a : SearchView) : Type 0 where
  walk : a.walk ≡ W
  budget : a.budget ≡ n
  walked : a.walked ≡ 0

pub same-some : {X : Type 0} (x y : X) → Some x ≡ Some y → x ≡ y
same-some x y e = cc

module _ (p : ProblemData) (cs : List Cond) (well : IsWellFormed p) (state : IsState p.dims (first_state p)) (fit : AllFit cs (first_state p)) where
  good : (t : Tuple) → IsWideTuple p t → AllHold cs t → IsGood p.dims cs (first_state p) (order_of p) well.some state fit (names-each p well) t
  good t is all = ((tuples-are p t well).1 is, all)

  module _ (n : ℕ) (a b : SearchView) (fresh : IsFresh (walk_of p cs) n a) (same : b.walk ≡ a.walk) where
    of-walk : (P : Tree → Type 0) → P b.walk → P (walk_of p cs)
    of-walk P h = subst P (same ∙ fresh.walk) h

    none-before : (w : List (List ℤ)) → All (λ q. is_full a.walk q ≡ false) (drop a.walked w) → All (λ q. is_full (walk_of p cs) q ≡ false) w
    none-before w h = subst (λ (W : Tree). All (λ q. is_full W q ≡ false) w) fresh.walk (subst (λ (k : ℕ). All (λ q. is_full a.walk q ≡ false) (drop k w)) fresh.walked h)

    -- the solution that was found
    first-found : Answers a Found b → (t : Tuple) × IsWideTuple p t × HasFound b t × IsFirstSolution p cs t × Lists {R = Unit {0}} p cs n (outcomes.Found t)
    first-found (w, q, (front, count), after, none, full, found, few, over) =
        let W = walk_of p cs in
        let front' : IsFront W (w ++ q ∷ []) = of-walk (λ (V : Tree). IsFront V (w ++ q ∷ [])) front in
        let none' = none-before w none in
        let full' : is_full W q ≡ true = subst (λ (V : Tree). is_full V q ≡ true) fresh.walk full in
        let f = found-first p.dims cs (first_state p) (order_of p) well.some state fit (names-each p well) w n none' q front' full' in
        let is : IsWideTuple p f.0 = (tuples-are p f.0 well).0 f.1.0 in
        let e : values (variables_for p) f.0 ≡ q = f.2 in (
          f.0,
          is,
          found ∙ ap Some (sym e) ∙ ap (λ (V : Tree). Some (values V.variables f.0)) (sym (same ∙ fresh.walk)),
          record { tuple = is; holds = f.1.1; first = λ u iu all. f.3 u (good u iu all) },
          subst (λ (r : List ℤ). Rattle.geo_conditions.specs.Walk.IsListing W 1 n (r ∷ []) Rattle.geo_conditions.specs.Walk.More) (sym e) (found-listed p.dims cs (first_state p) (order_of p) well.some state fit (names-each p well) w n none' q front' full' (omega (arith, count, few, fresh.budget))),
        )

    found-once : (t u : Tuple) → IsWideTuple p t → IsWideTuple p u → HasFound b t → HasFound b u → u ≡ t
    found-once t u it iu ht hu =
        values-tell p u t well iu it (subst (λ (V : Tree). values V.variables u ≡ values V.variables t) (same ∙ fresh.walk) (same-some (values b.walk.variables u) (values b.walk.variables t) (sym hu ∙ ht)))

    found-lists : (t : Tuple) → Answers a Found b → IsWideTuple p t → HasFound b t → Lists {R = Unit {0}} p cs n (outcomes.Found t)
    found-lists t h it ht = let f = first-found h in subst (λ (u : Tuple). Lists {R = Unit {0}} p cs n (outcomes.Found u)) (found-once t f.0 it f.1 ht f.2) f.4

    found-finds : (t : Tuple) → Answers a Found b → IsWideTuple p t → HasFound b t → IsFirstSolution p cs t
    found-finds t h it ht = let f = first-found h in subst (IsFirstSolution p cs) (found-once t f.0 it f.1 ht f.2) f.3

    ended-lists : {R : Type 0} (rec : R) → Answers a Ended b → Lists p cs n (outcomes.Nothing rec)
    ended-lists rec (w, (front, count), whole, none, few, over) =
        ended-listed p.dims cs (first_state p) (order_of p) well.some state fit (names-each p well) w n (none-before w none)
        (of-walk (λ (V : Tree). IsFront V w) front) (subst (λ (V : Tree). IsWhole V w) fresh.walk whole) (omega (arith, count, few, fresh.budget))

    ended-finds : Answers a Ended b → HasNoSolution p cs
    ended-finds (w, (front, count), whole, none, few, over) t is all =
        ended-none p.dims cs (first_state p) (order_of p) well.some state fit (names-each p well) w n (none-before w none)
        (of-walk (λ (V : Tree). IsFront V w) front) (subst (λ (V : Tree). IsWhole V w) fresh.walk whole) t (good t is all)

    ended-derives : (es : List Event) → es ≡ b.events → HasRecorded Ended b → IsDerivation cs (first_state p) es
    ended-derives es e h = subst (IsDerivation cs (first_state p)) (sym e) (of-walk (λ (V : Tree). IsDerivation V.conditions V.first b.events) h)

    budget-lists : Answers a Budget b → Lists {R = Unit {0}} p cs n outcomes.OutOfBudget
    budget-lists (w, (front, count), spent, more, none, over) =
        spent-listed p.dims cs (first_state p) (order_of p) well.some state fit (names-each p well) w n (none-before w none)
        (of-walk (λ (V : Tree). IsFront V w) front) (subst (λ (V : Tree). GoesOn V w) fresh.walk more) (count ∙ spent ∙ fresh.budget)

-- an answer of a search that was not over
pub answered : (a b : SearchView) (s : Step) → a.over ≡ None → Steps a s b → Answers a s b
answered a b s none h = subst (λ (o : Option Step). AsBefore o a s b) none h.2

-- a search over the walk of a problem, within a budget, and what its first answer leaves of it
pub record Begins (p : ProblemData) (cs : List Cond) (n : ℕ) (a b : SearchView) (s : Step) : Type 0 where
  pub well : IsWellFormed p
  pub fit : AllFit cs (first_state p)
  pub walk : a.walk ≡ walk_of p cs
  pub budget : a.budget ≡ n
  pub walked : a.walked ≡ 0
  pub over : a.over ≡ None
  pub steps : Steps a s b

pub begun : (p : ProblemData) (a b : SearchView) (s : Step) → IsWellFormed p → a.walk ≡ walk_of p a.walk.conditions → AllFit a.walk.conditions (first_state p) → a.walked ≡ 0 → a.over ≡ None → Steps a s b → Begins p a.walk.conditions a.budget a b s
begun p a b s well walk fit walked over steps = record { well = well; fit = fit; walk = walk; budget = refl; walked = walked; over = over; steps = steps }

module _ (p : ProblemData) (cs : List Cond) (n : ℕ) (a b : SearchView) where
  fresh-of : (s : Step) → Begins p cs n a b s → IsFresh (walk_of p cs) n a
  fresh-of s h = record { walk = h.walk; budget = h.budget; walked = h.walked }

  pub first-tuple : Begins p cs n a b Found → (b.walk.first ≡ first_state p) × HasFoundIn p b
  first-tuple h = (
    ap (λ (W : Tree). W.first) (h.steps.0 ∙ h.walk),
    found-tuple p cs None h.well h.fit a b h.walk h.steps.0 (answered a b Found h.over h.steps),
  )

  pub first-lists : Begins p cs n a b Found → (t : Tuple) → HasFound b t × IsWideTuple p t → Lists {R = Unit {0}} p cs n (outcomes.Found t)
  first-lists h t f = found-lists p cs h.well (state-is p h.well) h.fit n a b (fresh-of Found h) h.steps.0 t (answered a b Found h.over h.steps) f.1 f.0

  pub first-finds : Begins p cs n a b Found → (t : Tuple) → HasFound b t × IsWideTuple p t → IsFirstSolution p cs t
  first-finds h t f = found-finds p cs h.well (state-is p h.well) h.fit n a b (fresh-of Found h) h.steps.0 t (answered a b Found h.over h.steps) f.1 f.0

  pub none-lists : Begins p cs n a b Ended → {R : Type 0} → (rec : R) → Lists p cs n (outcomes.Nothing rec)
  none-lists h rec = ended-lists p cs h.well (state-is p h.well) h.fit n a b (fresh-of Ended h) h.steps.0 rec (answered a b Ended h.over h.steps)

  pub none-finds : Begins p cs n a b Ended → HasNoSolution p cs
  none-finds h = ended-finds p cs h.well (state-is p h.well) h.fit n a b (fresh-of Ended h) h.steps.0 (answered a b Ended h.over h.steps)

  pub none-derives : Begins p cs n a b Ended → (es : List Event) → es ≡ b.events → HasRecorded Ended b → IsDerivation cs (first_state p) es
  none-derives h = ended-derives p cs h.well (state-is p h.well) h.fit n a b (fresh-of Ended h) h.steps.0

  pub spent-lists : Begins p cs n a b Budget → Lists {R = Unit {0}} p cs n outcomes.OutOfBudget
  spent-lists h = budget-lists p cs h.well (state-is p h.well) h.fit n a b (fresh-of Budget h) h.steps.0 (answered a b Budget h.over h.steps)
