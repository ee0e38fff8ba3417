-- Outcomes of searches: with another record, and under the problem's own conditions.
use Rattle.std.proofs.Common.{◌≡◌, ℕ, List, Option, Some, None, ap, sym, subst}
use Rattle.std.specs.Prelude.{IfSome}
use Rattle.std.specs.Option.{option_map}
use Rattle.geo_conditions.specs.declared.cond.Cond.{Cond}
use Rattle.geo_conditions.specs.Walk.{Tree}
use Rattle.problem_data.specs.Problem.{ProblemData}
use Rattle.problem_data.specs.WellFormed.{IsWellFormed}
use Rattle.problem_data.proofs.Hulls.{tuple_is_wide}
use Rattle.rule_ground.specs.Start.{first_state}
use Rattle.trail_search.specs.Next.{SearchView}
use Rattle.derivation.specs.declared.event.Event.{Event}
use Rattle.whole_derivation.specs.Whole.{IsDerivation}
use Rattle.layout_search.specs.FirstLayout.{AreConditionsOf, Lists, Finds, FindsSolution, Derives, walk_of, with_record}
use Rattle.layout_search.specs.declared.first.Outcome.{Outcome}
use Rattle.layout_search.specs.declared.first.Outcome.TheVariants.{Found, Nothing, OutOfBudget}

-- the same outcome with another record says the same
pub lists-with : {Q R : Type 0} (p : ProblemData) (cs : List Cond) (n : ℕ) (o : Outcome Q) (r : R) → Lists p cs n o → Lists p cs n (with_record o r)
lists-with p cs n (Found t) r h = h
lists-with p cs n (Nothing q) r h = h
lists-with p cs n OutOfBudget r h = h

pub finds-with : {Q R : Type 0} (p : ProblemData) (cs : List Cond) (o : Outcome Q) (r : R) → FindsSolution p cs o → FindsSolution p cs (with_record o r)
finds-with p cs (Found t) r h = h
finds-with p cs (Nothing q) r h = h
finds-with p cs OutOfBudget r h = h

-- where the record has those events
pub derives-with : {Q R : Type 0} (p : ProblemData) (cs : List Cond) (es : List Event) (list : R → List Event) (o : Outcome Q) (r : R) → list r ≡ es → Derives p cs (λ _. es) o → Derives p cs list (with_record o r)
derives-with p cs es list (Found t) r e h = h
derives-with p cs es list (Nothing q) r e h = (subst (IsDerivation cs (first_state p)) (sym e) h.0, h.1)
derives-with p cs es list OutOfBudget r e h = h

-- a search of the walk under those conditions, within that budget, speaks of them
module _ (p : ProblemData) (cs : List Cond) (n : ℕ) (a : SearchView) (walk : a.walk ≡ walk_of p cs) (budget : a.budget ≡ n) where
  pub conditions-of : a.walk.conditions ≡ cs
  conditions-of = ap (λ (W : Tree). W.conditions) walk

  pub lists-of : {R : Type 0} (o : Outcome R) → Lists p a.walk.conditions a.budget o → Lists p cs n o
  lists-of o h = subst (λ (m : ℕ). Lists p cs m o) budget (subst (λ (ds : List Cond). Lists p ds a.budget o) conditions-of h)

  pub finds-of : {R : Type 0} (o : Outcome R) → FindsSolution p a.walk.conditions o → FindsSolution p cs o
  finds-of o h = subst (λ (ds : List Cond). FindsSolution p ds o) conditions-of h

  pub derives-of : {R : Type 0} (list : R → List Event) (o : Outcome R) → Derives p a.walk.conditions list o → Derives p cs list o
  derives-of list o h = subst (λ (ds : List Cond). Derives p ds list o) conditions-of h

-- the solutions of the problem's own conditions are its layouts
pub solutions-are-layouts : {R : Type 0} (p : ProblemData) (cs : List Cond) → IsWellFormed p → AreConditionsOf p cs → (o : Outcome R) → FindsSolution p cs o → Finds p o
solutions-are-layouts p cs well are (Found t) h = record {
  layout = (are.meaning t h.tuple).0 h.holds;
  first = λ u l. let wide = tuple_is_wide p u well l.tuple in h.first u wide ((are.meaning u wide).1 l);
}
solutions-are-layouts p cs well are (Nothing r) h = λ t l. let wide = tuple_is_wide p t well l.tuple in h t wide ((are.meaning t wide).1 l)
solutions-are-layouts p cs well are OutOfBudget h = tt

-- what holds of what something is made of
pub some-made : {A B : Type 0} (f : A → B) (P : B → Type 0) (o : Option A) → IfSome o (λ x. P (f x)) → IfSome (option_map f o) P
some-made f P None h = tt
some-made f P (Some x) h = h
