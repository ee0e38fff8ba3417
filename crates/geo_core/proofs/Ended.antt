-- How a search over the conditions of a problem ends is how a round ends.
use Rattle.std.proofs.Common.{ℕ, List}
use Rattle.geo_conditions.specs.declared.cond.Cond.{Cond}
use Rattle.derivation.specs.Events.{Kept}
use Rattle.problem_data.specs.Problem.{ProblemData}
use Rattle.problem_data.specs.WellFormed.{IsWellFormed}
use Rattle.rule_ground.specs.Meant.{MeanLayouts}
use Rattle.layout_search.specs.FirstLayout.{Lists, Finds, FindsSolution, Derives}
use Rattle.layout_search.specs.declared.first.Outcome.{Outcome}
use Rattle.layout_search.specs.declared.first.Outcome.TheVariants.{Found, Nothing, OutOfBudget}
use Rattle.layout_search.proofs.Solutions.{solutions-are-layouts}
use Rattle.geo_core.specs.Cores.{AreConditions, HasEnded}

module _ (p : ProblemData) (n : ℕ) (cs : List Cond) (are : AreConditions p cs) (mean : MeanLayouts p cs) where
  has_ended : (o : Outcome Kept) → Lists p cs n o → Finds p o → Derives p cs (λ log. log.events) o → HasEnded p n o
  has_ended (Found t) l f d = record { conditions = cs; are = are; listing = l; first = f }
  has_ended (Nothing log) l f d = (
    record { conditions = cs; are = are; listing = l; none = f },
    record { conditions = cs; are = are; fit = mean.fit; few = d.1; derivation = d.0 },
  )
  has_ended OutOfBudget l f d = record { conditions = cs; are = are; listing = l }

  pub ended : IsWellFormed p → (o : Outcome Kept) → Lists p cs n o → FindsSolution p cs o → Derives p cs (λ log. log.events) o → HasEnded p n o
  ended well o l f d = has_ended o l (solutions-are-layouts p cs well (record { fit = mean.fit; meaning = mean.meaning }) o f) d
