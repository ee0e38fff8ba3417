-- Conditions with the trees of the caps mean what caps mean.
use Rattle.std.proofs.Common.{◌≡◌, ◌<◌, ℕ, ℤ, List, length, map, sym, ap, subst, arith}
use Rattle.std.specs.Prelude.{All}
use Rattle.std.proofs.lemmas.List.{length-map}
use Rattle.geo_conditions.specs.declared.cond.Cond.{Cond}
use Rattle.problem_data.specs.Accepted.{IsSaid}
use Rattle.problem_data.specs.Problem.{ProblemData}
use Rattle.problem_data.specs.WellFormed.{IsWellFormed}
use Rattle.linear_conditions.specs.CondTree.{cond_view}
use Rattle.linear_conditions.proofs.Inside.{IsInside}
use Rattle.rule_ground.proofs.ApartTruth.{IsTrueOn}
use Rattle.rule_ground.proofs.Fit.{all-fit}
use Rattle.rule_ground.proofs.Meaning.{trees-out, trees-in}
use Rattle.rule_ground.proofs.Said.{said-small}
use Rattle.extent_caps.specs.Extents.{caps}
use Rattle.extent_caps.specs.Capped.{AreCaps, Adds, AddsCaps}
use Rattle.extent_caps.proofs.CapFit.{caps-inside, caps-few}
use Rattle.extent_caps.proofs.CapTruth.{wide-shaped, caps-out, caps-in}

pub caps-are : (p : ProblemData) (d : ℕ) (e : ℤ) (cs : List Cond) → IsSaid p → IsWellFormed p → d < p.dims → map cond_view cs ≡ caps p d e → AreCaps p d e cs
caps-are p d e cs s w h trees = record {
  trees = trees;
  fit = all-fit p w cs (subst (All (IsInside p)) (sym trees) (caps-inside p d e h));
  few = let l = caps-few p d e (said-small p s) w in let m = length-map cs cond_view in let n = ap length trees in omega (arith, l, m, n);
  meaning = λ t wide. (
    (λ a. caps-out p d e t (wide-shaped p t wide) (subst (All (IsTrueOn t)) trees (trees-out t cs a))),
    (λ f. trees-in t cs (subst (All (IsTrueOn t)) (sym trees) (caps-in p d e t (wide-shaped p t wide) f))),
  );
}

pub adds-caps : (p : ProblemData) (d : ℕ) (e : ℤ) (old new : List Cond) → IsSaid p → IsWellFormed p → d < p.dims → Adds (caps p d e) old new → AddsCaps p d e old new
adds-caps p d e old new s w h a = record { added = a.added; behind = a.behind; are = caps-are p d e a.added s w h a.stand_for }
