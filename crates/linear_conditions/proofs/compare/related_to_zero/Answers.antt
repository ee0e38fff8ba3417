use Rattle.std.proofs.Common.{◌≡◌, subst}
use Rattle.std.specs.Prelude.{MatchResult}
use Rattle.linear_conditions.specs.Compare.{allowed_leaves}
use Rattle.linear_conditions.specs.CondTree.{CondTree, cond_view}
use Rattle.linear_conditions.specs.Counts.{Done}
use Rattle.linear_conditions.specs.Faults.{IsFault}
use Rattle.linear_conditions.specs.Leaves.{Leaves}
use Rattle.linear_conditions.specs.Views.{leaves_view, wide_view}
use Rattle.linear_conditions.proofs.CompareSteps.{leaves-of}
use Rattle.linear_conditions.proofs.compare.related_to_zero.Goals as goal

pub counted-requires : goal.counted-requires
counted-requires c = leaves-of c.args.rel (wide_view c.args.f) (leaves_view c.in_ok-leaves.leaves) c.in_ok-leaves.ensures c.requires.ordered

pub returns : goal.returns
returns c =
    subst (λ (l : Leaves). MatchResult c.counted.result (λ x. allowed_leaves l c.args.counter.now ≡ Done (cond_view x) c.counted.new.counter) (λ e. IsFault CondTree (allowed_leaves l c.args.counter.now) e))
    c.in_ok-leaves.ensures c.counted.ensures
