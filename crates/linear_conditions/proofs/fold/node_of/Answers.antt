use Rattle.std.proofs.Common.{ℤ, to_z-of_z, ap, ◌∙◌}
use Rattle.geo_conditions.specs.declared.cond.Cond.{AtLeast}
use Rattle.linear_conditions.specs.CondTree.{cond_view}
use Rattle.linear_conditions.proofs.FoldSteps.{made-node}
use Rattle.linear_conditions.proofs.fold.node_of.Goals as goal

pub returns : goal.returns
returns c = ap (λ (m : ℤ). cond_view (AtLeast m c.args.children)) (to_z-of_z c.ranges.n) ∙ made-node c.args.n c.args.children c.requires
