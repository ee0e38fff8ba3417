use Rattle.std.proofs.Common.{ap, ◌∙◌, [], ◌∷◌, ℤ, to_z-of_z, pos, negsuc}
use Rattle.linear_conditions.specs.CondTree.{linear}
use Rattle.rule_ground.specs.Shapes.{term}
use Rattle.rule_ground.proofs.literals.at_most.Goals as goal

pub returns : goal.returns
returns c =
    let i = c.args.i.0 in let j = c.args.j.0 in let d = c.args.d in
    ap linear (c.in_ok-new.ensures {u = tt})
    ∙ ap (λ (z : ℤ). linear (record { terms = term i d (pos 1) ∷ (term j d (negsuc 0) ∷ []); constant = z })) (to_z-of_z c.ranges.constant)
