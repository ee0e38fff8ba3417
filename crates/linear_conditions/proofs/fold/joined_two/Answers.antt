use Rattle.std.proofs.Common.{◌≡◌, ◌∷◌, [], not, sym, ◌∙◌}
use Rattle.linear_conditions.specs.CondTree.{cond_view}
use Rattle.linear_conditions.specs.Folding.{certain, joined}
use Rattle.linear_conditions.proofs.JoinSteps.{first-decided, second-decided, rest-alone}
use Rattle.linear_conditions.proofs.fold.joined_two.Goals as goal
use Rattle.linear_conditions.proofs.fold.joined_two.Goals.{then-decides-via-then-decides, then-decides-via-else-decides+then-decides-2}

pub returns-then-decides : goal.returns-then-decides
returns-then-decides c =
    let one = cond_view c.args.first in
    let two = cond_view c.args.second in
    let decided : certain (not c.args.all) ≡ joined c.args.all (one ∷ (two ∷ [])) = elim c.then-decides.branch [
      | then-decides-via-then-decides w ↦ first-decided c.args.all one two (sym c.decides.ensures ∙ w.if-decides.true)
      | then-decides-via-else-decides+then-decides-2 w ↦ second-decided c.args.all one two (sym w.decides-else-decides.ensures ∙ w.if-decides-2.true)
    ] in
    c.certain.ensures ∙ decided

pub returns-in_default : goal.returns-in_default
returns-in_default c =
    c.joined_one.ensures c.args.all
    ∙ rest-alone c.args.all (cond_view c.args.first) (cond_view c.args.second) (sym c.decides.ensures ∙ c.if-decides.false) (λ h. c.in_default.not-Open (c.verdict.ensures ∙ h))
