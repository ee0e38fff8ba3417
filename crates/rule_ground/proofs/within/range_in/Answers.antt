use Rattle.std.proofs.Common.{◌<◌, ℕ, pos, subst, sym}
use Rattle.std.proofs.lemmas.List.{get_or-map, length-map}
use Rattle.problem_data.specs.declared.problem.RangeDef.{RangeDef}
use Rattle.problem_data.specs.ProblemView.{range_data}
use Rattle.problem_data.specs.WellFormed.{IsRange}
use Rattle.rule_ground.proofs.within.range_in.Goals as goal

pub returns-clause-small : goal.returns-clause-small
returns-clause-small c =
    let none : RangeDef = record { low = pos 0; high = pos 0 } in
    subst IsRange (get_or-map range_data c.args.ranges.now c.args.d none (range_data none) c.requires.d)
    (c.requires.ranges c.args.d (range_data none) (subst (λ (n : ℕ). c.args.d < n) (sym (length-map c.args.ranges.now range_data)) c.requires.d))
