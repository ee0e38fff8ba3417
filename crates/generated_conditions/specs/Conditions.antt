-- What the rules of a problem that is made from a seed come to.
use Rattle.std.specs.Prelude.{◌≡◌, length}
use Rattle.problem_data.specs.Problem.{ProblemData}
use Rattle.rule_ground.specs.Ground.{conditions}
use Rattle.fewer_rules.specs.Fewer.{HasConditions}

-- The rules of the problem have no fault. It has forty objects and 3,600 conditions: 480 say that
-- each box begins and ends in the rack, and 3,120 that two boxes of two objects lie apart.
pub record HasRackConditions (p : ProblemData) : Type 0 where
  pub faultless : HasConditions p
  pub objects : length p.objects ≡ 40
  pub conditions : length (conditions p) ≡ 3600
