use Rattle.std.proofs.Common.{◌≡◌, ◌-◌, ◌*◌, drop}
use Rattle.indexical.specs.Limits.{IsWithinLimit}
use Rattle.indexical.specs.TwoBoxes.{lengths_from}
use Rattle.indexical.proofs.two_boxes.lengths_of.Given as goal

-- the parts of the dimensions that were passed are their literals
abbrev pub invariant-loop-d : goal.invariant-loop-d
invariant-loop-d g l = record {
  form : drop (2 * l.d) l.parts ≡ lengths_from l.a l.b l.p.coordinates l.q.coordinates l.d (g.row.K - l.d);
  first_limit : IsWithinLimit g.row.K l.p.coordinates;
  second_limit : IsWithinLimit g.row.K l.q.coordinates;
}
