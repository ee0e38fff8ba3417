use Rattle.geo_conditions.specs.Puts.{put_of}
use Rattle.std.proofs.Common.{◌≡◌, ◌+◌, ◌≤◌, drop, length}
use Rattle.std.specs.List.{All}
use Rattle.geo_conditions.specs.Reach.{put_on}
use Rattle.geo_conditions.specs.Conditions.{FitsIn}
use Rattle.geo_conditions.proofs.Children.{many_possible}
use Rattle.geo_conditions.proofs.refute.+possible.Given as goal

abbrev pub invariant-are_enough-loop-child : goal.invariant-are_enough-loop-child
invariant-are_enough-loop-child g l = record {
  value : l.sure + many_possible (put_on (put_of l.put) l.s) (drop l.child-index l.child-items) ≡ many_possible (put_on (put_of l.put) l.s) l.child-items;
  few : l.sure ≤ l.child-index;
  left : l.open + l.child-index ≡ length l.child-items + l.sure;
  fits : All (λ c. FitsIn c l.s) l.child-items;
}

abbrev pub invariant-are_enough_of_many-loop-i : goal.invariant-are_enough_of_many-loop-i
invariant-are_enough_of_many-loop-i g l = record {
  value : l.sure ≡ many_possible (put_on (put_of l.put) l.s) (drop l.i l.parts);
  few : l.sure + l.i ≤ length l.parts;
  fits : All (λ c. FitsIn c l.s) l.parts;
}
