use Rattle.std.proofs.Common.{◌≡◌, drop, length}
use Rattle.derivation.specs.Cuts.{is_empty, empty_between}
use Rattle.derivation_check.proofs.open_box.OpenBox.is_empty.Given as goal

abbrev pub invariant-loop-d : goal.invariant-loop-d
invariant-loop-d g l = record {
  left : is_empty l.self ≡ empty_between (drop l.d l.lo.coordinates) (drop l.d l.hi.coordinates);
  lows : length l.lo.coordinates ≡ g.row.K;
  highs : length l.hi.coordinates ≡ g.row.K;
}
