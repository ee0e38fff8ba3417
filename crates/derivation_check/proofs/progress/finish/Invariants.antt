use Rattle.std.proofs.Common.{◌≡◌, ◌≤◌, length, reverse, take}
use Rattle.std.specs.List.{All}
use Rattle.derivation_check.specs.Machine.{back, left}
use Rattle.derivation_check.specs.Fits.{TaskFits}
use Rattle.derivation_check.proofs.progress.finish.Given as goal

abbrev pub invariant-loop-n : goal.invariant-loop-n
invariant-loop-n g l = record {
  within : l.n ≤ length l.tasks.items;
  state : back (reverse (take l.n l.tasks.items)) l.state ≡ back (reverse l.fn.tasks.items) l.fn.state;
  tasks : left (reverse (take l.n l.tasks.items)) ≡ left (reverse l.fn.tasks.items);
  fits : All (TaskFits (length l.state) g.row.K) l.tasks.items;
  objects : length l.state ≡ length l.fn.state;
}

abbrev pub decreases-loop-n : goal.decreases-loop-n
decreases-loop-n g l = l.n
