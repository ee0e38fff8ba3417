use Rattle.std.proofs.Common.{◌≡◌, ◌≤◌, ◌+◌, ◌-◌, length}
use Rattle.command_input.proofs.Taking.{HasTaken}
use Rattle.command_input.proofs.read.read_up_to.Given as goal

-- the text is what was there and what was taken, which is not too much, and the count of faults stayed
abbrev pub invariant-reading : goal.invariant-reading
invariant-reading g l = record {
  taken : HasTaken l.most (g.S.Source.left l.fn.source) (g.S.Source.left l.source) l.fn.text.items l.text.items;
  size : length l.piece ≡ 4096;
  same : g.S.Source.faults l.source ≡ g.S.Source.faults l.fn.source;
  counted : g.S.Source.taken l.source + length l.fn.text.items ≤ g.S.Source.taken l.fn.source + length l.text.items;
}

abbrev pub decreases-reading : goal.decreases-reading
decreases-reading g l = l.most - length l.text.items
