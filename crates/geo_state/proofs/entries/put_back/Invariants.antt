use Rattle.std.proofs.Common.{◌≡◌, ◌+◌, ◌≤◌, length, take, drop}
use Rattle.geo_state.specs.Undo.{state_before, marks_before}
use Rattle.geo_state.proofs.entries.put_back.Given as goal

abbrev pub invariant-loop-saved : goal.invariant-loop-saved
invariant-loop-saved g l = record {
  least : l.left ≤ length l.saved.items;
  items : l.saved.items ≡ take (length l.saved.items) l.fn.saved.items;
  state : l.state ≡ state_before l.fn.state (drop (length l.saved.items) l.fn.saved.items);
  marks : l.marks ≡ marks_before l.fn.marks (drop (length l.saved.items) l.fn.saved.items);
  room : length l.saved.items + l.saved.spare ≡ length l.fn.saved.items + l.fn.saved.spare;
}

abbrev pub decreases-loop-saved : goal.decreases-loop-saved
decreases-loop-saved g l = length l.saved.items
