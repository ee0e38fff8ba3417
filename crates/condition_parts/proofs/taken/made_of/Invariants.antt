use Rattle.std.proofs.Common.{◌≤◌, length, map}
use Rattle.indexical.specs.declared.any.AnyIndexical.{AnyIndexical}
use Rattle.condition_parts.specs.Made.{HasMade}
use Rattle.condition_parts.proofs.taken.made_of.Given as goal

abbrev pub invariant-loop-x : goal.invariant-loop-x
invariant-loop-x g l = record {
  made : HasMade (map (λ (x : AnyIndexical g.row.K). x.cond) l.yielded) l.made;
  room : length l.made.rest.items ≤ l.room;
}
