use Rattle.std.proofs.Common.{◌≡◌, drop, map}
use Rattle.std.specs.List.{list_all}
use Rattle.linear_conditions.specs.CondTree.{cond_view}
use Rattle.linear_conditions.specs.Open.{is_open}
use Rattle.linear_conditions.proofs.fold.are_open.Given as goal

abbrev pub invariant-loop-c : goal.invariant-loop-c
invariant-loop-c l = list_all is_open (map cond_view (drop l.c-index l.cs)) ≡ list_all is_open (map cond_view l.cs)
