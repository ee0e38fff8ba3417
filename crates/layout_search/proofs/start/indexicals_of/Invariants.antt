use Rattle.std.proofs.Common.{◌≡◌, map}
use Rattle.indexical.specs.declared.any.AnyIndexical.{AnyIndexical}
use Rattle.layout_search.proofs.start.indexicals_of.Given as goal

abbrev pub invariant-loop-c : goal.invariant-loop-c
invariant-loop-c g l = map (λ (x : AnyIndexical g.row.K). x.cond) l.list.items ≡ l.yielded
