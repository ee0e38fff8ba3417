use Rattle.std.proofs.Common.{◌≡◌, ◌++◌, map}
use Rattle.indexical.specs.declared.any.AnyIndexical.{AnyIndexical}
use Rattle.condition_parts.proofs.taken.joined.Given as goal

abbrev pub invariant-loop-x : goal.invariant-loop-x
invariant-loop-x g l = map (λ (x : AnyIndexical g.row.K). x.cond) l.list.items ≡ map (λ (x : AnyIndexical g.row.K). x.cond) l.fn.fronts.items ++ map (λ (x : AnyIndexical g.row.K). x.cond) l.yielded
