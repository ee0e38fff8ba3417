use Rattle.std.proofs.Common.{◌≡◌, ◌++◌, length, map, replicate}
use Rattle.indexical.specs.declared.any.AnyIndexical.{AnyIndexical}
use Rattle.condition_parts.proofs.taken.put_others.Given as goal

abbrev pub invariant-loop-c : goal.invariant-loop-c
invariant-loop-c g l = record {
  parts : map (λ (x : AnyIndexical g.row.K). x.cond) l.rest.items ≡ map (λ (x : AnyIndexical g.row.K). x.cond) l.fn.rest.items ++ l.yielded;
  numbers : l.numbers.items ≡ l.fn.numbers.items ++ replicate (length l.yielded) l.number;
}
