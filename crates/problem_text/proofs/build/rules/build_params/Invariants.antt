use Rattle.std.proofs.Common.{◌≡◌, ◌++◌, map, length}
use Rattle.std.specs.Vec.Iter.{into_iter_items, into_iter_len}
use Rattle.problem_data.specs.ProblemView.{param_data}
use Rattle.problem_data.specs.Meaning.{param_of}
use Rattle.problem_text.proofs.build.rules.build_params.Given as goal

-- what was made so far, with what the rest makes, is the whole
abbrev pub invariant-loop-param : goal.invariant-loop-param
invariant-loop-param l = record {
  count : length (into_iter_items l.param-iterator) ≡ into_iter_len l.param-iterator;
  left : map param_data l.made.items ++ map param_of (into_iter_items l.param-iterator) ≡ map param_of l.fn.params.items;
}
