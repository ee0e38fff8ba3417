use Rattle.std.proofs.Common.{◌≡◌, ◌++◌, map, length}
use Rattle.std.specs.Vec.Iter.{into_iter_items, into_iter_len}
use Rattle.problem_data.specs.View.{rule_view}
use Rattle.problem_data.specs.Meaning.{rule_of}
use Rattle.problem_text.proofs.build.rules.build_rules.Given as goal

-- what was made so far, with what the rest makes, is the whole
abbrev pub invariant-loop-rule : goal.invariant-loop-rule
invariant-loop-rule l = record {
  count : length (into_iter_items l.rule-iterator) ≡ into_iter_len l.rule-iterator;
  left : l.made.items ++ map (λ r. rule_of (rule_view r)) (into_iter_items l.rule-iterator) ≡ map (λ r. rule_of (rule_view r)) l.fn.rules.items;
}
