use Rattle.std.proofs.Common.{◌≡◌, ◌++◌, map, length}
use Rattle.std.specs.Vec.Iter.{into_iter_items, into_iter_len}
use Rattle.problem_data.specs.ProblemView.{attribute_data}
use Rattle.problem_data.specs.Meaning.{attribute_of}
use Rattle.problem_text.proofs.build.objects.build_attributes.Given as goal

-- what was made so far, with what the rest makes, is the whole
abbrev pub invariant-loop-attribute : goal.invariant-loop-attribute
invariant-loop-attribute l = record {
  count : length (into_iter_items l.attribute-iterator) ≡ into_iter_len l.attribute-iterator;
  left : map attribute_data l.made.items ++ map attribute_of (into_iter_items l.attribute-iterator) ≡ map attribute_of l.fn.attributes.items;
}
