use Rattle.std.proofs.Common.{◌≡◌, ◌++◌, map, length}
use Rattle.std.specs.Vec.Iter.{into_iter_items, into_iter_len}
use Rattle.problem_data.specs.View.{object_view}
use Rattle.problem_data.specs.Meaning.{object_of}
use Rattle.problem_text.proofs.build.objects.build_objects.Given as goal

-- what was made so far, with what the rest makes, is the whole
abbrev pub invariant-loop-object : goal.invariant-loop-object
invariant-loop-object l = record {
  count : length (into_iter_items l.object-iterator) ≡ into_iter_len l.object-iterator;
  left : l.made.items ++ map (λ o. object_of l.met (object_view o)) (into_iter_items l.object-iterator) ≡ map (λ o. object_of l.met (object_view o)) l.fn.objects.items;
}
