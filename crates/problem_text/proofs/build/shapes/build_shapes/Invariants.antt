use Rattle.std.proofs.Common.{◌≡◌, ◌++◌, map, length}
use Rattle.std.specs.Vec.Iter.{into_iter_items, into_iter_len}
use Rattle.problem_data.specs.View.{shape_view}
use Rattle.problem_data.specs.Meaning.{shape_of}
use Rattle.problem_text.proofs.build.shapes.build_shapes.Given as goal

-- what was made so far, with what the rest makes, is the whole
abbrev pub invariant-loop-shape : goal.invariant-loop-shape
invariant-loop-shape l = record {
  count : length (into_iter_items l.shape-iterator) ≡ into_iter_len l.shape-iterator;
  left : l.made.items ++ map (λ s. shape_of (shape_view s)) (into_iter_items l.shape-iterator) ≡ map (λ s. shape_of (shape_view s)) l.fn.shapes.items;
}
