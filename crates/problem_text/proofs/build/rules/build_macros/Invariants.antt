use Rattle.std.proofs.Common.{◌≡◌, ◌++◌, map, length}
use Rattle.std.specs.Vec.Iter.{into_iter_items, into_iter_len}
use Rattle.problem_data.specs.View.{macro_view}
use Rattle.problem_data.specs.Meaning.{macro_of}
use Rattle.problem_text.proofs.build.rules.build_macros.Given as goal

-- what was made so far, with what the rest makes, is the whole
abbrev pub invariant-loop-said : goal.invariant-loop-said
invariant-loop-said l = record {
  count : length (into_iter_items l.said-iterator) ≡ into_iter_len l.said-iterator;
  left : l.made.items ++ map (λ m. macro_of (macro_view m)) (into_iter_items l.said-iterator) ≡ map (λ m. macro_of (macro_view m)) l.fn.macros.items;
}
