use Rattle.std.proofs.Common.{◌≡◌, take, map}
use Rattle.problem_data.specs.View.{box_view}
use Rattle.problem_data.specs.Meaning.{box_of}
use Rattle.problem_text.proofs.build.shapes.build_boxes.Given as goal

-- what was made so far
abbrev pub invariant-loop-part : goal.invariant-loop-part
invariant-loop-part l = l.made.items ≡ map box_of (map box_view (take l.part-index l.parts))
