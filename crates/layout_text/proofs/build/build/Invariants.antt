use Rattle.std.proofs.Common.{◌≡◌, take, map}
use Rattle.layout_text.specs.View.{line_view}
use Rattle.layout_text.specs.Faults.{tuple_of}
use Rattle.layout_text.proofs.build.build.Given as goal

-- what the lines so far give
abbrev pub invariant-loop-i : goal.invariant-loop-i
invariant-loop-i l = l.layout ≡ tuple_of l.problem (take l.i (map line_view l.lines))
