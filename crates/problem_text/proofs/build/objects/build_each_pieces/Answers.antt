use Rattle.std.proofs.Common.{ap, sym, map, ◌∙◌}
use Rattle.std.proofs.lemmas.List.{take_all}
use Rattle.problem_data.specs.View.{pieces_view}
use Rattle.problem_data.specs.Meaning.{pieces_of}
use Rattle.problem_data.proofs.InLists.{map_twice}
use Rattle.problem_text.proofs.build.objects.build_each_pieces.Goals as goal

pub returns : goal.returns
returns c =
    c.loop-pieces.invariant ∙ ap (map (λ p. pieces_of (pieces_view p))) (take_all c.loop-pieces.pieces-index c.args.ranges.now c.loop-pieces-test.false)
    ∙ sym (map_twice pieces_of pieces_view c.args.ranges.now)
