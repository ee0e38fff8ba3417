use Rattle.std.proofs.Common.{◌+◌, sym, take, ap, ◌∙◌}
use Rattle.problem_data.specs.View.{box_view}
use Rattle.problem_data.specs.Meaning.{box_of}
use Rattle.problem_data.specs.declared.tree.BoxText.{BoxText}
use Rattle.problem_data.proofs.InLists.{map_twice}
use Rattle.problem_text.proofs.MadeOfItems.{one_more}
use Rattle.problem_text.proofs.build.shapes.build_boxes.Goals as goal

pub loop-part-preserved : goal.loop-part-preserved
loop-part-preserved c =
    one_more (λ (b : BoxText). box_of (box_view b)) c.args.parts.now c.loop-part.part-index c.part-item.result c.loop-part.made.items c.push.new.self.items c.in_ok-one.one c.loop-part-test.true c.in_ok-push.ensures.items
    (c.in_ok-one.ensures ∙ ap (λ (b : BoxText). box_of (box_view b)) c.part-item.is) (c.loop-part.invariant ∙ map_twice box_of box_view (take c.loop-part.part-index c.args.parts.now))
    ∙ sym (map_twice box_of box_view (take (c.loop-part.part-index + 1) c.args.parts.now))
