use Rattle.std.proofs.Common.{ℕ, ℤ, List, drop, take, ap, ◌∙◌}
use Rattle.layout_drawing.specs.declared.span.Span.{Span}
use Rattle.layout_drawing.specs.Blocks.{highs, lows}
use Rattle.layout_drawing.specs.Drawing.{picture}
use Rattle.layout_drawing.specs.Painting.{layers_behind}
use Rattle.layout_drawing.proofs.Pictured.{if_ok_as, no_front, picture_is}
use Rattle.layout_drawing.proofs.picture.push_picture.Goals as goal

pub returns : goal.returns
returns c = λ sign right.
    let ss : List Span = c.args.spans.now in
    let others : List ℤ = c.deref_mut-2.result.now in
    if_ok_as c.push_layers.result c.push_layers.new.text.items c.args.text.now.items (layers_behind sign ss 2 (drop 1 (take 1 others))) (picture sign (lows ss) (highs ss))
    (ap (layers_behind sign ss 2) (no_front others) ∙ picture_is sign ss c.requires.frame.some c.if-spans-eq1.false) (c.push_layers.ensures.text sign right)
