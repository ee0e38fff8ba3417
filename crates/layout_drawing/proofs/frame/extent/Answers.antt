use Rattle.std.proofs.Common.{◌≡◌, ◌<◌, length, get_or, sym, ap, ◌∙◌, subst}
use Rattle.layout_drawing.specs.declared.blocks.Block.{Block}
use Rattle.layout_drawing.proofs.Ends.{hull_first, hull_more, hull_all}
use Rattle.layout_drawing.proofs.frame.extent.Goals as goal

pub loop-block-init : goal.loop-block-init
loop-block-init c =
    let b : Block = c.index-blocks-0.result in
    let dims : length b.spans.items ≡ c.args.dims = ap (λ (x : Block). length x.spans.items) c.index-blocks-0.is ∙ c.requires.dims 0 b c.requires.some in
    hull_first c.args.blocks.now c.args.d b c.index.result.now c.requires.some c.index-blocks-0.is (subst (λ n. c.args.d < n) (sym dims) c.requires.dimension)
    (c.index.ensures ∙ ap (λ (x : Block). get_or x.spans.items c.args.d c.index.result.now) (sym c.index-blocks-0.is))

pub loop-block-preserved : goal.loop-block-preserved
loop-block-preserved c =
    let b : Block = c.block-item.result in
    let dims : length b.spans.items ≡ c.args.dims = ap (λ (x : Block). length x.spans.items) c.block-item.is ∙ c.requires.dims c.loop-block.block-index b c.loop-block-test.true in
    hull_more c.args.blocks.now c.args.d c.loop-block.block-index b c.index-in-loop-block.result.now c.loop-block.span c.joined-span.result c.loop-block-test.true c.block-item.is
    (subst (λ n. c.args.d < n) (sym dims) c.requires.dimension) c.index-in-loop-block.ensures c.joined-span.ensures.low c.joined-span.ensures.high c.loop-block.invariant

pub returns : goal.returns
returns c = hull_all c.args.blocks.now c.args.d c.loop-block.block-index c.loop-block.span c.loop-block-test.false c.loop-block.invariant
