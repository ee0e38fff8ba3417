use Rattle.std.proofs.Common.{◌≡◌, ◌<◌, ℕ, length, sym, subst, arith}
use Rattle.layout_drawing.specs.declared.owner.Owner.{Owner}
use Rattle.layout_drawing.specs.Painting.{IsOwner, cell_at, owner_at}
use Rattle.layout_drawing.proofs.Painted.{OwnsBelow, none_owned, owned_more, owned_all}
use Rattle.layout_drawing.proofs.row.find_owners.Goals as goal

pub loop-block-init : goal.loop-block-init
loop-block-init c = λ k lt.
    subst (λ (w : Owner). IsOwner (λ o. OwnsBelow c.args.blocks.now 0 o (cell_at c.args.span.now.low c.args.others.now k)) w) (sym (c.clear.ensures k))
    (none_owned c.args.blocks.now (cell_at c.args.span.now.low c.args.others.now k))

pub loop-block-preserved : goal.loop-block-preserved
loop-block-preserved c = λ k lt.
    let same : length c.count_block.new.row ≡ length c.loop-block.row = c.count_block.auto.row in
    let less : k < length c.loop-block.row = omega arith in
    owned_more c.args.blocks.now (cell_at c.args.span.now.low c.args.others.now k) c.loop-block.block-index c.block-item.result (owner_at c.loop-block.row k) (owner_at c.count_block.new.row k)
    c.loop-block-test.true c.block-item.is (c.count_block.ensures k less) (c.loop-block.invariant k less)

pub returns : goal.returns
returns c = λ k lt.
    owned_all c.args.blocks.now (cell_at c.args.span.now.low c.args.others.now k) c.loop-block.block-index (owner_at c.loop-block.row k) c.loop-block-test.false (c.loop-block.invariant k lt)
