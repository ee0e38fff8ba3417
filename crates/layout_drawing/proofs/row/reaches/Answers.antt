use Rattle.std.proofs.Common.{◌≡◌, ◌+◌, ◌<◌, ℕ, below_more, length, refl, arith}
use Rattle.std.proofs.lemmas.Int.{ints}
use Rattle.layout_drawing.specs.declared.blocks.Block.{Block}
use Rattle.layout_drawing.specs.declared.span.Span.{Span}
use Rattle.layout_drawing.specs.Blocks.{high_of, low_of}
use Rattle.layout_drawing.proofs.Ends.{high_at, low_at}
use Rattle.layout_drawing.proofs.row.reaches.Goals as goal

pub loop-i-preserved : goal.loop-i-preserved
loop-i-preserved c =
    let b : Block = c.args.block.now in
    let part : Span = c.index.result.now in
    let i : ℕ = c.loop-i.i in
    let less : i + 1 < length b.spans.items = omega (arith, c.requires, c.loop-i-test.true) in
    let low : low_of b (i + 1) ≡ part.low = low_at b.spans.items (i + 1) part c.index.ensures less in
    let high : high_of b (i + 1) ≡ part.high = high_at b.spans.items (i + 1) part c.index.ensures less in
    let has = c.has.ensures.0 c.if-not-has.false in
    below_more _ _ c.loop-i.invariant (omega (arith, ints, has.0), omega (arith, ints, has.1))

pub returns-then-not-has : goal.returns-then-not-has
returns-then-not-has c =
    let b : Block = c.args.block.now in
    let part : Span = c.index.result.now in
    let i : ℕ = c.loop-i.i in
    let less : i + 1 < length b.spans.items = omega (arith, c.requires, c.loop-i-test.true) in
    let low : low_of b (i + 1) ≡ part.low = low_at b.spans.items (i + 1) part c.index.ensures less in
    let high : high_of b (i + 1) ≡ part.high = high_at b.spans.items (i + 1) part c.index.ensures less in
    (λ no. absurd cc, λ reach. (let at = reach i c.loop-i-test.true in (c.if-not-has.ensures {u = tt}).1 (omega (arith, ints, at.0), omega (arith, ints, at.1))))

pub returns : goal.returns
returns c = (λ yes d lt. c.loop-i.invariant d (omega (arith, c.loop-i-test.false)), λ reach. refl)
