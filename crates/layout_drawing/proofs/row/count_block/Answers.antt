use Rattle.std.proofs.Common.{◌≡◌, ◌+◌, ◌+ℤ◌, ◌≤◌, ◌≤ℤ◌, ◌<◌, ℤ, List, pos, length, arith}
use Rattle.std.proofs.lemmas.Int.{ints}
use Rattle.layout_drawing.specs.declared.blocks.Block.{Block}
use Rattle.layout_drawing.specs.declared.span.Span.{Span}
use Rattle.layout_drawing.specs.Blocks.{high_of, low_of}
use Rattle.layout_drawing.proofs.Ends.{ends_at, high_at, low_at}
use Rattle.layout_drawing.proofs.Painted.{counted, passed_by}
use Rattle.layout_drawing.proofs.row.count_block.Goals as goal

pub returns : goal.returns
returns c =
    let b : Block = c.args.block.now in
    let part : Span = c.index-part.result.now in
    let some : 0 < length b.spans.items = (let e = c.requires.dims in omega arith) in
    let from = part.from in
    let to = part.to in
    let filled = part.filled in
    let low : low_of b 0 ≡ part.low = low_at b.spans.items 0 part c.index-part.ensures some in
    let high : high_of b 0 ≡ part.high = high_at b.spans.items 0 part c.index-part.ensures some in
    let first = c.place_of-first.ensures in
    let last = c.place_of-last.ensures in
    counted b c.args.span.now.low c.args.others.now c.requires.dims c.args.row.now c.paint.new.row c.place_of-first.result c.place_of-last.result (c.reaches.ensures.0 c.if-not-reaches.false)
    (omega (arith, ints)) (omega (arith, ints)) c.paint.ensures.inside c.paint.ensures.before c.paint.ensures.behind

-- the ends of the block's span lie in the row's
pub place_of-first-requires-clause-from : goal.place_of-first-requires-clause-from
place_of-first-requires-clause-from c =
    let part : Span = c.index-part.result.now in
    let ends = ends_at c.args.block.now 0 part c.index-part.ensures (omega (arith, c.requires.dims)) in
    omega (arith, ints, ends.0, ends.1, part.from, part.to, part.filled, c.requires.from, c.requires.to)

pub place_of-first-requires-clause-to : goal.place_of-first-requires-clause-to
place_of-first-requires-clause-to c =
    let part : Span = c.index-part.result.now in
    let ends = ends_at c.args.block.now 0 part c.index-part.ensures (omega (arith, c.requires.dims)) in
    omega (arith, ints, ends.0, ends.1, part.from, part.to, part.filled, c.requires.from, c.requires.to)

pub place_of-last-requires-clause-from : goal.place_of-last-requires-clause-from
place_of-last-requires-clause-from c =
    let part : Span = c.index-part.result.now in
    let ends = ends_at c.args.block.now 0 part c.index-part.ensures (omega (arith, c.requires.dims)) in
    omega (arith, ints, ends.0, ends.1, part.from, part.to, part.filled, c.requires.from, c.requires.to)

pub place_of-last-requires-clause-to : goal.place_of-last-requires-clause-to
place_of-last-requires-clause-to c =
    let part : Span = c.index-part.result.now in
    let ends = ends_at c.args.block.now 0 part c.index-part.ensures (omega (arith, c.requires.dims)) in
    omega (arith, ints, ends.0, ends.1, part.from, part.to, part.filled, c.requires.from, c.requires.to)

pub returns-then-not-reaches : goal.returns-then-not-reaches
returns-then-not-reaches c =
    let tells = c.if-not-reaches.ensures {u = tt} in
    passed_by c.args.block.now c.args.span.now.low c.args.others.now c.requires.dims c.args.row.now (λ reach. (let e = tells.1 reach in absurd cc))

pub paint-requires-clause-ordered : goal.paint-requires-clause-ordered
paint-requires-clause-ordered c =
    let filled = c.index-part.result.now.filled in
    let first = c.place_of-first.ensures in
    let last = c.place_of-last.ensures in
    omega (arith, ints)

pub paint-requires-clause-within : goal.paint-requires-clause-within
paint-requires-clause-within c =
    let b : Block = c.args.block.now in
    let part : Span = c.index-part.result.now in
    let some : 0 < length b.spans.items = (let e = c.requires.dims in omega arith) in
    let high : high_of b 0 ≡ part.high = high_at b.spans.items 0 part c.index-part.ensures some in
    let from = part.from in
    let to = part.to in
    let end = c.requires.to in
    let last = c.place_of-last.ensures in
    let wide = c.requires.wide in
    omega (arith, ints)

pub overflow_add-last : goal.overflow_add-last
overflow_add-last c =
    let b : Block = c.args.block.now in
    let part : Span = c.index-part.result.now in
    let some : 0 < length b.spans.items = (let e = c.requires.dims in omega arith) in
    let high : high_of b 0 ≡ part.high = high_at b.spans.items 0 part c.index-part.ensures some in
    let from = part.from in
    let to = part.to in
    let end = c.requires.to in
    let last = c.place_of-last.ensures in
    let wide = c.requires.wide in
    let inside : c.place_of-last.result + 1 ≤ length c.args.row.now = omega (arith, ints) in
    let few : length c.args.row.now < 18446744073709551616 = search in
    omega arith
