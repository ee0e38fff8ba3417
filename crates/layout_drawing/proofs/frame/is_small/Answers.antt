use Rattle.std.proofs.Common.{◌≡◌, ◌<◌, ◌*◌, ◌+◌, ℕ, false, true, drop, sym, ap, ◌∙◌, subst}
use Rattle.layout_drawing.specs.Blocks.{highs, lows}
use Rattle.layout_drawing.specs.Drawing.{cell_count, most_cells, width}
use Rattle.layout_drawing.proofs.Ends.{counts_drop, counts_some, too_many}
use Rattle.layout_drawing.proofs.frame.is_small.Goals as goal

pub returns-then-count-gt-MOST_CELLS : goal.returns-then-count-gt-MOST_CELLS
returns-then-count-gt-MOST_CELLS c =
    let s = c.span-item.result in
    let ss = c.args.spans.now in
    let i = c.loop-span.span-index in
    let many : most_cells < c.loop-span.count * width s.low s.high = subst (λ (n : ℕ). most_cells < c.loop-span.count * n) c.width-count.ensures c.if-count-gt-MOST_CELLS.true in
    let all : c.loop-span.count * (width s.low s.high * cell_count (lows (drop (i + 1) ss)) (highs (drop (i + 1) ss))) ≡ cell_count (lows ss) (highs ss) =
    ap (λ (n : ℕ). c.loop-span.count * n) (sym (counts_drop ss i s c.loop-span-test.true c.span-item.is)) ∙ c.loop-span.invariant.product in (
      λ t. (let e : false ≡ true = t in absurd cc),
      λ few. absurd (too_many c.loop-span.count (width s.low s.high) (cell_count (lows (drop (i + 1) ss)) (highs (drop (i + 1) ss))) (cell_count (lows ss) (highs ss)) most_cells many (counts_some (drop (i + 1) ss)) all few),
    )
