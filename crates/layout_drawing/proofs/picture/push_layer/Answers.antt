use Rattle.std.proofs.Common.{◌≡◌, ◌<◌, ◌≤◌, ◌+◌, ◌-ℤ◌, ◌≤ℤ◌, All, ◌++◌, ◌∷◌, ℕ, ℤ, pos, List, drop, length, set, to_z, of_z, refl, sym, ap, ◌∙◌, subst, arith}
use Rattle.std.specs.Int.{w128}
use Rattle.std.proofs.lemmas.Int.{ints}
use Rattle.geo_base.specs.Boxes.{coordinate}
use Rattle.layout_drawing.specs.declared.blocks.Block.{Block}
use Rattle.layout_drawing.specs.declared.span.Span.{Span}
use Rattle.layout_drawing.specs.Blocks.{highs, high_of, low_of, lows}
use Rattle.layout_drawing.specs.Drawing.{layer_line, width}
use Rattle.layout_drawing.proofs.Ends.{high_at, low_at}
use Rattle.layout_drawing.proofs.Pictured.{rows_more, rows_done, set_front}
use Rattle.layout_drawing.proofs.picture.push_layer.Goals as goal

pub loop-i-preserved : goal.loop-i-preserved
loop-i-preserved c =
    let ss : List Span = c.args.spans.now in
    let s0 : Span = c.index-spans-0.result in
    let s1 : Span = c.index-spans-1.result in
    let i : ℕ = c.loop-i.i in
    let outer : List ℤ = drop 1 c.args.others.now in
    let y : ℤ = to_z w128 (of_z w128 c.nth_back.result) in
    let lt0 : 0 < length ss = omega (arith, c.requires.others.0) in
    let lt1 : 1 < length ss = omega (arith, c.requires.others.0, c.requires.others.1) in
    let low0 : coordinate (lows ss) 0 ≡ s0.low = low_at ss 0 s0 c.index-spans-0.is lt0 in
    let high0 : coordinate (highs ss) 0 ≡ s0.high = high_at ss 0 s0 c.index-spans-0.is lt0 in
    let low1 : coordinate (lows ss) 1 ≡ s1.low = low_at ss 1 s1 c.index-spans-1.is lt1 in
    let high1 : coordinate (highs ss) 1 ≡ s1.high = high_at ss 1 s1 c.index-spans-1.is lt1 in
    let from = s1.from in let to = s1.to in let filled = s1.filled in
    let at = c.nth_back.ensures in
    let end = c.width-i-end.ensures in
    let small : i < width s1.low s1.high = omega (arith, end, c.loop-i-test.true) in
    let number : y ≡ (coordinate (highs ss) 1 -ℤ pos i) = omega (arith, ints) in
    let few : i < width (coordinate (lows ss) 1) (coordinate (highs ss) 1) = subst (λ (n : ℕ). i < n) (λ j. width (sym low1 j) (sym high1 j)) small in
    let cells : set c.loop-i.others 0 y ≡ y ∷ outer = set_front c.loop-i.others y (let m = c.loop-i.auto.others in omega (arith, m, c.requires.others.1)) ∙ ap (λ (xs : List ℤ). y ∷ xs) c.loop-i.invariant.others in
    record {
      text = λ sign right. rows_more sign (coordinate (lows ss) 0) (coordinate (highs ss) 0) (coordinate (lows ss) 1) (coordinate (highs ss) 1) outer i y s0.low s0.high c.args.text.now.items (layer_line outer) c.loop-i.text.items c.push_row.new.text.items
          (set c.loop-i.others 0 y) few (sym low0) (sym high0) cells number (c.loop-i.invariant.text sign right) (c.in_ok-push_row.ensures sign right);
      others = ap (drop 1) cells;
    }

pub returns-clause-text : goal.returns-clause-text
returns-clause-text c = λ sign right.
    let ss : List Span = c.args.spans.now in
    let s1 : Span = c.index-spans-1.result in
    let lt1 : 1 < length ss = omega (arith, c.requires.others.0, c.requires.others.1) in
    let low1 : coordinate (lows ss) 1 ≡ s1.low = low_at ss 1 s1 c.index-spans-1.is lt1 in
    let high1 : coordinate (highs ss) 1 ≡ s1.high = high_at ss 1 s1 c.index-spans-1.is lt1 in
    let end = c.width-i-end.ensures in
    let past : width s1.low s1.high ≤ c.loop-i.i = omega (arith, end, c.loop-i-test.false) in
    rows_done sign (coordinate (lows ss) 0) (coordinate (highs ss) 0) (coordinate (lows ss) 1) (coordinate (highs ss) 1) (drop 1 c.args.others.now) c.loop-i.i c.args.text.now.items c.loop-i.text.items
    (subst (λ (n : ℕ). n ≤ c.loop-i.i) (λ j. width (sym low1 j) (sym high1 j)) past) (c.loop-i.invariant.text sign right)

-- a row is as wide as the picture, and each block lies within it
pub push_row-requires-clause-from : goal.push_row-requires-clause-from
push_row-requires-clause-from c =
    let ss : List Span = c.args.spans.now in
    let s0 : Span = c.index-spans-0.result in
    let lt0 : 0 < length ss = omega (arith, c.requires.others.0) in
    let low0 : coordinate (lows ss) 0 ≡ s0.low = low_at ss 0 s0 c.index-spans-0.is lt0 in
    subst (λ (x : ℤ). All (λ (b : Block). x ≤ℤ low_of b 0) c.args.blocks.now) low0 c.requires.frame.from

pub push_row-requires-clause-to : goal.push_row-requires-clause-to
push_row-requires-clause-to c =
    let ss : List Span = c.args.spans.now in
    let s0 : Span = c.index-spans-0.result in
    let lt0 : 0 < length ss = omega (arith, c.requires.others.0) in
    let high0 : coordinate (highs ss) 0 ≡ s0.high = high_at ss 0 s0 c.index-spans-0.is lt0 in
    subst (λ (x : ℤ). All (λ (b : Block). high_of b 0 ≤ℤ x) c.args.blocks.now) high0 c.requires.frame.to

pub push_row-requires-clause-wide : goal.push_row-requires-clause-wide
push_row-requires-clause-wide c =
    let ss : List Span = c.args.spans.now in
    let s0 : Span = c.index-spans-0.result in
    let lt0 : 0 < length ss = omega (arith, c.requires.others.0) in
    let low0 : coordinate (lows ss) 0 ≡ s0.low = low_at ss 0 s0 c.index-spans-0.is lt0 in
    let high0 : coordinate (highs ss) 0 ≡ s0.high = high_at ss 0 s0 c.index-spans-0.is lt0 in
    c.loop-i.auto.row ∙ c.requires.row ∙ (λ i. width (low0 i) (high0 i))
