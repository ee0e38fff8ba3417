use Rattle.std.proofs.Common.{◌≡◌, ◌<◌, ◌≤◌, ◌+◌, ◌+ℤ◌, ◌++◌, ◌∷◌, [], ℕ, ℤ, pos, List, drop, length, set, take, to_z, of_z, refl, sym, ap, ◌∙◌, subst, arith}
use Rattle.std.specs.Prelude.{flat_map}
use Rattle.std.specs.Int.{w128}
use Rattle.std.proofs.lemmas.List.{take_all}
use Rattle.std.proofs.lemmas.Int.{ints}
use Rattle.geo_base.specs.Boxes.{coordinate}
use Rattle.geo_chan.proofs.Pieces.{all_of_them}
use Rattle.layout_drawing.specs.declared.span.Span.{Span}
use Rattle.layout_drawing.specs.Blocks.{highs, lows}
use Rattle.layout_drawing.specs.Drawing.{upwards, width}
use Rattle.layout_drawing.specs.Painting.{layer_of, layers_behind}
use Rattle.layout_drawing.proofs.Ends.{high_at, low_at}
use Rattle.layout_drawing.proofs.Pictured.{if_ok_as, last_layer, layers_more, front_same, front_more, front_kept, values_more, values_done}
use Rattle.layout_drawing.proofs.picture.+push_layers.Goals as goal

pub returns-then-fixed-others-clause-text : goal.returns-then-fixed-others-clause-text
returns-then-fixed-others-clause-text t c = λ sign right.
    let ss : List Span = c.args.spans.now in
    let others : List ℤ = c.args.others.now in
    let few : length ss ≤ c.args.fixed + 1 = omega (arith, c.if-fixed-others.true, c.requires.others.0) in
    let whole : take c.args.fixed others ≡ others = take_all c.args.fixed others (let e = c.if-fixed-others.true in omega arith) in
    if_ok_as c.push_layer.result c.push_layer.new.text.items c.args.text.now.items (layer_of sign ss (drop 1 others)) (layers_behind sign ss (c.args.fixed + 1) (drop 1 (take c.args.fixed others)))
    (sym (last_layer sign ss (c.args.fixed + 1) (drop 1 (take c.args.fixed others)) few ∙ ap (λ (xs : List ℤ). layer_of sign ss (drop 1 xs)) whole)) (c.push_layer.ensures.text sign right)

pub returns-in_err-push_layers-clause-others : goal.returns-in_err-push_layers-clause-others
returns-in_err-push_layers-clause-others t c =
    let y : ℤ = to_z w128 (of_z w128 c.nth.result) in
    front_same c.args.fixed c.push_layers.new.others (set c.loop-i.others c.args.fixed y) c.requires.fixed.0 c.in_err-push_layers.ensures.others ∙ front_kept c.args.fixed c.loop-i.others y ∙ c.loop-i.invariant.others

pub loop-i-preserved : goal.loop-i-preserved
loop-i-preserved t c =
    let ss : List Span = c.args.spans.now in
    let s : Span = c.index-spans-fixed.result in
    let n : ℕ = c.args.fixed in
    let i : ℕ = c.loop-i.i in
    let front : List ℤ = drop 1 (take n c.args.others.now) in
    let y : ℤ = to_z w128 (of_z w128 c.nth.result) in
    let lt : n + 1 < length ss = omega (arith, c.requires.others.0, c.requires.fixed.1, c.if-fixed-others.false) in
    let low : coordinate (lows ss) (n + 1) ≡ s.low = low_at ss (n + 1) s c.index-spans-fixed.is lt in
    let high : coordinate (highs ss) (n + 1) ≡ s.high = high_at ss (n + 1) s c.index-spans-fixed.is lt in
    let from = s.from in let to = s.to in let filled = s.filled in
    let at = c.nth.ensures in
    let end = c.width-i-end.ensures in
    let small : i < width s.low s.high = omega (arith, end, c.loop-i-test.true) in
    let number : y ≡ (coordinate (lows ss) (n + 1) +ℤ pos i) = omega (arith, ints) in
    let few : i < width (coordinate (lows ss) (n + 1)) (coordinate (highs ss) (n + 1)) = subst (λ (k : ℕ). i < k) (λ j. width (sym low j) (sym high j)) small in
    let cells : drop 1 (take (n + 1) (set c.loop-i.others n y)) ≡ front ++ y ∷ [] = front_more n c.loop-i.others y c.requires.fixed.0 (let m = c.loop-i.auto.others in omega (arith, m, c.requires.fixed.1, c.if-fixed-others.false)) ∙ ap (λ (xs : List ℤ). xs ++ y ∷ []) c.loop-i.invariant.others in
    record {
      text = λ sign right. values_more sign ss n front (coordinate (lows ss) (n + 1)) (coordinate (highs ss) (n + 1)) i y c.args.text.now.items c.loop-i.text.items c.push_layers.new.text.items (drop 1 (take (n + 1) (set c.loop-i.others n y))) few cells number
          (c.loop-i.invariant.text sign right) (c.in_ok-push_layers.ensures.text sign right);
      others = front_same n c.push_layers.new.others (set c.loop-i.others n y) c.requires.fixed.0 c.in_ok-push_layers.ensures.others ∙ front_kept n c.loop-i.others y ∙ c.loop-i.invariant.others;
    }

pub returns-clause-text : goal.returns-clause-text
returns-clause-text t c = λ sign right.
    let ss : List Span = c.args.spans.now in
    let s : Span = c.index-spans-fixed.result in
    let n : ℕ = c.args.fixed in
    let lt : n + 1 < length ss = omega (arith, c.requires.others.0, c.requires.fixed.1, c.if-fixed-others.false) in
    let end = c.width-i-end.ensures in
    let past : width s.low s.high ≤ c.loop-i.i = omega (arith, end, c.loop-i-test.false) in
    values_done sign ss n (drop 1 (take n c.args.others.now)) s c.loop-i.i c.args.text.now.items c.loop-i.text.items lt c.index-spans-fixed.is past (c.loop-i.invariant.text sign right)
