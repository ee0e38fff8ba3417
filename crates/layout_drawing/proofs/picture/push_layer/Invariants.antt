use Rattle.std.proofs.Common.{◌≡◌, ◌++◌, ◌∷◌, ℕ, ℤ, List, drop, take}
use Rattle.std.specs.Prelude.{flat_map}
use Rattle.geo_base.specs.Boxes.{coordinate}
use Rattle.layout_drawing.specs.Blocks.{Owns, highs, lows}
use Rattle.layout_drawing.specs.Drawing.{AreSigns, downwards, layer_line, row}
use Rattle.layout_drawing.proofs.picture.push_layer.Given as goal

-- the line of the layer, and the rows so far
abbrev pub invariant-loop-i : goal.invariant-loop-i
invariant-loop-i l = record {
  text : (sign : List ℤ → ℕ) → AreSigns (Owns l.blocks) sign → l.text.items ≡ l.fn.text.items ++ (layer_line (drop 1 l.fn.others)
      ++ flat_map (λ y. row sign (coordinate (lows l.spans) 0) (coordinate (highs l.spans) 0) (y ∷ drop 1 l.fn.others)) (take l.i (downwards (coordinate (lows l.spans) 1) (coordinate (highs l.spans) 1))));
  others : drop 1 l.others ≡ drop 1 l.fn.others;
}
