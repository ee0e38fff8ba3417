use Rattle.std.proofs.Common.{◌≡◌, ◌+◌, ◌-◌, ◌++◌, ◌∷◌, [], ℕ, ℤ, List, drop, length, take}
use Rattle.std.specs.Prelude.{flat_map}
use Rattle.geo_base.specs.Boxes.{coordinate}
use Rattle.layout_drawing.specs.Blocks.{Owns, highs, lows}
use Rattle.layout_drawing.specs.Drawing.{AreSigns, upwards}
use Rattle.layout_drawing.specs.Painting.{layers_behind}
use Rattle.layout_drawing.proofs.picture.+push_layers.Given as goal

abbrev pub decreases-push_layers : goal.decreases-push_layers
decreases-push_layers l = length l.others.now - l.fixed

-- the layers with the values so far of the next coordinate
abbrev pub invariant-loop-i : goal.invariant-loop-i
invariant-loop-i l = record {
  text : (sign : List ℤ → ℕ) → AreSigns (Owns l.blocks) sign → l.text.items ≡ l.fn.text.items
      ++ flat_map (λ x. layers_behind sign l.spans (l.fixed + 2) (drop 1 (take l.fixed l.fn.others) ++ x ∷ [])) (take l.i (upwards (coordinate (lows l.spans) (l.fixed + 1)) (coordinate (highs l.spans) (l.fixed + 1))));
  others : drop 1 (take l.fixed l.others) ≡ drop 1 (take l.fixed l.fn.others);
}
