use Rattle.std.proofs.Common.{◌≡◌, ◌+◌, ◌++◌, ◌∷◌, [], ℕ, length, ap, sym, ◌∙◌, subst, List}
use Rattle.std.specs.declared.vec.Vec.{Vec}
use Rattle.std.specs.declared.alloc.Global.{Global}
use Rattle.object_pruning.specs.declared.rows.Group.{Group}
use Rattle.object_pruning.specs.InRows.{row}
use Rattle.object_pruning.proofs.InRows.{row_empty, length_more}
use Rattle.object_pruning.proofs.row_making.empty_rows.Goals as goal

pub loop-preserved : goal.loop-preserved
loop-preserved c =
    let old = c.loop.rows.items in
    let v = c.new.result in
    let q : c.push.new.self.items ≡ old ++ v ∷ [] = c.in_ok-push.ensures.items in (
      ap length q ∙ length_more old v ∙ ap (λ (m : ℕ). m + 1) c.loop.invariant.0,
      subst (λ (vs : List (Vec Group Global)). (r : ℕ) → row vs r ≡ []) (sym q) (row_empty old v c.new.ensures.items c.loop.invariant.1),
    )
