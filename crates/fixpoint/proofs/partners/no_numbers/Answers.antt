use Rattle.std.proofs.Common.{◌≡◌, ◌+◌, ◌++◌, ◌∷◌, [], ℕ, length, ap, sym, ◌∙◌, subst, List}
use Rattle.std.specs.declared.vec.Vec.{Vec}
use Rattle.std.specs.declared.alloc.Global.{Global}
use Rattle.fixpoint.specs.Links.{row}
use Rattle.fixpoint.proofs.Linking.{row_empty, length_more}
use Rattle.fixpoint.proofs.partners.no_numbers.Goals as goal

pub loop-preserved : goal.loop-preserved
loop-preserved c =
    let old = c.loop.few.items in
    let v = c.new.result in
    let q : c.push.new.self.items ≡ old ++ v ∷ [] = c.in_ok-push.ensures.items in (
      ap length q ∙ length_more old v ∙ ap (λ (m : ℕ). m + 1) c.loop.invariant.0,
      subst (λ (vs : List (Vec ℕ Global)). (u : ℕ) → row vs u ≡ []) (sym q) (row_empty old v c.new.ensures.items c.loop.invariant.1),
    )
