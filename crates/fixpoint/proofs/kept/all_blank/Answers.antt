use Rattle.std.proofs.Common.{◌≡◌, ◌+◌, ◌++◌, ◌∷◌, [], ℕ, length, ap, sym, ◌∙◌, subst}
use Rattle.fixpoint.specs.Kept.{Slots, IsBlank}
use Rattle.fixpoint.proofs.Linking.{length_more}
use Rattle.fixpoint.proofs.Standing.{blank_rows}
use Rattle.fixpoint.proofs.kept.all_blank.Goals as goal

pub loop-o-preserved : goal.loop-o-preserved
loop-o-preserved g c =
    let old = c.loop-o.kept.items in
    let v = c.in_ok-blank_slots.field-0 in
    let q : c.push.new.self.items ≡ old ++ v ∷ [] = c.in_ok-push.ensures.items in (
      ap length q ∙ length_more old v ∙ ap (λ (m : ℕ). m + 1) c.loop-o.invariant.0,
      subst (λ (vs : Slots g.row.K). IsBlank vs) (sym q) (blank_rows old v c.in_ok-blank_slots.ensures c.loop-o.invariant.1),
    )
