use Rattle.std.proofs.Common.{◌≡◌, ◌+◌, ◌∙◌, ℕ, ℤ, pos, [], ◌∷◌, length, length-append, ap, refl, sym, subst}
use Rattle.std.specs.List.{All}
use Rattle.std.proofs.lemmas.List.Elements.{All-append, All-cons, All-nil}
use Rattle.trail_search.proofs.start.zeros.Goals as goal

pub loop-i-preserved : goal.loop-i-preserved
loop-i-preserved c =
    let zero = λ (z : ℤ). z ≡ pos 0 in
    let old = c.loop-i.all.items in (
      ap length c.in_ok-push.ensures.items ∙ length-append old (pos 0 ∷ []) ∙ ap (λ (n : ℕ). n + 1) c.loop-i.invariant.0,
      subst (All zero) (sym c.in_ok-push.ensures.items) (All-append zero old (pos 0 ∷ []) c.loop-i.invariant.1 (All-cons zero (pos 0) [] refl (All-nil zero))),
    )
