use Rattle.std.proofs.Common.{ℕ, ◌≡◌, ◌==◌, true, sym, ◌∙◌, subst, arith}
use Rattle.std.proofs.lemmas.Option.{same_Some}
use Rattle.std.proofs.lemmas.Bool.{true≢false}
use Rattle.geo_conditions.specs.Reach.{only, is_only}
use Rattle.indexical.proofs.PutBoxes.{stands_at, stands_nowhere}
use Rattle.indexical.proofs.bound.has_asked.Goals as goal

pub returns-then-place-ne0 : goal.returns-then-place-ne0
returns-then-place-ne0 c =
    let is : (c.args.place == c.in-Some.p) ≡ is_only (only c.args.place) c.in-Some.p = stands_at c.args.place c.in-Some.p (omega arith) in
    (λ h v e. subst (λ (x : ℕ). is_only (only c.args.place) x ≡ true) (same_Some _ _ (sym c.in-Some.is ∙ e)) (sym is ∙ h), λ f. is ∙ f c.in-Some.p c.in-Some.is)

pub returns-else-place-ne0 : goal.returns-else-place-ne0
returns-else-place-ne0 c =
    let zero : c.args.place ≡ 0 = omega (arith, c.if-place-ne0.false) in
    (λ h x e. absurd (grind (arith, h, zero)), λ f. absurd (true≢false (sym (f c.in-Some.p c.in-Some.is) ∙ stands_nowhere c.args.place c.in-Some.p zero)))
