use Rattle.std.proofs.Common.{ℕ, ◌≡◌, ◌==◌, sym, ap, ◌∙◌, arith}
use Rattle.geo_conditions.specs.Reach.{only, is_only}
use Rattle.indexical.proofs.PutBoxes.{stands_at}
use Rattle.indexical.proofs.overlap.stands.Goals as goal

pub returns-then-place-ne0 : goal.returns-then-place-ne0
returns-then-place-ne0 g c =
    let is : (c.args.place == c.place.result) ≡ is_only (only c.args.place) c.args.a.now.place = ap (λ (p : ℕ). c.args.place == p) c.place.ensures ∙ stands_at c.args.place c.args.a.now.place (omega arith) in
    (λ h leaf. sym is ∙ h, λ f. is ∙ f (sym c.leaf.ensures ∙ c.if-not-leaf.false))
