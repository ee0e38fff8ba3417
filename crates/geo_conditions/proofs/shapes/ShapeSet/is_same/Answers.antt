use Rattle.std.proofs.Common.{◌≡◌, length, ap, sym, ◌∙◌}
use Rattle.std.proofs.lemmas.Bool.{eq-eqb, eqb-true}
use Rattle.std.specs.Cmp.{booleans_Decides}
use Rattle.std.specs.Cmp.Lexicographic.{pointwise_decides}
use Rattle.geo_conditions.specs.Reach.{how_many, sole_place}
use Rattle.geo_conditions.proofs.Sets.{sole_same}
use Rattle.geo_conditions.proofs.shapes.ShapeSet.is_same.Goals as goal

pub returns-then-other-eq1 : goal.returns-then-other-eq1
returns-then-other-eq1 c =
    let own = c.self.inside in
    let other = c.other.inside in
    let first : how_many own.there ≡ 1 = sym c.self.invariant.1 ∙ c.if-self-eq1.true in
    let second : how_many other.there ≡ 1 = sym c.other.invariant.1 ∙ c.if-other-eq1.true in
    let long : length own.there ≡ length other.there = c.self.invariant.0 ∙ sym c.other.invariant.0 in (
      λ t. sym c.self.view_is ∙ sole_same own.there other.there long first second (sym c.self.invariant.2 ∙ eqb-true own.sole other.sole t ∙ c.other.invariant.2) ∙ c.other.view_is,
      λ e. eq-eqb own.sole other.sole (c.self.invariant.2 ∙ ap sole_place (c.self.view_is ∙ e ∙ sym c.other.view_is) ∙ sym c.other.invariant.2),
    )

pub returns : goal.returns
returns c =
    let decides = pointwise_decides booleans_Decides c.self.inside.there c.other.inside.there in
    (λ t. sym c.self.view_is ∙ decides.0 (sym c.eq.ensures ∙ t) ∙ c.other.view_is, λ e. c.eq.ensures ∙ decides.1 (c.self.view_is ∙ e ∙ sym c.other.view_is))
