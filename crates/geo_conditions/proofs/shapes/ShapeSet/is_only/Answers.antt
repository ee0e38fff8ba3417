use Rattle.std.proofs.Common.{◌≡◌, ◌∙◌, ◌&&◌, ℕ, Bool, true, false, List, eqb, sym, ap, refl}
use Rattle.std.proofs.lemmas.Bool.{ne_eqb}
use Rattle.geo_conditions.specs.Reach.{how_many, is_only, place_in}
use Rattle.geo_conditions.proofs.shapes.ShapeSet.is_only.Goals as goal

neither : (there : Bool) → false ≡ (there && false)
neither true = refl
neither false = refl

-- where not one is counted, no place is the only one
not_one : (bs : List Bool) (place count : ℕ) → count ≡ how_many bs → (count ≡ 1 → ⊥) → eqb count 1 ≡ is_only bs place
not_one bs place count counted other =
    ne_eqb count 1 other ∙ neither (place_in bs place) ∙ ap (λ (one : Bool). place_in bs place && one) (sym (ne_eqb (how_many bs) 1 (λ e. other (counted ∙ e))))

pub returns-else-self-eq1 : goal.returns-else-self-eq1
returns-else-self-eq1 c = not_one c.args.self.now c.args.place c.self.inside.count (c.self.invariant.1 ∙ ap how_many c.self.view_is) c.if-self-eq1.false
