use Rattle.std.proofs.Common.{◌≡◌, ℕ, true, ap, sym, ◌∙◌, subst}
use Rattle.geo_conditions.specs.Reach.{is_only, sole_place}
use Rattle.geo_conditions.proofs.Sets.{sole_out, sole_in}
use Rattle.geo_conditions.proofs.shapes.ShapeSet.sole.Goals as goal

pub returns : goal.returns
returns c =
    let set = c.args.self.now in
    let is : c.self.inside.sole ≡ sole_place set = c.self.invariant.2 ∙ ap sole_place c.self.view_is in record {
      alone = λ n. subst (λ (s : ℕ). is_only set s ≡ true) (sym is) (sole_out set (λ e. n (is ∙ e)));
      only = λ s h. sole_in set s h ∙ sym is;
    }
