use Rattle.std.proofs.Common.{rules, ◌≡◌, ◌+◌, ◌*◌, ◌<◌, ◌+ℤ◌, ◌*ℤ◌, ◌-ℤ◌, ℕ, Some, sym, ap, ◌∙◌, subst, arith, ℤ}
use Rattle.std.specs.List.{All}
use Rattle.geo_base.specs.Boxes.{coordinate}
use Rattle.geo_conditions.specs.Reach.{low, high}
use Rattle.geo_conditions.specs.Conditions.{least_product}
use Rattle.indexical.specs.Widening.{factor_at}
use Rattle.std.specs.Int.{w64, w128}
use Rattle.std.proofs.lemmas.Option.{same_Some}
use mir.Val.{to_z, of_z}
use Rattle.geo_base.specs.declared.TheConstants.{MAX_DIMS}
use Rattle.geo_conditions.specs.declared.object.TheConstants.{MAX_OBJECTS}
use Rattle.geo_conditions.specs.Form.{IsBounded}
use Rattle.geo_conditions.specs.Sums.{InSum}
use Rattle.indexical.proofs.Numbers.{kept64}
use Rattle.indexical.proofs.SoleTerms.{factor_bounded, rest_is, sum_less, value_put}
use Rattle.indexical.proofs.sole_making.sole_of.Goals as goal

pub least_own-requires : goal.least_own-requires
least_own-requires g c =
    let a = c.factor_of-factor.result in
    let b : IsBounded (to_z w64 (of_z w64 a)) =
    subst IsBounded (sym (kept64 a c.factor_of-factor.type_inv ∙ c.factor_of-factor.ensures)) (factor_bounded c.args.f.now.terms c.args.o.0 c.in_ok-dimension.dimension c.terms-terms.ensures.form.factors) in
    search rules

pub new-requires : goal.new-requires
new-requires g c =
    let a = c.factor_of-factor.result in
    let b : IsBounded (to_z w64 (of_z w64 a)) =
    subst IsBounded (sym (kept64 a c.factor_of-factor.type_inv ∙ c.factor_of-factor.ensures)) (factor_bounded c.args.f.now.terms c.args.o.0 c.in_ok-dimension.dimension c.terms-terms.ensures.form.factors) in
    let r : InSum (MAX_OBJECTS * MAX_DIMS + 2) (to_z w128 (of_z w128 (to_z w128 (of_z w128 c.args.total) -ℤ to_z w128 (of_z w128 c.least_own.result)))) =
    subst (InSum (MAX_OBJECTS * MAX_DIMS + 2)) (sym (rest_is c.args.total c.least_own.result c.requires.small c.least_own.ensures.bound)) (sum_less (MAX_OBJECTS * MAX_DIMS + 1) c.args.total c.least_own.result c.requires.small c.least_own.ensures.bound) in
    search rules

pub returns : goal.returns
returns g c =
    let S = c.args.s.now in
    let o = c.args.o.0 in
    let f = c.args.f.now in
    let x = c.new.result in
    let d = c.in_ok-dimension.dimension in
    let some : c.in_ok-own.own ≡ Some d = c.in_ok-dimension.was in
    let own : All (λ a. a.object.0 ≡ o → a.dimension ≡ d) f.terms = λ k t h e. same_Some _ _ (sym (c.in_ok-own.ensures.own k t h e) ∙ some) in
    let factor : x.factor ≡ factor_at f.terms o d = c.new.ensures.factor ∙ kept64 c.factor_of-factor.result c.factor_of-factor.type_inv ∙ c.factor_of-factor.ensures in
    let least : c.least_own.result ≡ least_product x.factor (low S o d) (high S o d) = c.least_own.ensures.value ∙ ap (λ (z : ℤ). least_product z (low S o d) (high S o d)) (sym c.new.ensures.factor) in
    let rest : x.rest ≡ c.args.total -ℤ c.least_own.result = c.new.ensures.rest ∙ rest_is c.args.total c.least_own.result c.requires.small c.least_own.ensures.bound in
    record {
      value = λ place q. value_put S o c.requires.object f d own c.terms-terms.ensures.form.in_order place q c.args.total c.least_own.result x.rest x.factor c.requires.total factor least rest
          ∙ ap (λ (e : ℕ). x.rest +ℤ x.factor *ℤ coordinate q e) (sym c.new.ensures.dimension);
      own = λ k t h e. own k t h e ∙ sym c.new.ensures.dimension;
    }
