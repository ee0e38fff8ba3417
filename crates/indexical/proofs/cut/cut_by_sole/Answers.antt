use Rattle.std.proofs.Common.{◌∙◌, sym, arith}
use Rattle.std.proofs.lemmas.Int.{ints}
use Rattle.std.proofs.lemmas.Option.{none-some, same_Some}
use Rattle.geo_conditions.specs.Regions.{region_of}
use Rattle.indexical.proofs.Numbers.{kept64}
use Rattle.indexical.proofs.SoleCoordinate.{at_price, side_of, whole_forbidden, side_forbidden}
use Rattle.indexical.proofs.cut.cut_by_sole.Goals as goal

pub returns-in_default : goal.returns-in_default
returns-in_default g c =
    whole_forbidden c.args.s.now c.args.o.0 c.args.place c.requires.object c.args.f.now g.row.K c.args.c.now.coordinates (region_of c.args.b.now) c.requires.inside
    (omega (arith, ints, c.requires.above)) (λ k x h e. none-some _ (sym c.in_default.is ∙ c.requires.own k x h e))

pub returns : goal.returns
returns g c =
    side_forbidden c.args.s.now c.args.o.0 c.args.place c.requires.object c.args.f.now g.row.K c.args.c.now.coordinates (region_of c.args.b.now) c.requires.inside
    (omega (arith, ints, c.requires.above)) c.in-Some.d (λ k x h e. same_Some _ _ (sym (c.requires.own k x h e) ∙ c.in-Some.is)) c.terms-terms.ensures.form.in_order _ (side_of _ _ (kept64 c.factor_of-factor.result c.factor_of-factor.type_inv ∙ c.factor_of-factor.ensures)) (region_of c.begin_at.new.b) (region_of c.widen_at.new.b) _ c.widen_at.new.purse c.begin_at.ensures
    (at_price _ _ _ _ _ _ _ _ _ _ c.price_for.ensures (kept64 c.factor_of-factor.result c.factor_of-factor.type_inv ∙ c.factor_of-factor.ensures) c.widen_at.ensures) c.requires.above
