use Rattle.std.proofs.Common.{sym, ◌∙◌}
use Rattle.geo_conditions.specs.Reach.{just}
use Rattle.geo_conditions.specs.Regions.{region_of}
use Rattle.std.proofs.lemmas.Bool.{true≢false}
use Rattle.indexical.proofs.PutBoxes.{clashing_part, stands_out, shape_out}
use Rattle.indexical.proofs.overlap.overlap_beside.Goals as goal

pub returns-then-not-stands : goal.returns-then-not-stands
returns-then-not-stands g c = λ q has m.
    true≢false (sym (c.stands.ensures.1 (stands_out c.args.a.now c.args.b.now c.args.s.now c.args.place c.requires.first c.requires.objects (just q) m)) ∙ c.if-not-stands.true)

pub returns-then-not-has_shape : goal.returns-then-not-has_shape
returns-then-not-has_shape g c = λ q has m.
    true≢false (sym (c.has_shape.ensures.1 (shape_out c.args.a.now c.args.b.now c.args.s.now c.args.place c.requires.first c.requires.objects (just q) m)) ∙ c.if-not-has_shape.true)

pub returns : goal.returns
returns g c =
    clashing_part c.args.a.now c.args.b.now c.args.s.now c.args.place c.requires.first c.requires.objects (region_of c.args.region.now) c.clash_part.result
    (c.stands.ensures.0 c.if-not-stands.false) (c.has_shape.ensures.0 c.if-not-has_shape.false) c.clash_part.ensures.none c.clash_part.ensures.lo c.clash_part.ensures.hi c.clash_part.ensures.some
