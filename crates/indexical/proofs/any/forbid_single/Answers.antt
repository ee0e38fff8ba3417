use Rattle.std.proofs.Common.{ℕ, ◌<◌, length, sym, subst}
use Rattle.geo_conditions.specs.Regions.{region_of}
use Rattle.indexical.proofs.Bounds.{bound_forbids}
use Rattle.indexical.proofs.Parts.{ForbidsPart, forbidden_at}
use Rattle.indexical.proofs.any.forbid_single.Goals as goal

pub returns-in-Some : goal.returns-in-Some
returns-in-Some g c =
    let b = c.in-Some.bound.now in
    let cond = c.args.x.now.cond in
    let S = c.args.s.now in
    let region = region_of c.args.region.now in
    let of = c.in-Some.ensures.0 in
    let there : b.object.0 < length S = subst (λ (u : ℕ). u < length S) (sym of) c.requires.object in
    let part : ForbidsPart cond S c.args.o.0 c.args.place region c.broken_part.result = subst (λ (u : ℕ). ForbidsPart cond S u c.args.place region c.broken_part.result) of
    (bound_forbids b S c.args.place there cond c.in-Some.ensures.1 region c.broken_part.result c.broken_part.ensures.none c.broken_part.ensures.within c.broken_part.ensures.passes c.broken_part.ensures.whole) in
    forbidden_at cond S c.args.o.0 c.args.place region c.args.c.now.coordinates c.broken_part.result c.box_with.result c.requires.inside part c.box_with.ensures.some c.box_with.ensures.none
