use Rattle.std.proofs.Common.{slice_set, pos, ap, ◌∙◌, get_or-set_same, get_or-set_other, arith, w64}
use Rattle.std.proofs.lemmas.Int.{to_z-of_z}
use Rattle.geo_base.proofs.point.Point.set.Goals as goal

pub returns-clause-whole : goal.returns-clause-whole
returns-clause-whole g c = ap (λ x. slice_set c.args.self.now.coordinates c.args.d x) (to_z-of_z w64 c.args.v c.ranges.v)

pub returns-clause-same : goal.returns-clause-same
returns-clause-same g c = get_or-set_same c.args.self.now.coordinates c.args.d _ _ (omega arith) ∙ to_z-of_z w64 c.args.v c.ranges.v

pub returns-clause-others : goal.returns-clause-others
returns-clause-others g c = λ e apart. get_or-set_other c.args.self.now.coordinates c.args.d e _ _ apart
