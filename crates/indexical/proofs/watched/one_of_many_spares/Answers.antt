use Rattle.std.proofs.Common.{ℤ, subst, w64}
use Rattle.std.proofs.lemmas.Int.{to_z-of_z}
use Rattle.geo_conditions.specs.declared.cond.Cond.{AtLeast}
use Rattle.indexical.specs.Free.{SparesAnywhere}
use Rattle.indexical.proofs.watched.one_of_many_spares.Goals as goal

pub returns-then-part_spares : goal.returns-then-part_spares
returns-then-part_spares g c = λ _.
    subst (λ (n : ℤ). SparesAnywhere (AtLeast n c.args.children.now) c.args.s.now c.args.o.0) (to_z-of_z w64 c.args.n c.ranges.n) (c.part_spares.ensures c.if-part_spares.true)
