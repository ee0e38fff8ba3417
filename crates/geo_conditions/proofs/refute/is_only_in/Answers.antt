use Rattle.std.proofs.Common.{ap, refl, arith, Option}
use Rattle.geo_conditions.specs.declared.refute.Put.{Put}
use Rattle.geo_conditions.specs.Puts.{put_of, placing_of}
use Rattle.geo_conditions.proofs.Puts.{is_only_put}
use Rattle.geo_conditions.proofs.refute.is_only_in.Goals as goal

pub returns-then-p-ne0 : goal.returns-then-p-ne0
returns-then-p-ne0 g c =
    is_only_put c.args.s.now (put_of c.args.put.now) (placing_of c.in-Some.p) c.args.o.0 c.args.place c.in-Some.p.place c.requires.object (ap (λ (m : Option (Put g.row.K)). put_of m) c.in-Some.is) c.if-p-o.true refl (omega arith)
