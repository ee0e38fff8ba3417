use Rattle.std.proofs.Common.{ap, sym, ◌∙◌, rules, w64, Option}
use Rattle.std.proofs.lemmas.Int.{to_z-of_z}
use Rattle.geo_conditions.specs.declared.refute.Put.{Put}
use Rattle.geo_conditions.specs.Puts.{put_of, placing_of}
use Rattle.geo_conditions.specs.Reach.{low, put_on}
use Rattle.geo_conditions.proofs.Puts.{low_rest}
use Rattle.geo_conditions.proofs.refute.low_in.Goals as goal
use Rattle.geo_conditions.proofs.refute.low_in.Goals.{in_default-via-in-Some+else-p-o, in_default-via-in_default}

pub returns-in_default : goal.returns-in_default
returns-in_default g c =
    to_z-of_z w64 c.interval.result.lo (search rules) ∙ c.interval.ensures.lo
    ∙ (elim c.in_default.branch [
      | in_default-via-in-Some+else-p-o w ↦
          low_rest c.args.s.now (put_of c.args.put.now) (placing_of w.in-Some.p) c.args.o.0 c.args.d (ap (λ (m : Option (Put g.row.K)). put_of m) w.in-Some.is) w.if-p-o.false
      | in_default-via-in_default w ↦
          ap (λ (m : Option (Put g.row.K)). low (put_on (put_of m) c.args.s.now) c.args.o.0 c.args.d) (sym w.in_default.is)
    ])
