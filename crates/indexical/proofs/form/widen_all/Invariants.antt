use Rattle.geo_conditions.specs.Regions.{region_of}
use Rattle.indexical.specs.Widening.{WidensFrom}
use Rattle.indexical.proofs.form.widen_all.Given as goal

abbrev pub invariant-loop-j : goal.invariant-loop-j
invariant-loop-j g l = WidensFrom g.row.K l.way.lead l.j l.f l.o.0 l.high (region_of l.region) (region_of l.initial.b) (region_of l.b) l.initial.purse l.purse
