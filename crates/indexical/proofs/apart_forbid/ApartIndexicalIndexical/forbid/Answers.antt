use Rattle.geo_conditions.specs.Regions.{region_of}
use Rattle.indexical.specs.Apart.{apart}
use Rattle.indexical.proofs.Parts.{answer_has, answer_within, answer_refuted, answer_whole, answer_none}
use Rattle.indexical.proofs.apart_forbid.ApartIndexicalIndexical.forbid.Goals as goal

pub returns-clause-has : goal.returns-clause-has
returns-clause-has g c = answer_has (apart c.args.self.now.first c.args.self.now.second c.args.self.now.short) c.args.s.now c.args.o.0 c.args.place c.args.c.now.coordinates (region_of c.args.region.now) c.forbid_apart.result c.forbid_apart.ensures

pub returns-clause-within : goal.returns-clause-within
returns-clause-within g c = answer_within (apart c.args.self.now.first c.args.self.now.second c.args.self.now.short) c.args.s.now c.args.o.0 c.args.place c.args.c.now.coordinates (region_of c.args.region.now) c.forbid_apart.result c.forbid_apart.ensures

pub returns-clause-refuted : goal.returns-clause-refuted
returns-clause-refuted g c = answer_refuted (apart c.args.self.now.first c.args.self.now.second c.args.self.now.short) c.args.s.now c.args.o.0 c.args.place c.args.c.now.coordinates (region_of c.args.region.now) c.forbid_apart.result c.forbid_apart.ensures

pub returns-clause-whole : goal.returns-clause-whole
returns-clause-whole g c = answer_whole (apart c.args.self.now.first c.args.self.now.second c.args.self.now.short) c.args.s.now c.args.o.0 c.args.place c.args.c.now.coordinates (region_of c.args.region.now) c.forbid_apart.result c.forbid_apart.ensures

pub returns-clause-none : goal.returns-clause-none
returns-clause-none g c = answer_none (apart c.args.self.now.first c.args.self.now.second c.args.self.now.short) c.args.s.now c.args.o.0 c.args.place c.args.c.now.coordinates (region_of c.args.region.now) c.forbid_apart.result c.forbid_apart.ensures
