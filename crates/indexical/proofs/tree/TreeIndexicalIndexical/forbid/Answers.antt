use Rattle.geo_conditions.specs.Regions.{region_of}
use Rattle.indexical.proofs.Parts.{answer_has, answer_within, answer_refuted, answer_whole, answer_none}
use Rattle.indexical.proofs.tree.TreeIndexicalIndexical.forbid.Goals as goal

pub returns-clause-has : goal.returns-clause-has
returns-clause-has g c = answer_has c.args.self.now.cond c.args.s.now c.args.o.0 c.args.place c.args.c.now.coordinates (region_of c.args.region.now) c.forbid_tree.result c.forbid_tree.ensures

pub returns-clause-within : goal.returns-clause-within
returns-clause-within g c = answer_within c.args.self.now.cond c.args.s.now c.args.o.0 c.args.place c.args.c.now.coordinates (region_of c.args.region.now) c.forbid_tree.result c.forbid_tree.ensures

pub returns-clause-refuted : goal.returns-clause-refuted
returns-clause-refuted g c = answer_refuted c.args.self.now.cond c.args.s.now c.args.o.0 c.args.place c.args.c.now.coordinates (region_of c.args.region.now) c.forbid_tree.result c.forbid_tree.ensures

pub returns-clause-whole : goal.returns-clause-whole
returns-clause-whole g c = answer_whole c.args.self.now.cond c.args.s.now c.args.o.0 c.args.place c.args.c.now.coordinates (region_of c.args.region.now) c.forbid_tree.result c.forbid_tree.ensures

pub returns-clause-none : goal.returns-clause-none
returns-clause-none g c = answer_none c.args.self.now.cond c.args.s.now c.args.o.0 c.args.place c.args.c.now.coordinates (region_of c.args.region.now) c.forbid_tree.result c.forbid_tree.ensures
