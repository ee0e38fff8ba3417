use Rattle.std.proofs.Common.{◌<◌, length, rules}
use Rattle.geo_conditions.specs.Regions.{region_of}
use Rattle.indexical.specs.Apart.{SaysApart}
use Rattle.indexical.proofs.Parts.{forbids_exactly}
use Rattle.indexical.proofs.PutBoxes.{matched_part}
use Rattle.indexical.proofs.any.any_part.Goals as goal

pub overlap_part-requires : goal.overlap_part-requires
overlap_part-requires g c =
    let x = c.in-Some.boxes in
    let says : SaysApart x.first x.second x.short c.args.x.now.cond = c.args.x.now.says x c.in-Some.is in
    let both = says.exist c.args.s.now c.requires.fits in
    let first : x.first.object.0 < length c.args.s.now = both.0 in
    let second : x.second.object.0 < length c.args.s.now = both.1 in
    search rules

pub returns-in-Some : goal.returns-in-Some
returns-in-Some g c =
    let x = c.in-Some.boxes in
    let cond = c.args.x.now.cond in
    let region = region_of c.args.region.now in
    let says : SaysApart x.first x.second x.short cond = c.args.x.now.says x c.in-Some.is in
    forbids_exactly cond c.args.s.now c.args.o.0 c.args.place region c.overlap_part.result c.exactly.result
    (matched_part x.first x.second x.short cond says c.args.s.now c.args.o.0 c.args.place region c.overlap_part.result c.overlap_part.ensures)
    c.exactly.ensures
