use Rattle.std.proofs.Common.{◌<◌, length, rules}
use Rattle.geo_conditions.specs.Regions.{region_of}
use Rattle.indexical.specs.Apart.{apart}
use Rattle.indexical.proofs.ApartForm.{apart_says_apart}
use Rattle.indexical.proofs.Parts.{forbids_exactly}
use Rattle.indexical.proofs.PutBoxes.{matched_part}
use Rattle.indexical.proofs.apart_forbid.apart_part.Goals as goal

pub returns : goal.returns
returns g c =
    let x = c.args.x.now in
    let region = region_of c.args.region.now in
    let cond = apart x.first x.second x.short in
    forbids_exactly cond c.args.s.now c.args.o.0 c.args.place region c.overlap_part.result c.exactly.result
    (matched_part x.first x.second x.short cond (apart_says_apart x.first x.second x.short x.some) c.args.s.now c.args.o.0 c.args.place region c.overlap_part.result c.overlap_part.ensures)
    c.exactly.ensures

pub overlap_part-requires : goal.overlap_part-requires
overlap_part-requires g c =
    let x = c.args.x.now in
    let both = (apart_says_apart x.first x.second x.short x.some).exist c.args.s.now c.requires.fits in
    let first : x.first.object.0 < length c.args.s.now = both.0 in
    let second : x.second.object.0 < length c.args.s.now = both.1 in
    search rules
