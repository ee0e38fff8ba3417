use Rattle.std.proofs.Common.{◌<◌, length, rules}
use Rattle.geo_conditions.specs.Reach.{just, with_at}
use Rattle.indexical.specs.Apart.{apart}
use Rattle.indexical.proofs.ApartForm.{apart_says_apart}
use Rattle.indexical.proofs.PutBoxes.{says_answer}
use Rattle.indexical.proofs.apart_forbid.apart_possible_at.Goals as goal

pub must_overlap_at-requires : goal.must_overlap_at-requires
must_overlap_at-requires g c =
    let x = c.args.x.now in
    let both = (apart_says_apart x.first x.second x.short x.some).exist c.args.s.now c.requires.fits in
    let first : x.first.object.0 < length c.args.s.now = both.0 in
    let second : x.second.object.0 < length c.args.s.now = both.1 in
    search rules

pub returns : goal.returns
returns g c =
    let x = c.args.x.now in
    says_answer x.first x.second x.short (apart x.first x.second x.short) (apart_says_apart x.first x.second x.short x.some) (with_at c.args.s.now c.args.o.0 c.args.place (just c.args.c.now.coordinates)) c.must_overlap_at.result c.must_overlap_at.ensures
