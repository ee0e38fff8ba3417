use Rattle.std.proofs.Common.{◌<◌, length, rules}
use Rattle.geo_conditions.specs.Reach.{just, with_at}
use Rattle.indexical.specs.Apart.{SaysApart}
use Rattle.indexical.proofs.PutBoxes.{says_answer}
use Rattle.indexical.proofs.any.any_possible_at.Goals as goal

pub must_overlap_at-requires : goal.must_overlap_at-requires
must_overlap_at-requires g c =
    let x = c.in-Some.boxes in
    let says : SaysApart x.first x.second x.short c.args.x.now.cond = c.args.x.now.says x c.in-Some.is in
    let both = says.exist c.args.s.now c.requires.fits in
    let first : x.first.object.0 < length c.args.s.now = both.0 in
    let second : x.second.object.0 < length c.args.s.now = both.1 in
    search rules

pub returns-in-Some : goal.returns-in-Some
returns-in-Some g c =
    let x = c.in-Some.boxes in
    let says : SaysApart x.first x.second x.short c.args.x.now.cond = c.args.x.now.says x c.in-Some.is in
    says_answer x.first x.second x.short c.args.x.now.cond says (with_at c.args.s.now c.args.o.0 c.args.place (just c.args.c.now.coordinates)) c.must_overlap_at.result c.must_overlap_at.ensures
