use Rattle.std.proofs.Common.{◌<◌, length, sym, ◌∙◌, rules}
use Rattle.geo_conditions.specs.Reach.{just, with_at}
use Rattle.indexical.specs.Apart.{SaysApart}
use Rattle.indexical.proofs.PutBoxes.{possible_says}
use Rattle.indexical.proofs.any.AnyIndexical.surely_leaves_free.Goals as goal

pub surely_leaves_free-requires : goal.surely_leaves_free-requires
surely_leaves_free-requires g c =
    let x = c.in-Some.boxes in
    let says : SaysApart x.first x.second x.short c.args.self.now.cond = c.args.self.now.says x c.in-Some.is in
    let both = says.exist c.args.s.now c.requires.fits in
    let first : x.first.object.0 < length c.args.s.now = both.0 in
    let second : x.second.object.0 < length c.args.s.now = both.1 in
    search rules

pub returns-in-Some : goal.returns-in-Some
returns-in-Some g c = λ h o s p ne named.
    let x = c.in-Some.boxes in
    let says : SaysApart x.first x.second x.short c.args.self.now.cond = c.args.self.now.says x c.in-Some.is in
    possible_says x.first x.second x.short c.args.self.now.cond says (with_at c.args.s.now o s (just p)) (c.surely_leaves_free.ensures h o s p ne (sym (says.named o) ∙ named))
