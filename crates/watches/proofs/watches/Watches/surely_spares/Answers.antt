use Rattle.std.proofs.Common.{◌≡◌, ◌<◌, length, map, get_or, refl, subst, arith, rules}
use Rattle.std.proofs.lemmas.List.{length-map}
use Rattle.geo_conditions.specs.declared.cond.Cond.{Cond}
use Rattle.geo_conditions.specs.Conditions.{FitsIn}
use Rattle.indexical.specs.declared.any.AnyIndexical.{AnyIndexical}
use Rattle.std.specs.Vec.{with_item}
use Rattle.watches.proofs.Holding.{cond_read, hold_watched}
use Rattle.watches.proofs.watches.Watches.surely_spares.Goals as goal

pub surely_spares_watched-requires : goal.surely_spares_watched-requires
surely_spares_watched-requires g c =
    let f = λ (x : AnyIndexical g.row.K). x.cond in
    let cs = map f c.args.list.now in
    let x = c.index-list-i.result.cond in
    let there : c.args.i < length cs = omega (arith, c.requires.condition, length-map c.args.list.now f) in
    let here : get_or cs c.args.i x ≡ x = cond_read c.args.list.now c.args.i c.index-list-i.result x x c.requires.condition c.index-list-i.is refl in
    let fits : FitsIn x c.args.s.now = subst (λ (y : Cond). FitsIn y c.args.s.now) here (c.requires.fits c.args.i x there) in
    search rules

pub returns-clause-hold : goal.returns-clause-hold
returns-clause-hold g c =
    let v = with_item c.find.new.self.watched c.args.i c.surely_spares_watched.new.watched in
    let long : length v.items ≡ length c.find.new.self.watched.items = search rules in
    hold_watched (map (λ (x : AnyIndexical g.row.K). x.cond) c.args.list.now) c.args.s.now c.find.new.self v long c.find.ensures.hold
