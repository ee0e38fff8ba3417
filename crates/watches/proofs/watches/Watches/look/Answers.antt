use Rattle.std.proofs.Common.{◌≡◌, ◌<◌, length, map, get_or, sym, subst, arith}
use Rattle.std.proofs.lemmas.List.{length-map}
use Rattle.geo_conditions.specs.declared.cond.Cond.{Cond}
use Rattle.geo_conditions.specs.Conditions.{FitsIn}
use Rattle.indexical.specs.declared.any.AnyIndexical.{AnyIndexical}
use Rattle.watches.specs.Rests.{RestsOn}
use Rattle.watches.proofs.Holding.{cond_read, hold_noted}
use Rattle.watches.proofs.watches.Watches.look.Goals as goal

pub rests_by-requires : goal.rests_by-requires
rests_by-requires g c =
    let f = λ (x : AnyIndexical g.row.K). x.cond in
    let cs = map f c.args.list.now in
    let x = c.cond.result.now in
    let there : c.args.i < length cs = omega (arith, c.requires.condition, length-map c.args.list.now f) in
    let here : get_or cs c.args.i x ≡ x = cond_read c.args.list.now c.args.i c.index-list-i.result x x c.requires.condition c.index-list-i.is c.cond.ensures in
    let fits : FitsIn x c.args.s.now = subst (λ (y : Cond). FitsIn y c.args.s.now) here (c.requires.fits c.args.i x there) in
    (omega arith, (c.requires.k, fits))

pub returns-in-Some-clause-hold : goal.returns-in-Some-clause-hold
returns-in-Some-clause-hold g c =
    let f = λ (x : AnyIndexical g.row.K). x.cond in
    let cs = map f c.args.list.now in
    let S = c.args.s.now in
    let x = c.cond.result.now in
    let pair = c.in-Some.pair in
    c.watch.ensures cs S (hold_noted cs S c.args.self.now c.note.new.self c.requires.hold c.note.ensures) (λ d _.
    subst (λ (y : Cond). RestsOn y S pair.first.0 pair.second.0) (sym (cond_read c.args.list.now c.args.i c.index-list-i.result x d c.requires.condition c.index-list-i.is c.cond.ensures)) c.in-Some.ensures.0)

pub returns-in-None-clause-hold : goal.returns-in-None-clause-hold
returns-in-None-clause-hold g c = hold_noted (map (λ (x : AnyIndexical g.row.K). x.cond) c.args.list.now) c.args.s.now c.args.self.now c.note-in-None.new.self c.requires.hold c.note-in-None.ensures
