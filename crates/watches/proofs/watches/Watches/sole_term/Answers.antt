use Rattle.std.proofs.Common.{◌≡◌, ◌<◌, length, map, get_or, ◌∙◌, subst, arith, rules}
use Rattle.std.specs.Int.{w128}
use mir.Val.{to_z, of_z}
use Rattle.std.proofs.lemmas.List.{length-map}
use Rattle.geo_conditions.specs.declared.cond.Cond.{Cond, Lin}
use Rattle.geo_conditions.specs.Conditions.{FitsIn}
use Rattle.indexical.specs.declared.any.AnyIndexical.{AnyIndexical}
use Rattle.watches.specs.Watches.{IsTotal}
use Rattle.watches.proofs.Holding.{cond_read, kept_total}
use Rattle.watches.proofs.Totals.{sole_decides}
use Rattle.watches.proofs.watches.Watches.sole_term.Goals as goal

pub total-total-requires : goal.total-total-requires
total-total-requires g c =
    let h = λ (x : AnyIndexical g.row.K). x.cond in
    let cs = map h c.args.list.now in
    let there : c.args.i < length cs = omega (arith, c.requires.condition, length-map c.args.list.now h) in
    let form : (d : Cond) → get_or cs c.args.i d ≡ Lin c.in-Lin.f = λ d. cond_read c.args.list.now c.args.i c.index-list-i.result c.cond.result.now d c.requires.condition c.index-list-i.is c.cond.ensures ∙ c.in-Lin.is in
    let fits : FitsIn (Lin c.in-Lin.f) c.args.s.now = subst (λ (y : Cond). FitsIn y c.args.s.now) (form (Lin c.in-Lin.f)) (c.requires.fits c.args.i (Lin c.in-Lin.f) there) in
    let some : 0 < length c.args.self.now.totals.items = omega (arith, c.requires.hold.as_many, c.requires.hold.places.0) in
    search rules

pub sole_of-requires : goal.sole_of-requires
sole_of-requires g c =
    let h = λ (x : AnyIndexical g.row.K). x.cond in
    let cs = map h c.args.list.now in
    let there : c.args.i < length cs = omega (arith, c.requires.condition, length-map c.args.list.now h) in
    let form : (d : Cond) → get_or cs c.args.i d ≡ Lin c.in-Lin.f = λ d. cond_read c.args.list.now c.args.i c.index-list-i.result c.cond.result.now d c.requires.condition c.index-list-i.is c.cond.ensures ∙ c.in-Lin.is in
    let fits : FitsIn (Lin c.in-Lin.f) c.args.s.now = subst (λ (y : Cond). FitsIn y c.args.s.now) (form (Lin c.in-Lin.f)) (c.requires.fits c.args.i (Lin c.in-Lin.f) there) in
    let total : IsTotal c.in-Lin.f c.args.s.now (to_z w128 (of_z w128 c.total-total.result)) = kept_total c.in-Lin.f c.args.s.now c.total-total.result (c.total-total.ensures.total cs there form c.requires.hold) in
    let least = total.least in
    let small = total.small in
    search rules

pub returns-in-Lin-clause-decides : goal.returns-in-Lin-clause-decides
returns-in-Lin-clause-decides g c =
    let h = λ (x : AnyIndexical g.row.K). x.cond in
    let cs = map h c.args.list.now in
    let form : (d : Cond) → get_or cs c.args.i d ≡ Lin c.in-Lin.f = λ d. cond_read c.args.list.now c.args.i c.index-list-i.result c.cond.result.now d c.requires.condition c.index-list-i.is c.cond.ensures ∙ c.in-Lin.is in
    sole_decides cs c.args.i c.in-Lin.f c.args.s.now c.args.o.0 c.sole_of.result form c.sole_of.ensures

pub returns-in-Lin-clause-hold : goal.returns-in-Lin-clause-hold
returns-in-Lin-clause-hold g c =
    let h = λ (x : AnyIndexical g.row.K). x.cond in
    let cs = map h c.args.list.now in
    let there : c.args.i < length cs = omega (arith, c.requires.condition, length-map c.args.list.now h) in
    let form : (d : Cond) → get_or cs c.args.i d ≡ Lin c.in-Lin.f = λ d. cond_read c.args.list.now c.args.i c.index-list-i.result c.cond.result.now d c.requires.condition c.index-list-i.is c.cond.ensures ∙ c.in-Lin.is in
    c.total-total.ensures.hold cs there form c.requires.hold
