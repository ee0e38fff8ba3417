use Rattle.std.proofs.Common.{◌≡◌, ◌<◌, length, map, get_or, ap, sym, ◌∙◌, subst, arith, rules}
use Rattle.std.proofs.lemmas.List.{length-map, get_or-map}
use Rattle.geo_conditions.specs.declared.cond.Cond.{Cond}
use Rattle.geo_conditions.specs.Conditions.{FitsIn}
use Rattle.indexical.specs.declared.any.AnyIndexical.{AnyIndexical}
use Rattle.object_pruning.specs.Kept.{retried}
use Rattle.fixpoint.proofs.Standing.{retried_anywhere, retried_sole}
use Rattle.fixpoint.proofs.kept.retry_watched.Goals as goal

pub retry-requires : goal.retry-requires
retry-requires g c =
    let f = λ (x : AnyIndexical g.row.K). x.cond in
    let cs = map f c.args.list.now in
    let i = c.args.i in
    let x = c.index-list-i.result in
    let m : i < length c.args.list.now = c.requires.condition in
    let n : length cs ≡ length c.args.list.now = length-map c.args.list.now f in
    let at : get_or cs i x.cond ≡ x.cond = get_or-map f c.args.list.now i x x.cond m ∙ ap f (sym c.index-list-i.is) in
    let fits : FitsIn x.cond c.args.s.now = subst (λ (y : Cond). FitsIn y c.args.s.now) at (c.requires.fits i x.cond (omega (arith, m, n))) in
    search rules

pub returns-then-surely_spares-clause-kept : goal.returns-then-surely_spares-clause-kept
returns-then-surely_spares-clause-kept g c = λ d.
    let cs = map (λ (x : AnyIndexical g.row.K). x.cond) c.args.list.now in
    sym (retried_anywhere (get_or cs c.args.i d) c.args.s.now c.args.o.0 (c.surely_spares.ensures.spares c.if-surely_spares.true d) c.args.kept.now)

pub returns-clause-kept : goal.returns-clause-kept
returns-clause-kept g c = λ d.
    let f = λ (x : AnyIndexical g.row.K). x.cond in
    let x = c.index-list-i.result in
    let at : get_or (map f c.args.list.now) c.args.i d ≡ x.cond = get_or-map f c.args.list.now c.args.i x d c.requires.condition ∙ ap f (sym c.index-list-i.is) in
    c.retry.ensures ∙ ap (λ (y : Cond). map (retried y c.args.s.now c.args.o.0) c.args.kept.now) (sym at)

pub returns-in-Some-clause-kept : goal.returns-in-Some-clause-kept
returns-in-Some-clause-kept g c = λ d.
    let cs = map (λ (x : AnyIndexical g.row.K). x.cond) c.args.list.now in
    c.retry_sole.ensures ∙ retried_sole (get_or cs c.args.i d) c.args.s.now c.args.o.0 c.in-Some.sole (c.in-Some.ensures.decides d) c.args.kept.now
