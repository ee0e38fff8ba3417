use Rattle.std.proofs.Common.{ℕ, ◌<◌, map, length, get_or, sym, ◌∙◌, subst, arith}
use Rattle.std.specs.List.{All}
use Rattle.std.proofs.lemmas.List.{length-map}
use Rattle.geo_conditions.specs.declared.object.ObjId.{ObjId}
use Rattle.indexical.specs.declared.any.AnyIndexical.{AnyIndexical}
use Rattle.fixpoint.proofs.Standing.{retries_asked, retries_skipped}
use Rattle.fixpoint.proofs.Watching.{named_below}
use Rattle.fixpoint.proofs.kept.retry_marked.Goals as goal

pub is_any_marked-requires : goal.is_any_marked-requires
is_any_marked-requires g c =
    let f = λ (x : AnyIndexical g.row.K). x.cond in
    let there : c.args.i < length (map f c.args.list.now) = omega (arith, c.requires.condition, length-map c.args.list.now f) in
    subst (λ (n : ℕ). All (λ (u : ObjId). u.0 < n) c.args.named.now) (sym c.requires.marks) (named_below (map f c.args.list.now) c.args.i (length c.args.s.now) c.args.named.now there c.requires.named)

pub retry_watched-requires : goal.retry_watched-requires
retry_watched-requires g c = (omega arith, (omega arith, (omega arith, (c.requires.k, (c.requires.fits, (c.requires.object, (c.requires.condition, c.requires.hold)))))))

pub returns-then-is_any_marked-clause-kept : goal.returns-then-is_any_marked-clause-kept
returns-then-is_any_marked-clause-kept g c = λ d.
    let cs = map (λ (x : AnyIndexical g.row.K). x.cond) c.args.list.now in
    retries_asked (get_or cs c.args.i d) c.args.s.now c.args.o.0 c.args.marks.now c.args.kept.now c.retry_watched.new.kept (c.retry_watched.ensures.kept d)

pub returns-else-is_any_marked-clause-kept : goal.returns-else-is_any_marked-clause-kept
returns-else-is_any_marked-clause-kept g c = λ d.
    let cs = map (λ (x : AnyIndexical g.row.K). x.cond) c.args.list.now in
    retries_skipped (get_or cs c.args.i d) c.args.s.now c.args.o.0 c.args.marks.now c.args.named.now c.args.kept.now (c.requires.named d) c.requires.marks (sym c.is_any_marked.ensures ∙ c.if-is_any_marked.false)
