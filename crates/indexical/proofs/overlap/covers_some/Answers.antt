use Rattle.std.proofs.Common.{ap, sym, ◌∙◌, arith}
use Rattle.std.proofs.lemmas.Int.{ints}
use Rattle.std.proofs.lemmas.Bool.{true≢false}
use Rattle.geo_conditions.specs.declared.object.ObjId.{ObjId}
use Rattle.geo_conditions.specs.Reach.{low, high, just}
use Rattle.indexical.proofs.PutBoxes.{shape_out, clash_out}
use Rattle.indexical.proofs.overlap.covers_some.Goals as goal

pub returns-then-not-has_shape : goal.returns-then-not-has_shape
returns-then-not-has_shape g c = λ place p m.
    absurd (true≢false (sym (c.has_shape.ensures.1 (shape_out c.args.a.now c.args.b.now c.args.s.now place c.requires.first c.requires.objects (just p) m)) ∙ c.if-not-has_shape.true))

pub returns-then-not-clashes_somewhere : goal.returns-then-not-clashes_somewhere
returns-then-not-clashes_somewhere g c = λ place p m.
    let a = c.args.a.now in
    let b = c.args.b.now in
    let d = c.loop-d.d in
    let hi = c.interval-held.ensures.hi ∙ ap (λ (o : ObjId). high c.args.s.now o.0 d) c.object-other.ensures in
    let lo = c.interval-held.ensures.lo ∙ ap (λ (o : ObjId). low c.args.s.now o.0 d) c.object-other.ensures in
    let before = c.get-before.ensures ∙ c.requires.ahead d c.loop-d-test.true in
    let after = c.get-after.ensures ∙ c.requires.behind d c.loop-d-test.true in
    let k = clash_out a b c.args.s.now place c.requires.first c.requires.objects (just p) m d c.loop-d-test.true in
    absurd (true≢false (sym (c.clashes_somewhere.ensures.1 (omega (arith, ints, k.0, k.1, hi, lo, before, after))) ∙ c.if-not-clashes_somewhere.true))
