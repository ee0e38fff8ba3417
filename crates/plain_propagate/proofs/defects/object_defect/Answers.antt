use Rattle.std.proofs.Common.{sym, ◌∙◌, subst, arith, Option}
use Rattle.std.specs.Prelude.{MatchOption}
use Rattle.plain_propagate.specs.declared.defects.Defect.{Defect}
use Rattle.plain_propagate.specs.Defects.{PlacesFine, EndsFine, IsDefect}
use Rattle.geo_state.proofs.Shapes.{lo_long, hi_long}
use Rattle.plain_propagate.proofs.Finding.{one_more}
use Rattle.plain_propagate.proofs.defects.object_defect.Goals as goal

pub loop-d-preserved : goal.loop-d-preserved
loop-d-preserved g c = one_more (EndsFine c.args.cs.now c.args.s.now c.args.o.0) c.loop-d.d c.loop-d.invariant (subst (λ (a : Option Defect). MatchOption a (EndsFine c.args.cs.now c.args.s.now c.args.o.0 c.loop-d.d) (IsDefect c.args.cs.now c.args.s.now)) c.in_default-end_defect.is c.end_defect.ensures)

pub returns : goal.returns
returns g c =
    let S = c.args.s.now in
    let o = c.args.o.0 in
    let p = subst (λ (a : Option Defect). MatchOption a (PlacesFine c.args.cs.now S o) (IsDefect c.args.cs.now S)) c.in_default.is c.place_defect.ensures in
    let l = lo_long g.row.K S o c.objects-objects.ensures.shape c.requires.object in (
      p,
      (λ d b. c.loop-d.invariant d (omega (arith, b, l, c.loop-d-test.false))),
      l ∙ sym (hi_long g.row.K S o c.objects-objects.ensures.shape c.requires.object),
    )
