use Rattle.std.proofs.Common.{◌≡◌, ℕ, ℤ, subst, arith, inl, inr}
use Rattle.std.proofs.lemmas.Bool.{cases_lt}
use Rattle.geo_base.specs.Tuple.{spot}
use Rattle.problem_data.specs.Cells.{IsIn}
use Rattle.geo_load.proofs.Crossing.{crossing}
use Rattle.geo_load.proofs.reach.box_blocks.Goals as goal
use Rattle.geo_load.proofs.reach.box_blocks.Goals.{else-e-d-via-then-e-d+else-parts_in, else-e-d-via-else-e-d}

pub loop-e-preserved : goal.loop-e-preserved
loop-e-preserved c = λ f l n. elim (cases_lt f c.loop-e.e) [
  | inl before ↦ c.loop-e.invariant f before n
  | inr ge ↦ (
      let same : c.loop-e.e ≡ f = omega (arith, l, ge) in
      elim c.else-e-d.branch [
        | else-e-d-via-then-e-d+else-parts_in w ↦
            subst (λ (e : ℕ). (x : ℤ) × (IsIn c.args.a.now (spot c.args.layout.now c.args.i.0).origin e x × IsIn c.args.b.now (spot c.args.layout.now c.args.j.0).origin e x)) same w.if-parts_in.ensures.no
        | else-e-d-via-else-e-d w ↦ absurd (n (let own : c.loop-e.e ≡ c.args.d = w.if-e-d.false in omega (arith, same, own)))
      ]
      )
]

pub returns-clause-yes : goal.returns-clause-yes
returns-clause-yes c =
    crossing c.args.dims c.args.d c.args.a.now c.args.b.now (spot c.args.layout.now c.args.i.0).origin (spot c.args.layout.now c.args.j.0).origin c.requires.d c.requires.a c.requires.b
    c.if-not-reaches.ensures.yes (λ e l n. c.loop-e.invariant e (omega (arith, l, c.loop-e-test.false)) n)
