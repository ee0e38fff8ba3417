use Rattle.std.proofs.Common.{◌≡◌, ◌∙◌, ℕ, subst, sym, inl, inr, arith}
use Rattle.std.proofs.lemmas.Int.{ints}
use Rattle.std.proofs.lemmas.Bool.{cases_eq}
use Rattle.geo_base.specs.Boxes.{coordinate}
use Rattle.indexical.specs.Apart.{gap}
use Rattle.indexical.proofs.overlap.gaps.Goals as goal

pub loop-d-preserved : goal.loop-d-preserved
loop-d-preserved g c = λ e h. elim (cases_eq e c.loop-d.d) [
  | inl q ↦ subst (λ (k : ℕ). coordinate c.set.new.self.coordinates k ≡ gap c.args.a.now c.args.b.now k) (sym q) (omega (arith, ints, c.set.ensures.same, c.gap.ensures))
  | inr ne ↦ c.set.ensures.others e ne ∙ c.loop-d.invariant e (omega arith)
]
