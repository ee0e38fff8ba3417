use Rattle.std.proofs.Common.{map, refl, sym, ◌∙◌, subst, inl, inr, arith}
use Rattle.std.proofs.lemmas.Bool.{false≢true, cases_eq}
use Rattle.object_pruning.specs.Gathered.{IsNumberPossible}
use Rattle.object_pruning.specs.Kept.{placed}
use Rattle.object_pruning.proofs.unrefuted.are_possible.Goals as goal

pub loop-i-preserved : goal.loop-i-preserved
loop-i-preserved g c = λ i b. elim (cases_eq i c.loop-i.i) [
  | inl e ↦ subst (IsNumberPossible (map g.I.Indexical.cond c.args.list.now) (placed c.args.s.now c.args.o.0 c.args.q.now)) (sym e) (c.is_number_possible.ensures.0 c.if-not-is_number_possible.false)
  | inr ne ↦ c.loop-i.invariant i (b.0, omega (arith, b.1, ne))
]

pub returns-then-not-is_number_possible : goal.returns-then-not-is_number_possible
returns-then-not-is_number_possible g c = (
  λ e. absurd (false≢true e),
  λ n. absurd (false≢true (sym c.if-not-is_number_possible.true ∙ c.is_number_possible.ensures.1 (n c.loop-i.i (omega (arith, c.loop-i.auto.i), omega (arith, c.loop-i-test.true))))),
)

pub returns : goal.returns
returns g c = (λ e i b. c.loop-i.invariant i (b, omega (arith, b.1, c.loop-i-test.false)), λ n. refl)
