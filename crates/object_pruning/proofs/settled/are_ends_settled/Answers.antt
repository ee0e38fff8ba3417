use Rattle.std.proofs.Common.{ℕ, sym, subst, inl, inr, arith}
use Rattle.std.proofs.lemmas.Bool.{cases_eq}
use Rattle.object_pruning.specs.Ends.{IsTightEnd}
use Rattle.object_pruning.proofs.settled.are_ends_settled.Goals as goal

pub loop-d-preserved : goal.loop-d-preserved
loop-d-preserved g c = λ cs a d up h. elim (cases_eq d c.loop-d.d) [
  | inl e ↦ subst (λ (v : ℕ). IsTightEnd cs c.args.s.now c.args.o.0 v up) (sym e) (c.are_both_settled.ensures c.if-not-are_both_settled.false cs a up)
  | inr ne ↦ c.loop-d.invariant cs a d up (omega (arith, h, ne))
]
