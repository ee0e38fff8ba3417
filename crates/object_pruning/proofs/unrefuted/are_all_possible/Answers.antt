use Rattle.std.proofs.Common.{ℕ, ◌-◌, ◌<◌, length, map, slice_index, refl, sym, ◌∙◌, subst, inl, inr, arith, rules}
use Rattle.std.proofs.lemmas.Bool.{false≢true, cases_eq}
use Rattle.sweep.proofs.PickedConditions.{pick_in}
use Rattle.object_pruning.specs.Gathered.{IsNumberPossible}
use Rattle.object_pruning.specs.Kept.{placed}
use Rattle.object_pruning.proofs.Possible.{picks_possible, pick_possible}
use Rattle.object_pruning.proofs.unrefuted.are_all_possible.Goals as goal

pub is_number_possible-requires : goal.is_number_possible-requires
is_number_possible-requires g c =
    let number : (0 < slice_index c.args.picks.now c.loop-k.k) × (slice_index c.args.picks.now c.loop-k.k - 1 < length c.args.list.now) = pick_in (length c.args.list.now) c.args.picks.now c.loop-k.k c.requires.picks c.loop-k-test.true in
    search rules

pub loop-k-preserved : goal.loop-k-preserved
loop-k-preserved g c = λ i h. elim (cases_eq i c.loop-k.k) [
  | inl e ↦ subst (λ (j : ℕ). IsNumberPossible (map g.I.Indexical.cond c.args.list.now) (placed c.args.s.now c.args.o.0 c.args.q.now) (slice_index c.args.picks.now j)) (sym e) (c.is_number_possible.ensures.0 c.if-not-is_number_possible.false)
  | inr ne ↦ c.loop-k.invariant i (omega (arith, h, ne))
]

pub returns-then-not-is_number_possible : goal.returns-then-not-is_number_possible
returns-then-not-is_number_possible g c = (
  λ e. absurd (false≢true e),
  λ n. absurd (false≢true (sym c.if-not-is_number_possible.true ∙ c.is_number_possible.ensures.1 (pick_possible (map g.I.Indexical.cond c.args.list.now) (placed c.args.s.now c.args.o.0 c.args.q.now) c.args.picks.now c.loop-k.k n c.loop-k-test.true))),
)

pub returns : goal.returns
returns g c = (
  λ e. picks_possible (map g.I.Indexical.cond c.args.list.now) (placed c.args.s.now c.args.o.0 c.args.q.now) c.args.picks.now (λ k h. c.loop-k.invariant k (omega (arith, h, c.loop-k-test.false))),
  λ n. refl,
)
