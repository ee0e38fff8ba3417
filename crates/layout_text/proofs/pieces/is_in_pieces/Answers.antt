use Rattle.std.proofs.Common.{List, sym, ◌∙◌, subst, below_more, pos}
use Rattle.std.proofs.lemmas.Bool.{false≢true}
use Rattle.std.proofs.lemmas.List.{get_or-map}
use Rattle.problem_data.specs.Problem.{RangeData}
use Rattle.problem_data.specs.Pieces.{IsInRange, no_range, range_at}
use Rattle.problem_data.specs.ProblemView.{range_data}
use Rattle.layout_text.proofs.pieces.is_in_pieces.Goals as goal

pub loop-range-preserved : goal.loop-range-preserved
loop-range-preserved c =
    below_more (λ n. IsInRange (range_at c.args.pieces.now n) c.args.number.value → ⊥) c.loop-range.range-index c.loop-range.invariant
    (λ h. absurd (false≢true (sym c.if-is_in_range.false ∙ c.is_in_range.ensures.1
    (subst (λ (r : RangeData). IsInRange r c.args.number.value) (get_or-map range_data c.ranges-range-items.result.now c.loop-range.range-index (record { low = pos 0; high = pos 0 }) no_range c.loop-range-test.true)
    (subst (λ (rs : List RangeData). IsInRange (range_at rs c.loop-range.range-index) c.args.number.value) (sym c.ranges-range-items.ensures) h)))))
