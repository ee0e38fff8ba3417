use Rattle.std.proofs.Common.{ℤ, ◌≤ℤ◌, ◌<ℤ◌, arith}
use Rattle.std.proofs.lemmas.Int.{ints}
use Rattle.box_ends.proofs.Corners.{on_false, common}
use Rattle.box_ends.proofs.spans.no_common.Goals as goal

pub returns-else-q_high-p_low-clause-no : goal.returns-else-q_high-p_low-clause-no
returns-else-q_high-p_low-clause-no c = on_false _ ((x : ℤ) × ((c.args.p_low ≤ℤ x) × (x <ℤ c.args.p_high) × (c.args.q_low ≤ℤ x) × (x <ℤ c.args.q_high)))
    (λ t. common c.args.p_low c.args.p_high c.args.q_low c.args.q_high (grind (arith, ints)) (grind (arith, ints)) (grind (arith, ints)) (grind (arith, ints)))
