use Rattle.std.proofs.Common.{ℤ, ◌≤ℤ◌, ◌<ℤ◌, ◌-ℤ◌, pos, arith}
use Rattle.std.proofs.lemmas.Int.{ints}
use Rattle.box_ends.proofs.Corners.{on_true, on_false}
use Rattle.geo_meaning.proofs.boxes.all_between.Goals as goal

pub returns-then-lowest-low-clause-no : goal.returns-then-lowest-low-clause-no
returns-then-lowest-low-clause-no c = on_false _ ((x : ℤ) × ((c.args.low ≤ℤ x) × (x <ℤ c.args.high) × ((c.args.lowest ≤ℤ x) → (x ≤ℤ c.args.highest) → ⊥)))
    (λ t. (c.args.high -ℤ pos 1, (grind (arith, ints), grind (arith, ints), λ l h. grind (arith, ints))))

pub returns-then-lowest-low-clause-yes : goal.returns-then-lowest-low-clause-yes
returns-then-lowest-low-clause-yes c = on_true _ ((x : ℤ) → c.args.low ≤ℤ x → x <ℤ c.args.high → (c.args.lowest ≤ℤ x) × (x ≤ℤ c.args.highest))
    (λ t x h k. (omega (arith, ints, h), grind (arith, ints)))

pub returns-else-lowest-low-clause-no : goal.returns-else-lowest-low-clause-no
returns-else-lowest-low-clause-no c = on_false _ ((x : ℤ) × ((c.args.low ≤ℤ x) × (x <ℤ c.args.high) × ((c.args.lowest ≤ℤ x) → (x ≤ℤ c.args.highest) → ⊥)))
    (λ t. (c.args.low, (grind (arith, ints), grind (arith, ints), λ l h. grind (arith, ints))))
