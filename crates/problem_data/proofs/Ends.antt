-- The ends of a hull, in the program.
use Rattle.std.proofs.Common.{◌≡◌, ℕ, ◌-◌, ◌<◌, List, [], ◌∷◌, length, map, get_or, refl, ap, ◌∙◌, arith}
use Rattle.problem_data.specs.declared.problem.RangeDef.{RangeDef}
use Rattle.problem_data.specs.Problem.{RangeData}
use Rattle.problem_data.specs.Pieces.{last_of, hull}
use Rattle.problem_data.specs.ProblemView.{range_data}

last-at : (r : RangeDef) (rest : List RangeDef) (d : RangeDef) → range_data (get_or (r ∷ rest) (length rest) d) ≡ last_of (range_data r) (map range_data rest)
last-at r [] d = refl
last-at r (s ∷ rest) d = last-at s rest d

pub hull-made : (xs : List RangeDef) (d e : RangeDef) → 0 < length xs → (let r : RangeData = record { low = (get_or xs 0 d).low; high = (get_or xs (length xs - 1) e).high } in r ≡ hull (map range_data xs))
hull-made [] d e h = absurd (omega (arith, h))
hull-made (r ∷ rest) d e h =
    let n : length (r ∷ rest) - 1 ≡ length rest = omega arith in
    ap (λ (k : ℕ). let z : RangeData = record { low = r.low; high = (get_or (r ∷ rest) k e).high } in z) n
    ∙ ap (λ (q : RangeData). let z : RangeData = record { low = r.low; high = q.high } in z) (last-at r rest e)
