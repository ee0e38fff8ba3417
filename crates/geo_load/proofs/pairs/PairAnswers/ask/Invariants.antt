use Rattle.std.proofs.Common.{◌≡◌, ◌<◌, ℕ, length}
use Rattle.geo_load.specs.Pairs.{IsRow}
use Rattle.geo_load.proofs.Rows.{row_in}
use Rattle.geo_load.proofs.pairs.PairAnswers.ask.Given as goal

-- the answers about the objects looked at
abbrev pub invariant-loop-i : goal.invariant-loop-i
invariant-loop-i l = record {
  long : length l.rows.items ≡ l.i;
  right : (k : ℕ) → k < l.i → IsRow l.problem l.layout l.d k (length l.problem.objects) (row_in l.rows.items k);
}
