use Rattle.std.proofs.Common.{ℕ, pos, sym, ap, ◌∙◌}
use lib.Signed.{le_z}
use Rattle.linear_conditions.proofs.Counting.{fold-count, count-from}
use Rattle.linear_conditions.proofs.laws.folded_counts_count.Goals as goal

pub returns : goal.returns
returns c = λ t n cs. fold-count t n cs ∙ ap (λ (m : ℕ). le_z n (pos m)) (sym (count-from t cs))
