use Rattle.linear_conditions.specs.Settled.{expr_needs}
use Rattle.linear_conditions.proofs.Values.{first_part, second_part}
use Rattle.linear_conditions.proofs.Compared.{compare-true}
use Rattle.linear_conditions.proofs.laws.comparisons_are_meant.Goals as goal

pub returns : goal.returns
returns c = λ p t fix env a rel b k tuple covered left right.
    compare-true p t fix env tuple a rel b k (first_part p t fix env (λ s. expr_needs s a) (λ s. expr_needs s b) covered) (second_part p t fix env (λ s. expr_needs s a) (λ s. expr_needs s b) covered) left right
