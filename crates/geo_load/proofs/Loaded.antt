-- What is answered from the answers about pairs is what the cells of the objects say.
use Rattle.std.proofs.Common.{◌≡◌, ℕ, List, Result, Ok, Err, IfOk, subst}
use Rattle.geo_base.specs.Tuple.{Tuple}
use Rattle.problem_data.specs.Problem.{ProblemData}
use Rattle.geo_load.specs.declared.order.Loading.{Loading}
use Rattle.geo_load.specs.declared.pairs.PairAnswers.{PairAnswers}
use Rattle.geo_load.specs.Blocks.{Blocks, present}
use Rattle.geo_load.specs.Order.{IsLoading, Promises}
use Rattle.geo_load.specs.Pairs.{Says, AreAnswersOf}
use Rattle.geo_load.proofs.Alike.{loading_alike}
use Rattle.geo_load.proofs.Laws.{promises}
use Rattle.geo_load.proofs.Presence.{present_inside}

module _ (p : ProblemData) (t : Tuple) (d : ℕ) {E : Type 0} where
  pub loaded : (answers : PairAnswers) (objects : List ℕ) (r : Result Loading E) → AreAnswersOf p t d answers → objects ≡ present p t
      → IfOk r (IsLoading (Says answers) objects) → IfOk r (IsLoading (Blocks p t d) (present p t))
  loaded answers objects (Ok l) are same h =
      loading_alike (Says answers) (Blocks p t d) (present p t) l (λ i j a b. are i (present_inside p t i a) j (present_inside p t j b))
      (subst (λ (xs : List ℕ). IsLoading (Says answers) xs l) same h)
  loaded answers objects (Err e) are same h = tt

  pub promised : (r : Result Loading E) → IfOk r (IsLoading (Blocks p t d) (present p t)) → IfOk r (Promises (Blocks p t d) (present p t))
  promised (Ok l) h = promises (Blocks p t d) (present p t) l h
  promised (Err e) h = tt
