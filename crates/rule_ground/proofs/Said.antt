-- A problem has few rules and few objects, and each of these few places.
use Rattle.std.proofs.Common.{◌≡◌, ℕ, ◌<◌, ◌≤◌, true, length, sym, subst, arith}
use Rattle.std.proofs.Math.Logic.{⊎_elim}
use Rattle.std.proofs.lemmas.Bool.{cases_lt}
use Rattle.std.proofs.lemmas.List.{length-map}
use Rattle.std.proofs.lemmas.Bool.Decides.{nat_tests}
use Rattle.problem_data.specs.Problem.{no_object, ProblemData}
use Rattle.problem_data.specs.Tuple.{object_of}
use Rattle.problem_data.specs.SomeRules.{numbered}
use Rattle.problem_data.specs.Accepted.{IsSaid}
use Rattle.problem_data.specs.WellFormed.{IsWellFormed}
use Rattle.rule_ground.specs.Shapes.{has_several, HasSmallShapes}
use Rattle.problem_data.specs.Places.{place_count}
use Rattle.problem_data.proofs.SomeRules.{few_kept}
use Rattle.rule_ground.proofs.Settled.{no-places, several-there}
use Rattle.rule_ground.proofs.Accepted.{accepted-small, accepted-rules}

pub said-small : (p : ProblemData) → IsSaid p → HasSmallShapes p
said-small p s =
    let h = accepted-small s.said.text s.whole s.said.accepts in
    subst HasSmallShapes (sym s.is) (record { few = h.few; boxes = h.boxes })

pub said-rules : (p : ProblemData) → IsSaid p → length p.rules ≤ 100
said-rules p s =
    let n = accepted-rules s.said.text s.whole s.said.accepts in
    let m = few_kept s.whole s.keep s.kept in
    let l = length-map s.keep (numbered s.whole.rules) in
    subst (λ (q : ProblemData). length q.rules ≤ 100) (sym s.is) (omega (arith, n, m, l))

pub few-places : (p : ProblemData) (o : ℕ) → IsWellFormed p → place_count (object_of p o) ≤ 16
few-places p o w = ⊎_elim
    (λ l. (w.objects o no_object l).few)
    (λ l. let e = no-places p o l in omega (arith, e))
    (cases_lt o (length p.objects))

pub small-object : (p : ProblemData) (o n : ℕ) → IsWellFormed p → n ≡ place_count (object_of p o) → 1 < n → o < 200
small-object p o n w e h =
    let several : has_several p o ≡ true = (let i : 1 < place_count (object_of p o) = omega (arith, e, h) in grind (arith, nat_tests)) in
    let l = several-there p o several in
    omega (arith, l, w.few)
