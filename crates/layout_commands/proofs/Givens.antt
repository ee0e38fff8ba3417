-- What two texts give is one, and what gives something is not refused.
use Rattle.std.proofs.Common.{◌≡◌, ℕ, List, sym, subst}
use Rattle.geo_base.specs.Tuple.{Tuple}
use Rattle.layout_text.specs.FirstFault as layouts
use Rattle.layout_text.proofs.OneLayout.{layout_once, layout_or_fault}
use Rattle.problem_data.specs.Problem.{ProblemData}
use Rattle.problem_data.specs.WellFormed.{IsWellFormed}
use Rattle.problem_data.proofs.Accepted.{accepted_well_formed}
use Rattle.command_reply.specs.Accepted.{IsAccepted}
use Rattle.command_reply.specs.Given.{Gives, IsGiven}
use Rattle.command_reply.specs.declared.given.Given.{Given}
use Rattle.command_reply.specs.Refusal.{RefusedPairAnswer}
use Rattle.command_reply.proofs.Refusals.{same_problem, not_refused_pair}
use Rattle.command_reply.proofs.TwoTexts.{one-cut}

-- both ways of reading the two texts give the same problem and tuple
pub given_once : (input : List ℕ) (p q : ProblemData) (t u : Tuple) → Gives input p t → Gives input q u → (q ≡ p) × (u ≡ t)
given_once input p q t u a b =
    let e = one-cut input a.first a.second b.first b.second a.cut b.cut in
    let same : q ≡ p = same_problem a.first q p (subst (λ (z : List ℕ). IsAccepted z q) (sym e.0) b.accepted) a.accepted in (
      same,
      layout_once p a.second t u a.spells
          (subst (λ (x : ProblemData). layouts.Accepts x a.second u) same (subst (λ (z : List ℕ). layouts.Accepts q z u) (sym e.1) b.spells)),
    )

-- what is given is well formed
pub given_formed : (input : List ℕ) (p : ProblemData) (t : Tuple) → Gives input p t → IsWellFormed p
given_formed input p t g = accepted_well_formed g.first p g.accepted.spells

-- what is refused gives nothing
pub given_or_refused : (input text : List ℕ) (p : ProblemData) (t : Tuple) → Gives input p t → RefusedPairAnswer layouts.HasFaultFrom input text → ⊥
given_or_refused input text p t g (place, word, f, e) =
    not_refused_pair layouts.HasFaultFrom input g.first g.second p place word g.cut g.accepted (λ f. layout_or_fault p g.second t f.within word g.spells f.first) f

-- what was read gives the tuple
pub gives_read : (input : List ℕ) (g : Given) → IsGiven input g → Gives input g.accepted.problem g.layout
gives_read input g h = record { first = h.first; second = h.second; cut = h.cut; accepted = h.read.accepted; spells = h.spells }
