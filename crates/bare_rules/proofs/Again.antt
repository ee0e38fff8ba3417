-- A problem without a fault has none where it stands at other places; and so what is read of its
-- texts has none.
use Rattle.std.proofs.Common.{◌≡◌, sym, ap, ◌∙◌, Bool}
use Rattle.problem_data.specs.Problem.{ProblemData}
use Rattle.problem_data.specs.Accepted.{Accepts, IsSaid}
use Rattle.problem_text.specs.Canonical.{MayState, text_stating}
use Rattle.problem_text.specs.ReadBack.{bare_problem, IsReadAs, MacrosRise, IsInOrder}
use Rattle.problem_text.proofs.OneProblem.{accepted_once}
use Rattle.problem_text.proofs.CanonicalRight.{stated_again, stated_in_order, said_rise}
use Rattle.fewer_rules.specs.Fewer.{HasConditions}
use Rattle.bare_rules.specs.Bare.{KeepsSight}
use Rattle.bare_rules.proofs.Rules.{expands_again, grounds_again}
use Rattle.bare_rules.proofs.Sight.{right_again, first_keeps}

pub conditions_again : (p q : ProblemData) → bare_problem p ≡ bare_problem q → KeepsSight p q → HasConditions p → HasConditions q
conditions_again p q same keeps h = record {
  names = right_again p q same keeps h.names;
  expands = expands_again p q same h.expands;
  grounds = grounds_again p q same h.grounds;
}

-- where all macros stand first, in their order
pub conditions_first : (p q : ProblemData) → bare_problem p ≡ bare_problem q → MacrosRise p → IsInOrder q → HasConditions p → HasConditions q
conditions_first p q same rise first h = conditions_again p q same (first_keeps p q same rise first) h

pub texts_keep : (order sides : Bool) (p again : ProblemData) → IsSaid p → MayState order sides p → Accepts (text_stating order sides p) again → HasConditions p → HasConditions again
texts_keep order sides p again said may accepts h =
    let read : IsReadAs (text_stating order sides p) p = stated_again order sides p said may accepts.says.short in
    let is : again ≡ read.again = accepted_once (text_stating order sides p) again read.again accepts read.accepts in
    let same : bare_problem p ≡ bare_problem again = sym (ap bare_problem is ∙ read.same) in
    conditions_first p again same (said_rise p said) (stated_in_order order sides p said may again accepts) h
