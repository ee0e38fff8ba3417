-- What the calls of grounding answer.
use Rattle.std.specs.Prelude.{◌≡◌, IfSome, Option, Bool, true, false, if◌then◌else◌, List, [], ◌∷◌, ◌++◌, map, Result, MatchResult, ⊤}
use Rattle.std.specs.declared.vec.Vec.{Vec}
use Rattle.std.specs.declared.alloc.Global.{Global}
use Rattle.geo_conditions.specs.declared.cond.Cond.{Cond}
use Rattle.problem_data.specs.Problem.{ProblemData}
use Rattle.problem_data.specs.Value.{Thing}
use Rattle.rule_expand.specs.PlainTruth.{set_variable}
use Rattle.rule_expand.specs.PlainView.{plain_formula_view}
use Rattle.linear_conditions.specs.CondTree.{CondTree, cond_view}
use Rattle.linear_conditions.specs.Counts.{Counts, Outcome, Done, and_then}
use Rattle.linear_conditions.specs.Certain.{IsCertain}
use Rattle.linear_conditions.specs.Fixings.{Fixing}
use Rattle.linear_conditions.specs.Faults.{IsFault}
use Rattle.linear_conditions.specs.Folding.{verdict}
use Rattle.linear_conditions.specs.declared.verdict.Verdict.TheVariants.{Holds, Fails, Open}
use Rattle.linear_conditions.specs.declared.fault.GroundFault.{GroundFault}
use Rattle.rule_values.specs.View.{env_view, thing_view}
use Rattle.rule_ground.specs.declared.elements.Element.{Element as ElementCode}
use Rattle.rule_ground.specs.declared.elements.Element.TheVariants as elements
use Rattle.rule_ground.specs.declared.formulas.Site.{Site}
use Rattle.rule_ground.specs.declared.told.Told.{Told}
use Rattle.rule_ground.specs.Grounding.{Element, whole, split, optional, gone, Body, ground, is_idle}
use Rattle.rule_ground.specs.declared.quantifiers.Manner.{Manner}

abbrev pub element_view : ElementCode → Element
element_view (elements.Whole x) = whole (thing_view x)
element_view (elements.Split o) = split o.0
element_view (elements.Optional o) = optional o.0
element_view (elements.Gone o) = gone o.0

-- the grounding of a body at an element
abbrev pub body_at : ProblemData → Site → Body
body_at p b = λ x more k. ground p (plain_formula_view b.formula.now) b.sign (set_variable b.variable x (env_view b.env.now)) more k

-- a call's answer: the outcome's condition, with what was counted; or its fault
abbrev pub Gives : Outcome CondTree → Counts → Result Cond GroundFault → Type 0
Gives o k r = MatchResult r (λ c. o ≡ Done (cond_view c) k) (λ e. IsFault CondTree o e)

abbrev pub GivesAll : Outcome (List CondTree) → Counts → Result (Vec Cond Global) GroundFault → Type 0
GivesAll o k r = MatchResult r (λ v. o ≡ Done (map cond_view v.items) k) (λ e. IsFault (List CondTree) o e)

-- a call that makes the outcome's conditions of a list
abbrev pub Makes : Outcome (List CondTree) → List Cond → Counts → Result ⊤ GroundFault → Type 0
Makes o new k r = MatchResult r (λ u. o ≡ Done (map cond_view new) k) (λ e. IsFault (List CondTree) o e)

-- conditions before those of an outcome
unfoldable pub behind : List CondTree → Outcome (List CondTree) → Outcome (List CondTree)
behind cs o = and_then (List CondTree) (List CondTree) o (λ ds k. Done (cs ++ ds) k)

-- a call that appends the outcome's conditions to a list
abbrev pub Appends : Outcome (List CondTree) → List Cond → List Cond → Counts → Result ⊤ GroundFault → Type 0
Appends o old new k r = MatchResult r (λ u. behind (map cond_view old) o ≡ Done (map cond_view new) k) (λ e. IsFault (List CondTree) o e)

-- whether a condition is idle by what it says for certain
abbrev pub is_idle_one : Manner → CondTree → Bool
is_idle_one m c = elim (verdict c) [ Holds ↦ is_idle m true | Fails ↦ is_idle m false | Open ↦ false ]

-- the conditions that are not idle
abbrev pub busy_ones : Manner → List CondTree → List CondTree
busy_ones m [] = []
busy_ones m (c ∷ cs) = if is_idle_one m c then busy_ones m cs else c ∷ busy_ones m cs

-- an outcome's conditions that are not idle
unfoldable pub busy : Manner → Outcome (List CondTree) → Outcome (List CondTree)
busy m o = and_then (List CondTree) (List CondTree) o (λ cs k. Done (busy_ones m cs) k)

-- a call's answer, idle conditions aside
abbrev pub GivesBusy : Manner → Outcome (List CondTree) → Counts → Result (Vec Cond Global) GroundFault → Type 0
GivesBusy m o k r = MatchResult r (λ v. busy m o ≡ Done (busy_ones m (map cond_view v.items)) k) (λ e. IsFault (List CondTree) o e)

abbrev pub AppendsBusy : Manner → Outcome (List CondTree) → List Cond → List Cond → Counts → Result ⊤ GroundFault → Type 0
AppendsBusy m o old new k r = MatchResult r (λ u. busy m (behind (map cond_view old) o) ≡ Done (busy_ones m (map cond_view new)) k) (λ e. IsFault (List CondTree) o e)

-- what is told of a body, whatever it is grounded at
abbrev pub IsRow : ProblemData → Site → List Fixing → Option Told → Type 0
IsRow p b fix row = IfSome row (λ t. (x : Thing) → IsCertain (ground p (plain_formula_view b.formula.now) b.sign (set_variable b.variable x (env_view b.env.now)) fix) t.visits t.holds)
