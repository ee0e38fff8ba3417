-- What is read of the text that is made: the made problem, with its rules at some places.
use Rattle.std.proofs.Common.{◌≡◌, ℕ, List, [], ◌∷◌, map, refl, sym, ap, ◌∙◌, subst}
use Rattle.std.specs.Prelude.{codes}
use Rattle.problem_data.specs.Problem.{MacroData, DemandData, apart, within, plain, RuleData, ProblemData}
use Rattle.problem_data.specs.Accepted.{Accepts}
use Rattle.problem_text.specs.Canonical.{problem_text}
use Rattle.problem_text.specs.ReadBack.{bare_macro, bare_demand, bare_rule, bare_problem}
use Rattle.problem_text.proofs.OneProblem.{accepted_once}
use Rattle.problem_generator.specs.Made.{made_text}
use Rattle.generated_problems.specs.Problem.{rack, rules, made_problem}
use Rattle.generated_problems.proofs.Canonical.{made_is_canonical}
use Rattle.generated_problems.proofs.ReadBack.{made_reads_back}
use Rattle.generated_conditions.specs.Conditions.{HasRackConditions}
use Rattle.generated_conditions.proofs.Placed.{rules_at, placed, placed_conditions}

no_macros : (ms : List MacroData) → map bare_macro ms ≡ [] → ms ≡ []
no_macros [] e = refl
no_macros (m ∷ ms) e = absurd cc

-- ---- what is without formulas is the same at any place

abbrev HasNoFormula : DemandData → Type 0
HasNoFormula apart = Unit {0}
HasNoFormula (within rs) = Unit {0}
HasNoFormula (plain f) = ⊥

demand_is : (d e : DemandData) → HasNoFormula e → bare_demand d ≡ e → d ≡ e
demand_is apart e none same = same
demand_is (within rs) e none same = same
demand_is (plain f) e none same = absurd (subst HasNoFormula (sym same) none)

-- the rule at the place where it stands
rule_is : (r : RuleData) (name : List ℕ) (d : DemandData) → HasNoFormula d → bare_rule r ≡ record { place = 0; name = name; demand = d } → r ≡ record { place = r.place; name = name; demand = d }
rule_is r name d none same =
    let named : r.name ≡ name = ap (λ (x : RuleData). x.name) same in
    let asks : r.demand ≡ d = demand_is r.demand d none (ap (λ (x : RuleData). x.demand) same) in
    λ i. record { place = r.place; name = named i; demand = asks i }

rules_are : (rs : List RuleData) → map bare_rule rs ≡ rules → (a : ℕ) × (b : ℕ) × (rs ≡ rules_at a b)
rules_are [] e = absurd cc
rules_are (r ∷ []) e = absurd cc
rules_are (r ∷ (s ∷ [])) e =
    let first : bare_rule r ≡ record { place = 0; name = codes "rack"; demand = within rack } = cc in
    let second : bare_rule s ≡ record { place = 0; name = codes "free"; demand = apart } = cc in
    (r.place, s.place, λ i. rule_is r (codes "rack") (within rack) tt first i ∷ (rule_is s (codes "free") apart tt second i ∷ []))
rules_are (r ∷ (s ∷ (t ∷ rs))) e = absurd cc

-- ---- the problem that is read

read_is : (seed : ℕ) (p : ProblemData) → bare_problem p ≡ made_problem seed → (a : ℕ) × (b : ℕ) × (p ≡ placed seed a b)
read_is seed p same =
    let none : p.macros ≡ [] = no_macros p.macros (ap (λ (q : ProblemData). q.macros) same) in
    let r = rules_are p.rules (ap (λ (q : ProblemData). q.rules) same) in (
      r.0,
      r.1,
      λ i. record {
        version = (same i).version;
        dims = (same i).dims;
        shapes = (same i).shapes;
        objects = (same i).objects;
        macros = none i;
        rules = r.2 i;
        order = (same i).order;
        sides = (same i).sides;
      },
    )

-- as a problem the text is read
pub made_accepted : (seed : ℕ) → (p : ProblemData) × Accepts (made_text seed) p
made_accepted seed =
    let r = made_reads_back seed in
    (r.again, subst (λ (t : List ℕ). Accepts t r.again) (sym (made_is_canonical seed)) r.accepts)

pub made_conditions : (seed : ℕ) (p : ProblemData) → Accepts (made_text seed) p → HasRackConditions p
made_conditions seed p accepts =
    let r = made_reads_back seed in
    let again : Accepts (problem_text (made_problem seed)) p = subst (λ (t : List ℕ). Accepts t p) (made_is_canonical seed) accepts in
    let one : p ≡ r.again = accepted_once (problem_text (made_problem seed)) p r.again again r.accepts in
    let q = read_is seed p (ap bare_problem one ∙ r.same) in
    subst HasRackConditions (sym q.2) (placed_conditions seed q.0 q.1)
