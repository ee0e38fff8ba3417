-- All rules of a problem, one by one.
use Rattle.std.proofs.Common.{◌≡◌, ℕ, ◌+◌, ◌<◌, ◌≤◌, Bool, true, false, cond, List, [], ◌∷◌, ◌++◌, length, drop, take, map, get_or, sym, ap, ◌∙◌, refl, arith}
use Rattle.std.specs.Prelude.{None, Some}
use Rattle.std.proofs.lemmas.List.{drop_more, take_more, take_all, map-append, get_or-map, length-map}
use Rattle.std.proofs.Math.ListN.{drop_of_length-le}
use Rattle.problem_data.specs.Problem.{DemandData, RuleData, ProblemData}
use Rattle.problem_data.specs.Problem as written
use Rattle.problem_data.specs.Tuple.{Tuple}
use Rattle.rule_expand.specs.Rules.{PlainDemand, PlainRuleData, plain_rule_data, rule_expanded, demand_expanded, first_place, AllAskSame, AsksSame}
use Rattle.rule_expand.specs.declared.plain.PlainRule.{PlainRule}
use Rattle.rule_expand.proofs.Expanded.{expanded-holds}

-- past a rule that the test does not take
pub first-skip : (test : PlainDemand → Bool) (rules : List PlainRuleData) (i : ℕ) (d : PlainRuleData) → i < length rules → test (get_or rules i d).demand ≡ false → first_place test (drop i rules) ≡ first_place test (drop (i + 1) rules)
first-skip test rules i d h e = ap (first_place test) (drop_more rules i d h) ∙ ap (λ b. cond b (Some (get_or rules i d).place) (first_place test (drop (i + 1) rules))) e

-- at a rule that it takes
pub first-take : (test : PlainDemand → Bool) (rules : List PlainRuleData) (i : ℕ) (d : PlainRuleData) → i < length rules → test (get_or rules i d).demand ≡ true → first_place test (drop i rules) ≡ Some (get_or rules i d).place
first-take test rules i d h e = ap (first_place test) (drop_more rules i d h) ∙ ap (λ b. cond b (Some (get_or rules i d).place) (first_place test (drop (i + 1) rules))) e

at : {X : Type 0} (f : X → PlainRuleData) (items : List X) (i : ℕ) (x : X) → i < length items → x ≡ get_or items i x → get_or (map f items) i (f x) ≡ f x
at f items i x h e = get_or-map f items i x (f x) h ∙ ap f (sym e)

pub skip-item : {X : Type 0} (f : X → PlainRuleData) (test : PlainDemand → Bool) (items : List X) (i : ℕ) (x : X) → i < length items → x ≡ get_or items i x → test (f x).demand ≡ false →
    first_place test (drop i (map f items)) ≡ first_place test (map f items) → first_place test (drop (i + 1) (map f items)) ≡ first_place test (map f items)
skip-item f test items i x h e g k =
    sym (first-skip test (map f items) i (f x) (let n = length-map items f in omega arith) (ap (λ r. test r.demand) (at f items i x h e) ∙ g)) ∙ k

pub take-item : {X : Type 0} (f : X → PlainRuleData) (test : PlainDemand → Bool) (items : List X) (i : ℕ) (x : X) → i < length items → x ≡ get_or items i x → test (f x).demand ≡ true →
    first_place test (drop i (map f items)) ≡ first_place test (map f items) → first_place test (map f items) ≡ Some (f x).place
take-item f test items i x h e g k =
    sym k ∙ first-take test (map f items) i (f x) (let n = length-map items f in omega arith) (ap (λ r. test r.demand) (at f items i x h e) ∙ g) ∙ ap (λ r. Some r.place) (at f items i x h e)

pub none-left : {X : Type 0} (f : X → PlainRuleData) (test : PlainDemand → Bool) (items : List X) (i : ℕ) → length items ≤ i → first_place test (drop i (map f items)) ≡ first_place test (map f items) → first_place test (map f items) ≡ None
none-left f test items i h k = sym k ∙ ap (first_place test) (drop_of_length-le (map f items) (let n = length-map items f in omega arith))

-- one rule more is made
pub made-step : (p : ProblemData) (rules : List RuleData) (i : ℕ) (r : RuleData) (made more : List PlainRule) (one : PlainRule) → i < length rules → r ≡ get_or rules i r → map plain_rule_data made ≡ map (rule_expanded p) (take i rules) →
    plain_rule_data one ≡ rule_expanded p r → more ≡ made ++ one ∷ [] → map plain_rule_data more ≡ map (rule_expanded p) (take (i + 1) rules)
made-step p rules i r made more one h e k v m =
    ap (map plain_rule_data) m ∙ map-append plain_rule_data made (one ∷ []) ∙ ap (λ xs. xs ++ plain_rule_data one ∷ []) k ∙ ap (λ x. map (rule_expanded p) (take i rules) ++ x ∷ []) (v ∙ ap (rule_expanded p) e)
    ∙ sym (ap (map (rule_expanded p)) (take_more rules i r h) ∙ map-append (rule_expanded p) (take i rules) (get_or rules i r ∷ []))

pub made-all : (p : ProblemData) (rules : List RuleData) (i : ℕ) (made : List PlainRule) → length rules ≤ i → map plain_rule_data made ≡ map (rule_expanded p) (take i rules) → map plain_rule_data made ≡ map (rule_expanded p) rules
made-all p rules i made h k = k ∙ ap (map (rule_expanded p)) (take_all i rules h)

asks-same : (p : ProblemData) (t : Tuple) (d : DemandData) → AsksSame p t d (demand_expanded p d)
asks-same p t written.apart = tt
asks-same p t (written.within rs) = refl
asks-same p t (written.plain f) = expanded-holds p t f

pub all-ask-same : (p : ProblemData) (t : Tuple) (rules : List RuleData) → AllAskSame p t rules (map (rule_expanded p) rules)
all-ask-same p t [] = tt
all-ask-same p t (r ∷ rules) = (refl, asks-same p t r.demand, all-ask-same p t rules)
