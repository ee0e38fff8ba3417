-- A call of a macro in sight is its body, where the macros before it are in sight.
use Rattle.std.proofs.Common.{◌≡◌, ◌≢◌, ℕ, zero, suc, ◌<◌, ◌≤◌, eqb, Bool, true, false, cond, List, sym, ap, ◌∙◌, refl, arith}
use Rattle.std.specs.Prelude.{Some}
use Rattle.std.specs.Option.{option_map_or}
use Rattle.std.proofs.lemmas.Bool.Decides.{nat_tests}
use Rattle.problem_data.specs.Problem.{ParamData, MacroData, ProblemData}
use Rattle.problem_data.specs.Tree.{BodyTree}
use Rattle.problem_data.specs.Value.{macro_position}
use Rattle.problem_data.specs.Truth.{macro_of}
use Rattle.rule_expand.specs.Plain as plain
use Rattle.rule_expand.specs.Plain.{PlainExprTree, PlainFormulaTree}
use Rattle.rule_expand.specs.Expansion.{Meant, give_all, body_expr, body_formula, expansions_of}
use Rattle.rule_expand.specs.Costs.{price_all, body_cost, costs_of, body_formula_cost, formula_costs_of}

-- what is made stage by stage, one macro at a time
staged_by : (A : Type 0) (F : ℕ → ℕ → A) (B : ℕ → A) (n k : ℕ) (b : Bool) → eqb k n ≡ b → k < suc n → (k < n → F n k ≡ B k) → cond b (B n) (F n k) ≡ B k
staged_by A F B n k true e h ih = let f : n ≡ k = grind (arith, nat_tests) in ap B f
staged_by A F B n k false e h ih = ih (let f : k ≢ n = grind (arith, nat_tests) in omega arith)

staged : (A : Type 0) (F : ℕ → ℕ → A) (B : ℕ → A) → ((n k : ℕ) → F (suc n) k ≡ cond (eqb k n) (B n) (F n k)) → (n k : ℕ) → k < n → F n k ≡ B k
staged A F B s zero k h = absurd (omega arith)
staged A F B s (suc n) k h = s n k ∙ staged_by A F B n k (eqb k n) refl h (staged A F B s n k)

unstaged_by : (A : Type 0) (F : ℕ → ℕ → A) (B : ℕ → A) (d : A) (n k : ℕ) (b : Bool) → eqb k n ≡ b → n < k → F n k ≡ d → cond b (B n) (F n k) ≡ d
unstaged_by A F B d n k true e h ih = absurd (let f : n ≡ k = grind (arith, nat_tests) in omega arith)
unstaged_by A F B d n k false e h ih = ih

unstaged : (A : Type 0) (F : ℕ → ℕ → A) (B : ℕ → A) (d : A) → ((k : ℕ) → F 0 k ≡ d) → ((n k : ℕ) → F (suc n) k ≡ cond (eqb k n) (B n) (F n k)) → (n k : ℕ) → n ≤ k → F n k ≡ d
unstaged A F B d z s zero k h = z k
unstaged A F B d z s (suc n) k h = s n k ∙ unstaged_by A F B d n k (eqb k n) refl (omega arith) (unstaged A F B d z s n k (omega arith))

-- a macro in sight becomes its body
pub number-called : (p : ProblemData) (n k : ℕ) (ms : List Meant) → k < n → (expansions_of p n).number k ms ≡ body_expr (expansions_of p k) p (macro_of p k).body (give_all (macro_of p k).params ms)
number-called p n k ms h = staged PlainExprTree (λ n k. (expansions_of p n).number k ms) (λ k. body_expr (expansions_of p k) p (macro_of p k).body (give_all (macro_of p k).params ms)) (λ n k. refl) n k h

pub value-called : (p : ProblemData) (n k : ℕ) (name : List ℕ) (m : MacroData) (b : BodyTree) (params : List ParamData) → macro_position p name ≡ Some k → k < n → m ≡ macro_of p k → b ≡ m.body → params ≡ m.params → (ms : List Meant) →
    option_map_or (λ i. (expansions_of p n).number i ms) (macro_position p name) (plain.number 0) ≡ body_expr (expansions_of p k) p b (give_all params ms)
value-called p n k name m b params e h i j l ms =
    ap (λ o. option_map_or (λ i. (expansions_of p n).number i ms) o (plain.number 0)) e
    ∙ number-called p n k ms h
    ∙ sym (ap (λ x. body_expr (expansions_of p k) p x (give_all params ms)) (j ∙ ap (λ x. x.body) i)
    ∙ ap (λ x. body_expr (expansions_of p k) p (macro_of p k).body (give_all x ms)) (l ∙ ap (λ x. x.params) i))

pub value-uncalled : (p : ProblemData) (n k : ℕ) (name : List ℕ) → macro_position p name ≡ Some k → n ≤ k → (ms : List Meant) →
    option_map_or (λ i. (expansions_of p n).number i ms) (macro_position p name) (plain.number 0) ≡ plain.number 0
value-uncalled p n k name e h ms =
    ap (λ o. option_map_or (λ i. (expansions_of p n).number i ms) o (plain.number 0)) e
    ∙ unstaged PlainExprTree (λ n k. (expansions_of p n).number k ms) (λ k. body_expr (expansions_of p k) p (macro_of p k).body (give_all (macro_of p k).params ms)) (plain.number 0) (λ k. refl) (λ n k. refl) n k h

pub cost-called : (p : ProblemData) (n k : ℕ) (name : List ℕ) (m : MacroData) (b : BodyTree) (params : List ParamData) → macro_position p name ≡ Some k → k < n → m ≡ macro_of p k → b ≡ m.body → params ≡ m.params → (ks : List ℕ) →
    option_map_or (λ i. costs_of p n i ks) (macro_position p name) 0 ≡ body_cost (costs_of p k) p b (price_all params ks)
cost-called p n k name m b params e h i j l ks =
    ap (λ o. option_map_or (λ i. costs_of p n i ks) o 0) e
    ∙ staged ℕ (λ n k. costs_of p n k ks) (λ k. body_cost (costs_of p k) p (macro_of p k).body (price_all (macro_of p k).params ks)) (λ n k. refl) n k h
    ∙ sym (ap (λ x. body_cost (costs_of p k) p x (price_all params ks)) (j ∙ ap (λ x. x.body) i)
    ∙ ap (λ x. body_cost (costs_of p k) p (macro_of p k).body (price_all x ks)) (l ∙ ap (λ x. x.params) i))

pub formula-called : (p : ProblemData) (n k : ℕ) (name : List ℕ) (m : MacroData) (b : BodyTree) (params : List ParamData) → macro_position p name ≡ Some k → k < n → m ≡ macro_of p k → b ≡ m.body → params ≡ m.params → (ms : List Meant) (v : ℕ) →
    option_map_or (λ i. (expansions_of p n).truth_of i ms v) (macro_position p name) plain.falsehood ≡ body_formula (expansions_of p k) p b (give_all params ms) v
formula-called p n k name m b params e h i j l ms v =
    ap (λ o. option_map_or (λ i. (expansions_of p n).truth_of i ms v) o plain.falsehood) e
    ∙ staged PlainFormulaTree (λ n k. (expansions_of p n).truth_of k ms v) (λ k. body_formula (expansions_of p k) p (macro_of p k).body (give_all (macro_of p k).params ms) v) (λ n k. refl) n k h
    ∙ sym (ap (λ x. body_formula (expansions_of p k) p x (give_all params ms) v) (j ∙ ap (λ x. x.body) i)
    ∙ ap (λ x. body_formula (expansions_of p k) p (macro_of p k).body (give_all x ms) v) (l ∙ ap (λ x. x.params) i))

pub formula-uncalled : (p : ProblemData) (n k : ℕ) (name : List ℕ) → macro_position p name ≡ Some k → n ≤ k → (ms : List Meant) (v : ℕ) →
    option_map_or (λ i. (expansions_of p n).truth_of i ms v) (macro_position p name) plain.falsehood ≡ plain.falsehood
formula-uncalled p n k name e h ms v =
    ap (λ o. option_map_or (λ i. (expansions_of p n).truth_of i ms v) o plain.falsehood) e
    ∙ unstaged PlainFormulaTree (λ n k. (expansions_of p n).truth_of k ms v) (λ k. body_formula (expansions_of p k) p (macro_of p k).body (give_all (macro_of p k).params ms) v) plain.falsehood (λ k. refl) (λ n k. refl) n k h

pub formula-cost-called : (p : ProblemData) (n k : ℕ) (name : List ℕ) (m : MacroData) (b : BodyTree) → macro_position p name ≡ Some k → k < n → m ≡ macro_of p k → b ≡ m.body →
    option_map_or (formula_costs_of p n) (macro_position p name) 0 ≡ body_formula_cost (formula_costs_of p k) p b
formula-cost-called p n k name m b e h i j =
    ap (λ o. option_map_or (formula_costs_of p n) o 0) e
    ∙ staged ℕ (formula_costs_of p) (λ k. body_formula_cost (formula_costs_of p k) p (macro_of p k).body) (λ n k. refl) n k h
    ∙ sym (ap (body_formula_cost (formula_costs_of p k) p) (j ∙ ap (λ x. x.body) i))
