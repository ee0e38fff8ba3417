-- A problem is written the same without places.
use Rattle.std.proofs.Common.{◌≡◌, List, [], ◌∷◌, ◌++◌, map, refl, sym, ap, ◌∙◌}
use Rattle.std.specs.Prelude.{flat_map, not}
use Rattle.std.specs.List.{list_any}
use Rattle.geo_tokens.specs.declared.token.Keyword.TheVariants as keywords
use Rattle.geo_tokens.specs.declared.token.Sym.TheVariants as syms
use Rattle.rule_print.specs.declared.rank.ExprRank.TheVariants as ranks
use Rattle.rule_print.specs.declared.rank.FormulaRank.TheVariants as kinds
use Rattle.rule_print.specs.Canonical.{Written, name, word, symbol, shown}
use Rattle.rule_print.specs.Spelled.{in_list}
use Rattle.problem_data.specs.Tree.{BodyTree, means, equals}
use Rattle.problem_data.specs.Problem.{MacroData, DemandData, apart, within, plain, RuleData, ProblemData, runs_down}
use Rattle.problem_text.specs.Canonical.{listed, param_spelling, body_spelling, demand_spelling, closed, shape_names, object_names, counts_from, shape_spelling, object_spelling, macro_spelling, rule_spelling, order_spelling, sides_spelling, head_spelling, line_if, line_text, problem_text}
use Rattle.problem_text.specs.ReadBack.{bare_body, bare_macro, bare_demand, bare_rule, bare_problem}
use Rattle.geo_json.specs.SheetOf.{macro_text, rule_sheet_of, sheet_of}
use Rattle.json_round_trip.proofs.Formulas.{expr_same, formula_same}

body_same : (b : BodyTree) → body_spelling (bare_body b) ≡ body_spelling b
body_same (means f) = λ i. word keywords.Means ∷ formula_same kinds.Equivalence f i
body_same (equals e) = λ i. word keywords.Is ∷ expr_same ranks.Sum e i

demand_same : (d : DemandData) → demand_spelling (bare_demand d) ≡ demand_spelling d
demand_same apart = refl
demand_same (within rs) = refl
demand_same (plain f) = formula_same kinds.Equivalence f

macro_same : (m : MacroData) → macro_spelling (bare_macro m) ≡ macro_spelling m
macro_same m = λ i. word keywords.Macro ∷ name m.name ∷ (in_list (listed param_spelling m.params) ++ closed (body_same m.body i))

rule_same : (r : RuleData) → rule_spelling (bare_rule r) ≡ rule_spelling r
rule_same r = λ i. word keywords.Rule ∷ name r.name ∷ symbol syms.Colon ∷ closed (demand_same r.demand i)

lines_same : {A : Type 0} (bare : A → A) (line : A → List Written) → ((x : A) → line (bare x) ≡ line x) → (xs : List A) → flat_map (λ x. line_text (line x)) (map bare xs) ≡ flat_map (λ x. line_text (line x)) xs
lines_same bare line same [] = refl
lines_same bare line same (x ∷ xs) = λ i. line_text (same x i) ++ lines_same bare line same xs i

each_same : {A B : Type 0} (bare : A → A) (f : A → B) → ((x : A) → f (bare x) ≡ f x) → (xs : List A) → map f (map bare xs) ≡ map f xs
each_same bare f same [] = refl
each_same bare f same (x ∷ xs) = λ i. same x i ∷ each_same bare f same xs i

text_same : (p : ProblemData) → problem_text (bare_problem p) ≡ problem_text p
text_same p = λ i.
    line_text (head_spelling p) ++ (flat_map (λ s. line_text (shape_spelling s)) p.shapes ++ (flat_map (λ o. line_text (object_spelling (shape_names p) o)) p.objects
    ++ (lines_same bare_macro macro_spelling macro_same p.macros i ++ (line_if (not (counts_from 0 p.order)) (order_spelling (object_names p) p.order)
    ++ (line_if (list_any runs_down p.sides) (sides_spelling p.sides) ++ (lines_same bare_rule rule_spelling rule_same p.rules i ++ line_text (word keywords.End ∷ [])))))))

macro_text_same : (m : MacroData) → macro_text (bare_macro m) ≡ macro_text m
macro_text_same m = λ i. shown (name m.name ∷ (in_list (listed param_spelling m.params) ++ body_same m.body i))

rule_sheet_same : (r : RuleData) → rule_sheet_of (bare_rule r) ≡ rule_sheet_of r
rule_sheet_same r = λ i. record { name = r.name; body = shown (demand_same r.demand i) }

sheet_same : (p : ProblemData) → sheet_of (bare_problem p) ≡ sheet_of p
sheet_same p = λ i. record (sheet_of p) { macros = each_same bare_macro macro_text macro_text_same p.macros i; rules = each_same bare_rule rule_sheet_of rule_sheet_same p.rules i }

pub one_text : (p q : ProblemData) → bare_problem p ≡ bare_problem q → problem_text p ≡ problem_text q
one_text p q e = sym (text_same p) ∙ ap problem_text e ∙ text_same q

pub one_sheet : (p q : ProblemData) → bare_problem p ≡ bare_problem q → sheet_of p ≡ sheet_of q
one_sheet p q e = sym (sheet_same p) ∙ ap sheet_of e ∙ sheet_same q
