-- Formulas that are made one by one within limits.
use Rattle.std.proofs.Common.{◌≡◌, ℕ, zero, suc, ◌+◌, ◌<◌, ◌≤◌, List, [], ◌∷◌, ◌++◌, length, get_or, drop, map, inl, inr, append_assoc, append-nil, sym, ap, ◌∙◌, refl, arith, subst}
use Rattle.std.proofs.lemmas.List.{drop_more}
use Rattle.std.proofs.Math.ListN.{drop_of_length-le}
use Rattle.rule_syntax.specs.Tree as tree
use Rattle.rule_syntax.specs.Tree.{FormulaTree, FormulaTrees}
use Rattle.rule_syntax.specs.View.{formula_view}
use Rattle.rule_syntax.specs.declared.tree.Formula.{Formula}
use Rattle.problem_data.specs.Problem.{ProblemData}
use Rattle.rule_expand.specs.Plain as plain
use Rattle.rule_expand.specs.Plain.{PlainFormulaTree, PlainFormulas}
use Rattle.rule_expand.specs.PlainView.{plain_formula_view, plain_formulas_view}
use Rattle.rule_expand.specs.Expansion.{Subst, Expansions, binders, binders_in, formula_expanded, formulas_expanded}
use Rattle.rule_expand.specs.Counts.{nodes, depth, nodes_in, depth_in}
use Rattle.rule_expand.specs.Limits.{IsLimitFault, FormulaMade, FormulasMade}
use Rattle.rule_expand.specs.Costs.{formula_cost, formulas_cost}
use Rattle.rule_expand.specs.declared.limits.ExpandFault.{ExpandFault}
use Rattle.rule_expand.specs.declared.limits.ExpandFault.TheVariants.{TooLarge, Memory}
use Rattle.rule_expand.specs.declared.plain.PlainFormula.{PlainFormula}

abbrev pub formula_trees : List Formula → FormulaTrees
formula_trees fs = tree.formulas (map formula_view fs)

mutual
  pub binders-nodes : (t : PlainFormulaTree) → binders t ≤ nodes t
  binders-nodes plain.truth = omega arith
  binders-nodes plain.falsehood = omega arith
  binders-nodes (plain.negation f) = omega (arith, binders-nodes f)
  binders-nodes (plain.all_of fs) = omega (arith, binders_in-nodes fs)
  binders-nodes (plain.any_of fs) = omega (arith, binders_in-nodes fs)
  binders-nodes (plain.implication f g) = omega (arith, binders-nodes f, binders-nodes g)
  binders-nodes (plain.equivalence f g) = omega (arith, binders-nodes f, binders-nodes g)
  binders-nodes (plain.comparison a rel b) = omega arith
  binders-nodes (plain.quantified kind v coll f) = omega (arith, binders-nodes f)

  pub binders_in-nodes : (ts : PlainFormulas) → binders_in ts ≤ nodes_in ts
  binders_in-nodes plain.no_formulas = omega arith
  binders_in-nodes (plain.a_formula f rest) = omega (arith, binders-nodes f, binders_in-nodes rest)

-- a list of operands, some of which are made
pub record Continues (x : Expansions) (p : ProblemData) (all left : FormulaTrees) (sub : Subst) (next room deep next' room' : ℕ) (parts : List PlainFormula) : Type 0 where
  pub nodes_left : room' + nodes_in (formulas_expanded x p all sub next) ≡ room + nodes_in (formulas_expanded x p left sub next')
  pub binders_left : next' + binders_in (formulas_expanded x p left sub next') ≡ next + binders_in (formulas_expanded x p all sub next)
  pub view : (rest : List PlainFormula) → plain_formulas_view rest ≡ formulas_expanded x p left sub next' → plain_formulas_view (parts ++ rest) ≡ formulas_expanded x p all sub next
  pub deep_left : depth_in (formulas_expanded x p left sub next') ≤ depth_in (formulas_expanded x p all sub next)
  pub shallow : depth_in (formulas_expanded x p left sub next') ≤ deep → depth_in (formulas_expanded x p all sub next) ≤ deep
  pub in_order : next' + room' ≤ next + room

pub continues-init : (x : Expansions) (p : ProblemData) (all : FormulaTrees) (sub : Subst) (next room deep : ℕ) → Continues x p all all sub next room deep next room []
continues-init x p all sub next room deep = record { nodes_left = refl; binders_left = refl; view = λ rest h. h; deep_left = omega arith; shallow = λ h. h; in_order = omega arith }

step_at : (x : Expansions) (p : ProblemData) (all : FormulaTrees) (r : FormulaTree) (left : FormulaTrees) (sub : Subst) (next room deep next' room' room'' : ℕ) (parts : List PlainFormula) (part : PlainFormula) →
    Continues x p all (tree.a_formula r left) sub next room deep next' room' parts → plain_formula_view part ≡ formula_expanded x p r sub next' → room'' + nodes (formula_expanded x p r sub next') ≡ room' →
    depth (formula_expanded x p r sub next') ≤ deep → Continues x p all left sub next room deep (next' + binders (formula_expanded x p r sub next')) room'' (parts ++ part ∷ [])
step_at x p all r left sub next room deep next' room' room'' parts part k v n d = record {
  nodes_left = (let a = k.nodes_left in omega arith);
  binders_left = (let a = k.binders_left in omega arith);
  view = λ rest h. ap plain_formulas_view (append_assoc parts (part ∷ []) rest) ∙ k.view (part ∷ rest) (ap (λ t. plain.a_formula t (plain_formulas_view rest)) v ∙ ap (plain.a_formula (formula_expanded x p r sub next')) h);
  deep_left = (let a = k.deep_left in omega arith);
  shallow = λ h. k.shallow (omega arith);
  in_order = (let a = k.in_order in omega (arith, binders-nodes (formula_expanded x p r sub next')));
}

continues-step : (x : Expansions) (p : ProblemData) (all : FormulaTrees) (r : FormulaTree) (left : FormulaTrees) (sub : Subst) (next room deep next' room' next'' room'' : ℕ) (parts : List PlainFormula) (part : PlainFormula) →
    Continues x p all (tree.a_formula r left) sub next room deep next' room' parts → FormulaMade (formula_expanded x p r sub next') next' room' deep next'' room'' part →
    Continues x p all left sub next room deep next'' room'' (parts ++ part ∷ [])
continues-step x p all r left sub next room deep next' room' next'' room'' parts part k m =
    subst (λ n. Continues x p all left sub next room deep n room'' (parts ++ part ∷ [])) (sym m.numbered) (step_at x p all r left sub next room deep next' room' room'' parts part k m.view m.taken m.shallow)

continues-end : (x : Expansions) (p : ProblemData) (all : FormulaTrees) (sub : Subst) (next room deep next' room' : ℕ) (parts : List PlainFormula) →
    Continues x p all tree.no_formulas sub next room deep next' room' parts → FormulasMade (formulas_expanded x p all sub next) next room deep next' room' parts
continues-end x p all sub next room deep next' room' parts k = record {
  view = ap plain_formulas_view (sym (append-nil parts)) ∙ k.view [] refl;
  taken = (let a = k.nodes_left in omega arith);
  numbered = (let a = k.binders_left in omega arith);
  shallow = k.shallow (omega arith);
}

continues-lacks : (x : Expansions) (p : ProblemData) (all : FormulaTrees) (r : FormulaTree) (left : FormulaTrees) (sub : Subst) (next room deep next' room' : ℕ) (parts : List PlainFormula) (e : ExpandFault) →
    Continues x p all (tree.a_formula r left) sub next room deep next' room' parts → IsLimitFault (nodes (formula_expanded x p r sub next')) (depth (formula_expanded x p r sub next')) room' deep e →
    IsLimitFault (nodes_in (formulas_expanded x p all sub next)) (depth_in (formulas_expanded x p all sub next)) room deep e
continues-lacks x p all r left sub next room deep next' room' parts TooLarge k (inl h) = inl (let a = k.nodes_left in omega arith)
continues-lacks x p all r left sub next room deep next' room' parts TooLarge k (inr h) = inr (let a = k.deep_left in omega arith)
continues-lacks x p all r left sub next room deep next' room' parts Memory k h = tt

left-at : (items : List Formula) (i : ℕ) (f : Formula) → i < length items → f ≡ get_or items i f → formula_trees (drop i items) ≡ tree.a_formula (formula_view f) (formula_trees (drop (i + 1) items))
left-at items i f h e = ap formula_trees (drop_more items i f h) ∙ ap (λ y. tree.a_formula (formula_view y) (formula_trees (drop (i + 1) items))) (sym e)

left-end : (items : List Formula) (i : ℕ) → length items ≤ i → formula_trees (drop i items) ≡ tree.no_formulas
left-end items i h = ap formula_trees (drop_of_length-le items h)

pub operands-fault : (x : Expansions) (p : ProblemData) (items : List Formula) (i : ℕ) (f : Formula) (sub : Subst) (next room deep next' room' : ℕ) (parts : List PlainFormula) (e : ExpandFault) → i < length items → f ≡ get_or items i f →
    Continues x p (formula_trees items) (formula_trees (drop i items)) sub next room deep next' room' parts → IsLimitFault (nodes (formula_expanded x p (formula_view f) sub next')) (depth (formula_expanded x p (formula_view f) sub next')) room' deep e →
    IsLimitFault (nodes_in (formulas_expanded x p (formula_trees items) sub next)) (depth_in (formulas_expanded x p (formula_trees items) sub next)) room deep e
operands-fault x p items i f sub next room deep next' room' parts e h q k l =
    continues-lacks x p (formula_trees items) (formula_view f) (formula_trees (drop (i + 1) items)) sub next room deep next' room' parts e
    (subst (λ y. Continues x p (formula_trees items) y sub next room deep next' room' parts) (left-at items i f h q) k) l

pub operands-step : (x : Expansions) (p : ProblemData) (items : List Formula) (i : ℕ) (f : Formula) (sub : Subst) (next room deep next' room' next'' room'' : ℕ) (parts more : List PlainFormula) (part : PlainFormula) → i < length items →
    f ≡ get_or items i f → Continues x p (formula_trees items) (formula_trees (drop i items)) sub next room deep next' room' parts → FormulaMade (formula_expanded x p (formula_view f) sub next') next' room' deep next'' room'' part →
    more ≡ parts ++ part ∷ [] → Continues x p (formula_trees items) (formula_trees (drop (i + 1) items)) sub next room deep next'' room'' more
operands-step x p items i f sub next room deep next' room' next'' room'' parts more part h q k y m =
    subst (λ z. Continues x p (formula_trees items) (formula_trees (drop (i + 1) items)) sub next room deep next'' room'' z) (sym m)
    (continues-step x p (formula_trees items) (formula_view f) (formula_trees (drop (i + 1) items)) sub next room deep next' room' next'' room'' parts part
    (subst (λ z. Continues x p (formula_trees items) z sub next room deep next' room' parts) (left-at items i f h q) k) y)

pub operands-end : (x : Expansions) (p : ProblemData) (items : List Formula) (i : ℕ) (sub : Subst) (next room deep next' room' : ℕ) (parts : List PlainFormula) → length items ≤ i →
    Continues x p (formula_trees items) (formula_trees (drop i items)) sub next room deep next' room' parts → FormulasMade (formulas_expanded x p (formula_trees items) sub next) next room deep next' room' parts
operands-end x p items i sub next room deep next' room' parts h k =
    continues-end x p (formula_trees items) sub next room deep next' room' parts (subst (λ y. Continues x p (formula_trees items) y sub next room deep next' room' parts) (left-end items i h) k)

operand-cost-in : (c : ℕ → ℕ) (p : ProblemData) (items : List Formula) (i : ℕ) (d : Formula) → i < length items → formula_cost c p (formula_view (get_or items i d)) ≤ formulas_cost c p (formula_trees items)
operand-cost-in c p [] i d h = absurd (omega arith)
operand-cost-in c p (f ∷ items) zero d h = omega arith
operand-cost-in c p (f ∷ items) (suc i) d h = omega (arith, operand-cost-in c p items i d (omega arith))

pub operand-cost : (c : ℕ → ℕ) (p : ProblemData) (items : List Formula) (i : ℕ) (f : Formula) → i < length items → f ≡ get_or items i f → formula_cost c p (formula_view f) ≤ formulas_cost c p (formula_trees items)
operand-cost c p items i f h e = omega (arith, operand-cost-in c p items i f h, ap (λ y. formula_cost c p (formula_view y)) e)
