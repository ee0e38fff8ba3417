-- Degrees of lists of steps, and first places in lists of rules.
use Rattle.std.proofs.Common.{◌≡◌, ℕ, ◌+◌, ◌<◌, ◌≤◌, Bool, true, false, ◌||◌, List, length, drop, get_or, sym, ap, ◌∙◌, refl, Box, Vec, Global}
use Rattle.std.proofs.lemmas.List.{drop_more}
use Rattle.std.proofs.Math.ListN.{drop_of_length-le}
use Rattle.rule_expand.specs.Plain as plain
use Rattle.rule_expand.specs.PlainView.{plain_sum_view, plain_sums_view, plain_product_view, plain_products_view, plain_formula_view, plain_formulas_view, plain_expr_view, plain_expr_step, plain_sum_step, plain_product_step}
use Rattle.rule_expand.specs.Degree.{sum_has, sum_breaks, sums_have, sums_break, product_has, product_breaks, products_have, products_break, formula_breaks, formulas_break}
use Rattle.rule_expand.specs.declared.plain.PlainSum.{PlainSum}
use Rattle.rule_expand.specs.declared.plain.PlainProd.{PlainProd}
use Rattle.rule_expand.specs.declared.plain.PlainFormula.{PlainFormula}
use Rattle.rule_expand.specs.Plain.{PlainExprTree, PlainSumTree, PlainProductTree}
use Rattle.rule_expand.specs.declared.plain.PlainExpr.{PlainExpr}
use Rattle.rule_expand.specs.declared.plain.Subject.{Subject}
use Rattle.geo_tokens.specs.declared.name.Name.{Name}
use Rattle.rule_expand.specs.declared.plain.PlainExpr.TheOpen.{PlainExpr-F}
use Rattle.rule_expand.specs.declared.plain.PlainExpr.TheFolds.{fold-roll-PlainExpr}
use Rattle.rule_expand.specs.declared.plain.PlainExpr.TheVariants as exprs

or-assoc : (a b r : Bool) → ((a || b) || r) ≡ (a || (b || r))
or-assoc true b r = refl
or-assoc false b r = refl

pub or-none : (a : Bool) → (a || false) ≡ a
or-none true = refl
or-none false = refl

-- the steps behind the first i of a sum
pub record SumsLeft (steps : List PlainSum) (i : ℕ) (coordinates broken : Bool) : Type 0 where
  pub have : (coordinates || sums_have (plain_sums_view (drop i steps))) ≡ sums_have (plain_sums_view steps)
  pub break : (broken || sums_break (plain_sums_view (drop i steps))) ≡ sums_break (plain_sums_view steps)

pub sums-left-init : (steps : List PlainSum) → SumsLeft steps 0 false false
sums-left-init steps = record { have = refl; break = refl }

sums-drop : (steps : List PlainSum) (i : ℕ) (s : PlainSum) → i < length steps → s ≡ get_or steps i s → plain_sums_view (drop i steps) ≡ plain.a_sum (plain_sum_view s) (plain_sums_view (drop (i + 1) steps))
sums-drop steps i s h e = ap plain_sums_view (drop_more steps i s h) ∙ ap (λ y. plain.a_sum (plain_sum_view y) (plain_sums_view (drop (i + 1) steps))) (sym e)

pub sums-left-step : (steps : List PlainSum) (i : ℕ) (s : PlainSum) (coordinates broken c' b' : Bool) → SumsLeft steps i coordinates broken → i < length steps → s ≡ get_or steps i s →
    c' ≡ (coordinates || sum_has (plain_sum_view s)) → b' ≡ (broken || sum_breaks (plain_sum_view s)) → SumsLeft steps (i + 1) c' b'
sums-left-step steps i s c b c' b' k h e f g = record {
  have = ap (λ y. y || sums_have (plain_sums_view (drop (i + 1) steps))) f ∙ or-assoc c (sum_has (plain_sum_view s)) (sums_have (plain_sums_view (drop (i + 1) steps))) ∙ sym (ap (λ t. c || sums_have t) (sums-drop steps i s h e)) ∙ k.have;
  break = ap (λ y. y || sums_break (plain_sums_view (drop (i + 1) steps))) g ∙ or-assoc b (sum_breaks (plain_sum_view s)) (sums_break (plain_sums_view (drop (i + 1) steps))) ∙ sym (ap (λ t. b || sums_break t) (sums-drop steps i s h e)) ∙ k.break;
}

pub sums-left-have : (steps : List PlainSum) (i : ℕ) (c b : Bool) → SumsLeft steps i c b → length steps ≤ i → c ≡ sums_have (plain_sums_view steps)
sums-left-have steps i c b k h = sym (ap (λ l. c || sums_have (plain_sums_view l)) (drop_of_length-le steps h) ∙ or-none c) ∙ k.have

pub sums-left-break : (steps : List PlainSum) (i : ℕ) (c b : Bool) → SumsLeft steps i c b → length steps ≤ i → b ≡ sums_break (plain_sums_view steps)
sums-left-break steps i c b k h = sym (ap (λ l. b || sums_break (plain_sums_view l)) (drop_of_length-le steps h) ∙ or-none b) ∙ k.break

-- the steps behind the first i of a product
pub record ProductsLeft (left : Bool) (steps : List PlainProd) (i : ℕ) (coordinates broken : Bool) : Type 0 where
  pub have : (coordinates || products_have (plain_products_view (drop i steps))) ≡ products_have (plain_products_view steps)
  pub break : (broken || products_break (left || coordinates) (plain_products_view (drop i steps))) ≡ products_break left (plain_products_view steps)

pub products-left-init : (left : Bool) (steps : List PlainProd) → ProductsLeft left steps 0 false false
products-left-init left steps = record { have = refl; break = ap (λ l. products_break l (plain_products_view steps)) (or-none left) }

products-drop : (steps : List PlainProd) (i : ℕ) (s : PlainProd) → i < length steps → s ≡ get_or steps i s → plain_products_view (drop i steps) ≡ plain.a_product (plain_product_view s) (plain_products_view (drop (i + 1) steps))
products-drop steps i s h e = ap plain_products_view (drop_more steps i s h) ∙ ap (λ y. plain.a_product (plain_product_view y) (plain_products_view (drop (i + 1) steps))) (sym e)

pub products-left-step : (left : Bool) (steps : List PlainProd) (i : ℕ) (s : PlainProd) (coordinates broken c' b' : Bool) → ProductsLeft left steps i coordinates broken → i < length steps → s ≡ get_or steps i s →
    c' ≡ (coordinates || product_has (plain_product_view s)) → b' ≡ (broken || product_breaks (left || coordinates) (plain_product_view s)) → ProductsLeft left steps (i + 1) c' b'
products-left-step left steps i s c b c' b' k h e f g = record {
  have = ap (λ y. y || products_have (plain_products_view (drop (i + 1) steps))) f ∙ or-assoc c (product_has (plain_product_view s)) (products_have (plain_products_view (drop (i + 1) steps))) ∙ sym (ap (λ t. c || products_have t) (products-drop steps i s h e)) ∙ k.have;
  break =
      ap (λ y. y || products_break (left || c') (plain_products_view (drop (i + 1) steps))) g
      ∙ ap (λ y. (b || product_breaks (left || c) (plain_product_view s)) || products_break y (plain_products_view (drop (i + 1) steps))) (ap (λ y. left || y) f ∙ sym (or-assoc left c (product_has (plain_product_view s))))
      ∙ or-assoc b (product_breaks (left || c) (plain_product_view s)) (products_break ((left || c) || product_has (plain_product_view s)) (plain_products_view (drop (i + 1) steps)))
      ∙ sym (ap (λ t. b || products_break (left || c) t) (products-drop steps i s h e)) ∙ k.break;
}

pub products-left-have : (left : Bool) (steps : List PlainProd) (i : ℕ) (c b : Bool) → ProductsLeft left steps i c b → length steps ≤ i → c ≡ products_have (plain_products_view steps)
products-left-have left steps i c b k h = sym (ap (λ l. c || products_have (plain_products_view l)) (drop_of_length-le steps h) ∙ or-none c) ∙ k.have

pub products-left-break : (left : Bool) (steps : List PlainProd) (i : ℕ) (c b : Bool) → ProductsLeft left steps i c b → length steps ≤ i → b ≡ products_break left (plain_products_view steps)
products-left-break left steps i c b k h = sym (ap (λ l. b || products_break (left || c) (plain_products_view l)) (drop_of_length-le steps h) ∙ or-none b) ∙ k.break

-- the formulas behind the first i
formulas-drop : (fs : List PlainFormula) (i : ℕ) (f : PlainFormula) → i < length fs → f ≡ get_or fs i f → plain_formulas_view (drop i fs) ≡ plain.a_formula (plain_formula_view f) (plain_formulas_view (drop (i + 1) fs))
formulas-drop fs i f h e = ap plain_formulas_view (drop_more fs i f h) ∙ ap (λ y. plain.a_formula (plain_formula_view y) (plain_formulas_view (drop (i + 1) fs))) (sym e)

pub formulas-left-step : (fs : List PlainFormula) (i : ℕ) (f : PlainFormula) → i < length fs → f ≡ get_or fs i f → formula_breaks (plain_formula_view f) ≡ false → formulas_break (plain_formulas_view (drop i fs)) ≡ formulas_break (plain_formulas_view fs) →
    formulas_break (plain_formulas_view (drop (i + 1) fs)) ≡ formulas_break (plain_formulas_view fs)
formulas-left-step fs i f h e g k = sym (ap formulas_break (formulas-drop fs i f h e) ∙ ap (λ b. b || formulas_break (plain_formulas_view (drop (i + 1) fs))) g) ∙ k

pub formulas-left-here : (fs : List PlainFormula) (i : ℕ) (f : PlainFormula) → i < length fs → f ≡ get_or fs i f → formula_breaks (plain_formula_view f) ≡ true → formulas_break (plain_formulas_view (drop i fs)) ≡ formulas_break (plain_formulas_view fs) →
    true ≡ formulas_break (plain_formulas_view fs)
formulas-left-here fs i f h e g k = sym (ap formulas_break (formulas-drop fs i f h e) ∙ ap (λ b. b || formulas_break (plain_formulas_view (drop (i + 1) fs))) g) ∙ k

pub formulas-left-end : (fs : List PlainFormula) (i : ℕ) → length fs ≤ i → formulas_break (plain_formulas_view (drop i fs)) ≡ formulas_break (plain_formulas_view fs) → false ≡ formulas_break (plain_formulas_view fs)
formulas-left-end fs i h k = sym (ap (λ l. formulas_break (plain_formulas_view l)) (drop_of_length-le fs h)) ∙ k

-- ---- what an expression without macros stands for, variant by variant

pub num-stands : {e : PlainExpr} (n : ℕ) → e ≡ exprs.Num n → plain_expr_view e ≡ plain.number n
num-stands n h = rw h (ap plain_expr_view (sym (exprs.rolls-Num n)) ∙ fold-roll-PlainExpr PlainExprTree PlainProductTree PlainSumTree plain_expr_step plain_product_step plain_sum_step (PlainExpr-F.Num n))

pub field-stands : {e : PlainExpr} (s : Subject) (f : Name) → e ≡ exprs.Field s f → plain_expr_view e ≡ plain.field s f
field-stands s f h = rw h (ap plain_expr_view (sym (exprs.rolls-Field s f)) ∙ fold-roll-PlainExpr PlainExprTree PlainProductTree PlainSumTree plain_expr_step plain_product_step plain_sum_step (PlainExpr-F.Field s f))

pub shape-stands : {e : PlainExpr} (n : ℕ) → e ≡ exprs.ShapeNum n → plain_expr_view e ≡ plain.shape_number n
shape-stands n h = rw h (ap plain_expr_view (sym (exprs.rolls-ShapeNum n)) ∙ fold-roll-PlainExpr PlainExprTree PlainProductTree PlainSumTree plain_expr_step plain_product_step plain_sum_step (PlainExpr-F.ShapeNum n))

pub negative-stands : {e : PlainExpr} {f : PlainExpr} (a : Box PlainExpr Global) → e ≡ exprs.Neg a → f ≡ a.value → plain_expr_view e ≡ plain.negative (plain_expr_view f)
negative-stands a h i = rw (h, i) (ap plain_expr_view (sym (exprs.rolls-Neg a)) ∙ fold-roll-PlainExpr PlainExprTree PlainProductTree PlainSumTree plain_expr_step plain_product_step plain_sum_step (PlainExpr-F.Neg a))

pub sum-stands : {e : PlainExpr} {f : PlainExpr} {ss : List PlainSum} (a : Box PlainExpr Global) (steps : Vec PlainSum Global) → e ≡ exprs.Sum a steps → f ≡ a.value → ss ≡ steps.items → plain_expr_view e ≡ plain.sum (plain_expr_view f) (plain_sums_view ss)
sum-stands a steps h i j = rw (h, i, j) (ap plain_expr_view (sym (exprs.rolls-Sum a steps)) ∙ fold-roll-PlainExpr PlainExprTree PlainProductTree PlainSumTree plain_expr_step plain_product_step plain_sum_step (PlainExpr-F.Sum a steps))

pub product-stands : {e : PlainExpr} {f : PlainExpr} {ss : List PlainProd} (a : Box PlainExpr Global) (steps : Vec PlainProd Global) → e ≡ exprs.Prod a steps → f ≡ a.value → ss ≡ steps.items → plain_expr_view e ≡ plain.product (plain_expr_view f) (plain_products_view ss)
product-stands a steps h i j = rw (h, i, j) (ap plain_expr_view (sym (exprs.rolls-Prod a steps)) ∙ fold-roll-PlainExpr PlainExprTree PlainProductTree PlainSumTree plain_expr_step plain_product_step plain_sum_step (PlainExpr-F.Prod a steps))

pub least-stands : {e : PlainExpr} {f g : PlainExpr} (a b : Box PlainExpr Global) → e ≡ exprs.Min a b → f ≡ a.value → g ≡ b.value → plain_expr_view e ≡ plain.least (plain_expr_view f) (plain_expr_view g)
least-stands a b h i j = rw (h, i, j) (ap plain_expr_view (sym (exprs.rolls-Min a b)) ∙ fold-roll-PlainExpr PlainExprTree PlainProductTree PlainSumTree plain_expr_step plain_product_step plain_sum_step (PlainExpr-F.Min a b))

pub greatest-stands : {e : PlainExpr} {f g : PlainExpr} (a b : Box PlainExpr Global) → e ≡ exprs.Max a b → f ≡ a.value → g ≡ b.value → plain_expr_view e ≡ plain.greatest (plain_expr_view f) (plain_expr_view g)
greatest-stands a b h i j = rw (h, i, j) (ap plain_expr_view (sym (exprs.rolls-Max a b)) ∙ fold-roll-PlainExpr PlainExprTree PlainProductTree PlainSumTree plain_expr_step plain_product_step plain_sum_step (PlainExpr-F.Max a b))

pub either-same : {a b c d : Bool} → a ≡ b → c ≡ d → (a || c) ≡ (b || d)
either-same {b = b} {c = c} e f = ap (λ x. x || c) e ∙ ap (λ x. b || x) f
