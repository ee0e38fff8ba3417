-- Steps of the program that makes forms.
use Rattle.std.proofs.Common.{◌≡◌, ℕ, ◌+◌, ◌*◌, ◌-◌, ◌^◌, ◌<◌, ◌&&◌, Bool, true, false, List, [], ◌∷◌, length, get_or, drop, ℤ, pos, negsuc, ◌*ℤ◌, sym, ap, ◌∙◌, refl, arith, subst, cond}
use Rattle.std.specs.List.{list_all}
use Rattle.std.proofs.lemmas.Int.{ints}
use Rattle.std.proofs.lemmas.List.{drop_more}
use lib.Signed.{le_z}
use Rattle.geo_conditions.specs.declared.form.Term.{Term}
use Rattle.geo_conditions.specs.Form.{Sum}
use Rattle.problem_data.specs.Problem.{ProblemData}
use Rattle.rule_expand.specs.Plain.{PlainExprTree, number, field, shape_number, negative, sum, product, least, greatest, PlainSumTree, plus, minus, a_sum, PlainProductTree, PlainProducts, no_products, a_product}
use Rattle.rule_expand.specs.PlainTruth.{PlainEnv}
use Rattle.rule_expand.specs.PlainView.{plain_expr_step, plain_product_step, plain_sum_step, plain_expr_view, plain_sum_view, plain_sums_view, plain_products_view}
use Rattle.rule_expand.specs.declared.plain.PlainExpr.{PlainExpr}
use Rattle.rule_expand.specs.declared.plain.PlainExpr.TheFolds.{fold-roll-PlainExpr, fold-roll-PlainSum}
use Rattle.rule_expand.specs.declared.plain.PlainExpr.TheOpen.{PlainExpr-F, PlainSum-F}
use Rattle.rule_expand.specs.declared.plain.PlainExpr.TheVariants.{Field, rolls-Field}
use Rattle.rule_expand.specs.declared.plain.PlainSum.{PlainSum}
use Rattle.rule_expand.specs.declared.plain.PlainSum.TheVariants.{Plus, rolls-Plus}
use Rattle.rule_expand.specs.declared.plain.PlainProd.{PlainProd}
use Rattle.linear_conditions.specs.Fixings.{Fixing}
use Rattle.linear_conditions.specs.Ordered.{IsOrdered}
use Rattle.linear_conditions.specs.Room.{CanAdd, CanScale}
use Rattle.linear_conditions.specs.Sums.{is_zero, term, add_sums, scale_terms, scale, is_bounded, fits_sum}
use Rattle.linear_conditions.specs.Forms.{sum_of_expr, sum_step, sums_added, product_step, products_taken, fits_expr, sum_fits, sums_fit, products_fit}
use Rattle.linear_conditions.proofs.Ordered.{both-true, bounds-of}
use Rattle.linear_conditions.proofs.Placed.{step-placed}
use Rattle.linear_conditions.proofs.SumLaws.{neg-value}
use Rattle.linear_conditions.proofs.Bounds.{IsUpTo, AllUpTo, SumUpTo, can-add, can-scale, fits-up, minus-one-up}

-- a step that adds a field
pub view-field : (s : PlainSum) (e : PlainExpr) (of : _) (name : _) → s ≡ Plus e → e ≡ Field of name → plain_sum_view s ≡ plus (field of name)
view-field s e of name h k =
    ap plain_sum_view h ∙ ap plain_sum_view (sym (rolls-Plus e)) ∙ fold-roll-PlainSum PlainExprTree PlainProductTree PlainSumTree plain_expr_step plain_product_step plain_sum_step (PlainSum-F.Plus e)
    ∙ ap (λ x. plus (plain_expr_view x)) k
    ∙ ap plus (ap plain_expr_view (sym (rolls-Field of name)) ∙ fold-roll-PlainExpr PlainExprTree PlainProductTree PlainSumTree plain_expr_step plain_product_step plain_sum_step (PlainExpr-F.Field of name))

-- ---- answers of parts

module _ (a b : Bool) where
  pub both-are : a ≡ true → b ≡ true → (a && b) ≡ true
  both-are h k = ap (λ x. x && b) h ∙ k

-- what fits, fits itself
mutual
  pub fits-itself : (p : ProblemData) (e : PlainExprTree) (env : PlainEnv) (fix : List Fixing) → fits_expr p e env fix ≡ true → fits_sum (sum_of_expr p e env fix) ≡ true
  fits-itself p (number n) env fix h = h
  fits-itself p (field s f) env fix h = h
  fits-itself p (shape_number s) env fix h = h
  fits-itself p (negative e) env fix h = (both-true _ _ h).1
  fits-itself p (sum e steps) env fix h = (both-true _ _ (both-true _ _ h).1).1
  fits-itself p (product e steps) env fix h = let b = both-true _ _ h in fits-taken p steps env fix (sum_of_expr p e env fix) (fits-itself p e env fix b.0) b.1
  fits-itself p (least a b) env fix h = (both-true _ _ (both-true _ _ h).1).1
  fits-itself p (greatest a b) env fix h = (both-true _ _ (both-true _ _ h).1).1

  fits-taken : (p : ProblemData) (steps : PlainProducts) (env : PlainEnv) (fix : List Fixing) (f : Sum) → fits_sum f ≡ true → products_fit p f steps env fix ≡ true → fits_sum (products_taken p f steps env fix) ≡ true
  fits-taken p no_products env fix f h k = h
  fits-taken p (a_product s rest) env fix f h k = let b = both-true _ _ (both-true _ _ k).1 in fits-taken p rest env fix (product_step p f s env fix) b.0 b.1

-- ---- steps of sums

minus-up : (m : ℕ) (z : ℤ) → IsUpTo m z → IsUpTo m (negsuc 0 *ℤ z)
minus-up m z h = let a = h.0 in let b = h.1 in let e = neg-value z in (omega (arith, ints, e), omega (arith, ints, e))

unless-up : (m : ℕ) (t : Term) (ts : List Term) (b : Bool) → IsUpTo m t.factor → AllUpTo m ts → AllUpTo m (cond b ts (t ∷ ts))
unless-up m t ts true h u = u
unless-up m t ts false h u = (h, u)

terms-up : (m : ℕ) (ts : List Term) → AllUpTo m ts → AllUpTo m (scale_terms (negsuc 0) ts)
terms-up m [] u = tt
terms-up m (t ∷ ts) u =
    unless-up m (term t.object.0 t.dimension (negsuc 0 *ℤ t.factor)) (scale_terms (negsuc 0) ts) (is_zero (negsuc 0 *ℤ t.factor)) (minus-up m t.factor u.0) (terms-up m ts u.1)

pub negated-up : (m : ℕ) (f : Sum) → SumUpTo m f → SumUpTo m (scale (negsuc 0) f)
negated-up m f u = (terms-up m f.terms u.0, minus-up m f.constant u.1)

module _ (p : ProblemData) (env : PlainEnv) (fix : List Fixing) where
  step-up : (s : PlainSumTree) → sum_fits p s env fix ≡ true → SumUpTo (10 ^ 15) (sum_step p s env fix)
  step-up (plus e) h = fits-up (sum_of_expr p e env fix) (fits-itself p e env fix h)
  step-up (minus e) h = negated-up (10 ^ 15) (sum_of_expr p e env fix) (fits-up (sum_of_expr p e env fix) (fits-itself p e env fix h))

  sums-drop : (steps : List PlainSum) (i : ℕ) (s : PlainSum) → i < length steps → s ≡ get_or steps i s → plain_sums_view (drop i steps) ≡ a_sum (plain_sum_view s) (plain_sums_view (drop (i + 1) steps))
  sums-drop steps i s h e = ap plain_sums_view (drop_more steps i s h) ∙ ap (λ y. a_sum (plain_sum_view y) (plain_sums_view (drop (i + 1) steps))) (sym e)

  -- what is left of a sum behind its first i steps
  pub record SumsLeft (first : Sum) (steps : List PlainSum) (i : ℕ) (total : Sum) : Type 0 where
    pub rest : sums_added p total (plain_sums_view (drop i steps)) env fix ≡ sums_added p first (plain_sums_view steps) env fix
    pub fit : sums_fit p (plain_sums_view (drop i steps)) env fix ≡ sums_fit p (plain_sums_view steps) env fix
    pub up : SumUpTo ((i + 1) * 10 ^ 15) total

  pub sums-init : (first : Sum) (steps : List PlainSum) → fits_sum first ≡ true → SumsLeft first steps 0 first
  sums-init first steps h = record { rest = refl; fit = refl; up = fits-up first h }

  module _ (first : Sum) (steps : List PlainSum) (i : ℕ) (total part : Sum) (s : PlainSum) (left : SumsLeft first steps i total) (l : i < length steps) (few : i < 2 ^ 64) (is : s ≡ get_or steps i s)
      (value : part ≡ sum_step p (plain_sum_view s) env fix) (fits : sum_fits p (plain_sum_view s) env fix ≡ true) where
    part-up : SumUpTo (10 ^ 15) part
    part-up = subst (SumUpTo (10 ^ 15)) (sym value) (step-up (plain_sum_view s) fits)

    part-ordered : IsOrdered part.terms
    part-ordered = subst (λ (f : Sum). IsOrdered f.terms) (sym value) (step-placed p env fix (plain_sum_view s)).0

    pub sums-room : CanAdd total part
    sums-room = (can-add ((i + 1) * 10 ^ 15) (10 ^ 15) total part (omega arith) part-ordered left.up part-up).0

    pub sums-step : (next : Sum) → next ≡ add_sums total part → SumsLeft first steps (i + 1) next
    sums-step next n = record {
      rest =
          ap (λ f. sums_added p f (plain_sums_view (drop (i + 1) steps)) env fix) (n ∙ ap (add_sums total) value)
          ∙ sym (ap (λ r. sums_added p total r env fix) (sums-drop steps i s l is)) ∙ left.rest;
      fit = sym (ap (λ r. sums_fit p r env fix) (sums-drop steps i s l is) ∙ ap (λ b. b && sums_fit p (plain_sums_view (drop (i + 1) steps)) env fix) fits) ∙ left.fit;
      up = subst (λ (m : ℕ). SumUpTo m next) more (subst (SumUpTo ((i + 1) * 10 ^ 15 + 10 ^ 15)) (sym n) (can-add ((i + 1) * 10 ^ 15) (10 ^ 15) total part (omega arith) part-ordered left.up part-up).1);
    }
      where
        more : (i + 1) * 10 ^ 15 + 10 ^ 15 ≡ ((i + 1) + 1) * 10 ^ 15
        more = omega arith

  -- what is left of a product behind its first i steps
  pub record ProductsLeft (first : Sum) (steps : List PlainProd) (i : ℕ) (so_far : Sum) : Type 0 where
    pub rest : products_taken p so_far (plain_products_view (drop i steps)) env fix ≡ products_taken p first (plain_products_view steps) env fix
    pub fit : products_fit p so_far (plain_products_view (drop i steps)) env fix ≡ products_fit p first (plain_products_view steps) env fix
    pub fits : fits_sum so_far ≡ true

-- a sum within the bounds times the constant of one within the bounds
pub can-multiply : (f g : Sum) → fits_sum f ≡ true → fits_sum g ≡ true → CanScale g.constant f
can-multiply f g h k = can-scale g.constant f (fits-up g k).1 (fits-up f h)

pub can-negate : (f : Sum) → fits_sum f ≡ true → CanScale (negsuc 0) f
can-negate f h = can-scale (negsuc 0) f minus-one-up (fits-up f h)

-- the other sign changes nothing
bounded-neg : (z : ℤ) → is_bounded z ≡ true → is_bounded (negsuc 0 *ℤ z) ≡ true
bounded-neg z h =
    let b = bounds-of z h in let l = b.0 in let u = b.1 in let e = neg-value z in
    let low : le_z (negsuc (10 ^ 15 - 1)) (negsuc 0 *ℤ z) ≡ true = grind (arith, ints) in
    let high : le_z (negsuc 0 *ℤ z) (pos (10 ^ 15)) ≡ true = grind (arith, ints) in
    both-are (le_z (negsuc (10 ^ 15 - 1)) (negsuc 0 *ℤ z)) (le_z (negsuc 0 *ℤ z) (pos (10 ^ 15))) low high

abbrev all_bounded : List Term → Bool
all_bounded ts = list_all (λ (t : Term). is_bounded t.factor) ts

unless-bounded : (t : Term) (ts : List Term) (b : Bool) → is_bounded t.factor ≡ true → all_bounded ts ≡ true → all_bounded (cond b ts (t ∷ ts)) ≡ true
unless-bounded t ts true h k = k
unless-bounded t ts false h k = both-are (is_bounded t.factor) (all_bounded ts) h k

negated-bounded : (ts : List Term) → all_bounded ts ≡ true → all_bounded (scale_terms (negsuc 0) ts) ≡ true
negated-bounded [] h = refl
negated-bounded (t ∷ ts) h =
    let b = both-true (is_bounded t.factor) (all_bounded ts) h in
    unless-bounded (term t.object.0 t.dimension (negsuc 0 *ℤ t.factor)) (scale_terms (negsuc 0) ts) (is_zero (negsuc 0 *ℤ t.factor)) (bounded-neg t.factor b.0) (negated-bounded ts b.1)

pub negated-fits : (f : Sum) → fits_sum f ≡ true → fits_sum (scale (negsuc 0) f) ≡ true
negated-fits f h =
    let b = both-true (all_bounded f.terms) (is_bounded f.constant) h in
    both-are (all_bounded (scale_terms (negsuc 0) f.terms)) (is_bounded (negsuc 0 *ℤ f.constant)) (negated-bounded f.terms b.0) (bounded-neg f.constant b.1)

-- the answer of a call that makes a form with the other sign
pub negated-made : (f g : Sum) → fits_sum f ≡ true → g ≡ scale (negsuc 0) f → (g ≡ scale (negsuc 0) f) × (fits_sum g ≡ true)
negated-made f g h e = (e, ap fits_sum e ∙ negated-fits f h)
