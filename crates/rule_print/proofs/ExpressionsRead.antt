-- Each expression that some tokens of a text spell is spelled canonically with no more levels.
use Rattle.std.proofs.Common.{◌≡◌, ℕ, zero, suc, ◌≤◌, List, [], ◌∷◌, Some, ◌⊎◌, inl, inr, refl, ap, ◌∙◌, subst}
use Rattle.geo_tokens.specs.declared.token.Token.{Token}
use Rattle.geo_tokens.specs.declared.token.Kind.{Kind}
use Rattle.geo_tokens.specs.declared.token.Kind.TheVariants as kinds
use Rattle.geo_tokens.specs.declared.token.Keyword.TheVariants as keywords
use Rattle.geo_tokens.specs.declared.token.Sym.TheVariants as syms
use Rattle.geo_tokens.specs.Class.{number_in}
use Rattle.geo_tokens.specs.Words.{numbers, symbol, Pure, Tok, Cut, Bind, left, right, Opt, there, not_there, Many, start_of, Placed}
use Rattle.rule_syntax.specs.declared.tree.PlacedName.{PlacedName}
use Rattle.rule_syntax.specs.Tree.{ExprTree, number, field, param, shape_number, negative, least, greatest, value_call, SumTree, plus, minus, ProductTree, times, over, modulo, ArgumentTree, argument, arguments}
use Rattle.rule_syntax.specs.Grammar.{sum_step_in, division_in, extreme_in, sum_of, product_of, Named, NumberWord, Variable, ShapeNumber, Negative, Parens, ArgumentList, Args, Pair, ValueCall, Extreme, ProductStep, Term, SumStep, ExprOver, Factor}
use Rattle.rule_print.proofs.Respelled.{placed_again, AllOf, AllTrue, parts_of, pure_is, inside_of, token_of_list, never_cut, many_of, chain_of, small_number, name_is_text}
use Rattle.rule_print.proofs.ExpressionsAgain.{ExprAgain, ArgumentAgain, ProductStepAgain, SumStepAgain, number_again, field_again, param_again, shape_again, in_number, in_variable, in_shape, negative_again, call_again, least_again, greatest_again, times_again, over_again, modulo_again, plus_again, minus_again, alone, nested, term_case, expr_case}

-- ---- which of two

division_cases : (k : Kind) (p n : ℕ) → (over p n ≡ division_in k p n) ⊎ (modulo p n ≡ division_in k p n)
division_cases (kinds.Word keywords.Div) p n = inl refl
division_cases _ p n = inr refl

sum_step_cases : (k : Kind) (e : ExprTree) → (plus e ≡ sum_step_in k e) ⊎ (minus e ≡ sum_step_in k e)
sum_step_cases (kinds.Symbol syms.Plus) e = inl refl
sum_step_cases _ e = inr refl

extreme_cases : (k : Kind) (p : ℕ) (a b : ExprTree) → (least p a b ≡ extreme_in k p a b) ⊎ (greatest p a b ≡ extreme_in k p a b)
extreme_cases (kinds.Word keywords.Min) p a b = inl refl
extreme_cases _ p a b = inr refl

module _ (text : List ℕ) where
  -- ---- what opens no level

  number_case : (n : ℕ) (e : ExprTree) (w : List Token) → NumberWord (Some e) w → AllTrue text w → ExprAgain n n n e
  number_case n e w h tr =
      let j = parts_of text e w h tr in
      let t = token_of_list text numbers j.value j.front j.first j.front_true in
      let is : number j.value.start (number_in j.value.kind) ≡ e = pure_is (number j.value.start (number_in j.value.kind)) e j.rest j.second in
      subst (λ (u : ExprTree). ExprAgain n n n u) is (alone n (number j.value.start (number_in j.value.kind)) (record {
        good = (small_number text j.value t.is_true, tt);
        again = in_number n (number_again j.value.start (number_in j.value.kind));
      }) refl refl)

  field_case : (n : ℕ) (a : PlacedName) (x : List Token) → Named text (Some a) x → AllTrue text x → (e : ExprTree) (y : List Token)
      → Opt (Bind (Tok (symbol syms.Dot)) (λ d. Bind (Named text) (λ b. Pure (field a d.start b)))) (param a) (Some e) y → AllTrue text y → ExprAgain n n n e
  field_case n a x g gt e y (not_there q r) tr =
      let is : param a ≡ e = (let back : Some e ≡ Some (param a) = q in cc) in
      subst (λ (u : ExprTree). ExprAgain n n n u) is (alone n (param a) (record { good = (name_is_text text a x g gt, tt); again = in_variable n (param_again a) }) refl refl)
  field_case n a x g gt e y (there h) tr =
      let j = parts_of text e y h tr in
      let i = parts_of text e j.rest j.second j.rest_true in
      let is : field a j.value.start i.value ≡ e = pure_is (field a j.value.start i.value) e i.rest i.second in
      subst (λ (u : ExprTree). ExprAgain n n n u) is (alone n (field a j.value.start i.value) (record {
        good = (name_is_text text a x g gt, (tt, (name_is_text text i.value i.front i.first i.front_true, tt)));
        again = in_variable n (field_again a j.value.start i.value);
      }) refl refl)

  variable_case : (n : ℕ) (e : ExprTree) (w : List Token) → Variable text (Some e) w → AllTrue text w → ExprAgain n n n e
  variable_case n e w h tr = let j = parts_of text e w h tr in field_case n j.value j.front j.first j.front_true e j.rest j.second j.rest_true

  shape_case : (n : ℕ) (e : ExprTree) (w : List Token) → ShapeNumber text (Some e) w → AllTrue text w → ExprAgain n n n e
  shape_case n e w h tr =
      let j = parts_of text e w h tr in
      let i = parts_of text e j.rest j.second j.rest_true in
      let is : shape_number j.value.start i.value ≡ e = pure_is (shape_number j.value.start i.value) e i.rest i.second in
      subst (λ (u : ExprTree). ExprAgain n n n u) is (alone n (shape_number j.value.start i.value) (record {
        good = (tt, (name_is_text text i.value i.front i.first i.front_true, tt));
        again = in_shape n (shape_again j.value.start i.value);
      }) refl refl)

  -- ---- over the factors of n levels

  module _ (n : ℕ) (again : (e : ExprTree) (w : List Token) → Factor text n (Some e) w → AllTrue text w → ExprAgain n n n e) where
    product_step_case : (s : ProductTree) (w : List Token) → ProductStep (Factor text n) (Some s) w → AllTrue text w → ProductStepAgain n s
    product_step_case s w (left h) tr =
        let j = parts_of text s w h tr in
        let i = parts_of text s j.rest j.second j.rest_true in
        let is : times i.value ≡ s = pure_is (times i.value) s i.rest i.second in
        subst (λ (u : ProductTree). ProductStepAgain n u) is (times_again n i.value (again i.value i.front i.first i.front_true).factor)
    product_step_case s w (right h) tr =
        let j = parts_of text s w h tr in
        let i = parts_of text s j.rest j.second j.rest_true in
        let small : number_in i.value.kind ≤ 1000000000 = small_number text i.value (token_of_list text numbers i.value i.front i.first i.front_true).is_true in
        let is : division_in j.value.kind i.value.start (number_in i.value.kind) ≡ s = pure_is (division_in j.value.kind i.value.start (number_in i.value.kind)) s i.rest i.second in
        elim (division_cases j.value.kind i.value.start (number_in i.value.kind)) [
          | inl q ↦ subst (λ (u : ProductTree). ProductStepAgain n u) (q ∙ is) (over_again n i.value.start (number_in i.value.kind) small)
          | inr q ↦ subst (λ (u : ProductTree). ProductStepAgain n u) (q ∙ is) (modulo_again n i.value.start (number_in i.value.kind) small)
        ]

    pub term_of : (e : ExprTree) (w : List Token) → Term (Factor text n) (Some e) w → AllTrue text w → ExprAgain (suc n) n n e
    term_of e w h tr =
        let p = inside_of (Bind (Factor text n) (λ a. Bind (Many (ProductStep (Factor text n))) (λ others. Pure (a, others)))) product_of e w h in
        let j = parts_of text p.value w p.word tr in
        let i = parts_of text p.value j.rest j.second j.rest_true in
        let many = i.first in
        let steps : AllOf (ProductStepAgain n) i.value = many_of text (ProductStep (Factor text n)) (ProductStepAgain n) product_step_case many.0 i.value i.front many.1 i.front_true in
        let is : (j.value, i.value) ≡ p.value = pure_is (j.value, i.value) p.value i.rest i.second in
        subst (λ (u : ExprTree). ExprAgain (suc n) n n u) (ap (product_of (start_of w)) is ∙ p.is) (term_case n (start_of w) j.value i.value (again j.value j.front j.first j.front_true) steps)

    sum_step_case : (s : SumTree) (w : List Token) → SumStep (Term (Factor text n)) (Some s) w → AllTrue text w → SumStepAgain n s
    sum_step_case s w h tr =
        let j = parts_of text s w h tr in
        let i = parts_of text s j.rest j.second j.rest_true in
        let t = term_of i.value i.front i.first i.front_true in
        let is : sum_step_in j.value.kind i.value ≡ s = pure_is (sum_step_in j.value.kind i.value) s i.rest i.second in
        elim (sum_step_cases j.value.kind i.value) [
          | inl q ↦ subst (λ (u : SumTree). SumStepAgain n u) (q ∙ is) (plus_again n i.value t.term)
          | inr q ↦ subst (λ (u : SumTree). SumStepAgain n u) (q ∙ is) (minus_again n i.value t.term)
        ]

    pub expr_of : (e : ExprTree) (w : List Token) → ExprOver (Factor text n) (Some e) w → AllTrue text w → ExprAgain (suc n) (suc n) n e
    expr_of e w h tr =
        let p = inside_of (Bind (Term (Factor text n)) (λ a. Bind (Many (SumStep (Term (Factor text n)))) (λ others. Pure (a, others)))) sum_of e w h in
        let j = parts_of text p.value w p.word tr in
        let i = parts_of text p.value j.rest j.second j.rest_true in
        let many = i.first in
        let steps : AllOf (SumStepAgain n) i.value = many_of text (SumStep (Term (Factor text n))) (SumStepAgain n) sum_step_case many.0 i.value i.front many.1 i.front_true in
        let is : (j.value, i.value) ≡ p.value = pure_is (j.value, i.value) p.value i.rest i.second in
        subst (λ (u : ExprTree). ExprAgain (suc n) (suc n) n u) (ap (sum_of (start_of w)) is ∙ p.is) (expr_case n (start_of w) j.value i.value (term_of j.value j.front j.first j.front_true) steps)

    argument_case : (a : ArgumentTree) (w : List Token) → Placed (ExprOver (Factor text n)) argument (Some a) w → AllTrue text w → ArgumentAgain n a
    argument_case a w h tr =
        let p = inside_of (ExprOver (Factor text n)) argument a w h in
        let e = (expr_of p.value w p.word tr).expr in
        subst (λ (u : ArgumentTree). ArgumentAgain n u) p.is (record { good = e.good; again = placed_again argument e.again (λ k x ex. ap (argument 0) ex) })

    argument_list_case : (es : List ArgumentTree) (w : List Token) → ArgumentList (ExprOver (Factor text n)) (Some es) w → AllTrue text w → AllOf (ArgumentAgain n) es
    argument_list_case es w (not_there q r) tr = let is : [] ≡ es = (let back : Some es ≡ Some [] = q in cc) in subst (λ (u : List ArgumentTree). AllOf (ArgumentAgain n) u) is tt
    argument_list_case es w (there h) tr =
        let j = parts_of text es w h tr in
        let is : j.value.0 ∷ j.value.1 ≡ es = pure_is (j.value.0 ∷ j.value.1) es j.rest j.second in
        subst (λ (u : List ArgumentTree). AllOf (ArgumentAgain n) u) is
        (chain_of text (Placed (ExprOver (Factor text n)) argument) (symbol syms.Comma) (ArgumentAgain n) argument_case j.value j.front j.first j.front_true)

    pub args_of : (es : List ArgumentTree) (w : List Token) → Args (ExprOver (Factor text n)) (Some es) w → AllTrue text w → AllOf (ArgumentAgain n) es
    args_of es w h tr =
        let j = parts_of text es w h tr in
        let i = parts_of text es j.rest j.second j.rest_true in
        let k = parts_of text es i.rest i.second i.rest_true in
        let is : i.value ≡ es = pure_is i.value es k.rest k.second in
        subst (λ (u : List ArgumentTree). AllOf (ArgumentAgain n) u) is (argument_list_case i.value i.front i.first i.front_true)

    negative_case : (e : ExprTree) (w : List Token) → Negative (Factor text n) (Some e) w → AllTrue text w → ExprAgain (suc n) (suc n) (suc n) e
    negative_case e w h tr =
        let j = parts_of text e w h tr in
        let i = parts_of text e j.rest j.second j.rest_true in
        let is : negative j.value.start i.value ≡ e = pure_is (negative j.value.start i.value) e i.rest i.second in
        subst (λ (u : ExprTree). ExprAgain (suc n) (suc n) (suc n) u) is
        (alone (suc n) (negative j.value.start i.value) (negative_again n j.value.start i.value (again i.value i.front i.first i.front_true).factor) refl refl)

    parens_case : (e : ExprTree) (w : List Token) → Parens (ExprOver (Factor text n)) (Some e) w → AllTrue text w → ExprAgain (suc n) (suc n) (suc n) e
    parens_case e w h tr =
        let j = parts_of text e w h tr in
        let i = parts_of text e j.rest j.second j.rest_true in
        let k = parts_of text e i.rest i.second i.rest_true in
        let is : i.value ≡ e = pure_is i.value e k.rest k.second in
        subst (λ (u : ExprTree). ExprAgain (suc n) (suc n) (suc n) u) is (nested n i.value (expr_of i.value i.front i.first i.front_true))

    call_case : (e : ExprTree) (w : List Token) → ValueCall text (Args (ExprOver (Factor text n))) (Some e) w → AllTrue text w → ExprAgain (suc n) (suc n) (suc n) e
    call_case e w h tr =
        let j = parts_of text e w h tr in
        let i = parts_of text e j.rest j.second j.rest_true in
        let k = parts_of text e i.rest i.second i.rest_true in
        let is : value_call j.value.start i.value (arguments k.value) ≡ e = pure_is (value_call j.value.start i.value (arguments k.value)) e k.rest k.second in
        subst (λ (u : ExprTree). ExprAgain (suc n) (suc n) (suc n) u) is
        (alone (suc n) (value_call j.value.start i.value (arguments k.value)) (call_again n j.value.start i.value k.value (name_is_text text i.value i.front i.first i.front_true) (args_of k.value k.front k.first k.front_true)) refl refl)

    record PairAgain (q : ExprTree × ExprTree) : Type 0 where
      pub first : ExprAgain (suc n) (suc n) n q.0
      pub second : ExprAgain (suc n) (suc n) n q.1

    pair_case : (q : ExprTree × ExprTree) (w : List Token) → Pair (ExprOver (Factor text n)) (Some q) w → AllTrue text w → PairAgain q
    pair_case q w h tr =
        let j = parts_of text q w h tr in
        let a = parts_of text q j.rest j.second j.rest_true in
        let c = parts_of text q a.rest a.second a.rest_true in
        let b = parts_of text q c.rest c.second c.rest_true in
        let k = parts_of text q b.rest b.second b.rest_true in
        let is : (a.value, b.value) ≡ q = pure_is (a.value, b.value) q k.rest k.second in
        subst (λ (u : ExprTree × ExprTree). PairAgain u) is (record { first = expr_of a.value a.front a.first a.front_true; second = expr_of b.value b.front b.first b.front_true })

    extreme_case : (e : ExprTree) (w : List Token) → Extreme (Pair (ExprOver (Factor text n))) (Some e) w → AllTrue text w → ExprAgain (suc n) (suc n) (suc n) e
    extreme_case e w h tr =
        let j = parts_of text e w h tr in
        let i = parts_of text e j.rest j.second j.rest_true in
        let q = pair_case i.value i.front i.first i.front_true in
        let is : extreme_in j.value.kind j.value.start i.value.0 i.value.1 ≡ e = pure_is (extreme_in j.value.kind j.value.start i.value.0 i.value.1) e i.rest i.second in
        elim (extreme_cases j.value.kind j.value.start i.value.0 i.value.1) [
          | inl m ↦ subst (λ (u : ExprTree). ExprAgain (suc n) (suc n) (suc n) u) (m ∙ is) (alone (suc n) (least j.value.start i.value.0 i.value.1) (least_again n i.value.0 i.value.1 q.first.expr q.second.expr j.value.start) refl refl)
          | inr m ↦ subst (λ (u : ExprTree). ExprAgain (suc n) (suc n) (suc n) u) (m ∙ is) (alone (suc n) (greatest j.value.start i.value.0 i.value.1) (greatest_again n i.value.0 i.value.1 q.first.expr q.second.expr j.value.start) refl refl)
        ]

  -- ---- all factors

  no_call : (e : ExprTree) (w : List Token) → ValueCall text (Cut (symbol syms.ParenOpen)) (Some e) w → AllTrue text w → ⊥
  no_call e w h tr =
      let j = parts_of text e w h tr in
      let i = parts_of text e j.rest j.second j.rest_true in
      let k = parts_of text e i.rest i.second i.rest_true in
      never_cut (symbol syms.ParenOpen) k.value k.front k.first

  no_extreme : (e : ExprTree) (w : List Token) → Extreme (Cut (symbol syms.ParenOpen)) (Some e) w → AllTrue text w → ⊥
  no_extreme e w h tr =
      let j = parts_of text e w h tr in
      let i = parts_of text e j.rest j.second j.rest_true in
      never_cut (symbol syms.ParenOpen) i.value i.front i.first

  pub factor_of : (n : ℕ) (e : ExprTree) (w : List Token) → Factor text n (Some e) w → AllTrue text w → ExprAgain n n n e
  unfolding Factor
  factor_of zero e w (left h) tr = number_case zero e w h tr
  factor_of zero e w (right (left h)) tr = variable_case zero e w h tr
  factor_of zero e w (right (right (left h))) tr = shape_case zero e w h tr
  factor_of zero e w (right (right (right (left h)))) tr = absurd (never_cut (symbol syms.Minus) e w h)
  factor_of zero e w (right (right (right (right (left h))))) tr = absurd (never_cut (symbol syms.ParenOpen) e w h)
  factor_of zero e w (right (right (right (right (right (left h)))))) tr = absurd (no_call e w h tr)
  factor_of zero e w (right (right (right (right (right (right h)))))) tr = absurd (no_extreme e w h tr)
  factor_of (suc n) e w (left h) tr = number_case (suc n) e w h tr
  factor_of (suc n) e w (right (left h)) tr = variable_case (suc n) e w h tr
  factor_of (suc n) e w (right (right (left h))) tr = shape_case (suc n) e w h tr
  factor_of (suc n) e w (right (right (right (left h)))) tr = negative_case n (factor_of n) e w h tr
  factor_of (suc n) e w (right (right (right (right (left h))))) tr = parens_case n (factor_of n) e w h tr
  factor_of (suc n) e w (right (right (right (right (right (left h)))))) tr = call_case n (factor_of n) e w h tr
  factor_of (suc n) e w (right (right (right (right (right (right h)))))) tr = extreme_case n (factor_of n) e w h tr
