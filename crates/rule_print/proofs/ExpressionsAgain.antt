-- The canonical spelling of an expression spells it again, places aside, and opens no more levels than the spelling that was read.
use Rattle.std.proofs.Common.{◌≡◌, ℕ, zero, suc, ◌≤◌, List, [], ◌∷◌, ◌++◌, Some, refl, sym, ap, ◌∙◌, subst, append_assoc}
use Rattle.std.proofs.lemmas.List.{append-nil}
use Rattle.geo_tokens.specs.declared.token.Kind.{Kind}
use Rattle.geo_tokens.specs.declared.token.Keyword.TheVariants as keywords
use Rattle.geo_tokens.specs.declared.token.Sym.TheVariants as syms
use Rattle.geo_tokens.specs.Class.{number_in}
use Rattle.geo_tokens.specs.Names.{IsNameText}
use Rattle.geo_tokens.specs.Words.{numbers, word, symbol, Lang, Pure, Tok, Bind, both, Placed}
use Rattle.rule_syntax.specs.declared.tree.PlacedName.{PlacedName}
use Rattle.rule_print.specs.declared.rank.ExprRank.TheVariants as ranks
use Rattle.rule_syntax.specs.Marks.{words, symbols}
use Rattle.rule_syntax.specs.Tree.{ExprTree, number, field, param, shape_number, negative, sum, product, least, greatest, value_call, SumTree, plus, minus, a_sum, sums, ProductTree, times, over, modulo, a_product, products, ArgumentTree, argument, an_argument, arguments}
use Rattle.rule_syntax.specs.Grammar.{sum_step_in, division_in, extreme_in, sum_of, product_of, Named, NumberWord, Variable, ShapeNumber, Negative, Parens, ArgumentList, Args, Pair, ValueCall, Extreme, ProductStep, Term, SumStep, ExprOver, Factor}
use Rattle.rule_print.specs.Canonical.{Written, name}
use Rattle.rule_print.specs.Canonical.{number as digits, word as a_word, symbol as a_symbol}
use Rattle.rule_print.specs.Spelled.{in_list, expr_spelling, sum_spelling, sum_step_spelling, product_spelling, product_step_spelling, argument_spelling, arguments_spelling, more_arguments_spelling, bare_name, bare_expr, bare_sums, bare_sum, bare_products, bare_product, bare_arguments, bare_argument}
use Rattle.rule_reading.proofs.Limits.{factor_step, term_step, expr_over_step}
use Rattle.rule_print.proofs.ShownTokens.{AllWritten, written_append}
use Rattle.rule_print.proofs.Respelled.{Again, Respelled, tok_again, named_again, bind_again, last_again, left_again, right_again, there_again, missing_again, placed_again, raised_again, same_again, AllOf, Each, joined, many_again, many_good, chain_again}

-- the languages of factors, terms and expressions, where n levels may be opened
abbrev pub FactorIn : ℕ → List ℕ → Lang ExprTree
FactorIn n text = Factor text n

abbrev pub TermIn : ℕ → List ℕ → Lang ExprTree
TermIn n text = Term (Factor text n)

abbrev pub ExprIn : ℕ → List ℕ → Lang ExprTree
ExprIn n text = ExprOver (Factor text n)

-- the same, places aside
abbrev pub SameExpr : ExprTree → ExprTree → Type 0
SameExpr e x = bare_expr x ≡ bare_expr e

abbrev pub SameSum : SumTree → SumTree → Type 0
SameSum s x = bare_sum x ≡ bare_sum s

abbrev pub SameProduct : ProductTree → ProductTree → Type 0
SameProduct s x = bare_product x ≡ bare_product s

abbrev pub SameArgument : ArgumentTree → ArgumentTree → Type 0
SameArgument a x = bare_argument x ≡ bare_argument a

pub same_name : (a b : PlacedName) → a.name ≡ b.name → bare_name a ≡ bare_name b
same_name a b e = ap (λ (n : List ℕ). let c : PlacedName = record { place = 0; name = n } in c) e

-- ---- lists

sums_same : (ss xs : List SumTree) → Each SameSum ss xs → bare_sums (sums xs) ≡ bare_sums (sums ss)
sums_same [] [] h = refl
sums_same [] (x ∷ xs) h = absurd h
sums_same (s ∷ ss) [] h = absurd h
sums_same (s ∷ ss) (x ∷ xs) h = λ i. a_sum (h.0 i) (sums_same ss xs h.1 i)

products_same : (ss xs : List ProductTree) → Each SameProduct ss xs → bare_products (products xs) ≡ bare_products (products ss)
products_same [] [] h = refl
products_same [] (x ∷ xs) h = absurd h
products_same (s ∷ ss) [] h = absurd h
products_same (s ∷ ss) (x ∷ xs) h = λ i. a_product (h.0 i) (products_same ss xs h.1 i)

pub arguments_same : (es xs : List ArgumentTree) → Each SameArgument es xs → bare_arguments (arguments xs) ≡ bare_arguments (arguments es)
arguments_same [] [] h = refl
arguments_same [] (x ∷ xs) h = absurd h
arguments_same (e ∷ es) [] h = absurd h
arguments_same (e ∷ es) (x ∷ xs) h = λ i. an_argument (h.0 i) (arguments_same es xs h.1 i)

sums_joined : (ss : List SumTree) → joined sum_step_spelling ss ≡ sum_spelling (sums ss)
sums_joined [] = refl
sums_joined (s ∷ ss) = ap (λ (u : List Written). sum_step_spelling s ++ u) (sums_joined ss)

products_joined : (ss : List ProductTree) → joined product_step_spelling ss ≡ product_spelling (products ss)
products_joined [] = refl
products_joined (s ∷ ss) = ap (λ (u : List Written). product_step_spelling s ++ u) (products_joined ss)

arguments_joined : (es : List ArgumentTree) → joined (λ a. a_symbol syms.Comma ∷ argument_spelling a) es ≡ more_arguments_spelling (arguments es)
arguments_joined [] = refl
arguments_joined (a ∷ es) = ap (λ (u : List Written). a_symbol syms.Comma ∷ (argument_spelling a ++ u)) (arguments_joined es)

good_as : (ps qs : List Written) → AllWritten ps → ps ≡ qs → AllWritten qs
good_as ps qs g e = subst (λ (u : List Written). AllWritten u) e g

pub respelled_as : {A : Type 0} {L : List ℕ → Lang A} {P : A → Type 0} {ps : List Written} (qs : List Written) → Respelled L P ps → ps ≡ qs → Respelled L P qs
respelled_as {A} {L} {P} {ps} qs h e = record { good = good_as ps qs h.good e; again = same_again qs h.again e }

-- ---- what opens no level

pub number_again : (p n : ℕ) → Again (λ text. NumberWord) (SameExpr (number p n)) (digits n ∷ [])
number_again p n = last_again (λ t. number t.start (number_in t.kind)) (tok_again numbers (digits n) refl) (λ t k. ap (λ (m : Kind). number 0 (number_in m)) k)

pub field_again : (a : PlacedName) (p : ℕ) (b : PlacedName) → Again Variable (SameExpr (field a p b)) (name a.name ∷ a_symbol syms.Dot ∷ name b.name ∷ [])
field_again a p b =
    bind_again (named_again a.name) (λ x ex. there_again (param x) (bind_again (tok_again (symbol syms.Dot) (a_symbol syms.Dot) refl) (λ d k.
    last_again (λ y. field x d.start y) (named_again b.name) (λ y ey. (λ i. field (same_name x a ex i) 0 (same_name y b ey i))))))

pub param_again : (a : PlacedName) → Again Variable (SameExpr (param a)) (name a.name ∷ [])
param_again a = bind_again (named_again a.name) (λ x ex. missing_again (λ text. Bind (Tok (symbol syms.Dot)) (λ d. Bind (Named text) (λ b. Pure (field x d.start b)))) (param x) (ap param (same_name x a ex)))

pub shape_again : (p : ℕ) (a : PlacedName) → Again ShapeNumber (SameExpr (shape_number p a)) (a_word keywords.Shape ∷ name a.name ∷ [])
shape_again p a = bind_again (tok_again (word keywords.Shape) (a_word keywords.Shape) refl) (λ t k. last_again (λ x. shape_number t.start x) (named_again a.name) (λ x ex. ap (shape_number 0) (same_name x a ex)))

module _ {P : ExprTree → Type 0} {ps : List Written} where
  pub in_number : (n : ℕ) → Again (λ text. NumberWord) P ps → Again (FactorIn n) P ps
  unfolding Factor
  in_number zero l = left_again l
  in_number (suc n) l = left_again l

  pub in_variable : (n : ℕ) → Again Variable P ps → Again (FactorIn n) P ps
  unfolding Factor
  in_variable zero l = right_again (left_again l)
  in_variable (suc n) l = right_again (left_again l)

  pub in_shape : (n : ℕ) → Again ShapeNumber P ps → Again (FactorIn n) P ps
  unfolding Factor
  in_shape zero l = right_again (right_again (left_again l))
  in_shape (suc n) l = right_again (right_again (left_again l))

  in_negative : (n : ℕ) → Again (λ text. Negative (Factor text n)) P ps → Again (FactorIn (suc n)) P ps
  unfolding Factor
  in_negative n l = right_again (right_again (right_again (left_again l)))

  in_parens : (n : ℕ) → Again (λ text. Parens (ExprOver (Factor text n))) P ps → Again (FactorIn (suc n)) P ps
  unfolding Factor
  in_parens n l = right_again (right_again (right_again (right_again (left_again l))))

  in_call : (n : ℕ) → Again (λ text. ValueCall text (Args (ExprOver (Factor text n)))) P ps → Again (FactorIn (suc n)) P ps
  unfolding Factor
  in_call n l = right_again (right_again (right_again (right_again (right_again (left_again l)))))

  in_extreme : (n : ℕ) → Again (λ text. Extreme (Pair (ExprOver (Factor text n)))) P ps → Again (FactorIn (suc n)) P ps
  unfolding Factor
  in_extreme n l = right_again (right_again (right_again (right_again (right_again (right_again l)))))

  -- a factor alone is a term, and a term alone an expression
  as_term : (n : ℕ) → Respelled (FactorIn n) P ps → Respelled (TermIn n) P ps
  as_term n h = record {
    good = h.good;
    again = record { reads = λ text v st. (let x = h.again.reads text v st in (x.0, (Some (x.0, []), both x.0 v [] x.1 (both [] [] [] (0, (refl, refl)) (refl, refl) refl) (sym (append-nil v)), refl), x.2)) };
  }

  as_expr : (n : ℕ) → Respelled (TermIn n) P ps → Respelled (ExprIn n) P ps
  as_expr n h = record {
    good = h.good;
    again = record { reads = λ text v st. (let x = h.again.reads text v st in (x.0, (Some (x.0, []), both x.0 v [] x.1 (both [] [] [] (0, (refl, refl)) (refl, refl) refl) (sym (append-nil v)), refl), x.2)) };
  }

  -- one level more
  raised_factor : (n : ℕ) → Respelled (FactorIn n) P ps → Respelled (FactorIn (suc n)) P ps
  raised_factor n h = record { good = h.good; again = raised_again h.again (λ text. (factor_step text n).above.raise) }

  raised_term : (n : ℕ) → Respelled (TermIn n) P ps → Respelled (TermIn (suc n)) P ps
  raised_term n h = record { good = h.good; again = raised_again h.again (λ text. (term_step (Factor text n) (Factor text (suc n)) (factor_step text n)).above.raise) }

  pub raised_expr : (n : ℕ) → Respelled (ExprIn n) P ps → Respelled (ExprIn (suc n)) P ps
  raised_expr n h = record { good = h.good; again = raised_again h.again (λ text. (expr_over_step (Factor text n) (Factor text (suc n)) (factor_step text n)).above.raise) }

-- ---- what opens one

pub negative_again : (n p : ℕ) (e : ExprTree) → Respelled (FactorIn n) (SameExpr e) (expr_spelling ranks.Factor e) → Respelled (FactorIn (suc n)) (SameExpr (negative p e)) (a_symbol syms.Minus ∷ expr_spelling ranks.Factor e)
negative_again n p e h = record {
  good = (tt, h.good);
  again = in_negative n (bind_again (tok_again (symbol syms.Minus) (a_symbol syms.Minus) refl) (λ t k. last_again (λ x. negative t.start x) h.again (λ x ex. ap (negative 0) ex)));
}

pub closed : (ps : List Written) → AllWritten ps → AllWritten (in_list ps)
closed ps g = (tt, written_append ps (a_symbol syms.ParenClose ∷ []) g (tt, tt))

pub closing : {A : Type 0} {P : A → Type 0} (a : A) → P a → Again (λ text. Bind (Tok (symbol syms.ParenClose)) (λ u. Pure a)) P (a_symbol syms.ParenClose ∷ [])
closing a p = last_again (λ u. a) (tok_again (symbol syms.ParenClose) (a_symbol syms.ParenClose) refl) (λ u j. p)

parens_again : (n : ℕ) (e : ExprTree) (ps : List Written) → Respelled (ExprIn n) (SameExpr e) ps → Respelled (FactorIn (suc n)) (SameExpr e) (in_list ps)
parens_again n e ps h = record {
  good = closed ps h.good;
  again = in_parens n (bind_again (tok_again (symbol syms.ParenOpen) (a_symbol syms.ParenOpen) refl) (λ t k. bind_again h.again (λ x ex. closing x ex)));
}

-- arguments
abbrev pub ArgumentIn : ℕ → List ℕ → Lang ArgumentTree
ArgumentIn n text = Placed (ExprOver (Factor text n)) argument

abbrev pub ArgumentAgain : ℕ → ArgumentTree → Type 0
ArgumentAgain n a = Respelled (ArgumentIn n) (SameArgument a) (argument_spelling a)

abbrev pub SameArguments : List ArgumentTree → List ArgumentTree → Type 0
SameArguments es xs = bare_arguments (arguments xs) ≡ bare_arguments (arguments es)

argument_list_again : (n : ℕ) (es : List ArgumentTree) → AllOf (ArgumentAgain n) es → Respelled (λ text. ArgumentList (ExprOver (Factor text n))) (SameArguments es) (arguments_spelling (arguments es))
argument_list_again n [] h = record { good = tt; again = missing_again _ [] refl }
argument_list_again n (e ∷ es) h =
    let c = chain_again (ArgumentIn n) SameArgument argument_spelling (symbol syms.Comma) (a_symbol syms.Comma) refl tt e es h in
    let q : argument_spelling e ++ joined (λ a. a_symbol syms.Comma ∷ argument_spelling a) es ≡ arguments_spelling (arguments (e ∷ es)) = ap (λ (u : List Written). argument_spelling e ++ u) (arguments_joined es) in
    respelled_as (arguments_spelling (arguments (e ∷ es))) (record {
      good = c.good;
      again = there_again [] (last_again (λ d. d.0 ∷ d.1) c.again (λ d p. arguments_same (e ∷ es) (d.0 ∷ d.1) (p.0, p.1)));
    }) q

pub args_again : (n : ℕ) (es : List ArgumentTree) → AllOf (ArgumentAgain n) es → Respelled (λ text. Args (ExprOver (Factor text n))) (SameArguments es) (in_list (arguments_spelling (arguments es)))
args_again n es h =
    let l = argument_list_again n es h in
    record {
      good = closed (arguments_spelling (arguments es)) l.good;
      again = bind_again (tok_again (symbol syms.ParenOpen) (a_symbol syms.ParenOpen) refl) (λ t k. bind_again l.again (λ xs ex. closing xs ex));
    }

pub call_again : (n p : ℕ) (a : PlacedName) (es : List ArgumentTree) → IsNameText a.name → AllOf (ArgumentAgain n) es
    → Respelled (FactorIn (suc n)) (SameExpr (value_call p a (arguments es))) (a_symbol syms.Dollar ∷ name a.name ∷ in_list (arguments_spelling (arguments es)))
call_again n p a es g h =
    let l = args_again n es h in
    record {
      good = (tt, (g, l.good));
      again = in_call n (bind_again (tok_again (symbol syms.Dollar) (a_symbol syms.Dollar) refl) (λ t k. bind_again (named_again a.name) (λ x ex.
          last_again (λ xs. value_call t.start x (arguments xs)) l.again (λ xs same. (λ i. value_call 0 (same_name x a ex i) (same i))))));
    }

-- a pair
module _ (n : ℕ) (a b : ExprTree) (ha : Respelled (ExprIn n) (SameExpr a) (expr_spelling ranks.Sum a)) (hb : Respelled (ExprIn n) (SameExpr b) (expr_spelling ranks.Sum b)) where
  abbrev pair_list : List Written
  pair_list = in_list (expr_spelling ranks.Sum a ++ a_symbol syms.Comma ∷ expr_spelling ranks.Sum b)

  pair_good : AllWritten pair_list
  pair_good = closed (expr_spelling ranks.Sum a ++ a_symbol syms.Comma ∷ expr_spelling ranks.Sum b) (written_append (expr_spelling ranks.Sum a) (a_symbol syms.Comma ∷ expr_spelling ranks.Sum b) ha.good (tt, hb.good))

  pair_again : Again (λ text. Pair (ExprOver (Factor text n))) (λ q. SameExpr a q.0 × SameExpr b q.1) pair_list
  pair_again = same_again pair_list
      (bind_again (tok_again (symbol syms.ParenOpen) (a_symbol syms.ParenOpen) refl) (λ t k. bind_again ha.again (λ x ex.
      bind_again (tok_again (symbol syms.Comma) (a_symbol syms.Comma) refl) (λ c kc. bind_again hb.again (λ y ey. closing (x, y) (ex, ey))))))
      (ap (λ (u : List Written). a_symbol syms.ParenOpen ∷ u) (sym (append_assoc (expr_spelling ranks.Sum a) (a_symbol syms.Comma ∷ expr_spelling ranks.Sum b) (a_symbol syms.ParenClose ∷ []))))

  pub least_again : (p : ℕ) → Respelled (FactorIn (suc n)) (SameExpr (least p a b)) (a_word keywords.Min ∷ pair_list)
  least_again p = record {
    good = (tt, pair_good);
    again = in_extreme n (bind_again (tok_again (words keywords.Min keywords.Max) (a_word keywords.Min) refl) (λ t k.
        last_again (λ q. extreme_in t.kind t.start q.0 q.1) pair_again (λ q e. ap (λ (m : Kind). bare_expr (extreme_in m t.start q.0 q.1)) k ∙ (λ i. least 0 (e.0 i) (e.1 i)))));
  }

  pub greatest_again : (p : ℕ) → Respelled (FactorIn (suc n)) (SameExpr (greatest p a b)) (a_word keywords.Max ∷ pair_list)
  greatest_again p = record {
    good = (tt, pair_good);
    again = in_extreme n (bind_again (tok_again (words keywords.Min keywords.Max) (a_word keywords.Max) refl) (λ t k.
        last_again (λ q. extreme_in t.kind t.start q.0 q.1) pair_again (λ q e. ap (λ (m : Kind). bare_expr (extreme_in m t.start q.0 q.1)) k ∙ (λ i. greatest 0 (e.0 i) (e.1 i)))));
  }

-- ---- products and sums

abbrev pub ProductStepAgain : ℕ → ProductTree → Type 0
ProductStepAgain n s = Respelled (λ text. ProductStep (Factor text n)) (SameProduct s) (product_step_spelling s)

pub times_again : (n : ℕ) (e : ExprTree) → Respelled (FactorIn n) (SameExpr e) (expr_spelling ranks.Factor e) → ProductStepAgain n (times e)
times_again n e h = record {
  good = (tt, h.good);
  again = left_again (bind_again (tok_again (symbol syms.Star) (a_symbol syms.Star) refl) (λ t k. last_again times h.again (λ x ex. ap times ex)));
}

pub over_again : (n p m : ℕ) → m ≤ 1000000000 → ProductStepAgain n (over p m)
over_again n p m small = record {
  good = (tt, (small, tt));
  again = right_again (bind_again (tok_again (words keywords.Div keywords.Mod) (a_word keywords.Div) refl) (λ t k. last_again (λ u. division_in t.kind u.start (number_in u.kind)) (tok_again numbers (digits m) refl)
      (λ u j. ap (λ (d : Kind). bare_product (division_in d u.start (number_in u.kind))) k ∙ ap (λ (d : Kind). over 0 (number_in d)) j)));
}

pub modulo_again : (n p m : ℕ) → m ≤ 1000000000 → ProductStepAgain n (modulo p m)
modulo_again n p m small = record {
  good = (tt, (small, tt));
  again = right_again (bind_again (tok_again (words keywords.Div keywords.Mod) (a_word keywords.Mod) refl) (λ t k. last_again (λ u. division_in t.kind u.start (number_in u.kind)) (tok_again numbers (digits m) refl)
      (λ u j. ap (λ (d : Kind). bare_product (division_in d u.start (number_in u.kind))) k ∙ ap (λ (d : Kind). modulo 0 (number_in d)) j)));
}

product_same : (p m : ℕ) (a x : ExprTree) (s : ProductTree) (ss xs : List ProductTree) → SameExpr a x → Each SameProduct (s ∷ ss) xs → bare_expr (product_of m (x, xs)) ≡ bare_expr (product p a (products (s ∷ ss)))
product_same p m a x s ss [] e h = absurd h
product_same p m a x s ss (y ∷ ys) e h = λ i. product 0 (e i) (products_same (s ∷ ss) (y ∷ ys) h i)

product_again : (n p : ℕ) (a : ExprTree) (s : ProductTree) (ss : List ProductTree) → Respelled (FactorIn n) (SameExpr a) (expr_spelling ranks.Factor a) → AllOf (ProductStepAgain n) (s ∷ ss)
    → Respelled (TermIn n) (SameExpr (product p a (products (s ∷ ss)))) (expr_spelling ranks.Factor a ++ product_spelling (products (s ∷ ss)))
product_again n p a s ss h hs =
    let q : expr_spelling ranks.Factor a ++ joined product_step_spelling (s ∷ ss) ≡ expr_spelling ranks.Factor a ++ product_spelling (products (s ∷ ss)) = ap (λ (u : List Written). expr_spelling ranks.Factor a ++ u) (products_joined (s ∷ ss)) in
    respelled_as (expr_spelling ranks.Factor a ++ product_spelling (products (s ∷ ss))) (record {
      good = written_append (expr_spelling ranks.Factor a) (joined product_step_spelling (s ∷ ss)) h.good (many_good (λ text. ProductStep (Factor text n)) SameProduct product_step_spelling (s ∷ ss) hs);
      again = placed_again {P = λ c. SameExpr a c.0 × Each SameProduct (s ∷ ss) c.1} product_of (bind_again h.again (λ x ex. last_again (λ xs. (x, xs)) (many_again (λ text. ProductStep (Factor text n)) SameProduct product_step_spelling (s ∷ ss) hs) (λ xs e. (ex, e))))
          (λ m c e. product_same p m a c.0 s ss c.1 e.0 e.1);
    }) q

abbrev pub SumStepAgain : ℕ → SumTree → Type 0
SumStepAgain n s = Respelled (λ text. SumStep (Term (Factor text n))) (SameSum s) (sum_step_spelling s)

pub plus_again : (n : ℕ) (e : ExprTree) → Respelled (TermIn n) (SameExpr e) (expr_spelling ranks.Product e) → SumStepAgain n (plus e)
plus_again n e h = record {
  good = (tt, h.good);
  again = bind_again (tok_again (symbols syms.Plus syms.Minus) (a_symbol syms.Plus) refl) (λ t k. last_again (λ x. sum_step_in t.kind x) h.again (λ x ex. ap (λ (d : Kind). bare_sum (sum_step_in d x)) k ∙ ap plus ex));
}

pub minus_again : (n : ℕ) (e : ExprTree) → Respelled (TermIn n) (SameExpr e) (expr_spelling ranks.Product e) → SumStepAgain n (minus e)
minus_again n e h = record {
  good = (tt, h.good);
  again = bind_again (tok_again (symbols syms.Plus syms.Minus) (a_symbol syms.Minus) refl) (λ t k. last_again (λ x. sum_step_in t.kind x) h.again (λ x ex. ap (λ (d : Kind). bare_sum (sum_step_in d x)) k ∙ ap minus ex));
}

sum_same : (p m : ℕ) (a x : ExprTree) (s : SumTree) (ss xs : List SumTree) → SameExpr a x → Each SameSum (s ∷ ss) xs → bare_expr (sum_of m (x, xs)) ≡ bare_expr (sum p a (sums (s ∷ ss)))
sum_same p m a x s ss [] e h = absurd h
sum_same p m a x s ss (y ∷ ys) e h = λ i. sum 0 (e i) (sums_same (s ∷ ss) (y ∷ ys) h i)

sum_again : (n p : ℕ) (a : ExprTree) (s : SumTree) (ss : List SumTree) → Respelled (TermIn n) (SameExpr a) (expr_spelling ranks.Product a) → AllOf (SumStepAgain n) (s ∷ ss)
    → Respelled (ExprIn n) (SameExpr (sum p a (sums (s ∷ ss)))) (expr_spelling ranks.Product a ++ sum_spelling (sums (s ∷ ss)))
sum_again n p a s ss h hs =
    let q : expr_spelling ranks.Product a ++ joined sum_step_spelling (s ∷ ss) ≡ expr_spelling ranks.Product a ++ sum_spelling (sums (s ∷ ss)) = ap (λ (u : List Written). expr_spelling ranks.Product a ++ u) (sums_joined (s ∷ ss)) in
    respelled_as (expr_spelling ranks.Product a ++ sum_spelling (sums (s ∷ ss))) (record {
      good = written_append (expr_spelling ranks.Product a) (joined sum_step_spelling (s ∷ ss)) h.good (many_good (λ text. SumStep (Term (Factor text n))) SameSum sum_step_spelling (s ∷ ss) hs);
      again = placed_again {P = λ c. SameExpr a c.0 × Each SameSum (s ∷ ss) c.1} sum_of (bind_again h.again (λ x ex. last_again (λ xs. (x, xs)) (many_again (λ text. SumStep (Term (Factor text n))) SameSum sum_step_spelling (s ∷ ss) hs) (λ xs e. (ex, e))))
          (λ m c e. sum_same p m a c.0 s ss c.1 e.0 e.1);
    }) q

-- ---- at each place

-- the expression is spelled where a factor, a term and an expression may stand, with as many levels as say
pub record ExprAgain (factors terms n : ℕ) (e : ExprTree) : Type 0 where
  pub factor : Respelled (FactorIn factors) (SameExpr e) (expr_spelling ranks.Factor e)
  pub term : Respelled (TermIn terms) (SameExpr e) (expr_spelling ranks.Product e)
  pub expr : Respelled (ExprIn n) (SameExpr e) (expr_spelling ranks.Sum e)

-- no chain: it is spelled the same at each place
pub alone : (n : ℕ) (e : ExprTree) → Respelled (FactorIn n) (SameExpr e) (expr_spelling ranks.Factor e) → expr_spelling ranks.Factor e ≡ expr_spelling ranks.Product e → expr_spelling ranks.Factor e ≡ expr_spelling ranks.Sum e → ExprAgain n n n e
alone n e h p s = record { factor = h; term = respelled_as (expr_spelling ranks.Product e) (as_term n h) p; expr = respelled_as (expr_spelling ranks.Sum e) (as_expr n (as_term n h)) s }

-- what stands in brackets
pub nested : (n : ℕ) (e : ExprTree) → ExprAgain (suc n) (suc n) n e → ExprAgain (suc n) (suc n) (suc n) e
nested n e h = record { factor = h.factor; term = h.term; expr = raised_expr n h.expr }

-- a term: a factor, or a product
pub term_case : (n p : ℕ) (a : ExprTree) (ss : List ProductTree) → ExprAgain n n n a → AllOf (ProductStepAgain n) ss → ExprAgain (suc n) n n (product_of p (a, ss))
term_case n p a [] h hs = record { factor = raised_factor n h.factor; term = h.term; expr = h.expr }
term_case n p a (s ∷ ss) h hs =
    let t = product_again n p a s ss h.factor hs in
    record { factor = parens_again n (product p a (products (s ∷ ss))) (expr_spelling ranks.Factor a ++ product_spelling (products (s ∷ ss))) (as_expr n t); term = t; expr = as_expr n t }

-- an expression: a term, or a sum
pub expr_case : (n p : ℕ) (a : ExprTree) (ss : List SumTree) → ExprAgain (suc n) n n a → AllOf (SumStepAgain n) ss → ExprAgain (suc n) (suc n) n (sum_of p (a, ss))
expr_case n p a [] h hs = record { factor = h.factor; term = raised_term n h.term; expr = h.expr }
expr_case n p a (s ∷ ss) h hs =
    let e = sum_again n p a s ss h.term hs in
    let f = parens_again n (sum p a (sums (s ∷ ss))) (expr_spelling ranks.Product a ++ sum_spelling (sums (s ∷ ss))) e in
    record { factor = f; term = as_term (suc n) f; expr = e }
