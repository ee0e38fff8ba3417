-- Expressions and formulas of two texts.
use Rattle.std.proofs.Common.{◌≡◌, ℕ, zero, suc, List, [], Some, None, false, refl}
use Rattle.geo_tokens.specs.declared.token.Kind.TheVariants as kinds
use Rattle.geo_tokens.specs.declared.token.Keyword.{Keyword}
use Rattle.geo_tokens.specs.declared.token.Keyword.TheVariants as keywords
use Rattle.geo_tokens.specs.declared.token.Sym.{Sym}
use Rattle.geo_tokens.specs.declared.token.Sym.TheVariants as syms
use Rattle.geo_tokens.specs.Class.{class_of}
use Rattle.geo_tokens.specs.Words.{Kinds, has, numbers, word, symbol, Lang, Tok, Cut}
use Rattle.rule_syntax.specs.Marks.{words, symbols, rels, quantifiers}
use Rattle.rule_syntax.specs.Tree.{ExprTree, param, ArgumentTree, argument, all_objects, FormulaTree, comparison}
use Rattle.rule_syntax.specs.Grammar.{sum_of, product_of, and_of, or_of, implication_of, equivalence_of, NumberWord, Variable, ShapeNumber, Negative, Parens, ArgumentList, Args, Pair, ProductStep, Term, SumStep, ExprOver, FactorOver, Factor, ExprWords, ArgsWords, True, False, Not, Brackets, Quantifier, Collection, Quantified, Comparison, Conjunction, Disjunction, Behind, Implication, FormulaOver, UnaryOver, Unary, FormulaWords}
use Rattle.accepted_fronts.proofs.Alike.{Alike, one_alike, pure_alike, bind_alike, either_alike, opt_alike, many_alike, chain_alike, placed_alike, named_alike}

module _ {text other : List ℕ} where
  -- kinds of which the word `end` is none
  pub kinds_alike : (ks : Kinds) → has ks (class_of (kinds.Word keywords.End)) ≡ false → Alike text other (Tok ks) (Tok ks)
  kinds_alike ks n = one_alike ks (λ t. Some t) n

  cut_alike : {A : Type 0} (ks : Kinds) → has ks (class_of (kinds.Word keywords.End)) ≡ false → Alike text other (Cut {A = A} ks) (Cut {A = A} ks)
  cut_alike ks n = one_alike ks (λ t. None) n

  pub word_alike : (k : Keyword) → has (word k) (class_of (kinds.Word keywords.End)) ≡ false → Alike text other (Tok (word k)) (Tok (word k))
  word_alike k n = kinds_alike (word k) n

  pub symbol_alike : (s : Sym) → has (symbol s) (class_of (kinds.Word keywords.End)) ≡ false → Alike text other (Tok (symbol s)) (Tok (symbol s))
  symbol_alike s n = kinds_alike (symbol s) n

  pub numbers_alike : Alike text other (Tok numbers) (Tok numbers)
  numbers_alike = kinds_alike numbers refl

  -- ---- expressions

  number_word_alike : Alike text other NumberWord NumberWord
  number_word_alike = bind_alike _ _ _ _ numbers_alike (λ t. pure_alike _)

  variable_alike : Alike text other (Variable text) (Variable other)
  variable_alike = bind_alike _ _ _ _ named_alike (λ a. opt_alike _ _ (param a) (bind_alike _ _ _ _ (symbol_alike syms.Dot refl) (λ d. bind_alike _ _ _ _ named_alike (λ b. pure_alike _))))

  shape_number_alike : Alike text other (ShapeNumber text) (ShapeNumber other)
  shape_number_alike = bind_alike _ _ _ _ (word_alike keywords.Shape refl) (λ t. bind_alike _ _ _ _ named_alike (λ a. pure_alike _))

  module _ (L M : Lang ExprTree) (s : Alike text other L M) where
    negative_alike : Alike text other (Negative L) (Negative M)
    negative_alike = bind_alike _ _ _ _ (symbol_alike syms.Minus refl) (λ t. bind_alike L M _ _ s (λ e. pure_alike _))

    parens_alike : Alike text other (Parens L) (Parens M)
    parens_alike = bind_alike _ _ _ _ (symbol_alike syms.ParenOpen refl) (λ t. bind_alike L M _ _ s (λ e. bind_alike _ _ _ _ (symbol_alike syms.ParenClose refl) (λ u. pure_alike _)))

    argument_list_alike : Alike text other (ArgumentList L) (ArgumentList M)
    argument_list_alike = opt_alike _ _ [] (bind_alike _ _ _ _ (chain_alike _ _ (symbol syms.Comma) refl (placed_alike L M argument s)) (λ c. pure_alike _))

    args_over_alike : Alike text other (Args L) (Args M)
    args_over_alike = bind_alike _ _ _ _ (symbol_alike syms.ParenOpen refl) (λ t. bind_alike _ _ _ _ argument_list_alike (λ es. bind_alike _ _ _ _ (symbol_alike syms.ParenClose refl) (λ u. pure_alike _)))

    pair_alike : Alike text other (Pair L) (Pair M)
    pair_alike = bind_alike _ _ _ _ (symbol_alike syms.ParenOpen refl) (λ t. bind_alike L M _ _ s (λ a. bind_alike _ _ _ _ (symbol_alike syms.Comma refl) (λ c. bind_alike L M _ _ s (λ b. bind_alike _ _ _ _ (symbol_alike syms.ParenClose refl) (λ u. pure_alike _)))))

    product_step_alike : Alike text other (ProductStep L) (ProductStep M)
    product_step_alike = either_alike _ _ _ _
        (bind_alike _ _ _ _ (symbol_alike syms.Star refl) (λ t. bind_alike L M _ _ s (λ e. pure_alike _)))
        (bind_alike _ _ _ _ (kinds_alike (words keywords.Div keywords.Mod) refl) (λ t. bind_alike _ _ _ _ numbers_alike (λ m. pure_alike _)))

    term_alike : Alike text other (Term L) (Term M)
    term_alike = placed_alike _ _ product_of (bind_alike L M _ _ s (λ a. bind_alike _ _ _ _ (many_alike _ _ product_step_alike) (λ others. pure_alike _)))

    sum_step_alike : Alike text other (SumStep L) (SumStep M)
    sum_step_alike = bind_alike _ _ _ _ (kinds_alike (symbols syms.Plus syms.Minus) refl) (λ t. bind_alike L M _ _ s (λ e. pure_alike _))

    comparison_alike : Alike text other (Comparison L) (Comparison M)
    comparison_alike = placed_alike _ _ (λ p x. comparison p x.0 x.1 x.2) (bind_alike L M _ _ s (λ a. bind_alike _ _ _ _ (kinds_alike rels refl) (λ t. bind_alike L M _ _ s (λ b. pure_alike _))))

  expr_over_alike : (L M : Lang ExprTree) → Alike text other L M → Alike text other (ExprOver L) (ExprOver M)
  expr_over_alike L M s = placed_alike _ _ sum_of (bind_alike _ _ _ _ (term_alike L M s) (λ a. bind_alike _ _ _ _ (many_alike _ _ (sum_step_alike (Term L) (Term M) (term_alike L M s))) (λ others. pure_alike _)))

  factor_over_alike : (L M L' M' : Lang ExprTree) (N N' : Lang (List ArgumentTree)) (P P' : Lang (ExprTree × ExprTree)) → Alike text other L L' → Alike text other M M' → Alike text other N N' → Alike text other P P'
      → Alike text other (FactorOver text L M N P) (FactorOver other L' M' N' P')
  factor_over_alike L M L' M' N N' P P' l m n p = either_alike _ _ _ _ number_word_alike (either_alike _ _ _ _ variable_alike (either_alike _ _ _ _ shape_number_alike (either_alike _ _ _ _ l (either_alike _ _ _ _ m
      (either_alike _ _ _ _ (bind_alike _ _ _ _ (symbol_alike syms.Dollar refl) (λ t. bind_alike _ _ _ _ named_alike (λ a. bind_alike N N' _ _ n (λ es. pure_alike _))))
      (bind_alike _ _ _ _ (kinds_alike (words keywords.Min keywords.Max) refl) (λ t. bind_alike P P' _ _ p (λ q. pure_alike _))))))))

  factor_alike : (n : ℕ) → Alike text other (Factor text n) (Factor other n)
  unfolding Factor
  factor_alike zero = factor_over_alike _ _ _ _ _ _ _ _ (cut_alike (symbol syms.Minus) refl) (cut_alike (symbol syms.ParenOpen) refl) (cut_alike (symbol syms.ParenOpen) refl) (cut_alike (symbol syms.ParenOpen) refl)
  factor_alike (suc n) =
      let over : Alike text other (ExprOver (Factor text n)) (ExprOver (Factor other n)) = expr_over_alike (Factor text n) (Factor other n) (factor_alike n) in
      factor_over_alike _ _ _ _ _ _ _ _ (negative_alike (Factor text n) (Factor other n) (factor_alike n)) (parens_alike _ _ over) (args_over_alike _ _ over) (pair_alike _ _ over)

  pub expr_alike : (n : ℕ) → Alike text other (ExprWords text n) (ExprWords other n)
  unfolding ExprWords
  expr_alike n = expr_over_alike (Factor text n) (Factor other n) (factor_alike n)

  args_alike : (n : ℕ) → Alike text other (ArgsWords text n) (ArgsWords other n)
  unfolding ArgsWords ExprWords
  args_alike zero = cut_alike (symbol syms.ParenOpen) refl
  args_alike (suc n) = args_over_alike _ _ (expr_over_alike (Factor text n) (Factor other n) (factor_alike n))

  -- ---- formulas

  true_alike : Alike text other True True
  true_alike = bind_alike _ _ _ _ (word_alike keywords.True refl) (λ t. pure_alike _)

  false_alike : Alike text other False False
  false_alike = bind_alike _ _ _ _ (word_alike keywords.False refl) (λ t. pure_alike _)

  quantifier_alike : Alike text other Quantifier Quantifier
  quantifier_alike = either_alike _ _ _ _
      (bind_alike _ _ _ _ (kinds_alike (words keywords.ForAll keywords.Exists) refl) (λ t. pure_alike _))
      (bind_alike _ _ _ _ (kinds_alike (words keywords.AtLeast keywords.AtMost) refl) (λ t. bind_alike _ _ _ _ numbers_alike (λ m. pure_alike _)))

  collection_alike : Alike text other (Collection text) (Collection other)
  collection_alike = either_alike _ _ _ _
      (bind_alike _ _ _ _ (word_alike keywords.Objects refl) (λ t. opt_alike _ _ all_objects
      (bind_alike _ _ _ _ (symbol_alike syms.ParenOpen refl) (λ u. bind_alike _ _ _ _ (chain_alike _ _ (symbol syms.Comma) refl named_alike) (λ c. bind_alike _ _ _ _ (symbol_alike syms.ParenClose refl) (λ v. pure_alike _))))))
      (bind_alike _ _ _ _ (word_alike keywords.Boxes refl) (λ t. bind_alike _ _ _ _ (word_alike keywords.Of refl) (λ u. bind_alike _ _ _ _ named_alike (λ a. pure_alike _))))

  module _ (L M : Lang FormulaTree) (s : Alike text other L M) where
    not_alike : Alike text other (Not L) (Not M)
    not_alike = bind_alike _ _ _ _ (word_alike keywords.Not refl) (λ t. bind_alike L M _ _ s (λ f. pure_alike _))

    brackets_alike : Alike text other (Brackets L) (Brackets M)
    brackets_alike = bind_alike _ _ _ _ (symbol_alike syms.BracketOpen refl) (λ t. bind_alike L M _ _ s (λ f. bind_alike _ _ _ _ (symbol_alike syms.BracketClose refl) (λ u. pure_alike _)))

    quantified_alike : Alike text other (Quantified text L) (Quantified other M)
    quantified_alike = bind_alike _ _ _ _ quantifier_alike (λ q. bind_alike _ _ _ _ named_alike (λ a. bind_alike _ _ _ _ (word_alike keywords.In refl) (λ t. bind_alike _ _ _ _ collection_alike (λ c. bind_alike _ _ _ _ (symbol_alike syms.Colon refl) (λ u. bind_alike L M _ _ s (λ f. pure_alike _))))))

    conjunction_alike : Alike text other (Conjunction L) (Conjunction M)
    conjunction_alike = placed_alike _ _ and_of (chain_alike L M (word keywords.And) refl s)

    behind_alike : (k : Keyword) → has (word k) (class_of (kinds.Word keywords.End)) ≡ false → Alike text other (Behind (word k) L) (Behind (word k) M)
    behind_alike k n = opt_alike _ _ None (bind_alike _ _ _ _ (word_alike k n) (λ t. bind_alike L M _ _ s (λ g. pure_alike _)))

  disjunction_alike : (L M : Lang FormulaTree) → Alike text other L M → Alike text other (Disjunction L) (Disjunction M)
  disjunction_alike L M s = placed_alike _ _ or_of (chain_alike _ _ (word keywords.Or) refl (conjunction_alike L M s))

  implication_alike : (L M : Lang FormulaTree) → Alike text other L M → Alike text other (Implication L) (Implication M)
  implication_alike L M s = placed_alike _ _ implication_of (bind_alike _ _ _ _ (disjunction_alike L M s) (λ f. bind_alike _ _ _ _ (behind_alike (Disjunction L) (Disjunction M) (disjunction_alike L M s) keywords.Implies refl) (λ g. pure_alike _)))

  formula_over_alike : (L M : Lang FormulaTree) → Alike text other L M → Alike text other (FormulaOver L) (FormulaOver M)
  formula_over_alike L M s = placed_alike _ _ equivalence_of (bind_alike _ _ _ _ (implication_alike L M s) (λ f. bind_alike _ _ _ _ (behind_alike (Implication L) (Implication M) (implication_alike L M s) keywords.Iff refl) (λ g. pure_alike _)))

  unary_over_alike : (L M N L' M' N' : Lang FormulaTree) (A A' : Lang (List ArgumentTree)) (E E' : Lang ExprTree) → Alike text other L L' → Alike text other M M' → Alike text other A A' → Alike text other N N'
      → Alike text other E E' → Alike text other (UnaryOver text L M A N E) (UnaryOver other L' M' A' N' E')
  unary_over_alike L M N L' M' N' A A' E E' l m a n e = either_alike _ _ _ _ true_alike (either_alike _ _ _ _ false_alike (either_alike _ _ _ _ l (either_alike _ _ _ _ m
      (either_alike _ _ _ _ (bind_alike _ _ _ _ (symbol_alike syms.At refl) (λ t. bind_alike _ _ _ _ named_alike (λ b. bind_alike A A' _ _ a (λ es. pure_alike _)))) (either_alike _ _ _ _ n (comparison_alike E E' e))))))

  unary_alike : (n : ℕ) → Alike text other (Unary text n) (Unary other n)
  unfolding Unary
  unary_alike zero = unary_over_alike _ _ _ _ _ _ _ _ _ _ (cut_alike (word keywords.Not) refl) (cut_alike (symbol syms.BracketOpen) refl) (args_alike zero) (cut_alike quantifiers refl) (expr_alike zero)
  unary_alike (suc n) = unary_over_alike _ _ _ _ _ _ _ _ _ _ (not_alike (Unary text n) (Unary other n) (unary_alike n)) (brackets_alike _ _ (formula_over_alike (Unary text n) (Unary other n) (unary_alike n))) (args_alike (suc n)) (quantified_alike (Unary text n) (Unary other n) (unary_alike n)) (expr_alike (suc n))

  pub formula_alike : (n : ℕ) → Alike text other (FormulaWords text n) (FormulaWords other n)
  unfolding FormulaWords
  formula_alike n = formula_over_alike (Unary text n) (Unary other n) (unary_alike n)
