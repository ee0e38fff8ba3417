-- Each reader of a formula's parts reads its language.
use Rattle.std.proofs.Common.{◌≡◌, ℕ, zero, suc, ◌<◌, ◌-◌, List, [], ◌++◌, Option, Some, None, true, false, refl, sym, ap, ◌∙◌, arith}
use Rattle.geo_tokens.specs.declared.token.Token.{Token}
use Rattle.geo_tokens.specs.declared.token.Kind.TheVariants as kinds
use Rattle.geo_tokens.specs.declared.token.Keyword.TheVariants as keywords
use Rattle.geo_tokens.specs.declared.token.Sym.TheVariants as syms
use Rattle.geo_tokens.specs.Words.{Kinds, word, symbol, Lang, Pure, Tok, Bind, Chain, Placed}
use Rattle.geo_tokens.specs.Reading.{Read, Got, Wrong, ◌>>=◌, token_at, cut_at}
use Rattle.geo_tokens.proofs.Lists.{subset}
use Rattle.geo_tokens.proofs.Good.{Good, one_good, pure_good, bind_good, either_good, opt_good, many_good, placed_good, wider_good}
use Rattle.geo_tokens.proofs.OneToken.{of_kind, number_good, word_good, symbol_good, word_cut_good, symbol_cut_good}
use Rattle.rule_syntax.specs.Marks.{words, rels, quantifiers, factor_firsts, unary_firsts, expr_behinds, conjunction_behinds, disjunction_behinds, implication_behinds, formula_behinds}
use Rattle.rule_syntax.specs.Tree.{ExprTree, ArgumentTree, CollTree, all_objects, FormulaTree, comparison, quantified}
use Rattle.rule_syntax.specs.Grammar.{and_of, or_of, implication_of, equivalence_of, Named, True, False, Not, Brackets, FormulaCall, Quantifier, NameList, Collection, Quantified, Comparison, Conjunction, Behind, FormulaOver, UnaryOver, Unary, FormulaWords}
use Rattle.rule_syntax.specs.Reading.{named_at, expr_at, args_over_at, args_at, true_at, false_at, not_at, brackets_at, formula_call_at, quantifier_at, next_name_at, name_list_at, collection_at, quantified_at, comparison_at, unary_over_at, conjunction_over_at, disjunction_over_at, behind_at, implication_over_at, equivalence_over_at, formula_over_at, unary_at, and_unary_at, conjunction_at, or_conjunction_at, disjunction_at, implication_at, formula_at}
use Rattle.rule_reading.specs.Bound.{range_at, quantified_over_at}
use Rattle.rule_syntax.proofs.Expressions.{named_good, expr_good, args_good}

true_good : Good True true_at false (word keywords.True) []
true_good = bind_good refl (word_good keywords.True) (λ t. pure_good _)

false_good : Good False false_at false (word keywords.False) []
false_good = bind_good refl (word_good keywords.False) (λ t. pure_good _)

formula_call_good : (text : List ℕ) {L : Lang (List ArgumentTree)} {r : List Token → Read (List ArgumentTree)} → Good L r false (symbol syms.ParenOpen) [] → Good (FormulaCall text L) (formula_call_at text r) false (symbol syms.At) []
formula_call_good text l = bind_good refl (symbol_good syms.At) (λ t. bind_good refl (named_good text) (λ a. bind_good refl l (λ es. pure_good _)))

-- ---- quantifiers

pub quantifier_good : Good Quantifier quantifier_at false quantifiers []
quantifier_good = either_good refl
    (bind_good refl (one_good (words keywords.ForAll keywords.Exists) _ (of_kind (kinds.Word keywords.ForAll)) refl) (λ t. pure_good _))
    (bind_good refl (one_good (words keywords.AtLeast keywords.AtMost) _ (of_kind (kinds.Word keywords.AtLeast)) refl) (λ t. bind_good refl number_good (λ m. pure_good _)))

module _ (text : List ℕ) where
  pub next_name_good : Good (Bind (Tok (symbol syms.Comma)) (λ mark. Named text)) (next_name_at text) false (symbol syms.Comma) []
  next_name_good = bind_good refl (symbol_good syms.Comma) (λ mark. named_good text)

  name_list_good : Good (NameList text) (name_list_at text) false (symbol syms.ParenOpen) []
  name_list_good = bind_good refl (symbol_good syms.ParenOpen) (λ t. bind_good refl (bind_good refl (named_good text) (λ a. bind_good refl (many_good refl next_name_good) (λ others. pure_good _))) (λ c. bind_good refl (symbol_good syms.ParenClose) (λ u. pure_good _)))

  collection_good : Good (Collection text) (collection_at text) false (word keywords.Objects ++ word keywords.Boxes) (symbol syms.ParenOpen)
  collection_good = either_good refl
      (bind_good refl (word_good keywords.Objects) (λ t. opt_good all_objects name_list_good))
      (bind_good refl (word_good keywords.Boxes) (λ t. bind_good refl (word_good keywords.Of) (λ u. bind_good refl (named_good text) (λ a. pure_good _))))

-- ---- a quantified formula in two parts

grouped : {A B C : Type 0} (r : Read A) (f : A → List Token → Read B) (g : B → List Token → Read C) (h : A → List Token → Read C)
    → ((a : A) (rest : List Token) → (f a rest >>= g) ≡ h a rest) → ((r >>= f) >>= g) ≡ (r >>= h)
grouped (Got (Some a) rest) f g h k = k a rest
grouped (Got None rest) f g h k = refl
grouped (Wrong rest) f g h k = refl

module _ (text : List ℕ) (inner : List Token → Read FormulaTree) where
  quantified_is : (w : List Token) → quantified_over_at text inner w ≡ quantified_at text inner w
  quantified_is w =
      grouped (quantifier_at w) _ _ _ (λ q v. grouped (named_at text v) _ _ _ (λ a x.
      grouped (range_at text x) _ _ (λ (c : CollTree) (last : List Token). inner last >>= λ f end. Got (Some (quantified q.0 q.1 a c f)) end) (λ c last. refl)
      ∙ grouped (token_at (word keywords.In) x) _ _ _ (λ t y. grouped (collection_at text y) _ _ _ (λ c z. grouped (token_at (symbol syms.Colon) z) _ _ _ (λ u r. refl)))))

-- ---- over unaries

module _ (unary : Lang FormulaTree) (at : List Token → Read FormulaTree) (inner : Good unary at false unary_firsts expr_behinds) where
  not_good : Good (Not unary) (not_at at) false (word keywords.Not) expr_behinds
  not_good = bind_good refl (word_good keywords.Not) (λ t. bind_good refl inner (λ f. pure_good _))

  quantified_good : (text : List ℕ) → Good (Quantified text unary) (quantified_at text at) false quantifiers expr_behinds
  quantified_good text = bind_good refl quantifier_good (λ q. bind_good refl (named_good text) (λ a. bind_good refl (word_good keywords.In) (λ t. bind_good refl (collection_good text) (λ c. bind_good refl (symbol_good syms.Colon) (λ u. bind_good refl inner (λ f. pure_good _))))))

  pub and_unary_over_good : Good (Bind (Tok (word keywords.And)) (λ mark. unary)) (λ w. token_at (word keywords.And) w >>= λ mark rest. at rest) false (word keywords.And) expr_behinds
  and_unary_over_good = bind_good refl (word_good keywords.And) (λ mark. inner)

  pub conjunction_over_good : Good (Conjunction unary) (conjunction_over_at at) false unary_firsts conjunction_behinds
  conjunction_over_good = placed_good and_of (wider_good unary_firsts conjunction_behinds refl refl refl
      (bind_good refl inner (λ a. bind_good refl (many_good refl and_unary_over_good) (λ others. pure_good _))))

module _ (conj : Lang FormulaTree) (at : List Token → Read FormulaTree) (inner : Good conj at false unary_firsts conjunction_behinds) where
  or_conjunction_over_good : Good (Bind (Tok (word keywords.Or)) (λ mark. conj)) (λ w. token_at (word keywords.Or) w >>= λ mark rest. at rest) false (word keywords.Or) conjunction_behinds
  or_conjunction_over_good = bind_good refl (word_good keywords.Or) (λ mark. inner)

  disjunction_over_good : Good (Placed (Chain conj (word keywords.Or)) or_of) (disjunction_over_at at) false unary_firsts disjunction_behinds
  disjunction_over_good = placed_good or_of (wider_good unary_firsts disjunction_behinds refl refl refl
      (bind_good refl inner (λ a. bind_good refl (many_good refl or_conjunction_over_good) (λ others. pure_good _))))

module _ (disj : Lang FormulaTree) (at : List Token → Read FormulaTree) (inner : Good disj at false unary_firsts disjunction_behinds) where
  implied_good : Good (Behind (word keywords.Implies) disj) (behind_at (word keywords.Implies) at) true (word keywords.Implies) (word keywords.Implies ++ disjunction_behinds)
  implied_good = opt_good None (bind_good refl (word_good keywords.Implies) (λ t. bind_good refl inner (λ g. pure_good _)))

  implication_over_good : Good (Placed {A = FormulaTree × Option FormulaTree} (Bind disj (λ f. Bind (Behind (word keywords.Implies) disj) (λ g. Pure (f, g)))) implication_of) (implication_over_at at) false unary_firsts implication_behinds
  implication_over_good = placed_good implication_of (wider_good unary_firsts implication_behinds refl refl refl (bind_good refl inner (λ f. bind_good refl implied_good (λ g. pure_good _))))

module _ (imp : Lang FormulaTree) (at : List Token → Read FormulaTree) (inner : Good imp at false unary_firsts implication_behinds) where
  equivalent_good : Good (Behind (word keywords.Iff) imp) (behind_at (word keywords.Iff) at) true (word keywords.Iff) (word keywords.Iff ++ implication_behinds)
  equivalent_good = opt_good None (bind_good refl (word_good keywords.Iff) (λ t. bind_good refl inner (λ g. pure_good _)))

  equivalence_over_good : Good (Placed {A = FormulaTree × Option FormulaTree} (Bind imp (λ f. Bind (Behind (word keywords.Iff) imp) (λ g. Pure (f, g)))) equivalence_of) (equivalence_over_at at) false unary_firsts formula_behinds
  equivalence_over_good = placed_good equivalence_of (wider_good unary_firsts formula_behinds refl refl refl (bind_good refl inner (λ f. bind_good refl equivalent_good (λ g. pure_good _))))

-- a formula over unaries
formula_over_good : (unary : Lang FormulaTree) (at : List Token → Read FormulaTree) → Good unary at false unary_firsts expr_behinds → Good (FormulaOver unary) (formula_over_at at) false unary_firsts formula_behinds
formula_over_good unary at inner = equivalence_over_good _ _ (implication_over_good _ _ (disjunction_over_good _ _ (conjunction_over_good unary at inner)))

module _ (formula : Lang FormulaTree) (at : List Token → Read FormulaTree) (inner : Good formula at false unary_firsts formula_behinds) where
  brackets_good : Good (Brackets formula) (brackets_at at) false (symbol syms.BracketOpen) []
  brackets_good = bind_good refl (symbol_good syms.BracketOpen) (λ t. bind_good refl inner (λ f. bind_good refl (symbol_good syms.BracketClose) (λ u. pure_good _)))

module _ (expr : Lang ExprTree) (at : List Token → Read ExprTree) (inner : Good expr at false factor_firsts expr_behinds) where
  comparison_good : Good (Comparison expr) (comparison_at at) false factor_firsts expr_behinds
  comparison_good = placed_good (λ p x. comparison p x.0 x.1 x.2) (bind_good refl inner (λ a. bind_good refl (one_good rels _ (of_kind (kinds.Symbol syms.Less)) refl) (λ t. bind_good refl inner (λ b. pure_good _))))

module _ (text : List ℕ) where
  unary_over_good : {L M N : Lang FormulaTree} {A : Lang (List ArgumentTree)} {E : Lang ExprTree} {r s t : List Token → Read FormulaTree} {u : List Token → Read (List ArgumentTree)} {x : List Token → Read ExprTree} (a b : Kinds)
      → subset a expr_behinds ≡ true → subset b expr_behinds ≡ true → Good L r false (word keywords.Not) a → Good M s false (symbol syms.BracketOpen) [] → Good A u false (symbol syms.ParenOpen) [] → Good N t false quantifiers b → Good E x false factor_firsts expr_behinds
      → Good (UnaryOver text L M A N E) (unary_over_at text r s u t x) false unary_firsts expr_behinds
  unary_over_good a b i j l m args n e = wider_good unary_firsts expr_behinds refl refl refl
      (either_good refl true_good (either_good refl false_good (either_good refl (wider_good (word keywords.Not) expr_behinds refl refl i l) (either_good refl m (either_good refl (formula_call_good text args) (either_good refl (wider_good quantifiers expr_behinds refl refl j n) (comparison_good _ _ e)))))))

  pub unary_good : (n : ℕ) → Good (Unary text n) (unary_at text n) false unary_firsts expr_behinds
  unfolding Unary unary_at
  unary_good zero = unary_over_good [] [] refl refl (word_cut_good keywords.Not) (symbol_cut_good syms.BracketOpen) (args_good text zero) (one_good quantifiers _ (of_kind (kinds.Word keywords.ForAll)) refl) (expr_good text zero)
  unary_good (suc n) = unary_over_good expr_behinds expr_behinds refl refl (not_good (Unary text n) (unary_at text n) (unary_good n)) (brackets_good _ _ (formula_over_good (Unary text n) (unary_at text n) (unary_good n))) (args_good text (suc n)) (quantified_good (Unary text n) (unary_at text n) (unary_good n) text) (expr_good text (suc n))

  pub and_unary_good : (n : ℕ) → Good (Bind (Tok (word keywords.And)) (λ mark. Unary text n)) (and_unary_at text n) false (word keywords.And) expr_behinds
  and_unary_good n = bind_good refl (word_good keywords.And) (λ mark. unary_good n)

  conjunction_good : (n : ℕ) → Good (Conjunction (Unary text n)) (conjunction_at text n) false unary_firsts conjunction_behinds
  unfolding conjunction_at
  conjunction_good n = conjunction_over_good (Unary text n) (unary_at text n) (unary_good n)

  pub or_conjunction_good : (n : ℕ) → Good (Bind (Tok (word keywords.Or)) (λ mark. Conjunction (Unary text n))) (or_conjunction_at text n) false (word keywords.Or) conjunction_behinds
  or_conjunction_good n = bind_good refl (word_good keywords.Or) (λ mark. conjunction_good n)

  pub formula_good : (n : ℕ) → Good (FormulaWords text n) (formula_at text n) false unary_firsts formula_behinds
  unfolding FormulaWords formula_at implication_at disjunction_at conjunction_at
  formula_good n = formula_over_good (Unary text n) (unary_at text n) (unary_good n)

  -- ---- what opens a level, over what n levels may be opened in

  pub not_is_good : (n : ℕ) → Good (Not (Unary text n)) (not_at (unary_at text n)) false (word keywords.Not) expr_behinds
  not_is_good n = not_good (Unary text n) (unary_at text n) (unary_good n)

  pub brackets_is_good : (n : ℕ) → Good (Brackets (FormulaOver (Unary text n))) (brackets_at (formula_over_at (unary_at text n))) false (symbol syms.BracketOpen) []
  brackets_is_good n = brackets_good _ _ (formula_over_good (Unary text n) (unary_at text n) (unary_good n))

  pub quantified_is_good : (n : ℕ) → Good (Quantified text (Unary text n)) (quantified_at text (unary_at text n)) false quantifiers expr_behinds
  quantified_is_good n = quantified_good (Unary text n) (unary_at text n) (unary_good n) text

  -- ---- where a level may be opened, and where none may

  pub unary_flat : (n : ℕ) (w : List Token) → n ≡ 0 → unary_at text n w ≡ unary_over_at text (cut_at (word keywords.Not)) (cut_at (symbol syms.BracketOpen)) (args_at text 0) (cut_at quantifiers) (expr_at text 0) w
  unfolding unary_at
  unary_flat n w e = ap (λ m. unary_at text m w) e

  pub unary_nested : (n : ℕ) (w : List Token) → 0 < n
      → unary_at text n w ≡ unary_over_at text (not_at (unary_at text (n - 1))) (brackets_at (formula_at text (n - 1))) (args_at text n) (quantified_over_at text (unary_at text (n - 1))) (expr_at text n) w
  unfolding unary_at formula_at implication_at disjunction_at conjunction_at
  unary_nested n w h =
      let e : n ≡ suc (n - 1) = omega arith in
      ap (λ m. unary_at text m w) e
      ∙ ap (λ m. unary_over_at text (not_at (unary_at text (n - 1))) (brackets_at (formula_at text (n - 1))) (args_at text m) (quantified_at text (unary_at text (n - 1))) (expr_at text m) w) (sym e)
      ∙ ap (λ (r : Read FormulaTree). unary_over_at text (not_at (unary_at text (n - 1))) (brackets_at (formula_at text (n - 1))) (args_at text n) (λ v. r) (expr_at text n) w) (sym (quantified_is text (unary_at text (n - 1)) w))

  pub args_flat : (n : ℕ) (w : List Token) → n ≡ 0 → args_at text n w ≡ cut_at (symbol syms.ParenOpen) w
  unfolding args_at
  args_flat n w e = ap (λ m. args_at text m w) e

  pub args_nested : (n : ℕ) (w : List Token) → 0 < n → args_at text n w ≡ args_over_at (expr_at text (n - 1)) w
  unfolding args_at
  args_nested n w h = let e : n ≡ suc (n - 1) = omega arith in ap (λ m. args_at text m w) e
