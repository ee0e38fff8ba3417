-- The canonical spelling of a formula spells it again, places aside, and opens no more levels than the spelling that was read.
use Rattle.std.proofs.Common.{◌≡◌, ℕ, zero, suc, ◌≤◌, List, [], ◌∷◌, ◌++◌, map, Option, Some, None, refl, sym, ap, ◌∙◌, true}
use Rattle.std.proofs.lemmas.List.{append-nil}
use Rattle.geo_tokens.specs.declared.token.Kind.{Kind}
use Rattle.geo_tokens.specs.declared.token.Kind.TheVariants as kinds
use Rattle.geo_tokens.specs.declared.token.Keyword.{Keyword}
use Rattle.geo_tokens.specs.declared.token.Keyword.TheVariants as keywords
use Rattle.geo_tokens.specs.declared.token.Sym.TheVariants as syms
use Rattle.geo_tokens.specs.Class.{class_of, number_in}
use Rattle.geo_tokens.specs.Names.{IsNameText}
use Rattle.geo_tokens.specs.Words.{has, numbers, word, symbol, Lang, both, not_there}
use Rattle.rule_syntax.specs.declared.tree.PlacedName.{PlacedName}
use Rattle.rule_syntax.specs.declared.tree.Rel.{Rel}
use Rattle.rule_syntax.specs.declared.tree.Rel.TheVariants.{Lt, Le, Eq, Ne, Ge, Gt}
use Rattle.rule_syntax.specs.declared.tree.QuantKind.{QuantKind}
use Rattle.rule_syntax.specs.declared.tree.QuantKind.TheVariants.{ForAll, Exists, AtLeast, AtMost}
use Rattle.rule_print.specs.declared.rank.ExprRank.TheVariants as expr_ranks
use Rattle.rule_print.specs.declared.rank.FormulaRank.{FormulaRank}
use Rattle.rule_print.specs.declared.rank.FormulaRank.TheVariants as ranks
use Rattle.rule_syntax.specs.Marks.{words, rels}
use Rattle.rule_syntax.specs.Tree.{ExprTree, ArgumentTree, arguments, CollTree, all_objects, listed, boxes_of, FormulaTree, truth, falsehood, negation, all_of, any_of, implication, equivalence, comparison, quantified, formula_call, a_formula, formulas}
use Rattle.rule_syntax.specs.Grammar.{rel_in, each_in, count_in, and_of, or_of, implication_of, equivalence_of, Named, Args, ExprOver, Factor, ExprWords, ArgsWords, True, False, Not, Brackets, FormulaCall, Quantifier, NameList, Collection, Quantified, Comparison, Conjunction, Disjunction, Implication, FormulaOver, Unary}
use Rattle.rule_print.specs.Canonical.{Written, name}
use Rattle.rule_print.specs.Canonical.{number as digits, word as a_word, symbol as a_symbol}
use Rattle.rule_print.specs.Spelled.{in_list, expr_spelling, arguments_spelling, rel_symbol, quantifier_spelling, names_spelling, more_names_spelling, coll_spelling, formula_spelling, operands_spelling, more_operands_spelling, bare_name, bare_coll, bare_formula, bare_formulas}
use Rattle.rule_reading.proofs.Limits.{unary_step, conjunction_step, disjunction_step, implication_step, formula_over_step}
use Rattle.rule_print.proofs.ShownTokens.{written_append}
use Rattle.rule_print.proofs.Respelled.{Again, Respelled, tok_again, named_again, bind_again, last_again, left_again, right_again, there_again, missing_again, placed_again, raised_again, AllOf, Each, joined, chain_again}
use Rattle.rule_print.proofs.ExpressionsAgain.{ExprIn, SameExpr, ArgumentAgain, args_again, closed, closing, same_name, respelled_as}

-- the languages of unaries, conjunctions, disjunctions, implications and formulas, where n levels may be opened
abbrev pub UnaryIn : ℕ → List ℕ → Lang FormulaTree
UnaryIn n text = Unary text n

abbrev pub ConjunctionIn : ℕ → List ℕ → Lang FormulaTree
ConjunctionIn n text = Conjunction (Unary text n)

abbrev pub DisjunctionIn : ℕ → List ℕ → Lang FormulaTree
DisjunctionIn n text = Disjunction (Unary text n)

abbrev pub ImplicationIn : ℕ → List ℕ → Lang FormulaTree
ImplicationIn n text = Implication (Unary text n)

abbrev pub FormulaIn : ℕ → List ℕ → Lang FormulaTree
FormulaIn n text = FormulaOver (Unary text n)

-- the same, places aside
abbrev pub SameFormula : FormulaTree → FormulaTree → Type 0
SameFormula f x = bare_formula x ≡ bare_formula f

abbrev pub SameColl : CollTree → CollTree → Type 0
SameColl c x = bare_coll x ≡ bare_coll c

-- ---- lists

formulas_same : (fs xs : List FormulaTree) → Each SameFormula fs xs → bare_formulas (formulas xs) ≡ bare_formulas (formulas fs)
formulas_same [] [] h = refl
formulas_same [] (x ∷ xs) h = absurd h
formulas_same (f ∷ fs) [] h = absurd h
formulas_same (f ∷ fs) (x ∷ xs) h = λ i. a_formula (h.0 i) (formulas_same fs xs h.1 i)

operands_joined : (w : Keyword) (r : FormulaRank) (fs : List FormulaTree) → joined (λ f. a_word w ∷ formula_spelling r f) fs ≡ more_operands_spelling w r (formulas fs)
operands_joined w r [] = refl
operands_joined w r (f ∷ fs) = ap (λ (u : List Written). a_word w ∷ (formula_spelling r f ++ u)) (operands_joined w r fs)

abbrev pub SameNamed : PlacedName → PlacedName → Type 0
SameNamed a x = x.name ≡ a.name

names_same : (ns xs : List PlacedName) → Each SameNamed ns xs → map bare_name xs ≡ map bare_name ns
names_same [] [] h = refl
names_same [] (x ∷ xs) h = absurd h
names_same (a ∷ ns) [] h = absurd h
names_same (a ∷ ns) (x ∷ xs) h = λ i. same_name x a h.0 i ∷ names_same ns xs h.1 i

names_joined : (ns : List PlacedName) → joined (λ a. a_symbol syms.Comma ∷ name a.name ∷ []) ns ≡ more_names_spelling ns
names_joined [] = refl
names_joined (a ∷ ns) = ap (λ (u : List Written). a_symbol syms.Comma ∷ name a.name ∷ u) (names_joined ns)

-- ---- each alternative of a unary

module _ {P : FormulaTree → Type 0} {ps : List Written} where
  in_true : (n : ℕ) → Again (λ text. True) P ps → Again (UnaryIn n) P ps
  unfolding Unary
  in_true zero l = left_again l
  in_true (suc n) l = left_again l

  in_false : (n : ℕ) → Again (λ text. False) P ps → Again (UnaryIn n) P ps
  unfolding Unary
  in_false zero l = right_again (left_again l)
  in_false (suc n) l = right_again (left_again l)

  in_not : (n : ℕ) → Again (λ text. Not (Unary text n)) P ps → Again (UnaryIn (suc n)) P ps
  unfolding Unary
  in_not n l = right_again (right_again (left_again l))

  in_brackets : (n : ℕ) → Again (λ text. Brackets (FormulaOver (Unary text n))) P ps → Again (UnaryIn (suc n)) P ps
  unfolding Unary
  in_brackets n l = right_again (right_again (right_again (left_again l)))

  in_call : (n : ℕ) → Again (λ text. FormulaCall text (Args (ExprOver (Factor text n)))) P ps → Again (UnaryIn (suc n)) P ps
  unfolding Unary ArgsWords ExprWords
  in_call n l = right_again (right_again (right_again (right_again (left_again l))))

  in_quantified : (n : ℕ) → Again (λ text. Quantified text (Unary text n)) P ps → Again (UnaryIn (suc n)) P ps
  unfolding Unary
  in_quantified n l = right_again (right_again (right_again (right_again (right_again (left_again l)))))

  in_comparison : (n : ℕ) → Again (λ text. Comparison (ExprOver (Factor text n))) P ps → Again (UnaryIn n) P ps
  unfolding Unary ExprWords
  in_comparison zero l = right_again (right_again (right_again (right_again (right_again (right_again l)))))
  in_comparison (suc n) l = right_again (right_again (right_again (right_again (right_again (right_again l)))))

  -- ---- one alone is a chain of one

  as_conjunction : (n : ℕ) → Respelled (UnaryIn n) P ps → Respelled (ConjunctionIn n) P ps
  as_conjunction n h = record {
    good = h.good;
    again = record { reads = λ text v st. (let x = h.again.reads text v st in (x.0, (Some (x.0, []), both x.0 v [] x.1 (both [] [] [] (0, (refl, refl)) (refl, refl) refl) (sym (append-nil v)), refl), x.2)) };
  }

  as_disjunction : (n : ℕ) → Respelled (ConjunctionIn n) P ps → Respelled (DisjunctionIn n) P ps
  as_disjunction n h = record {
    good = h.good;
    again = record { reads = λ text v st. (let x = h.again.reads text v st in (x.0, (Some (x.0, []), both x.0 v [] x.1 (both [] [] [] (0, (refl, refl)) (refl, refl) refl) (sym (append-nil v)), refl), x.2)) };
  }

  as_implication : (n : ℕ) → Respelled (DisjunctionIn n) P ps → Respelled (ImplicationIn n) P ps
  as_implication n h = record {
    good = h.good;
    again = record { reads = λ text v st. (let x = h.again.reads text v st in (x.0, (Some (x.0, None), both x.0 v [] x.1 (both None [] [] (not_there refl refl) (refl, refl) refl) (sym (append-nil v)), refl), x.2)) };
  }

  as_formula : (n : ℕ) → Respelled (ImplicationIn n) P ps → Respelled (FormulaIn n) P ps
  as_formula n h = record {
    good = h.good;
    again = record { reads = λ text v st. (let x = h.again.reads text v st in (x.0, (Some (x.0, None), both x.0 v [] x.1 (both None [] [] (not_there refl refl) (refl, refl) refl) (sym (append-nil v)), refl), x.2)) };
  }

  -- ---- one level more

  raised_unary : (n : ℕ) → Respelled (UnaryIn n) P ps → Respelled (UnaryIn (suc n)) P ps
  raised_unary n h = record { good = h.good; again = raised_again h.again (λ text. (unary_step text n).above.raise) }

  raised_conjunction : (n : ℕ) → Respelled (ConjunctionIn n) P ps → Respelled (ConjunctionIn (suc n)) P ps
  raised_conjunction n h = record { good = h.good; again = raised_again h.again (λ text. (conjunction_step (Unary text n) (Unary text (suc n)) (unary_step text n)).above.raise) }

  raised_disjunction : (n : ℕ) → Respelled (DisjunctionIn n) P ps → Respelled (DisjunctionIn (suc n)) P ps
  raised_disjunction n h = record { good = h.good; again = raised_again h.again (λ text. (disjunction_step (Unary text n) (Unary text (suc n)) (unary_step text n)).above.raise) }

  raised_implication : (n : ℕ) → Respelled (ImplicationIn n) P ps → Respelled (ImplicationIn (suc n)) P ps
  raised_implication n h = record { good = h.good; again = raised_again h.again (λ text. (implication_step (Unary text n) (Unary text (suc n)) (unary_step text n)).above.raise) }

  pub raised_formula : (n : ℕ) → Respelled (FormulaIn n) P ps → Respelled (FormulaIn (suc n)) P ps
  raised_formula n h = record { good = h.good; again = raised_again h.again (λ text. (formula_over_step (Unary text n) (Unary text (suc n)) (unary_step text n)).above.raise) }

pub truth_again : (n p : ℕ) → Respelled (UnaryIn n) (SameFormula (truth p)) (a_word keywords.True ∷ [])
truth_again n p = record { good = (tt, tt); again = in_true n (last_again (λ t. truth t.start) (tok_again (word keywords.True) (a_word keywords.True) refl) (λ t k. refl)) }

pub falsehood_again : (n p : ℕ) → Respelled (UnaryIn n) (SameFormula (falsehood p)) (a_word keywords.False ∷ [])
falsehood_again n p = record { good = (tt, tt); again = in_false n (last_again (λ t. falsehood t.start) (tok_again (word keywords.False) (a_word keywords.False) refl) (λ t k. refl)) }

pub negation_again : (n p : ℕ) (f : FormulaTree) → Respelled (UnaryIn n) (SameFormula f) (formula_spelling ranks.Unary f) → Respelled (UnaryIn (suc n)) (SameFormula (negation p f)) (a_word keywords.Not ∷ formula_spelling ranks.Unary f)
negation_again n p f h = record {
  good = (tt, h.good);
  again = in_not n (bind_again (tok_again (word keywords.Not) (a_word keywords.Not) refl) (λ t k. last_again (λ x. negation t.start x) h.again (λ x ex. ap (negation 0) ex)));
}

abbrev bracketed_list : List Written → List Written
bracketed_list ps = a_symbol syms.BracketOpen ∷ (ps ++ a_symbol syms.BracketClose ∷ [])

brackets_again : (n : ℕ) (f : FormulaTree) (ps : List Written) → Respelled (FormulaIn n) (SameFormula f) ps → Respelled (UnaryIn (suc n)) (SameFormula f) (bracketed_list ps)
brackets_again n f ps h = record {
  good = (tt, written_append ps (a_symbol syms.BracketClose ∷ []) h.good (tt, tt));
  again = in_brackets n (bind_again (tok_again (symbol syms.BracketOpen) (a_symbol syms.BracketOpen) refl) (λ t k. bind_again h.again (λ x ex.
      last_again (λ u. x) (tok_again (symbol syms.BracketClose) (a_symbol syms.BracketClose) refl) (λ u j. ex))));
}

pub call_again : (n p : ℕ) (a : PlacedName) (es : List ArgumentTree) → IsNameText a.name → AllOf (ArgumentAgain n) es
    → Respelled (UnaryIn (suc n)) (SameFormula (formula_call p a (arguments es))) (a_symbol syms.At ∷ name a.name ∷ in_list (arguments_spelling (arguments es)))
call_again n p a es g h =
    let l = args_again n es h in
    record {
      good = (tt, (g, l.good));
      again = in_call n (bind_again (tok_again (symbol syms.At) (a_symbol syms.At) refl) (λ t k. bind_again (named_again a.name) (λ x ex.
          last_again (λ xs. formula_call t.start x (arguments xs)) l.again (λ xs same. (λ i. formula_call 0 (same_name x a ex i) (same i))))));
    }

-- ---- comparisons

rel_has : (r : Rel) → has rels (class_of (kinds.Symbol (rel_symbol r))) ≡ true
rel_has Lt = refl
rel_has Le = refl
rel_has Eq = refl
rel_has Ne = refl
rel_has Ge = refl
rel_has Gt = refl

rel_back : (r : Rel) → rel_in (kinds.Symbol (rel_symbol r)) ≡ r
rel_back Lt = refl
rel_back Le = refl
rel_back Eq = refl
rel_back Ne = refl
rel_back Ge = refl
rel_back Gt = refl

pub comparison_again : (n p : ℕ) (a : ExprTree) (r : Rel) (b : ExprTree) → Respelled (ExprIn n) (SameExpr a) (expr_spelling expr_ranks.Sum a) → Respelled (ExprIn n) (SameExpr b) (expr_spelling expr_ranks.Sum b)
    → Respelled (UnaryIn n) (SameFormula (comparison p a r b)) (expr_spelling expr_ranks.Sum a ++ a_symbol (rel_symbol r) ∷ expr_spelling expr_ranks.Sum b)
comparison_again n p a r b ha hb = record {
  good = written_append (expr_spelling expr_ranks.Sum a) (a_symbol (rel_symbol r) ∷ expr_spelling expr_ranks.Sum b) ha.good (tt, hb.good);
  again = in_comparison n (placed_again {P = λ x. SameExpr a x.0 × (x.1 ≡ r) × SameExpr b x.2} (λ m x. comparison m x.0 x.1 x.2)
      (bind_again ha.again (λ x ex. bind_again (tok_again rels (a_symbol (rel_symbol r)) (rel_has r)) (λ t k. last_again (λ y. (x, rel_in t.kind, y)) hb.again (λ y ey. (ex, ap rel_in k ∙ rel_back r, ey)))))
      (λ m x e. (λ i. comparison 0 (e.0 i) (e.1 i) (e.2 i))));
}

-- ---- quantifiers

-- a count that can be written
abbrev pub IsCount : QuantKind → Type 0
IsCount ForAll = Unit {0}
IsCount Exists = Unit {0}
IsCount (AtLeast n) = n ≤ 1000000000
IsCount (AtMost n) = n ≤ 1000000000

quantifier_again : (k : QuantKind) → IsCount k → Respelled (λ text. Quantifier) (λ q. q.1 ≡ k) (quantifier_spelling k)
quantifier_again ForAll h = record { good = (tt, tt); again = left_again (last_again (λ t. (t.start, each_in t.kind)) (tok_again (words keywords.ForAll keywords.Exists) (a_word keywords.ForAll) refl) (λ t k. ap each_in k)) }
quantifier_again Exists h = record { good = (tt, tt); again = left_again (last_again (λ t. (t.start, each_in t.kind)) (tok_again (words keywords.ForAll keywords.Exists) (a_word keywords.Exists) refl) (λ t k. ap each_in k)) }
quantifier_again (AtLeast n) h = record {
  good = (tt, (h, tt));
  again = right_again (bind_again (tok_again (words keywords.AtLeast keywords.AtMost) (a_word keywords.AtLeast) refl) (λ t k. last_again (λ m. (t.start, count_in t.kind (number_in m.kind))) (tok_again numbers (digits n) refl)
      (λ m j. ap (λ (d : Kind). count_in d (number_in m.kind)) k ∙ ap (λ (d : Kind). AtLeast (number_in d)) j)));
}
quantifier_again (AtMost n) h = record {
  good = (tt, (h, tt));
  again = right_again (bind_again (tok_again (words keywords.AtLeast keywords.AtMost) (a_word keywords.AtMost) refl) (λ t k. last_again (λ m. (t.start, count_in t.kind (number_in m.kind))) (tok_again numbers (digits n) refl)
      (λ m j. ap (λ (d : Kind). count_in d (number_in m.kind)) k ∙ ap (λ (d : Kind). AtMost (number_in d)) j)));
}

abbrev pub CollAgain : CollTree → Type 0
CollAgain c = Respelled Collection (SameColl c) (coll_spelling c)

pub all_again : CollAgain all_objects
all_again = record { good = (tt, tt); again = left_again (bind_again (tok_again (word keywords.Objects) (a_word keywords.Objects) refl) (λ t k. missing_again NameList all_objects refl)) }

abbrev pub NameAgain : PlacedName → Type 0
NameAgain a = Respelled Named (SameNamed a) (name a.name ∷ [])

pub listed_again : (a : PlacedName) (ns : List PlacedName) → AllOf NameAgain (a ∷ ns) → CollAgain (listed (a ∷ ns))
listed_again a ns h =
    let c = chain_again Named SameNamed (λ b. name b.name ∷ []) (symbol syms.Comma) (a_symbol syms.Comma) refl tt a ns h in
    let q : name a.name ∷ joined (λ b. a_symbol syms.Comma ∷ name b.name ∷ []) ns ≡ names_spelling (a ∷ ns) = ap (λ (u : List Written). name a.name ∷ u) (names_joined ns) in
    let d = respelled_as (names_spelling (a ∷ ns)) c q in
    record {
      good = (tt, closed (names_spelling (a ∷ ns)) d.good);
      again = left_again (bind_again (tok_again (word keywords.Objects) (a_word keywords.Objects) refl) (λ t k. there_again all_objects (bind_again (tok_again (symbol syms.ParenOpen) (a_symbol syms.ParenOpen) refl) (λ u j.
          bind_again d.again (λ x ex. closing (listed (x.0 ∷ x.1)) (ap listed (names_same (a ∷ ns) (x.0 ∷ x.1) (ex.0, ex.1))))))));
    }

pub boxes_again : (a : PlacedName) → IsNameText a.name → CollAgain (boxes_of a)
boxes_again a g = record {
  good = (tt, (tt, (g, tt)));
  again = right_again (bind_again (tok_again (word keywords.Boxes) (a_word keywords.Boxes) refl) (λ t k. bind_again (tok_again (word keywords.Of) (a_word keywords.Of) refl) (λ u j. last_again boxes_of (named_again a.name) (λ x ex. ap boxes_of (same_name x a ex)))));
}

pub quantified_again : (n p : ℕ) (k : QuantKind) (v : PlacedName) (c : CollTree) (f : FormulaTree) → IsCount k → IsNameText v.name → CollAgain c → Respelled (UnaryIn n) (SameFormula f) (formula_spelling ranks.Unary f)
    → Respelled (UnaryIn (suc n)) (SameFormula (quantified p k v c f)) (quantifier_spelling k ++ name v.name ∷ a_word keywords.In ∷ (coll_spelling c ++ a_symbol syms.Colon ∷ formula_spelling ranks.Unary f))
quantified_again n p k v c f ck gv hc hf =
    let q = quantifier_again k ck in
    record {
      good = written_append (quantifier_spelling k) (name v.name ∷ a_word keywords.In ∷ (coll_spelling c ++ a_symbol syms.Colon ∷ formula_spelling ranks.Unary f)) q.good
          (gv, (tt, written_append (coll_spelling c) (a_symbol syms.Colon ∷ formula_spelling ranks.Unary f) hc.good (tt, hf.good)));
      again = in_quantified n (bind_again q.again (λ y ey. bind_again (named_again v.name) (λ x ex. bind_again (tok_again (word keywords.In) (a_word keywords.In) refl) (λ t i.
          bind_again hc.again (λ d ed. bind_again (tok_again (symbol syms.Colon) (a_symbol syms.Colon) refl) (λ u j. last_again (λ g. quantified y.0 y.1 x d g) hf.again (λ g eg.
          (λ i. quantified 0 (ey i) (same_name x v ex i) (ed i) (eg i)))))))));
    }

-- ---- chains

and_same : (p m : ℕ) (f x g : FormulaTree) (fs xs : List FormulaTree) → SameFormula f x → Each SameFormula (g ∷ fs) xs → bare_formula (and_of m (x, xs)) ≡ bare_formula (all_of p (formulas (f ∷ g ∷ fs)))
and_same p m f x g fs [] e h = absurd h
and_same p m f x g fs (y ∷ ys) e h = λ i. all_of 0 (a_formula (e i) (formulas_same (g ∷ fs) (y ∷ ys) h i))

and_again : (n p : ℕ) (f g : FormulaTree) (fs : List FormulaTree) → AllOf (λ x. Respelled (UnaryIn n) (SameFormula x) (formula_spelling ranks.Unary x)) (f ∷ g ∷ fs)
    → Respelled (ConjunctionIn n) (SameFormula (all_of p (formulas (f ∷ g ∷ fs)))) (operands_spelling keywords.And ranks.Unary (formulas (f ∷ g ∷ fs)))
and_again n p f g fs h =
    let c = chain_again (UnaryIn n) SameFormula (formula_spelling ranks.Unary) (word keywords.And) (a_word keywords.And) refl tt f (g ∷ fs) h in
    respelled_as (operands_spelling keywords.And ranks.Unary (formulas (f ∷ g ∷ fs))) (record {
      good = c.good;
      again = placed_again and_of c.again (λ m x e. and_same p m f x.0 g fs x.1 e.0 e.1);
    }) (ap (λ (u : List Written). formula_spelling ranks.Unary f ++ u) (operands_joined keywords.And ranks.Unary (g ∷ fs)))

or_same : (p m : ℕ) (f x g : FormulaTree) (fs xs : List FormulaTree) → SameFormula f x → Each SameFormula (g ∷ fs) xs → bare_formula (or_of m (x, xs)) ≡ bare_formula (any_of p (formulas (f ∷ g ∷ fs)))
or_same p m f x g fs [] e h = absurd h
or_same p m f x g fs (y ∷ ys) e h = λ i. any_of 0 (a_formula (e i) (formulas_same (g ∷ fs) (y ∷ ys) h i))

or_again : (n p : ℕ) (f g : FormulaTree) (fs : List FormulaTree) → AllOf (λ x. Respelled (ConjunctionIn n) (SameFormula x) (formula_spelling ranks.Conjunction x)) (f ∷ g ∷ fs)
    → Respelled (DisjunctionIn n) (SameFormula (any_of p (formulas (f ∷ g ∷ fs)))) (operands_spelling keywords.Or ranks.Conjunction (formulas (f ∷ g ∷ fs)))
or_again n p f g fs h =
    let c = chain_again (ConjunctionIn n) SameFormula (formula_spelling ranks.Conjunction) (word keywords.Or) (a_word keywords.Or) refl tt f (g ∷ fs) h in
    respelled_as (operands_spelling keywords.Or ranks.Conjunction (formulas (f ∷ g ∷ fs))) (record {
      good = c.good;
      again = placed_again or_of c.again (λ m x e. or_same p m f x.0 g fs x.1 e.0 e.1);
    }) (ap (λ (u : List Written). formula_spelling ranks.Conjunction f ++ u) (operands_joined keywords.Or ranks.Conjunction (g ∷ fs)))

abbrev SameSome : FormulaTree → Option FormulaTree → Type 0
SameSome g None = ⊥
SameSome g (Some y) = SameFormula g y

implication_same : (p m : ℕ) (f g x : FormulaTree) (o : Option FormulaTree) → SameFormula f x → SameSome g o → bare_formula (implication_of m (x, o)) ≡ bare_formula (implication p f g)
implication_same p m f g x None e h = absurd h
implication_same p m f g x (Some y) e h = λ i. implication 0 (e i) (h i)

implication_again : (n p : ℕ) (f g : FormulaTree) → Respelled (DisjunctionIn n) (SameFormula f) (formula_spelling ranks.Disjunction f) → Respelled (DisjunctionIn n) (SameFormula g) (formula_spelling ranks.Disjunction g)
    → Respelled (ImplicationIn n) (SameFormula (implication p f g)) (formula_spelling ranks.Disjunction f ++ a_word keywords.Implies ∷ formula_spelling ranks.Disjunction g)
implication_again n p f g hf hg = record {
  good = written_append (formula_spelling ranks.Disjunction f) (a_word keywords.Implies ∷ formula_spelling ranks.Disjunction g) hf.good (tt, hg.good);
  again = placed_again {P = λ c. SameFormula f c.0 × SameSome g c.1} implication_of
      (bind_again hf.again (λ x ex. last_again (λ o. (x, o)) (there_again {P = SameSome g} None (bind_again (tok_again (word keywords.Implies) (a_word keywords.Implies) refl) (λ t k. last_again (λ y. Some y) hg.again (λ y ey. ey)))) (λ o eo. (ex, eo))))
      (λ m c e. implication_same p m f g c.0 c.1 e.0 e.1);
}

equivalence_same : (p m : ℕ) (f g x : FormulaTree) (o : Option FormulaTree) → SameFormula f x → SameSome g o → bare_formula (equivalence_of m (x, o)) ≡ bare_formula (equivalence p f g)
equivalence_same p m f g x None e h = absurd h
equivalence_same p m f g x (Some y) e h = λ i. equivalence 0 (e i) (h i)

equivalence_again : (n p : ℕ) (f g : FormulaTree) → Respelled (ImplicationIn n) (SameFormula f) (formula_spelling ranks.Implication f) → Respelled (ImplicationIn n) (SameFormula g) (formula_spelling ranks.Implication g)
    → Respelled (FormulaIn n) (SameFormula (equivalence p f g)) (formula_spelling ranks.Implication f ++ a_word keywords.Iff ∷ formula_spelling ranks.Implication g)
equivalence_again n p f g hf hg = record {
  good = written_append (formula_spelling ranks.Implication f) (a_word keywords.Iff ∷ formula_spelling ranks.Implication g) hf.good (tt, hg.good);
  again = placed_again {P = λ c. SameFormula f c.0 × SameSome g c.1} equivalence_of
      (bind_again hf.again (λ x ex. last_again (λ o. (x, o)) (there_again {P = SameSome g} None (bind_again (tok_again (word keywords.Iff) (a_word keywords.Iff) refl) (λ t k. last_again (λ y. Some y) hg.again (λ y ey. ey)))) (λ o eo. (ex, eo))))
      (λ m c e. equivalence_same p m f g c.0 c.1 e.0 e.1);
}

-- ---- at each place

-- the formula is spelled where a unary, a conjunction, a disjunction, an implication and a formula may stand, with as many
-- levels as say
pub record FormulaAgain (unaries conjunctions disjunctions implications n : ℕ) (f : FormulaTree) : Type 0 where
  pub unary : Respelled (UnaryIn unaries) (SameFormula f) (formula_spelling ranks.Unary f)
  pub conjunction : Respelled (ConjunctionIn conjunctions) (SameFormula f) (formula_spelling ranks.Conjunction f)
  pub disjunction : Respelled (DisjunctionIn disjunctions) (SameFormula f) (formula_spelling ranks.Disjunction f)
  pub implication : Respelled (ImplicationIn implications) (SameFormula f) (formula_spelling ranks.Implication f)
  pub formula : Respelled (FormulaIn n) (SameFormula f) (formula_spelling ranks.Equivalence f)

-- no chain: it is spelled the same at each place
pub alone : (n : ℕ) (f : FormulaTree) (ps : List Written) → Respelled (UnaryIn n) (SameFormula f) ps → ps ≡ formula_spelling ranks.Unary f → ps ≡ formula_spelling ranks.Conjunction f → ps ≡ formula_spelling ranks.Disjunction f
    → ps ≡ formula_spelling ranks.Implication f → ps ≡ formula_spelling ranks.Equivalence f → FormulaAgain n n n n n f
alone n f ps h u c d i e =
    let hc = as_conjunction n h in
    let hd = as_disjunction n hc in
    let hi = as_implication n hd in
    record {
      unary = respelled_as (formula_spelling ranks.Unary f) h u;
      conjunction = respelled_as (formula_spelling ranks.Conjunction f) hc c;
      disjunction = respelled_as (formula_spelling ranks.Disjunction f) hd d;
      implication = respelled_as (formula_spelling ranks.Implication f) hi i;
      formula = respelled_as (formula_spelling ranks.Equivalence f) (as_formula n hi) e;
    }

-- what stands in brackets
pub nested : (n : ℕ) (f : FormulaTree) → FormulaAgain (suc n) (suc n) (suc n) (suc n) n f → FormulaAgain (suc n) (suc n) (suc n) (suc n) (suc n) f
nested n f h = record { unary = h.unary; conjunction = h.conjunction; disjunction = h.disjunction; implication = h.implication; formula = raised_formula n h.formula }

-- a conjunction: a unary, or several
pub and_case : (n p : ℕ) (f : FormulaTree) (fs : List FormulaTree) → FormulaAgain n n n n n f → AllOf (λ x. Respelled (UnaryIn n) (SameFormula x) (formula_spelling ranks.Unary x)) (f ∷ fs) → FormulaAgain (suc n) n n n n (and_of p (f, fs))
and_case n p f [] h us = record { unary = raised_unary n h.unary; conjunction = h.conjunction; disjunction = h.disjunction; implication = h.implication; formula = h.formula }
and_case n p f (g ∷ fs) h us =
    let c = and_again n p f g fs us in
    let d = as_disjunction n c in
    let i = as_implication n d in
    let e = as_formula n i in
    record { unary = brackets_again n (all_of p (formulas (f ∷ g ∷ fs))) (operands_spelling keywords.And ranks.Unary (formulas (f ∷ g ∷ fs))) e; conjunction = c; disjunction = d; implication = i; formula = e }

-- a disjunction: a conjunction, or several
pub or_case : (n p : ℕ) (f : FormulaTree) (fs : List FormulaTree) → FormulaAgain (suc n) n n n n f → AllOf (λ x. Respelled (ConjunctionIn n) (SameFormula x) (formula_spelling ranks.Conjunction x)) (f ∷ fs) → FormulaAgain (suc n) (suc n) n n n (or_of p (f, fs))
or_case n p f [] h cs = record { unary = h.unary; conjunction = raised_conjunction n h.conjunction; disjunction = h.disjunction; implication = h.implication; formula = h.formula }
or_case n p f (g ∷ fs) h cs =
    let d = or_again n p f g fs cs in
    let i = as_implication n d in
    let e = as_formula n i in
    let u = brackets_again n (any_of p (formulas (f ∷ g ∷ fs))) (operands_spelling keywords.Or ranks.Conjunction (formulas (f ∷ g ∷ fs))) e in
    record { unary = u; conjunction = as_conjunction (suc n) u; disjunction = d; implication = i; formula = e }

-- an implication: a disjunction, or two
pub implication_one : (n : ℕ) (f : FormulaTree) → FormulaAgain (suc n) (suc n) n n n f → FormulaAgain (suc n) (suc n) (suc n) n n f
implication_one n f h = record { unary = h.unary; conjunction = h.conjunction; disjunction = raised_disjunction n h.disjunction; implication = h.implication; formula = h.formula }

pub implication_two : (n p : ℕ) (f g : FormulaTree) → FormulaAgain (suc n) (suc n) n n n f → FormulaAgain (suc n) (suc n) n n n g → FormulaAgain (suc n) (suc n) (suc n) n n (implication p f g)
implication_two n p f g hf hg =
    let i = implication_again n p f g hf.disjunction hg.disjunction in
    let e = as_formula n i in
    let u = brackets_again n (implication p f g) (formula_spelling ranks.Disjunction f ++ a_word keywords.Implies ∷ formula_spelling ranks.Disjunction g) e in
    let c = as_conjunction (suc n) u in
    record { unary = u; conjunction = c; disjunction = as_disjunction (suc n) c; implication = i; formula = e }

-- a formula: an implication, or two
pub formula_one : (n : ℕ) (f : FormulaTree) → FormulaAgain (suc n) (suc n) (suc n) n n f → FormulaAgain (suc n) (suc n) (suc n) (suc n) n f
formula_one n f h = record { unary = h.unary; conjunction = h.conjunction; disjunction = h.disjunction; implication = raised_implication n h.implication; formula = h.formula }

pub formula_two : (n p : ℕ) (f g : FormulaTree) → FormulaAgain (suc n) (suc n) (suc n) n n f → FormulaAgain (suc n) (suc n) (suc n) n n g → FormulaAgain (suc n) (suc n) (suc n) (suc n) n (equivalence p f g)
formula_two n p f g hf hg =
    let e = equivalence_again n p f g hf.implication hg.implication in
    let u = brackets_again n (equivalence p f g) (formula_spelling ranks.Implication f ++ a_word keywords.Iff ∷ formula_spelling ranks.Implication g) e in
    let c = as_conjunction (suc n) u in
    let d = as_disjunction (suc n) c in
    record { unary = u; conjunction = c; disjunction = d; implication = as_implication (suc n) d; formula = e }
