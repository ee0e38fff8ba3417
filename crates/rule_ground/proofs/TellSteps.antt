-- What is told of formulas is what grounding gives.
use Rattle.std.proofs.Common.{◌≡◌, ℕ, ◌+◌, ◌-◌, ◌<◌, ◌≤◌, ◌&&◌, Bool, true, false, not, cond, List, [], ◌∷◌, length, get_or, take, drop, pos, ◌-ℤ◌, sym, ap, ◌∙◌, refl, arith, subst}
use Rattle.std.proofs.lemmas.Grind.{common_steps}
use mathlib.Core.Bool.{beq}
use Rattle.std.proofs.lemmas.Int.{ints}
use Rattle.std.proofs.lemmas.Bool.{leb-false, lt-leb}
use Rattle.std.specs.Prelude.{nat_le, Option, None, Some, IfSome}
use Rattle.geo_tokens.specs.declared.fault.FaultWord.TheVariants.{Ground}
use Rattle.problem_data.specs.Problem.{ProblemData}
use Rattle.rule_expand.specs.Counts.{nodes, nodes_in}
use Rattle.rule_expand.specs.Plain.{PlainFormulaTree, truth, falsehood, negation, all_of, any_of, implication, equivalence, comparison, quantified, PlainFormulas, no_formulas, a_formula}
use Rattle.rule_expand.specs.PlainView.{plain_formula_view, plain_formulas_view}
use Rattle.rule_expand.specs.declared.plain.PlainFormula.{PlainFormula}
use Rattle.rule_expand.specs.PlainTruth.{PlainEnv}
use Rattle.linear_conditions.specs.Certain.{IsCertain}
use Rattle.linear_conditions.specs.CondTree.{CondTree}
use Rattle.linear_conditions.specs.Counts.{Counts, Outcome, Fault, Done, allowed, and_then, are_within, either_way, visits, within_limits}
use Rattle.linear_conditions.specs.Fixings.{Fixing}
use Rattle.linear_conditions.specs.Folding.{certain, count_holding, decides, fold_open, joined, still_open}
use Rattle.linear_conditions.proofs.CounterSteps.{within-done}
use Rattle.rule_ground.specs.declared.told.Told.{Told}
use Rattle.rule_ground.specs.Grounding.{ground, ground_operands, in_turn, joined_operands}
use Rattle.rule_ground.proofs.Behind.{then-done}

-- ---- visits behind visits

abbrev behind : ℕ → Counts → Counts
behind n k = record k { visits = k.visits + n }

past : (b r : Bool) (m n : ℕ) → (nat_le m 20000000 && r) ≡ false → (nat_le (m + n) 20000000 && r) ≡ false
past b false m n h = last (nat_le (m + n) 20000000)
  where
    last : (a : Bool) → (a && false) ≡ false
    last true = refl
    last false = refl
past b true m n h = by (nat_le m 20000000) refl h
  where
    by : (a : Bool) → nat_le m 20000000 ≡ a → (a && true) ≡ false → (nat_le (m + n) 20000000 && true) ≡ false
    by true e g = cc
    by false e g =
        let far : 20000000 < m = leb-false m 20000000 e in
        ap (λ a. a && true) (lt-leb (m + n) 20000000 (omega arith))

-- so many visits, and more behind them
more-visits : (m n : ℕ) (k : Counts) (go : Counts → Counts → Outcome CondTree) →
    and_then Counts CondTree (visits m k) (λ j same. and_then Counts CondTree (visits n j) go) ≡ and_then Counts CondTree (visits (m + n) k) go
unfolding allowed and_then
more-visits m n k go = by (are_within (behind m k)) refl
  where
    same : behind n (behind m k) ≡ behind (m + n) k
    same = ap (λ v. record k { visits = v }) (let e : k.visits + m + n ≡ k.visits + (m + n) = omega arith in e)

    stopped : are_within (behind m k) ≡ false → and_then Counts CondTree (visits m k) (λ j same. and_then Counts CondTree (visits n j) go) ≡ and_then Counts CondTree (visits (m + n) k) go
    stopped e =
        ap (λ b. and_then Counts CondTree (cond b (Done (behind m k) (behind m k)) (Fault Ground)) (λ j same. and_then Counts CondTree (visits n j) go)) e
        ∙ sym (ap (λ b. and_then Counts CondTree (cond b (Done (behind (m + n) k) (behind (m + n) k)) (Fault Ground)) go)
        (ap are_within (sym same) ∙ past true (nat_le k.leaves 1000000 && nat_le k.terms 8000000) (k.visits + m) n e))

    by : (b : Bool) → are_within (behind m k) ≡ b → and_then Counts CondTree (visits m k) (λ j same. and_then Counts CondTree (visits n j) go) ≡ and_then Counts CondTree (visits (m + n) k) go
    by true e =
        then-done Counts CondTree (visits m k) (λ j same. and_then Counts CondTree (visits n j) go) (behind m k) (behind m k) (within-done (behind m k) e)
        ∙ ap (λ j. and_then Counts CondTree (within_limits j) go) same
    by false e = stopped e

-- one step, and what is made of its condition
then-then : (A B C : Type 0) (o : Outcome A) (f : A → Counts → Outcome B) (g : B → Counts → Outcome C) → and_then B C (and_then A B o f) g ≡ and_then A C o (λ a k. and_then B C (f a k) g)
unfolding and_then
then-then A B C (Fault w) f g = refl
then-then A B C (Done a k) f g = refl

-- what follows a step that is certain
certain-then : (A : Type 0) (o : Outcome Counts) (c : CondTree) (go : CondTree → Counts → Outcome A) → and_then CondTree A (and_then Counts CondTree o (λ j same. Done c j)) go ≡ and_then Counts A o (λ j same. go c j)
unfolding and_then
certain-then A (Fault w) c go = refl
certain-then A (Done j k) c go = refl

-- ---- how certain conditions come together

one : (all h : Bool) → joined all (certain h ∷ []) ≡ certain h
one true true = refl
one true false = refl
one false true = refl
one false false = refl

two : (all h : Bool) → joined all (certain all ∷ (certain h ∷ [])) ≡ certain h
two true true = refl
two true false = refl
two false true = refl
two false false = refl

-- one that does not decide says nothing
rest : (all : Bool) (cs : List CondTree) → joined all (certain all ∷ cs) ≡ joined all cs
rest true cs = ap (λ z. fold_open z (still_open cs)) (let e : pos (length (certain true ∷ cs)) -ℤ pos (count_holding (certain true ∷ cs)) ≡ pos (length cs) -ℤ pos (count_holding cs) = omega (arith, ints) in e)
rest false cs = ap (λ n. fold_open (pos 1 -ℤ pos n) (still_open cs)) (let e : count_holding (certain false ∷ cs) ≡ count_holding cs = omega arith in e)

going-on : (all : Bool) → decides all (certain all) ≡ false
going-on true = refl
going-on false = refl

deciding : (all h : Bool) → h ≡ not all → decides all (certain h) ≡ true
deciding true true e = cc
deciding true false e = refl
deciding false true e = refl
deciding false false e = cc

-- ---- behind a condition that is certain

first-certain : (A : Type 0) (first : Counts → Outcome CondTree) (go : CondTree → Counts → Outcome A) (n : ℕ) (h : Bool) (k : Counts) → IsCertain first n h →
    and_then CondTree A (first k) go ≡ and_then Counts A (visits n k) (λ j same. go (certain h) j)
first-certain A first go n h k c = ap (λ o. and_then CondTree A o go) (c.gives k) ∙ certain-then A (visits n k) (certain h) go

-- ---- two operands

abbrev turn : Bool → (Counts → Outcome CondTree) → CondTree → Counts → Outcome CondTree
turn all second c j = either_way CondTree (decides all c) (Done (joined all (c ∷ [])) j) (and_then CondTree CondTree (second j) (λ d i. Done (joined all (c ∷ (d ∷ []))) i))

turn-stopped : (all h : Bool) (second : Counts → Outcome CondTree) (j : Counts) → h ≡ not all → turn all second (certain h) j ≡ Done (certain h) j
unfolding either_way
turn-stopped all h second j e =
    ap (λ b. either_way CondTree b (Done (joined all (certain h ∷ [])) j) (and_then CondTree CondTree (second j) (λ d i. Done (joined all (certain h ∷ (d ∷ []))) i))) (deciding all h e)
    ∙ ap (λ c. Done c j) (one all h)

turn-on : (all : Bool) (second : Counts → Outcome CondTree) (n : ℕ) (g : Bool) (j : Counts) → IsCertain second n g →
    turn all second (certain all) j ≡ and_then Counts CondTree (visits n j) (λ i same. Done (certain g) i)
unfolding either_way
turn-on all second n g j c =
    ap (λ b. either_way CondTree b (Done (joined all (certain all ∷ [])) j) (and_then CondTree CondTree (second j) (λ d i. Done (joined all (certain all ∷ (d ∷ []))) i))) (going-on all)
    ∙ first-certain CondTree second (λ d i. Done (joined all (certain all ∷ (d ∷ []))) i) n g j c
    ∙ (λ i. and_then Counts CondTree (visits n j) (λ l same. Done (two all g i) l))

-- the first of two decides
pub turn-told : (all h : Bool) (first second : Counts → Outcome CondTree) (n : ℕ) → h ≡ not all → IsCertain first n h → IsCertain (in_turn all first second) n h
turn-told all h first second n e c = record {
  gives = λ k. first-certain CondTree first (turn all second) n h k c ∙ (λ i. and_then Counts CondTree (visits n k) (λ j same. turn-stopped all h second j e i));
}

-- it does not, and the second says what both say
pub turns-told : (all h g : Bool) (first second : Counts → Outcome CondTree) (m n : ℕ) → h ≡ all → IsCertain first m h → IsCertain second n g → IsCertain (in_turn all first second) (m + n) g
turns-told all h g first second m n e c d = record {
  gives = λ k. first-certain CondTree first (turn all second) m all k (subst (IsCertain first m) e c)
      ∙ (λ i. and_then Counts CondTree (visits m k) (λ j same. turn-on all second n g j d i))
      ∙ more-visits m n k (λ i same. Done (certain g) i);
}

-- ---- operands from the left

module _ (p : ProblemData) (f : PlainFormulaTree) (all sign : Bool) (env : PlainEnv) (fix : List Fixing) where
  abbrev operand : PlainFormulas → CondTree → Counts → Outcome (List CondTree)
  operand rest c j = either_way (List CondTree) (decides all c) (Done (c ∷ []) j) (and_then (List CondTree) (List CondTree) (ground_operands p rest all sign env fix j) (λ cs i. Done (c ∷ cs) i))

  abbrev join : List CondTree → Counts → Outcome CondTree
  join cs j = Done (joined all cs) j

  operand-stopped : (rest : PlainFormulas) (h : Bool) (j : Counts) → h ≡ not all → and_then (List CondTree) CondTree (operand rest (certain h) j) join ≡ Done (certain h) j
  unfolding either_way and_then
  operand-stopped rest h j e =
      ap (λ b. and_then (List CondTree) CondTree (either_way (List CondTree) b (Done (certain h ∷ []) j) (and_then (List CondTree) (List CondTree) (ground_operands p rest all sign env fix j) (λ cs i. Done (certain h ∷ cs) i))) join) (deciding all h e)
      ∙ ap (λ c. Done c j) (one all h)

  operand-last : (h : Bool) (j : Counts) → and_then (List CondTree) CondTree (operand no_formulas (certain h) j) join ≡ Done (certain h) j
  unfolding either_way and_then
  operand-last h j = by (decides all (certain h))
    where
      by : (b : Bool) → and_then (List CondTree) CondTree (either_way (List CondTree) b (Done (certain h ∷ []) j) (Done (certain h ∷ []) j)) join ≡ Done (certain h) j
      by true = ap (λ c. Done c j) (one all h)
      by false = ap (λ c. Done c j) (one all h)

  operand-on : (others : PlainFormulas) (n : ℕ) (g : Bool) (j : Counts) → IsCertain (joined_operands p others all sign env fix) n g →
      and_then (List CondTree) CondTree (operand others (certain all) j) join ≡ and_then Counts CondTree (visits n j) (λ i same. Done (certain g) i)
  unfolding either_way and_then
  operand-on others n g j d =
      ap (λ b. and_then (List CondTree) CondTree (either_way (List CondTree) b (Done (certain all ∷ []) j) (and_then (List CondTree) (List CondTree) (ground_operands p others all sign env fix j) (λ cs i. Done (certain all ∷ cs) i))) join) (going-on all)
      ∙ then-then (List CondTree) (List CondTree) CondTree (ground_operands p others all sign env fix j) (λ cs i. Done (certain all ∷ cs) i) join
      ∙ (λ i. and_then (List CondTree) CondTree (ground_operands p others all sign env fix j) (λ cs l. Done (rest all cs i) l))
      ∙ d.gives j

  operands-are : (others : PlainFormulas) (m : ℕ) (h : Bool) (k : Counts) → IsCertain (ground p f sign env fix) m h →
      joined_operands p (a_formula f others) all sign env fix k ≡ and_then Counts CondTree (visits m k) (λ j same. and_then (List CondTree) CondTree (operand others (certain h) j) join)
  operands-are others m h k c =
      ap (λ o. and_then (List CondTree) CondTree o join) (first-certain (List CondTree) (ground p f sign env fix) (operand others) m h k c)
      ∙ then-then Counts (List CondTree) CondTree (visits m k) (λ j same. operand others (certain h) j) join

  -- the first operand decides
  pub operand-decides : (others : PlainFormulas) (m : ℕ) (h : Bool) → h ≡ not all → IsCertain (ground p f sign env fix) m h → IsCertain (joined_operands p (a_formula f others) all sign env fix) m h
  operand-decides others m h e c = record {
    gives = λ k. operands-are others m h k c ∙ (λ i. and_then Counts CondTree (visits m k) (λ j same. operand-stopped others h j e i));
  }

  -- it is the only one
  pub operand-alone : (m : ℕ) (h : Bool) → IsCertain (ground p f sign env fix) m h → IsCertain (joined_operands p (a_formula f no_formulas) all sign env fix) m h
  operand-alone m h c = record {
    gives = λ k. operands-are no_formulas m h k c ∙ (λ i. and_then Counts CondTree (visits m k) (λ j same. operand-last h j i));
  }

  -- it says nothing, and the others say what all say
  pub operand-passed : (others : PlainFormulas) (m n : ℕ) (h g : Bool) → h ≡ all → IsCertain (ground p f sign env fix) m h → IsCertain (joined_operands p others all sign env fix) n g →
      IsCertain (joined_operands p (a_formula f others) all sign env fix) (m + n) g
  operand-passed others m n h g e c d = record {
    gives = λ k. operands-are others m all k (subst (IsCertain (ground p f sign env fix) m) e c)
        ∙ (λ i. and_then Counts CondTree (visits m k) (λ j same. operand-on others n g j d i))
        ∙ more-visits m n k (λ i same. Done (certain g) i);
  }

-- ---- what is told

pub falsehood-told : (p : ProblemData) (sign : Bool) (env : PlainEnv) (fix : List Fixing) (n : ℕ) (h : Bool) → h ≡ not sign → n ≡ 1 → IsCertain (ground p falsehood sign env fix) n h
falsehood-told p sign env fix n h e g =
    subst (λ m. IsCertain (ground p falsehood sign env fix) m h) (sym g)
    (subst (IsCertain (ground p falsehood sign env fix) 1) (sym e) (record { gives = λ k. refl }))

pub told-behind : (r : Option Told) (go : Counts → Outcome CondTree) (m n : ℕ) (g : Bool) → IfSome r (λ t. (t.holds ≡ g) × (t.visits ≡ m + n)) → IsCertain go (m + n) g → IfSome r (λ t. IsCertain go t.visits t.holds)
told-behind (Some t) go m n g e c = subst (λ v. IsCertain go v t.holds) (sym e.1) (subst (IsCertain go (m + n)) (sym e.0) c)
told-behind None go m n g e c = tt

-- the operands of a list that is not empty
pub opened : (items : List PlainFormula) (x d : PlainFormula) → 1 ≤ length items → x ≡ get_or items 0 d →
    plain_formulas_view items ≡ a_formula (plain_formula_view x) (plain_formulas_view (take (length items - 1) (drop 1 items)))
opened [] x d h e = absurd (omega arith)
opened (y ∷ ys) x d h e =
    let back : take (length (y ∷ ys) - 1) (drop 1 (y ∷ ys)) ≡ ys = grind (arith, common_steps) in
    (λ i. a_formula (plain_formula_view (sym e i)) (plain_formulas_view (sym back i)))

some-node : (f : PlainFormulaTree) → 0 < nodes f
some-node truth = omega arith
some-node falsehood = omega arith
some-node (negation f) = omega arith
some-node (all_of fs) = omega arith
some-node (any_of fs) = omega arith
some-node (implication f g) = omega arith
some-node (equivalence f g) = omega arith
some-node (comparison a rel b) = omega arith
some-node (quantified kind v coll f) = omega arith

-- fewer nodes are in the operands behind the first
pub fewer-nodes : (items : List PlainFormula) → 1 ≤ length items → nodes_in (plain_formulas_view (take (length items - 1) (drop 1 items))) < nodes_in (plain_formulas_view items)
fewer-nodes [] h = absurd (omega arith)
fewer-nodes (y ∷ ys) h =
    let back : take (length (y ∷ ys) - 1) (drop 1 (y ∷ ys)) ≡ ys = grind (arith, common_steps) in
    let some = some-node (plain_formula_view y) in
    let same = ap (λ xs. nodes_in (plain_formulas_view xs)) back in
    omega (arith, some, same)

pub alike : (a b : Bool) → beq a b ≡ true → a ≡ b
alike true true h = refl
alike true false h = cc
alike false true h = cc
alike false false h = refl

pub other : (a b : Bool) → beq a b ≡ false → a ≡ not b
other true true h = cc
other true false h = refl
other false true h = refl
other false false h = cc

pub alike-not : (a b : Bool) → not (beq a b) ≡ false → a ≡ b
alike-not true true h = refl
alike-not true false h = cc
alike-not false true h = cc
alike-not false false h = refl

pub other-not : (a b : Bool) → not (beq a b) ≡ true → a ≡ not b
other-not true true h = cc
other-not true false h = refl
other-not false true h = refl
other-not false false h = cc

pub twice : (b : Bool) → b ≡ not (not b)
twice true = refl
twice false = refl

-- the operand of a list of one
pub only-one : (items : List PlainFormula) (x d : PlainFormula) → 1 ≤ length items → length items < 2 → x ≡ get_or items 0 d → plain_formulas_view items ≡ a_formula (plain_formula_view x) no_formulas
only-one [] x d h g e = absurd (omega arith)
only-one (y ∷ []) x d h g e = ap (λ z. a_formula (plain_formula_view z) no_formulas) (sym e)
only-one (y ∷ (z ∷ zs)) x d h g e = absurd (omega arith)

pub told-alone : (r : Option Told) (p : ProblemData) (f : PlainFormulaTree) (all sign : Bool) (env : PlainEnv) (fix : List Fixing) → IfSome r (λ t. IsCertain (ground p f sign env fix) t.visits t.holds) →
    IfSome r (λ t. IsCertain (joined_operands p (a_formula f no_formulas) all sign env fix) t.visits t.holds)
told-alone (Some t) p f all sign env fix c = operand-alone p f all sign env fix t.visits t.holds c
told-alone None p f all sign env fix c = tt
