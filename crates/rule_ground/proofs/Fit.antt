-- The conditions of a problem name its objects and dimensions alone.
use Rattle.std.proofs.Common.{◌≡◌, ℕ, ◌+◌, ◌-◌, ◌<◌, ◌==◌, ◌&&◌, Bool, true, false, not, cond, List, [], ◌∷◌, ◌++◌, map, length, get_or, ℤ, pos, negsuc, ◌-ℤ◌, ◌+ℤ◌, sym, ap, ◌∙◌, refl, arith, subst}
use Rattle.std.specs.Prelude.{All, Result, Ok, Err}
use Rattle.std.specs.List.{flat_map, range_with_len}
use Rattle.std.proofs.lemmas.List.{length-map}
use Rattle.std.proofs.lemmas.List.Elements.{All-nil, All-cons, All-head, All-tail, All-map, All-append}
use Rattle.geo_base.specs.Boxes.{coordinate}
use Rattle.geo_tokens.specs.declared.fault.TextFault.{TextFault}
use Rattle.geo_conditions.specs.declared.cond.Cond.{Cond, Row_of-Cond, end_of-Cond, more_of-Cond, AtLeast', Lin, Shape, NotShape}
use Rattle.geo_conditions.specs.declared.form.Term.{Term}
use Rattle.geo_conditions.specs.Reach.{Exists, dims}
use Rattle.geo_conditions.specs.Conditions.{FitsIn, AllFitIn, AllFit}
use Rattle.rule_syntax.specs.declared.tree.QuantKind.{QuantKind}
use Rattle.rule_syntax.specs.declared.tree.QuantKind.TheVariants.{ForAll, Exists as SomeOf, AtLeast, AtMost}
use Rattle.problem_data.specs.Problem.{BoxData, RangeData, no_object, ProblemData, runs_down}
use Rattle.problem_data.specs.Pieces.{range_at, pieces_at, hull, hulls}
use Rattle.problem_data.specs.Tuple.{object_of}
use Rattle.problem_data.specs.Value.{Thing, Number, Object, Part}
use Rattle.problem_data.specs.WellFormed.{IsObject, IsWellFormed}
use Rattle.rule_expand.specs.declared.plain.Subject.TheVariants as subjects
use Rattle.rule_expand.specs.Plain.{PlainFormulaTree, truth, falsehood, negation, all_of, any_of, implication, equivalence, comparison, quantified, PlainFormulas, no_formulas, a_formula}
use Rattle.rule_expand.specs.PlainTruth.{PlainEnv, set_variable}
use Rattle.rule_expand.specs.Rules.{PlainDemand, apart, within, plain, PlainRuleData, rules_expanded}
use Rattle.linear_conditions.specs.CondTree.{CondTree, CondTrees, linear, shape_is, shape_is_not, at_least, no_conds, a_cond, conds, cond_view, row_view}
use Rattle.linear_conditions.specs.Fixings.{Fixing, fixed_place}
use Rattle.linear_conditions.specs.Folding.{certain, fold_count, joined, decides}
use Rattle.linear_conditions.specs.Leaves.{under}
use Rattle.linear_conditions.specs.Counts.{Counts, Outcome, Fault, Done, OnDone, and_then, within_limits, one_leaf, visit}
use Rattle.linear_conditions.proofs.Outcomes.{on_done, on_then, on_any, on_either}
use Rattle.linear_conditions.proofs.Placed.{AreBelow}
use Rattle.linear_conditions.proofs.Inside.{IsInside, AreInside, AllInside, conds-inside, both-inside, certain-inside, count-inside, joined-inside, compare-inside}
use Rattle.problem_data.specs.Places.{absent_place, side_at, first_value}
use Rattle.rule_ground.specs.Shapes.{places, shape_places, has_several, other_shape, term}
use Rattle.rule_values.specs.Shapes.{boxes_at}
use Rattle.rule_ground.specs.Start.{first_state, whole_reach}
use Rattle.rule_ground.specs.Own.{up_to, from, hole_condition, hole_behind, holes_in, holes_at, origin_condition, origins_of, own_of, own_conditions}
use Rattle.rule_ground.specs.Apart.{parted_in, apart_condition, apart_from_box, apart_at_places, apart_at_place, apart_of, apart_behind, apart_conditions}
use Rattle.rule_ground.specs.Within.{unless_other, from_low, to_high, within_in, within_of_box, within_at_place, within_of, within_conditions}
use Rattle.rule_ground.specs.Grounding.{needs, Element, whole, split, optional, gone, is_open, is_gone, may_go, element_of, elements_of, things_of, alone, in_turn, manner, is_counted, body_sign, quantifier_node, Body, absent_truth, shape_child, optional_child, ground_place, ground_places, ground_group, ground_whole, ground_optional, ground_gone, ground_element, ground_elements, ground, ground_operands, named_objects, ground_named}
use Rattle.rule_ground.specs.declared.quantifiers.Manner.{Manner}
use Rattle.rule_ground.specs.declared.quantifiers.Manner.TheVariants as ways
use Rattle.rule_ground.specs.Rules.{tree_length, is_count, conds_of, conds_of_each, ground_demand, ground_rules, grounded, no_counts, before, before_rest}
use Rattle.rule_ground.proofs.RuleSteps.{before-parts}
use Rattle.rule_ground.proofs.Settled.{several-there, may-there}
use Rattle.rule_ground.proofs.Sound.{Each, each-of, gather-on, both-true-of}
use Rattle.rule_ground.proofs.Starts.{reach-at}
use Rattle.rule_ground.proofs.Truths.{all-flat-in, all-range-in}

middle : (a b c : Bool) → (a && (b && c)) ≡ true → b ≡ true
middle true true c h = refl
middle true false c h = h
middle false b c h = cc

module _ (p : ProblemData) where
  -- ---- formulas

  in_turn-inside : (all : Bool) (first second : Counts → Outcome CondTree) (k : Counts) → OnDone CondTree (first k) (IsInside p) → ((j : Counts) → OnDone CondTree (second j) (IsInside p)) →
      OnDone CondTree (in_turn all first second k) (IsInside p)
  in_turn-inside all first second k f g =
      on_then CondTree CondTree _ _ _ _ f (λ c k' h.
      on_either CondTree (decides all c) _ _ _
      (λ e. on_done CondTree (joined all (c ∷ [])) k' _ (joined-inside p all (c ∷ []) (h, tt)))
      (λ e. on_then CondTree CondTree _ _ _ _ (g k') (λ d k'' l.
      on_done CondTree (joined all (c ∷ (d ∷ []))) k'' _ (joined-inside p all (c ∷ (d ∷ [])) (h, (l, tt))))))

  -- an object of which a condition speaks is one of the problem
  abbrev IsThere : Element → Type 0
  IsThere (whole x) = Unit {0}
  IsThere (split o) = o < length p.objects
  IsThere (optional o) = o < length p.objects
  IsThere (gone o) = Unit {0}

  there-by : (o : ℕ) (a b c : Bool) → (b ≡ true → o < length p.objects) → (c ≡ true → o < length p.objects) → IsThere (cond a (gone o) (cond b (split o) (cond c (optional o) (whole (Object o)))))
  there-by o true b c h l = tt
  there-by o false true c h l = h refl
  there-by o false false true h l = l refl
  there-by o false false false h l = tt

  element-there : (asked : Bool) (fix : List Fixing) (x : Thing) → IsThere (element_of p asked fix x)
  element-there asked fix (Number z) = tt
  element-there asked fix (Object o) =
      there-by o (is_gone p fix o) (asked && is_open p fix o) (may_go p fix o)
      (λ h. several-there p o (middle asked (has_several p o) (fixed_place fix o == 0) h))
      (λ h. may-there p o (both-true-of (object_of p o).may_be_absent (fixed_place fix o == 0) h).0)
  element-there asked fix (Part b) = tt

  -- grounding of a body gives such conditions
  abbrev IsGood : Body → Type 0
  IsGood body = (x : Thing) (more : List Fixing) (k : Counts) → OnDone CondTree (body x more k) (IsInside p)

  child-inside : (m : Manner) (o s : ℕ) (c : CondTree) → o < length p.objects → IsInside p c → IsInside p (shape_child m o s c)
  child-inside ways.All o s c h l = count-inside p (pos 1) (shape_is_not o s ∷ (c ∷ [])) (h, (l, tt))
  child-inside ways.One o s c h l = count-inside p (pos 2) (shape_is o s ∷ (c ∷ [])) (h, (l, tt))
  child-inside ways.Holding o s c h l = count-inside p (pos 2) (shape_is o s ∷ (c ∷ [])) (h, (l, tt))
  child-inside ways.Failing o s c h l = count-inside p (pos 2) (shape_is o s ∷ (c ∷ [])) (h, (l, tt))

  optional-by : (a : Bool) (o s : ℕ) (c : CondTree) → o < length p.objects → IsInside p c → IsInside p (cond a (fold_count (pos 1) (shape_is o s ∷ (c ∷ []))) (fold_count (pos 2) (shape_is_not o s ∷ (c ∷ []))))
  optional-by true o s c h l = count-inside p (pos 1) (shape_is o s ∷ (c ∷ [])) (h, (l, tt))
  optional-by false o s c h l = count-inside p (pos 2) (shape_is_not o s ∷ (c ∷ [])) (h, (l, tt))

  alone-inside : (o : Outcome CondTree) → OnDone CondTree o (IsInside p) → OnDone (List CondTree) (alone o) (AllInside p)
  alone-inside o h = on_then CondTree (List CondTree) _ _ _ _ h (λ c i l. on_done (List CondTree) (c ∷ []) i _ (l, tt))

  place-inside : (body : Body) (m : Manner) (fix : List Fixing) (o s : ℕ) (k : Counts) → IsGood body → o < length p.objects → OnDone (List CondTree) (alone (ground_place body m fix o s k)) (AllInside p)
  place-inside body m fix o s k g h =
      alone-inside (ground_place body m fix o s k)
      (on_any Counts CondTree _ _ (IsInside p) (λ k' same.
      on_then CondTree CondTree _ _ _ _ (g (Object o) (record { object = o; place = s } ∷ fix) k') (λ c k'' l. on_done CondTree (shape_child m o s c) k'' _ (child-inside m o s c h l))))

  places-inside : (body : Body) (m : Manner) (fix : List Fixing) (o : ℕ) (ss : List ℕ) (k : Counts) → IsGood body → o < length p.objects → OnDone (List CondTree) (ground_places body m fix o ss k) (AllInside p)
  places-inside body m fix o ss k g h =
      gather-on (λ s j. alone (ground_place body m fix o s j)) (λ xs bs. AllInside p bs) (λ s bs. AllInside p bs) tt (λ x xs bs cs q r. both-inside p bs cs q r) ss
      (each-of _ ss (λ s j. place-inside body m fix o s j g h)) k

  absence-inside : (o : ℕ) (cs : List CondTree) (k : Counts) (b : Bool) → o < length p.objects → AllInside p cs →
      OnDone (List CondTree) (cond b (and_then Counts (List CondTree) (within_limits (one_leaf k)) (λ k' same. Done (cs ++ (shape_is o (absent_place (object_of p o)) ∷ [])) k')) (Done cs k)) (AllInside p)
  absence-inside o cs k true h l =
      let part : List CondTree = shape_is o (absent_place (object_of p o)) ∷ [] in
      on_any Counts (List CondTree) _ _ (AllInside p) (λ k' same. on_done (List CondTree) (cs ++ part) k' _ (both-inside p cs part l (h, tt)))
  absence-inside o cs k false h l = on_done (List CondTree) cs k _ l

  group-inside : (body : Body) (m : Manner) (fix : List Fixing) (o : ℕ) (k : Counts) → IsGood body → o < length p.objects → OnDone CondTree (ground_group p body m fix o k) (IsInside p)
  group-inside body m fix o k g h =
      on_then (List CondTree) CondTree _ _ _ _ (places-inside body m fix o (shape_places p o) k g h) (λ cs j l.
      on_then (List CondTree) CondTree _ _ _ _ (absence-inside o cs j (absent_truth m && (object_of p o).may_be_absent) h l) (λ ds i q.
      on_done CondTree (joined false ds) i _ (joined-inside p false ds q)))

  split-by : (body : Body) (m : Manner) (fix : List Fixing) (o : ℕ) (k : Counts) (b : Bool) → IsGood body → o < length p.objects →
      OnDone (List CondTree) (cond b (alone (ground_group p body m fix o k)) (ground_places body m fix o (shape_places p o) k)) (AllInside p)
  split-by body m fix o k true g h = alone-inside (ground_group p body m fix o k) (group-inside body m fix o k g h)
  split-by body m fix o k false g h = places-inside body m fix o (shape_places p o) k g h

  element-inside : (body : Body) (m : Manner) (fix : List Fixing) (x : Element) (k : Counts) → IsGood body → IsThere x → OnDone (List CondTree) (ground_element p body m fix x k) (AllInside p)
  element-inside body m fix (whole x) k g h = alone-inside (ground_whole body fix x k) (on_any Counts CondTree _ _ (IsInside p) (λ k' j. g x fix k'))
  element-inside body m fix (split o) k g h = split-by body m fix o k (is_counted m) g h
  element-inside body m fix (optional o) k g h =
      let s = absent_place (object_of p o) in
      alone-inside (ground_optional p body m fix o k)
      (on_any Counts CondTree _ _ (IsInside p) (λ k' same.
      on_then CondTree CondTree _ _ _ _ (g (Object o) fix k') (λ c j l. on_done CondTree (optional_child m o s c) j _ (optional-by (absent_truth m) o s c h l))))
  element-inside body m fix (gone o) k g h =
      alone-inside (ground_gone m k) (on_any Counts CondTree _ _ (IsInside p) (λ k' same. on_done CondTree (certain (absent_truth m)) k' _ (certain-inside p (absent_truth m))))

  elements-inside : (body : Body) (m : Manner) (fix : List Fixing) (asked : Bool) (xs : List Thing) (k : Counts) → IsGood body → OnDone (List CondTree) (ground_elements p body m fix (map (element_of p asked fix) xs) k) (AllInside p)
  elements-inside body m fix asked xs k g =
      gather-on (ground_element p body m fix) (λ ys bs. AllInside p bs) (λ y bs. AllInside p bs) tt (λ x ys bs cs q r. both-inside p bs cs q r) (map (element_of p asked fix) xs)
      (each-element xs) k
    where
      each-element : (ys : List Thing) → Each (λ x. (j : Counts) → OnDone (List CondTree) (ground_element p body m fix x j) (AllInside p)) (map (element_of p asked fix) ys)
      each-element [] = tt
      each-element (y ∷ ys) = ((λ j. element-inside body m fix (element_of p asked fix y) j g (element-there asked fix y)), each-element ys)

  node-inside : (kind : QuantKind) (sign : Bool) (n : ℕ) (cs : List CondTree) → AllInside p cs → IsInside p (quantifier_node kind sign n cs)
  node-inside ForAll sign n cs h = joined-inside p sign cs h
  node-inside SomeOf sign n cs h = joined-inside p (not sign) cs h
  node-inside (AtLeast m) true n cs h = count-inside p (pos m) cs h
  node-inside (AtLeast m) false n cs h = count-inside p ((pos n -ℤ pos m) +ℤ pos 1) cs h
  node-inside (AtMost m) true n cs h = count-inside p (pos n -ℤ pos m) cs h
  node-inside (AtMost m) false n cs h = count-inside p (pos (m + 1)) cs h

  mutual
    ground-inside : (f : PlainFormulaTree) (sign : Bool) (env : PlainEnv) (fix : List Fixing) (k : Counts) → OnDone CondTree (ground p f sign env fix k) (IsInside p)
    ground-inside truth sign env fix k = on_any Counts CondTree _ _ _ (λ k' j. on_done CondTree (certain sign) _ _ (certain-inside p sign))
    ground-inside falsehood sign env fix k = on_any Counts CondTree _ _ _ (λ k' j. on_done CondTree (certain (not sign)) _ _ (certain-inside p (not sign)))
    ground-inside (negation f) sign env fix k = ground-inside f (not sign) env fix k
    ground-inside (all_of fs) sign env fix k =
        on_then (List CondTree) CondTree _ _ _ _ (operands-inside fs sign sign env fix k) (λ cs k' h. on_done CondTree (joined sign cs) _ _ (joined-inside p sign cs h))
    ground-inside (any_of fs) sign env fix k =
        on_then (List CondTree) CondTree _ _ _ _ (operands-inside fs (not sign) sign env fix k) (λ cs k' h. on_done CondTree (joined (not sign) cs) _ _ (joined-inside p (not sign) cs h))
    ground-inside (implication f g) sign env fix k =
        in_turn-inside (not sign) (λ j. ground p f (not sign) env fix j) (λ j. ground p g sign env fix j) k (ground-inside f (not sign) env fix k) (λ j. ground-inside g sign env fix j)
    ground-inside (equivalence f g) sign env fix k =
        in_turn-inside false
        (λ j. in_turn true (λ i. ground p f true env fix i) (λ i. ground p g sign env fix i) j)
        (λ j. in_turn true (λ i. ground p f false env fix i) (λ i. ground p g (not sign) env fix i) j) k
        (in_turn-inside true (λ i. ground p f true env fix i) (λ i. ground p g sign env fix i) k (ground-inside f true env fix k) (λ i. ground-inside g sign env fix i))
        (λ j. in_turn-inside true (λ i. ground p f false env fix i) (λ i. ground p g (not sign) env fix i) j (ground-inside f false env fix j) (λ i. ground-inside g (not sign) env fix i))
    ground-inside (comparison a rel b) sign env fix k = compare-inside p a (under sign rel) b env fix k
    ground-inside (quantified kind v coll f) sign env fix k =
        let body : Body = λ x more j. ground p f (body_sign kind sign) (set_variable v x env) more j in
        let asked : Bool = needs (subjects.Variable v) f in
        on_any Counts CondTree _ _ _ (λ k' j.
        on_then (List CondTree) CondTree _ _ _ _
        (elements-inside body (manner kind sign) fix asked (things_of p coll env fix) k' (λ x more i. ground-inside f (body_sign kind sign) (set_variable v x env) more i))
        (λ cs k'' h. on_done CondTree (quantifier_node kind sign (length (elements_of p asked coll env fix)) cs) _ _ (node-inside kind sign (length (elements_of p asked coll env fix)) cs h)))

    operands-inside : (fs : PlainFormulas) (all sign : Bool) (env : PlainEnv) (fix : List Fixing) (k : Counts) → OnDone (List CondTree) (ground_operands p fs all sign env fix k) (AllInside p)
    operands-inside no_formulas all sign env fix k = on_done (List CondTree) [] _ _ tt
    operands-inside (a_formula f rest) all sign env fix k =
        on_then CondTree (List CondTree) _ _ _ _ (ground-inside f sign env fix k) (λ d k' h.
        on_either (List CondTree) (decides all d) _ _ _
        (λ e. on_done (List CondTree) (d ∷ []) _ _ (h, tt))
        (λ e. on_then (List CondTree) (List CondTree) _ _ _ _ (operands-inside rest all sign env fix k') (λ ds k'' l. on_done (List CondTree) (d ∷ ds) _ _ (h, l))))

  object-inside : (body : Body) (fix : List Fixing) (o : ℕ) (k : Counts) (b : Bool) → is_open p fix o ≡ b → IsGood body → OnDone CondTree
      (cond b
      (and_then (List CondTree) CondTree (ground_places body ways.All fix o (places p o) k) (λ cs k'. Done (joined true cs) k'))
      (and_then Counts CondTree (visit k) (λ k' same. and_then CondTree CondTree (body (Object o) fix k') (λ c j. Done (joined true (c ∷ [])) j))))
      (IsInside p)
  object-inside body fix o k true e g =
      on_then (List CondTree) CondTree _ _ _ _
      (places-inside body ways.All fix o (places p o) k g (several-there p o (both-true-of (has_several p o) (fixed_place fix o == 0) e).0))
      (λ cs j h. on_done CondTree (joined true cs) j _ (joined-inside p true cs h))
  object-inside body fix o k false e g =
      on_any Counts CondTree _ _ (IsInside p) (λ k' same.
      on_then CondTree CondTree _ _ _ _ (g (Object o) fix k') (λ c j h. on_done CondTree (joined true (c ∷ [])) j _ (joined-inside p true (c ∷ []) (h, tt))))

  named-inside : (names : List ℕ) (f : PlainFormulaTree) (fix : List Fixing) (k : Counts) → OnDone CondTree (ground_named p names f fix k) (IsInside p)
  named-inside [] f fix k = ground-inside f true [] fix k
  named-inside (o ∷ rest) f fix k =
      on_any Counts CondTree _ _ (IsInside p) (λ k' same. object-inside (λ x more j. ground_named p rest f more j) fix o k' (is_open p fix o) refl (λ x more j. named-inside rest f more j))

  -- ---- the conditions of a condition

  flat-by : (n : ℤ) (cs : CondTrees) (b : Bool) → AreInside p cs → All (IsInside p) (conds_of_each cs) → All (IsInside p) (cond b (conds_of_each cs) (at_least n cs ∷ []))
  flat-by n cs true h l = l
  flat-by n cs false h l = All-cons (IsInside p) (at_least n cs) [] h (All-nil (IsInside p))

  mutual
    conds-of-inside : (c : CondTree) → IsInside p c → All (IsInside p) (conds_of c)
    conds-of-inside (linear f) h = All-cons (IsInside p) (linear f) [] h (All-nil (IsInside p))
    conds-of-inside (shape_is o s) h = All-cons (IsInside p) (shape_is o s) [] h (All-nil (IsInside p))
    conds-of-inside (shape_is_not o s) h = All-cons (IsInside p) (shape_is_not o s) [] h (All-nil (IsInside p))
    conds-of-inside (at_least n cs) h = flat-by n cs (is_count n (tree_length cs)) h (each-inside cs h)

    each-inside : (cs : CondTrees) → AreInside p cs → All (IsInside p) (conds_of_each cs)
    each-inside no_conds h = All-nil (IsInside p)
    each-inside (a_cond c cs) h = All-append (IsInside p) (conds_of c) (conds_of_each cs) (conds-of-inside c h.0) (each-inside cs h.1)

  -- ---- apart and within

  listed : (cs : List CondTree) → All (IsInside p) cs → AllInside p cs
  listed [] h = tt
  listed (c ∷ cs) h = (All-head (IsInside p) c cs h, listed cs (All-tail (IsInside p) c cs h))

  other-by : (b : Bool) (o s : ℕ) → o < length p.objects → All (IsInside p) (cond b (shape_is_not o s ∷ []) [])
  other-by true o s h = All-cons (IsInside p) (shape_is_not o s) [] h (All-nil (IsInside p))
  other-by false o s h = All-nil (IsInside p)

  parted-inside : (i j d : ℕ) (a b : BoxData) → i < length p.objects → j < length p.objects → d < p.dims → All (IsInside p) (parted_in i a j b d)
  parted-inside i j d a b x y h =
      let first : CondTree = linear (record { terms = term i d (pos 1) ∷ (term j d (negsuc 0) ∷ []); constant = (coordinate a.offsets d +ℤ coordinate a.sizes d) -ℤ coordinate b.offsets d }) in
      let second : CondTree = linear (record { terms = term i d (negsuc 0) ∷ (term j d (pos 1) ∷ []); constant = (coordinate b.offsets d +ℤ coordinate b.sizes d) -ℤ coordinate a.offsets d }) in
      let both : IsInside p first = ((x, h), ((y, h), tt)) in
      All-cons (IsInside p) first (second ∷ []) both (All-cons (IsInside p) second [] both (All-nil (IsInside p)))

  condition-inside : (i s j u : ℕ) (a b : BoxData) → i < length p.objects → j < length p.objects → IsInside p (apart_condition p i s j u a b)
  condition-inside i s j u a b x y =
      conds-inside p (other_shape p i s ++ other_shape p j u ++ flat_map (parted_in i a j b) (range_with_len 0 p.dims))
      (listed (other_shape p i s ++ other_shape p j u ++ flat_map (parted_in i a j b) (range_with_len 0 p.dims))
      (All-append (IsInside p) (other_shape p i s ++ other_shape p j u) (flat_map (parted_in i a j b) (range_with_len 0 p.dims))
      (All-append (IsInside p) (other_shape p i s) (other_shape p j u) (other-by (has_several p i) i s x) (other-by (has_several p j) j u y))
      (all-flat-in (IsInside p) (parted_in i a j b) (range_with_len 0 p.dims) (all-range-in (λ d. All (IsInside p) (parted_in i a j b d)) 0 p.dims (λ d l m. parted-inside i j d a b x y (omega arith))))))

  pair-inside : (i j : ℕ) → i < length p.objects → j < length p.objects → All (IsInside p) (apart_of p i j)
  pair-inside i j x y =
      all-flat-in (IsInside p) (apart_at_place p i j) (places p i) (λ m s l.
      all-flat-in (IsInside p) (apart_at_places p i (get_or (places p i) m s) j) (places p j) (λ n u k.
      all-flat-in (IsInside p) (apart_from_box p i (get_or (places p i) m s) j (get_or (places p j) n u)) (boxes_at p i (get_or (places p i) m s)) (λ q a r.
      All-map (IsInside p) (apart_condition p i (get_or (places p i) m s) j (get_or (places p j) n u) (get_or (boxes_at p i (get_or (places p i) m s)) q a)) (boxes_at p j (get_or (places p j) n u))
      (λ w b z. condition-inside i (get_or (places p i) m s) j (get_or (places p j) n u) (get_or (boxes_at p i (get_or (places p i) m s)) q a) (get_or (boxes_at p j (get_or (places p j) n u)) w b) x y))))

  apart-inside : All (IsInside p) (apart_conditions p)
  apart-inside =
      all-flat-in (IsInside p) (apart_behind p) (range_with_len 0 (length p.objects)) (all-range-in (λ i. All (IsInside p) (apart_behind p i)) 0 (length p.objects) (λ i z l.
      all-flat-in (IsInside p) (apart_of p i) (range_with_len (i + 1) (length p.objects - (i + 1))) (all-range-in (λ j. All (IsInside p) (apart_of p i j)) (i + 1) (length p.objects - (i + 1)) (λ j m n.
      pair-inside i j (omega arith) (omega arith)))))

  pub unless-by : (b : Bool) (o s : ℕ) (c : CondTree) → o < length p.objects → IsInside p c → IsInside p (cond b (at_least (pos 1) (conds (shape_is_not o s ∷ (c ∷ [])))) c)
  unless-by true o s c h l = (h, (l, tt))
  unless-by false o s c h l = l

  ends-inside : (ranges : List RangeData) (o s : ℕ) (b : BoxData) (d : ℕ) → o < length p.objects → d < p.dims → All (IsInside p) (within_in p ranges o s b d)
  ends-inside ranges o s b d h l =
      let first : IsInside p (from_low o b ranges d) = ((h, l), tt) in
      let second : IsInside p (to_high o b ranges d) = ((h, l), tt) in
      All-cons (IsInside p) (unless_other p o s (from_low o b ranges d)) (unless_other p o s (to_high o b ranges d) ∷ []) (unless-by (has_several p o) o s (from_low o b ranges d) h first)
      (All-cons (IsInside p) (unless_other p o s (to_high o b ranges d)) [] (unless-by (has_several p o) o s (to_high o b ranges d) h second) (All-nil (IsInside p)))

  within-inside : (ranges : List RangeData) → All (IsInside p) (within_conditions p ranges)
  within-inside ranges =
      all-flat-in (IsInside p) (within_of p ranges) (range_with_len 0 (length p.objects)) (all-range-in (λ o. All (IsInside p) (within_of p ranges o)) 0 (length p.objects) (λ o z l.
      all-flat-in (IsInside p) (within_at_place p ranges o) (places p o) (λ m s k.
      all-flat-in (IsInside p) (within_of_box p ranges o (get_or (places p o) m s)) (boxes_at p o (get_or (places p o) m s)) (λ q b r.
      all-flat-in (IsInside p) (within_in p ranges o (get_or (places p o) m s) (get_or (boxes_at p o (get_or (places p o) m s)) q b)) (range_with_len 0 p.dims)
      (all-range-in (λ d. All (IsInside p) (within_in p ranges o (get_or (places p o) m s) (get_or (boxes_at p o (get_or (places p o) m s)) q b) d)) 0 p.dims (λ d y x.
      ends-inside ranges o (get_or (places p o) m s) (get_or (boxes_at p o (get_or (places p o) m s)) q b) d (omega arith) (omega arith)))))))

  -- ---- objects by themselves

  hole-inside : (o d : ℕ) (r s : RangeData) → o < length p.objects → d < p.dims → IsInside p (hole_condition o d r s)
  hole-inside o d r s h l = (((h, l), tt), (((h, l), tt), tt))

  holes-inside : (o d : ℕ) (rs : List RangeData) → o < length p.objects → d < p.dims → All (IsInside p) (holes_in o d rs)
  holes-inside o d rs h l =
      All-map (IsInside p) (hole_behind o d rs) (range_with_len 0 (length rs - 1))
      (all-range-in (λ n. IsInside p (hole_behind o d rs n)) 0 (length rs - 1) (λ n k m. hole-inside o d (range_at rs n) (range_at rs (n + 1)) h l))

  first-by : (o d : ℕ) (v : ℤ) (b : Bool) → o < length p.objects → d < p.dims → IsInside p (cond b (from o d v) (up_to o d v))
  first-by o d v true h l = ((h, l), tt)
  first-by o d v false h l = ((h, l), tt)

  origin-inside : (o d : ℕ) → o < length p.objects → d < p.dims → IsInside p (origin_condition p o d)
  origin-inside o d h l = (h, (first-by o d (first_value p (object_of p o) d) (runs_down (side_at p d)) h l, tt))

  origins-by : (o : ℕ) (b : Bool) → o < length p.objects → All (IsInside p) (cond b (map (origin_condition p o) (range_with_len 0 p.dims)) [])
  origins-by o true h =
      All-map (IsInside p) (origin_condition p o) (range_with_len 0 p.dims) (all-range-in (λ d. IsInside p (origin_condition p o d)) 0 p.dims (λ d z l. origin-inside o d h (omega (arith, l))))
  origins-by o false h = All-nil (IsInside p)

  own-inside : All (IsInside p) (own_conditions p)
  own-inside =
      all-flat-in (IsInside p) (own_of p) (range_with_len 0 (length p.objects)) (all-range-in (λ o. All (IsInside p) (own_of p o)) 0 (length p.objects) (λ o z h.
      let i : o < length p.objects = omega (arith, h) in
      All-append (IsInside p) (flat_map (holes_at p o) (range_with_len 0 p.dims)) (origins_of p o)
      (all-flat-in (IsInside p) (holes_at p o) (range_with_len 0 p.dims) (all-range-in (λ d. All (IsInside p) (holes_at p o d)) 0 p.dims (λ d y l.
      holes-inside o d (pieces_at (object_of p o) d) i (omega (arith, l)))))
      (origins-by o (object_of p o).may_be_absent i)))

  -- ---- rules

  demand-inside : (d : PlainDemand) (k : Counts) → OnDone (List CondTree) (ground_demand p d k) (All (IsInside p))
  demand-inside apart k = on_any Counts (List CondTree) _ _ _ (λ k' j. on_done (List CondTree) (apart_conditions p) k' _ apart-inside)
  demand-inside (within ranges) k = on_any Counts (List CondTree) _ _ _ (λ k' j. on_done (List CondTree) (within_conditions p ranges) k' _ (within-inside ranges))
  demand-inside (plain f) k =
      on_then CondTree (List CondTree) _ _ _ _ (named-inside (named_objects p f) f [] k) (λ c k' h. on_done (List CondTree) (conds_of c) k' _ (conds-of-inside c h))

  abbrev RestInside : List PlainRuleData → Type 0
  RestInside rest = (j : Counts) (ds : List CondTree) → ground_rules p rest j ≡ Ok ds → All (IsInside p) ds

  by-rest : (r : PlainRuleData) (rest : List PlainRuleData) (k : Counts) (cs : List CondTree) → RestInside rest →
      (bs : List CondTree) (j : Counts) (q : Result (List CondTree) TextFault) → ground_rules p rest j ≡ q → ground_demand p r.demand k ≡ Done bs j → before bs q ≡ Ok cs → All (IsInside p) cs
  by-rest r rest k cs ih bs j (Err x) g i m = cc
  by-rest r rest k cs ih bs j (Ok ds) g i m =
      let f : bs ++ ds ≡ cs = cc in
      subst (All (IsInside p)) f (All-append (IsInside p) bs ds ((demand-inside r.demand k).get bs j i) (ih j ds g))

  by-outcome : (r : PlainRuleData) (rest : List PlainRuleData) (k : Counts) (cs : List CondTree) → RestInside rest →
      (o : Outcome (List CondTree)) → ground_demand p r.demand k ≡ o → before_rest r.place o (λ k'. ground_rules p rest k') ≡ Ok cs → All (IsInside p) cs
  unfolding before_rest
  by-outcome r rest k cs ih (Fault x) i m = cc
  by-outcome r rest k cs ih (Done bs j) i m = by-rest r rest k cs ih bs j (ground_rules p rest j) refl i m

  rules-inside : (rs : List PlainRuleData) → RestInside rs
  rules-inside [] k cs e =
      let f : [] ≡ cs = cc in
      subst (All (IsInside p)) f (All-nil (IsInside p))
  rules-inside (r ∷ rest) k cs e = by-outcome r rest k cs (rules-inside rest) (ground_demand p r.demand k) refl e

  -- ---- the program's conditions

  module _ (w : IsWellFormed p) where
    exists : (o d : ℕ) → o < length p.objects → d < p.dims → Exists (first_state p) o d
    exists o d h l =
        let n : length (first_state p) ≡ length p.objects = length-map p.objects whole_reach in
        let q : IsObject p (object_of p o) = w.objects o no_object h in
        let m : dims (first_state p) o ≡ p.dims = ap (λ r. length r.region.lo) (reach-at p o h) ∙ length-map (hulls (object_of p o)) (λ (r : RangeData). r.low) ∙ length-map (object_of p o).pieces hull ∙ q.dimensions in
        (subst (λ k. o < k) (sym n) h, subst (λ k. d < k) (sym m) l)

    object : (o : ℕ) → o < length p.objects → o < length (first_state p)
    object o h = let n : length (first_state p) ≡ length p.objects = length-map p.objects whole_reach in subst (λ k. o < k) (sym n) h

    terms-fit : (ts : List Term) → AreBelow (length p.objects) p.dims ts → All (λ a. Exists (first_state p) a.object.0 a.dimension) ts
    terms-fit [] h = All-nil (λ a. Exists (first_state p) a.object.0 a.dimension)
    terms-fit (a ∷ ts) h = All-cons (λ a. Exists (first_state p) a.object.0 a.dimension) a ts (exists a.object.0 a.dimension h.0.0 h.0.1) (terms-fit ts h.1)

    mutual
      view-fits : (c : Cond) → IsInside p (cond_view c) → FitsIn c (first_state p)
      view-fits (Lin f) h = terms-fit f.terms h
      view-fits (Shape o s) h = object o.0 h
      view-fits (NotShape o s) h = object o.0 h
      view-fits (AtLeast' n shape cs) h = row-fits cs h

      row-fits : {m : _} (cs : Row_of-Cond m) → AreInside p (row_view cs) → AllFitIn cs (first_state p)
      row-fits end_of-Cond h = tt
      row-fits (more_of-Cond c cs) h = (view-fits c h.0, row-fits cs h.1)

    pub all-fit : (cs : List Cond) → All (IsInside p) (map cond_view cs) → AllFit cs (first_state p)
    all-fit [] h = All-nil (λ c. FitsIn c (first_state p))
    all-fit (c ∷ cs) h = All-cons (λ c. FitsIn c (first_state p)) c cs (view-fits c (All-head (IsInside p) (cond_view c) (map cond_view cs) h)) (all-fit cs (All-tail (IsInside p) (cond_view c) (map cond_view cs) h))

    -- the conditions of a problem fit its first state
    pub grounded-fit : (cs : List Cond) → grounded p ≡ Ok (map cond_view cs) → AllFit cs (first_state p)
    grounded-fit cs e =
        let s = before-parts (own_conditions p) (map cond_view cs) (ground_rules p (rules_expanded p) no_counts) e in
        all-fit cs (subst (All (IsInside p)) (sym s.2) (All-append (IsInside p) (own_conditions p) s.0 own-inside (rules-inside (rules_expanded p) no_counts s.0 s.1)))
