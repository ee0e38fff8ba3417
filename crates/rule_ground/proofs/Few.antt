-- How many conditions the rules of a problem give: none without a leaf that was counted, but for one a rule.
use Rattle.std.proofs.Common.{◌≡◌, ℕ, ◌+◌, ◌-◌, ◌≤◌, ◌<◌, ◌&&◌, Bool, true, false, not, cond, List, [], ◌∷◌, ◌++◌, map, length, ℤ, pos, ◌-ℤ◌, ◌+ℤ◌, sym, ap, ◌∙◌, refl, arith, subst, length-append}
use Rattle.std.specs.Prelude.{Result, Ok, Err, int_lt}
use Rattle.std.specs.List.{flat_map, range_with_len}
use Rattle.std.proofs.lemmas.List.{length-map}
use Rattle.std.proofs.lemmas.List.FromFn.{length-range_with_len}
use Rattle.std.proofs.lemmas.Bool.Decides.{nat_tests}
use lib.Signed.{le_z}
use Rattle.geo_tokens.specs.declared.fault.FaultWord.{FaultWord}
use Rattle.geo_tokens.specs.declared.fault.FaultWord.TheVariants.{Ground}
use Rattle.geo_tokens.specs.declared.fault.TextFault.{TextFault}
use Rattle.geo_conditions.specs.declared.cond.Cond.{Cond}
use Rattle.geo_conditions.specs.Form.{Sum}
use Rattle.rule_syntax.specs.declared.tree.QuantKind.{QuantKind}
use Rattle.rule_syntax.specs.declared.tree.QuantKind.TheVariants.{ForAll, Exists as SomeOf, AtLeast, AtMost}
use Rattle.problem_data.specs.Problem.{ProblemData}
use Rattle.problem_data.specs.Pieces.{pieces_at}
use Rattle.problem_data.specs.Tuple.{object_of}
use Rattle.problem_data.specs.WellFormed.{IsWellFormed}
use Rattle.problem_data.specs.Value.{Thing, Object}
use Rattle.rule_expand.specs.declared.plain.Subject.TheVariants as subjects
use Rattle.rule_expand.specs.Plain.{PlainFormulaTree, truth, falsehood, negation, all_of, any_of, implication, equivalence, comparison, quantified, PlainFormulas, no_formulas, a_formula}
use Rattle.rule_expand.specs.PlainTruth.{PlainEnv, set_variable}
use Rattle.rule_expand.specs.Rules.{PlainDemand, apart, within, plain, PlainRuleData, rule_expanded, rules_expanded}
use Rattle.linear_conditions.specs.declared.verdict.Verdict.{Verdict}
use Rattle.linear_conditions.specs.declared.verdict.Verdict.TheVariants.{Holds, Fails, Open}
use Rattle.linear_conditions.specs.CondTree.{CondTree, CondTrees, linear, shape_is, shape_is_not, at_least, no_conds, a_cond, conds, cond_view}
use Rattle.linear_conditions.specs.Fixings.{Fixing}
use Rattle.linear_conditions.specs.Sums.{has_terms}
use Rattle.linear_conditions.specs.Forms.{sum_of_expr}
use Rattle.linear_conditions.specs.Leaves.{Leaves, under, difference, leaves_of}
use Rattle.linear_conditions.specs.Folding.{always, never, certain, verdict, fold_linear, count_holding, still_open, one_or_node, fold_count, joined, decides}
use Rattle.linear_conditions.specs.Counts.{Counts, Outcome, Fault, Done, and_then, allowed, either_way, are_within, within_limits, one_visit, one_leaf, visit, count_sum, count_sums}
use Rattle.linear_conditions.specs.Compare.{ground_leaves}
use Rattle.problem_data.specs.Places.{absent_place}
use Rattle.rule_ground.specs.Shapes.{places, shape_places}
use Rattle.rule_ground.specs.Ground.{most_conditions}
use Rattle.rule_ground.specs.Own.{hole_behind, holes_at, origin_condition, origins_of, own_of, own_conditions}
use Rattle.rule_ground.specs.Apart.{apart_conditions}
use Rattle.rule_ground.specs.Within.{within_conditions}
use Rattle.rule_ground.specs.Grounding.{needs, Element, whole, split, optional, gone, is_open, elements_of, gather, alone, in_turn, manner, is_counted, body_sign, quantifier_node, Body, absent_truth, shape_child, optional_child, ground_place, ground_places, ground_group, ground_whole, ground_optional, ground_gone, ground_element, ground, ground_operands, named_objects, ground_named}
use Rattle.rule_ground.specs.declared.quantifiers.Manner.{Manner}
use Rattle.rule_ground.specs.declared.quantifiers.Manner.TheVariants as ways
use Rattle.rule_ground.specs.Rules.{tree_length, is_count, conds_of, conds_of_each, as_leaves, ground_demand, ground_rules, grounded, no_counts, before, before_rest}
use Rattle.rule_ground.proofs.Numbers.{flat-most}
use Rattle.rule_ground.proofs.OwnTruth.{are-pieces}
use Rattle.rule_ground.proofs.RuleSteps.{before-parts}
use Rattle.rule_ground.proofs.Truths.{all-range-in}

-- ---- leaves of a folded condition

abbrev mutual
  load : CondTree → ℕ
  load (linear f) = 1
  load (shape_is o s) = 1
  load (shape_is_not o s) = 1
  load (at_least n cs) = row_load cs

  row_load : CondTrees → ℕ
  row_load no_conds = 0
  row_load (a_cond c cs) = load c + row_load cs

abbrev loads : List CondTree → ℕ
loads [] = 0
loads (c ∷ cs) = load c + loads cs

abbrev mutual
  -- each child of a node has a leaf
  IsFolded : CondTree → Type 0
  IsFolded (linear f) = Unit {0}
  IsFolded (shape_is o s) = Unit {0}
  IsFolded (shape_is_not o s) = Unit {0}
  IsFolded (at_least n cs) = AreFolded cs

  AreFolded : CondTrees → Type 0
  AreFolded no_conds = Unit {0}
  AreFolded (a_cond c cs) = (1 ≤ load c) × (IsFolded c × AreFolded cs)

abbrev AllFolded : List CondTree → Type 0
AllFolded [] = Unit {0}
AllFolded (c ∷ cs) = IsFolded c × AllFolded cs

-- each has a leaf, too
abbrev AllLoaded : List CondTree → Type 0
AllLoaded [] = Unit {0}
AllLoaded (c ∷ cs) = (1 ≤ load c) × (IsFolded c × AllLoaded cs)

both-folded : (bs cs : List CondTree) → AllFolded bs → AllFolded cs → AllFolded (bs ++ cs)
both-folded [] cs h l = l
both-folded (b ∷ bs) cs h l = (h.0, both-folded bs cs h.1 l)

both-loads : (bs cs : List CondTree) → loads (bs ++ cs) ≡ loads bs + loads cs
both-loads [] cs = omega arith
both-loads (b ∷ bs) cs = let e = both-loads bs cs in omega (arith, e)

conds-folded : (cs : List CondTree) → AllLoaded cs → AreFolded (conds cs)
conds-folded [] h = tt
conds-folded (c ∷ cs) h = (h.0, (h.1.0, conds-folded cs h.1.1))

conds-load : (cs : List CondTree) → row_load (conds cs) ≡ loads cs
conds-load [] = refl
conds-load (c ∷ cs) = let e = conds-load cs in omega (arith, e)

bare-loaded : (b : Bool) → cond b Holds Fails ≡ Open → 1 ≤ 0
bare-loaded true e = cc
bare-loaded false e = cc

open-loaded : (c : CondTree) → IsFolded c → verdict c ≡ Open → 1 ≤ load c
open-loaded (linear f) h e = omega arith
open-loaded (shape_is o s) h e = omega arith
open-loaded (shape_is_not o s) h e = omega arith
open-loaded (at_least n no_conds) h e = bare-loaded (le_z n (pos 0)) e
open-loaded (at_least n (a_cond c cs)) h e = let l = h.0 in omega (arith, l)

open-by : (v : Verdict) (c : CondTree) (cs : List CondTree) → verdict c ≡ v → IsFolded c → AllLoaded (still_open cs) × (loads (still_open cs) ≤ loads cs) →
    let l : List CondTree = elim v [ Holds ↦ still_open cs | Fails ↦ still_open cs | Open ↦ c ∷ still_open cs ] in AllLoaded l × (loads l ≤ load c + loads cs)
open-by Holds c cs e f h = (h.0, let l = h.1 in omega (arith, l))
open-by Fails c cs e f h = (h.0, let l = h.1 in omega (arith, l))
open-by Open c cs e f h = ((open-loaded c f e, (f, h.0)), let l = h.1 in omega (arith, l))

open-light : (cs : List CondTree) → AllFolded cs → AllLoaded (still_open cs) × (loads (still_open cs) ≤ loads cs)
open-light [] h = (tt, omega arith)
open-light (c ∷ cs) h = open-by (verdict c) c cs refl h.0 (open-light cs h.1)

-- folded, with so many leaves at most
abbrev IsLight : ℕ → CondTree → Type 0
IsLight n c = IsFolded c × (load c ≤ n)

certain-light : (n : ℕ) (b : Bool) → IsLight n (certain b)
certain-light n true = (tt, omega arith)
certain-light n false = (tt, omega arith)

node-light : (n : ℤ) (cs : List CondTree) → AllLoaded cs → IsLight (loads cs) (one_or_node n cs)
node-light n [] h = (tt, omega arith)
node-light n (c ∷ []) h = (h.1.0, omega arith)
node-light n (c ∷ (d ∷ cs)) h = (conds-folded (c ∷ (d ∷ cs)) h, let e = conds-load (c ∷ (d ∷ cs)) in omega (arith, e))

fold-by : (n : ℤ) (m : ℕ) (cs : List CondTree) (a b : Bool) → AllLoaded cs → loads cs ≤ m → IsLight m (cond a always (cond b never (one_or_node n cs)))
fold-by n m cs true b h l = certain-light m true
fold-by n m cs false true h l = certain-light m false
fold-by n m cs false false h l = let i = node-light n cs h in (i.0, let k = i.1 in omega (arith, k, l))

count-light : (n : ℤ) (cs : List CondTree) → AllFolded cs → IsLight (loads cs) (fold_count n cs)
count-light n cs h =
    let m : ℤ = n -ℤ pos (count_holding cs) in
    let i = open-light cs h in
    fold-by m (loads cs) (still_open cs) (le_z m (pos 0)) (int_lt (pos (length (still_open cs))) m) i.0 i.1

joined-light : (all : Bool) (cs : List CondTree) → AllFolded cs → IsLight (loads cs) (joined all cs)
joined-light all cs h = count-light (cond all (pos (length cs)) (pos 1)) cs h

-- ---- what is counted

-- from n leaves to m: so many more at least, and within the limit where it began so
record Costs (n more m : ℕ) : Type 0 where
  paid : n + more ≤ m
  within : n ≤ 1000000 → m ≤ 1000000

costs-none : (n : ℕ) → Costs n 0 n
costs-none n = record { paid = omega arith; within = λ h. h }

costs-less : (n a b m : ℕ) → Costs n a m → b ≤ a → Costs n b m
costs-less n a b m c l = record { paid = (let p = c.paid in omega (arith, p, l)); within = c.within }

costs-more : (n a k b m : ℕ) → Costs n a k → Costs k b m → Costs n (a + b) m
costs-more n a k b m c d = record { paid = (let p = c.paid in let q = d.paid in omega (arith, p, q)); within = λ h. d.within (c.within h) }

-- what a step gives is so, and it has counted a leaf for each of its own
record Pays (A : Type 0) (P : A → Type 0) (weigh : A → ℕ) (n : ℕ) (o : Outcome A) : Type 0 where
  get : (a : A) (k : Counts) → o ≡ Done a k → P a × Costs n (weigh a) k.leaves

pays_fault : (A : Type 0) (w : FaultWord) (P : A → Type 0) (weigh : A → ℕ) (n : ℕ) → Pays A P weigh n (Fault w)
pays_fault A w P weigh n = record { get = λ a k h. cc }

injected : (A : Type 0) (Q : A → Counts → Type 0) (a b : A) (k j : Counts) → Q a k → Done a k ≡ Done b j → Q b j
injected A Q a b k j q h =
    let e : a ≡ b = cc in
    let f : k ≡ j = cc in
    subst (λ x. Q b x) f (subst (λ x. Q x k) e q)

pays_done : (A : Type 0) (a : A) (k : Counts) (P : A → Type 0) (weigh : A → ℕ) (n : ℕ) → P a → Costs n (weigh a) k.leaves → Pays A P weigh n (Done a k)
pays_done A a k P weigh n p c = record { get = λ b j h. injected A (λ x i. P x × Costs n (weigh x) i.leaves) a b k j (p, c) h }

pays_either : (A : Type 0) (b : Bool) (o u : Outcome A) (P : A → Type 0) (weigh : A → ℕ) (n : ℕ) → Pays A P weigh n o → Pays A P weigh n u → Pays A P weigh n (either_way A b o u)
unfolding either_way
pays_either A true o u P weigh n h k = h
pays_either A false o u P weigh n h k = k

pays_allowed : (A : Type 0) (b : Bool) (w : FaultWord) (o : Outcome A) (P : A → Type 0) (weigh : A → ℕ) (n : ℕ) → Pays A P weigh n o → Pays A P weigh n (allowed A b w o)
unfolding allowed
pays_allowed A true w o P weigh n h = h
pays_allowed A false w o P weigh n h = pays_fault A w P weigh n

pays_then : (A B : Type 0) (o : Outcome A) (go : A → Counts → Outcome B) (P : A → Type 0) (weigh : A → ℕ) (n : ℕ) (Q : B → Type 0) (measure : B → ℕ) (m : ℕ) →
    Pays A P weigh n o → ((a : A) (k : Counts) → P a → Costs n (weigh a) k.leaves → Pays B Q measure m (go a k)) → Pays B Q measure m (and_then A B o go)
unfolding and_then
pays_then A B (Fault w) go P weigh n Q measure m h f = pays_fault B w Q measure m
pays_then A B (Done a j) go P weigh n Q measure m h f = let g = h.get a j refl in f a j g.0 g.1

few-leaves : (k : Counts) → are_within k ≡ true → k.leaves ≤ 1000000
few-leaves k h = grind (arith, nat_tests)

step-by : (B : Type 0) (b : Bool) (k : Counts) (go : Counts → Counts → Outcome B) (Q : B → Type 0) (weigh : B → ℕ) (n m : ℕ) → are_within k ≡ b → n ≤ k.leaves →
    (Costs n (k.leaves - n) k.leaves → Pays B Q weigh m (go k k)) → Pays B Q weigh m (and_then Counts B (allowed Counts b Ground (Done k k)) go)
unfolding allowed and_then
step-by B true k go Q weigh n m e h f = f (record { paid = omega (arith, h); within = λ i. few-leaves k e })
step-by B false k go Q weigh n m e h f = pays_fault B Ground Q weigh m

-- a step that counts, from n leaves, and what comes behind it
pays_step : (B : Type 0) (k : Counts) (go : Counts → Counts → Outcome B) (Q : B → Type 0) (weigh : B → ℕ) (n m : ℕ) → n ≤ k.leaves →
    (Costs n (k.leaves - n) k.leaves → Pays B Q weigh m (go k k)) → Pays B Q weigh m (and_then Counts B (within_limits k) go)
pays_step B k go Q weigh n m h f = step-by B (are_within k) k go Q weigh n m refl h f

-- a condition, and a list of them
abbrev PaysOne : ℕ → Outcome CondTree → Type 0
PaysOne n o = Pays CondTree IsFolded load n o

abbrev PaysAll : ℕ → Outcome (List CondTree) → Type 0
PaysAll n o = Pays (List CondTree) AllFolded loads n o

one_done : (n m : ℕ) (c : CondTree) (k : Counts) → IsLight m c → Costs n m k.leaves → PaysOne n (Done c k)
one_done n m c k h d = pays_done CondTree c k IsFolded load n h.0 (costs-less n m (load c) k.leaves d h.1)

all_done : (n : ℕ) (cs : List CondTree) (k : Counts) → AllFolded cs → Costs n (loads cs) k.leaves → PaysAll n (Done cs k)
all_done n cs k h d = pays_done (List CondTree) cs k AllFolded loads n h d

single-costs : (n : ℕ) (c : CondTree) (m : ℕ) → Costs n (load c) m → Costs n (loads (c ∷ [])) m
single-costs n c m d = costs-less n (load c) (load c + 0) m d (omega arith)

pays_alone : (n : ℕ) (o : Outcome CondTree) → PaysOne n o → PaysAll n (alone o)
pays_alone n o h = pays_then CondTree (List CondTree) _ _ _ _ _ _ _ _ h (λ c k p d. all_done n (c ∷ []) k (p, tt) (single-costs n c k.leaves d))

pays_gather : {A : Type 0} (go : A → Counts → Outcome (List CondTree)) (xs : List A) → ((x : A) (j : Counts) → PaysAll j.leaves (go x j)) → (k : Counts) → PaysAll k.leaves (gather go xs k)
pays_gather go [] f k = all_done k.leaves [] k tt (costs-none k.leaves)
pays_gather go (x ∷ xs) f k =
    pays_then (List CondTree) (List CondTree) _ _ _ _ _ _ _ _ (f x k) (λ bs i p c.
    pays_then (List CondTree) (List CondTree) _ _ _ _ _ _ _ _ (pays_gather go xs f i) (λ cs j q d.
    all_done k.leaves (bs ++ cs) j (both-folded bs cs p q)
    (costs-less k.leaves (loads bs + loads cs) (loads (bs ++ cs)) j.leaves (costs-more k.leaves (loads bs) i.leaves (loads cs) j.leaves c d) (let e = both-loads bs cs in omega (arith, e)))))

pays_in_turn : (all : Bool) (first second : Counts → Outcome CondTree) (k : Counts) → PaysOne k.leaves (first k) → ((j : Counts) → PaysOne j.leaves (second j)) → PaysOne k.leaves (in_turn all first second k)
pays_in_turn all first second k f g =
    pays_then CondTree CondTree _ _ _ _ _ _ _ _ f (λ c i p d.
    pays_either CondTree (decides all c) _ _ _ _ _
    (one_done k.leaves (loads (c ∷ [])) (joined all (c ∷ [])) i (joined-light all (c ∷ []) (p, tt)) (single-costs k.leaves c i.leaves d))
    (pays_then CondTree CondTree _ _ _ _ _ _ _ _ (g i) (λ b j q e.
    one_done k.leaves (loads (c ∷ (b ∷ []))) (joined all (c ∷ (b ∷ []))) j (joined-light all (c ∷ (b ∷ [])) (p, (q, tt)))
    (costs-more k.leaves (load c) i.leaves (loads (b ∷ [])) j.leaves d (single-costs i.leaves b j.leaves e)))))

-- ---- comparisons

linear-by : (f : Sum) (b : Bool) → IsFolded (cond b (linear f) (certain (le_z f.constant (pos 0))))
linear-by f true = tt
linear-by f false = (certain-light 0 (le_z f.constant (pos 0))).0

forms-folded : (fs : List Sum) → AllFolded (map fold_linear fs)
forms-folded [] = tt
forms-folded (f ∷ fs) = (linear-by f (has_terms f), forms-folded fs)

sum-by : (f : Sum) (k : Counts) (b : Bool) →
    k.leaves + load (cond b (linear f) (certain (le_z f.constant (pos 0)))) ≤ (cond b (record { visits = k.visits; leaves = k.leaves + 1; terms = k.terms + length f.terms }) k).leaves
sum-by f k true = omega arith
sum-by f k false = let l = (certain-light 0 (le_z f.constant (pos 0))).1 in omega (arith, l)

sums-paid : (fs : List Sum) (k : Counts) → k.leaves + loads (map fold_linear fs) ≤ (count_sums fs k).leaves
sums-paid [] k = omega arith
sums-paid (f ∷ fs) k =
    let h = sum-by f k (has_terms f) in
    let l = sums-paid fs (count_sum f k) in
    omega (arith, h, l)

leaves-pay : (l : Leaves) (k : Counts) → PaysOne k.leaves (ground_leaves l k)
leaves-pay l k =
    let all : List CondTree = map fold_linear l.forms in
    let counted : Counts = count_sums l.forms (one_visit k) in
    let paid : k.leaves + loads all ≤ counted.leaves = sums-paid l.forms (one_visit k) in
    pays_step CondTree counted _ IsFolded load k.leaves k.leaves (omega (arith, paid)) (λ d.
    one_done k.leaves (loads all) (joined l.all all) counted (joined-light l.all all (forms-folded l.forms)) (costs-less k.leaves (counted.leaves - k.leaves) (loads all) counted.leaves d (omega (arith, paid))))

module _ (p : ProblemData) where
  -- ---- quantifiers

  -- grounding of a body pays
  abbrev IsPaying : Body → Type 0
  IsPaying body = (x : Thing) (more : List Fixing) (k : Counts) → PaysOne k.leaves (body x more k)

  child-light : (m : Manner) (o s : ℕ) (c : CondTree) → IsFolded c → IsLight (1 + load c) (shape_child m o s c)
  child-light ways.All o s c h = let i = count-light (pos 1) (shape_is_not o s ∷ (c ∷ [])) (tt, (h, tt)) in (i.0, let l = i.1 in omega (arith, l))
  child-light ways.One o s c h = let i = count-light (pos 2) (shape_is o s ∷ (c ∷ [])) (tt, (h, tt)) in (i.0, let l = i.1 in omega (arith, l))
  child-light ways.Holding o s c h = let i = count-light (pos 2) (shape_is o s ∷ (c ∷ [])) (tt, (h, tt)) in (i.0, let l = i.1 in omega (arith, l))
  child-light ways.Failing o s c h = let i = count-light (pos 2) (shape_is o s ∷ (c ∷ [])) (tt, (h, tt)) in (i.0, let l = i.1 in omega (arith, l))

  optional-by : (a : Bool) (o s : ℕ) (c : CondTree) → IsFolded c → IsLight (1 + load c) (cond a (fold_count (pos 1) (shape_is o s ∷ (c ∷ []))) (fold_count (pos 2) (shape_is_not o s ∷ (c ∷ []))))
  optional-by true o s c h = let i = count-light (pos 1) (shape_is o s ∷ (c ∷ [])) (tt, (h, tt)) in (i.0, let l = i.1 in omega (arith, l))
  optional-by false o s c h = let i = count-light (pos 2) (shape_is_not o s ∷ (c ∷ [])) (tt, (h, tt)) in (i.0, let l = i.1 in omega (arith, l))

  -- a leaf, a visit, and then a body whose condition has one leaf more
  leaf-pays : (x : Thing) (more : List Fixing) (child : CondTree → CondTree) (body : Body) (k : Counts) → IsPaying body → ((c : CondTree) → IsFolded c → IsLight (1 + load c) (child c)) →
      PaysOne k.leaves (and_then Counts CondTree (within_limits (one_leaf (one_visit k))) (λ k' same. and_then CondTree CondTree (body x more k') (λ c j. Done (child c) j)))
  leaf-pays x more child body k g light =
      let counted : Counts = one_leaf (one_visit k) in
      pays_step CondTree counted _ IsFolded load k.leaves k.leaves (omega arith) (λ d.
      pays_then CondTree CondTree _ _ _ _ _ _ _ _ (g x more counted) (λ c j q e.
      one_done k.leaves (1 + load c) (child c) j (light c q)
      (costs-less k.leaves ((counted.leaves - k.leaves) + load c) (1 + load c) j.leaves (costs-more k.leaves (counted.leaves - k.leaves) counted.leaves (load c) j.leaves d e) (omega arith))))

  place-pays : (body : Body) (m : Manner) (fix : List Fixing) (o s : ℕ) (k : Counts) → IsPaying body → PaysOne k.leaves (ground_place body m fix o s k)
  place-pays body m fix o s k g = leaf-pays (Object o) (record { object = o; place = s } ∷ fix) (shape_child m o s) body k g (child-light m o s)

  places-pay : (body : Body) (m : Manner) (fix : List Fixing) (o : ℕ) (ss : List ℕ) (k : Counts) → IsPaying body → PaysAll k.leaves (ground_places body m fix o ss k)
  places-pay body m fix o ss k g = pays_gather (λ s j. alone (ground_place body m fix o s j)) ss (λ s j. pays_alone j.leaves (ground_place body m fix o s j) (place-pays body m fix o s j g)) k

  visit-costs : (k : Counts) (m j : ℕ) → Costs k.leaves ((one_visit k).leaves - k.leaves) (one_visit k).leaves → Costs (one_visit k).leaves m j → Costs k.leaves m j
  visit-costs k m j d e = costs-less k.leaves (((one_visit k).leaves - k.leaves) + m) m j (costs-more k.leaves ((one_visit k).leaves - k.leaves) (one_visit k).leaves m j d e) (omega arith)

  -- the children of shapes, to which one that is counted may be added
  absence-pays : (o n : ℕ) (cs : List CondTree) (k : Counts) (b : Bool) → AllFolded cs → Costs n (loads cs) k.leaves →
      PaysAll n (cond b (and_then Counts (List CondTree) (within_limits (one_leaf k)) (λ k' same. Done (cs ++ (shape_is o (absent_place (object_of p o)) ∷ [])) k')) (Done cs k))
  absence-pays o n cs k true q d =
      let part : List CondTree = shape_is o (absent_place (object_of p o)) ∷ [] in
      let counted : Counts = one_leaf k in
      pays_step (List CondTree) counted _ AllFolded loads k.leaves n (omega arith) (λ e.
      all_done n (cs ++ part) counted (both-folded cs part q (tt, tt))
      (costs-less n (loads cs + (counted.leaves - k.leaves)) (loads (cs ++ part)) counted.leaves (costs-more n (loads cs) k.leaves (counted.leaves - k.leaves) counted.leaves d e) (let l = both-loads cs part in omega (arith, l))))
  absence-pays o n cs k false q d = all_done n cs k q d

  group-pays : (body : Body) (m : Manner) (fix : List Fixing) (o : ℕ) (k : Counts) → IsPaying body → PaysOne k.leaves (ground_group p body m fix o k)
  group-pays body m fix o k g =
      pays_then (List CondTree) CondTree _ _ _ _ _ _ _ _ (places-pay body m fix o (shape_places p o) k g) (λ cs j q d.
      pays_then (List CondTree) CondTree _ _ _ _ _ _ _ _ (absence-pays o k.leaves cs j (absent_truth m && (object_of p o).may_be_absent) q d) (λ ds i r e.
      one_done k.leaves (loads ds) (joined false ds) i (joined-light false ds r) e))

  split-by : (body : Body) (m : Manner) (fix : List Fixing) (o : ℕ) (k : Counts) (b : Bool) → IsPaying body →
      PaysAll k.leaves (cond b (alone (ground_group p body m fix o k)) (ground_places body m fix o (shape_places p o) k))
  split-by body m fix o k true g = pays_alone k.leaves (ground_group p body m fix o k) (group-pays body m fix o k g)
  split-by body m fix o k false g = places-pay body m fix o (shape_places p o) k g

  -- a visit, and then a body
  whole-pays : (x : Thing) (more : List Fixing) (child : CondTree → CondTree) (body : Body) (k : Counts) → IsPaying body → ((c : CondTree) → IsFolded c → IsLight (load c) (child c)) →
      PaysOne k.leaves (and_then Counts CondTree (visit k) (λ k' same. and_then CondTree CondTree (body x more k') (λ c j. Done (child c) j)))
  whole-pays x more child body k g light =
      pays_step CondTree (one_visit k) _ IsFolded load k.leaves k.leaves (omega arith) (λ d.
      pays_then CondTree CondTree _ _ _ _ _ _ _ _ (g x more (one_visit k)) (λ c j q e.
      one_done k.leaves (load c) (child c) j (light c q) (visit-costs k (load c) j.leaves d e)))

  certain-pays : (b : Bool) (k : Counts) → PaysOne k.leaves (and_then Counts CondTree (visit k) (λ k' same. Done (certain b) k'))
  certain-pays b k =
      pays_step CondTree (one_visit k) _ IsFolded load k.leaves k.leaves (omega arith) (λ d.
      one_done k.leaves 0 (certain b) (one_visit k) (certain-light 0 b) (visit-costs k 0 (one_visit k).leaves d (costs-none (one_visit k).leaves)))

  element-pays : (body : Body) (m : Manner) (fix : List Fixing) (x : Element) (k : Counts) → IsPaying body → PaysAll k.leaves (ground_element p body m fix x k)
  element-pays body m fix (whole x) k g =
      pays_alone k.leaves (ground_whole body fix x k)
      (pays_step CondTree (one_visit k) _ IsFolded load k.leaves k.leaves (omega arith) (λ d.
      record { get = λ c j e. let h = (g x fix (one_visit k)).get c j e in (h.0, visit-costs k (load c) j.leaves d h.1) }))
  element-pays body m fix (split o) k g = split-by body m fix o k (is_counted m) g
  element-pays body m fix (optional o) k g =
      pays_alone k.leaves (ground_optional p body m fix o k)
      (leaf-pays (Object o) fix (optional_child m o (absent_place (object_of p o))) body k g (optional-by (absent_truth m) o (absent_place (object_of p o))))
  element-pays body m fix (gone o) k g = pays_alone k.leaves (ground_gone m k) (certain-pays (absent_truth m) k)

  quantifier-light : (kind : QuantKind) (sign : Bool) (n : ℕ) (cs : List CondTree) → AllFolded cs → IsLight (loads cs) (quantifier_node kind sign n cs)
  quantifier-light ForAll sign n cs h = joined-light sign cs h
  quantifier-light SomeOf sign n cs h = joined-light (not sign) cs h
  quantifier-light (AtLeast m) true n cs h = count-light (pos m) cs h
  quantifier-light (AtLeast m) false n cs h = count-light ((pos n -ℤ pos m) +ℤ pos 1) cs h
  quantifier-light (AtMost m) true n cs h = count-light (pos n -ℤ pos m) cs h
  quantifier-light (AtMost m) false n cs h = count-light (pos (m + 1)) cs h

  single-light : (c : CondTree) → IsFolded c → IsLight (load c) (joined true (c ∷ []))
  single-light c h = let i = joined-light true (c ∷ []) (h, tt) in (i.0, let l = i.1 in omega (arith, l))

  -- ---- formulas

  mutual
    ground-pays : (f : PlainFormulaTree) (sign : Bool) (env : PlainEnv) (fix : List Fixing) (k : Counts) → PaysOne k.leaves (ground p f sign env fix k)
    ground-pays truth sign env fix k = certain-pays sign k
    ground-pays falsehood sign env fix k = certain-pays (not sign) k
    ground-pays (negation f) sign env fix k = ground-pays f (not sign) env fix k
    ground-pays (all_of fs) sign env fix k =
        pays_then (List CondTree) CondTree _ _ _ _ _ _ _ _ (operands-pay fs sign sign env fix k) (λ cs j q d. one_done k.leaves (loads cs) (joined sign cs) j (joined-light sign cs q) d)
    ground-pays (any_of fs) sign env fix k =
        pays_then (List CondTree) CondTree _ _ _ _ _ _ _ _ (operands-pay fs (not sign) sign env fix k) (λ cs j q d. one_done k.leaves (loads cs) (joined (not sign) cs) j (joined-light (not sign) cs q) d)
    ground-pays (implication f g) sign env fix k =
        pays_in_turn (not sign) (λ j. ground p f (not sign) env fix j) (λ j. ground p g sign env fix j) k (ground-pays f (not sign) env fix k) (λ j. ground-pays g sign env fix j)
    ground-pays (equivalence f g) sign env fix k =
        pays_in_turn false
        (λ j. in_turn true (λ i. ground p f true env fix i) (λ i. ground p g sign env fix i) j)
        (λ j. in_turn true (λ i. ground p f false env fix i) (λ i. ground p g (not sign) env fix i) j) k
        (pays_in_turn true (λ i. ground p f true env fix i) (λ i. ground p g sign env fix i) k (ground-pays f true env fix k) (λ i. ground-pays g sign env fix i))
        (λ j. pays_in_turn true (λ i. ground p f false env fix i) (λ i. ground p g (not sign) env fix i) j (ground-pays f false env fix j) (λ i. ground-pays g (not sign) env fix i))
    ground-pays (comparison a rel b) sign env fix k = pays_allowed CondTree _ _ _ _ _ _ (leaves-pay (leaves_of (under sign rel) (difference (sum_of_expr p a env fix) (sum_of_expr p b env fix))) k)
    ground-pays (quantified kind v coll f) sign env fix k =
        let body : Body = λ x more j. ground p f (body_sign kind sign) (set_variable v x env) more j in
        let xs : List Element = elements_of p (needs (subjects.Variable v) f) coll env fix in
        pays_step CondTree (one_visit k) _ IsFolded load k.leaves k.leaves (omega arith) (λ d.
        pays_then (List CondTree) CondTree _ _ _ _ _ _ _ _
        (pays_gather (ground_element p body (manner kind sign) fix) xs (λ x j. element-pays body (manner kind sign) fix x j (λ y more i. ground-pays f (body_sign kind sign) (set_variable v y env) more i)) (one_visit k))
        (λ cs j q e. one_done k.leaves (loads cs) (quantifier_node kind sign (length xs) cs) j (quantifier-light kind sign (length xs) cs q) (visit-costs k (loads cs) j.leaves d e)))

    operands-pay : (fs : PlainFormulas) (all sign : Bool) (env : PlainEnv) (fix : List Fixing) (k : Counts) → PaysAll k.leaves (ground_operands p fs all sign env fix k)
    operands-pay no_formulas all sign env fix k = all_done k.leaves [] k tt (costs-none k.leaves)
    operands-pay (a_formula f rest) all sign env fix k =
        pays_then CondTree (List CondTree) _ _ _ _ _ _ _ _ (ground-pays f sign env fix k) (λ c i q d.
        pays_either (List CondTree) (decides all c) _ _ _ _ _
        (all_done k.leaves (c ∷ []) i (q, tt) (single-costs k.leaves c i.leaves d))
        (pays_then (List CondTree) (List CondTree) _ _ _ _ _ _ _ _ (operands-pay rest all sign env fix i) (λ cs j r e.
        all_done k.leaves (c ∷ cs) j (q, r) (costs-more k.leaves (load c) i.leaves (loads cs) j.leaves d e))))

  object-pays : (body : Body) (fix : List Fixing) (o : ℕ) (k : Counts) (b : Bool) → IsPaying body → PaysOne k.leaves
      (cond b
      (and_then (List CondTree) CondTree (ground_places body ways.All fix o (places p o) k) (λ cs k'. Done (joined true cs) k'))
      (and_then Counts CondTree (visit k) (λ k' same. and_then CondTree CondTree (body (Object o) fix k') (λ c j. Done (joined true (c ∷ [])) j))))
  object-pays body fix o k true g =
      pays_then (List CondTree) CondTree _ _ _ _ _ _ _ _ (places-pay body ways.All fix o (places p o) k g)
      (λ cs j q e. one_done k.leaves (loads cs) (joined true cs) j (joined-light true cs q) e)
  object-pays body fix o k false g = whole-pays (Object o) fix (λ c. joined true (c ∷ [])) body k g single-light

  named-pays : (names : List ℕ) (f : PlainFormulaTree) (fix : List Fixing) (k : Counts) → PaysOne k.leaves (ground_named p names f fix k)
  named-pays [] f fix k = ground-pays f true [] fix k
  named-pays (o ∷ rest) f fix k =
      pays_step CondTree (one_visit k) _ IsFolded load k.leaves k.leaves (omega arith) (λ d.
      record {
        get = λ c j e.
            let h = (object-pays (λ x more i. ground_named p rest f more i) fix o (one_visit k) (is_open p fix o) (λ x more i. named-pays rest f more i)).get c j e in
            (h.0, visit-costs k (load c) j.leaves d h.1);
      })

  -- ---- the conditions of a condition

  flat-by : (n : ℤ) (cs : CondTrees) (b : Bool) (m : ℕ) → length (conds_of_each cs) ≤ m → 1 ≤ m → length (cond b (conds_of_each cs) (at_least n cs ∷ [])) ≤ m
  flat-by n cs true m h l = h
  flat-by n cs false m h l = l

  mutual
    conds-few : (c : CondTree) → IsFolded c → 1 ≤ load c → length (conds_of c) ≤ load c
    conds-few (linear f) h l = omega arith
    conds-few (shape_is o s) h l = omega arith
    conds-few (shape_is_not o s) h l = omega arith
    conds-few (at_least n cs) h l = flat-by n cs (is_count n (tree_length cs)) (row_load cs) (each-few cs h) l

    each-few : (cs : CondTrees) → AreFolded cs → length (conds_of_each cs) ≤ row_load cs
    each-few no_conds h = omega arith
    each-few (a_cond c cs) h =
        let e = length-append (conds_of c) (conds_of_each cs) in
        let l = conds-few c h.1.0 h.0 in
        let m = each-few cs h.1.1 in
        omega (arith, e, l, m)

  -- a condition that is never true has no leaf, and is one
  flat-few : (c : CondTree) → IsFolded c → length (conds_of c) - 1 ≤ load c
  flat-few (linear f) h = omega arith
  flat-few (shape_is o s) h = omega arith
  flat-few (shape_is_not o s) h = omega arith
  flat-few (at_least n cs) h =
      let l = each-few cs h in
      let m : length (conds_of (at_least n cs)) ≤ row_load cs + 1 = flat-by n cs (is_count n (tree_length cs)) (row_load cs + 1) (omega (arith, l)) (omega arith) in
      omega (arith, m)

  -- ---- rules

  -- all conditions but one are paid
  abbrev PaysRule : ℕ → Outcome (List CondTree) → Type 0
  PaysRule n o = Pays (List CondTree) (λ cs. Unit {0}) (λ cs. length cs - 1) n o

  leaves-paid : (cs : List CondTree) (k : Counts) → PaysRule k.leaves (as_leaves cs k)
  leaves-paid cs k =
      let counted : Counts = record k { leaves = k.leaves + length cs } in
      pays_step (List CondTree) counted _ (λ ds. Unit {0}) (λ ds. length ds - 1) k.leaves k.leaves (omega arith) (λ d.
      pays_done (List CondTree) cs counted (λ ds. Unit {0}) (λ ds. length ds - 1) k.leaves tt (costs-less k.leaves (counted.leaves - k.leaves) (length cs - 1) counted.leaves d (omega arith)))

  demand-paid : (d : PlainDemand) (k : Counts) → PaysRule k.leaves (ground_demand p d k)
  demand-paid apart k = leaves-paid (apart_conditions p) k
  demand-paid (within ranges) k = leaves-paid (within_conditions p ranges) k
  demand-paid (plain f) k =
      pays_then CondTree (List CondTree) _ _ _ _ _ _ _ _ (named-pays (named_objects p f) f [] k) (λ c j q d.
      pays_done (List CondTree) (conds_of c) j (λ ds. Unit {0}) (λ ds. length ds - 1) k.leaves tt (costs-less k.leaves (load c) (length (conds_of c) - 1) j.leaves d (flat-few c q)))

  -- with n leaves before them, the conditions of so many rules are few
  abbrev RestFew : List PlainRuleData → Type 0
  RestFew rest = (j : Counts) (ds : List CondTree) → ground_rules p rest j ≡ Ok ds → j.leaves ≤ 1000000 → j.leaves + length ds ≤ 1000000 + length rest

  by-rest : (r : PlainRuleData) (rest : List PlainRuleData) (k : Counts) (cs : List CondTree) → RestFew rest → k.leaves ≤ 1000000 →
      (bs : List CondTree) (j : Counts) (q : Result (List CondTree) TextFault) → ground_rules p rest j ≡ q → ground_demand p r.demand k ≡ Done bs j → before bs q ≡ Ok cs → k.leaves + length cs ≤ 1000000 + length (r ∷ rest)
  by-rest r rest k cs ih few bs j (Err x) g i m = cc
  by-rest r rest k cs ih few bs j (Ok ds) g i m =
      let f : bs ++ ds ≡ cs = cc in
      let e : length cs ≡ length bs + length ds = ap length (sym f) ∙ length-append bs ds in
      let c = ((demand-paid r.demand k).get bs j i).1 in
      let paid = c.paid in
      let l = ih j ds g (c.within few) in
      omega (arith, e, paid, l)

  by-outcome : (r : PlainRuleData) (rest : List PlainRuleData) (k : Counts) (cs : List CondTree) → RestFew rest → k.leaves ≤ 1000000 →
      (o : Outcome (List CondTree)) → ground_demand p r.demand k ≡ o → before_rest r.place o (λ k'. ground_rules p rest k') ≡ Ok cs → k.leaves + length cs ≤ 1000000 + length (r ∷ rest)
  unfolding before_rest
  by-outcome r rest k cs ih few (Fault x) i m = cc
  by-outcome r rest k cs ih few (Done bs j) i m = by-rest r rest k cs ih few bs j (ground_rules p rest j) refl i m

  rules-few : (rs : List PlainRuleData) → RestFew rs
  rules-few [] k cs e few =
      let f : [] ≡ cs = cc in
      let l : 0 ≡ length cs = ap length f in
      omega (arith, l, few)
  rules-few (r ∷ rest) k cs e few = by-outcome r rest k cs (rules-few rest) few (ground_demand p r.demand k) refl e

  -- ---- objects by themselves

  -- at most 7 holes of a range
  holes-few : (o d : ℕ) → IsWellFormed p → o < length p.objects → d < p.dims → length (holes_at p o d) ≤ 7
  holes-few o d w h l =
      let pieces = pieces_at (object_of p o) d in
      let a = length-map (range_with_len 0 (length pieces - 1)) (hole_behind o d pieces) in
      let b = length-range_with_len 0 (length pieces - 1) in
      let f = (are-pieces p w o d h l).few in
      omega (arith, a, b, f)

  origins-by : (o : ℕ) (b : Bool) → IsWellFormed p → length (cond b (map (origin_condition p o) (range_with_len 0 p.dims)) []) ≤ 6
  origins-by o true w =
      let a = length-map (range_with_len 0 p.dims) (origin_condition p o) in
      let n = length-range_with_len 0 p.dims in
      let k = w.dimensions in
      omega (arith, a, n, k)
  origins-by o false w = omega arith

  of-object-few : (o : ℕ) → IsWellFormed p → o < length p.objects → length (own_of p o) ≤ 48
  of-object-few o w h =
      let each = all-range-in (λ d. length (holes_at p o d) ≤ 7) 0 p.dims (λ d z l. holes-few o d w h (omega (arith, l))) in
      let f = flat-most 7 (holes_at p o) (range_with_len 0 p.dims) each in
      let n = length-range_with_len 0 p.dims in
      let k = w.dimensions in
      let a = length-append (flat_map (holes_at p o) (range_with_len 0 p.dims)) (origins_of p o) in
      let g = origins-by o (object_of p o).may_be_absent w in
      omega (arith, f, n, k, a, g)

  own-few : IsWellFormed p → length (own_conditions p) ≤ 9600
  own-few w =
      let each = all-range-in (λ o. length (own_of p o) ≤ 48) 0 (length p.objects) (λ o z l. of-object-few o w (omega (arith, l))) in
      let f = flat-most 48 (own_of p) (range_with_len 0 (length p.objects)) each in
      let n = length-range_with_len 0 (length p.objects) in
      let k = w.few in
      omega (arith, f, n, k)

  -- a problem has far fewer conditions than numbers can name
  pub grounded-few : (cs : List Cond) → IsWellFormed p → length p.rules ≤ 100 → grounded p ≡ Ok (map cond_view cs) → length cs ≤ most_conditions
  grounded-few cs w few e =
      let s = before-parts (own_conditions p) (map cond_view cs) (ground_rules p (rules_expanded p) no_counts) e in
      let l = rules-few (rules_expanded p) no_counts s.0 s.1 (omega arith) in
      let m = length-map cs cond_view in
      let n = length-map p.rules (rule_expanded p) in
      let a = ap length s.2 ∙ length-append (own_conditions p) s.0 in
      let b = own-few w in
      omega (arith, l, m, n, few, a, b)
