-- What the arms of grounding give.
use Rattle.std.proofs.Common.{◌≡◌, ℕ, zero, suc, ◌+◌, ◌<◌, ◌≤◌, get_or, drop, Bool, true, false, ◌&&◌, cond, List, [], ◌∷◌, ◌++◌, length, map, pos, sym, ap, ◌∙◌, refl, arith, subst}
use Rattle.std.specs.Prelude.{None, Some, Result, Ok, Err, MatchResult, slice_index_or, ⊤}
use Rattle.std.specs.List.{range_with_len}
use Rattle.std.proofs.lemmas.List.{drop_more}
use Rattle.std.proofs.lemmas.List.FromFn.{length-range_with_len, get_or-range_with_len}
use Rattle.std.proofs.Math.ListN.{drop_of_length-le}
use Rattle.geo_conditions.specs.declared.cond.Cond.{Cond}
use Rattle.geo_conditions.specs.declared.object.ObjId.{ObjId}
use Rattle.problem_data.specs.Problem.{BoxData, ProblemData}
use Rattle.problem_data.specs.Places.{absent_place}
use Rattle.problem_data.specs.Tuple.{object_of}
use Rattle.problem_data.specs.Value.{Thing, Number, Part}
use Rattle.rule_expand.specs.PlainView.{plain_formula_view, plain_formulas_view}
use Rattle.rule_expand.specs.Counts.{nodes, nodes_in}
use Rattle.rule_expand.specs.declared.plain.PlainFormula.{PlainFormula}
use Rattle.linear_conditions.specs.CondTree.{CondTree, shape_is, cond_view}
use Rattle.linear_conditions.specs.Fixings.{Fixing}
use Rattle.linear_conditions.specs.Counts.{Counts, Outcome, Done, and_then, within_limits, one_leaf}
use Rattle.linear_conditions.specs.Faults.{IsFault}
use Rattle.linear_conditions.specs.declared.fault.GroundFault.{GroundFault}
use Rattle.linear_conditions.specs.declared.fault.GroundFault.TheVariants.{Memory}
use Rattle.rule_ground.specs.declared.quantifiers.Manner.{Manner}
use Rattle.rule_ground.specs.Answers.{Gives, Appends}
use Rattle.rule_ground.specs.Grounding.{absent_truth, add_absence, Element, whole, alone, element_of}
use Rattle.rule_ground.proofs.Behind.{then-done, then-made, then-fault, alone-fault, free, both_ways, appended}

-- a result that is made of another one
pub gives-made : (A : Type 0) (o : Outcome A) (f : A → CondTree) (a : A) (j : Counts) (r : Result Cond GroundFault) → o ≡ Done a j → MatchResult r (λ c. cond_view c ≡ f a) (λ e. e ≡ Memory) →
    Gives (and_then A CondTree o (λ x i. Done (f x) i)) j r
gives-made A o f a j r h m = both_ways Cond GroundFault r _ _ _ _ m (λ c v. then-made A CondTree o f a j (cond_view c) h v) (λ e v. free CondTree (and_then A CondTree o (λ x i. Done (f x) i)) e v)

-- behind a step that was counted
pub step-gives : (o : Outcome Counts) (go : Counts → Counts → Outcome CondTree) (k j : Counts) (r : Result Cond GroundFault) → o ≡ Done k k → Gives (go k k) j r → Gives (and_then Counts CondTree o go) j r
step-gives o go k j r e h = subst (λ u. Gives u j r) (sym (then-done Counts CondTree o go k k e)) h

pub step-fault : (o : Outcome Counts) (go : Counts → Counts → Outcome CondTree) (k : Counts) (e : GroundFault) → o ≡ Done k k → IsFault CondTree (go k k) e → IsFault CondTree (and_then Counts CondTree o go) e
step-fault o go k e d h = subst (λ u. IsFault CondTree u e) (sym (then-done Counts CondTree o go k k d)) h

-- one condition appended
pub appends-one : (old new : List Cond) (o : Outcome CondTree) (c : Cond) (j : Counts) (r : Result ⊤ GroundFault) → o ≡ Done (cond_view c) j → MatchResult r (λ u. new ≡ old ++ c ∷ []) (λ e. e ≡ Memory) → Appends (alone o) old new j r
appends-one old new o c j r h m = both_ways ⊤ GroundFault r _ _ _ _ m (λ u v. appended old new o c j h v) (λ e v. free (List CondTree) (alone o) e v)

operand-nodes : (items : List PlainFormula) (i : ℕ) (d : PlainFormula) → i < length items → nodes (plain_formula_view (get_or items i d)) ≤ nodes_in (plain_formulas_view items)
operand-nodes [] i d h = absurd (omega arith)
operand-nodes (x ∷ xs) zero d h = omega arith
operand-nodes (x ∷ xs) (suc i) d h = omega (arith, operand-nodes xs i d (omega arith))

-- an operand is no larger than all
pub operand-size : (items : List PlainFormula) (i : ℕ) (x : PlainFormula) → i < length items → x ≡ get_or items i x → nodes (plain_formula_view x) ≤ nodes_in (plain_formulas_view items)
operand-size items i x h e = subst (λ y. nodes (plain_formula_view y) ≤ nodes_in (plain_formulas_view items)) (sym e) (operand-nodes items i x h)

-- boxes are whole, whether shapes are asked for or not
pub boxes-whole : (p : ProblemData) (fix : List Fixing) (a b : Bool) (bs : List BoxData) → map (element_of p a fix) (map Part bs) ≡ map (element_of p b fix) (map Part bs)
boxes-whole p fix a b [] = refl
boxes-whole p fix a b (x ∷ xs) = ap (λ ys. whole (Part x) ∷ ys) (boxes-whole p fix a b xs)

-- the element at a place
pub elements-at : (f : Thing → Element) (ts : List Thing) (i : ℕ) (x : Thing) (y : Element) → i < length ts → x ≡ slice_index_or ts i (Number (pos 0)) → y ≡ f x → map f (drop i ts) ≡ y ∷ map f (drop (i + 1) ts)
elements-at f ts i x y h e g = ap (map f) (drop_more ts i (Number (pos 0)) h) ∙ (λ j. (ap f (sym e) ∙ sym g) j ∷ map f (drop (i + 1) ts))

pub elements-over : (f : Thing → Element) (ts : List Thing) (i : ℕ) → length ts ≤ i → map f (drop i ts) ≡ []
elements-over f ts i h = ap (map f) (drop_of_length-le ts h)

-- the place behind the first i
pub place-at : (i n m : ℕ) → n ≡ m → i < n → drop i (range_with_len 1 m) ≡ (i + 1) ∷ drop (i + 1) (range_with_len 1 m)
place-at i n m e h =
    let l : i < m = omega arith in
    drop_more (range_with_len 1 m) i 0 (let s = length-range_with_len 1 m in omega (arith, s, l))
    ∙ (λ j. (get_or-range_with_len 1 m i 0 l ∙ (let q : 1 + i ≡ i + 1 = omega arith in q)) j ∷ drop (i + 1) (range_with_len 1 m))

pub places-over : (i n m : ℕ) → n ≡ m → n ≤ i → drop i (range_with_len 1 m) ≡ []
places-over i n m e h = drop_of_length-le (range_with_len 1 m) (let s = length-range_with_len 1 m in omega (arith, s, e, h))

-- one child more, where there is one
pub appends-child : (old new : List Cond) (o : Outcome CondTree) (j : Counts) (a : Result Cond GroundFault) (r : Result ⊤ GroundFault) → Gives o j a →
    MatchResult a (λ c. MatchResult r (λ u. new ≡ old ++ c ∷ []) (λ e. e ≡ Memory)) (λ e. r ≡ Err e) → Appends (alone o) old new j r
appends-child old new o j (Ok c) r h m = appends-one old new o c j r h m
appends-child old new o j (Err e) r h m = subst (Appends (alone o) old new j) (sym m) (alone-fault o e h)

-- a part more before the conditions come together
pub gathered : (o : Outcome (List CondTree)) (more : List CondTree → Counts → Outcome (List CondTree)) (f : List CondTree → CondTree) (cs ds : List CondTree) (i j : Counts) (r : Result Cond GroundFault) →
    o ≡ Done cs i → more cs i ≡ Done ds j → MatchResult r (λ c. cond_view c ≡ f ds) (λ e. e ≡ Memory) →
    Gives (and_then (List CondTree) CondTree o (λ x k. and_then (List CondTree) CondTree (more x k) (λ y l. Done (f y) l))) j r
gathered o more f cs ds i j r e g h =
    subst (λ u. Gives u j r) (sym (then-done (List CondTree) CondTree o (λ x k. and_then (List CondTree) CondTree (more x k) (λ y l. Done (f y) l)) cs i e)) (gives-made (List CondTree) (more cs i) f ds j r g h)

pub gathered-fault : (o : Outcome (List CondTree)) (more : List CondTree → Counts → Outcome (List CondTree)) (f : List CondTree → CondTree) (cs : List CondTree) (i : Counts) (e : GroundFault) →
    o ≡ Done cs i → IsFault (List CondTree) (more cs i) e →
    IsFault CondTree (and_then (List CondTree) CondTree o (λ x k. and_then (List CondTree) CondTree (more x k) (λ y l. Done (f y) l))) e
gathered-fault o more f cs i e h g =
    subst (λ u. IsFault CondTree u e) (sym (then-done (List CondTree) CondTree o (λ x k. and_then (List CondTree) CondTree (more x k) (λ y l. Done (f y) l)) cs i h)) (then-fault (List CondTree) CondTree (more cs i) _ e g)

-- an object that is given exactly where it is open
pub open-none : (b : Bool) (o : ℕ) → (let x : ObjId = record { 0 = o } in None ≡ cond b (Some x) None) → b ≡ false
open-none true o e = cc
open-none false o e = refl

pub open-some : (b : Bool) (o : ℕ) (y : ObjId) → (let x : ObjId = record { 0 = o } in Some y ≡ cond b (Some x) None) → (b ≡ true) × (y.0 ≡ o)
open-some true o y e = (refl, let f : y ≡ record { 0 = o } = cc in ap (λ (z : ObjId). z.0) f)
open-some false o y e = cc

-- the absence of an object as one part more
module _ (p : ProblemData) (m : Manner) (o : ℕ) (cs : List CondTree) (k : Counts) (a : absent_truth m ≡ true) (b : (object_of p o).may_be_absent ≡ true) where
  abbrev one-more : Counts → Counts → Outcome (List CondTree)
  one-more j same = Done (cs ++ (shape_is o (absent_place (object_of p o)) ∷ [])) j

  absence-is : add_absence p m o cs k ≡ and_then Counts (List CondTree) (within_limits (one_leaf k)) one-more
  absence-is = (λ i. cond (a i && b i) (and_then Counts (List CondTree) (within_limits (one_leaf k)) one-more) (Done cs k))

  pub absence-made : (ds : List CondTree) (j : Counts) → within_limits (one_leaf k) ≡ Done j j → ds ≡ cs ++ (shape_is o (absent_place (object_of p o)) ∷ []) → add_absence p m o cs k ≡ Done ds j
  absence-made ds j w e = absence-is ∙ then-done Counts (List CondTree) (within_limits (one_leaf k)) one-more j j w ∙ ap (λ l. Done l j) (sym e)

  pub absence-fault : (e : GroundFault) → IsFault Counts (within_limits (one_leaf k)) e → IsFault (List CondTree) (add_absence p m o cs k) e
  absence-fault e h = subst (λ u. IsFault (List CondTree) u e) (sym absence-is) (then-fault Counts (List CondTree) (within_limits (one_leaf k)) one-more e h)
