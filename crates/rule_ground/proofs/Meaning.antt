-- On each wide tuple all conditions of a problem are true exactly where it is a layout.
use Rattle.std.proofs.Common.{◌≡◌, ◌↔◌, ◌&&◌, ℕ, Bool, true, false, cond, List, [], ◌∷◌, ◌++◌, map, get_or, refl, sym, ap, ◌∙◌, subst}
use Rattle.std.specs.Prelude.{All, Result, Ok, Err, Option, None, Some}
use Rattle.std.specs.Option.{option_map_or}
use Rattle.geo_tokens.specs.declared.fault.TextFault.TheVariants as faults
use Rattle.geo_tokens.specs.declared.fault.FaultWord.TheVariants.{Expand, Product}
use Rattle.std.specs.List.{list_all}
use Rattle.std.proofs.lemmas.List.Elements.{All-nil, All-cons, All-head, All-tail, All-map, All-append}
use Rattle.geo_base.specs.Tuple.{Tuple}
use Rattle.geo_tokens.specs.declared.fault.TextFault.{TextFault}
use Rattle.geo_conditions.specs.declared.cond.Cond.{Cond}
use Rattle.geo_conditions.specs.Conditions.{holds, AllHold}
use Rattle.problem_data.specs.Problem.{DemandData, RuleData, ProblemData}
use Rattle.problem_data.specs.Problem as written
use Rattle.problem_data.specs.Cells.{IsApart, IsWithin, IsShaped, IsTuple, IsWideTuple}
use Rattle.problem_data.specs.Layouts.{DemandHolds, IsLayout}
use Rattle.problem_data.specs.WellFormed.{IsDemand, IsWellFormed}
use Rattle.rule_expand.specs.PlainTruth.{plain_holds}
use Rattle.rule_expand.specs.Rules.{PlainDemand, apart, within, plain, PlainRuleData, demand_expanded, rule_expanded, rules_expanded, expansion_fault, first_place, is_large, multiplies_coordinates}
use Rattle.rule_expand.proofs.Expanded.{expanded-holds}
use Rattle.linear_conditions.specs.CondTree.{CondTree, cond_view, true_on}
use Rattle.linear_conditions.specs.Counts.{Counts, Outcome, Fault, Done, OnDone}
use Rattle.linear_conditions.proofs.CondViews.{view-true}
use Rattle.linear_conditions.proofs.Outcomes.{on_done, on_then, on_any}
use Rattle.rule_ground.specs.Apart.{apart_conditions}
use Rattle.rule_ground.specs.Within.{within_conditions}
use Rattle.rule_ground.specs.Faults.{HasRanges}
use Rattle.rule_ground.specs.Own.{own_conditions}
use Rattle.rule_ground.specs.Rules.{conds_of, ground_demand, ground_rules, grounded, no_counts, before, before_rest}
use Rattle.rule_ground.proofs.Truths.{all-left, all-right}
use Rattle.rule_ground.proofs.ApartTruth.{IsTrueOn, apart-out, apart-in}
use Rattle.rule_ground.proofs.WithinTruth.{within-out, within-in}
use Rattle.rule_ground.proofs.OwnTruth.{own-out, own-in}
use Rattle.rule_ground.proofs.RuleSteps.{before-parts}
use Rattle.rule_ground.proofs.Sound.{Each}
use Rattle.rule_ground.proofs.NamedSound.{named-true}
use Rattle.rule_ground.proofs.FlatTruth.{flat-true}

shaped : (p : ProblemData) (t : Tuple) → IsTuple p t → IsShaped p t
shaped p t h = record { objects = h.objects; each = λ o l. (h.each o l).form }

-- what a rule without macros asks for is so on the tuple
abbrev PlainHolds : ProblemData → Tuple → PlainDemand → Type 0
PlainHolds p t apart = IsApart p t
PlainHolds p t (within ranges) = IsWithin p ranges t
PlainHolds p t (plain f) = plain_holds p t f [] ≡ true

and-left : (a b : Bool) → (a && b) ≡ true → a ≡ true
and-left true b h = refl
and-left false b h = h

and-right : (a b : Bool) → (a && b) ≡ true → b ≡ true
and-right true b h = h
and-right false b h = cc

and-both : (a b : Bool) → a ≡ true → b ≡ true → (a && b) ≡ true
and-both a b h k = ap (λ x. x && b) h ∙ k

all-in : (t : Tuple) (cs : List CondTree) → list_all (true_on t) cs ≡ true → All (IsTrueOn t) cs
all-in t [] h = All-nil (IsTrueOn t)
all-in t (c ∷ cs) h = All-cons (IsTrueOn t) c cs (and-left (true_on t c) (list_all (true_on t) cs) h) (all-in t cs (and-right (true_on t c) (list_all (true_on t) cs) h))

all-out : (t : Tuple) (cs : List CondTree) → All (IsTrueOn t) cs → list_all (true_on t) cs ≡ true
all-out t [] h = refl
all-out t (c ∷ cs) h = and-both (true_on t c) (list_all (true_on t) cs) (All-head (IsTrueOn t) c cs h) (all-out t cs (All-tail (IsTrueOn t) c cs h))

demand-sound : (p : ProblemData) (t : Tuple) (d : PlainDemand) (k : Counts) → IsWellFormed p → IsTuple p t → HasRanges p d → multiplies_coordinates d ≡ false →
    OnDone (List CondTree) (ground_demand p d k) (λ cs. All (IsTrueOn t) cs ↔ PlainHolds p t d)
demand-sound p t apart k w h r b =
    on_any Counts (List CondTree) _ _ _ (λ k' j. on_done (List CondTree) (apart_conditions p) k' _ ((λ a. apart-out p t (shaped p t h) a), (λ f. apart-in p t w (shaped p t h) f)))
demand-sound p t (within ranges) k w h r b =
    on_any Counts (List CondTree) _ _ _ (λ k' j. on_done (List CondTree) (within_conditions p ranges) k' _ ((λ a. within-out p ranges t (shaped p t h) r.0 a), (λ f. within-in p ranges t w (shaped p t h) r.0 f)))
demand-sound p t (plain f) k w h r b =
    on_then CondTree (List CondTree) _ _ _ _ (named-true p t f k h b) (λ c k' e.
    on_done (List CondTree) (conds_of c) k' _ ((λ a. sym e ∙ sym (flat-true t c) ∙ all-out t (conds_of c) a), (λ g. all-in t (conds_of c) (flat-true t c ∙ e ∙ g))))

-- what is known of each rule
abbrev IsRight : ProblemData → PlainRuleData → Type 0
IsRight p r = HasRanges p r.demand × (multiplies_coordinates r.demand ≡ false)

joined : (p : ProblemData) (t : Tuple) (r : PlainRuleData) (rest : List PlainRuleData) (bs ds : List CondTree) → All (IsTrueOn t) bs ↔ PlainHolds p t r.demand → All (IsTrueOn t) ds ↔ Each (λ (q : PlainRuleData). PlainHolds p t q.demand) rest →
    All (IsTrueOn t) (bs ++ ds) ↔ Each (λ (q : PlainRuleData). PlainHolds p t q.demand) (r ∷ rest)
joined p t r rest bs ds f g = (
  (λ a. (f.0 (all-left (IsTrueOn t) bs ds a), g.0 (all-right (IsTrueOn t) bs ds a))),
  (λ h. All-append (IsTrueOn t) bs ds (f.1 h.0) (g.1 h.1)),
)

-- what the rest of the rules means
abbrev RestMeans : ProblemData → Tuple → List PlainRuleData → Type 0
RestMeans p t rest = (j : Counts) (ds : List CondTree) → ground_rules p rest j ≡ Ok ds → All (IsTrueOn t) ds ↔ Each (λ (s : PlainRuleData). PlainHolds p t s.demand) rest

by_rest : (p : ProblemData) (t : Tuple) (r : PlainRuleData) (rest : List PlainRuleData) (k : Counts) (cs : List CondTree) → IsWellFormed p → IsTuple p t → IsRight p r → RestMeans p t rest →
    (bs : List CondTree) (j : Counts) (q : Result (List CondTree) TextFault) → ground_rules p rest j ≡ q → ground_demand p r.demand k ≡ Done bs j → before bs q ≡ Ok cs → All (IsTrueOn t) cs ↔ Each (λ (s : PlainRuleData). PlainHolds p t s.demand) (r ∷ rest)
by_rest p t r rest k cs w h one ih bs j (Err x) g i m = cc
by_rest p t r rest k cs w h one ih bs j (Ok ds) g i m =
    let f : bs ++ ds ≡ cs = cc in
    subst (λ l. All (IsTrueOn t) l ↔ Each (λ (s : PlainRuleData). PlainHolds p t s.demand) (r ∷ rest)) f
    (joined p t r rest bs ds ((demand-sound p t r.demand k w h one.0 one.1).get bs j i) (ih j ds g))

by_outcome : (p : ProblemData) (t : Tuple) (r : PlainRuleData) (rest : List PlainRuleData) (k : Counts) (cs : List CondTree) → IsWellFormed p → IsTuple p t → IsRight p r → RestMeans p t rest →
    (o : Outcome (List CondTree)) → ground_demand p r.demand k ≡ o → before_rest r.place o (λ k'. ground_rules p rest k') ≡ Ok cs → All (IsTrueOn t) cs ↔ Each (λ (s : PlainRuleData). PlainHolds p t s.demand) (r ∷ rest)
unfolding before_rest
by_outcome p t r rest k cs w h one ih (Fault x) i m = cc
by_outcome p t r rest k cs w h one ih (Done bs j) i m = by_rest p t r rest k cs w h one ih bs j (ground_rules p rest j) refl i m

rules-sound : (p : ProblemData) (t : Tuple) (rs : List PlainRuleData) → IsWellFormed p → IsTuple p t → Each (IsRight p) rs → RestMeans p t rs
rules-sound p t [] w h each k cs e =
    let f : [] ≡ cs = cc in
    ((λ a. tt), (λ u. subst (All (IsTrueOn t)) f (All-nil (IsTrueOn t))))
rules-sound p t (r ∷ rest) w h each k cs e = by_outcome p t r rest k cs w h each.0 (rules-sound p t rest w h each.1) (ground_demand p r.demand k) refl e

-- ---- the rules of the problem

demand-same : (p : ProblemData) (t : Tuple) (d : DemandData) → PlainHolds p t (demand_expanded p d) ↔ DemandHolds p t d
demand-same p t written.apart = ((λ h. h), (λ h. h))
demand-same p t (written.within ranges) = ((λ h. h), (λ h. h))
demand-same p t (written.plain f) = ((λ h. sym (expanded-holds p t f) ∙ h), (λ h. expanded-holds p t f ∙ h))

pub expanded-ranges : (p : ProblemData) (d : DemandData) → IsDemand p.dims d → HasRanges p (demand_expanded p d)
expanded-ranges p written.apart h = tt
expanded-ranges p (written.within ranges) h = (h.0, h.1)
expanded-ranges p (written.plain f) h = tt

pub all-ranges : (p : ProblemData) → IsWellFormed p → All (λ (r : PlainRuleData). HasRanges p r.demand) (rules_expanded p)
all-ranges p w = All-map (λ (r : PlainRuleData). HasRanges p r.demand) (rule_expanded p) p.rules (λ k d l. expanded-ranges p (get_or p.rules k d).demand (w.demands k d l))

none-breaks : (rs : List PlainRuleData) (b : Bool) (r : PlainRuleData) → multiplies_coordinates r.demand ≡ b → first_place multiplies_coordinates (r ∷ rs) ≡ None → (b ≡ false) × (first_place multiplies_coordinates rs ≡ None)
none-breaks rs true r e h = let f : Some r.place ≡ None = sym (ap (λ c. cond c (Some r.place) (first_place multiplies_coordinates rs)) e) ∙ h in cc
none-breaks rs false r e h = (refl, sym (ap (λ c. cond c (Some r.place) (first_place multiplies_coordinates rs)) e) ∙ h)

each-right : (p : ProblemData) (rules : List RuleData) → All (λ (r : RuleData). IsDemand p.dims r.demand) rules → first_place multiplies_coordinates (map (rule_expanded p) rules) ≡ None → Each (IsRight p) (map (rule_expanded p) rules)
each-right p [] w h = tt
each-right p (r ∷ rules) w h =
    let n = none-breaks (map (rule_expanded p) rules) (multiplies_coordinates (demand_expanded p r.demand)) (rule_expanded p r) refl h in
    ((expanded-ranges p r.demand (All-head (λ (q : RuleData). IsDemand p.dims q.demand) r rules w), n.0), each-right p rules (All-tail (λ (q : RuleData). IsDemand p.dims q.demand) r rules w) n.1)

each-same : (p : ProblemData) (t : Tuple) (rules : List RuleData) → Each (λ (r : PlainRuleData). PlainHolds p t r.demand) (map (rule_expanded p) rules) ↔ All (λ (r : RuleData). DemandHolds p t r.demand) rules
each-same p t [] = ((λ u. All-nil (λ (r : RuleData). DemandHolds p t r.demand)), (λ a. tt))
each-same p t (r ∷ rules) = (
  (λ e. All-cons (λ (q : RuleData). DemandHolds p t q.demand) r rules ((demand-same p t r.demand).0 e.0) ((each-same p t rules).0 e.1)),
  (λ a. ((demand-same p t r.demand).1 (All-head (λ (q : RuleData). DemandHolds p t q.demand) r rules a), (each-same p t rules).1 (All-tail (λ (q : RuleData). DemandHolds p t q.demand) r rules a))),
)

second-none : (a b : Option ℕ) → option_map_or (λ place. Some (faults.At place Expand)) a (option_map_or (λ place. Some (faults.At place Product)) b None) ≡ None → b ≡ None
second-none (Some x) b h = cc
second-none None (Some y) h = cc
second-none None None h = refl

no-product : (p : ProblemData) → expansion_fault p ≡ None → first_place multiplies_coordinates (rules_expanded p) ≡ None
no-product p h = second-none (first_place is_large (rules_expanded p)) (first_place multiplies_coordinates (rules_expanded p)) h

-- the conditions of the program and their trees
pub trees-out : (t : Tuple) (cs : List Cond) → AllHold cs t → All (IsTrueOn t) (map cond_view cs)
trees-out t cs h = All-map (IsTrueOn t) cond_view cs (λ k d l. view-true t (get_or cs k d) ∙ h k d l)

pub trees-in : (t : Tuple) (cs : List Cond) → All (IsTrueOn t) (map cond_view cs) → AllHold cs t
trees-in t [] h = All-nil (λ (c : Cond). holds c t ≡ true)
trees-in t (c ∷ cs) h = All-cons (λ (c : Cond). holds c t ≡ true) c cs (sym (view-true t c) ∙ All-head (IsTrueOn t) (cond_view c) (map cond_view cs) h) (trees-in t cs (All-tail (IsTrueOn t) (cond_view c) (map cond_view cs) h))

-- of the rules alone, on a tuple
rules-meant : (p : ProblemData) (ds : List CondTree) → IsWellFormed p → expansion_fault p ≡ None → ground_rules p (rules_expanded p) no_counts ≡ Ok ds → (t : Tuple) → IsTuple p t → All (IsTrueOn t) ds ↔ All (λ (r : RuleData). DemandHolds p t r.demand) p.rules
rules-meant p ds w x e t h =
    let r = rules-sound p t (rules_expanded p) w h (each-right p p.rules w.demands (no-product p x)) no_counts ds e in
    let s = each-same p t p.rules in ((λ a. s.0 (r.0 a)), (λ a. r.1 (s.1 a)))

pub ground-meant : (p : ProblemData) (cs : List Cond) → IsWellFormed p → expansion_fault p ≡ None → grounded p ≡ Ok (map cond_view cs) → (t : Tuple) → IsWideTuple p t → AllHold cs t ↔ IsLayout p t
ground-meant p cs w x e t wide =
    let own = own_conditions p in
    let s = before-parts own (map cond_view cs) (ground_rules p (rules_expanded p) no_counts) e in (
      (λ a. let all = subst (All (IsTrueOn t)) s.2 (trees-out t cs a) in
          let is = own-out p w t wide (all-left (IsTrueOn t) own s.0 all) in
          record { tuple = is; rules = (rules-meant p s.0 w x s.1 t is).0 (all-right (IsTrueOn t) own s.0 all) }),
      (λ l. trees-in t cs (subst (All (IsTrueOn t)) (sym s.2)
          (All-append (IsTrueOn t) own s.0 (own-in p w t l.tuple) ((rules-meant p s.0 w x s.1 t l.tuple).1 l.rules)))),
    )
