-- Rule after rule: what was given so far, before what the rest gives.
use Rattle.std.proofs.Common.{◌≡◌, ℕ, ◌+◌, ◌<◌, ◌≤◌, List, [], ◌∷◌, ◌++◌, length, map, drop, get_or, append-nil, append_assoc, sym, ap, ◌∙◌, refl, subst}
use Rattle.std.specs.Prelude.{Result, Ok, Err, All}
use Rattle.std.proofs.lemmas.List.{drop_more, length-map}
use Rattle.std.proofs.Math.ListN.{drop_of_length-le, get_or-map}
use Rattle.geo_tokens.specs.declared.fault.TextFault.{TextFault}
use Rattle.geo_conditions.specs.declared.cond.Cond.{Cond}
use Rattle.problem_data.specs.Problem.{ProblemData}
use Rattle.rule_expand.specs.Rules.{PlainRuleData, plain_rule_data}
use Rattle.rule_expand.specs.declared.plain.PlainRule.{PlainRule}
use Rattle.linear_conditions.specs.CondTree.{CondTree, cond_view}
use Rattle.linear_conditions.specs.Counts.{Counts, Outcome, Fault, Done, and_then, within_limits}
use Rattle.linear_conditions.specs.Faults.{IsFault}
use Rattle.linear_conditions.specs.declared.fault.GroundFault.{GroundFault}
use Rattle.linear_conditions.specs.declared.fault.GroundFault.TheVariants.{Overflow, TooMany, Memory}
use Rattle.rule_ground.specs.Answers.{behind}
use Rattle.rule_ground.specs.Faults.{IsRulesFault, fault_at}
use Rattle.rule_ground.specs.Rules.{as_leaves, before, before_rest, ground_demand, ground_rules}
use Rattle.rule_ground.proofs.Behind.{then-done, then-fault}

-- a step that gives these conditions
pub given-behind : (cs ds : List CondTree) (o : Outcome (List CondTree)) (new : List CondTree) (k : Counts) → o ≡ Done ds k → new ≡ cs ++ ds → behind cs o ≡ Done new k
unfolding behind and_then
given-behind cs ds o new k e h = ap (behind cs) e ∙ ap (λ l. Done l k) (sym h)

before-before : (cs bs : List CondTree) (r : Result (List CondTree) TextFault) → before cs (before bs r) ≡ before (cs ++ bs) r
before-before cs bs (Ok ds) = ap Ok (sym (append_assoc cs bs ds))
before-before cs bs (Err e) = refl

-- where there are conditions, they are those before and those of the rest
pub before-parts : (cs all : List CondTree) (r : Result (List CondTree) TextFault) → before cs r ≡ Ok all → (ds : List CondTree) × (r ≡ Ok ds) × (all ≡ cs ++ ds)
before-parts cs all (Ok ds) e = (ds, refl, (let f : cs ++ ds ≡ all = cc in sym f))
before-parts cs all (Err x) e = cc

stepped : (cs ds : List CondTree) (place : ℕ) (o : Outcome (List CondTree)) (rest : Counts → Result (List CondTree) TextFault) (j : Counts) → behind cs o ≡ Done ds j → before cs (before_rest place o rest) ≡ before ds (rest j)
unfolding behind and_then before_rest
stepped cs ds place (Fault w) rest j h = cc
stepped cs ds place (Done bs m) rest j h =
    let e : cs ++ bs ≡ ds = cc in
    let f : m ≡ j = cc in
    before-before cs bs (rest m) ∙ (λ i. before (e i) (rest (f i)))

failed : (cs : List CondTree) (place : ℕ) (o : Outcome (List CondTree)) (rest : Counts → Result (List CondTree) TextFault) (e : GroundFault) → IsFault (List CondTree) o e → IsRulesFault (before cs (before_rest place o rest)) (fault_at place e)
unfolding before_rest
failed cs place o rest Overflow h = ap (λ u. before cs (before_rest place u rest)) h
failed cs place o rest TooMany h = ap (λ u. before cs (before_rest place u rest)) h
failed cs place o rest Memory h = tt

same-rules-fault : (r q : Result (List CondTree) TextFault) (e : TextFault) → r ≡ q → IsRulesFault q e → IsRulesFault r e
same-rules-fault r q e h i = subst (λ u. IsRulesFault u e) (sym h) i

rules-at : (rules : List PlainRule) (i : ℕ) (r : PlainRule) → i < length rules → r ≡ get_or rules i r → map plain_rule_data (drop i rules) ≡ plain_rule_data r ∷ map plain_rule_data (drop (i + 1) rules)
rules-at rules i r h e = ap (map plain_rule_data) (drop_more rules i r h) ∙ ap (λ y. plain_rule_data y ∷ map plain_rule_data (drop (i + 1) rules)) (sym e)

pub rules-init : (cs : List CondTree) (rest : Result (List CondTree) TextFault) (out more : List Cond) → out ≡ [] → map cond_view more ≡ map cond_view out ++ cs → before cs rest ≡ before (map cond_view more) rest
rules-init cs rest out more e h = ap (λ l. before l rest) (sym (h ∙ ap (λ l. map cond_view l ++ cs) e))

pub rules-step : (p : ProblemData) (whole : Result (List CondTree) TextFault) (rules : List PlainRule) (i : ℕ) (r : PlainRule) (k j : Counts) (out more : List Cond) →
    whole ≡ before (map cond_view out) (ground_rules p (map plain_rule_data (drop i rules)) k) → i < length rules → r ≡ get_or rules i r →
    behind (map cond_view out) (ground_demand p (plain_rule_data r).demand k) ≡ Done (map cond_view more) j → whole ≡ before (map cond_view more) (ground_rules p (map plain_rule_data (drop (i + 1) rules)) j)
rules-step p whole rules i r k j out more w h e g =
    w ∙ ap (λ l. before (map cond_view out) (ground_rules p l k)) (rules-at rules i r h e)
    ∙ stepped (map cond_view out) (map cond_view more) r.place (ground_demand p (plain_rule_data r).demand k) (λ m. ground_rules p (map plain_rule_data (drop (i + 1) rules)) m) j g

pub rules-fault : (p : ProblemData) (whole : Result (List CondTree) TextFault) (rules : List PlainRule) (i : ℕ) (r : PlainRule) (k : Counts) (out : List Cond) (e : GroundFault) (f : TextFault) →
    whole ≡ before (map cond_view out) (ground_rules p (map plain_rule_data (drop i rules)) k) → i < length rules → r ≡ get_or rules i r → IsFault (List CondTree) (ground_demand p (plain_rule_data r).demand k) e → f ≡ fault_at r.place e → IsRulesFault whole f
rules-fault p whole rules i r k out e f w h q g t =
    subst (IsRulesFault whole) (sym t)
    (same-rules-fault whole _ (fault_at r.place e) (w ∙ ap (λ l. before (map cond_view out) (ground_rules p l k)) (rules-at rules i r h q))
    (failed (map cond_view out) r.place (ground_demand p (plain_rule_data r).demand k) (λ m. ground_rules p (map plain_rule_data (drop (i + 1) rules)) m) e g))

pub rules-end : (p : ProblemData) (whole : Result (List CondTree) TextFault) (rules : List PlainRule) (i : ℕ) (k : Counts) (out : List Cond) →
    whole ≡ before (map cond_view out) (ground_rules p (map plain_rule_data (drop i rules)) k) → length rules ≤ i → whole ≡ Ok (map cond_view out)
rules-end p whole rules i k out w h =
    w ∙ ap (λ l. before (map cond_view out) (ground_rules p (map plain_rule_data l) k)) (drop_of_length-le rules h) ∙ ap Ok (append-nil (map cond_view out))

-- conditions each of which is a leaf
pub leaves-given : (cs : List CondTree) (k j : Counts) (n : ℕ) (old new : List CondTree) → n ≡ length cs → within_limits (record k { leaves = k.leaves + n }) ≡ Done j j → new ≡ old ++ cs → behind old (as_leaves cs k) ≡ Done new j
leaves-given cs k j n old new e h g =
    given-behind old cs (as_leaves cs k) new j
    (then-done Counts (List CondTree) (within_limits (record k { leaves = k.leaves + length cs })) (λ k' same. Done cs k') j j (ap (λ m. within_limits (record k { leaves = k.leaves + m })) (sym e) ∙ h)) g

pub leaves-fault : (cs : List CondTree) (k : Counts) (n : ℕ) (e : GroundFault) → n ≡ length cs → IsFault Counts (within_limits (record k { leaves = k.leaves + n })) e → IsFault (List CondTree) (as_leaves cs k) e
leaves-fault cs k n e l h =
    then-fault Counts (List CondTree) (within_limits (record k { leaves = k.leaves + length cs })) (λ k' same. Done cs k') e
    (subst (λ m. IsFault Counts (within_limits (record k { leaves = k.leaves + m })) e) l h)

-- what holds of each rule's data holds of a rule's
pub rule-there : (P : PlainRuleData → Type 0) (rules : List PlainRule) (i : ℕ) (r : PlainRule) → i < length rules → r ≡ get_or rules i r → All P (map plain_rule_data rules) → P (plain_rule_data r)
rule-there P rules i r h e all =
    subst P (get_or-map plain_rule_data rules i r ∙ ap plain_rule_data (sym e)) (all i (plain_rule_data r) (subst (λ n. i < n) (sym (length-map rules plain_rule_data)) h))
