-- Statements without a fault have none with some of their rules alone, and spell the problem with these.
use Rattle.std.proofs.Common.{◌≡◌, ◌<◌, ◌≤◌, ◌-◌, ℕ, zero, suc, List, [], ◌∷◌, length, take, map, get_or, inl, inr, refl, sym, ap, ◌∙◌, subst, arith}
use Rattle.std.proofs.lemmas.List.{get_or-map, length-map, length-take-le, get_or-take}
use Rattle.std.proofs.lemmas.Option.{slice_get_within, get_or_from_slice_get}
use Rattle.rule_syntax.specs.declared.tree.PlacedName.{PlacedName}
use Rattle.problem_data.specs.declared.fault.Fault.{Fault}
use Rattle.problem_data.specs.Tree.{RuleTree, apart}
use Rattle.problem_data.specs.Parts.{Parts}
use Rattle.problem_data.specs.Problem.{RuleData}
use Rattle.problem_data.specs.Limits.{most_rules}
use Rattle.problem_data.specs.Meaning.{rule_of, problem_of}
use Rattle.problem_data.specs.SomeRules.{no_rule, numbered, AreRules, with_rules}
use Rattle.problem_data.specs.Faults.{Among, PastLimit, Repeated, RuleFault, IsFault, version, dims, shapes, objects, orders, sides, macros, rules, rule_name, text_of, count_of}
use Rattle.problem_data.proofs.NoFault.{NoFault, none_among, within_limit}
use Rattle.problem_data.proofs.Sound.{texts_differ}
use Rattle.problem_data.proofs.SomeRules.{few_kept, inside, in_order}

abbrev pub no_name : PlacedName
no_name = record { place = 0; name = [] }

abbrev pub no_tree : RuleTree
no_tree = record { name = no_name; demand = apart }

abbrev pub tree_numbered : List RuleTree → ℕ → RuleTree
tree_numbered trees n = get_or trees (n - 1) no_tree

-- the statements with the rules of these numbers alone
abbrev pub with_trees : Parts → List ℕ → Parts
with_trees q keep = record q { rules = map (tree_numbered q.rules) keep }

one_spelled : (trees : List RuleTree) (k : ℕ) → rule_of (get_or trees k no_tree) ≡ get_or (map rule_of trees) k no_rule
one_spelled [] k = refl
one_spelled (t ∷ trees) zero = refl
one_spelled (t ∷ trees) (suc k) = one_spelled trees k

rules_spelled : (trees : List RuleTree) (keep : List ℕ) → map rule_of (map (tree_numbered trees) keep) ≡ map (numbered (map rule_of trees)) keep
rules_spelled trees [] = refl
rules_spelled trees (n ∷ keep) = λ i. one_spelled trees (n - 1) i ∷ rules_spelled trees keep i

pub spelled_with : (q : Parts) (keep : List ℕ) → problem_of (with_trees q keep) ≡ with_rules (problem_of q) keep
spelled_with q keep = λ i. record (problem_of q) { rules = rules_spelled q.rules keep i }

-- names of which no two are the same are not repeated
not_repeated : (names : List PlacedName) → ((i j : ℕ) → i < j → j < length names → text_of (get_or names i no_name) ≡ text_of (get_or names j no_name) → ⊥) → NoFault (Repeated names)
not_repeated names differ f w =
    let c = w.wrong.0 in
    let l : w.index < length names = slice_get_within names w.index w.item w.there in
    let long : length (take w.index names) ≡ w.index = length-take-le w.index names (omega (arith, l)) in
    let less : c.0 < w.index = (let n = length-map (take w.index names) text_of in let m = c.1 in omega (arith, n, m, long)) in
    let here : c.0 < length (take w.index names) = omega (arith, less, long) in
    let at : text_of (get_or names c.0 no_name) ≡ w.item.name = ap text_of (sym (get_or-take w.index names c.0 no_name less)) ∙ sym (get_or-map text_of (take w.index names) c.0 no_name w.item.name here) ∙ c.2 in
    differ c.0 w.index less l (at ∙ ap text_of (sym (get_or_from_slice_get names w.index w.item no_name w.there)))

module _ (q : Parts) (right : NoFault (IsFault q)) (keep : List ℕ) (kept : AreRules (problem_of q) keep) where
  abbrev names : List PlacedName
  names = map rule_name q.rules

  abbrev left : List RuleTree
  left = map (tree_numbered q.rules) keep

  as_many : length (map rule_of q.rules) ≡ length q.rules
  as_many = length-map q.rules rule_of

  some : length (map rule_name left) ≡ length keep
  some = length-map left rule_name ∙ length-map keep (tree_numbered q.rules)

  few : length (map rule_name left) ≤ most_rules
  few =
      let m : length names ≤ most_rules = within_limit most_rules names (λ f w. right f (rules (inl (inl w)))) in
      let n = length-map q.rules rule_name in
      let l = few_kept (problem_of q) keep kept in
      omega (arith, m, n, l, some, as_many)

  none_past : NoFault (PastLimit most_rules (map rule_name left))
  none_past f w =
      let l : w.index < length (map rule_name left) = slice_get_within (map rule_name left) w.index w.item w.there in
      let long : length (take w.index (map rule_name left)) ≡ w.index = length-take-le w.index (map rule_name left) (omega (arith, l)) in
      let m = w.wrong.0 in
      absurd (omega (arith, l, long, m, few))

  -- the name of a rule that is left, among all
  name_at : (k : ℕ) → k < length keep → get_or (map rule_name left) k no_name ≡ get_or names (get_or keep k 0 - 1) no_name
  name_at k l =
      let m : k < length left = (let n = length-map keep (tree_numbered q.rules) in omega (arith, n, l)) in
      let i : get_or keep k 0 - 1 < length q.rules = (let n = inside (problem_of q) keep kept k l in omega (arith, n, as_many)) in
      get_or-map rule_name left k no_tree no_name m
      ∙ ap rule_name (get_or-map (tree_numbered q.rules) keep k 0 no_tree l)
      ∙ sym (get_or-map rule_name q.rules (get_or keep k 0 - 1) no_tree no_name i)

  text_at : (k : ℕ) → k < length q.rules → get_or (map text_of names) k [] ≡ text_of (get_or names k no_name)
  text_at k l = get_or-map text_of names k no_name [] (let n = length-map q.rules rule_name in omega (arith, n, l))

  none_repeated : NoFault (Repeated (map rule_name left))
  none_repeated = not_repeated (map rule_name left) (λ i j h l e.
      let m : j < length keep = omega (arith, l, some) in
      let n : i < length keep = omega (arith, h, m) in
      let a : get_or keep i 0 - 1 < length q.rules = (let k = inside (problem_of q) keep kept i n in omega (arith, k, as_many)) in
      let b : get_or keep j 0 - 1 < length q.rules = (let k = inside (problem_of q) keep kept j m in omega (arith, k, as_many)) in
      texts_differ names (λ f w. right f (rules (inl (inr w)))) (get_or keep i 0 - 1) (get_or keep j 0 - 1) [] (in_order (problem_of q) keep kept i j h m)
      (let x = length-map names text_of in let y = length-map q.rules rule_name in omega (arith, b, x, y))
      (text_at (get_or keep i 0 - 1) a ∙ ap text_of (sym (name_at i n)) ∙ e ∙ ap text_of (name_at j m) ∙ sym (text_at (get_or keep j 0 - 1) b)))

  none_wrong : NoFault (Among (λ before. RuleFault (count_of q.dims.value)) left)
  none_wrong f w =
      let l : w.index < length left = slice_get_within left w.index w.item w.there in
      let m : w.index < length keep = (let n = length-map keep (tree_numbered q.rules) in omega (arith, n, l)) in
      let i : get_or keep w.index 0 - 1 < length q.rules = (let n = inside (problem_of q) keep kept w.index m in omega (arith, n, as_many)) in
      let is : w.item ≡ get_or q.rules (get_or keep w.index 0 - 1) no_tree = sym (get_or_from_slice_get left w.index w.item no_tree w.there) ∙ get_or-map (tree_numbered q.rules) keep w.index 0 no_tree m in
      none_among (λ before. RuleFault (count_of q.dims.value)) q.rules (λ g x. right g (rules (inr x))) (get_or keep w.index 0 - 1) no_tree i f (subst (λ (t : RuleTree). RuleFault (count_of q.dims.value) t f) is w.wrong)

  pub right_with : NoFault (IsFault (with_trees q keep))
  right_with f (version w) = right f (version w)
  right_with f (dims w) = right f (dims w)
  right_with f (shapes w) = right f (shapes w)
  right_with f (objects w) = right f (objects w)
  right_with f (orders w) = right f (orders w)
  right_with f (sides w) = right f (sides w)
  right_with f (macros w) = right f (macros w)
  right_with f (rules (inl (inl w))) = none_past f w
  right_with f (rules (inl (inr w))) = none_repeated f w
  right_with f (rules (inr w)) = none_wrong f w
