-- The names of a problem are right where it stands at other places, and what statements see there.
use Rattle.std.proofs.Common.{◌≡◌, ◌<◌, ℕ, zero, suc, Bool, true, false, List, [], ◌∷◌, ◌++◌, length, get_or, cond, inl, inr, refl, sym, ap, ◌∙◌, subst, arith}
use Rattle.std.specs.Prelude.{nat_lt, Option, None, Some}
use Rattle.std.specs.Option.{option_map_or}
use Rattle.std.specs.List.{Contains}
use Rattle.std.specs.Str.{bytes_eq}
use Rattle.std.proofs.lemmas.Bool.{cases_order}
use Rattle.std.proofs.lemmas.Bool.Decides.{nat_tests}
use Rattle.std.proofs.lemmas.List.{length-map}
use Rattle.std.proofs.lemmas.List.Quantifiers.{position-Some}
use Rattle.problem_data.specs.Problem.{MacroData, RuleData, ProblemData}
use Rattle.problem_data.specs.SomeRules.{no_rule}
use Rattle.problem_data.specs.Value.{macro_position}
use Rattle.problem_data.specs.Truth.{macro_of}
use Rattle.problem_text.specs.ReadBack.{bare_macro, bare_rule, bare_problem, MacrosRise, IsInOrder}
use Rattle.rule_names.specs.Sight.{macro_before, macro_called}
use Rattle.rule_names.specs.Names.{body_mistakes, macros_mistakes, demand_mistakes, rules_mistakes, mistakes}
use Rattle.rule_names.specs.Answers.{AreNamesRight}
use Rattle.bare_rules.specs.Bare.{rule_of, KeepsSight}
use Rattle.bare_rules.proofs.Bare.{macro_bare, rule_bare, position_bare}
use Rattle.bare_rules.proofs.Names.{Sees, body_alike, demand_alike}

-- ---- no mistakes

none_of : {A : Type 0} (xs : List A) → ((x : A) → Contains xs x → ⊥) → xs ≡ []
none_of [] h = refl
none_of (x ∷ xs) h = absurd (h x (0, omega arith, refl))

none_in : {A : Type 0} (xs : List A) (x : A) → xs ≡ [] → Contains xs x → ⊥
none_in [] x e c = (let l = c.1 in omega (arith, l))
none_in (y ∷ xs) x e c = absurd cc

both_none : {A : Type 0} (xs ys : List A) → xs ++ ys ≡ [] → (xs ≡ []) × (ys ≡ [])
both_none [] ys e = (refl, e)
both_none (x ∷ xs) ys e = absurd cc

-- the macro or the rule has none
abbrev IsRightMacro : ProblemData → MacroData → Type 0
IsRightMacro p d = body_mistakes p d.place d.params d.body ≡ []

abbrev IsRightRule : ProblemData → RuleData → Type 0
IsRightRule p r = demand_mistakes p r.place r.demand ≡ []

each_macro : (p : ProblemData) (ds : List MacroData) → macros_mistakes p ds ≡ [] → (k : ℕ) (d : MacroData) → k < length ds → IsRightMacro p (get_or ds k d)
each_macro p [] e k d l = absurd (omega (arith, l))
each_macro p (x ∷ rest) e zero d l = (both_none (body_mistakes p x.place x.params x.body) (macros_mistakes p rest) e).0
each_macro p (x ∷ rest) e (suc k) d l = each_macro p rest (both_none (body_mistakes p x.place x.params x.body) (macros_mistakes p rest) e).1 k d (omega (arith, l))

macros_none : (p : ProblemData) (ds : List MacroData) (d : MacroData) → ((k : ℕ) → k < length ds → IsRightMacro p (get_or ds k d)) → macros_mistakes p ds ≡ []
macros_none p [] d h = refl
macros_none p (x ∷ rest) d h = λ i. h 0 (omega arith) i ++ macros_none p rest d (λ k l. h (suc k) (omega (arith, l))) i

each_rule : (p : ProblemData) (rs : List RuleData) → rules_mistakes p rs ≡ [] → (k : ℕ) (d : RuleData) → k < length rs → IsRightRule p (get_or rs k d)
each_rule p [] e k d l = absurd (omega (arith, l))
each_rule p (r ∷ rest) e zero d l = (both_none (demand_mistakes p r.place r.demand) (rules_mistakes p rest) e).0
each_rule p (r ∷ rest) e (suc k) d l = each_rule p rest (both_none (demand_mistakes p r.place r.demand) (rules_mistakes p rest) e).1 k d (omega (arith, l))

rules_none : (p : ProblemData) (rs : List RuleData) (d : RuleData) → ((k : ℕ) → k < length rs → IsRightRule p (get_or rs k d)) → rules_mistakes p rs ≡ []
rules_none p [] d h = refl
rules_none p (r ∷ rest) d h = λ i. h 0 (omega arith) i ++ rules_none p rest d (λ k l. h (suc k) (omega (arith, l))) i

-- past the end of a list of macros
abbrev no_macro : MacroData
no_macro = macro_of (record { version = 0; dims = 0; shapes = []; objects = []; macros = []; rules = []; order = []; sides = [] }) 0

-- ---- two problems that are the same without their places

module _ (p q : ProblemData) (same : bare_problem p ≡ bare_problem q) where
  position_same : (n : List ℕ) → macro_position p n ≡ macro_position q n
  position_same n = sym (position_bare p n) ∙ ap (λ (x : ProblemData). macro_position x n) same ∙ position_bare q n

  macro_same : (k : ℕ) → bare_macro (macro_of p k) ≡ bare_macro (macro_of q k)
  macro_same k = sym (macro_bare p k) ∙ ap (λ (x : ProblemData). macro_of x k) same ∙ macro_bare q k

  rule_same : (k : ℕ) → bare_rule (rule_of p k) ≡ bare_rule (rule_of q k)
  rule_same k = sym (rule_bare p k) ∙ ap (λ (x : ProblemData). rule_of x k) same ∙ rule_bare q k

  macros_many : length p.macros ≡ length q.macros
  macros_many = sym (length-map p.macros bare_macro) ∙ ap (λ (x : ProblemData). length x.macros) same ∙ length-map q.macros bare_macro

  rules_many : length p.rules ≡ length q.rules
  rules_many = sym (length-map p.rules bare_rule) ∙ ap (λ (x : ProblemData). length x.rules) same ∙ length-map q.rules bare_rule

  -- ---- what a statement at n in p sees, one at m in q sees

  module _ (n m : ℕ) (keeps : (k : ℕ) → k < length p.macros → (macro_of p k).place < n → (macro_of q k).place < m) where
    by_test : (name : List ℕ) (d : MacroData) (k : ℕ) → macro_position p name ≡ Some k → (b : Bool) → nat_lt (macro_of p k).place n ≡ b → cond b (Some (macro_of p k)) None ≡ Some d
        → (e : MacroData) × (macro_called q m name ≡ Some e) × (bare_macro d ≡ bare_macro e)
    by_test name d k at false t h = absurd cc
    by_test name d k at true t h =
        let there : k < length p.macros = (position-Some (λ (x : MacroData). bytes_eq name x.name) p.macros k no_macro at).0 in
        let before : (macro_of p k).place < n = grind (arith, nat_tests) in
        let behind : (macro_of q k).place < m = keeps k there before in
        let test : nat_lt (macro_of q k).place m ≡ true = grind (arith, nat_tests) in
        let is : macro_of p k ≡ d = cc in (
          macro_of q k,
          ap (λ (o : Option ℕ). option_map_or (macro_before q m) o None) (sym (position_same name) ∙ at) ∙ ap (λ (b : Bool). cond b (Some (macro_of q k)) None) test,
          sym (ap bare_macro is) ∙ macro_same k,
        )

    by_position : (name : List ℕ) (d : MacroData) (o : Option ℕ) → macro_position p name ≡ o → option_map_or (macro_before p n) o None ≡ Some d
        → (e : MacroData) × (macro_called q m name ≡ Some e) × (bare_macro d ≡ bare_macro e)
    by_position name d None at h = absurd cc
    by_position name d (Some k) at h = by_test name d k at (nat_lt (macro_of p k).place n) refl h

    seen : Sees p q n m
    seen name d h = by_position name d (macro_position p name) refl h

  -- ---- names

  abbrev moved : ProblemData
  moved = record p { macros = q.macros; rules = q.rules }

  moved_is : moved ≡ q
  moved_is = λ i. record {
    version = (same i).version;
    dims = (same i).dims;
    shapes = (same i).shapes;
    objects = (same i).objects;
    macros = q.macros;
    rules = q.rules;
    order = (same i).order;
    sides = (same i).sides;
  }

  itself : (n : ℕ) → Sees moved moved n n
  itself n name d h = (d, h, refl)

  right_macro : (keeps : KeepsSight p q) (k : ℕ) → k < length p.macros → IsRightMacro p (macro_of p k) → IsRightMacro moved (macro_of q k)
  right_macro keeps k l right =
      let d : MacroData = macro_of p k in
      let e : MacroData = macro_of q k in
      let bared : body_mistakes moved e.place (bare_macro d).params (bare_macro d).body ≡ [] =
      (body_alike p q.macros q.rules d.place e.place (seen d.place e.place (λ j there before. keeps.macros j k there l before)) d.params d.body).bared right in
      (body_alike moved q.macros q.rules e.place e.place (itself e.place) e.params e.body).placed
      (subst (λ (x : MacroData). body_mistakes moved e.place x.params x.body ≡ []) (macro_same k) bared)

  right_rule : (keeps : KeepsSight p q) (k : ℕ) → k < length p.rules → IsRightRule p (rule_of p k) → IsRightRule moved (rule_of q k)
  right_rule keeps k l right =
      let r : RuleData = rule_of p k in
      let s : RuleData = rule_of q k in
      let bared : demand_mistakes moved s.place (bare_rule r).demand ≡ [] =
      (demand_alike p q.macros q.rules r.place s.place (seen r.place s.place (λ j there before. keeps.rules j k there l before)) r.demand).bared right in
      (demand_alike moved q.macros q.rules s.place s.place (itself s.place) s.demand).placed
      (subst (λ (x : RuleData). demand_mistakes moved s.place x.demand ≡ []) (rule_same k) bared)

  pub right_again : KeepsSight p q → AreNamesRight p → AreNamesRight q
  right_again keeps right =
      let none = both_none (macros_mistakes p p.macros) (rules_mistakes p p.rules) (none_of (mistakes p) right) in
      let macros : macros_mistakes moved q.macros ≡ [] =
      macros_none moved q.macros no_macro (λ k l. let there : k < length p.macros = omega (arith, l, macros_many) in right_macro keeps k there (each_macro p p.macros none.0 k no_macro there)) in
      let rules : rules_mistakes moved q.rules ≡ [] =
      rules_none moved q.rules no_rule (λ k l. let there : k < length p.rules = omega (arith, l, rules_many) in right_rule keeps k there (each_rule p p.rules none.1 k no_rule there)) in
      subst AreNamesRight moved_is (λ m. none_in (mistakes moved) m (λ i. macros i ++ rules i))

  -- ---- macros in order

  in_order : (rise : MacrosRise p) (i j : ℕ) → i < length p.macros → (macro_of p i).place < (macro_of p j).place → i < j
  in_order rise i j there before = elim (cases_order i j) [
    | inl e ↦ absurd (let k : (macro_of p i).place ≡ (macro_of p j).place = ap (λ (n : ℕ). (macro_of p n).place) e in omega (arith, k, before))
    | inr (inl less) ↦ less
    | inr (inr more) ↦ absurd (let k : (macro_of p j).place < (macro_of p i).place = rise j i no_macro more there in omega (arith, k, before))
  ]

  pub first_keeps : MacrosRise p → IsInOrder q → KeepsSight p q
  first_keeps rise first = record {
    macros = λ i j there here before. first.macros i j no_macro (in_order rise i j there before) (omega (arith, here, macros_many));
    rules = λ i j there here before. first.rules j no_rule (omega (arith, here, rules_many)) i no_macro (omega (arith, there, macros_many));
  }
