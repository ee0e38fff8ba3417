-- Macros and rules have their places in the order of their statements in the text.
use Rattle.std.proofs.Common.{◌≡◌, ℕ, zero, suc, ◌+◌, ◌<◌, ◌≤◌, List, [], ◌∷◌, ◌++◌, length, map, Some, true, false, Bool, refl, sym, ap, subst, arith}
use Rattle.std.specs.List.{All, AllPairs, filter_map}
use Rattle.geo_tokens.specs.declared.token.Token.{Token}
use Rattle.geo_tokens.specs.Words.{Kinds, names, Lang, Tok, Bind, cut, both, left, right, there, not_there, UpTo}
use Rattle.geo_tokens.specs.Cut.{Cut, here, behind_gap, behind_token, IsTokens}
use Rattle.geo_tokens.proofs.Fronts.{token_inside}
use Rattle.rule_syntax.specs.declared.tree.PlacedName.{PlacedName}
use Rattle.rule_syntax.specs.Grammar.{name_in, Named}
use Rattle.rule_print.proofs.Respelled.{AllOf, pure_is}
use Rattle.problem_data.specs.Tree.{StatementTree, a_shape, an_object, an_order, some_sides, a_macro, a_rule, ProblemTree}
use Rattle.problem_data.specs.Grammar.{shape_tree, object_tree, order_tree, sides_tree, macro_tree, rule_tree, problem_tree, is_second, ShapeWords, ObjectWords, OrderWords, SidesWords, MacroWords, RuleWords, StatementWords, ProblemWords}
use Rattle.problem_data.specs.Parts.{parts_of, as_macro, as_rule}
use Rattle.problem_data.specs.Meaning as meaning
use Rattle.problem_data.specs.Problem.{ShapeData, ObjectData, MacroData, RuleData, ProblemData}
use Rattle.problem_data.specs.Accepted.{Accepts}
use Rattle.problem_text.specs.Canonical.{shape_names, shape_spelling, object_spelling, macro_spelling, rule_spelling}
use Rattle.problem_text.specs.ReadBack.{MacrosRise, IsInOrder}
use Rattle.problem_text.proofs.PrintingParts.{all_as}
use Rattle.problem_text.proofs.PrintingStatements.{bare_statement, shape_of, object_of, macro_of, rule_of}
use Rattle.problem_text.proofs.PrintingProblem.{Line, ways, all_statements}

-- ---- tokens

-- the tokens begin one behind the other, from `low` on and before `high`
abbrev pub Rise : ℕ → ℕ → List Token → Type 0
Rise low high [] = low ≤ high
Rise low high (t ∷ ts) = (low ≤ t.start) × Rise (suc t.start) high ts

rise_lower : (less low high : ℕ) (ts : List Token) → less ≤ low → Rise low high ts
    → Rise less high ts
rise_lower less low high [] l h = omega (arith, l, h)
rise_lower less low high (t ∷ ts) l h = (let a : low ≤ t.start = h.0 in omega (arith, l, a), h.1)

rise_bound : (low high : ℕ) (ts : List Token) → Rise low high ts → low ≤ high
rise_bound low high [] h = h
rise_bound low high (t ∷ ts) h =
    let a : low ≤ t.start = h.0 in
    let b = rise_bound (suc t.start) high ts h.1 in
    omega (arith, a, b)

rise_split : (low high : ℕ) (x y : List Token) → Rise low high (x ++ y)
    → (m : ℕ) × Rise low m x × Rise m high y
rise_split low high [] y h = (low, omega arith, h)
rise_split low high (t ∷ x) y h =
    let r = rise_split (suc t.start) high x y h.1 in (r.0, (h.0, r.1), r.2)

cut_rises : (end : ℕ) (rest : List ℕ) (place : ℕ) (bytes : List ℕ) (ts : List Token)
    → Cut end rest place bytes ts → Rise place end ts
cut_rises end rest place bytes ts (here _ _ _ a b c) =
    subst (λ (us : List Token). Rise place end us) (sym c) (omega (arith, a))
cut_rises end rest place bytes ts (behind_gap _ _ _ n g x) =
    rise_lower place (place + n) end ts (omega arith) (cut_rises end rest (place + n) _ ts x)
cut_rises end rest place bytes ts (behind_token _ _ _ k n us g c x) =
    let some = (token_inside k n bytes g).0 in
    let behind = cut_rises end rest (place + n) _ us x in
    let others = rise_lower (suc place) (place + n) end us (omega (arith, some)) behind in
    subst (λ (vs : List Token). Rise place end vs) (sym c) (omega arith, others)

-- ---- parts of a list

record Halves {A B : Type 0} (L : Lang A) (K : A → Lang B) (b : B) (low high : ℕ) : Type 0 where
  value : A
  front : List Token
  rest : List Token
  middle : ℕ
  first : L (Some value) front
  second : K value (Some b) rest
  before : Rise low middle front
  behind : Rise middle high rest

halves : {A B : Type 0} {L : Lang A} {K : A → Lang B} (b : B) (w : List Token) (low high : ℕ)
    → Bind L K (Some b) w → Rise low high w → Halves L K b low high
halves b w low high (cut e l) h = absurd cc
halves b w low high (both a x y l k e) h =
    let r = rise_split low high x y (subst (λ (u : List Token). Rise low high u) e h) in
    record {
      value = a;
      front = x;
      rest = y;
      middle = r.0;
      first = l;
      second = k;
      before = r.1;
      behind = r.2;
    }

-- the place is one of the tokens'
abbrev IsWithin : ℕ → ℕ → ℕ → Type 0
IsWithin low high place = (low ≤ place) × (place < high)

token_within : (ks : Kinds) (t : Token) (w : List Token) (low high : ℕ) → Tok ks (Some t) w
    → Rise low high w → IsWithin low high t.start
token_within ks t w low high h r =
    let is : h.0 ≡ t = (let e : Some t ≡ Some h.0 = h.2 in cc) in
    let one : Rise low high (h.0 ∷ []) = subst (λ (u : List Token). Rise low high u) h.3 r in
    let more : suc h.0.start ≤ high = one.1 in
    let less : h.0.start < high = omega (arith, more) in
    subst (λ (u : Token). IsWithin low high u.start) is (one.0, less)

name_within : (text : List ℕ) (a : PlacedName) (w : List Token) (low high : ℕ)
    → Named text (Some a) w → Rise low high w → IsWithin low high a.place
name_within text a w low high h r =
    let j = halves a w low high h r in
    let t = token_within names j.value j.front low j.middle j.first j.before in
    let m = rise_bound j.middle high j.rest j.behind in
    let less : j.value.start < high = (let l = t.1 in omega (arith, l, m)) in
    let is : name_in text j.value ≡ a = pure_is (name_in text j.value) a j.rest j.second in
    subst (λ (b : PlacedName). IsWithin low high b.place) is (t.0, less)

-- ---- statements

-- the name of a macro or of a rule has its place among the statement's tokens
abbrev pub IsPlaced : ℕ → ℕ → StatementTree → Type 0
IsPlaced low high (a_macro m) = IsWithin low high m.name.place
IsPlaced low high (a_rule r) = IsWithin low high r.name.place
IsPlaced low high _ = low ≤ high

module _ (text : List ℕ) (n : ℕ) (second : Bool) (s : StatementTree) (w : List Token) (low high : ℕ)
    (rise : Rise low high w) where
  bound : low ≤ high
  bound = rise_bound low high w rise

  shape_placed : ShapeWords text (Some s) w → IsPlaced low high s
  unfolding ShapeWords
  shape_placed h =
      let t = halves s w low high h rise in
      let a = halves s t.rest t.middle high t.second t.behind in
      let bs = halves s a.rest a.middle high a.second a.behind in
      let e = halves s bs.rest bs.middle high bs.second bs.behind in
      subst (IsPlaced low high) (pure_is (shape_tree a.value bs.value) s e.rest e.second) bound

  object_placed : ObjectWords text second (Some s) w → IsPlaced low high s
  unfolding ObjectWords
  object_placed h =
      let t = halves s w low high h rise in
      let a = halves s t.rest t.middle high t.second t.behind in
      let u = halves s a.rest a.middle high a.second a.behind in
      let ss = halves s u.rest u.middle high u.second u.behind in
      let v = halves s ss.rest ss.middle high ss.second ss.behind in
      let rs = halves s v.rest v.middle high v.second v.behind in
      let vs = halves s rs.rest rs.middle high rs.second rs.behind in
      let e = halves s vs.rest vs.middle high vs.second vs.behind in
      let is = pure_is (object_tree a.value ss.value rs.value vs.value) s e.rest e.second in
      subst (IsPlaced low high) is bound

  order_placed : OrderWords text (Some s) w → IsPlaced low high s
  unfolding OrderWords
  order_placed h =
      let t = halves s w low high h rise in
      let ns = halves s t.rest t.middle high t.second t.behind in
      let e = halves s ns.rest ns.middle high ns.second ns.behind in
      subst (IsPlaced low high) (pure_is (order_tree t.value ns.value) s e.rest e.second) bound

  sides_placed : SidesWords (Some s) w → IsPlaced low high s
  unfolding SidesWords
  sides_placed h =
      let t = halves s w low high h rise in
      let ss = halves s t.rest t.middle high t.second t.behind in
      let e = halves s ss.rest ss.middle high ss.second ss.behind in
      subst (IsPlaced low high) (pure_is (sides_tree t.value ss.value) s e.rest e.second) bound

  wider : (less more place : ℕ) → low ≤ less → more ≤ high → IsWithin less more place
      → IsWithin low high place
  wider less more place a b h =
      (let c = h.0 in omega (arith, a, c), (let d = h.1 in omega (arith, b, d)))

  macro_placed : MacroWords text n (Some s) w → IsPlaced low high s
  unfolding MacroWords
  macro_placed h =
      let t = halves s w low high h rise in
      let a = halves s t.rest t.middle high t.second t.behind in
      let ps = halves s a.rest a.middle high a.second a.behind in
      let b = halves s ps.rest ps.middle high ps.second ps.behind in
      let e = halves s b.rest b.middle high b.second b.behind in
      let named = name_within text a.value a.front t.middle a.middle a.first a.before in
      subst (IsPlaced low high) (pure_is (macro_tree a.value ps.value b.value) s e.rest e.second)
      (wider t.middle a.middle a.value.place (rise_bound low t.middle t.front t.before)
      (rise_bound a.middle high a.rest a.behind) named)

  rule_placed : RuleWords text n (Some s) w → IsPlaced low high s
  unfolding RuleWords
  rule_placed h =
      let t = halves s w low high h rise in
      let a = halves s t.rest t.middle high t.second t.behind in
      let c = halves s a.rest a.middle high a.second a.behind in
      let d = halves s c.rest c.middle high c.second c.behind in
      let e = halves s d.rest d.middle high d.second d.behind in
      let named = name_within text a.value a.front t.middle a.middle a.first a.before in
      subst (IsPlaced low high) (pure_is (rule_tree a.value d.value) s e.rest e.second)
      (wider t.middle a.middle a.value.place (rise_bound low t.middle t.front t.before)
      (rise_bound a.middle high a.rest a.behind) named)

  pub statement_placed : StatementWords text n second (Some s) w → IsPlaced low high s
  unfolding StatementWords
  statement_placed (left h) = shape_placed h
  statement_placed (right (left h)) = object_placed h
  statement_placed (right (right (left h))) = order_placed h
  statement_placed (right (right (right (left h)))) = sides_placed h
  statement_placed (right (right (right (right (left h))))) = macro_placed h
  statement_placed (right (right (right (right (right h))))) = rule_placed h

-- the statements are placed one behind the other
abbrev pub ArePlaced : ℕ → List StatementTree → Type 0
ArePlaced low [] = Unit {0}
ArePlaced low (s ∷ ss) = (high : ℕ) × IsPlaced low high s × ArePlaced high ss

statements_placed : (text : List ℕ) (n : ℕ) (second : Bool) (k : ℕ) (ss : List StatementTree)
    (w : List Token) (low high : ℕ) → UpTo (StatementWords text n second) k (Some ss) w
    → Rise low high w → ArePlaced low ss
statements_placed text n second zero ss w low high h rise =
    subst (ArePlaced low) (pure_is [] ss w h) tt
statements_placed text n second (suc k) ss w low high (not_there e q) rise =
    let is : [] ≡ ss = cc in subst (ArePlaced low) is tt
statements_placed text n second (suc k) ss w low high (there h) rise =
    let s = halves ss w low high h rise in
    let i = halves ss s.rest s.middle high s.second s.behind in
    subst (ArePlaced low) (pure_is (s.value ∷ i.value) ss i.rest i.second) (
      s.middle,
      statement_placed text n second s.value s.front low s.middle s.before s.first,
      statements_placed text n second k i.value i.front s.middle i.middle i.first i.before,
    )

record TreePlaced (t : ProblemTree) : Type 0 where
  low : ℕ
  placed : ArePlaced low t.statements

tree_placed : (text : List ℕ) (n : ℕ) (t : ProblemTree) (w : List Token) → IsTokens text w
    → ProblemWords text n (Some t) w → TreePlaced t
unfolding ProblemWords
tree_placed text n t w tokens h =
    let high = length text in
    let a = halves t w 0 high h (cut_rises high [] 0 text w tokens) in
    let v = halves t a.rest a.middle high a.second a.behind in
    let b = halves t v.rest v.middle high v.second v.behind in
    let d = halves t b.rest b.middle high b.second b.behind in
    let ss = halves t d.rest d.middle high d.second d.behind in
    let e = halves t ss.rest ss.middle high ss.second ss.behind in
    let many = ss.first in
    subst TreePlaced (pure_is (problem_tree v.value d.value ss.value) t e.rest e.second)
    (record {
      low = d.middle;
      placed = statements_placed text n (is_second v.value) many.0 ss.value ss.front d.middle
          ss.middle many.1 ss.before;
    })

-- ---- macros and rules

abbrev macros_of : List StatementTree → List MacroData
macros_of ss = map meaning.macro_of (filter_map as_macro ss)

abbrev rules_of : List StatementTree → List RuleData
rules_of ss = map meaning.rule_of (filter_map as_rule ss)

abbrev macro_place : MacroData → ℕ
macro_place m = m.place

abbrev rule_place : RuleData → ℕ
rule_place r = r.place

-- each of the items stands so to each one behind it
abbrev Pairs : {A : Type 0} → (A → A → Type 0) → List A → Type 0
Pairs R [] = Unit {0}
Pairs R (x ∷ xs) = AllOf (R x) xs × Pairs R xs

all_of : {A : Type 0} (P : A → Type 0) (xs : List A) → AllOf P xs → All P xs
all_of P [] h k d less = absurd (omega (arith, less))
all_of P (x ∷ xs) h zero d less = h.0
all_of P (x ∷ xs) h (suc k) d less = all_of P xs h.1 k d (omega (arith, less))

all_pairs : {A : Type 0} (R : A → A → Type 0) (xs : List A) → Pairs R xs → AllPairs R xs
all_pairs R [] h j k d before within = absurd (omega (arith, within))
all_pairs R (x ∷ xs) h zero zero d before within = absurd (omega (arith, before))
all_pairs R (x ∷ xs) h zero (suc k) d before within =
    all_of (R x) xs h.0 k d (omega (arith, within))
all_pairs R (x ∷ xs) h (suc j) zero d before within = absurd (omega (arith, before))
all_pairs R (x ∷ xs) h (suc j) (suc k) d before within =
    all_pairs R xs h.1 j k d (omega (arith, before)) (omega (arith, within))

raised : {A : Type 0} (place : A → ℕ) (low high : ℕ) (xs : List A) → low ≤ high
    → AllOf (λ x. high ≤ place x) xs → AllOf (λ x. low ≤ place x) xs
raised place low high xs l h =
    all_as {P = λ x. high ≤ place x} {Q = λ x. low ≤ place x} (λ x m. omega (arith, l, m)) xs h

macros_from : (low : ℕ) (ss : List StatementTree) → ArePlaced low ss
    → AllOf (λ (m : MacroData). low ≤ m.place) (macros_of ss)
macros_from low [] h = tt
macros_from low (a_shape s ∷ ss) h =
    raised macro_place low h.0 (macros_of ss) h.1 (macros_from h.0 ss h.2)
macros_from low (an_object s ∷ ss) h =
    raised macro_place low h.0 (macros_of ss) h.1 (macros_from h.0 ss h.2)
macros_from low (an_order s ∷ ss) h =
    raised macro_place low h.0 (macros_of ss) h.1 (macros_from h.0 ss h.2)
macros_from low (some_sides s ∷ ss) h =
    raised macro_place low h.0 (macros_of ss) h.1 (macros_from h.0 ss h.2)
macros_from low (a_rule s ∷ ss) h =
    let a = h.1.0 in
    let b = h.1.1 in
    raised macro_place low h.0 (macros_of ss) (omega (arith, a, b)) (macros_from h.0 ss h.2)
macros_from low (a_macro s ∷ ss) h =
    let a = h.1.0 in
    let b = h.1.1 in
    (a, raised macro_place low h.0 (macros_of ss) (omega (arith, a, b)) (macros_from h.0 ss h.2))

rules_from : (low : ℕ) (ss : List StatementTree) → ArePlaced low ss
    → AllOf (λ (r : RuleData). low ≤ r.place) (rules_of ss)
rules_from low [] h = tt
rules_from low (a_shape s ∷ ss) h =
    raised rule_place low h.0 (rules_of ss) h.1 (rules_from h.0 ss h.2)
rules_from low (an_object s ∷ ss) h =
    raised rule_place low h.0 (rules_of ss) h.1 (rules_from h.0 ss h.2)
rules_from low (an_order s ∷ ss) h =
    raised rule_place low h.0 (rules_of ss) h.1 (rules_from h.0 ss h.2)
rules_from low (some_sides s ∷ ss) h =
    raised rule_place low h.0 (rules_of ss) h.1 (rules_from h.0 ss h.2)
rules_from low (a_macro s ∷ ss) h =
    let a = h.1.0 in
    let b = h.1.1 in
    raised rule_place low h.0 (rules_of ss) (omega (arith, a, b)) (rules_from h.0 ss h.2)
rules_from low (a_rule s ∷ ss) h =
    let a = h.1.0 in
    let b = h.1.1 in
    (a, raised rule_place low h.0 (rules_of ss) (omega (arith, a, b)) (rules_from h.0 ss h.2))

macros_rise : (low : ℕ) (ss : List StatementTree) → ArePlaced low ss
    → Pairs (λ (m o : MacroData). m.place < o.place) (macros_of ss)
macros_rise low [] h = tt
macros_rise low (a_shape s ∷ ss) h = macros_rise h.0 ss h.2
macros_rise low (an_object s ∷ ss) h = macros_rise h.0 ss h.2
macros_rise low (an_order s ∷ ss) h = macros_rise h.0 ss h.2
macros_rise low (some_sides s ∷ ss) h = macros_rise h.0 ss h.2
macros_rise low (a_rule s ∷ ss) h = macros_rise h.0 ss h.2
macros_rise low (a_macro s ∷ ss) h =
    let from = macros_from h.0 ss h.2 in
    let others = raised macro_place (suc s.name.place) h.0 (macros_of ss) h.1.1 from in
    (others, macros_rise h.0 ss h.2)

macros_paired : (low : ℕ) (ss : List StatementTree) → ArePlaced low ss
    → AllPairs (λ (m o : MacroData). m.place < o.place) (macros_of ss)
macros_paired low ss h =
    all_pairs (λ (m o : MacroData). m.place < o.place) (macros_of ss) (macros_rise low ss h)

-- no macro stands behind a rule
abbrev pub AreRulesLast : List StatementTree → Type 0
AreRulesLast [] = Unit {0}
AreRulesLast (a_rule r ∷ ss) = filter_map as_macro ss ≡ []
AreRulesLast (a_shape s ∷ ss) = AreRulesLast ss
AreRulesLast (an_object s ∷ ss) = AreRulesLast ss
AreRulesLast (an_order s ∷ ss) = AreRulesLast ss
AreRulesLast (some_sides s ∷ ss) = AreRulesLast ss
AreRulesLast (a_macro s ∷ ss) = AreRulesLast ss

abbrev Behind : List MacroData → List RuleData → Type 0
Behind ms rs = AllOf (λ (r : RuleData). All (λ (m : MacroData). m.place < r.place) ms) rs

behind_none : (rs : List RuleData) → Behind [] rs
behind_none [] = tt
behind_none (r ∷ rs) = (λ k d less. absurd (omega (arith, less)), behind_none rs)

behind_one : (m : MacroData) (ms : List MacroData) (rs : List RuleData)
    → AllOf (λ (r : RuleData). suc m.place ≤ r.place) rs → Behind ms rs → Behind (m ∷ ms) rs
behind_one m ms [] h g = tt
behind_one m ms (r ∷ rs) h g = (at, behind_one m ms rs h.1 g.1)
  where
    at : All (λ (o : MacroData). o.place < r.place) (m ∷ ms)
    at zero d less = h.0
    at (suc k) d less = g.0 k d (omega (arith, less))

rules_behind : (low : ℕ) (ss : List StatementTree) → ArePlaced low ss → AreRulesLast ss
    → Behind (macros_of ss) (rules_of ss)
rules_behind low [] h g = tt
rules_behind low (a_shape s ∷ ss) h g = rules_behind h.0 ss h.2 g
rules_behind low (an_object s ∷ ss) h g = rules_behind h.0 ss h.2 g
rules_behind low (an_order s ∷ ss) h g = rules_behind h.0 ss h.2 g
rules_behind low (some_sides s ∷ ss) h g = rules_behind h.0 ss h.2 g
rules_behind low (a_macro s ∷ ss) h g =
    let from = rules_from h.0 ss h.2 in
    let others = raised rule_place (suc s.name.place) h.0 (rules_of ss) h.1.1 from in
    behind_one (meaning.macro_of s) (macros_of ss) (rules_of ss) others (rules_behind h.0 ss h.2 g)
rules_behind low (a_rule s ∷ ss) h g =
    let none : macros_of ss ≡ [] = ap (λ us. map meaning.macro_of us) g in
    let rules = rules_of (a_rule s ∷ ss) in
    subst (λ (ms : List MacroData). Behind ms rules) (sym none) (behind_none rules)

-- ---- problems

-- the macros of an accepted text rise
pub accepted_rise : (text : List ℕ) (p : ProblemData) → Accepts text p → MacrosRise p
accepted_rise text p a =
    let t = tree_placed text 64 a.tree a.says.list a.says.tokens a.says.spells.within in
    subst MacrosRise (sym a.means) (macros_paired t.low a.tree.statements t.placed)

-- and where rules stand last they have places behind all macros
pub last_in_order : (text : List ℕ) (w : List Token) (t : ProblemTree) → IsTokens text w
    → ProblemWords text 64 (Some t) w → AreRulesLast t.statements
    → IsInOrder (meaning.problem_of (parts_of t))
last_in_order text w t tokens h last =
    let r = tree_placed text 64 t w tokens h in
    record {
      macros = macros_paired r.low t.statements r.placed;
      rules = all_of
          (λ (u : RuleData). All (λ (m : MacroData). m.place < u.place) (macros_of t.statements))
          (rules_of t.statements) (rules_behind r.low t.statements r.placed last);
    }

-- ---- the statements of the texts of a problem

abbrev statements_of : List Line → List StatementTree
statements_of ls = map (λ l. l.0) ls

no_macro : (rs : List RuleData)
    → filter_map as_macro (statements_of (map (λ r. (rule_of r, rule_spelling r)) rs)) ≡ []
no_macro [] = refl
no_macro (r ∷ rs) = no_macro rs

rules_alone : (rs : List RuleData)
    → AreRulesLast (statements_of (map (λ r. (rule_of r, rule_spelling r)) rs))
rules_alone [] = tt
rules_alone (r ∷ rs) = no_macro rs

behind_macros : (ms : List MacroData) (ls : List Line) → AreRulesLast (statements_of ls)
    → AreRulesLast (statements_of (map (λ m. (macro_of m, macro_spelling m)) ms ++ ls))
behind_macros [] ls h = h
behind_macros (m ∷ ms) ls h = behind_macros ms ls h

behind_objects : (made : List (List ℕ)) (os : List ObjectData) (ls : List Line)
    → AreRulesLast (statements_of ls)
    → AreRulesLast (statements_of (map (λ o. (object_of made o, object_spelling made o)) os ++ ls))
behind_objects made [] ls h = h
behind_objects made (o ∷ os) ls h = behind_objects made os ls h

behind_shapes : (ss : List ShapeData) (ls : List Line) → AreRulesLast (statements_of ls)
    → AreRulesLast (statements_of (map (λ s. (shape_of s, shape_spelling s)) ss ++ ls))
behind_shapes [] ls h = h
behind_shapes (s ∷ ss) ls h = behind_shapes ss ls h

behind_ways : (with_order with_sides : Bool) (p : ProblemData) (ls : List Line)
    → AreRulesLast (statements_of ls)
    → AreRulesLast (statements_of (ways with_order with_sides p ++ ls))
behind_ways true true p ls h = h
behind_ways true false p ls h = h
behind_ways false true p ls h = h
behind_ways false false p ls h = h

rules_last : (with_order with_sides : Bool) (p : ProblemData)
    → AreRulesLast (statements_of (all_statements with_order with_sides p))
rules_last with_order with_sides p =
    behind_shapes p.shapes _ (behind_objects (shape_names p) p.objects _ (behind_macros p.macros _
    (behind_ways with_order with_sides p _ (rules_alone p.rules))))

-- statements that are the same but for places
none_back : (ss : List StatementTree) → filter_map as_macro (map bare_statement ss) ≡ []
    → filter_map as_macro ss ≡ []
none_back [] e = refl
none_back (a_shape s ∷ ss) e = none_back ss e
none_back (an_object s ∷ ss) e = none_back ss e
none_back (an_order s ∷ ss) e = none_back ss e
none_back (some_sides s ∷ ss) e = none_back ss e
none_back (a_rule s ∷ ss) e = none_back ss e
none_back (a_macro s ∷ ss) e = absurd cc

last_back : (ss : List StatementTree) → AreRulesLast (map bare_statement ss) → AreRulesLast ss
last_back [] h = tt
last_back (a_shape s ∷ ss) h = last_back ss h
last_back (an_object s ∷ ss) h = last_back ss h
last_back (an_order s ∷ ss) h = last_back ss h
last_back (some_sides s ∷ ss) h = last_back ss h
last_back (a_macro s ∷ ss) h = last_back ss h
last_back (a_rule s ∷ ss) h = none_back ss h

-- rules stand last where the statements are those of a text of a problem, places aside
pub stated_last : (with_order with_sides : Bool) (p : ProblemData) (ss : List StatementTree)
    → map bare_statement ss ≡ map (λ l. l.0) (all_statements with_order with_sides p)
    → AreRulesLast ss
stated_last with_order with_sides p ss e =
    last_back ss (subst AreRulesLast (sym e) (rules_last with_order with_sides p))
