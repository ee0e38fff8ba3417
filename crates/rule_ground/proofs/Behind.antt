-- Steps that follow each other, and lists of conditions that grow while they are made.
use Rattle.std.proofs.Common.{◌≡◌, ℕ, ◌+◌, ◌<◌, ◌≤◌, get_or, drop, Bool, true, false, List, [], ◌∷◌, ◌++◌, length, map, append-nil, append_assoc, sym, ap, ◌∙◌, refl, subst}
use Rattle.std.proofs.lemmas.List.{drop_more, map-append}
use Rattle.std.proofs.Math.ListN.{drop_of_length-le}
use Rattle.std.specs.Prelude.{Result, Ok, Err, MatchResult}
use Rattle.geo_conditions.specs.declared.cond.Cond.{Cond}
use Rattle.problem_data.specs.Problem.{ProblemData}
use Rattle.rule_expand.specs.Plain.{PlainFormulaTree, PlainFormulas, a_formula}
use Rattle.rule_expand.specs.PlainTruth.{PlainEnv}
use Rattle.rule_expand.specs.PlainView.{plain_formula_view, plain_formulas_view}
use Rattle.rule_expand.specs.declared.plain.PlainFormula.{PlainFormula}
use Rattle.linear_conditions.specs.CondTree.{CondTree, cond_view}
use Rattle.linear_conditions.specs.Fixings.{Fixing}
use Rattle.linear_conditions.specs.Folding.{joined, decides}
use Rattle.linear_conditions.specs.Counts.{Counts, Outcome, Fault, Done, and_then, either_way}
use Rattle.linear_conditions.specs.Faults.{IsFault}
use Rattle.linear_conditions.specs.declared.fault.GroundFault.{GroundFault}
use Rattle.linear_conditions.specs.declared.fault.GroundFault.TheVariants.{Overflow, TooMany, Memory}
use Rattle.rule_ground.specs.Answers.{behind}
use Rattle.rule_ground.specs.Grounding.{gather, alone, in_turn, ground, ground_operands}

-- ---- one step after another

pub then-done : (A B : Type 0) (o : Outcome A) (go : A → Counts → Outcome B) (a : A) (k : Counts) → o ≡ Done a k → and_then A B o go ≡ go a k
unfolding and_then
then-done A B o go a k e = ap (λ x. and_then A B x go) e

pub then-fault : (A B : Type 0) (o : Outcome A) (go : A → Counts → Outcome B) (e : GroundFault) → IsFault A o e → IsFault B (and_then A B o go) e
unfolding and_then
then-fault A B o go Overflow h = ap (λ x. and_then A B x go) h
then-fault A B o go TooMany h = ap (λ x. and_then A B x go) h
then-fault A B o go Memory h = tt

pub free : (A : Type 0) (o : Outcome A) (e : GroundFault) → e ≡ Memory → IsFault A o e
free A o e h = subst (λ f. IsFault A o f) (sym h) tt

-- a result made of another one
pub then-made : (A B : Type 0) (o : Outcome A) (f : A → B) (a : A) (k : Counts) (b : B) → o ≡ Done a k → b ≡ f a → and_then A B o (λ x j. Done (f x) j) ≡ Done b k
then-made A B o f a k b e h = then-done A B o (λ x j. Done (f x) j) a k e ∙ ap (λ y. Done y k) (sym h)

pub both_ways : (X E : Type 0) (r : Result X E) (P P' : X → Type 0) (Q Q' : E → Type 0) → MatchResult r P Q → ((x : X) → P x → P' x) → ((e : E) → Q e → Q' e) → MatchResult r P' Q'
both_ways X E (Ok x) P P' Q Q' h f g = f x h
both_ways X E (Err e) P P' Q Q' h f g = g e h

same-fault : (A : Type 0) (o u : Outcome A) (e : GroundFault) → o ≡ u → IsFault A u e → IsFault A o e
same-fault A o u Overflow h i = h ∙ i
same-fault A o u TooMany h i = h ∙ i
same-fault A o u Memory h i = tt

-- ---- two operands

pub turn-stop : (all : Bool) (first second : Counts → Outcome CondTree) (k j : Counts) (c d : CondTree) → first k ≡ Done c j → decides all c ≡ true → d ≡ joined all (c ∷ []) → in_turn all first second k ≡ Done d j
unfolding either_way
turn-stop all first second k j c d e t h =
    then-done CondTree CondTree (first k) (λ x m. either_way CondTree (decides all x) (Done (joined all (x ∷ [])) m) (and_then CondTree CondTree (second m) (λ y n. Done (joined all (x ∷ (y ∷ []))) n))) c j e
    ∙ ap (λ b. either_way CondTree b (Done (joined all (c ∷ [])) j) (and_then CondTree CondTree (second j) (λ y n. Done (joined all (c ∷ (y ∷ []))) n))) t
    ∙ ap (λ x. Done x j) (sym h)

turn-on : (all : Bool) (first second : Counts → Outcome CondTree) (k j : Counts) (c : CondTree) → first k ≡ Done c j → decides all c ≡ false →
    in_turn all first second k ≡ and_then CondTree CondTree (second j) (λ y n. Done (joined all (c ∷ (y ∷ []))) n)
unfolding either_way
turn-on all first second k j c e t =
    then-done CondTree CondTree (first k) (λ x m. either_way CondTree (decides all x) (Done (joined all (x ∷ [])) m) (and_then CondTree CondTree (second m) (λ y n. Done (joined all (x ∷ (y ∷ []))) n))) c j e
    ∙ ap (λ b. either_way CondTree b (Done (joined all (c ∷ [])) j) (and_then CondTree CondTree (second j) (λ y n. Done (joined all (c ∷ (y ∷ []))) n))) t

pub turn-done : (all : Bool) (first second : Counts → Outcome CondTree) (k j i : Counts) (c d b : CondTree) → first k ≡ Done c j → decides all c ≡ false → second j ≡ Done d i → b ≡ joined all (c ∷ (d ∷ [])) → in_turn all first second k ≡ Done b i
turn-done all first second k j i c d b e t g h = turn-on all first second k j c e t ∙ then-made CondTree CondTree (second j) (λ y. joined all (c ∷ (y ∷ []))) d i b g h

pub turn-fault : (all : Bool) (first second : Counts → Outcome CondTree) (k : Counts) (e : GroundFault) → IsFault CondTree (first k) e → IsFault CondTree (in_turn all first second k) e
turn-fault all first second k e h = then-fault CondTree CondTree (first k) _ e h

pub turn-late : (all : Bool) (first second : Counts → Outcome CondTree) (k j : Counts) (c : CondTree) (e : GroundFault) → first k ≡ Done c j → decides all c ≡ false → IsFault CondTree (second j) e → IsFault CondTree (in_turn all first second k) e
turn-late all first second k j c e d t h =
    same-fault CondTree (in_turn all first second k) _ e (turn-on all first second k j c d t) (then-fault CondTree CondTree (second j) _ e h)

-- ---- behind what was given so far

pub behind-init : (o : Outcome (List CondTree)) → o ≡ behind [] o
unfolding behind and_then
behind-init (Fault w) = refl
behind-init (Done ds i) = refl

pub behind-end : (cs : List CondTree) (k : Counts) → behind cs (Done [] k) ≡ Done cs k
unfolding behind and_then
behind-end cs k = ap (λ l. Done l k) (append-nil cs)

pub behind-fault : (cs : List CondTree) (o : Outcome (List CondTree)) (e : GroundFault) → IsFault (List CondTree) o e → IsFault (List CondTree) (behind cs o) e
unfolding behind
behind-fault cs o e h = then-fault (List CondTree) (List CondTree) o (λ ds k. Done (cs ++ ds) k) e h

pub fault-behind : (cs : List CondTree) (o : Outcome (List CondTree)) (e : GroundFault) → IsFault (List CondTree) (behind cs o) e → IsFault (List CondTree) o e
unfolding behind and_then
fault-behind cs (Fault w) e h = h
fault-behind cs (Done ds k) Overflow h = cc
fault-behind cs (Done ds k) TooMany h = cc
fault-behind cs (Done ds k) Memory h = tt

pub go_on : (cs bs : List CondTree) (o : Outcome (List CondTree)) → behind cs (and_then (List CondTree) (List CondTree) o (λ ds i. Done (bs ++ ds) i)) ≡ behind (cs ++ bs) o
unfolding behind and_then
go_on cs bs (Fault w) = refl
go_on cs bs (Done ds i) = ap (λ l. Done l i) (sym (append_assoc cs bs ds))

-- a single one
pub behind-alone : (cs : List CondTree) (o : Outcome CondTree) (c : CondTree) (j : Counts) → o ≡ Done c j → behind cs (alone o) ≡ Done (cs ++ (c ∷ [])) j
unfolding behind and_then
behind-alone cs o c j e = ap (λ x. behind cs (alone x)) e

pub alone-fault : (o : Outcome CondTree) (e : GroundFault) → IsFault CondTree o e → IsFault (List CondTree) (alone o) e
alone-fault o e h = then-fault CondTree (List CondTree) o (λ c k. Done (c ∷ []) k) e h

-- ---- several steps

stepped : (A : Type 0) (go : A → Counts → Outcome (List CondTree)) (cs ds : List CondTree) (xs : List A) (o : Outcome (List CondTree)) (j : Counts) → behind cs o ≡ Done ds j →
    behind cs (and_then (List CondTree) (List CondTree) o (λ bs m. and_then (List CondTree) (List CondTree) (gather go xs m) (λ es n. Done (bs ++ es) n))) ≡ behind ds (gather go xs j)
unfolding behind and_then
stepped A go cs ds xs (Fault w) j h = cc
stepped A go cs ds xs (Done bs m) j h =
    let e : cs ++ bs ≡ ds = cc in
    let f : m ≡ j = cc in
    go_on cs bs (gather go xs m) ∙ (λ i. behind (e i) (gather go xs (f i)))

pub gather-step : (A : Type 0) (go : A → Counts → Outcome (List CondTree)) (cs ds : List CondTree) (x : A) (xs : List A) (k j : Counts) → behind cs (go x k) ≡ Done ds j →
    behind cs (gather go (x ∷ xs) k) ≡ behind ds (gather go xs j)
gather-step A go cs ds x xs k j h = stepped A go cs ds xs (go x k) j h

pub gather-fault : (A : Type 0) (go : A → Counts → Outcome (List CondTree)) (cs : List CondTree) (x : A) (xs : List A) (k : Counts) (e : GroundFault) → IsFault (List CondTree) (go x k) e →
    IsFault (List CondTree) (behind cs (gather go (x ∷ xs) k)) e
gather-fault A go cs x xs k e h = behind-fault cs (gather go (x ∷ xs) k) e (then-fault (List CondTree) (List CondTree) (go x k) _ e h)

pub pushed : (parts more : List Cond) (c : Cond) → more ≡ parts ++ c ∷ [] → map cond_view more ≡ map cond_view parts ++ (cond_view c ∷ [])
pushed parts more c e = ap (map cond_view) e ∙ map-append cond_view parts (c ∷ [])

-- one condition appended
pub appended : (old new : List Cond) (o : Outcome CondTree) (c : Cond) (j : Counts) → o ≡ Done (cond_view c) j → new ≡ old ++ c ∷ [] → behind (map cond_view old) (alone o) ≡ Done (map cond_view new) j
appended old new o c j e h = behind-alone (map cond_view old) o (cond_view c) j e ∙ ap (λ l. Done l j) (sym (pushed old new c h))

-- ---- operands

operand-next : (p : ProblemData) (cs : List CondTree) (f : PlainFormulaTree) (rest : PlainFormulas) (all sign : Bool) (env : PlainEnv) (fix : List Fixing) (k j : Counts) (c : CondTree) (b : Bool) → ground p f sign env fix k ≡ Done c j → decides all c ≡ b →
    behind cs (ground_operands p (a_formula f rest) all sign env fix k)
    ≡ behind cs (either_way (List CondTree) b (Done (c ∷ []) j) (and_then (List CondTree) (List CondTree) (ground_operands p rest all sign env fix j) (λ ds i. Done (c ∷ ds) i)))
operand-next p cs f rest all sign env fix k j c b e d =
    ap (behind cs) (then-done CondTree (List CondTree) (ground p f sign env fix k) (λ x m. either_way (List CondTree) (decides all x) (Done (x ∷ []) m) (and_then (List CondTree) (List CondTree) (ground_operands p rest all sign env fix m) (λ ds i. Done (x ∷ ds) i))) c j e)
    ∙ ap (λ q. behind cs (either_way (List CondTree) q (Done (c ∷ []) j) (and_then (List CondTree) (List CondTree) (ground_operands p rest all sign env fix j) (λ ds i. Done (c ∷ ds) i)))) d

operand-step : (p : ProblemData) (cs : List CondTree) (f : PlainFormulaTree) (rest : PlainFormulas) (all sign : Bool) (env : PlainEnv) (fix : List Fixing) (k j : Counts) (c : CondTree) → ground p f sign env fix k ≡ Done c j → decides all c ≡ false →
    behind cs (ground_operands p (a_formula f rest) all sign env fix k) ≡ behind (cs ++ (c ∷ [])) (ground_operands p rest all sign env fix j)
unfolding either_way
operand-step p cs f rest all sign env fix k j c e d = operand-next p cs f rest all sign env fix k j c false e d ∙ go_on cs (c ∷ []) (ground_operands p rest all sign env fix j)

operand-stop : (p : ProblemData) (cs : List CondTree) (f : PlainFormulaTree) (rest : PlainFormulas) (all sign : Bool) (env : PlainEnv) (fix : List Fixing) (k j : Counts) (c : CondTree) → ground p f sign env fix k ≡ Done c j → decides all c ≡ true →
    behind cs (ground_operands p (a_formula f rest) all sign env fix k) ≡ Done (cs ++ (c ∷ [])) j
unfolding either_way behind and_then
operand-stop p cs f rest all sign env fix k j c e d = operand-next p cs f rest all sign env fix k j c true e d

operands-at : (items : List PlainFormula) (i : ℕ) (x : PlainFormula) → i < length items → x ≡ get_or items i x → plain_formulas_view (drop i items) ≡ a_formula (plain_formula_view x) (plain_formulas_view (drop (i + 1) items))
operands-at items i x h e = ap plain_formulas_view (drop_more items i x h) ∙ ap (λ y. a_formula (plain_formula_view y) (plain_formulas_view (drop (i + 1) items))) (sym e)

module _ (p : ProblemData) (all sign : Bool) (env : PlainEnv) (fix : List Fixing) where
  pub walk-init : (o : Outcome (List CondTree)) (parts : List Cond) → parts ≡ [] → o ≡ behind (map cond_view parts) o
  walk-init o parts e = behind-init o ∙ ap (λ l. behind (map cond_view l) o) (sym e)

  pub walk-stop : (whole : Outcome (List CondTree)) (items : List PlainFormula) (i : ℕ) (x : PlainFormula) (k j : Counts) (parts more : List Cond) (c : Cond) →
      whole ≡ behind (map cond_view parts) (ground_operands p (plain_formulas_view (drop i items)) all sign env fix k) → i < length items → x ≡ get_or items i x → ground p (plain_formula_view x) sign env fix k ≡ Done (cond_view c) j →
      decides all (cond_view c) ≡ true → more ≡ parts ++ c ∷ [] → whole ≡ Done (map cond_view more) j
  walk-stop whole items i x k j parts more c w h q g d m =
      w ∙ ap (λ l. behind (map cond_view parts) (ground_operands p l all sign env fix k)) (operands-at items i x h q)
      ∙ operand-stop p (map cond_view parts) (plain_formula_view x) (plain_formulas_view (drop (i + 1) items)) all sign env fix k j (cond_view c) g d
      ∙ ap (λ l. Done l j) (sym (pushed parts more c m))

  pub walk-step : (whole : Outcome (List CondTree)) (items : List PlainFormula) (i : ℕ) (x : PlainFormula) (k j : Counts) (parts more : List Cond) (c : Cond) →
      whole ≡ behind (map cond_view parts) (ground_operands p (plain_formulas_view (drop i items)) all sign env fix k) → i < length items → x ≡ get_or items i x → ground p (plain_formula_view x) sign env fix k ≡ Done (cond_view c) j →
      decides all (cond_view c) ≡ false → more ≡ parts ++ c ∷ [] → whole ≡ behind (map cond_view more) (ground_operands p (plain_formulas_view (drop (i + 1) items)) all sign env fix j)
  walk-step whole items i x k j parts more c w h q g d m =
      w ∙ ap (λ l. behind (map cond_view parts) (ground_operands p l all sign env fix k)) (operands-at items i x h q)
      ∙ operand-step p (map cond_view parts) (plain_formula_view x) (plain_formulas_view (drop (i + 1) items)) all sign env fix k j (cond_view c) g d
      ∙ ap (λ l. behind l (ground_operands p (plain_formulas_view (drop (i + 1) items)) all sign env fix j)) (sym (pushed parts more c m))

  pub walk-fault : (whole : Outcome (List CondTree)) (items : List PlainFormula) (i : ℕ) (x : PlainFormula) (k : Counts) (parts : List Cond) (e : GroundFault) →
      whole ≡ behind (map cond_view parts) (ground_operands p (plain_formulas_view (drop i items)) all sign env fix k) → i < length items → x ≡ get_or items i x → IsFault CondTree (ground p (plain_formula_view x) sign env fix k) e →
      IsFault (List CondTree) whole e
  walk-fault whole items i x k parts e w h q g =
      same-fault (List CondTree) whole _ e (w ∙ ap (λ l. behind (map cond_view parts) (ground_operands p l all sign env fix k)) (operands-at items i x h q))
      (behind-fault (map cond_view parts) _ e (then-fault CondTree (List CondTree) (ground p (plain_formula_view x) sign env fix k) _ e g))

  pub walk-end : (whole : Outcome (List CondTree)) (items : List PlainFormula) (i : ℕ) (k : Counts) (parts : List Cond) →
      whole ≡ behind (map cond_view parts) (ground_operands p (plain_formulas_view (drop i items)) all sign env fix k) → length items ≤ i → whole ≡ Done (map cond_view parts) k
  walk-end whole items i k parts w h =
      w ∙ ap (λ l. behind (map cond_view parts) (ground_operands p (plain_formulas_view l) all sign env fix k)) (drop_of_length-le items h) ∙ behind-end (map cond_view parts) k

-- ---- a walk over any list

pub gather-walk : (A : Type 0) (go : A → Counts → Outcome (List CondTree)) (whole : Outcome (List CondTree)) (items rest : List A) (x : A) (k j : Counts) (parts more : List Cond) →
    whole ≡ behind (map cond_view parts) (gather go items k) → items ≡ x ∷ rest → behind (map cond_view parts) (go x k) ≡ Done (map cond_view more) j → whole ≡ behind (map cond_view more) (gather go rest j)
gather-walk A go whole items rest x k j parts more w e g =
    w ∙ ap (λ l. behind (map cond_view parts) (gather go l k)) e ∙ gather-step A go (map cond_view parts) (map cond_view more) x rest k j g

pub gather-failed : (A : Type 0) (go : A → Counts → Outcome (List CondTree)) (whole : Outcome (List CondTree)) (items rest : List A) (x : A) (k : Counts) (parts : List Cond) (e : GroundFault) →
    whole ≡ behind (map cond_view parts) (gather go items k) → items ≡ x ∷ rest → IsFault (List CondTree) (go x k) e → IsFault (List CondTree) whole e
gather-failed A go whole items rest x k parts e w i g =
    same-fault (List CondTree) whole _ e (w ∙ ap (λ l. behind (map cond_view parts) (gather go l k)) i) (gather-fault A go (map cond_view parts) x rest k e g)

pub gather-over : (A : Type 0) (go : A → Counts → Outcome (List CondTree)) (whole : Outcome (List CondTree)) (items : List A) (k : Counts) (parts : List Cond) →
    whole ≡ behind (map cond_view parts) (gather go items k) → items ≡ [] → whole ≡ Done (map cond_view parts) k
gather-over A go whole items k parts w e =
    w ∙ ap (λ l. behind (map cond_view parts) (gather go l k)) e ∙ behind-end (map cond_view parts) k
