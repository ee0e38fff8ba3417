-- What `next` answers.
use Rattle.std.proofs.Common.{◌≡◌, ◌≢◌, ℕ, ◌≤◌, Bool, true, false, List, [], ◌∷◌, ◌++◌, length, drop, refl, sym, ap, ◌∙◌, subst, inl, inr, arith, ℤ, Option, Some, None, take, nat_eq, eq-eqb, eqb-true}
use Rattle.std.specs.List.{All}
use Rattle.std.proofs.Math.ListN.{length-append}
use Rattle.std.proofs.Math.Seq.{take-length}
use Rattle.geo_conditions.specs.declared.cond.Cond.{Cond}
use Rattle.geo_conditions.specs.Conditions.{FitsIn}
use Rattle.geo_conditions.specs.Reach.{State, IsState}
use Rattle.std.proofs.lemmas.Bool.{cases_lt, false≢true}
use Rattle.geo_conditions.specs.Walk.{Order, NamesEach, Variable, variables, variables_in, Tree, is_full, IsFront, IsWhole, GoesOn}
use Rattle.derivation.specs.declared.event.Event.{Event}
use Rattle.trail_search.specs.declared.step.Step.{Step}
use Rattle.trail_search.specs.declared.step.Step.TheVariants.{Found, Ended, Budget, Memory}
use Rattle.trail_search.specs.Next.{SearchView, Answers, AsBefore, IsSound}
use Rattle.trail_search.specs.Record.{Derives, IsUnmoved, RecordsStep}
use Rattle.trail_search.specs.Walker.{Position, tree_of, depth, path, SameWalk, IsWell, IsReady, ReadyFor, StandsFor, StandsAt, GoesOnAs}
use Rattle.trail_search.proofs.Standing.{tree_same, path_length}

-- none of the members walked since is full
all_since : (W : Tree) (w v : List (List ℤ)) (m : ℕ) → length w ≡ m → All (λ q. is_full W q ≡ false) v → All (λ q. is_full W q ≡ false) (drop m (w ++ v))
all_since W w v m e h = subst (All (λ q. is_full W q ≡ false)) (sym (ap (λ (n : ℕ). drop n (w ++ v)) (sym e) ∙ dropped w v)) h
  where
    dropped : (w v : List (List ℤ)) → drop (length w) (w ++ v) ≡ v
    dropped [] v = refl
    dropped (x ∷ w) v = dropped w v

-- at full depth the path has all values
whole_path : (k : ℕ) (q : Position) → IsWell k q → depth q ≡ length q.variables → path q ≡ q.values
whole_path k q w h = ap (λ (m : ℕ). take m q.values) (h ∙ sym w.values) ∙ take-length q.values

-- ---- the answers

-- the answer that a full member was found
pub found_answer : (cs : List Cond) (k n : ℕ) (p q : Position) (a b : SearchView) → SameWalk p q → IsWell k q → a.walk ≡ tree_of cs p → b.walk ≡ tree_of cs q → a.walked ≡ p.walked → a.budget ≡ n → b.walked ≡ q.walked → b.layout ≡ Some q.values → b.over ≡ None → GoesOnAs cs n p Found q → Answers a Found b
found_answer cs k n p q a b s x e f m g y l o t =
    let w = t.0 in
    let h = t.2 in
    let v = h.0 in
    let z : tree_of cs p ≡ tree_of cs q = tree_same cs p q s in
    let d : length w ≡ a.walked = t.1 ∙ sym m in (
      w ++ v,
      path q,
      (subst (λ (V : Tree). IsFront V (w ++ v ++ path q ∷ [])) (z ∙ sym f) h.1, h.2 ∙ sym y),
      omega (arith, d, length-append w v),
      subst (λ (V : Tree). All (λ r. is_full V r ≡ false) (drop a.walked (w ++ v))) (sym e) (all_since (tree_of cs p) w v a.walked d h.4),
      subst (λ (V : Tree). is_full V (path q) ≡ true) (sym (e ∙ z)) (eq-eqb (length (path q)) (length q.variables) (path_length q (omega (arith, x.values, x.depth)) ∙ h.3)),
      l ∙ ap Some (sym (whole_path k q x h.3)),
      omega (arith, y, g, h.5),
      o,
    )

-- the answer that the walk is used up
pub ended_answer : (cs : List Cond) (n : ℕ) (p q : Position) (a b : SearchView) → a.walk ≡ tree_of cs p → b.walk ≡ tree_of cs p → a.walked ≡ p.walked → a.budget ≡ n → b.walked ≡ q.walked → b.over ≡ Some Ended → GoesOnAs cs n p Ended q → Answers a Ended b
ended_answer cs n p q a b e f m g y o t =
    let w = t.0 in
    let h = t.2 in
    let v = h.0 in
    let d : length w ≡ a.walked = t.1 ∙ sym m in (
      w ++ v,
      (subst (λ (V : Tree). IsFront V (w ++ v)) (sym f) h.1, h.3 ∙ sym y),
      subst (λ (V : Tree). IsWhole V (w ++ v)) (sym e) h.2,
      subst (λ (V : Tree). All (λ r. is_full V r ≡ false) (drop a.walked (w ++ v))) (sym e) (all_since (tree_of cs p) w v a.walked d h.4),
      omega (arith, y, g, h.5),
      o,
    )

-- the answer that the budget is used up
pub budget_answer : (cs : List Cond) (n : ℕ) (p q : Position) (a b : SearchView) → a.walk ≡ tree_of cs p → b.walk ≡ tree_of cs p → a.walked ≡ p.walked → a.budget ≡ n → b.walked ≡ q.walked → b.over ≡ Some Budget → GoesOnAs cs n p Budget q → Answers a Budget b
budget_answer cs n p q a b e f m g y o t =
    let w = t.0 in
    let h = t.2 in
    let v = h.0 in
    let d : length w ≡ a.walked = t.1 ∙ sym m in (
      w ++ v,
      (subst (λ (V : Tree). IsFront V (w ++ v)) (sym f) h.1, h.3 ∙ sym y),
      y ∙ h.5 ∙ sym g,
      subst (λ (V : Tree). GoesOn V (w ++ v)) (sym e) h.2,
      subst (λ (V : Tree). All (λ r. is_full V r ≡ false) (drop a.walked (w ++ v))) (sym e) (all_since (tree_of cs p) w v a.walked d h.4),
      o,
    )

-- a search that is not over, as its answer sees it
pub as_before : (a b : SearchView) (s : Step) → a.over ≡ None → Answers a s b → AsBefore a.over a s b
as_before a b s e h = subst (λ (o : Option Step). AsBefore o a s b) (sym e) h

-- the depth of a search that is ready
pub stands_at : (cs : List Cond) (p : Position) (f : Bool) → IsReady cs p f → StandsAt p f
stands_at cs p f r = over p.variables f r
  where
    over : (xs : List Variable) (f : Bool) → ReadyFor xs cs p f → StandsFor xs p f
    over [] f r = tt
    over (x ∷ xs) false r = r.0
    over (x ∷ xs) true r = r.0

-- ---- what is true of each search

-- an order of no variable is of no object
no_variables : (k : ℕ) (S : State) (os : List ℕ) (down : List Bool) → NamesEach k S (record { objects = os; down = down }) → variables os down ≡ [] → length S ≡ 0
no_variables k S [] down n e = elim (cases_lt 0 (length S)) [
  | inl b ↦ absurd (let c = n.each 0 b in omega (arith, c.1))
  | inr b ↦ omega arith
]
no_variables k S (o ∷ os) down n e = absurd (cc)

-- a search without variables has no objects
pub no_objects : (k : ℕ) (p : Position) → (order : Order) × NamesEach k p.first order × (p.variables ≡ variables_in order) → p.variables ≡ [] → length p.first ≡ 0
no_objects k p h e = no_variables k p.first h.0.objects h.0.down h.1 (sym h.2 ∙ e)

-- a list of the length 0
pub no_events : (es : List Event) (n : ℕ) → n ≡ length es → nat_eq n 0 ≡ true → es ≡ []
no_events [] n e h = refl
no_events (x ∷ es) n e h = absurd (let z : n ≡ 0 = eqb-true n 0 h in omega (arith, e, z))

-- a search that has found nothing so far stands behind no layout
pub none_found : (found some : Bool) → (found ≡ true → some ≡ true) → some ≡ false → found ≡ false
none_found true some h f = absurd (false≢true (sym f ∙ h refl))
none_found false some h f = refl

-- what is true of a search behind a step of its walk, but for what the answer decides
sound_behind : (k : ℕ) (keeps : Bool) (cs ds : List Cond) (a b n : ℕ) (p q : Position) (found found' : Bool) (over over' : Option Step) (some some' began : Bool) (old new : List Event) →
    IsSound k keeps cs a n p found over some began old → IsWell k q → SameWalk p q → ds ≡ cs → b ≡ a → (over' ≡ None → q.walked ≤ n) → (over' ≡ None → IsReady ds q found') → (over' ≡ Some Memory → keeps ≡ true) → over' ≢ Some Found →
    (found' ≡ true → some' ≡ true) → (keeps ≡ true → began ≡ true → some' ≡ false → q.token ≡ None → Derives ds q over' new) → IsSound k keeps ds b n q found' over' some' began new
sound_behind k keeps cs ds a b n p q found found' over over' some some' began old new i well same e m count ready memory last has derives = record {
  well = well;
  state = subst (IsState k) (sym same.first) i.state;
  count = count;
  objects = ap length same.first ∙ i.objects ∙ sym m;
  fits = subst (λ (S : State). All (λ c. FitsIn c S) ds) (sym same.first) (subst (All (λ c. FitsIn c p.first)) (sym e) i.fits);
  ready = ready;
  memory = memory;
  last = last;
  named = (i.named.0, subst (λ (S : State). NamesEach k S i.named.0) (sym same.first) i.named.1, same.variables ∙ i.named.2);
  some = has;
  derives = derives;
}

-- the same where it has found a full member
pub sound_found : (k : ℕ) (keeps : Bool) (cs ds : List Cond) (a b n : ℕ) (p q : Position) (found : Bool) (over : Option Step) (some began : Bool) (old new : List Event) (r : Step) → IsSound k keeps cs a n p found over some began old →
    over ≡ None → IsWell k q → SameWalk p q → ds ≡ cs → b ≡ a → r ≡ Found → (IsReady cs p found → GoesOnAs cs n p r q) → IsSound k keeps ds b n q true over true began new
sound_found k keeps cs ds a b n p q found over some began old new r i none well same e m is walks =
    let h : GoesOnAs cs n p Found q = subst (λ (s : Step). GoesOnAs cs n p s q) is (walks (i.ready none)) in
    sound_behind k keeps cs ds a b n p q found true over over some true began old new i well same e m (λ o. h.2.5) (λ o. subst (λ (z : List Cond). IsReady z q true) (sym e) h.2.6) (λ o. absurd (cc)) (λ o. cc) (λ o. refl)
    (λ k b s t. absurd (cc))

-- what a step leaves recorded of a search that has found nothing so far
pub step_recorded : (k : ℕ) (keeps : Bool) (cs ds : List Cond) (a n : ℕ) (p q : Position) (found : Bool) (over : Option Step) (some began : Bool) (old new : List Event) (r s : Step) → IsSound k keeps cs a n p found over some began old →
    over ≡ None → ds ≡ cs → r ≡ s → (keeps ≡ true → found ≡ false → p.token ≡ None → IsUnmoved p → old ≡ [] → RecordsStep cs q r new) → keeps ≡ true → began ≡ true → some ≡ false → p.token ≡ None → RecordsStep ds q s new
step_recorded k keeps cs ds a n p q found over some began old new r s i none e is records h b f token =
    let d = subst (λ (o : Option Step). Derives cs p o old) none (i.derives h b f token) in
    subst (λ (z : List Cond). RecordsStep z q s new) (sym e) (subst (λ (z : Step). RecordsStep cs q z new) is (records h (none_found found some i.some f) token d.0 d.1))

-- the same where it is over: a recorder that keeps nothing never wants memory
pub sound_over : (k : ℕ) (keeps : Bool) (cs ds : List Cond) (a b n : ℕ) (p q : Position) (found : Bool) (over : Option Step) (some began : Bool) (old new : List Event) (r s : Step) → IsSound k keeps cs a n p found over some began old →
    over ≡ None → IsWell k q → SameWalk p q → ds ≡ cs → b ≡ a → r ≡ s → s ≢ Found → (s ≡ Memory → keeps ≢ false) → (keeps ≡ true → found ≡ false → p.token ≡ None → IsUnmoved p → old ≡ [] → RecordsStep cs q r new) →
    IsSound k keeps ds b n q false (Some s) some began new
sound_over k keeps cs ds a b n p q found over some began old new r s i none well same e m is other memory records =
    sound_behind k keeps cs ds a b n p q found false over (Some s) some some began old new i well same e m (λ o. absurd (cc)) (λ o. absurd (cc)) (λ o. kept keeps (memory (cc))) (λ o. other (cc)) (λ o. absurd (false≢true o))
    (λ h b f t. step_recorded k keeps cs ds a n p q found over some began old new r s i none e is records h b f (sym same.token ∙ t))
  where
    kept : (b : Bool) → b ≢ false → b ≡ true
    kept true h = refl
    kept false h = absurd (h refl)
