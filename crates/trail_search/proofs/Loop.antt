-- The loop of a walk: one turn after another.
use Rattle.std.proofs.Common.{◌≡◌, ℕ, suc, ◌+◌, ◌-◌, ◌*◌, ◌<◌, ◌≤◌, true, false, List, [], ◌∷◌, ◌++◌, length, take, get_or, refl, sym, ap, ◌∙◌, subst, inl, inr, arith, ℤ, Some, None, nat_eq, ne_eqb, suc-mul}
use Rattle.std.specs.Prelude.{Result, Ok}
use Rattle.std.proofs.lemmas.List.{append-nil, append_assoc}
use Rattle.std.proofs.lemmas.Bool.{cases_eq}
use Rattle.std.proofs.lemmas.List.Elements.{All-nil, All-push}
use Rattle.geo_conditions.specs.declared.cond.Cond.{Cond}
use Rattle.geo_conditions.specs.Reach.{State}
use Rattle.geo_conditions.specs.Walk.{Variable, IsFirstValue, Tree, IsFront, IsWhole, GoesOn, is_full}
use Rattle.trail_search.specs.declared.step.Step.TheVariants.{Found, Ended, Budget}
use Rattle.geo_state.specs.declared.propagate.Settled.{Settled}
use Rattle.geo_state.specs.declared.propagate.Settled.TheVariants.{Kept, Dead}
use Rattle.trail_search.specs.Cursor.{Stands, NoneMeets, Narrows, IsFrom, IsLeft}
use Rattle.trail_search.specs.Walker.{Position, tree_of, depth, path, SameWalk, IsWell, Searches, Rests, IsStuck, SettledAs, KeptAs, DeadAs, Walks, Walking, IsReady, ReadyFor, IsFresh, FirstBound, IsToken}
use Rattle.trail_search.proofs.Walking.{same_trans}
use Rattle.trail_search.proofs.Standing.{tree_same, path_length, at_number, stands_whole, visit_in, searches_as, stands_start, stands_after, levels_none, left_start, left_bound}

-- each walk is the same as itself
same_self : (p : Position) → SameWalk p p
same_self p = record { first = refl; variables = refl; token = refl }

-- nothing is walked yet
pub loop_start : (k : ℕ) (cs : List Cond) (n : ℕ) (p : Position) → IsWell k p → p.walked ≤ n → depth p < length p.variables → Walking k cs n p p
loop_start k cs n p w h o = record {
  well = w;
  same = same_self p;
  count = h;
  below = o;
  walks = λ u s. ([], subst (Searches cs p) (sym (append-nil u)) s, All-nil (λ r. is_full (tree_of cs p) r ≡ false));
}

-- no supported state meets the path, and the walk goes past the last level that has a later value
pub loop_dead : (k : ℕ) (cs : List Cond) (n : ℕ) (p q s r : Position) → Walking k cs n p q → DeadAs cs q s → SameWalk q s → s.walked ≡ q.walked → depth s ≡ depth q → IsWell k r → SameWalk s r → r.walked ≡ s.walked → depth r < depth s → ((ds : List Cond) (w : List (List ℤ)) → IsStuck ds s w → Searches ds r w) → Walking k cs n p r
loop_dead k cs n p q s r g d e f x w i j y m = record {
  well = w;
  same = same_trans p q r g.same (same_trans q s r e i);
  count = omega (arith, g.count, f, j);
  below = omega (arith, g.below, x, y, ap length i.variables, ap length e.variables);
  walks = λ u h. let t = g.walks u h in (t.0, m cs (u ++ t.0) (d (u ++ t.0) t.1), t.2);
}

-- both have the same tree
back : (cs : List Cond) (p q : Position) → SameWalk p q → tree_of cs q ≡ tree_of cs p
back cs p q s = sym (tree_same cs p q s)

-- where nothing is left and no level is open the walk is used up
pub stuck_whole : (k : ℕ) (cs : List Cond) (r : Position) (w : List (List ℤ)) → IsWell k r → 0 < length r.variables → depth r ≡ 0 → IsStuck cs r w → IsFront (tree_of cs r) w × IsWhole (tree_of cs r) w
stuck_whole k cs r w x o y u =
    let z : path r ≡ [] = ap (λ (m : ℕ). take m r.values) y in
    let st : Stands (tree_of cs r) r.along [] u.0 w = subst (λ (v : List ℤ). Stands (tree_of cs r) r.along v u.0 w) z u.1 in
    let none : NoneMeets (tree_of cs r) [] u.0 = elim u.3 [
      | inl l ↦ absurd (let j : 0 ≡ length r.variables = ap length (sym z) ∙ l in omega (arith, j, o))
      | inr m ↦ subst (λ (v : List ℤ). NoneMeets (tree_of cs r) v u.0) z m
    ] in
    (st.front, stands_whole (tree_of cs r) r.along u.0 w x.objects o st none)

-- no level has a later value: the walk is used up
pub loop_ended : (k : ℕ) (cs : List Cond) (n : ℕ) (p q s r : Position) → Walking k cs n p q → DeadAs cs q s → SameWalk q s → s.walked ≡ q.walked → IsWell k r → SameWalk s r → r.walked ≡ s.walked → depth r ≡ 0 → ((ds : List Cond) (w : List (List ℤ)) → IsStuck ds s w → IsStuck ds r w) → (w : List (List ℤ)) → Searches cs p w → Walks cs n p w Ended r
loop_ended k cs n p q s r g d e f x i j y m w h =
    let t = g.walks w h in
    let u = m cs (w ++ t.0) (d (w ++ t.0) t.1) in
    let st = same_trans p s r (same_trans p q s g.same e) i in
    let c = back cs p r st in
    let o : 0 < length r.variables = omega (arith, g.below, ap length i.variables, ap length e.variables) in
    let z = stuck_whole k cs r (w ++ t.0) x o y u in (
      t.0,
      subst (λ (V : Tree). IsFront V (w ++ t.0)) c z.0,
      subst (λ (V : Tree). IsWhole V (w ++ t.0)) c z.1,
      u.4,
      t.2,
      omega (arith, g.count, f, j),
    )

-- the path is as long as the levels are deep
first_at : (s : Position) (x : Variable) (u : ℤ) (k : ℕ) → IsWell k s → depth s < length s.variables → length (path s) ≡ depth s
first_at s x u k w o = path_length s (omega (arith, w.values, o))

-- the next member is there, and the budget is used up
pub loop_budget : (k : ℕ) (cs : List Cond) (n : ℕ) (p q s : Position) (x : Variable) (u : ℤ) → Walking k cs n p q → KeptAs cs q s → SameWalk q s → IsWell k s → depth s < length s.variables → get_or s.variables (depth s) x ≡ x → IsFirstValue s.trail.state x u → s.walked ≡ n → (w : List (List ℤ)) → Searches cs p w → Walks cs n p w Budget s
loop_budget k cs n p q s x u g d e y o v f m w h =
    let t = g.walks w h in
    let r = d.1 (w ++ t.0) t.1 in
    let z = first_at s x u k y o in
    let at = at_number s.variables (path s) (λ x. IsFirstValue s.trail.state x u) x (omega (arith, z, o)) (subst (λ (i : Variable). IsFirstValue s.trail.state i u) (sym (ap (λ (j : ℕ). get_or s.variables j x) z ∙ v)) f) in
    let i = visit_in (tree_of cs s) s.along (path s) r.0 (w ++ t.0) u s.trail.state r.1 r.3 at in
    let c = back cs p s (same_trans p q s g.same e) in (
      t.0,
      subst (λ (V : Tree). IsFront V (w ++ t.0)) c r.1.front,
      subst (λ (V : Tree). GoesOn V (w ++ t.0)) c (path s ++ u ∷ [], i.0, i.1),
      r.4,
      t.2,
      m,
    )

-- the test of two numbers that differ
not_eq : (a b : ℕ) → (a ≡ b → ⊥) → nat_eq a b ≡ false
not_eq a b h = elim (cases_eq a b) [ inl e ↦ absurd (h e) | inr n ↦ ne_eqb a b n ]

-- the next member is walked, and is not full
pub loop_visit : (k : ℕ) (cs : List Cond) (n : ℕ) (p q s r : Position) (u : ℤ) → Walking k cs n p q → KeptAs cs q s → SameWalk q s → s.walked ≡ q.walked → (s.walked ≡ n → ⊥) → IsWell k r → SameWalk s r → r.walked ≡ s.walked + 1 → path r ≡ path s ++ u ∷ [] → (depth r ≡ length r.variables → ⊥) → ((ds : List Cond) (w : List (List ℤ)) → Rests ds s w → Searches ds r (w ++ (path s ++ u ∷ []) ∷ [])) → Walking k cs n p r
loop_visit k cs n p q s r u g d e f b w i j y o m = record {
  well = w;
  same = same_trans p q r g.same (same_trans q s r e i);
  count = omega (arith, g.count, f, b, j);
  below = let l : depth r ≤ length r.variables = w.depth in omega (arith, l, o);
  walks = λ v h. let t = g.walks v h in
      let x : Searches cs r ((v ++ t.0) ++ (path s ++ u ∷ []) ∷ []) = m cs (v ++ t.0) (d.1 (v ++ t.0) t.1) in (
        t.0 ++ (path s ++ u ∷ []) ∷ [],
        subst (Searches cs r) (append_assoc v t.0 ((path s ++ u ∷ []) ∷ [])) x,
        All-push (λ z. is_full (tree_of cs p) z ≡ false) t.0 (path s ++ u ∷ []) t.2
            (not_eq (length (path s ++ u ∷ [])) (length p.variables) (λ z. o (let l : length (path r) ≡ depth r = path_length r (omega (arith, w.values, w.depth)) in
            let a : length r.variables ≡ length p.variables = ap length (same_trans p q r g.same (same_trans q s r e i)).variables in omega (arith, l, z, ap length y, a)))),
      );
}

-- a search that stands at a full member
ready_full : (cs : List Cond) (r : Position) (w : List (List ℤ)) → 0 < length r.variables → depth r ≡ length r.variables → Searches cs r w → IsReady cs r true
ready_full cs r w l h s = go r.variables l
  where
    go : (xs : List Variable) → 0 < length xs → ReadyFor xs cs r true
    go [] l = absurd (omega arith)
    go (x ∷ xs) l = (h, w, s)

-- the next member is full
pub loop_found : (k : ℕ) (cs : List Cond) (n : ℕ) (p q s r : Position) (u : ℤ) → Walking k cs n p q → KeptAs cs q s → SameWalk q s → s.walked ≡ q.walked → (s.walked ≡ n → ⊥) → SameWalk s r → r.walked ≡ s.walked + 1 → path r ≡ path s ++ u ∷ [] → depth r ≡ length r.variables → ((ds : List Cond) (w : List (List ℤ)) → Rests ds s w → Searches ds r (w ++ (path s ++ u ∷ []) ∷ [])) → (w : List (List ℤ)) → Searches cs p w → Walks cs n p w Found r
loop_found k cs n p q s r u g d e f c i j y o m w h =
    let t = g.walks w h in
    let x : Searches cs r ((w ++ t.0) ++ (path s ++ u ∷ []) ∷ []) = m cs (w ++ t.0) (d.1 (w ++ t.0) t.1) in
    let z : Searches cs r (w ++ t.0 ++ path r ∷ []) = subst (λ (l : List ℤ). Searches cs r (w ++ t.0 ++ l ∷ [])) (sym y) x in
    let l : 0 < length r.variables = omega (arith, g.below, ap length i.variables, ap length e.variables) in (
      t.0,
      subst (λ (V : Tree). IsFront V (w ++ t.0 ++ path r ∷ [])) (back cs p r (same_trans p s r (same_trans p q s g.same e) i)) z.1.front,
      z.4,
      o,
      t.2,
      omega (arith, g.count, f, c, j),
      ready_full cs r (w ++ t.0 ++ path r ∷ []) l o z,
    )

-- ---- the measure

-- fewer levels are left open
pub measure_dead : (n : ℕ) (q s r : Position) → SameWalk q s → SameWalk s r → s.walked ≡ q.walked → r.walked ≡ s.walked → depth s ≡ depth q → depth r < depth s → (n - r.walked) * (length r.variables + 2) + depth r < (n - q.walked) * (length q.variables + 2) + depth q
measure_dead n q s r e f g h i j =
    let a : (n - r.walked) * (length r.variables + 2) ≡ (n - q.walked) * (length q.variables + 2) =
    ap (λ (w : ℕ). (n - w) * (length r.variables + 2)) (h ∙ g) ∙ ap (λ (v : List Variable). (n - q.walked) * (length v + 2)) (f.variables ∙ e.variables) in
    omega (arith, a, i, j)

-- one member less weighs more than one level more
more : (a m d e : ℕ) → e ≡ d + 1 → 2 ≤ m → a * m + e < suc a * m + d
more a m d e h l = let z : suc a * m ≡ a * m + m = suc-mul a m in omega (arith, z, h, l)

-- one member less may be walked
pub measure_visit : (n : ℕ) (q s r : Position) → SameWalk q s → SameWalk s r → s.walked ≡ q.walked → r.walked ≡ s.walked + 1 → q.walked < n → depth s ≡ depth q → depth r ≡ depth s + 1 → (n - r.walked) * (length r.variables + 2) + depth r < (n - q.walked) * (length q.variables + 2) + depth q
measure_visit n q s r e f g h b i j =
    let a : suc (n - r.walked) ≡ n - q.walked = omega (arith, g, h, b) in
    let v : length r.variables ≡ length q.variables = ap length (f.variables ∙ e.variables) in
    let x : (n - r.walked) * (length r.variables + 2) ≡ (n - r.walked) * (length q.variables + 2) = ap (λ (k : ℕ). (n - r.walked) * (k + 2)) v in
    let y : suc (n - r.walked) * (length q.variables + 2) ≡ (n - q.walked) * (length q.variables + 2) = ap (λ (k : ℕ). k * (length q.variables + 2)) a in
    let z : (n - r.walked) * (length q.variables + 2) + depth r < suc (n - r.walked) * (length q.variables + 2) + depth q = more (n - r.walked) (length q.variables + 2) (depth q) (depth r) (omega (arith, i, j)) (omega arith) in
    omega (arith, x, y, z)

-- what a dead answer gives
pub dead_as : {E : Type 0} (cs ds : List Cond) (q s : Position) (a : Result Settled E) (b : Settled) → SettledAs cs q a s → a ≡ Ok b → b ≡ Dead → cs ≡ ds → DeadAs ds q s
dead_as {E} cs ds q s a b h e f g = subst (λ (xs : List Cond). DeadAs xs q s) g (subst (λ (c : Settled). SettledAs {E = E} cs q (Ok c) s) f (subst (λ (c : Result Settled E). SettledAs cs q c s) e h))

-- what a kept one gives
pub kept_as : {E : Type 0} (cs ds : List Cond) (q s : Position) (a : Result Settled E) (b : Settled) → SettledAs cs q a s → a ≡ Ok b → b ≡ Kept → cs ≡ ds → KeptAs ds q s
kept_as {E} cs ds q s a b h e f g = subst (λ (xs : List Cond). KeptAs xs q s) g (subst (λ (c : Settled). SettledAs {E = E} cs q (Ok c) s) f (subst (λ (c : Result Settled E). SettledAs cs q c s) e h))

-- ---- the start

path_fresh : (r : Position) → r.trail.restores ≡ [] → [] ≡ path r
path_fresh r e = ap (λ (l : List State). take (length l) r.values) (sym e)

pub set_off_free : (k : ℕ) (cs : List Cond) (p : Position) → IsWell k p → 0 < length p.variables → IsFresh p → p.token ≡ None → Searches cs p []
set_off_free k cs p w o f e =
    let W = tree_of cs p in
    searches_as cs p W false [] None [] [] refl (sym f.along) (path_fresh p f.restores) (sym f.restores) (stands_start W o e) (levels_none W) (subst (IsLeft W [] None) (sym f.state) (left_start W)) (sym f.walked)

pub set_off_after : (k : ℕ) (cs : List Cond) (p r : Position) (v : ℤ) (x : Variable) → IsWell k p → 0 < length p.variables → IsFresh p → FirstBound p (Some v) → SameWalk p r → r.trail.restores ≡ p.trail.restores → r.along ≡ true → r.walked ≡ p.walked → get_or p.variables (depth p) x ≡ x → Narrows p.trail.state r.trail.state (λ T. IsFrom T x v) → Searches cs r []
set_off_after k cs p r v x w some f b s o l n e y =
    let W = tree_of cs p in
    let t = b.0 in
    let tok = subst (IsToken p.variables) b.1 w.token in
    let d : get_or p.variables 0 x ≡ x = ap (λ (m : ℕ). get_or p.variables m x) (sym (ap length f.restores)) ∙ e in
    let st : Stands W true [] (Some v) [] = subst (λ (z : ℤ). Stands W true [] (Some z) []) (sym b.2) (stands_after W t some b.1 tok.0) in
    let z : Narrows W.first r.trail.state (λ T. IsFrom T x v) = subst (λ (S : State). Narrows S r.trail.state (λ T. IsFrom T x v)) f.state y in
    searches_as cs r W true [] (Some v) [] [] (tree_same cs p r s) (sym l) (path_fresh r (o ∙ f.restores)) (sym (o ∙ f.restores)) st (levels_none W) (left_bound W [] v x W.first r.trail.state w.objects some (left_start W) d z) (sym (n ∙ f.walked))
