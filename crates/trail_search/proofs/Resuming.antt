-- A search goes on, after a full member where one was found.
use Rattle.std.proofs.Common.{◌≡◌, ℕ, ◌<◌, ◌≤◌, true, false, List, [], ◌∷◌, ◌++◌, length, refl, sym, ap, ◌∙◌, subst, inl, arith, ℤ}
use Rattle.std.proofs.lemmas.List.{append-nil}
use Rattle.std.proofs.lemmas.List.Elements.{All-nil}
use Rattle.geo_conditions.specs.declared.cond.Cond.{Cond}
use Rattle.std.specs.List.{All}
use Rattle.geo_conditions.specs.Walk.{Variable, Tree, IsFront, IsWhole, GoesOn, is_full}
use Rattle.trail_search.specs.declared.step.Step.{Step}
use Rattle.trail_search.specs.declared.step.Step.TheVariants.{Found, Ended, Budget, Memory}
use Rattle.trail_search.specs.Walker.{Position, tree_of, depth, path, SameWalk, IsWell, Searches, IsStuck, IsReady, ReadyFor, Walks, GoesOnAs}
use Rattle.trail_search.proofs.Standing.{tree_same, path_length}
use Rattle.trail_search.proofs.Loop.{stuck_whole}

-- none of them is full
abbrev AllShort : Tree → List (List ℤ) → Type 0
AllShort W v = All (λ r. is_full W r ≡ false) v

-- a walk from a position of the same walk
pub walks_from : (cs : List Cond) (n : ℕ) (p r : Position) (w : List (List ℤ)) (s : Step) (q : Position) → SameWalk p r → Walks cs n r w s q → Walks cs n p w s q
walks_from cs n p r w s q e h = over s h
  where
    over : (s : Step) → Walks cs n r w s q → Walks cs n p w s q
    over Found h = (h.0, subst (λ (W : Tree). IsFront W (w ++ h.0 ++ path q ∷ [])) (sym (tree_same cs p r e)) h.1, h.2, h.3, subst (λ (W : Tree). AllShort W h.0) (sym (tree_same cs p r e)) h.4, h.5, h.6)
    over Ended h = (h.0, subst (λ (W : Tree). IsFront W (w ++ h.0)) (sym (tree_same cs p r e)) h.1, subst (λ (W : Tree). IsWhole W (w ++ h.0)) (sym (tree_same cs p r e)) h.2, h.3, subst (λ (W : Tree). AllShort W h.0) (sym (tree_same cs p r e)) h.4, h.5)
    over Budget h = (h.0, subst (λ (W : Tree). IsFront W (w ++ h.0)) (sym (tree_same cs p r e)) h.1, subst (λ (W : Tree). GoesOn W (w ++ h.0)) (sym (tree_same cs p r e)) h.2, h.3, subst (λ (W : Tree). AllShort W h.0) (sym (tree_same cs p r e)) h.4, h.5)
    over Memory h = tt

-- where there are variables
pub ready_before : (cs : List Cond) (p : Position) → (p.variables ≡ [] → ⊥) → IsReady cs p false → (w : List (List ℤ)) × (length w ≡ p.walked) × Searches cs p w
ready_before cs p n r = over p.variables n r
  where
    over : (xs : List Variable) → (xs ≡ [] → ⊥) → ReadyFor xs cs p false → (w : List (List ℤ)) × (length w ≡ p.walked) × Searches cs p w
    over [] n r = absurd (n refl)
    over (x ∷ xs) n r = (r.1, r.2.4, r.2)

-- right after a full member nothing is left under the path
pub ready_after : (k : ℕ) (cs : List Cond) (p : Position) → IsWell k p → (p.variables ≡ [] → ⊥) → IsReady cs p true → (w : List (List ℤ)) × (length w ≡ p.walked) × IsStuck cs p w
ready_after k cs p o n r = over p.variables n r
  where
    over : (xs : List Variable) → (xs ≡ [] → ⊥) → ReadyFor xs cs p true → (w : List (List ℤ)) × (length w ≡ p.walked) × IsStuck cs p w
    over [] n r = absurd (n refl)
    over (x ∷ xs) n r = (r.1, r.2.4, (r.2.0, r.2.1, r.2.2, inl (path_length p (omega (arith, o.values, o.depth)) ∙ r.0), r.2.4))

-- a list that is not empty has an element
some_variable : (xs : List Variable) → (xs ≡ [] → ⊥) → 0 < length xs
some_variable [] n = absurd (n refl)
some_variable (x ∷ xs) n = omega arith

-- no level has a later value: the walk is used up
pub resumed_ended : (k : ℕ) (cs : List Cond) (n : ℕ) (p r : Position) → IsWell k p → (p.variables ≡ [] → ⊥) → p.walked ≤ n → IsWell k r → SameWalk p r → r.walked ≡ p.walked → depth r ≡ 0 → ((ds : List Cond) (w : List (List ℤ)) → IsStuck ds p w → IsStuck ds r w) → IsReady cs p true → GoesOnAs cs n p Ended r
resumed_ended k cs n p r o y h x s e d m z =
    let t = ready_after k cs p o y z in
    let u = m cs t.0 t.2 in
    let c : tree_of cs r ≡ tree_of cs p = sym (tree_same cs p r s) in
    let v = stuck_whole k cs r t.0 x (omega (arith, some_variable p.variables y, ap length s.variables)) d u in (
      t.0,
      t.1,
      (
        [],
        subst (λ (W : Tree). IsFront W (t.0 ++ [])) c (subst (IsFront (tree_of cs r)) (sym (append-nil t.0)) v.0),
        subst (λ (W : Tree). IsWhole W (t.0 ++ [])) c (subst (IsWhole (tree_of cs r)) (sym (append-nil t.0)) v.1),
        ap length (append-nil t.0) ∙ u.4,
        All-nil (λ q. is_full (tree_of cs p) q ≡ false),
        omega (arith, h, e),
      ),
    )
