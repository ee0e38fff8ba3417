-- The walk without variables: the empty tuple is its only member, where the first state is supported and there is no token.
use Rattle.std.proofs.Common.{◌≡◌, ◌≢◌, ℕ, ◌+◌, ◌<◌, ◌≤◌, Bool, true, false, List, [], ◌∷◌, length, take, refl, sym, ap, ◌∙◌, subst, inl, inr, arith, ℤ, Option, Some, None}
use Rattle.std.specs.Prelude.{Result, Ok}
use Rattle.std.proofs.lemmas.List.Elements.{All-nil}
use Rattle.geo_conditions.specs.declared.cond.Cond.{Cond}
use Rattle.geo_conditions.specs.Reach.{State}
use Rattle.geo_conditions.specs.Supported.{IsSupported, IsGreatest, NoneInside}
use Rattle.geo_conditions.specs.Walk.{Variable, Tree, Precedes, IsIn, IsFront, IsWhole, GoesOn, is_full}
use Rattle.geo_conditions.proofs.Points.{inside_self}
use Rattle.geo_conditions.proofs.Steps.{front_none, front_push}
use Rattle.geo_state.specs.declared.propagate.Settled.{Settled}
use Rattle.geo_state.specs.declared.propagate.Settled.TheVariants.{Kept, Dead}
use Rattle.geo_state.specs.Settle.{SettlesOr}
use Rattle.trail_search.specs.declared.step.Step.TheVariants.{Found, Ended, Budget}
use Rattle.trail_search.specs.Walker.{Position, tree_of, depth, path, SameWalk, IsWell, IsToken, IsReady, ReadyFor, GoesOnAs}

-- ---- the tree without variables

-- the walk without variables
abbrev bare : List Cond → State → Option (List ℤ) → Tree
bare cs f t = record { conditions = cs; first = f; variables = []; after = t }

-- the walk with those variables
abbrev tree_with : List Cond → State → Option (List ℤ) → List Variable → Tree
tree_with cs f t xs = record { conditions = cs; first = f; variables = xs; after = t }

-- it is the walk of a walker without variables
bare_tree : (cs : List Cond) (p : Position) → p.variables ≡ [] → bare cs p.first p.token ≡ tree_of cs p
bare_tree cs p e = ap (tree_with cs p.first p.token) (sym e)

-- a member is the empty tuple
only_empty : (cs : List Cond) (f : State) (t : Option (List ℤ)) (q : List ℤ) → IsIn (bare cs f t) q → q ≡ []
only_empty cs f t [] i = refl
only_empty cs f t (v ∷ q) i = absurd i.0

-- a walk without a member is walked at its start
none_whole : (W : Tree) → ((q : List ℤ) → IsIn W q → ⊥) → IsFront W [] × IsWhole W []
none_whole W n = (front_none W, λ q i. absurd (n q i))

-- after a token there is none
none_after : (cs : List Cond) (f : State) (a : List ℤ) → length a ≡ 0 → (q : List ℤ) → IsIn (bare cs f (Some a)) q → ⊥
none_after cs f a l (v ∷ q) i = i.0
none_after cs f a l [] i = elim i.1 [ inl p ↦ p | inr h ↦ absurd (omega (arith, l, h.1)) ]

-- where no supported state lies inside, the empty tuple is no member
none_dead : (cs : List Cond) (f : State) (t : Option (List ℤ)) → NoneInside cs f → (q : List ℤ) → IsIn (bare cs f t) q → ⊥
none_dead cs f t n (v ∷ q) i = i.0
none_dead cs f t n [] i = n f i.0 (inside_self f)

-- where the first state is supported, it is one
empty_in : (cs : List Cond) (f : State) → IsSupported cs f → IsIn (bare cs f None) []
empty_in cs f s = (s, tt)

-- the empty tuple alone is the beginning of the walk
one_front : (cs : List Cond) (f : State) → IsSupported cs f → IsFront (bare cs f None) ([] ∷ [])
one_front cs f s = front_push (bare cs f None) [] [] (front_none (bare cs f None)) (empty_in cs f s) (All-nil (λ r. Precedes [] r [])) (λ r i p. inl (only_empty cs f None r i))

-- and the whole of it
one_whole : (cs : List Cond) (f : State) → IsWhole (bare cs f None) ([] ∷ [])
one_whole cs f q i = (0, omega arith, sym (only_empty cs f None q i))

-- before it is walked, the walk goes on
one_more : (cs : List Cond) (f : State) → IsSupported cs f → GoesOn (bare cs f None) []
one_more cs f s = ([], empty_in cs f s, All-nil (λ r. Precedes [] r []))

-- ---- positions

-- where a search without variables stands
ready_bare : (cs : List Cond) (p : Position) (b : Bool) → p.variables ≡ [] → IsReady cs p b → ReadyFor [] cs p b
ready_bare cs p b e r = subst (λ (v : List Variable). ReadyFor v cs p b) e r

-- a token that is not there
pub no_token : (t : Option (List ℤ)) → ((t ≢ None) → ⊥) → t ≡ None
no_token None h = refl
no_token (Some a) h = absurd (h (λ e. some_none a e))
  where
    some_none : (a : List ℤ) → Some a ≡ None → ⊥
    some_none a e = cc

-- the token's part of what is known, where there are no variables
token_empty : (xs : List Variable) (t : Option (List ℤ)) → xs ≡ [] → IsToken xs t → (t ≢ None) → (a : List ℤ) × (t ≡ Some a) × (length a ≡ 0)
token_empty xs None e k n = absurd (n refl)
token_empty xs (Some a) e k n = (a, refl, k.0 ∙ ap length e)

-- the full member was found: the walk is used up
pub bare_after_found : (cs : List Cond) (n : ℕ) (p : Position) → p.variables ≡ [] → p.walked ≤ n → IsReady cs p true → GoesOnAs cs n p Ended p
bare_after_found cs n p e h r =
    let y = ready_bare cs p true e r in
    let c : bare cs p.first None ≡ tree_of cs p = ap (λ (t : Option (List ℤ)). bare cs p.first t) (sym y.2) ∙ bare_tree cs p e in
    ([] ∷ [], sym y.0, ([], subst (λ (W : Tree). IsFront W ([] ∷ [])) c (one_front cs p.first y.1), subst (λ (W : Tree). IsWhole W ([] ∷ [])) c (one_whole cs p.first), sym y.0, All-nil (λ q. is_full (tree_of cs p) q ≡ false), h))

-- there is a token: no member comes after it
pub bare_after_token : (k : ℕ) (cs : List Cond) (n : ℕ) (p : Position) → IsWell k p → p.variables ≡ [] → p.walked ≤ n → (p.token ≢ None) → IsReady cs p false → GoesOnAs cs n p Ended p
bare_after_token k cs n p w e h t r =
    let y = ready_bare cs p false e r in
    let a = token_empty p.variables p.token e w.token t in
    let c : bare cs p.first (Some a.0) ≡ tree_of cs p = ap (λ (t : Option (List ℤ)). bare cs p.first t) (sym a.1) ∙ bare_tree cs p e in
    let z = none_whole (bare cs p.first (Some a.0)) (none_after cs p.first a.0 a.2) in
    ([], sym y.0, ([], subst (λ (W : Tree). IsFront W []) c z.0, subst (λ (W : Tree). IsWhole W []) c z.1, sym y.0, All-nil (λ q. is_full (tree_of cs p) q ≡ false), h))

-- the first state is not supported
pub bare_dead : (cs : List Cond) (n : ℕ) (p q : Position) → p.variables ≡ [] → p.walked ≤ n → q.walked ≡ p.walked → IsReady cs p false → NoneInside cs p.trail.state → GoesOnAs cs n p Ended q
bare_dead cs n p q e h w r d =
    let y = ready_bare cs p false e r in
    let z = none_whole (bare cs p.first p.token) (none_dead cs p.first p.token (subst (NoneInside cs) y.1 d)) in
    let c = bare_tree cs p e in
    ([], sym y.0, ([], subst (λ (W : Tree). IsFront W []) c z.0, subst (λ (W : Tree). IsWhole W []) c z.1, sym (w ∙ y.0), All-nil (λ q. is_full (tree_of cs p) q ≡ false), omega (arith, h, w)))

-- two states without objects are the same
empty_same : (S T : State) → length S ≡ 0 → length T ≡ 0 → S ≡ T
empty_same [] [] a b = refl
empty_same [] (x ∷ T) a b = absurd (omega arith)
empty_same (x ∷ S) T a b = absurd (omega arith)

-- it is supported
pub bare_kept : (cs : List Cond) (p : Position) (T : State) → p.variables ≡ [] → length p.first ≡ 0 → IsReady cs p false → IsGreatest cs p.trail.state T → IsSupported cs p.first
bare_kept cs p T e l r g =
    let y = ready_bare cs p false e r in
    subst (IsSupported cs) (empty_same T p.first (omega (arith, g.inside.objects, ap length y.1, l)) l) g.supported

-- the budget is used up before the empty tuple
pub bare_budget : (cs : List Cond) (n : ℕ) (p q : Position) → p.variables ≡ [] → p.token ≡ None → IsReady cs p false → IsSupported cs p.first → q.walked ≡ p.walked → q.walked ≡ n → GoesOnAs cs n p Budget q
bare_budget cs n p q e t r s w m =
    let y = ready_bare cs p false e r in
    let c : bare cs p.first None ≡ tree_of cs p = ap (λ (t : Option (List ℤ)). bare cs p.first t) (sym t) ∙ bare_tree cs p e in
    ([], sym y.0, ([], subst (λ (W : Tree). IsFront W []) c (front_none (bare cs p.first None)), subst (λ (W : Tree). GoesOn W []) c (one_more cs p.first s), sym (w ∙ y.0), All-nil (λ q. is_full (tree_of cs p) q ≡ false), m))

-- the empty tuple is found
pub bare_found : (k : ℕ) (cs : List Cond) (n : ℕ) (p q : Position) → p.variables ≡ [] → p.token ≡ None → IsReady cs p false → IsSupported cs p.first → SameWalk p q → IsWell k q → q.walked ≡ p.walked + 1 → p.walked < n → GoesOnAs cs n p Found q
bare_found k cs n p q e t r s same w m h =
    let y = ready_bare cs p false e r in
    let f : q.variables ≡ [] = same.variables ∙ e in
    let d : depth q ≡ 0 = omega (arith, w.depth, ap length f) in
    let z : [] ≡ path q = ap (λ (i : ℕ). take i q.values) (sym d) in
    let c : bare cs p.first None ≡ tree_of cs p = ap (λ (t : Option (List ℤ)). bare cs p.first t) (sym t) ∙ bare_tree cs p e in
    let one : q.walked ≡ 1 = omega (arith, m, y.0) in
    let ready : ReadyFor [] cs q true = (one, subst (IsSupported cs) (sym same.first) s, same.token ∙ t) in (
      [],
      sym y.0,
      (
        [],
        subst (λ (W : Tree). IsFront W (path q ∷ [])) c (subst (λ (l : List ℤ). IsFront (bare cs p.first None) (l ∷ [])) z (one_front cs p.first s)),
        sym one,
        d ∙ sym (ap length f),
        All-nil (λ q. is_full (tree_of cs p) q ≡ false),
        omega (arith, m, h),
        subst (λ (v : List Variable). ReadyFor v cs q true) (sym f) ready,
      ),
    )

-- what a dead answer says
pub settled_dead : {E : Type 0} (cs : List Cond) (S T : State) (a : Result Settled E) (b : Settled) → SettlesOr cs S a T → a ≡ Ok b → b ≡ Dead → NoneInside cs S
settled_dead {E} cs S T a b h e f = (subst (λ (c : Settled). SettlesOr {E = E} cs S (Ok c) T) f (subst (λ (c : Result Settled E). SettlesOr cs S c T) e h)).0

-- what a kept one leaves
pub settled_kept : {E : Type 0} (cs : List Cond) (S T : State) (a : Result Settled E) (b : Settled) → SettlesOr cs S a T → a ≡ Ok b → b ≡ Kept → IsGreatest cs S T
settled_kept {E} cs S T a b h e f = subst (λ (c : Settled). SettlesOr {E = E} cs S (Ok c) T) f (subst (λ (c : Result Settled E). SettlesOr cs S c T) e h)
