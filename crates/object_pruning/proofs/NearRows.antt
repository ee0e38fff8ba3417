-- How near others have to be, for more and more conditions, and what that spares.
use Rattle.std.proofs.Common.{◌≡◌, ◌≢◌, ◌⊎◌, ℕ, ◌+◌, ◌-◌, ◌<◌, List, [], ◌∷◌, ◌++◌, zero, suc, length, get_or, refl, sym, ap, ◌∙◌, subst, inl, inr, arith, ℤ, Option, Some, None}
use Rattle.std.specs.Prelude.{slice_get, MatchOption, IfSome}
use Rattle.std.proofs.lemmas.Int.{ints}
use Rattle.std.proofs.lemmas.Bool.{cases_Bool, cases_eq}
use Rattle.std.proofs.lemmas.Option.{same_Some, slice_get-get_or}
use Rattle.geo_base.specs.Boxes.{coordinate}
use Rattle.geo_conditions.specs.declared.cond.Cond.{Cond}
use Rattle.geo_conditions.specs.declared.object.ObjId.{ObjId}
use Rattle.geo_conditions.specs.Conditions.{possible, AllFit}
use Rattle.geo_conditions.specs.Reach.{State, Reach, Region, low, high, just, with_at}
use Rattle.geo_conditions.proofs.Points.{reach_other}
use Rattle.indexical.specs.Faces.{IsBeside}
use Rattle.indexical.specs.Nearness.{IsRefutedNear}
use Rattle.indexical.proofs.Values.{low_at, high_at}
use Rattle.object_pruning.specs.declared.near.Near.{Near}
use Rattle.object_pruning.specs.declared.rows.Group.{Group}
use Rattle.object_pruning.specs.declared.rows.Run.{Run}
use Rattle.object_pruning.specs.Gathered.{IsNumberSpared}
use Rattle.object_pruning.specs.InRows.{AreSomeGroups, IsSomeGroup}
use Rattle.object_pruning.specs.Limits.{IsAtLeast}
use Rattle.object_pruning.specs.Near.{AreRefutedNear, IsFar, IsNearRow, IsWider}
use Rattle.object_pruning.specs.Runs.{HaveBetween, IsInGroup, IsRun}

-- ---- more and more conditions

-- what is refuted near is refuted so where that is wider
pub refuted_wider : (n : ℕ) (x : Cond) (o u : ℕ) (a b c d : List ℤ) → IsAtLeast n a c → IsAtLeast n b d → IsRefutedNear n x o u a b → IsRefutedNear n x o u c d
refuted_wider n x o u a b c d f g near S r e h =
    let w = near S r e h in
    let p = f e h in
    let q = g e h in
    (omega (arith, ints, w.0, p), omega (arith, ints, w.1, q))

pub at_least_same : (n : ℕ) (p : List ℤ) → IsAtLeast n p p
at_least_same n p d h = omega (arith, ints)

pub wider_same : (n : Near) → IsWider n n
wider_same n = record { dims = refl; ahead = at_least_same n.dims n.ahead.coordinates; behind = at_least_same n.dims n.behind.coordinates }

pub wider_more : (n m l : Near) → IsWider n m → IsWider m l → IsWider n l
wider_more n m l f g = record {
  dims = g.dims ∙ f.dims;
  ahead = λ d h. let p = f.ahead d h in let q = g.ahead d (omega (arith, h, f.dims)) in omega (arith, ints, p, q);
  behind = λ d h. let p = f.behind d h in let q = g.behind d (omega (arith, h, f.dims)) in omega (arith, ints, p, q);
}

module _ (cs : List Cond) (o : ℕ) where
  -- of no condition
  pub near_none : (P : ℕ → ObjId → Type 0) (n : Near) → ((i : ℕ) (u : ObjId) → P i u → ⊥) → AreRefutedNear cs o P n
  near_none P n none i u x p at = absurd (none i u p)

  pub near_wider : (P : ℕ → ObjId → Type 0) (n m : Near) → IsWider n m → AreRefutedNear cs o P n → AreRefutedNear cs o P m
  near_wider P n m w f i u x p at =
      subst (λ (k : ℕ). IsRefutedNear k x o u.0 m.ahead.coordinates m.behind.coordinates) (sym w.dims)
      (refuted_wider n.dims x o u.0 n.ahead.coordinates n.behind.coordinates m.ahead.coordinates m.behind.coordinates w.ahead w.behind (f i u x p at))

  -- of both kinds, which are all of a third kind
  pub near_both : (P Q R : ℕ → ObjId → Type 0) (n : Near) → ((i : ℕ) (u : ObjId) → R i u → P i u ⊎ Q i u) → AreRefutedNear cs o P n → AreRefutedNear cs o Q n → AreRefutedNear cs o R n
  near_both P Q R n either f g i u x r at = elim (either i u r) [ inl p ↦ f i u x p at | inr q ↦ g i u x q at ]

  -- of one condition
  pub near_one : (number : ℕ) (u : ObjId) (c : Cond) (k : ℕ) (a b : List ℤ) (n : Near) → slice_get cs (number - 1) ≡ Some c → n.dims ≡ k → IsAtLeast k a n.ahead.coordinates → IsAtLeast k b n.behind.coordinates → IsRefutedNear k c o u.0 a b → AreRefutedNear cs o (λ i v. (i ≡ number) × (v ≡ u)) n
  near_one number u c k a b n is dims f g near i v x p at =
      let same : c ≡ x = same_Some _ _ (sym is ∙ subst (λ (j : ℕ). slice_get cs (j - 1) ≡ Some x) p.0 at) in
      subst (λ (w : ObjId). IsRefutedNear n.dims x o w.0 n.ahead.coordinates n.behind.coordinates) (sym p.1)
      (subst (λ (y : Cond). IsRefutedNear n.dims y o u.0 n.ahead.coordinates n.behind.coordinates) same
      (subst (λ (j : ℕ). IsRefutedNear j c o u.0 n.ahead.coordinates n.behind.coordinates) (sym dims) (refuted_wider k c o u.0 a b n.ahead.coordinates n.behind.coordinates f g near)))

  -- where it was found
  pub near_found : (number : ℕ) (u : ObjId) (c : Cond) (k : ℕ) (a b : List ℤ) (old : Near) (r : Option Near) → slice_get cs (number - 1) ≡ Some c → old.dims ≡ k → IfSome r (IsWider old) → IfSome r (λ n. IsAtLeast k a n.ahead.coordinates) → IfSome r (λ n. IsAtLeast k b n.behind.coordinates) → IsRefutedNear k c o u.0 a b → IfSome r (AreRefutedNear cs o (λ i v. (i ≡ number) × (v ≡ u)))
  near_found number u c k a b old None is dims w f g near = tt
  near_found number u c k a b old (Some n) is dims w f g near = near_one number u c k a b n is (w.dims ∙ dims) f g near

-- there is no other object
pub no_other : (x : Option ObjId) (v : ObjId) → x ≡ None → x ≡ Some v → ⊥
no_other None v a b = cc
no_other (Some w) v a b = cc

-- of the first k groups of a row some one has the number, and the other object
abbrev pub HaveBesideBelow : List Group → ℕ → ℕ → ObjId → Type 0
HaveBesideBelow gs k i u = (j : ℕ) × (g : Group) × (j < k) × (slice_get gs j ≡ Some g) × (g.other ≡ Some u) × IsInGroup g i

-- the next group
pub beside_next : (gs : List Group) (k : ℕ) (d : Group) (i : ℕ) (u : ObjId) → slice_get gs k ≡ Some d → HaveBesideBelow gs (k + 1) i u → HaveBesideBelow gs k i u ⊎ ((d.other ≡ Some u) × IsInGroup d i)
beside_next gs k d i u at h = elim (cases_eq h.0 k) [
  | inl e ↦
      let same : h.1 ≡ d = same_Some _ _ (sym h.3 ∙ ap (slice_get gs) e ∙ at) in
      inr (subst (λ (g : Group). (g.other ≡ Some u) × IsInGroup g i) same (h.4, h.5))
  | inr ne ↦ inl (h.0, h.1, omega (arith, h.2, ne), h.3, h.4, h.5)
]

-- its conditions too
pub near_next : (cs : List Cond) (o : ℕ) (gs : List Group) (k : ℕ) (d : Group) (n m : Near) → k < length gs → IsWider n m → AreRefutedNear cs o (HaveBesideBelow gs k) n → AreRefutedNear cs o (λ i v. ((get_or gs k d).other ≡ Some v) × IsInGroup (get_or gs k d) i) m → AreRefutedNear cs o (HaveBesideBelow gs (k + 1)) m
near_next cs o gs k d n m h w old new = near_both cs o (HaveBesideBelow gs k) (λ i v. ((get_or gs k d).other ≡ Some v) × IsInGroup (get_or gs k d) i) (HaveBesideBelow gs (k + 1)) m (λ i u. beside_next gs k (get_or gs k d) i u (slice_get-get_or gs k d h)) (near_wider cs o (HaveBesideBelow gs k) n m w old) new

-- ---- each row

at_more : {X : Type 0} (vs : List X) (v x : X) (q : ℕ) → slice_get (vs ++ v ∷ []) q ≡ Some x → (slice_get vs q ≡ Some x) ⊎ ((q ≡ length vs) × (v ≡ x))
at_more [] v x zero e = inr (refl, same_Some _ _ e)
at_more [] v x (suc q) e = absurd (cc)
at_more (w ∷ vs) v x zero e = inl e
at_more (w ∷ vs) v x (suc q) e = elim (at_more vs v x q e) [ inl h ↦ inl h | inr h ↦ inr (ap suc h.0, h.1) ]

pub near_more : (P : ℕ → Near → Type 0) (vs : List (Option Near)) (v : Option Near) → ((q : ℕ) (n : Near) → slice_get vs q ≡ Some (Some n) → P q n) → IfSome v (P (length vs)) → (q : ℕ) (n : Near) → slice_get (vs ++ v ∷ []) q ≡ Some (Some n) → P q n
near_more P vs v old one q n e = elim (at_more vs v (Some n) q e) [
  | inl h ↦ old q n h
  | inr h ↦ subst (λ (k : ℕ). P k n) (sym h.0) (subst (λ (w : Option Near). IfSome w (P (length vs))) h.1 one)
]

-- ---- what is far

module _ (cs : List Cond) (S : State) (o : ℕ) (fits : AllFit cs S) (here : o < length S) (gs : List Group) (some : AreSomeGroups cs o gs) (run : Run) (is : IsRun gs run.first run) where
  -- the other object of a group is another one
  other_apart : (u : ObjId) (g : Group) (i : ℕ) (x : Cond) → IsSomeGroup cs o g → g.other ≡ Some u → IsInGroup g i → slice_get cs (i - 1) ≡ Some x → u.0 ≢ o
  other_apart u g i x q e b at = (subst (λ (v : Option ObjId). IfSome v (λ w. IsBeside x o w.0 g.other_place)) e (q.3.faces i x b at).other).apart

  pub far_spared : (K s : ℕ) (b : Region) (u : ObjId) (n : Near) → run.other ≡ Some u → n.dims ≡ K → IsNearRow cs o gs n → IsFar K S u.0 n b → (i : ℕ) → HaveBetween gs run.first run.end i → IsNumberSpared K cs S o s b i
  far_spared K s b u n other dims near far i w x at q has = elim (cases_Bool (possible x (with_at S o s (just q)))) [
    | inl e ↦ e
    | inr e ↦
        let T = with_at S o s (just q) in
        let g_other : w.1.other ≡ Some u = is.other w.0 w.1 w.2 w.3 w.4 ∙ other in
        let ne = other_apart u w.1 i x (some w.0 w.1 w.4) g_other w.5 at in
        let same = reach_other S o s u.0 (just q) ne in
        absurd (far q has (λ d h.
        let m = near i u x (w.0, w.1, w.4, g_other, w.5) at T e d (omega (arith, h, dims)) in
        let lo = low_at S o s here (just q) d in
        let hi = high_at S o s here (just q) d in
        let low_u : low T u.0 d ≡ low S u.0 d = ap (λ (r : Reach). coordinate r.region.lo d) same in
        let high_u : high T u.0 d ≡ high S u.0 d = ap (λ (r : Reach). coordinate r.region.hi d) same in
        (omega (arith, ints, m.0, lo, high_u), omega (arith, ints, m.1, hi, low_u))))
  ]

  -- said of the options
  pub far_run_spared : {A : Type 0} (to : A → Near) (K s : ℕ) (b : Region) (near : Option A) → IfSome near (λ n. (to n).dims ≡ K) → IfSome near (λ n. IsNearRow cs o gs (to n)) → MatchOption run.other ⊥ (λ u. MatchOption near ⊥ (λ n. IsFar K S u.0 (to n) b)) → (i : ℕ) → HaveBetween gs run.first run.end i → IsNumberSpared K cs S o s b i
  far_run_spared {A} to K s b near dims is_near far = of run.other refl near dims is_near far
    where
      of : (other : Option ObjId) → run.other ≡ other → (near : Option A) → IfSome near (λ n. (to n).dims ≡ K) → IfSome near (λ n. IsNearRow cs o gs (to n)) → MatchOption other ⊥ (λ u. MatchOption near ⊥ (λ n. IsFar K S u.0 (to n) b)) → (i : ℕ) → HaveBetween gs run.first run.end i → IsNumberSpared K cs S o s b i
      of None e near dims is_near far = absurd far
      of (Some u) e None dims is_near far = absurd far
      of (Some u) e (Some n) dims is_near far = far_spared K s b u (to n) e dims is_near far
