-- Rows and pairs are decided by a search through their groups.
use Rattle.std.proofs.Common.{◌≡◌, ◌⊎◌, ℕ, zero, suc, ◌≤◌, List, [], ◌∷◌, length, get_or, slice_index, refl, sym, ap, ◌∙◌, subst, inl, inr, arith, Some, None, Option, Vec, Global}
use Rattle.std.specs.Prelude.{slice_get, IfSome, Contains}
use Rattle.std.proofs.Props.{props}
use Rattle.std.proofs.Math.Logic.{∥∥₁_elim, ∥∥₁_map}
use Rattle.std.proofs.lemmas.Bool.{cases_eq, cases_lt}
use Rattle.std.proofs.lemmas.Option.{same_Some}
use Rattle.geo_conditions.specs.declared.cond.Cond.{Cond}
use Rattle.smallvec.specs.SmallVec.{SmallVec}
use Rattle.geo_conditions.specs.declared.object.ObjId.{ObjId}
use Rattle.geo_conditions.proofs.Decide.{Decided, search_below}
use Rattle.indexical.specs.Faces.{IsBeside}
use Rattle.object_pruning.specs.declared.rows.Group.{Group}
use Rattle.object_pruning.specs.declared.rows.Rows.{Rows}
use Rattle.object_pruning.specs.InRows.{row, IsInGroup, IsGroup, AreRows}
use Rattle.fixpoint.specs.declared.links.Links.{Links}
use Rattle.fixpoint.specs.declared.pairs.Pairs.{Pairs}
use Rattle.fixpoint.specs.declared.pairs.RowGroup.{RowGroup}
use Rattle.fixpoint.specs.Pairs.{ArePairs, HaveIn}
use Rattle.fixpoint.specs.declared.partners.Partners.{Partners}
use Rattle.fixpoint.specs.Partners.{ArePartners, HasNumber}
use Rattle.fixpoint.specs.Links.{AreLinks}
use Rattle.fixpoint.proofs.Stable.{stable, both}

decide_eq : (a b : ℕ) → Decided (a ≡ b)
decide_eq a b = cases_eq a b

decide_le : (a b : ℕ) → Decided (a ≤ b)
decide_le a b = elim (cases_lt b a) [ inl h ↦ inr (λ k. absurd (omega (arith, h, k))) | inr h ↦ inl h ]

either : (P Q : Type 0) → Decided P → Decided Q → Decided (P ⊎ Q)
either P Q (inl p) q = inl (inl p)
either P Q (inr n) (inl q) = inl (inr q)
either P Q (inr n) (inr m) = inr (λ y. elim y [ inl p ↦ n p | inr q ↦ m q ])

decide_contains : (xs : List ℕ) (i : ℕ) → Decided (Contains xs i)
decide_contains xs i = elim (search_below (λ k. get_or xs k i ≡ i) (λ k. decide_eq (get_or xs k i) i) (length xs)) [
  | inl f ↦ inl (f.0, f.1, f.2)
  | inr n ↦ inr (λ h. n h.0 h.1 h.2)
]

-- ---- what is somewhere in a list, or in a list of lists

abbrev Somewhere : {X : Type 0} → (X → Type 0) → List X → Type 0
Somewhere {X} P xs = (k : ℕ) × (x : X) × (slice_get xs k ≡ Some x) × P x

nowhere : {X : Type 0} (P : X → Type 0) → Somewhere P [] → ⊥
nowhere {X} P h = at h.0 h.1 h.2
  where
    at : (k : ℕ) (x : X) → slice_get [] k ≡ Some x → ⊥
    at k x e = cc

first_or_rest : {X : Type 0} (P : X → Type 0) (x : X) (xs : List X) → Somewhere P (x ∷ xs) → P x ⊎ Somewhere P xs
first_or_rest {X} P x xs h = at h.0 h.1 h.2 h.3
  where
    at : (k : ℕ) (y : X) → slice_get (x ∷ xs) k ≡ Some y → P y → P x ⊎ Somewhere P xs
    at zero y e p = inl (subst P (sym (same_Some _ _ e)) p)
    at (suc k) y e p = inr (k, y, e, p)

decide_in : {X : Type 0} (P : X → Type 0) → ((x : X) → Decided (P x)) → (xs : List X) → Decided (Somewhere P xs)
decide_in P f [] = inr (nowhere P)
decide_in P f (x ∷ xs) = elim (f x) [
  | inl p ↦ inl (0, x, refl, p)
  | inr n ↦ elim (decide_in P f xs) [
    | inl h ↦ inl (suc h.0, h.1, h.2, h.3)
    | inr m ↦ inr (λ h. elim (first_or_rest P x xs h) [ inl p ↦ n p | inr k ↦ m k ])
  ]
]

abbrev InSomeRow : {X : Type 0} → (X → Type 0) → List (Vec X Global) → Type 0
InSomeRow P vs = (r : ℕ) × Somewhere P (row vs r)

row_or_rest : {X : Type 0} (P : X → Type 0) (v : Vec X Global) (vs : List (Vec X Global)) (r : ℕ) → Somewhere P (row (v ∷ vs) r) → Somewhere P v.items ⊎ InSomeRow P vs
row_or_rest P v vs zero h = inl h
row_or_rest P v vs (suc r) h = inr (r, h)

decide_rows : {X : Type 0} (P : X → Type 0) → ((x : X) → Decided (P x)) → (vs : List (Vec X Global)) → Decided (InSomeRow P vs)
decide_rows P f [] = inr (λ h. nowhere P h.1)
decide_rows P f (v ∷ vs) = elim (decide_in P f v.items) [
  | inl h ↦ inl (0, h)
  | inr n ↦ elim (decide_rows P f vs) [
    | inl h ↦ inl (suc h.0, h.1)
    | inr m ↦ inr (λ h. elim (row_or_rest P v vs h.0 h.1) [ inl k ↦ n k | inr k ↦ m k ])
  ]
]

in_group : (i : ℕ) (g : Group) → Decided (IsInGroup g i)
in_group i g = both _ _ (decide_le g.first i) (decide_le i g.last)

-- ---- what merely holds

stable_beside : (c : Cond) (o u s : ℕ) → ∥ IsBeside c o u s ∥₁ → IsBeside c o u s
stable_beside c o u s h = record {
  apart = λ e. ∥∥₁_elim h (hlevel props) (λ b. b.apart e);
  named = λ v n. stable _ (either _ _ (decide_eq v o) (decide_eq v u)) (∥∥₁_map h (λ b. b.named v n));
  exists = λ S f. ∥∥₁_elim h (hlevel props) (λ b. b.exists S f);
  place = λ ne S f low only t p. ∥∥₁_elim h (hlevel props) (λ b. b.place ne S f low only t p);
}

stable_other : (c : Cond) (o : ℕ) (u : Option ObjId) (s : ℕ) → ∥ IfSome u (λ v. IsBeside c o v.0 s) ∥₁ → IfSome u (λ v. IsBeside c o v.0 s)
stable_other c o None s h = ∥∥₁_elim h (hlevel props) (λ b. b)
stable_other c o (Some u) s h = stable_beside c o u.0 s h

stable_group : (cs : List Cond) (o : ℕ) (picks : List ℕ) (r : ℕ) (g : Group) → ∥ IsGroup cs o picks r g ∥₁ → IsGroup cs o picks r g
stable_group cs o picks r g h = record {
  some = ∥∥₁_elim h (hlevel props) (λ a. a.some);
  listed = λ i b. stable _ (decide_contains picks i) (∥∥₁_map h (λ a. a.listed i b));
  faces = λ i x b e. record {
    place = λ ne S t f low other p. ∥∥₁_elim h (hlevel props) (λ a. (a.faces i x b e).place ne S t f low other p);
    alone = λ ne S f low only v t p other named. ∥∥₁_elim h (hlevel props) (λ a. (a.faces i x b e).alone ne S f low only v t p other named);
    other = stable_other x o g.other g.other_place (∥∥₁_map h (λ a. (a.faces i x b e).other));
  };
}

stable_rows : (cs : List Cond) (o : ℕ) (picks : List ℕ) (rows : Rows) → ∥ AreRows cs o picks rows ∥₁ → AreRows cs o picks rows
stable_rows cs o picks rows h = record {
  groups = λ r k g e. stable_group cs o picks r g (∥∥₁_map h (λ a. a.groups r k g e));
  each = λ k b. stable _ (decide_rows (λ (g : Group). IsInGroup g (slice_index picks k)) (in_group (slice_index picks k)) rows.rows.items) (∥∥₁_map h (λ a. a.each k b));
  near = λ r n e i u x p at S f d b. ∥∥₁_elim h (hlevel props) (λ a. a.near r n e i u x p at S f d b);
}

stable_pairs : (cs : List Cond) (o : ℕ) (picks : List ℕ) (n : ℕ) (p : Pairs) → ∥ ArePairs cs o picks n p ∥₁ → ArePairs cs o picks n p
stable_pairs cs o picks n p h = record {
  objects = ∥∥₁_elim h (hlevel props) (λ a. a.objects);
  beside = λ u b w. (stable_group cs o picks b.row b.group (∥∥₁_map h (λ a. (a.beside u b w).0)), λ i x m at v l t ne. ∥∥₁_elim h (hlevel props) (λ a. (a.beside u b w).1 i x m at v l t ne));
  others = λ b w. stable_group cs o picks b.row b.group (∥∥₁_map h (λ a. a.others b w));
  each = λ k b.
      let i = slice_index picks k in
      let f : (x : RowGroup) → Decided (IsInGroup x.group i) = λ x. in_group i x.group in
      stable _ (either _ _ (decide_rows (λ (x : RowGroup). IsInGroup x.group i) f p.beside.items) (decide_in (λ (x : RowGroup). IsInGroup x.group i) f p.others.items)) (∥∥₁_map h (λ a. a.each k b));
}

stable_partners : (named : List (SmallVec ObjId)) (o n : ℕ) (bs : List RowGroup) (p : Partners) → ∥ ArePartners named o n (HaveIn bs) p ∥₁ → ArePartners named o n (HaveIn bs) p
stable_partners named o n bs p h = record {
  objects = ∥∥₁_elim h (hlevel props) (λ a. a.objects);
  few = λ u j w. stable _ (decide_have bs j) (∥∥₁_map h (λ a. a.few u j w));
  many = λ j w. stable _ (decide_have bs j) (∥∥₁_map h (λ a. a.many j w));
  each = λ j u w b ne m. stable _ (either _ _ (decide_number p.many.items j) (decide_number (row p.few.items u) j)) (∥∥₁_map h (λ a. a.each j u w b ne m));
}
  where
    decide_have : (gs : List RowGroup) (j : ℕ) → Decided (HaveIn gs j)
    decide_have gs j = decide_in (λ (x : RowGroup). IsInGroup x.group j) (λ x. in_group j x.group) gs

    decide_number : (numbers : List ℕ) (j : ℕ) → Decided (HasNumber numbers j)
    decide_number numbers j = elim (decide_in (λ (x : ℕ). x ≡ j) (λ x. decide_eq x j) numbers) [
      | inl w ↦ inl (w.0, w.2 ∙ ap Some w.3)
      | inr n ↦ inr (λ w. n (w.0, j, w.1, refl))
    ]

-- the links can be taken out
pub links_taken : (cs : List Cond) (n : ℕ) (l : Links) → ∥ AreLinks cs n l ∥₁ → AreLinks cs n l
links_taken cs n l h = record {
  conditions = ∥∥₁_elim h (hlevel props) (λ a. a.conditions);
  named = λ i d b. ∥∥₁_elim h (hlevel props) (λ a. a.named i d b);
  objects = ∥∥₁_elim h (hlevel props) (λ a. a.objects);
  picks = λ o b. ∥∥₁_elim h (hlevel props) (λ a. a.picks o b);
  bare = ∥∥₁_elim h (hlevel props) (λ a. a.bare);
  rows = record {
    objects = ∥∥₁_elim h (hlevel props) (λ a. a.rows.objects);
    each = λ o d b. stable_rows cs o _ (get_or l.rows.items o d) (∥∥₁_map h (λ a. a.rows.each o d b));
  };
  pairs = record {
    objects = ∥∥₁_elim h (hlevel props) (λ a. a.pairs.objects);
    each = λ o d b. stable_pairs cs o _ n (get_or l.pairs.items o d) (∥∥₁_map h (λ a. a.pairs.each o d b));
  };
  partners = record {
    objects = ∥∥₁_elim h (hlevel props) (λ a. a.partners.objects);
    each = λ o p d b. stable_partners l.named.items o n (get_or l.pairs.items o p).others.items (get_or l.partners.items o d) (∥∥₁_map h (λ a. a.partners.each o p d b));
  };
}
