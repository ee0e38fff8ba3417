-- Rows of groups, as they are made.
use Rattle.std.proofs.Common.{◌≡◌, ◌≢◌, ℕ, zero, suc, ◌+◌, ◌-◌, ◌<◌, ◌≤◌, ◌⊎◌, List, [], ◌∷◌, ◌++◌, length, set, refl, sym, ap, ◌∙◌, subst, inl, inr, arith, Option, Some, slice_index, get_or, Result, Ok, Err}
use Rattle.std.specs.Prelude.{slice_get, Contains, OnOk, IfOk}
use Rattle.std.proofs.Math.ListN.{length-set}
use Rattle.std.proofs.lemmas.Bool.{cases_eq}
use Rattle.std.proofs.lemmas.List.{get_or_default}
use Rattle.std.proofs.lemmas.Option.{same_Some, slice_get_within}
use Rattle.std.specs.declared.vec.Vec.{Vec}
use Rattle.std.specs.declared.alloc.Global.{Global}
use Rattle.geo_conditions.specs.declared.object.ObjId.{ObjId}
use Rattle.geo_conditions.specs.declared.object.TheConstants.{MAX_SHAPES}
use Rattle.geo_conditions.specs.declared.cond.Cond.{Cond}
use Rattle.indexical.specs.declared.facing.Facing.{Facing}
use Rattle.indexical.specs.Faces.{Faces, LeavesFreeUnless, SparesElsewhere}
use Rattle.object_pruning.specs.declared.rows.Group.{Group}
use Rattle.object_pruning.specs.declared.near.Near.{Near}
use Rattle.object_pruning.specs.declared.rows.Rows.{Rows}
use Rattle.object_pruning.specs.Near.{IsNearRow}
use Rattle.object_pruning.specs.InRows.{row, IsInGroup, HaveNumber, IsGroup, AreGroups, AreRows, AreRowsBelow, group_of, longer, PutsNumber}

-- what a call that went well says
pub on_ok : {A E : Type 0} (r : Result A E) (P Q : Type 0) → (P → Q) → OnOk r P → OnOk r Q
on_ok (Ok a) P Q f h = f h
on_ok (Err e) P Q f h = h

-- ---- lists

get_set_same : {X : Type 0} (xs : List X) (k : ℕ) (y : X) → k < length xs → slice_get (set xs k y) k ≡ Some y
get_set_same [] k y h = absurd (omega arith)
get_set_same (x ∷ xs) zero y h = refl
get_set_same (x ∷ xs) (suc k) y h = get_set_same xs k y (omega arith)

get_set_other : {X : Type 0} (xs : List X) (k j : ℕ) (y : X) → (j ≡ k → ⊥) → slice_get (set xs k y) j ≡ slice_get xs j
get_set_other [] k j y n = refl
get_set_other (x ∷ xs) zero zero y n = absurd (n refl)
get_set_other (x ∷ xs) zero (suc j) y n = refl
get_set_other (x ∷ xs) (suc k) zero y n = refl
get_set_other (x ∷ xs) (suc k) (suc j) y n = get_set_other xs k j y (λ e. n (ap suc e))

get_left : {X : Type 0} (xs : List X) (j : ℕ) (y z : X) → slice_get xs j ≡ Some z → slice_get (xs ++ y ∷ []) j ≡ Some z
get_left [] j y z e = absurd (cc)
get_left (x ∷ xs) zero y z e = e
get_left (x ∷ xs) (suc j) y z e = get_left xs j y z e

get_last : {X : Type 0} (xs : List X) (y : X) → slice_get (xs ++ y ∷ []) (length xs) ≡ Some y
get_last [] y = refl
get_last (x ∷ xs) y = get_last xs y

get_either : {X : Type 0} (xs : List X) (j : ℕ) (y z : X) → slice_get (xs ++ y ∷ []) j ≡ Some z → (slice_get xs j ≡ Some z) ⊎ (z ≡ y)
get_either [] zero y z e = inr (sym (same_Some _ _ e))
get_either [] (suc j) y z e = absurd (cc)
get_either (x ∷ xs) zero y z e = inl e
get_either (x ∷ xs) (suc j) y z e = get_either xs j y z e

-- ---- rows

pub row_get : {X : Type 0} (vs : List (Vec X Global)) (i : ℕ) (d : Vec X Global) → i < length vs → row vs i ≡ (get_or vs i d).items
row_get [] i d h = absurd (omega arith)
row_get (v ∷ vs) zero d h = refl
row_get (v ∷ vs) (suc i) d h = row_get vs i d (omega arith)

pub row_past : {X : Type 0} (vs : List (Vec X Global)) (i : ℕ) → length vs ≤ i → row vs i ≡ []
row_past [] i h = refl
row_past (v ∷ vs) zero h = absurd (omega arith)
row_past (v ∷ vs) (suc i) h = row_past vs i (omega arith)

pub row_empty : {X : Type 0} (vs : List (Vec X Global)) (v : Vec X Global) → v.items ≡ [] → ((i : ℕ) → row vs i ≡ []) → (i : ℕ) → row (vs ++ v ∷ []) i ≡ []
row_empty [] v e f zero = e
row_empty [] v e f (suc i) = refl
row_empty (w ∷ vs) v e f zero = f 0
row_empty (w ∷ vs) v e f (suc i) = row_empty vs v e (λ j. f (suc j)) i

pub length_more : {X : Type 0} (xs : List X) (x : X) → length (xs ++ x ∷ []) ≡ length xs + 1
length_more [] x = refl
length_more (y ∷ xs) x = let e = length_more xs x in omega (arith, e)

pub row_set_same : {X : Type 0} (vs : List (Vec X Global)) (i : ℕ) (v : Vec X Global) → i < length vs → row (set vs i v) i ≡ v.items
row_set_same [] i v h = absurd (omega arith)
row_set_same (w ∷ vs) zero v h = refl
row_set_same (w ∷ vs) (suc i) v h = row_set_same vs i v (omega arith)

pub row_set_other : {X : Type 0} (vs : List (Vec X Global)) (i j : ℕ) (v : Vec X Global) → (j ≡ i → ⊥) → row (set vs i v) j ≡ row vs j
row_set_other [] i j v n = refl
row_set_other (w ∷ vs) zero zero v n = absurd (n refl)
row_set_other (w ∷ vs) zero (suc j) v n = refl
row_set_other (w ∷ vs) (suc i) zero v n = refl
row_set_other (w ∷ vs) (suc i) (suc j) v n = row_set_other vs i j v (λ e. n (ap suc e))

-- ---- one number more

module _ (cs : List Cond) (o : ℕ) (picks : List ℕ) (r : ℕ) where
  -- a condition that asks for these places, in the row of its place or in the first one
  pub single_group : (f : Facing) (i k : ℕ) → k < length picks → slice_index picks k ≡ i → (r ≢ 0 → r ≡ f.place) → ((x : Cond) → slice_get cs (i - 1) ≡ Some x → Faces x o f) → IsGroup cs o picks r (group_of f i)
  single_group f i k h at place faces = record {
    some = omega arith;
    listed = λ j b. let e : i ≡ j = omega (arith, b.0, b.1) in (k, h, get_or_default picks k j 0 h ∙ at ∙ e);
    faces = λ j x b p.
        let e : j ≡ i = omega (arith, b.0, b.1) in
        let y = faces x (subst (λ (n : ℕ). slice_get cs (n - 1) ≡ Some x) e p) in
        record {
          place = λ ne. subst (SparesElsewhere x o) (sym (place ne)) (y.place (λ z. ne (place ne ∙ z)));
          alone = λ ne. subst (LeavesFreeUnless x o) (sym (place ne)) (y.alone (λ z. ne (place ne ∙ z)));
          other = y.other;
        };
  }

  abbrev facing_at : Option ObjId → ℕ → Facing
  facing_at u s = record { place = r; other = u; other_place = s }

  longer_group : (f : Facing) (i : ℕ) (g : Group) → IsGroup cs o picks r g → IsGroup cs o picks r (group_of f i) → g.last + 1 ≡ i → g.other ≡ f.other → g.other_place ≡ f.other_place → IsGroup cs o picks r (longer g i)
  longer_group f i g a one next other place = record {
    some = omega (arith, a.some);
    listed = λ j b. elim (cases_eq j i) [
      | inl e ↦ subst (Contains picks) (sym e) (one.listed i (omega arith, omega arith))
      | inr ne ↦ a.listed j (b.0, omega (arith, b.1))
    ];
    faces = λ j x b p. elim (cases_eq j i) [
      | inl e ↦
          let y : Faces x o (facing_at f.other f.other_place) = one.faces i x (omega arith, omega arith) (subst (λ (n : ℕ). slice_get cs (n - 1) ≡ Some x) e p) in
          subst (λ (u : Option ObjId). Faces x o (facing_at u g.other_place)) (sym other) (subst (λ (s : ℕ). Faces x o (facing_at f.other s)) (sym place) y)
      | inr ne ↦ a.faces j x (b.0, omega (arith, b.1)) p
    ];
  }

  put_groups : (f : Facing) (i : ℕ) (old new : List Group) → IsGroup cs o picks r (group_of f i) → PutsNumber f i old new → AreGroups cs o picks r old → AreGroups cs o picks r new
  put_groups f i old new one (inl e) a = subst (AreGroups cs o picks r) (sym e) (λ k g h. elim (get_either old k (group_of f i) g h) [
    | inl p ↦ a k g p
    | inr q ↦ subst (IsGroup cs o picks r) (sym q) one
  ])
  put_groups f i old new one (inr w) a = subst (AreGroups cs o picks r) (sym w.6) (λ k g h. elim (cases_eq k w.0) [
    | inl e ↦
        let same : longer w.1 i ≡ g = same_Some _ _ (sym (get_set_same old w.0 (longer w.1 i) (slice_get_within old w.0 w.1 w.2)) ∙ ap (slice_get (set old w.0 (longer w.1 i))) (sym e) ∙ h) in
        subst (IsGroup cs o picks r) same (longer_group f i w.1 (a w.0 w.1 w.2) one w.3 w.4 w.5)
    | inr ne ↦ a k g (sym (get_set_other old w.0 k (longer w.1 i) ne) ∙ h)
  ])

  put_has : (f : Facing) (i : ℕ) (old new : List Group) → PutsNumber f i old new → AreGroups cs o picks r old → HaveNumber new i
  put_has f i old new (inl e) a = subst (λ (gs : List Group). HaveNumber gs i) (sym e) (length old, group_of f i, get_last old (group_of f i), (omega arith, omega arith))
  put_has f i old new (inr w) a = subst (λ (gs : List Group). HaveNumber gs i) (sym w.6) (
    w.0,
    longer w.1 i,
    get_set_same old w.0 (longer w.1 i) (slice_get_within old w.0 w.1 w.2),
    (omega (arith, (a w.0 w.1 w.2).some, w.3), omega arith),
  )

put_keeps : (f : Facing) (i j : ℕ) (old new : List Group) → PutsNumber f i old new → HaveNumber old j → HaveNumber new j
put_keeps f i j old new (inl e) h = subst (λ (gs : List Group). HaveNumber gs j) (sym e) (h.0, h.1, get_left old h.0 (group_of f i) h.1 h.2, h.3)
put_keeps f i j old new (inr w) h = subst (λ (gs : List Group). HaveNumber gs j) (sym w.6) (elim (cases_eq h.0 w.0) [
  | inl e ↦
      let same : h.1 ≡ w.1 = same_Some _ _ (sym h.2 ∙ ap (slice_get old) e ∙ w.2) in
      let b : IsInGroup w.1 j = subst (λ (g : Group). IsInGroup g j) same h.3 in
      (w.0, longer w.1 i, get_set_same old w.0 (longer w.1 i) (slice_get_within old w.0 w.1 w.2), (b.0, omega (arith, b.1, w.3)))
  | inr ne ↦ (h.0, h.1, get_set_other old w.0 h.0 (longer w.1 i) ne ∙ h.2, h.3)
])

module _ (cs : List Cond) (o : ℕ) (picks : List ℕ) where
  pub rows_start : (rows : List (Vec Group Global)) → length rows ≡ MAX_SHAPES + 1 → ((r : ℕ) → row rows r ≡ []) → AreRowsBelow cs o picks 0 rows
  rows_start rows l e = record {
    count = l;
    groups = λ r k g h. absurd (none k g (subst (λ (gs : List Group). slice_get gs k ≡ Some g) (e r) h));
    each = λ k h. absurd (omega arith);
  }
    where
      none : (k : ℕ) (g : Group) → slice_get [] k ≡ Some g → ⊥
      none k g h = cc

  pub rows_more : (f : Facing) (k r : ℕ) (rows : List (Vec Group Global)) (v : Vec Group Global) → r ≤ MAX_SHAPES → AreRowsBelow cs o picks k rows → PutsNumber f (slice_index picks k) (row rows r) v.items → IsGroup cs o picks r (group_of f (slice_index picks k)) → AreRowsBelow cs o picks (k + 1) (set rows r v)
  rows_more f k r rows v low b put one =
      let here : row (set rows r v) r ≡ v.items = row_set_same rows r v (omega (arith, low, b.count)) in
      record {
        count = length-set rows r v ∙ b.count;
        groups = λ q. elim (cases_eq q r) [
          | inl e ↦ subst (λ (p : ℕ). AreGroups cs o picks p (row (set rows r v) p)) (sym e) (subst (AreGroups cs o picks r) (sym here) (put_groups cs o picks r f (slice_index picks k) (row rows r) v.items one put (b.groups r)))
          | inr ne ↦ subst (AreGroups cs o picks q) (sym (row_set_other rows r q v ne)) (b.groups q)
        ];
        each = λ j h. elim (cases_eq j k) [
          | inl e ↦ (r, subst (λ (gs : List Group). HaveNumber gs (slice_index picks j)) (sym here) (subst (λ (i : ℕ). HaveNumber v.items (slice_index picks i)) (sym e) (put_has cs o picks r f (slice_index picks k) (row rows r) v.items put (b.groups r))))
          | inr ne ↦
              let w = b.each j (omega arith) in
              elim (cases_eq w.0 r) [
                | inl e ↦ (r, subst (λ (gs : List Group). HaveNumber gs (slice_index picks j)) (sym here) (put_keeps f (slice_index picks k) (slice_index picks j) (row rows r) v.items put (subst (λ (q : ℕ). HaveNumber (row rows q) (slice_index picks j)) e w.1)))
                | inr other ↦ (w.0, subst (λ (gs : List Group). HaveNumber gs (slice_index picks j)) (sym (row_set_other rows r w.0 v other)) w.1)
              ]
        ];
      }

-- rows that are made, with how near others have to be
pub rows_made : {E : Type 0} (cs : List Cond) (o : ℕ) (picks : List ℕ) (k : ℕ) (rows seen : List (Vec Group Global)) (near : List (Option Near)) → k ≡ length picks → AreRowsBelow cs o picks k rows → seen ≡ rows → ((r : ℕ) (n : Near) → slice_get near r ≡ Some (Some n) → IsNearRow cs o (row seen r) n)
    → (made : Result Rows E) → IfOk made (λ m. m.rows.items ≡ rows) → IfOk made (λ m. m.near.items ≡ near) → IfOk made (AreRows cs o picks)
rows_made cs o picks k rows seen near all below same f (Err e) g h = tt
rows_made cs o picks k rows seen near all below same f (Ok m) g h = record {
  groups = λ r. subst (λ (vs : List (Vec Group Global)). AreGroups cs o picks r (row vs r)) (sym g) (below.groups r);
  each = λ j b.
      let w = below.each j (omega (arith, b, all)) in
      (w.0, subst (λ (vs : List (Vec Group Global)). HaveNumber (row vs w.0) (slice_index picks j)) (sym g) w.1);
  near = λ r n e. subst (λ (vs : List (Vec Group Global)). IsNearRow cs o (row vs r) n) (same ∙ sym g) (f r n (sym (ap (λ (vs : List (Option Near)). slice_get vs r) h) ∙ e));
}
