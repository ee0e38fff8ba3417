-- The groups of rows by the other object, as they are put there.
use Rattle.std.proofs.Common.{◌≡◌, ◌⊎◌, ℕ, zero, suc, ◌+◌, ◌-◌, ◌<◌, ◌≤◌, true, false, eqb-true, eq-eqb, List, [], ◌∷◌, ◌++◌, length, set, get_or, slice_index, refl, sym, ap, ◌∙◌, subst, inl, inr, arith, None, Some, Option, Vec, Global}
use Rattle.std.specs.Prelude.{slice_get, nat_eq, IfSome, MatchOption}
use Rattle.std.proofs.Math.ListN.{length-set}
use Rattle.std.proofs.lemmas.Bool.{cases_eq, cases_lt, false≢true, or_cases}
use Rattle.std.proofs.lemmas.List.{get_or_push, get_or_append_left}
use Rattle.std.proofs.lemmas.List.Folds.{list_any_at}
use Rattle.std.proofs.lemmas.Option.{same_Some, slice_get_within, slice_get-get_or}
use Rattle.smallvec.specs.SmallVec.{SmallVec}
use Rattle.geo_conditions.specs.declared.cond.Cond.{Cond}
use Rattle.geo_conditions.specs.declared.object.ObjId.{ObjId}
use Rattle.object_pruning.specs.declared.rows.Group.{Group}
use Rattle.object_pruning.specs.declared.rows.Rows.{Rows}
use Rattle.indexical.specs.Faces.{IsBeside}
use Rattle.indexical.specs.Names.{names}
use Rattle.object_pruning.specs.InRows.{row, AreRows, IsGroup, IsInGroup}
use Rattle.object_pruning.proofs.InRows.{row_past}
use Rattle.fixpoint.specs.declared.pairs.Pairs.{Pairs}
use Rattle.fixpoint.specs.declared.pairs.RowGroup.{RowGroup}
use Rattle.fixpoint.specs.Pairs.{ArePairs, BelongsTo, HasGroup, HaveIn, IsOfRows, NamesNoThird, Puts, SortsRows, names_at}
use Rattle.fixpoint.specs.Links.{HavePairs, HaveRows, NamedBy, PicksOf, SortAllRows, is_among}
use Rattle.fixpoint.proofs.Linking.{length_more, row_set_same, row_set_other}

-- ---- one group more

pub get_left : {X : Type 0} (xs : List X) (j : ℕ) (y z : X) → slice_get xs j ≡ Some z → slice_get (xs ++ y ∷ []) j ≡ Some z
get_left [] j y z e = absurd (cc)
get_left (x ∷ xs) zero y z e = e
get_left (x ∷ xs) (suc j) y z e = get_left xs j y z e

pub get_last : {X : Type 0} (xs : List X) (y : X) → slice_get (xs ++ y ∷ []) (length xs) ≡ Some y
get_last [] y = refl
get_last (x ∷ xs) y = get_last xs y

pub get_either : {X : Type 0} (xs : List X) (j : ℕ) (y z : X) → slice_get (xs ++ y ∷ []) j ≡ Some z → (slice_get xs j ≡ Some z) ⊎ (z ≡ y)
get_either [] zero y z e = inr (sym (same_Some _ _ e))
get_either [] (suc j) y z e = absurd (cc)
get_either (x ∷ xs) zero y z e = inl e
get_either (x ∷ xs) (suc j) y z e = get_either xs j y z e

have_left : (bs : List RowGroup) (b : RowGroup) (i : ℕ) → HaveIn bs i → HaveIn (bs ++ b ∷ []) i
have_left bs b i w = (w.0, w.1, get_left bs w.0 b w.1 w.2, w.3)

have_last : (bs : List RowGroup) (b a : RowGroup) (i : ℕ) → a ≡ b → IsInGroup a.group i → HaveIn (bs ++ b ∷ []) i
have_last bs b a i e m = (length bs, b, get_last bs b, subst (λ (x : RowGroup). IsInGroup x.group i) e m)

has_either : (bs : List RowGroup) (b a : RowGroup) → HasGroup (bs ++ b ∷ []) a → HasGroup bs a ⊎ (a ≡ b)
has_either bs b a w = elim (get_either bs w.0 b a w.1) [ inl p ↦ inl (w.0, p) | inr e ↦ inr e ]

-- the group is put to those to which it belongs
pub puts_there : (B : ℕ → Group → Type 0) (b : RowGroup) (u : ℕ) (old : List (Vec RowGroup Global)) (others : List RowGroup) (v : Vec RowGroup Global) → B u b.group → u < length old → v.items ≡ row old u ++ b ∷ [] → Puts B (λ a. a ≡ b) old others (set old u v) others
puts_there B b u old others v is h items = record {
  objects = length-set old u v;
  stay = λ i w. elim (cases_eq w.0 u) [
    | inl e ↦ (u, subst (λ (l : List RowGroup). HaveIn l i) (sym here) (have_left (row old u) b i (subst (λ (z : ℕ). HaveIn (row old z) i) e w.1)))
    | inr ne ↦ (w.0, subst (λ (l : List RowGroup). HaveIn l i) (sym (row_set_other old u w.0 v ne)) w.1)
  ];
  rest = λ i w. w;
  beside = λ w a m. elim (cases_eq w u) [
    | inl e ↦ elim (has_either (row old u) b a (subst (λ (l : List RowGroup). HasGroup l a) here (subst (λ (z : ℕ). HasGroup (row (set old u v) z) a) e m))) [
      | inl p ↦ inl (subst (λ (z : ℕ). HasGroup (row old z) a) (sym e) p)
      | inr s ↦ inr (s, subst (λ (z : ℕ). B z a.group) (sym e) (subst (λ (x : RowGroup). B u x.group) (sym s) is))
    ]
    | inr ne ↦ inl (subst (λ (l : List RowGroup). HasGroup l a) (row_set_other old u w v ne) m)
  ];
  further = λ a m. inl m;
  each = λ a i s m. inl (u, subst (λ (l : List RowGroup). HaveIn l i) (sym here) (have_last (row old u) b a i s m));
}
  where
    here : row (set old u v) u ≡ row old u ++ b ∷ []
    here = row_set_same old u v h ∙ items

-- the group is put behind the others
pub puts_behind : (B : ℕ → Group → Type 0) (b : RowGroup) (old : List (Vec RowGroup Global)) (others more : List RowGroup) → more ≡ others ++ b ∷ [] → Puts B (λ a. a ≡ b) old others old more
puts_behind B b old others more e = subst (Puts B (λ a. a ≡ b) old others old) (sym e) (record {
  objects = refl;
  stay = λ i w. w;
  rest = λ i w. have_left others b i w;
  beside = λ u a m. inl m;
  further = λ a m. has_either others b a m;
  each = λ a i s m. inr (have_last others b a i s m);
})

-- ---- one after the other

pub puts_none : (B : ℕ → Group → Type 0) (P : RowGroup → Type 0) (lists : List (Vec RowGroup Global)) (others : List RowGroup) → ((b : RowGroup) → P b → ⊥) → Puts B P lists others lists others
puts_none B P lists others none = record {
  objects = refl;
  stay = λ i w. w;
  rest = λ i w. w;
  beside = λ u b m. inl m;
  further = λ b m. inl m;
  each = λ b i p m. absurd (none b p);
}

pub puts_both : (B : ℕ → Group → Type 0) (P Q R : RowGroup → Type 0) (old mid new : List (Vec RowGroup Global)) (others more most : List RowGroup) → ((b : RowGroup) → P b → R b) → ((b : RowGroup) → Q b → R b) → ((b : RowGroup) → R b → P b ⊎ Q b) → Puts B P old others mid more → Puts B Q mid more new most → Puts B R old others new most
puts_both B P Q R old mid new others more most left right either a b = record {
  objects = b.objects ∙ a.objects;
  stay = λ i w. b.stay i (a.stay i w);
  rest = λ i w. b.rest i (a.rest i w);
  beside = λ u x m. elim (b.beside u x m) [
    | inl n ↦ elim (a.beside u x n) [ inl w ↦ inl w | inr w ↦ inr (left x w.0, w.1) ]
    | inr w ↦ inr (right x w.0, w.1)
  ];
  further = λ x m. elim (b.further x m) [
    | inl n ↦ elim (a.further x n) [ inl w ↦ inl w | inr p ↦ inr (left x p) ]
    | inr q ↦ inr (right x q)
  ];
  each = λ x i r m. elim (either x r) [
    | inl p ↦ elim (a.each x i p m) [ inl w ↦ inl (b.stay i w) | inr w ↦ inr (b.rest i w) ]
    | inr q ↦ b.each x i q m
  ];
}

pub puts_as : (B : ℕ → Group → Type 0) (P Q : RowGroup → Type 0) (old new : List (Vec RowGroup Global)) (others more : List RowGroup) → ((b : RowGroup) → P b → Q b) → ((b : RowGroup) → Q b → P b) → Puts B P old others new more → Puts B Q old others new more
puts_as B P Q old new others more to back a = record {
  objects = a.objects;
  stay = a.stay;
  rest = a.rest;
  beside = λ u x m. elim (a.beside u x m) [ inl w ↦ inl w | inr w ↦ inr (to x w.0, w.1) ];
  further = λ x m. elim (a.further x m) [ inl w ↦ inl w | inr p ↦ inr (to x p) ];
  each = λ x i q. a.each x i (back x q);
}

-- ---- the groups of a row

-- a group of row r
abbrev pub in_row : ℕ → Group → RowGroup
in_row r g = record { row = r; group = g }

-- the group is one of the first n of row r
abbrev pub IsOfRow : ℕ → List Group → ℕ → RowGroup → Type 0
IsOfRow r gs n b = (b.row ≡ r) × ((k : ℕ) × (k < n) × (slice_get gs k ≡ Some b.group))

pub puts_group : (B : ℕ → Group → Type 0) (r : ℕ) (gs : List Group) (n : ℕ) (d : Group) (old mid new : List (Vec RowGroup Global)) (others more most : List RowGroup) → n < length gs → Puts B (IsOfRow r gs n) old others mid more → Puts B (λ b. b ≡ in_row r (get_or gs n d)) mid more new most → Puts B (IsOfRow r gs (n + 1)) old others new most
puts_group B r gs n d old mid new others more most h =
    let at : slice_get gs n ≡ Some (get_or gs n d) = slice_get-get_or gs n d h in
    puts_both B (IsOfRow r gs n) (λ b. b ≡ in_row r (get_or gs n d)) (IsOfRow r gs (n + 1)) old mid new others more most
    (λ b w. (w.0, (w.1.0, omega (arith, w.1.1), w.1.2)))
    (λ b e. (ap (λ (x : RowGroup). x.row) e, (n, omega arith, at ∙ ap (λ (x : RowGroup). Some x.group) (sym e))))
    (λ b w. elim (cases_eq w.1.0 n) [
      | inl e ↦
          let here : b.row ≡ r = w.0 in
          let same : b.group ≡ get_or gs n d = same_Some _ _ (sym w.1.2 ∙ ap (slice_get gs) e ∙ at) in
          inr (ap (λ (z : ℕ). in_row z b.group) here ∙ ap (in_row r) same)
      | inr ne ↦ inl (w.0, (w.1.0, omega (arith, w.1.1, ne), w.1.2))
    ])

pub puts_groups : (B : ℕ → Group → Type 0) (r : ℕ) (gs : List Group) (n : ℕ) (old new : List (Vec RowGroup Global)) (others more : List RowGroup) → length gs ≤ n → Puts B (IsOfRow r gs n) old others new more → Puts B (λ b. (b.row ≡ r) × HasGroup gs b.group) old others new more
puts_groups B r gs n old new others more h = puts_as B (IsOfRow r gs n) (λ b. (b.row ≡ r) × HasGroup gs b.group) old new others more
    (λ b w. (w.0, (w.1.0, w.1.2)))
    (λ b w. (w.0, (w.1.0, omega (arith, h, slice_get_within gs w.1.0 b.group w.1.1), w.1.1)))

-- ---- the rows

-- the group is of one of the first n rows
abbrev pub IsBelow : Rows → ℕ → RowGroup → Type 0
IsBelow rows n b = (b.row < n) × IsOfRows rows b

pub puts_row : (B : ℕ → Group → Type 0) (rows : Rows) (n : ℕ) (old mid new : List (Vec RowGroup Global)) (others more most : List RowGroup) → Puts B (IsBelow rows n) old others mid more → Puts B (λ b. (b.row ≡ n) × HasGroup (row rows.rows.items n) b.group) mid more new most → Puts B (IsBelow rows (n + 1)) old others new most
puts_row B rows n old mid new others more most = puts_both B (IsBelow rows n) (λ b. (b.row ≡ n) × HasGroup (row rows.rows.items n) b.group) (IsBelow rows (n + 1)) old mid new others more most
    (λ b w. (omega (arith, w.0), w.1))
    (λ b w. (omega (arith, w.0), subst (λ (r : ℕ). HasGroup (row rows.rows.items r) b.group) (sym w.0) w.1))
    (λ b w. elim (cases_eq b.row n) [
      | inl e ↦ inr (e, subst (λ (r : ℕ). HasGroup (row rows.rows.items r) b.group) e w.1)
      | inr ne ↦ inl (omega (arith, w.0, ne), w.1)
    ])

has_none : {X : Type 0} (x : X) → HasGroup [] x → ⊥
has_none x w = none w.0 w.1
  where
    none : (k : ℕ) → slice_get [] k ≡ Some x → ⊥
    none k e = cc

-- the groups of the first m rows are sorted
abbrev pub SortedBelow : (ℕ → Group → Type 0) → Rows → ℕ → ℕ → List (Vec RowGroup Global) → List RowGroup → Type 0
SortedBelow B rows n m lists others = (start : List (Vec RowGroup Global)) × (length start ≡ n) × ((u : ℕ) → row start u ≡ []) × Puts B (IsBelow rows m) start [] lists others

pub sorts_start : (B : ℕ → Group → Type 0) (rows : Rows) (n : ℕ) (start : List (Vec RowGroup Global)) → length start ≡ n → ((u : ℕ) → row start u ≡ []) → SortedBelow B rows n 0 start []
sorts_start B rows n start long none = (start, long, none, puts_none B (IsBelow rows 0) start [] (λ b w. absurd (omega (arith, w.0))))

pub sorts_more : (B : ℕ → Group → Type 0) (rows : Rows) (n m : ℕ) (mid new : List (Vec RowGroup Global)) (more most : List RowGroup) → SortedBelow B rows n m mid more → Puts B (λ b. (b.row ≡ m) × HasGroup (row rows.rows.items m) b.group) mid more new most → SortedBelow B rows n (m + 1) new most
sorts_more B rows n m mid new more most w p = (w.0, w.1, w.2, puts_row B rows m w.0 mid new [] more most w.3 p)

pub sorts_rows : (named : List (SmallVec ObjId)) (o : ℕ) (rows : Rows) (n m : ℕ) (p : Pairs) → length rows.rows.items ≤ m → SortedBelow (BelongsTo named o) rows n m p.beside.items p.others.items → SortsRows named o rows n p
sorts_rows named o rows n m p h w = record {
  objects = w.3.objects ∙ w.1;
  beside = λ u b x. elim (w.3.beside u b x) [
    | inl v ↦ absurd (has_none b (subst (λ (l : List RowGroup). HasGroup l b) (w.2 u) v))
    | inr v ↦ (v.0.1, v.1)
  ];
  others = λ b x. elim (w.3.further b x) [ inl v ↦ absurd (has_none b v) | inr v ↦ v.1 ];
  each = λ b i x. elim (cases_lt b.row (length rows.rows.items)) [
    | inl l ↦ w.3.each b i (omega (arith, l, h), x)
    | inr l ↦ absurd (has_none b.group (subst (λ (gs : List Group). HasGroup gs b.group) (row_past rows.rows.items b.row l) x))
  ];
}

-- those of one object more
pub sort_more : (named : List (SmallVec ObjId)) (rows : List Rows) (n : ℕ) (pairs : List Pairs) (p : Pairs) → SortAllRows named rows n pairs → ((d : Rows) → SortsRows named n (get_or rows n d) (length rows) p) → SortAllRows named rows (n + 1) (pairs ++ p ∷ [])
sort_more named rows n pairs p h one = record {
  objects = length_more pairs p ∙ ap (λ (k : ℕ). k + 1) h.objects;
  each = λ o d q b. elim (cases_eq o n) [
    | inl e ↦ subst (λ (u : ℕ). SortsRows named u (get_or rows u d) (length rows) (get_or (pairs ++ p ∷ []) u q)) (sym e) (subst (SortsRows named n (get_or rows n d) (length rows)) (sym (get_or_push pairs p q n h.objects)) (one d))
    | inr ne ↦ let low : o < n = omega (arith, b, ne) in subst (SortsRows named o (get_or rows o d) (length rows)) (sym (get_or_append_left pairs (p ∷ []) q o (omega (arith, low, h.objects)))) (h.each o d q low)
  ];
}

-- ---- what the rows say of their groups

-- the other object of a group is the other one of its conditions
pair_of : (c : Cond) (o p u : ℕ) (x : Option ObjId) → MatchOption x ⊥ (λ v. v.0 ≡ u) → IfSome x (λ w. IsBeside c o w.0 p) → (v : ℕ) → names v c ≡ true → (v ≡ o) ⊎ (v ≡ u)
pair_of c o p u None m f v n = absurd m
pair_of c o p u (Some w) m f v n = elim (f.named v n) [ inl e ↦ inl e | inr e ↦ inr (e ∙ m) ]

-- a list of one has no two different objects
same_one : (list : List ObjId) (v w : ℕ) → length list ≤ 1 → is_among v list ≡ true → is_among w list ≡ true → v ≡ w
same_one [] v w h a b = absurd (false≢true a)
same_one (x ∷ []) v w h a b = sym (only x v a) ∙ only x w b
  where
    only : (x : ObjId) (v : ℕ) → is_among v (x ∷ []) ≡ true → x.0 ≡ v
    only x v a = elim (or_cases (nat_eq x.0 v) false a) [ inl e ↦ eqb-true x.0 v e | inr e ↦ absurd (false≢true e) ]
same_one (x ∷ y ∷ list) v w h a b = absurd (omega (arith, h))

-- what the lists of named objects say of a group that belongs to u's
no_third : (cs : List Cond) (o : ℕ) (picks : List ℕ) (n : ℕ) (named : List (SmallVec ObjId)) (u r : ℕ) (g : Group) → o < n → PicksOf cs o picks → ((i : ℕ) (d : Cond) → i < length cs → NamedBy (get_or cs i d) n (names_at named i)) → IsGroup cs o picks r g → BelongsTo named o u g → NamesNoThird cs n o u g
no_third cs o picks n named u r g h p each is belongs i x b at v l t ne = elim belongs [
  | inl other ↦ elim (pair_of x o g.other_place u g.other other (is.faces i x b at).other v t) [ inl e ↦ absurd (ne e) | inr e ↦ e ]
  | inr own ↦ absurd (ne (same_one (names_at named (i - 1)) v o (own.1 i b) (among v l t) (among o h (o_named))))
]
  where
    within : i - 1 < length cs
    within = slice_get_within cs (i - 1) x at

    here : get_or cs (i - 1) x ≡ x
    here = same_Some _ _ (sym (slice_get-get_or cs (i - 1) x within) ∙ at)

    by : NamedBy x n (names_at named (i - 1))
    by = subst (λ (c : Cond). NamedBy c n (names_at named (i - 1))) here (each (i - 1) x within)

    among : (w : ℕ) → w < n → names w x ≡ true → is_among w (names_at named (i - 1)) ≡ true
    among w b e = by.each w b ∙ e

    o_named : names o x ≡ true
    o_named =
        let at_pick = is.listed i b in
        let e : suc (i - 1) ≡ i = omega (arith, (p.within at_pick.0 i at_pick.1).0, at_pick.2) in
        let found = list_any_at (nat_eq (suc (i - 1))) picks at_pick.0 i at_pick.1 (eq-eqb (suc (i - 1)) (get_or picks at_pick.0 i) (e ∙ sym at_pick.2)) in
        sym (ap (names o) here) ∙ sym (p.each (i - 1) x within) ∙ found

pairs_of_rows : (cs : List Cond) (o : ℕ) (picks : List ℕ) (rows : Rows) (n : ℕ) (named : List (SmallVec ObjId)) (p : Pairs) → o < n → PicksOf cs o picks → ((i : ℕ) (d : Cond) → i < length cs → NamedBy (get_or cs i d) n (names_at named i)) → AreRows cs o picks rows → SortsRows named o rows n p → ArePairs cs o picks n p
pairs_of_rows cs o picks rows n named p h are each a s = record {
  objects = s.objects;
  beside = λ u b w.
      let v = s.beside u b w in
      let g = a.groups b.row v.0.0 b.group v.0.1 in
      (g, no_third cs o picks n named u b.row b.group h are each g v.1);
  others = λ b w. let v = s.others b w in a.groups b.row v.0 b.group v.1;
  each = λ k h. let w = a.each k h in s.each (in_row w.0 w.1.1) (slice_index picks k) (w.1.0, w.1.2) w.1.3;
}

pub have_pairs : (cs : List Cond) (picks : List (Vec ℕ Global)) (n : ℕ) (named : List (SmallVec ObjId)) (rows : List Rows) (pairs : List Pairs) → ((o : ℕ) → o < n → PicksOf cs o (row picks o)) → ((i : ℕ) (d : Cond) → i < length cs → NamedBy (get_or cs i d) n (names_at named i)) → HaveRows cs picks n rows → SortAllRows named rows (length rows) pairs → HavePairs cs picks n pairs
have_pairs cs picks n named rows pairs are by r s = record {
  objects = s.objects ∙ r.objects;
  each = λ o d h.
      let b : o < length rows = omega (arith, h, r.objects) in
      let one = first rows o b in
      let sorts = subst (λ (m : ℕ). SortsRows named o (get_or rows o one) m (get_or pairs o d)) r.objects (s.each o one d b) in
      pairs_of_rows cs o (row picks o) (get_or rows o one) n named (get_or pairs o d) h (are o h) by (r.each o one h) sorts;
}
  where
    first : (xs : List Rows) (i : ℕ) → i < length xs → Rows
    first [] i h = absurd (omega arith)
    first (x ∷ xs) i h = x
