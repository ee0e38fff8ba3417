-- A sweep by the gathered picks finds what a sweep by all of them does.
use Rattle.std.proofs.Common.{◌≡◌, ℕ, ◌+◌, ◌-◌, ◌<◌, ◌≤◌, true, List, length, map, set, take, get_or, slice_index, refl, false, ◌⊎◌, sym, ap, ◌∙◌, subst, inl, inr, arith, ℤ, Option, Some, None, Bool}
use Rattle.std.specs.Prelude.{◌≢◌, slice_get, Contains, MatchOption, IfSome, IfNone}
use Rattle.std.proofs.Math.ListN.{length-set}
use Rattle.std.proofs.lemmas.Bool.{cases_eq, cases_lt}
use Rattle.std.proofs.lemmas.List.{get_or-take, length-take-le, get_or-set_same, get_or-set_other, get_or_default}
use Rattle.std.specs.Option.{option_map, unwrap_or}
use Rattle.std.proofs.lemmas.Option.{slice_get-map, slice_get-get_or, slice_get_cases, slice_get_within, unwrap_or-slice_get, same_Some}
use Rattle.geo_conditions.specs.declared.cond.Cond.{Cond}
use Rattle.object_pruning.specs.declared.rows.Group.{Group}
use Rattle.object_pruning.specs.InRows.{IsInGroup, HaveNumber, IsSomeGroup, AreRows, row}
use Rattle.object_pruning.specs.declared.rows.Rows.{Rows}
use Rattle.geo_conditions.specs.declared.object.ObjId.{ObjId}
use Rattle.indexical.specs.Faces.{IsBeside}
use Rattle.indexical.specs.Free.{SparesAnywhere}
use Rattle.derivation.proofs.Leaves.{all_at}
use Rattle.geo_conditions.specs.Conditions.{possible, FitsIn, AllFit}
use Rattle.geo_conditions.specs.Reach.{State, Region, reach, is_only, just, with_at}
use Rattle.geo_conditions.specs.Supported.{NoneRefuted, CanBeAt, HasNoPoint, IsFirstPoint}
use Rattle.derivation.specs.declared.event.Event.{Event}
use Rattle.derivation.specs.Covers.{CoverTree, NamesOnly, Leaf, Fork}
use Rattle.derivation.specs.Cuts.{near, far}
use Rattle.sweep.specs.Picks.{ArePicks, picked}
use Rattle.sweep.specs.Sweep.{IsCovered}
use Rattle.sweep.proofs.PickedConditions.{picked_all, picked_at, pick_in}
use Rattle.geo_base.specs.declared.kbox.KBox.{KBox}
use Rattle.geo_base.specs.Boxes.{Has}
use Rattle.indexical.specs.declared.forbidden.ForbiddenPart.{ForbiddenPart}
use Rattle.indexical.specs.Forbidden.{Forbids}
use Rattle.sweep.specs.Parts.{AreParts}
use Rattle.object_pruning.specs.Gathered.{AreGathered, GoesOn, HoldEach, HoldParts, IsNumberSpared}

-- what holds of the value, if there is one, and what it implies
pub some_with : {A : Type 0} (r : Option A) (P Q : A → Type 0) → ((a : A) → P a → Q a) → IfSome r P → IfSome r Q
some_with None P Q f h = h
some_with (Some a) P Q f h = f a h

-- a number that stands in a list at a place
contained : (xs : List ℕ) (x i : ℕ) → i < length xs → slice_index xs i ≡ x → Contains xs x
contained xs x i h e = (i, h, get_or_default xs i x 0 h ∙ e)

pub there : (xs : List ℕ) (x : ℕ) (c : Contains xs x) → slice_index xs c.0 ≡ x
there xs x c = get_or_default xs c.0 0 x c.1 ∙ c.2

-- ---- the parts

-- what stands in a list of which one place was set
set_at : {X : Type 0} (xs : List X) (n j : ℕ) (v y : X) → slice_get (set xs n v) j ≡ Some y → ((j ≡ n) × (y ≡ v)) ⊎ ((j ≢ n) × (slice_get xs j ≡ Some y))
set_at xs n j v y e =
    let within : j < length xs = omega (arith, slice_get_within (set xs n v) j y e, length-set xs n v) in
    let is : get_or (set xs n v) j y ≡ y = sym (unwrap_or-slice_get (set xs n v) j y) ∙ ap (λ (z : Option _). unwrap_or z y) e in
    elim (cases_eq j n) [
      | inl z ↦ inl (z, sym is ∙ ap (λ (i : ℕ). get_or (set xs n v) i y) z ∙ get_or-set_same xs n v y (subst (λ (i : ℕ). i < length xs) z within))
      | inr ne ↦ inr (ne, slice_get-get_or xs j y within ∙ ap (λ z. Some z) (sym (get_or-set_other xs n j v y ne) ∙ is))
    ]

module _ {K : ℕ} (P : ℕ → KBox K → Type 0) (live : List ℕ) (parts : List (Option (KBox K))) (number n : ℕ) (room : n < length live) (old : HoldEach P live parts) where
  here : slice_index (set live n number) n ≡ number
  here = get_or-set_same live n number 0 room

  before : (j : ℕ) → j ≢ n → slice_index (set live n number) j ≡ slice_index live j
  before j ne = get_or-set_other live n j number 0 ne

  -- the number has a part
  pub holds_more : (part : Option (KBox K)) → IfSome part (P number) → HoldEach P (set live n number) (set parts n part)
  holds_more part is j b e = elim (set_at parts n j part (Some b) e) [
    | inl w ↦ subst (λ (i : ℕ). P i b) (sym (ap (slice_index (set live n number)) w.0 ∙ here)) (subst (λ (x : Option (KBox K)). IfSome x (P number)) (sym w.1) is)
    | inr w ↦ subst (λ (i : ℕ). P i b) (sym (before j w.0)) (old j b w.1)
  ]

module _ {K : ℕ} (P : ℕ → KBox K → Type 0) (number n : ℕ) (part : Option (KBox K)) (is : IfSome part (P number)) where
  -- where it was put, if there was room
  pub holds_put : (live new : List ℕ) (parts more : List (Option (KBox K))) (r : Option ℕ) → HoldEach P live parts → IfSome r (λ m. (m ≡ n + 1) × (n < length live) × (new ≡ set live n number)) → IfSome r (λ m. more ≡ set parts n part)
      → IfNone r ((new ≡ live) × (more ≡ parts)) → HoldEach P new more
  holds_put live new parts more None old goes put full = subst (λ (l : List ℕ). HoldEach P l more) (sym full.0) (subst (HoldEach P live) (sym full.1) old)
  holds_put live new parts more (Some m) old goes put full = subst (λ (l : List ℕ). HoldEach P l more) (sym goes.2) (subst (HoldEach P (set live n number)) (sym put) (holds_more P live parts number n goes.1 old part is))

-- ---- the numbers

-- what is at a place of a list, in the list of what f makes of each
pub at_number : {X Y : Type 0} (f : X → Y) (list : List X) (i : ℕ) (y : X) → i < length list → y ≡ get_or list i y → slice_get (map f list) i ≡ Some (f y)
at_number f list i y h e = slice_get-map f list i ∙ ap (option_map f) (slice_get-get_or list i y h ∙ ap (λ z. Some z) (sym e))

-- what a condition forbids, said of what its number names
pub named_forbids : (K : ℕ) (cs : List Cond) (S : State) (o s : ℕ) (b : Region) (i : ℕ) (x : Cond) (was is : ForbiddenPart K) → slice_get cs (i - 1) ≡ Some x → Forbids K x S o s b was → was ≡ is → (y : Cond) → slice_get cs (i - 1) ≡ Some y → Forbids K y S o s b is
named_forbids K cs S o s b i x was is at h e y there = subst (λ (z : Cond). Forbids K z S o s b is) (same_Some _ _ (sym at ∙ there)) (subst (Forbids K x S o s b) e h)

-- of the first n groups some one has the number
abbrev pub HaveBelow : List Group → ℕ → ℕ → Type 0
HaveBelow gs n i = (k : ℕ) × (g : Group) × (k < n) × (slice_get gs k ≡ Some g) × IsInGroup g i

module _ (K : ℕ) (cs : List Cond) (S : State) (o s : ℕ) (b : Region) where
  -- of no number
  pub goes_nowhere : (P : ℕ → Type 0) (n : ℕ) (live : List ℕ) → n ≤ length live → ((i : ℕ) → P i → ⊥) → GoesOn K cs S o s b P n live n live
  goes_nowhere P n live few none = record {
    room = few;
    more = omega arith;
    kept = λ j h. refl;
    further = λ j h l. absurd (omega arith);
    each = λ i p. absurd (none i p);
  }

  -- of numbers that are all spared
  pub goes_past : (P : ℕ → Type 0) (n : ℕ) (live : List ℕ) → n ≤ length live → ((i : ℕ) → P i → IsNumberSpared K cs S o s b i) → GoesOn K cs S o s b P n live n live
  goes_past P n live few spared = record {
    room = few;
    more = omega arith;
    kept = λ j h. refl;
    further = λ j h l. absurd (omega arith);
    each = λ i p. inl (spared i p);
  }

  -- of one number
  pub goes_one : (number n : ℕ) (live : List ℕ) → n < length live → GoesOn K cs S o s b (λ i. i ≡ number) n live (n + 1) (set live n number)
  goes_one number n live room = record {
    room = omega (arith, length-set live n number);
    more = omega arith;
    kept = λ j h. get_or-set_other live n j number 0 (λ e. absurd (omega arith));
    further = λ j h l. let e : j ≡ n = omega arith in ap (slice_index (set live n number)) e ∙ get_or-set_same live n number 0 room;
    each = λ i p. inr (n, omega arith, get_or-set_same live n number 0 room ∙ sym p);
  }

  -- where it was put, if there was room
  pub goes_put : (number n : ℕ) (live new : List ℕ) (r : Option ℕ) → IfSome r (λ m. (m ≡ n + 1) × (n < length live) × (new ≡ set live n number)) → IfSome r (λ m. GoesOn K cs S o s b (λ i. i ≡ number) n live m new)
  goes_put number n live new None h = tt
  goes_put number n live new (Some m) h =
      subst (λ (l : List ℕ). GoesOn K cs S o s b (λ i. i ≡ number) n live m l) (sym h.2) (subst (λ (k : ℕ). GoesOn K cs S o s b (λ i. i ≡ number) n live k (set live n number)) (sym h.0) (goes_one number n live h.1))

  -- of the same numbers, said otherwise
  pub goes_as : (P Q : ℕ → Type 0) (n m : ℕ) (live new : List ℕ) → ((i : ℕ) → P i → Q i) → ((i : ℕ) → Q i → P i) → GoesOn K cs S o s b P n live m new → GoesOn K cs S o s b Q n live m new
  goes_as P Q n m live new to back a = record {
    room = a.room;
    more = a.more;
    kept = a.kept;
    further = λ j h l. to (slice_index new j) (a.further j h l);
    each = λ i q. a.each i (back i q);
  }

  -- of both kinds, which are all of a third kind
  pub goes_both : (P Q R : ℕ → Type 0) (n m l : ℕ) (live mid new : List ℕ) → ((i : ℕ) → P i → R i) → ((i : ℕ) → Q i → R i) → ((i : ℕ) → R i → P i ⊎ Q i)
      → GoesOn K cs S o s b P n live m mid → GoesOn K cs S o s b Q m mid l new → GoesOn K cs S o s b R n live l new
  goes_both P Q R n m l live mid new left right either a c = record {
    room = c.room;
    more = omega (arith, a.more, c.more);
    kept = λ j h. c.kept j (omega (arith, a.more)) ∙ a.kept j h;
    further = λ j h k. elim (cases_lt j m) [
      | inl x ↦ left (slice_index new j) (subst P (sym (c.kept j x)) (a.further j h x))
      | inr x ↦ right (slice_index new j) (c.further j x k)
    ];
    each = λ i r. elim (either i r) [
      | inl p ↦ elim (a.each i p) [ inl sp ↦ inl sp | inr w ↦ inr (w.0, omega (arith, w.1, c.more), c.kept w.0 w.1 ∙ w.2) ]
      | inr q ↦ c.each i q
    ];
  }

  -- of the groups of a row, one after another
  pub goes_group : (gs : List Group) (k : ℕ) (d : Group) (n m l : ℕ) (live mid new : List ℕ) → k < length gs → GoesOn K cs S o s b (HaveBelow gs k) n live m mid → GoesOn K cs S o s b (IsInGroup (get_or gs k d)) m mid l new → GoesOn K cs S o s b (HaveBelow gs (k + 1)) n live l new
  goes_group gs k d n m l live mid new h a c =
      let at : slice_get gs k ≡ Some (get_or gs k d) = slice_get-get_or gs k d h in
      goes_both (HaveBelow gs k) (IsInGroup (get_or gs k d)) (HaveBelow gs (k + 1)) n m l live mid new
      (λ i p. (p.0, p.1, omega (arith, p.2), p.3, p.4))
      (λ i q. (k, get_or gs k d, omega arith, at, q))
      (λ i r. elim (cases_eq r.0 k) [
        | inl e ↦ inr (subst (λ (x : Group). IsInGroup x i) (same_Some _ _ (sym r.3 ∙ ap (slice_get gs) e ∙ at)) r.4)
        | inr ne ↦ inl (r.0, r.1, omega (arith, r.2), r.3, r.4)
      ])
      a
      c

-- ---- groups and rows

module _ (cs : List Cond) (S : State) (o : ℕ) (fits : AllFit cs S) (here : o < length S) where
  pub fit : (i : ℕ) (x : Cond) → slice_get cs (i - 1) ≡ Some x → FitsIn x S
  fit i x e = all_at (λ y. FitsIn y S) cs (i - 1) x fits e

  pub group_number : (g : Group) → IsSomeGroup cs o g → (i : ℕ) → IsInGroup g i → (0 < i) × (i - 1 < length cs)
  group_number g q i b =
      let c = q.3.listed i b in
      subst (λ (v : ℕ). (0 < v) × (v - 1 < length cs)) (there q.0 i c) (pick_in (length cs) q.0 c.0 q.2 c.1)

  -- the other object is there
  pub group_fits : (g : Group) → IsSomeGroup cs o g → IfSome g.other (λ u. u.0 < length S)
  group_fits g q =
      let in_it : IsInGroup g g.first = (omega arith, q.3.some) in
      let number = group_number g q g.first in_it in
      elim (slice_get_cases cs (g.first - 1)).1 [
        | inl w ↦ some_with g.other (λ u. IsBeside w.0 o u.0 g.other_place) (λ u. u.0 < length S) (λ u y. y.exists S (fit g.first w.0 w.2)) (q.3.faces g.first w.0 in_it w.2).other
        | inr w ↦ absurd (omega (arith, number.1, w.0))
      ]

  spared_by : (x : Cond) (u : Option ObjId) (p : ℕ) → FitsIn x S → IfSome u (λ v. IsBeside x o v.0 p) → MatchOption u ⊥ (λ v. (p ≢ 0) × (is_only (reach S v.0).places p ≡ false)) → SparesAnywhere x S o
  spared_by x None p f h m = absurd m
  spared_by x (Some v) p f h m = h.place m.0 S f here m.1

  -- where the other object has not the place that is asked for alone, the conditions are possible
  pub group_free : (g : Group) → IsSomeGroup cs o g → MatchOption g.other ⊥ (λ u. (g.other_place ≢ 0) × (is_only (reach S u.0).places g.other_place ≡ false)) → (i : ℕ) (x : Cond) → IsInGroup g i → slice_get cs (i - 1) ≡ Some x → SparesAnywhere x S o
  group_free g q m i x in_it e = spared_by x g.other g.other_place (fit i x e) (q.3.faces i x in_it e).other m

  pub group_spared : (K s : ℕ) (b : Region) (g : Group) → IsSomeGroup cs o g → MatchOption g.other ⊥ (λ u. (g.other_place ≢ 0) × (is_only (reach S u.0).places g.other_place ≡ false)) → (i : ℕ) → IsInGroup g i → IsNumberSpared K cs S o s b i
  group_spared K s b g q m i in_it x e = λ p has. group_free g q m i x in_it e s p

  module _ (picks : List ℕ) (rows : Rows) (are : AreRows cs o picks rows) where
    pub rows_some : ArePicks (length cs) picks → (r : ℕ) (gs : List Group) → gs ≡ row rows.rows.items r → (k : ℕ) (g : Group) → slice_get gs k ≡ Some g → IsSomeGroup cs o g
    rows_some p r gs same k g e = (picks, r, p, are.groups r k g (subst (λ (hs : List Group). slice_get hs k ≡ Some g) same e))

    pub row_listed : (r i : ℕ) → HaveNumber (row rows.rows.items r) i → Contains picks i
    row_listed r i w = (are.groups r w.0 w.1 w.2).listed i w.3

    -- the row of no place and that of the place have all picks that are not spared
    pub gathered_rows : (K s : ℕ) (b : Region) (n m : ℕ) (live mid new : List ℕ) → GoesOn K cs S o s b (HaveNumber (row rows.rows.items 0)) 0 live n mid → GoesOn K cs S o s b (HaveNumber (row rows.rows.items s)) n mid m new → AreGathered K cs S o s b picks m new
    gathered_rows K s b n m live mid new a c = record {
      listed = λ j h. elim (cases_lt j n) [
        | inl x ↦ subst (Contains picks) (sym (c.kept j x)) (row_listed 0 (slice_index mid j) (a.further j (omega arith) x))
        | inr x ↦ row_listed s (slice_index new j) (c.further j x h)
      ];
      others = λ k h.
          let i = slice_index picks k in
          let e = are.each k h in
          elim (cases_eq e.0 0) [
            | inl z ↦ elim (a.each i (subst (λ (r : ℕ). HaveNumber (row rows.rows.items r) i) z e.1)) [
              | inl sp ↦ inl sp
              | inr w ↦ inr (w.0, omega (arith, w.1, c.more), c.kept w.0 w.1 ∙ w.2)
            ]
            | inr nz ↦ elim (cases_eq e.0 s) [
              | inl z ↦ elim (c.each i (subst (λ (r : ℕ). HaveNumber (row rows.rows.items r) i) z e.1)) [
                | inl sp ↦ inl sp
                | inr w ↦ inr w
              ]
              | inr ne ↦ inl (λ x is p has. ((are.groups e.0 e.1.0 e.1.1 e.1.2).faces i x e.1.3 is).place nz S s (fit i x is) here (λ q. ne (sym q)) p)
            ]
          ];
    }

-- ---- all picks, one after another

-- one of the first n picks is the number
abbrev pub IsBelow : List ℕ → ℕ → ℕ → Type 0
IsBelow picks n i = (k : ℕ) × (k < n) × (k < length picks) × (slice_index picks k ≡ i)

module _ (K : ℕ) (cs : List Cond) (S : State) (o s : ℕ) (b : Region) (picks : List ℕ) where
  pub goes_pick : (k n m l : ℕ) (live mid new : List ℕ) → k < length picks → GoesOn K cs S o s b (IsBelow picks k) n live m mid → GoesOn K cs S o s b (λ i. i ≡ slice_index picks k) m mid l new → GoesOn K cs S o s b (IsBelow picks (k + 1)) n live l new
  goes_pick k n m l live mid new h = goes_both K cs S o s b (IsBelow picks k) (λ i. i ≡ slice_index picks k) (IsBelow picks (k + 1)) n m l live mid new
      (λ i p. (p.0, omega (arith, p.1), p.2, p.3))
      (λ i e. (k, omega arith, h, sym e))
      (λ i r. elim (cases_eq r.0 k) [
        | inl e ↦ inr (sym r.3 ∙ ap (slice_index picks) e)
        | inr ne ↦ inl (r.0, omega (arith, r.1), r.2, r.3)
      ])

  pub gathered_picks : (m : ℕ) (live new : List ℕ) → GoesOn K cs S o s b (IsBelow picks (length picks)) 0 live m new → AreGathered K cs S o s b picks m new
  gathered_picks m live new a = record {
    listed = λ j h. let w = a.further j (omega arith) h in contained picks (slice_index new j) w.0 w.2 w.3;
    others = λ k h. a.each (slice_index picks k) (k, h, h, refl);
  }

-- ---- the sweep

module _ (K : ℕ) (cs : List Cond) (S : State) (o s : ℕ) (b : Region) (picks live : List ℕ) (n : ℕ) (few : n ≤ length live) (g : AreGathered K cs S o s b picks n live) where
  long : length (take n live) ≡ n
  long = length-take-le n live few

  at : (j : ℕ) → j < n → slice_index (take n live) j ≡ slice_index live j
  at j h = get_or-take n live j 0 h

  pub picks_gathered : (m : ℕ) → ArePicks m picks → ArePicks m (take n live)
  picks_gathered m a j d h =
      let l : j < n = omega (arith, h, long) in
      let c = g.listed j l in
      let same : get_or (take n live) j d ≡ slice_index picks c.0 = get_or-take n live j d l ∙ other j d l ∙ sym (there picks (slice_index live j) c) in
      subst (λ (i : ℕ). (0 < i) × (i - 1 < m)) (sym same) (pick_in m picks c.0 a c.1)
    where
      other : (j d : ℕ) → j < n → get_or live j d ≡ slice_index live j
      other j d l = get_or_default live j d 0 (omega (arith, l, few))

  contains : (i : ℕ) → Contains (take n live) i → Contains picks i
  contains i c =
      let l : c.0 < n = omega (arith, c.1, long) in
      let w = g.listed c.0 l in
      contained picks i w.0 w.1 (there picks (slice_index live c.0) w ∙ sym (at c.0 l) ∙ there (take n live) i c)

  -- at a point the same is refuted
  module _ (p : List ℤ) where
    abbrev T : State
    T = with_at S o s (just p)

    all_of : Has K b.lo b.hi p → NoneRefuted (picked cs (take n live)) T → NoneRefuted (picked cs picks) T
    all_of has a = picked_all (λ c. possible c T ≡ true) cs picks (λ k x y. elim (g.others k y.0) [
      | inl sp ↦ sp x y.1 p has
      | inr w ↦ picked_at (λ c. possible c T ≡ true) cs (take n live) w.0 x a (
        omega (arith, w.1, long),
        subst (λ (i : ℕ). slice_get cs (i - 1) ≡ Some x) (sym (at w.0 w.1 ∙ w.2)) y.1,
      )
    ])

    some_of : NoneRefuted (picked cs picks) T → NoneRefuted (picked cs (take n live)) T
    some_of a = picked_all (λ c. possible c T ≡ true) cs (take n live) (λ j x y.
        let l : j < n = omega (arith, y.0, long) in
        let w = g.listed j l in
        picked_at (λ c. possible c T ≡ true) cs picks w.0 x a (w.1, subst (λ (i : ℕ). slice_get cs (i - 1) ≡ Some x) (sym (there picks (slice_index live j) w ∙ sym (at j l))) y.1))

  can_be : (p : List ℤ) → CanBeAt (picked cs (take n live)) S o s b p → CanBeAt (picked cs picks) S o s b p
  can_be p y = record { point = y.point; unrefuted = all_of p (λ d h. (y.point.above d, y.point.below d)) y.unrefuted }

  could_be : (p : List ℤ) → CanBeAt (picked cs picks) S o s b p → CanBeAt (picked cs (take n live)) S o s b p
  could_be p y = record { point = y.point; unrefuted = some_of p y.unrefuted }

  -- the parts are those of the picks that are swept
  pub parts_gathered : (parts : List (Option (KBox K))) → HoldParts K cs S o s b live parts → AreParts K cs (take n live) S o s b parts
  parts_gathered parts h k part x e y = h k part e x (subst (λ (i : ℕ). slice_get cs (i - 1) ≡ Some x) (at k (omega (arith, y.0, long))) y.1)

  pub point_of_all : {X : Type 0} (lead : ℕ) (up : Bool) (coordinates : X → List ℤ) (r : Option X) → MatchOption r (HasNoPoint (picked cs (take n live)) S o s b) (λ q. IsFirstPoint K lead up (picked cs (take n live)) S o s b (coordinates q))
      → MatchOption r (HasNoPoint (picked cs picks) S o s b) (λ q. IsFirstPoint K lead up (picked cs picks) S o s b (coordinates q))
  point_of_all lead up coordinates None h = λ p y. h p (could_be p y)
  point_of_all lead up coordinates (Some q) h = record { point = can_be (coordinates q) h.point; first = λ p y before. h.first p (could_be p y) before }

  names_all : (v : Region) (t : CoverTree) → NamesOnly (take n live) v t → NamesOnly picks v t
  names_all v (Leaf i) (inl c) = inl (contains i c)
  names_all v (Leaf i) (inr e) = inr e
  names_all v (Fork side x y) h = (names_all (near side v) x h.0, names_all (far side v) y h.1)

  pub covered_of_all : (v : Region) (old new : List Event) → IsCovered K cs (take n live) S o s v old new → IsCovered K cs picks S o s v old new
  covered_of_all v old new c = record { tree = c.tree; events = c.events; covers = c.covers; cuts = c.cuts; names = names_all v c.tree c.names }

  pub cover_of_all : {X : Type 0} (part : X → Region) (old new : List Event) (r : Option X) → MatchOption r (IsCovered K cs (take n live) S o s b old new) (λ q. IsCovered K cs (take n live) S o s (part q) old new)
      → MatchOption r (IsCovered K cs picks S o s b old new) (λ q. IsCovered K cs picks S o s (part q) old new)
  cover_of_all part old new None h = covered_of_all b old new h
  cover_of_all part old new (Some q) h = covered_of_all (part q) old new h
