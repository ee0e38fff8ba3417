-- The walk is walked one member at a time.
use Rattle.std.proofs.Common.{◌≡◌, ℕ, suc, ◌<◌, ◌≤◌, true, false, List, [], ◌∷◌, ◌++◌, length, refl, sym, ap, ◌∙◌, subst, inl, inr, ◌⊎◌, arith, ℤ, pos, ◌≤ℤ◌, ◌<ℤ◌, Contains}
use Rattle.std.proofs.lemmas.Int.{ints, by_lt_z}
use Rattle.std.specs.List.{All}
use Rattle.std.proofs.lemmas.List.Elements.{All-nil, All-push, Contains-append_left, Contains-push}
use Rattle.std.proofs.lemmas.List.Quantifiers.{all_pairs_push}
use Rattle.geo_conditions.specs.declared.cond.Cond.{Cond}
use Rattle.geo_conditions.specs.Reach.{State, Reach, reach, has, low, high, Inside, HasNoEmpty}
use Rattle.geo_conditions.specs.Supported.{IsSupported, IsGreatest, NoneInside}
use Rattle.geo_conditions.proofs.Points.{inside_trans}
use Rattle.geo_conditions.proofs.Greatest.{narrowed, still_inside, at_set, raised}
use Rattle.std.proofs.Common.{set, ◌+ℤ◌}
use Rattle.std.proofs.lemmas.List.{get_or-set_same}
use Rattle.std.proofs.Math.ListN.{length-set}
use Rattle.geo_conditions.specs.Reach.{nowhere, dims}
use Rattle.geo_base.specs.Boxes.{coordinate}
use Rattle.geo_conditions.specs.Walk.{Variable, PlaceOf, CoordinateOf, IsBefore, Precedes, IsFixed, IsFirstValue, Begins, Tree, IsIn, IsFront, IsWhole}

-- ---- fronts

pub front_none : (W : Tree) → IsFront W []
front_none W = record {
  members = All-nil (IsIn W);
  in_order = λ i j d a b. absurd (omega arith);
  first = λ q m. inr (All-nil (λ r. Precedes W.variables r q));
}

-- a front grows by a member that comes after it, and before each other member that does
pub front_push : (W : Tree) (w : List (List ℤ)) (q : List ℤ) → IsFront W w → IsIn W q → All (λ r. Precedes W.variables r q) w → ((r : List ℤ) → IsIn W r → All (λ u. Precedes W.variables u r) w → (r ≡ q) ⊎ Precedes W.variables q r) → IsFront W (w ++ q ∷ [])
front_push W w q f m after least = record {
  members = All-push (IsIn W) w q f.members m;
  in_order = all_pairs_push (Precedes W.variables) w q f.in_order after;
  first = λ r n. elim (f.first r n) [
    | inl c ↦ inl (Contains-append_left w (q ∷ []) r c)
    | inr a ↦ elim (least r n a) [
      | inl e ↦ inl (subst (Contains (w ++ q ∷ [])) (sym e) (Contains-push w q))
      | inr p ↦ inr (All-push (λ u. Precedes W.variables u r) w q a p)
    ]
  ];
}

-- a front that no member comes after is the whole walk
pub front_whole : (W : Tree) (w : List (List ℤ)) → IsFront W w → ((r : List ℤ) → IsIn W r → All (λ u. Precedes W.variables u r) w → ⊥) → IsWhole W w
front_whole W w f never q m = elim (f.first q m) [ inl c ↦ c | inr a ↦ absurd (never q m a) ]

-- ---- one variable of the search

-- in S the first variables have these values
abbrev pub AreFixed : State → List Variable → List ℤ → Type 0
AreFixed S [] [] = Unit {0}
AreFixed S [] (v ∷ q) = ⊥
AreFixed S (x ∷ xs) [] = ⊥
AreFixed S (x ∷ xs) (v ∷ q) = IsFixed S x v × AreFixed S xs q

-- in S the variable has no value before v
abbrev pub IsFrom : State → Variable → ℤ → Type 0
IsFrom S (PlaceOf o) v = (s : ℕ) → has S o s ≡ true → v ≤ℤ pos s
IsFrom S (CoordinateOf o d false) v = v ≤ℤ low S o d
IsFrom S (CoordinateOf o d true) v = high S o d ≤ℤ v

pub first_not_before : (T G : State) (x : Variable) (v u : ℤ) → Inside T G → IsFirstValue T x v → IsFirstValue G x u → IsBefore x v u → ⊥
first_not_before T G (PlaceOf o) v u i f g b =
    let l : g.0 ≤ f.0 = g.3 f.0 ((i.each o).places f.0 f.2) in
    absurd (omega (arith, ints, f.1, g.1, l, b))
first_not_before T G (CoordinateOf o d false) v u i f g b = absurd (omega (arith, ints, f, g, b, (i.each o).lows d))
first_not_before T G (CoordinateOf o d true) v u i f g b = absurd (omega (arith, ints, f, g, b, (i.each o).highs d))

pub begins_at : (T : State) (ys : List Variable) (x : Variable) (zs : List Variable) (q : List ℤ) (v : ℤ) → AreFixed T ys q → IsFirstValue T x v → Begins T (ys ++ x ∷ zs) (q ++ v ∷ [])
begins_at T [] x zs [] v f g = g
begins_at T [] x zs (u ∷ q) v f g = absurd f
begins_at T (y ∷ ys) x zs [] v f g = absurd f
begins_at T (y ∷ ys) x zs (u ∷ []) v f g = (f.0, begins_at T ys x zs [] v f.1 g)
begins_at T (y ∷ ys) x zs (u ∷ w ∷ q) v f g = (f.0, begins_at T ys x zs (w ∷ q) v f.1 g)

pub begins_out : (T : State) (ys : List Variable) (x : Variable) (zs : List Variable) (q : List ℤ) (v : ℤ) → length ys ≡ length q → Begins T (ys ++ x ∷ zs) (q ++ v ∷ []) → AreFixed T ys q × IsFirstValue T x v
begins_out T [] x zs [] v e b = (tt, b)
begins_out T [] x zs (u ∷ q) v e b = absurd (omega arith)
begins_out T (y ∷ ys) x zs [] v e b = absurd (omega arith)
begins_out T (y ∷ ys) x zs (u ∷ []) v e b = let r = begins_out T ys x zs [] v (omega arith) b.1 in ((b.0, r.0), r.1)
begins_out T (y ∷ ys) x zs (u ∷ w ∷ q) v e b = let r = begins_out T ys x zs (w ∷ q) v (omega arith) b.1 in ((b.0, r.0), r.1)

-- G is the greatest supported state inside S in which the first variables have the values of q, and the next one has none before v
pub record IsGreatestFrom (cs : List Cond) (S : State) (ys : List Variable) (x : Variable) (q : List ℤ) (v : ℤ) (G : State) : Type 0 where
  pub supported : IsSupported cs G
  pub inside : Inside G S
  pub fixed : AreFixed G ys q
  pub from : IsFrom G x v
  pub greatest : (T : State) → IsSupported cs T → Inside T S → AreFixed T ys q → IsFrom T x v → Inside T G

from_first : (T : State) (x : Variable) (v u : ℤ) → IsFirstValue T x v → (IsBefore x v u → ⊥) → IsFrom T x u
from_first T (PlaceOf o) v u f n = λ s h. let l : f.0 ≤ s = f.3 s h in
    by_lt_z {P = u ≤ℤ pos s} v u (λ b. absurd (n b)) (λ b. omega (arith, ints, f.1, l, b))
from_first T (CoordinateOf o d false) v u f n = by_lt_z {P = u ≤ℤ low T o d} v u (λ b. absurd (n b)) (λ b. omega (arith, ints, f, b))
from_first T (CoordinateOf o d true) v u f n = by_lt_z {P = high T o d ≤ℤ u} u v (λ b. absurd (n b)) (λ b. omega (arith, ints, f, b))

-- its first value makes a member
pub member_here : (cs : List Cond) (S : State) (ys : List Variable) (x : Variable) (zs : List Variable) (q : List ℤ) (v u : ℤ) (G : State) → IsGreatestFrom cs S ys x q v G → IsFirstValue G x u → (T : State) × IsSupported cs T × Inside T S × Begins T (ys ++ x ∷ zs) (q ++ u ∷ [])
member_here cs S ys x zs q v u G g f = (G, g.supported, g.inside, begins_at G ys x zs q u g.fixed f)

-- and no member has a value from v on and before it
pub none_before : (cs : List Cond) (S : State) (ys : List Variable) (x : Variable) (zs : List Variable) (q : List ℤ) (v u w : ℤ) (G : State) → length ys ≡ length q → IsGreatestFrom cs S ys x q v G → IsFirstValue G x u → (IsBefore x w v → ⊥) → IsBefore x w u → ((T : State) × IsSupported cs T × Inside T S × Begins T (ys ++ x ∷ zs) (q ++ w ∷ [])) → ⊥
none_before cs S ys x zs q v u w G e g f n b m =
    let r = begins_out m.0 ys x zs q w e m.3 in
    first_not_before m.0 G x w u (g.greatest m.0 m.1 m.2 r.0 (from_first m.0 x w v r.1 n)) r.1 f b

-- ---- a settle, as a step of the search

-- G is the greatest supported state inside S that meets R
pub record IsGreatestOf (cs : List Cond) (S : State) (R : State → Type 0) (G : State) : Type 0 where
  pub supported : IsSupported cs G
  pub inside : Inside G S
  pub meets : R G
  pub greatest : (T : State) → IsSupported cs T → Inside T S → R T → Inside T G

-- N is what is left of G under a further demand Q: the states inside G that meet Q lie inside N, and those inside N meet Q
pub record Narrows (G N : State) (Q : State → Type 0) : Type 0 where
  pub inside : Inside N G
  pub meet : (T : State) → HasNoEmpty T → Inside T N → Q T
  pub all : (T : State) → HasNoEmpty T → Inside T G → Q T → Inside T N

pub settled : (cs : List Cond) (S : State) (R Q : State → Type 0) (G N H : State) → ((T : State) → Inside T G → R G → R T) → IsGreatestOf cs S R G → Narrows G N Q → IsGreatest cs N H → IsGreatestOf cs S (λ T. R T × Q T) H
settled cs S R Q G N H down g n h = record {
  supported = h.supported;
  inside = inside_trans H G S (inside_trans H N G h.inside n.inside) g.inside;
  meets = (down H (inside_trans H N G h.inside n.inside) g.meets, n.meet H h.supported.nonempty h.inside);
  greatest = λ T s i m. h.greatest T s (n.all T s.nonempty (g.greatest T s i m.0) m.1);
}

pub settled_none : (cs : List Cond) (S : State) (R Q : State → Type 0) (G N : State) → IsGreatestOf cs S R G → Narrows G N Q → NoneInside cs N → (T : State) → IsSupported cs T → Inside T S → R T → Q T → ⊥
settled_none cs S R Q G N g n none T s i r q = none T s (n.all T s.nonempty (g.greatest T s i r) q)

-- ---- the two moves at a coordinate that goes upwards

abbrev pub cut_high : Reach → ℕ → ℤ → Reach
cut_high r d v = record { places = r.places; region = record { lo = r.region.lo; hi = set r.region.hi d v } }

-- fixed at its low end
pub fix_low : (G : State) (o d : ℕ) → o < length G → d < length (reach G o).region.hi → low G o d ≤ℤ high G o d → Narrows G (set G o (cut_high (reach G o) d (low G o d))) (λ T. high T o d ≤ℤ low G o d)
fix_low G o d h k l = record {
  inside = narrowed G o (cut_high (reach G o) d (low G o d)) (record {
    same_lo = refl;
    same_hi = length-set (reach G o).region.hi d (low G o d);
    places = λ s t. t;
    lows = λ e. omega (arith, ints);
    highs = at_set (λ e v. v ≤ℤ high G o e) (reach G o).region.hi d (low G o d) (λ b. l) (λ e. omega (arith, ints));
  }) h;
  meet = λ T n i. subst (λ (z : ℤ). high T o d ≤ℤ z)
      (ap (λ (r : Reach). coordinate r.region.hi d) (get_or-set_same G o (cut_high (reach G o) d (low G o d)) nowhere h) ∙ get_or-set_same (reach G o).region.hi d (low G o d) (pos 0) k)
      ((i.each o).highs d);
  all = λ T n i q. still_inside T G o (cut_high (reach G o) d (low G o d)) h i (record {
    same_lo = (i.each o).same_lo;
    same_hi = (i.each o).same_hi ∙ sym (length-set (reach G o).region.hi d (low G o d));
    places = (i.each o).places;
    lows = (i.each o).lows;
    highs = at_set (λ e v. high T o e ≤ℤ v) (reach G o).region.hi d (low G o d) (λ b. q) (i.each o).highs;
  });
}

-- past its low end
pub past_low : (G : State) (o d : ℕ) → o < length G → d < dims G o → Narrows G (set G o (raised (reach G o) d)) (λ T. low G o d <ℤ low T o d)
past_low G o d h k = record {
  inside = narrowed G o (raised (reach G o) d) (record {
    same_lo = length-set (reach G o).region.lo d (low G o d +ℤ pos 1);
    same_hi = refl;
    places = λ s t. t;
    lows = at_set (λ e v. low G o e ≤ℤ v) (reach G o).region.lo d (low G o d +ℤ pos 1) (λ b. omega (arith, ints)) (λ e. omega (arith, ints));
    highs = λ e. omega (arith, ints);
  }) h;
  meet = λ T n i. let e : coordinate (reach (set G o (raised (reach G o) d)) o).region.lo d ≡ low G o d +ℤ pos 1 =
      ap (λ (r : Reach). coordinate r.region.lo d) (get_or-set_same G o (raised (reach G o) d) nowhere h) ∙ get_or-set_same (reach G o).region.lo d (low G o d +ℤ pos 1) (pos 0) k in
      let m : (low G o d +ℤ pos 1) ≤ℤ low T o d = subst (λ (z : ℤ). z ≤ℤ low T o d) e ((i.each o).lows d) in omega (arith, ints, m);
  all = λ T n i q. still_inside T G o (raised (reach G o) d) h i (record {
    same_lo = (i.each o).same_lo ∙ sym (length-set (reach G o).region.lo d (low G o d +ℤ pos 1));
    same_hi = (i.each o).same_hi;
    places = (i.each o).places;
    lows = at_set (λ e v. v ≤ℤ low T o e) (reach G o).region.lo d (low G o d +ℤ pos 1) (λ b. omega (arith, ints, q)) (i.each o).lows;
    highs = (i.each o).highs;
  });
}

-- ---- what comes after a prefix

-- r is q with more values
abbrev pub Extends : List ℤ → List ℤ → Type 0
Extends q r = (v : ℤ) × (s : List ℤ) × (r ≡ q ++ v ∷ s)

-- r agrees with q as far as a variable, and has a later value there
pub record Branches (xs : List Variable) (q r : List ℤ) : Type 0 where
  pub before : List Variable
  pub at : Variable
  pub rest : List Variable
  pub same : List ℤ
  pub value : ℤ
  pub after : List ℤ
  pub later : ℤ
  pub others : List ℤ
  pub variables : xs ≡ before ++ at ∷ rest
  pub number : length before ≡ length same
  pub old : q ≡ same ++ value ∷ after
  pub new : r ≡ same ++ later ∷ others
  pub order : IsBefore at value later

-- a prefix that comes after q extends it, or branches off from it
pub after_cases : (xs : List Variable) (q r : List ℤ) → Precedes xs q r → Extends q r ⊎ Branches xs q r
after_cases xs q [] h = absurd h
after_cases xs [] (w ∷ r) h = inl (w, r, refl)
after_cases [] (v ∷ q) (w ∷ r) h = absurd h
after_cases (x ∷ xs) (v ∷ q) (w ∷ r) (inl b) = inr (record { before = []; at = x; rest = xs; same = []; value = v; after = q; later = w; others = r; variables = refl; number = refl; old = refl; new = refl; order = b })
after_cases (x ∷ xs) (v ∷ q) (w ∷ r) (inr h) = elim (after_cases xs q r h.1) [
  | inl e ↦ inl (e.0, e.1, ap (λ (z : ℤ). z ∷ r) (sym h.0) ∙ ap (λ (l : List ℤ). v ∷ l) e.2)
  | inr b ↦ inr (record {
    before = x ∷ b.before;
    at = b.at;
    rest = b.rest;
    same = v ∷ b.same;
    value = b.value;
    after = b.after;
    later = b.later;
    others = b.others;
    variables = ap (λ (l : List Variable). x ∷ l) b.variables;
    number = ap suc b.number;
    old = ap (λ (l : List ℤ). v ∷ l) b.old;
    new = ap (λ (z : ℤ). z ∷ r) (sym h.0) ∙ ap (λ (l : List ℤ). v ∷ l) b.new;
    order = b.order;
  })
]
