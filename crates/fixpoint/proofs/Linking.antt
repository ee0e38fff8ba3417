-- The lists that link conditions and objects.
use Rattle.std.proofs.Common.{◌≡◌, ◌||◌, ◌&&◌, not, ℕ, zero, suc, ◌+◌, ◌-◌, ◌<◌, ◌≤◌, Bool, true, false, List, [], ◌∷◌, ◌++◌, length, set, get_or, refl, sym, ap, ◌∙◌, subst, inl, inr, arith, Some, slice_index, eq-eqb, eqb-true}
use Rattle.std.specs.Prelude.{slice_get, nat_eq}
use Rattle.std.specs.List.{All, list_any}
use Rattle.std.proofs.lemmas.Bool.{false≢true, or_cases, cases_eq}
use Rattle.std.proofs.Math.ListN.{length-set}
use Rattle.std.proofs.lemmas.List.{get_or_push, get_or_append_left}
use Rattle.std.proofs.lemmas.List.Folds.{list_any-append}
use Rattle.std.proofs.lemmas.List.Elements.{All-append}
use Rattle.std.proofs.lemmas.List.Quantifiers.{all_pairs_push}
use Rattle.std.proofs.lemmas.Option.{slice_get-get_or}
use Rattle.geo_conditions.specs.declared.cond.Cond.{Cond}
use Rattle.indexical.specs.Names.{names}
use Rattle.sweep.specs.Picks.{ArePicks, picked}
use Rattle.sweep.proofs.PickedConditions.{picked_at, pick_in}
use Rattle.std.specs.declared.vec.Vec.{Vec}
use Rattle.std.specs.declared.alloc.Global.{Global}
use Rattle.std.proofs.Math.Bool.{or-false}
use Rattle.smallvec.specs.SmallVec.{SmallVec}
use Rattle.geo_conditions.specs.declared.object.ObjId.{ObjId}
use Rattle.fixpoint.specs.Pairs.{names_at}
use Rattle.fixpoint.specs.declared.links.Links.{Links}
use Rattle.fixpoint.specs.Partners.{HavePartners}
use Rattle.object_pruning.specs.declared.rows.Rows.{Rows}
use Rattle.object_pruning.specs.InRows.{AreRows}
pub use Rattle.object_pruning.proofs.InRows.{row_get, row_empty, row_set_same, row_set_other, length_more}
use Rattle.fixpoint.specs.Links.{NumbersOf, PicksOf, names_none, is_among, NamedBy, row, HavePairs, HaveRows, AreLinks, put_where, Numbers}

-- the place of a number that is there
pub index_of : (i : ℕ) (xs : List ℕ) → list_any (nat_eq i) xs ≡ true → (k : ℕ) × (k < length xs) × (slice_index xs k ≡ i)
index_of i [] e = absurd (false≢true e)
index_of i (x ∷ xs) e = elim (or_cases (nat_eq i x) (list_any (nat_eq i) xs) e) [
  | inl q ↦ (0, omega arith, sym (eqb-true i x q))
  | inr r ↦ let w = index_of i xs r in (suc w.0, omega (arith, w.1), w.2)
]

-- what holds of all that is picked holds of each condition that meets the test
pub numbers_all : (P : Cond → Type 0) (test : Cond → Bool) (cs : List Cond) (numbers : List ℕ) → NumbersOf test cs (length cs) numbers → All P (picked cs numbers) → All (λ c. test c ≡ true → P c) cs
numbers_all P test cs numbers p a i d h n =
    let w = index_of (suc i) numbers (p.each i d h ∙ n) in
    let e : slice_index numbers w.0 - 1 ≡ i = omega (arith, w.2) in
    picked_at P cs numbers w.0 (get_or cs i d) a (w.1, subst (λ (j : ℕ). slice_get cs j ≡ Some (get_or cs i d)) (sym e) (slice_get-get_or cs i d h))

pub named_all : (P : Cond → Type 0) (cs : List Cond) (o : ℕ) (picks : List ℕ) → PicksOf cs o picks → All P (picked cs picks) → All (λ c. names o c ≡ true → P c) cs
named_all P cs o picks p a = numbers_all P (names o) cs picks p a

-- ---- lists of lists

-- the same of the lists of what conditions name
pub names_get : (vs : List (SmallVec ObjId)) (i : ℕ) (d : SmallVec ObjId) → i < length vs → names_at vs i ≡ (get_or vs i d).items
names_get [] i d h = absurd (omega arith)
names_get (v ∷ vs) zero d h = refl
names_get (v ∷ vs) (suc i) d h = names_get vs i d (omega arith)

pub names_past : (vs : List (SmallVec ObjId)) (i : ℕ) → length vs ≤ i → names_at vs i ≡ []
names_past [] i h = refl
names_past (v ∷ vs) zero h = absurd (omega arith)
names_past (v ∷ vs) (suc i) h = names_past vs i (omega arith)

names_before : (vs : List (SmallVec ObjId)) (v : SmallVec ObjId) (i : ℕ) → i < length vs → names_at (vs ++ v ∷ []) i ≡ names_at vs i
names_before [] v i h = absurd (omega arith)
names_before (w ∷ vs) v zero h = refl
names_before (w ∷ vs) v (suc i) h = names_before vs v i (omega arith)

names_last : (vs : List (SmallVec ObjId)) (v : SmallVec ObjId) → names_at (vs ++ v ∷ []) (length vs) ≡ v.items
names_last [] v = refl
names_last (w ∷ vs) v = names_last vs v

pub row_before : {X : Type 0} (vs : List (Vec X Global)) (v : Vec X Global) (i : ℕ) → i < length vs → row (vs ++ v ∷ []) i ≡ row vs i
row_before [] v i h = absurd (omega arith)
row_before (w ∷ vs) v zero h = refl
row_before (w ∷ vs) v (suc i) h = row_before vs v i (omega arith)

pub row_last : {X : Type 0} (vs : List (Vec X Global)) (v : Vec X Global) → row (vs ++ v ∷ []) (length vs) ≡ v.items
row_last [] v = refl
row_last (w ∷ vs) v = row_last vs v

-- ---- numbers of conditions

pub numbers_start : (test : Cond → Bool) (cs : List Cond) → NumbersOf test cs 0 []
numbers_start test cs = record { within = λ k d h. absurd (omega arith); rising = λ i j d l m. absurd (omega arith); each = λ i d h. absurd (omega arith) }

nat_eq_other : (a b : ℕ) → (a ≡ b → ⊥) → nat_eq a b ≡ false
nat_eq_other a b n = by_test (nat_eq a b) refl
  where
    by_test : (t : Bool) → nat_eq a b ≡ t → nat_eq a b ≡ false
    by_test true e = absurd (n (eqb-true a b e))
    by_test false e = e

-- a number past all picks is none of them
past_picks : (n : ℕ) (picks : List ℕ) → ArePicks n picks → list_any (nat_eq (suc n)) picks ≡ false
past_picks n [] a = refl
past_picks n (x ∷ picks) a =
    let h = a 0 0 (omega arith) in
    let e : nat_eq (suc n) x ≡ false = nat_eq_other (suc n) x (λ q. absurd (omega (arith, h.0, h.1, q))) in
    ap (λ (b : Bool). b || list_any (nat_eq (suc n)) picks) e ∙ past_picks n picks (λ k d b. a (suc k) d (omega (arith, b)))

wider_picks : (n : ℕ) (picks : List ℕ) → ArePicks n picks → ArePicks (n + 1) picks
wider_picks n picks a k d h = let b = a k d h in (b.0, omega (arith, b.1))

numbers_skip : (test : Cond → Bool) (cs : List Cond) (n : ℕ) (numbers : List ℕ) → NumbersOf test cs n numbers → ((d : Cond) → test (get_or cs n d) ≡ false) → NumbersOf test cs (n + 1) numbers
numbers_skip test cs n numbers p f = record {
  within = wider_picks n numbers p.within;
  rising = p.rising;
  each = λ i d h. elim (cases_eq i n) [
    | inl e ↦ subst (λ (j : ℕ). list_any (nat_eq (suc j)) numbers ≡ test (get_or cs j d)) (sym e) (past_picks n numbers p.within ∙ sym (f d))
    | inr ne ↦ p.each i d (omega arith)
  ];
}

numbers_more : (test : Cond → Bool) (cs : List Cond) (n : ℕ) (numbers : List ℕ) → NumbersOf test cs n numbers → ((d : Cond) → test (get_or cs n d) ≡ true) → NumbersOf test cs (n + 1) (numbers ++ suc n ∷ [])
numbers_more test cs n numbers p t = record {
  within = All-append (λ i. (0 < i) × (i - 1 < n + 1)) numbers (suc n ∷ []) (wider_picks n numbers p.within) one;
  rising = all_pairs_push (λ i j. i < j) numbers (suc n) p.rising (λ k d l. let b = p.within k d l in omega (arith, b.0, b.1));
  each = λ i d h. elim (cases_eq i n) [
    | inl e ↦ subst (λ (j : ℕ). list_any (nat_eq (suc j)) (numbers ++ suc n ∷ []) ≡ test (get_or cs j d)) (sym e)
        (list_any-append (nat_eq (suc n)) numbers (suc n ∷ []) ∙ ap (λ (b : Bool). b || list_any (nat_eq (suc n)) (suc n ∷ [])) (past_picks n numbers p.within) ∙ or-false (nat_eq (suc n) (suc n)) ∙ eq-eqb (suc n) (suc n) refl ∙ sym (t d))
    | inr ne ↦ list_any-append (nat_eq (suc i)) numbers (suc n ∷ []) ∙ ap (λ (b : Bool). list_any (nat_eq (suc i)) numbers || (b || false)) (nat_eq_other (suc i) (suc n) (λ q. ne (omega (arith, q)))) ∙ or-false (list_any (nat_eq (suc i)) numbers) ∙ p.each i d (omega arith)
  ];
}
  where
    one : All (λ i. (0 < i) × (i - 1 < n + 1)) (suc n ∷ [])
    one zero d h = (omega arith, omega arith)
    one (suc k) d h = absurd (omega arith)

-- one condition more
pub numbers_put : (test : Cond → Bool) (cs : List Cond) (n : ℕ) (numbers : List ℕ) (b : Bool) → NumbersOf test cs n numbers → ((d : Cond) → test (get_or cs n d) ≡ b) → NumbersOf test cs (n + 1) (put_where b (n + 1) numbers)
numbers_put test cs n numbers false p f = numbers_skip test cs n numbers p f
numbers_put test cs n numbers true p f =
    let e : suc n ≡ n + 1 = omega arith in
    subst (λ (m : ℕ). NumbersOf test cs (n + 1) (numbers ++ m ∷ [])) e (numbers_more test cs n numbers p f)

-- ---- the objects that a condition names

pub named_start : (c : Cond) → NamedBy c 0 []
named_start c = record { below = λ k d h. absurd (omega arith); each = λ o h. absurd (omega arith) }

past_named : (n : ℕ) (list : List ObjId) → All (λ u. u.0 < n) list → is_among n list ≡ false
past_named n [] a = refl
past_named n (u ∷ list) a =
    let h : u.0 < n = a 0 u (omega arith) in
    ap (λ (b : Bool). b || is_among n list) (nat_eq_other u.0 n (λ q. absurd (omega (arith, h, q)))) ∙ past_named n list (λ k d b. a (suc k) d (omega (arith, b)))

wider_named : (n : ℕ) (list : List ObjId) → All (λ u. u.0 < n) list → All (λ u. u.0 < n + 1) list
wider_named n list a k d h = let b = a k d h in omega (arith, b)

pub named_skip : (c : Cond) (n : ℕ) (list : List ObjId) → NamedBy c n list → names n c ≡ false → NamedBy c (n + 1) list
named_skip c n list p f = record {
  below = wider_named n list p.below;
  each = λ o h. elim (cases_eq o n) [
    | inl e ↦ subst (λ (j : ℕ). is_among j list ≡ names j c) (sym e) (past_named n list p.below ∙ sym f)
    | inr ne ↦ p.each o (omega arith)
  ];
}

pub named_more : (c : Cond) (n : ℕ) (list : List ObjId) (u : ObjId) → u.0 ≡ n → NamedBy c n list → names n c ≡ true → NamedBy c (n + 1) (list ++ u ∷ [])
named_more c n list u q p t = record {
  below = All-append (λ v. v.0 < n + 1) list (u ∷ []) (wider_named n list p.below) one;
  each = λ o h. elim (cases_eq o n) [
    | inl e ↦ subst (λ (j : ℕ). is_among j (list ++ u ∷ []) ≡ names j c) (sym e)
        (list_any-append (λ (v : ObjId). nat_eq v.0 n) list (u ∷ []) ∙ ap (λ (b : Bool). b || (nat_eq u.0 n || false)) (past_named n list p.below) ∙ or-false (nat_eq u.0 n) ∙ eq-eqb u.0 n q ∙ sym t)
    | inr ne ↦ list_any-append (λ (v : ObjId). nat_eq v.0 o) list (u ∷ []) ∙ ap (λ (b : Bool). is_among o list || (b || false)) (nat_eq_other u.0 o (λ r. ne (sym r ∙ q))) ∙ or-false (is_among o list) ∙ p.each o (omega arith)
  ];
}
  where
    one : All (λ v. v.0 < n + 1) (u ∷ [])
    one zero d h = omega (arith, q)
    one (suc k) d h = absurd (omega arith)

pub none_named : (c : Cond) (n : ℕ) → ((o : ℕ) → o < n → names o c ≡ false) → names_none n c ≡ true
none_named c zero f = refl
none_named c (suc n) f = ap (λ (b : Bool). not b && names_none n c) (f n (omega arith)) ∙ none_named c n (λ o h. f o (omega arith))

and_false : (b : Bool) → (b && false) ≡ false
and_false true = refl
and_false false = refl

one_named : (c : Cond) (n o : ℕ) → o < n → names o c ≡ true → names_none n c ≡ false
one_named c zero o h e = absurd (omega arith)
one_named c (suc n) o h e = elim (cases_eq o n) [
  | inl q ↦ ap (λ (b : Bool). not b && names_none n c) (subst (λ (v : ℕ). names v c ≡ true) q e)
  | inr ne ↦ ap (λ (b : Bool). not (names n c) && b) (one_named c n o (omega arith) e) ∙ and_false (not (names n c))
]

-- a condition that names no object, by its list
pub named_empty : (c : Cond) (n : ℕ) (list : List ObjId) → NamedBy c n list → names_none n c ≡ nat_eq (length list) 0
named_empty c n [] k = none_named c n (λ o h. sym (k.each o h))
named_empty c n (u ∷ list) k =
    let h : u.0 < n = k.below 0 u (omega arith) in
    one_named c n u.0 h (sym (k.each u.0 h) ∙ ap (λ (b : Bool). b || is_among u.0 list) (eq-eqb u.0 u.0 refl)) ∙ sym (nat_eq_other (suc (length list)) 0 (λ e. absurd (omega arith)))

-- ---- the loops that make the lists

-- the objects below o are linked with the condition of the number k
pub record LinkedBelow (c : Cond) (k o : ℕ) (list : List ObjId) (old new : List (Vec ℕ Global)) : Type 0 where
  pub named : NamedBy c o list
  pub objects : length new ≡ length old
  pub done : (u : ℕ) → u < o → row new u ≡ put_where (names u c) k (row old u)
  pub left : (u : ℕ) → o ≤ u → row new u ≡ row old u

pub linked_start : (c : Cond) (k : ℕ) (old : List (Vec ℕ Global)) → LinkedBelow c k 0 [] old old
linked_start c k old = record { named = named_start c; objects = refl; done = λ u h. absurd (omega arith); left = λ u h. refl }

pub linked_skip : (c : Cond) (k o : ℕ) (named : List ObjId) (old new : List (Vec ℕ Global)) → LinkedBelow c k o named old new → names o c ≡ false → LinkedBelow c k (o + 1) named old new
linked_skip c k o named old new l f = record {
  named = named_skip c o named l.named f;
  objects = l.objects;
  done = λ u h. elim (cases_eq u o) [
    | inl e ↦ l.left u (omega arith) ∙ sym (ap (λ (b : Bool). put_where b k (row old u)) (subst (λ (v : ℕ). names v c ≡ false) (sym e) f))
    | inr ne ↦ l.done u (omega arith)
  ];
  left = λ u h. l.left u (omega arith);
}

-- the next objects are not named
pub linked_on : (c : Cond) (k o m : ℕ) (named : List ObjId) (old new : List (Vec ℕ Global)) → LinkedBelow c k o named old new → ((u : ℕ) → o ≤ u → u < o + m → names u c ≡ false) → LinkedBelow c k (o + m) named old new
linked_on c k o zero named old new l f = let e : o ≡ o + 0 = omega arith in subst (λ (n : ℕ). LinkedBelow c k n named old new) e l
linked_on c k o (suc m) named old new l f =
    let e : o + m + 1 ≡ o + suc m = omega arith in
    subst (λ (n : ℕ). LinkedBelow c k n named old new) e (linked_skip c k (o + m) named old new (linked_on c k o m named old new l (λ u a b. f u a (omega (arith, b)))) (f (o + m) (omega arith) (omega arith)))

pub linked_upto : (c : Cond) (k o n : ℕ) (named : List ObjId) (old new : List (Vec ℕ Global)) → LinkedBelow c k o named old new → o ≤ n → ((u : ℕ) → o ≤ u → u < n → names u c ≡ false) → LinkedBelow c k n named old new
linked_upto c k o n named old new l h f =
    let e : o + (n - o) ≡ n = omega (arith, h) in
    subst (λ (m : ℕ). LinkedBelow c k m named old new) e (linked_on c k o (n - o) named old new l (λ u a b. f u a (omega (arith, b, h))))

pub linked_more : (c : Cond) (k o : ℕ) (named : List ObjId) (old new : List (Vec ℕ Global)) (u : ObjId) (v : Vec ℕ Global) → LinkedBelow c k o named old new → names o c ≡ true → u.0 ≡ o → o < length new → v.items ≡ row new o ++ k ∷ [] → LinkedBelow c k (o + 1) (named ++ u ∷ []) old (set new o v)
linked_more c k o named old new u v l t q h e = record {
  named = named_more c o named u q l.named t;
  objects = length-set new o v ∙ l.objects;
  done = λ w b. elim (cases_eq w o) [
    | inl m ↦ subst (λ (z : ℕ). row (set new o v) z ≡ put_where (names z c) k (row old z)) (sym m)
        (row_set_same new o v h ∙ e ∙ ap (λ (x : List ℕ). x ++ k ∷ []) (l.left o (omega arith)) ∙ sym (ap (λ (b : Bool). put_where b k (row old o)) t))
    | inr ne ↦ row_set_other new o w v ne ∙ l.done w (omega arith)
  ];
  left = λ w b. row_set_other new o w v (λ m. absurd (omega arith)) ∙ l.left w (omega arith);
}

-- the links of the first i conditions
pub record LinksBelow (cs : List Cond) (n i : ℕ) (lists : List (SmallVec ObjId)) (numbers : List (Vec ℕ Global)) (without : List ℕ) : Type 0 where
  pub conditions : length lists ≡ i
  pub named : (j : ℕ) (d : Cond) → j < i → NamedBy (get_or cs j d) n (names_at lists j)
  pub objects : length numbers ≡ n
  pub picks : (o : ℕ) → o < n → NumbersOf (names o) cs i (row numbers o)
  pub bare : NumbersOf (names_none n) cs i without

pub links_start : (cs : List Cond) (n : ℕ) (picks : List (Vec ℕ Global)) → length picks ≡ n → ((o : ℕ) → row picks o ≡ []) → LinksBelow cs n 0 [] picks []
links_start cs n picks e f = record {
  conditions = refl;
  named = λ j d h. absurd (omega arith);
  objects = e;
  picks = λ o h. subst (NumbersOf (names o) cs 0) (sym (f o)) (numbers_start (names o) cs);
  bare = numbers_start (names_none n) cs;
}

pub links_more : (cs : List Cond) (n i : ℕ) (named : List (SmallVec ObjId)) (picks new : List (Vec ℕ Global)) (bare : List ℕ) (c : Cond) (v : SmallVec ObjId) → LinksBelow cs n i named picks bare → ((d : Cond) → get_or cs i d ≡ c) → NamedBy c n v.items → Numbers c (i + 1) picks new → length new ≡ length picks → LinksBelow cs n (i + 1) (named ++ v ∷ []) new (put_where (names_none n c) (i + 1) bare)
links_more cs n i named picks new bare c v l at k m e = record {
  conditions = length_more named v ∙ ap (λ (z : ℕ). z + 1) l.conditions;
  named = λ j d h. elim (cases_eq j i) [
    | inl q ↦ subst (λ (z : ℕ). NamedBy (get_or cs z d) n (names_at (named ++ v ∷ []) z)) (sym q)
        (subst (λ (z : Cond). NamedBy z n (names_at (named ++ v ∷ []) i)) (sym (at d)) (subst (NamedBy c n) (sym (subst (λ (z : ℕ). names_at (named ++ v ∷ []) z ≡ v.items) l.conditions (names_last named v))) k))
    | inr ne ↦ let b : j < i = omega arith in subst (NamedBy (get_or cs j d) n) (sym (names_before named v j (omega (arith, b, l.conditions)))) (l.named j d b)
  ];
  objects = e ∙ l.objects;
  picks = λ o h. subst (NumbersOf (names o) cs (i + 1)) (sym (m o (omega (arith, h, l.objects)))) (numbers_put (names o) cs i (row picks o) (names o c) (l.picks o h) (λ d. ap (names o) (at d)));
  bare = numbers_put (names_none n) cs i bare (names_none n c) l.bare (λ d. ap (names_none n) (at d));
}

pub links_end : (cs : List Cond) (n i : ℕ) (l : Links) → i ≡ length cs → LinksBelow cs n i l.named.items l.picks.items l.bare.items → HaveRows cs l.picks.items n l.rows.items → HavePairs cs l.picks.items n l.pairs.items → HavePartners l.named.items l.pairs.items n n l.partners.items → AreLinks cs n l
links_end cs n i l e b rows pairs partners = record {
  conditions = b.conditions ∙ e;
  named = λ j d h. b.named j d (omega (arith, h, e));
  objects = b.objects;
  picks = λ o h. subst (λ (m : ℕ). NumbersOf (names o) cs m (row l.picks.items o)) e (b.picks o h);
  bare = subst (λ (m : ℕ). NumbersOf (names_none n) cs m l.bare.items) e b.bare;
  rows = rows;
  pairs = pairs;
  partners = partners;
}

-- the rows of one object more
pub have_more : (cs : List Cond) (picks : List (Vec ℕ Global)) (n : ℕ) (rows : List Rows) (r : Rows) → HaveRows cs picks n rows → AreRows cs n (row picks n) r → HaveRows cs picks (n + 1) (rows ++ r ∷ [])
have_more cs picks n rows r h one = record {
  objects = length_more rows r ∙ ap (λ (m : ℕ). m + 1) h.objects;
  each = λ o d b. elim (cases_eq o n) [
    | inl e ↦ subst (λ (v : ℕ). AreRows cs v (row picks v) (get_or (rows ++ r ∷ []) v d)) (sym e) (subst (AreRows cs n (row picks n)) (sym (get_or_push rows r d n h.objects)) one)
    | inr ne ↦ let low : o < n = omega arith in subst (AreRows cs o (row picks o)) (sym (get_or_append_left rows (r ∷ []) d o (omega (arith, low, h.objects)))) (h.each o d low)
  ];
}

-- ---- what the links say

some_of : {X : Type 0} (xs : List X) (i : ℕ) → i < length xs → X
some_of [] i h = absurd (omega arith)
some_of (x ∷ xs) i h = x

-- a number of an object is that of a list
pub number_in : (cs : List Cond) (n : ℕ) (l : Links) (u : ℕ) (numbers : List ℕ) (k : ℕ) → AreLinks cs n l → u < n → numbers ≡ row l.picks.items u → k < length numbers
    → (0 < slice_index numbers k) × (slice_index numbers k - 1 < length l.named.items) × All (λ o. o.0 < n) (names_at l.named.items (slice_index numbers k - 1))
number_in cs n l u numbers k a h e b =
    let w = pick_in (length cs) numbers k (subst (ArePicks (length cs)) (sym e) (a.picks u h).within) b in
    (w.0, omega (arith, w.1, a.conditions), (a.named (slice_index numbers k - 1) (some_of cs (slice_index numbers k - 1) w.1) w.1).below)

-- ---- lists of objects

pub among_more : (v : ℕ) (list : List ObjId) (o : ObjId) → is_among v (list ++ o ∷ []) ≡ (is_among v list || nat_eq o.0 v)
among_more v list o = list_any-append (λ (u : ObjId). nat_eq u.0 v) list (o ∷ []) ∙ ap (λ (b : Bool). is_among v list || b) (or-false (nat_eq o.0 v))

-- an object that is not among them, and not the next one
pub among_not : (v : ℕ) (list : List ObjId) (o : ObjId) → is_among v list ≡ false → (v ≡ o.0 → ⊥) → is_among v (list ++ o ∷ []) ≡ false
among_not v list o f ne = among_more v list o ∙ ap (λ (b : Bool). b || nat_eq o.0 v) f ∙ nat_eq_other o.0 v (λ e. ne (sym e))

pub or_first : (a b : Bool) → (a || b) ≡ false → a ≡ false
or_first true b h = h
or_first false b h = refl

pub or_second : (a b : Bool) → (a || b) ≡ false → b ≡ false
or_second true b h = absurd (false≢true (sym h))
or_second false b h = h

-- the condition that the j-th number of u names
abbrev pub nth : Links → ℕ → ℕ → ℕ
nth l u j = slice_index (row l.picks.items u) j - 1

-- what holds of each condition of u's numbers holds of each condition that names u
pub each_named : (P : Cond → Type 0) (cs : List Cond) (n u : ℕ) (l : Links) → AreLinks cs n l → u < n → ((j : ℕ) (d : Cond) → j < length (row l.picks.items u) → P (get_or cs (nth l u j) d)) → All (λ c. names u c ≡ true → P c) cs
each_named P cs n u l a h f m d hm nu =
    let w = index_of (suc m) (row l.picks.items u) ((a.picks u h).each m d hm ∙ nu) in
    let s : nth l u w.0 ≡ m = omega (arith, w.2) in
    subst (λ (z : ℕ). P (get_or cs z d)) s (f w.0 d w.1)
