-- Lists in which conditions are taken apart, one after another.
use Rattle.std.proofs.Common.{◌≡◌, ◌⊎◌, ℕ, zero, suc, ◌+◌, ◌-◌, ◌<◌, ◌≤◌, Bool, true, false, List, [], ◌∷◌, ◌++◌, length, get_or, replicate, refl, sym, ap, ◌∙◌, subst, inl, inr, arith, Option, Some, None, cond}
use borrow.Author.Tests.{le-leb, lt-leb}
use Rattle.std.specs.Prelude.{slice_get, slice_index}
use Rattle.std.proofs.lemmas.Bool.{cases_Bool, cases_lt, false≢true}
use Rattle.std.proofs.lemmas.List.{length-append, append-nil, get_or_append_left, get_or-append_right, get_or-replicate, length-replicate}
use Rattle.std.proofs.lemmas.List.{get_or_past}
use Rattle.std.proofs.lemmas.Option.{slice_get_within}
use Rattle.std.proofs.lemmas.List.Elements.{All-append, All-cons, All-nil, All-get_or}
use Rattle.geo_conditions.specs.declared.cond.Cond.{Cond}
use Rattle.geo_conditions.specs.Reach.{State}
use Rattle.geo_conditions.specs.Conditions.{possible, FitsIn}
use Rattle.geo_conditions.specs.Supported.{NoneRefuted}
use Rattle.geo_conditions.proofs.Defaults.{any_default}
use Rattle.derivation.specs.declared.renumbering.Renumbering.{Renumbering}
use Rattle.derivation.specs.Covers.{refutes, is_refuted}
use Rattle.derivation.specs.Renumbered.{number_for, StandsFor}
use Rattle.derivation.proofs.Refuting.{refutes_at, refutes_within, some_refuted}
use Rattle.geo_state.specs.Settle.{IsBare}
use Rattle.condition_parts.specs.Parts.{IsAllOf}
use Rattle.condition_parts.specs.Apart.{whole_or, wholes_of, IsApart, IsTakenApart}
use Rattle.condition_parts.proofs.Under.{all_left, all_right}

none_refutes : (k : ℕ) (S : State) → refutes [] k S ≡ true → ⊥
none_refutes zero S h = absurd (false≢true h)
none_refutes (suc k) S h = let w = refutes_within [] (suc k) S h in omega (arith, w)

-- nothing is made of no conditions
pub apart_nothing : IsApart [] [] [] [] []
apart_nothing = record {
  long = refl;
  wide = refl;
  back = refl;
  many = refl;
  listed = λ k h. absurd (omega (arith, h));
  front = λ k S e. e;
  behind = λ k S e. absurd (none_refutes k S e);
  enough = λ S f r. f;
  fit = λ S f. (f, f);
  bare = λ k c e b. e;
}

nones_whole : (cs : List Cond) → wholes_of (replicate (length cs) None) cs ≡ cs
nones_whole [] = refl
nones_whole (c ∷ cs) = ap (λ (ds : List Cond). c ∷ ds) (nones_whole cs)

-- of conditions that stay whole nothing is taken apart
pub apart_nowhere : (cs : List Cond) → IsApart cs cs [] (replicate (length cs) None) []
apart_nowhere cs = record {
  long = refl;
  wide = length-replicate (length cs) None;
  back = nones_whole cs;
  many = refl;
  listed = λ k h. absurd (omega (arith, h));
  front = λ k S e. e;
  behind = λ k S e. absurd (none_refutes k S e);
  enough = λ S f r. f;
  fit = λ S f. (f, All-nil (λ c. FitsIn c S));
  bare = λ k c e b. e;
}

-- ---- conditions of two lists, one behind the other

get_split : (xs ys : List Cond) (k : ℕ) → ((k < length xs) × (slice_get (xs ++ ys) k ≡ slice_get xs k)) ⊎ ((length xs ≤ k) × (slice_get (xs ++ ys) k ≡ slice_get ys (k - length xs)))
get_split [] ys k = inr (omega arith, ap (slice_get ys) (let e : k ≡ k - 0 = omega arith in e))
get_split (x ∷ xs) ys zero = inl (omega arith, refl)
get_split (x ∷ xs) ys (suc k) = elim (get_split xs ys k) [
  | inl h ↦ inl (omega (arith, h.0), h.1)
  | inr h ↦ inr (omega (arith, h.0), h.1 ∙ ap (slice_get ys) (let e : k - length xs ≡ suc k - length (x ∷ xs) = omega arith in e))
]

some_number : (cs : List Cond) (i : ℕ) (S : State) → refutes cs i S ≡ true → 0 < i
some_number cs zero S h = absurd (false≢true h)
some_number cs (suc i) S h = omega arith

refutes_split : (xs ys : List Cond) (i : ℕ) (S : State) → refutes (xs ++ ys) i S ≡ true → ((i ≤ length xs) × (refutes xs i S ≡ true)) ⊎ ((length xs < i) × (refutes ys (i - length xs) S ≡ true))
refutes_split xs ys zero S h = absurd (false≢true h)
refutes_split xs ys (suc i) S h = elim (get_split xs ys i) [
  | inl k ↦ inl (omega (arith, k.0), ap (λ (c : Option Cond). is_refuted c S) (sym k.1) ∙ h)
  | inr k ↦ inr (omega (arith, k.0), subst (λ (n : ℕ). refutes ys n S ≡ true) (let e : suc (i - length xs) ≡ suc i - length xs = omega (arith, k.0) in e) (ap (λ (c : Option Cond). is_refuted c S) (sym k.1) ∙ h))
]

refutes_more : (xs ys : List Cond) (i : ℕ) (S : State) → refutes xs i S ≡ true → refutes (xs ++ ys) i S ≡ true
refutes_more xs ys zero S h = absurd (false≢true h)
refutes_more xs ys (suc i) S h = elim (get_split xs ys i) [
  | inl k ↦ ap (λ (c : Option Cond). is_refuted c S) k.1 ∙ h
  | inr k ↦ let w : suc i ≤ length xs = refutes_within xs (suc i) S h in absurd (omega (arith, k.0, w))
]

-- the last condition, which is refuted
refutes_last : (xs : List Cond) (x : Cond) (i : ℕ) (S : State) → i ≡ length xs + 1 → possible x S ≡ false → refutes (xs ++ x ∷ []) i S ≡ true
refutes_last xs x i S e h = subst (λ (n : ℕ). refutes (xs ++ x ∷ []) n S ≡ true) (sym e)
    (refutes_at (xs ++ x ∷ []) (length xs) x S (let l = length-append xs (x ∷ []) in omega (arith, l)) (sym (get_or-append_right xs (x ∷ []) (length xs) (length xs) x refl (omega arith) ∙ ap (λ (n : ℕ). get_or (x ∷ []) n x) (let z : length xs - length xs ≡ 0 = omega arith in z))) h)

one_refuted : (x : Cond) (i : ℕ) (S : State) → refutes (x ∷ []) i S ≡ true → (i ≡ 1) × (possible x S ≡ false)
one_refuted x i S h = (
  (let w : i ≤ length (x ∷ []) = refutes_within (x ∷ []) i S h in let s : 0 < i = some_number (x ∷ []) i S h in omega (arith, w, s)),
  elim (cases_Bool (possible x S)) [
    | inl e ↦ absurd (some_refuted (x ∷ []) i S h (All-cons (λ c. possible c S ≡ true) x [] e (All-nil (λ c. possible c S ≡ true))))
    | inr e ↦ e
  ],
)

-- a condition of whose parts one is refuted
part_refuted : (x : Cond) (parts ys : List Cond) (i : ℕ) (S : State) → IsAllOf x parts → (NoneRefuted parts S → NoneRefuted ys S) → refutes ys i S ≡ true → possible x S ≡ false
part_refuted x parts ys i S a some h = elim (cases_Bool (possible x S)) [
  | inl e ↦ absurd (some_refuted ys i S h (some (a.needed S e)))
  | inr e ↦ e
]

-- ---- one condition more

-- the one of a list of one
only_one : (x c : Cond) (i : ℕ) → slice_get (x ∷ []) i ≡ Some c → c ≡ x
only_one x c zero e = let f : Some x ≡ Some c = e in cc
only_one x c (suc i) e = let f : None ≡ Some c = e in cc

wholes_more : (ws : List (Option Cond)) (ps : List Cond) (w : Option Cond) (p : Cond) → length ws ≡ length ps → wholes_of (ws ++ w ∷ []) (ps ++ p ∷ []) ≡ wholes_of ws ps ++ whole_or w p ∷ []
wholes_more [] [] w p e = refl
wholes_more [] (q ∷ ps) w p e = absurd (omega (arith, e))
wholes_more (v ∷ ws) [] w p e = absurd (omega (arith, e))
wholes_more (v ∷ ws) (q ∷ ps) w p e = ap (λ (cs : List Cond). whole_or v q ∷ cs) (wholes_more ws ps w p (omega (arith, e)))

module _ (cs fronts rest : List Cond) (ws : List (Option Cond)) (numbers : List ℕ) (a : IsApart cs fronts rest ws numbers) where
  front_more : (x p : Cond) (k : ℕ) (S : State) → (possible p S ≡ false → possible x S ≡ false) → refutes (fronts ++ p ∷ []) k S ≡ true → refutes (cs ++ x ∷ []) k S ≡ true
  front_more x p k S f h = elim (refutes_split fronts (p ∷ []) k S h) [
    | inl r ↦ refutes_more cs (x ∷ []) k S (a.front k S r.1)
    | inr r ↦
        let one = one_refuted p (k - length fronts) S r.1 in
        refutes_last cs x k S (omega (arith, one.0, r.0, a.long)) (f one.1)
  ]

  -- it stands whole
  pub apart_whole : (x : Cond) → IsApart (cs ++ x ∷ []) (fronts ++ x ∷ []) rest (ws ++ None ∷ []) numbers
  apart_whole x =
      let one_front = length-append fronts (x ∷ []) in
      let one_more = length-append cs (x ∷ []) in
      let one_whole : length (ws ++ None ∷ []) ≡ length ws + 1 = length-append ws (None ∷ []) in
      record {
        long = omega (arith, a.long, one_front, one_more);
        wide = omega (arith, a.wide, one_whole, one_more);
        back = wholes_more ws fronts None x (a.wide ∙ sym a.long) ∙ ap (λ (ys : List Cond). ys ++ x ∷ []) a.back;
        many = a.many;
        listed = λ k l. let w = a.listed k l in omega (arith, w, one_more);
        front = λ k S h. front_more x x k S (λ e. e) h;
        behind = λ k S h. refutes_more cs (x ∷ []) (slice_index numbers (k - 1)) S (a.behind k S h);
        enough = λ S f r. All-append (λ c. possible c S ≡ true) cs (x ∷ []) (a.enough S (all_left (λ c. possible c S ≡ true) fronts (x ∷ []) f) r) (all_right (λ c. possible c S ≡ true) fronts (x ∷ []) f);
        fit = λ S f.
            let old = a.fit S (all_left (λ c. FitsIn c S) cs (x ∷ []) f) in
            (All-append (λ c. FitsIn c S) fronts (x ∷ []) old.0 (all_right (λ c. FitsIn c S) cs (x ∷ []) f), old.1);
        bare = λ k c e b. elim (get_split cs (x ∷ []) k) [
          | inl h ↦ elim (get_split fronts (x ∷ []) k) [
            | inl g ↦ g.1 ∙ a.bare k c (sym h.1 ∙ e) b
            | inr g ↦ absurd (omega (arith, h.0, g.0, a.long))
          ]
          | inr h ↦ elim (get_split fronts (x ∷ []) k) [
            | inl g ↦ absurd (omega (arith, h.0, g.0, a.long))
            | inr g ↦ g.1 ∙ ap (λ (n : ℕ). slice_get (x ∷ []) (k - n)) a.long ∙ sym h.1 ∙ e
          ]
        ];
      }

  -- or it is taken apart
  pub apart_parts : (x p : Cond) (more : List Cond) (number : ℕ) → number ≡ length cs + 1 → IsAllOf x (more ++ p ∷ []) → (IsBare x → ⊥)
      → IsApart (cs ++ x ∷ []) (fronts ++ p ∷ []) (rest ++ more) (ws ++ Some x ∷ []) (numbers ++ replicate (length more) number)
  apart_parts x p more number is all named =
      let one_front = length-append fronts (p ∷ []) in
      let one_more = length-append cs (x ∷ []) in
      let one_whole : length (ws ++ Some x ∷ []) ≡ length ws + 1 = length-append ws (Some x ∷ []) in
      let rest_more = length-append rest more in
      let numbers_more = length-append numbers (replicate (length more) number) in
      let copies = length-replicate (length more) number in
      let own : (S : State) → NoneRefuted (more ++ p ∷ []) S → NoneRefuted (p ∷ []) S = λ S h. all_right (λ c. possible c S ≡ true) more (p ∷ []) h in
      let others : (S : State) → NoneRefuted (more ++ p ∷ []) S → NoneRefuted more S = λ S h. all_left (λ c. possible c S ≡ true) more (p ∷ []) h in
      let old_number : (k : ℕ) → k < length numbers → slice_index (numbers ++ replicate (length more) number) k ≡ slice_index numbers k = λ k l. get_or_append_left numbers (replicate (length more) number) 0 k l in
      let new_number : (k : ℕ) → length numbers ≤ k → k < length numbers + length more → slice_index (numbers ++ replicate (length more) number) k ≡ number =
      λ k l u. get_or-append_right numbers (replicate (length more) number) (length numbers) k 0 refl l ∙ get_or-replicate (length more) (k - length numbers) number 0 (omega (arith, l, u)) in
      record {
        long = omega (arith, a.long, one_front, one_more);
        wide = omega (arith, a.wide, one_whole, one_more);
        back = wholes_more ws fronts (Some x) p (a.wide ∙ sym a.long) ∙ ap (λ (ys : List Cond). ys ++ x ∷ []) a.back;
        many = omega (arith, a.many, rest_more, numbers_more, copies);
        listed = λ k l. elim (cases_lt k (length numbers)) [
          | inl h ↦ let w = a.listed k h in let e = old_number k h in omega (arith, w, e, one_more)
          | inr h ↦ let e = new_number k h (omega (arith, l, numbers_more, copies)) in omega (arith, e, is, one_more)
        ];
        front = λ k S h. front_more x p k S (λ e. part_refuted x (more ++ p ∷ []) (p ∷ []) 1 S all (own S) (refutes_at (p ∷ []) 0 p S (omega arith) refl e)) h;
        behind = λ k S h. elim (refutes_split rest more k S h) [
          | inl r ↦
              let some : 0 < k = some_number rest k S r.1 in
              let e : slice_index (numbers ++ replicate (length more) number) (k - 1) ≡ slice_index numbers (k - 1) = old_number (k - 1) (omega (arith, r.0, some, a.many)) in
              subst (λ (n : ℕ). refutes (cs ++ x ∷ []) n S ≡ true) (sym e) (refutes_more cs (x ∷ []) (slice_index numbers (k - 1)) S (a.behind k S r.1))
          | inr r ↦
              let few : k - length rest ≤ length more = refutes_within more (k - length rest) S r.1 in
              let e : slice_index (numbers ++ replicate (length more) number) (k - 1) ≡ number = new_number (k - 1) (omega (arith, r.0, a.many)) (omega (arith, r.0, few, a.many)) in
              refutes_last cs x (slice_index (numbers ++ replicate (length more) number) (k - 1)) S (e ∙ is) (part_refuted x (more ++ p ∷ []) more (k - length rest) S all (others S) r.1)
        ];
        enough = λ S f r. All-append (λ c. possible c S ≡ true) cs (x ∷ [])
            (a.enough S (all_left (λ c. possible c S ≡ true) fronts (p ∷ []) f) (all_left (λ c. possible c S ≡ true) rest more r))
            (All-cons (λ c. possible c S ≡ true) x [] (all.enough S (All-append (λ c. possible c S ≡ true) more (p ∷ []) (all_right (λ c. possible c S ≡ true) rest more r) (all_right (λ c. possible c S ≡ true) fronts (p ∷ []) f))) (All-nil (λ c. possible c S ≡ true)));
        fit = λ S f.
            let old = a.fit S (all_left (λ c. FitsIn c S) cs (x ∷ []) f) in
            let new = all.fit S (All-get_or (λ c. FitsIn c S) (x ∷ []) 0 x (omega arith) (all_right (λ c. FitsIn c S) cs (x ∷ []) f)) in
            (All-append (λ c. FitsIn c S) fronts (p ∷ []) old.0 (all_right (λ c. FitsIn c S) more (p ∷ []) new), All-append (λ c. FitsIn c S) rest more old.1 (all_left (λ c. FitsIn c S) more (p ∷ []) new));
        bare = λ k c e b. elim (get_split cs (x ∷ []) k) [
          | inl h ↦ elim (get_split fronts (p ∷ []) k) [
            | inl g ↦ g.1 ∙ a.bare k c (sym h.1 ∙ e) b
            | inr g ↦ absurd (omega (arith, h.0, g.0, a.long))
          ]
          | inr h ↦ absurd (named (subst IsBare (only_one x c (k - length cs) (sym h.1 ∙ e)) b))
        ];
      }

-- ---- all of them

pub apart_none : IsApart [] [] [] [] []
apart_none = record {
  long = refl;
  wide = refl;
  back = refl;
  many = refl;
  listed = λ k l. absurd (omega (arith, l));
  front = λ k S h. h;
  behind = λ k S h. let w : k ≤ 0 = refutes_within [] k S h in let s : 0 < k = some_number [] k S h in absurd (omega (arith, w, s));
  enough = λ S f r. f;
  fit = λ S f. (f, f);
  bare = λ k c e b. e;
}

pub number_same : (r : Renumbering) (i : ℕ) → i ≤ r.same → number_for r i ≡ i
number_same r i h = ap (λ (b : Bool). cond b i (get_or r.others.items (i - r.same - 1) i)) (le-leb i r.same h)

number_other : (r : Renumbering) (i : ℕ) → r.same < i → number_for r i ≡ get_or r.others.items (i - r.same - 1) i
number_other r i h = ap (λ (b : Bool). cond b i (get_or r.others.items (i - r.same - 1) i)) (lt-leb i r.same h)

module _ (cs fronts rest : List Cond) (ws : List (Option Cond)) (r : Renumbering) (a : IsApart cs fronts rest ws r.others.items) (same : r.same ≡ length cs) where
  refuted_all : (i : ℕ) (S : State) → refutes (fronts ++ rest) i S ≡ true → refutes cs (number_for r i) S ≡ true
  refuted_all i S h = elim (refutes_split fronts rest i S h) [
    | inl k ↦ subst (λ (n : ℕ). refutes cs n S ≡ true) (sym (number_same r i (omega (arith, k.0, same, a.long)))) (a.front i S k.1)
    | inr k ↦
        let few : i - length fronts ≤ length rest = refutes_within rest (i - length fronts) S k.1 in
        let at : i - length fronts - 1 ≡ i - r.same - 1 = omega (arith, same, a.long) in
        subst (λ (n : ℕ). refutes cs n S ≡ true)
        (ap (slice_index r.others.items) at ∙ any_default r.others.items (i - r.same - 1) 0 i (omega (arith, k.0, few, same, a.long, a.many)) ∙ sym (number_other r i (omega (arith, k.0, same, a.long))))
        (a.behind (i - length fronts) S k.1)
  ]

  -- a number behind the others is that of a condition, or there is none behind them
  number_within : (i : ℕ) → i ≤ length (fronts ++ rest) → number_for r i ≤ length cs
  number_within i h = elim (cases_lt r.same i) [
    | inl k ↦
        let all = length-append fronts rest in
        let there : i - r.same - 1 < length r.others.items = omega (arith, h, k, all, same, a.long, a.many) in
        let e : number_for r i ≡ slice_index r.others.items (i - r.same - 1) = number_other r i k ∙ any_default r.others.items (i - r.same - 1) i 0 there in
        let w = a.listed (i - r.same - 1) there in
        omega (arith, e, w)
    | inr k ↦ let e = number_same r i k in omega (arith, e, k, same)
  ]

  pub stands_all : StandsFor r (fronts ++ rest) cs
  stands_all = record {
    refuted = refuted_all;
    listed = number_within;
    first = λ none.
        let all = length-append fronts rest in
        number_other r 1 (omega (arith, none, all, same, a.long)) ∙ get_or_past r.others.items (1 - r.same - 1) 1 (omega (arith, none, all, a.many));
  }

  -- more behind the fronts are not seen
  wholes_front : (vs : List (Option Cond)) (ps qs : List Cond) → length vs ≡ length ps → wholes_of vs (ps ++ qs) ≡ wholes_of vs ps
  wholes_front [] ps qs e = refl
  wholes_front (v ∷ vs) [] qs e = absurd (omega (arith, e))
  wholes_front (v ∷ vs) (p ∷ ps) qs e = ap (λ (ds : List Cond). whole_or v p ∷ ds) (wholes_front vs ps qs (omega (arith, e)))

  pub back_all : wholes_of ws (fronts ++ rest) ≡ cs
  back_all = wholes_front ws fronts rest (a.wide ∙ sym a.long) ∙ a.back

  pub apart_all : IsTakenApart cs (fronts ++ rest) r
  apart_all = record {
    same = same;
    stands = stands_all;
    enough = λ S h. a.enough S (all_left (λ c. possible c S ≡ true) fronts rest h) (all_right (λ c. possible c S ≡ true) fronts rest h);
    fit = λ S h. let f = a.fit S h in All-append (λ c. FitsIn c S) fronts rest f.0 f.1;
    bare = λ k c e b.
        let there : k < length cs = slice_get_within cs k c e in
        elim (get_split fronts rest k) [
          | inl g ↦ g.1 ∙ a.bare k c e b
          | inr g ↦ absurd (omega (arith, there, g.0, a.long))
        ];
  }

-- ---- a list of which nothing is taken apart

module _ (cs : List Cond) (r : Renumbering) (same : r.same ≡ length cs) (none : r.others.items ≡ []) where
  nothing_apart : IsApart cs cs [] (replicate (length cs) None) r.others.items
  nothing_apart = subst (λ (ns : List ℕ). IsApart cs cs [] (replicate (length cs) None) ns) (sym none) (apart_nowhere cs)

  pub whole_all : IsTakenApart cs cs r
  whole_all = subst (λ (ps : List Cond). IsTakenApart cs ps r) (append-nil cs) (apart_all cs cs [] (replicate (length cs) None) r nothing_apart same)

pub whole_back : (cs : List Cond) (ws : List (Option Cond)) (n : ℕ) → ws ≡ replicate n None → n ≡ length cs → wholes_of ws cs ≡ cs
whole_back cs ws n e same = ap (λ (vs : List (Option Cond)). wholes_of vs cs) (e ∙ ap (λ (m : ℕ). replicate m None) same) ∙ nones_whole cs
