-- The rules that are left refuse together, and none of them can be left out.
use Rattle.std.proofs.Common.{◌≡◌, ◌⊎◌, ◌<◌, ◌≤◌, ◌+◌, ◌-◌, ◌==◌, ℕ, zero, suc, Bool, true, false, not, List, [], ◌∷◌, ◌++◌, length, get_or, cond, refl, sym, subst, ap, ◌∙◌, arith, inl, inr, append-nil}
use Rattle.std.specs.List.{range_with_len, filter, Contains}
use Rattle.std.proofs.Math.Logic.{⊎_elim}
use Rattle.std.proofs.lemmas.Bool.{cases_lt, cases_Bool}
use Rattle.std.proofs.lemmas.List.{length-append, get_or_append_left, get_or_push, get_or_default}
use Rattle.geo_base.specs.Tuple.{Tuple}
use Rattle.problem_data.specs.Problem.{ProblemData}
use Rattle.problem_data.specs.Layouts.{IsLayout}
use Rattle.problem_data.specs.WellFormed.{IsWellFormed}
use Rattle.problem_data.specs.SomeRules.{AreRules, with_rules, all_rules}
use Rattle.problem_data.proofs.SomeRules.{with_all}
use Rattle.layout_search.specs.FirstLayout.{HasNoLayout}
use Rattle.fewer_rules.proofs.Truth.{tuple_to}
use Rattle.fewer_rules.proofs.Layouts.{fewer_hold}
use Rattle.geo_core.specs.Cores.{RoundFinds, RoundEnds, without, Tries}
use Rattle.geo_core.specs.Refusing.{IsCore}
use Rattle.geo_core.proofs.LeftOut.{AllBelow, without_between, below_more, below_last, rules_left}
use Rattle.geo_core.proofs.Tuples.{some_tuple}

-- ---- what a filter keeps

in_more : (b : Bool) (x y : ℕ) (xs : List ℕ) → Contains xs x → Contains (cond b (y ∷ xs) xs) x
in_more true x y xs h = (suc h.0, (let l = h.1 in omega (arith, l)), h.2)
in_more false x y xs h = h

first_in : (f : ℕ → Bool) (b : Bool) (x y : ℕ) (xs : List ℕ) → f y ≡ b → f x ≡ true → y ≡ x → Contains (cond b (y ∷ xs) xs) x
first_in f true x y xs g e is = (0, omega arith, is)
first_in f false x y xs g e is = absurd (let z : false ≡ true = sym g ∙ ap f is ∙ e in cc)

in_filter : (f : ℕ → Bool) (x : ℕ) (xs : List ℕ) → Contains xs x → f x ≡ true → Contains (filter f xs) x
in_filter f x [] (k, l, is) e = absurd (omega (arith, l))
in_filter f x (y ∷ xs) (zero, l, is) e = first_in f (f y) x y (filter f xs) refl e is
in_filter f x (y ∷ xs) (suc k, l, is) e = in_more (f y) x y (filter f xs) (in_filter f x xs (k, omega (arith, l), is) e)

from_more : (f : ℕ → Bool) (b : Bool) (x y : ℕ) (xs ys : List ℕ) → f y ≡ b → (Contains ys x → Contains xs x × (f x ≡ true)) → Contains (cond b (y ∷ ys) ys) x → Contains (y ∷ xs) x × (f x ≡ true)
from_more f true x y xs ys g rest (zero, l, is) = ((0, omega arith, is), ap f (sym is) ∙ g)
from_more f true x y xs ys g rest (suc k, l, is) = (let h = rest (k, omega (arith, l), is) in (in_more true x y xs h.0, h.1))
from_more f false x y xs ys g rest c = (let h = rest c in (in_more true x y xs h.0, h.1))

from_filter : (f : ℕ → Bool) (x : ℕ) (xs : List ℕ) → Contains (filter f xs) x → Contains xs x × (f x ≡ true)
from_filter f x [] (k, l, is) = absurd (omega (arith, l))
from_filter f x (y ∷ xs) c = from_more f (f y) x y xs (filter f xs) refl (λ h. from_filter f x xs h) c

-- with more left out, no rule is there that was not before
still_among : (x z n : ℕ) (Q : List ℕ) → Contains (without x (without z Q)) n → Contains (without x Q) n
still_among x z n Q c =
    let a = from_filter _ n (without z Q) c in
    let b = from_filter _ n Q a.0 in
    in_filter _ n Q b.0 a.1

-- ---- the rules that were left out in turn

module _ (p : ProblemData) (n : ℕ) where
  abbrev pub m : ℕ
  m = length p.rules

  -- behind i rounds: those that stay, with a layout without each of them, and those to come
  record Tried (i : ℕ) (R : List ℕ) (ts : List Tuple) : Type 0 where
    kept : List ℕ
    is : R ≡ kept ++ range_with_len (i + 1) (m - i)
    below : AllBelow kept (i + 1)
    alike : length ts ≡ length kept
    each : (k : ℕ) → k < length kept → IsLayout (with_rules p (without (get_or kept k 0) R)) (get_or ts k [])

  left_out : (i : ℕ) (Q R : List ℕ) (us ts : List Tuple) → i < m → Tried i Q us → R ≡ without (suc i) Q → ts ≡ us → Tried (suc i) R ts
  left_out i Q R us ts l h e f =
      let more : m - i ≡ suc (m - suc i) = omega (arith, l) in
      let here : suc i ≡ i + 1 = omega arith in
      record {
        kept = h.kept;
        is = e ∙ ap (without (suc i)) (h.is ∙ (λ j. h.kept ++ range_with_len (sym here j) (more j))) ∙ without_between (suc i) (m - suc i) h.kept (subst (AllBelow h.kept) (sym here) h.below);
        below = subst (λ (j : ℕ). AllBelow h.kept (j + 1)) (sym here) (below_more h.kept (i + 1) h.below);
        alike = ap (λ (us : List Tuple). length us) f ∙ h.alike;
        each = λ k less. subst (λ (S : List ℕ). IsLayout (with_rules p (without (get_or h.kept k 0) S)) (get_or ts k [])) (sym e)
            (subst (λ (vs : List Tuple). IsLayout (with_rules p (without (get_or h.kept k 0) (without (suc i) Q))) (get_or vs k [])) (sym f)
            (fewer_hold p (without (get_or h.kept k 0) Q) (without (get_or h.kept k 0) (without (suc i) Q)) (λ x c. still_among (get_or h.kept k 0) (suc i) x Q c) (get_or us k []) (h.each k less)));
      }

  stays : (i : ℕ) (Q R : List ℕ) (us ts : List Tuple) (t : Tuple) → i < m → Tried i Q us → IsLayout (with_rules p (without (suc i) Q)) t → R ≡ Q → ts ≡ us ++ t ∷ [] → Tried (suc i) R ts
  stays i Q R us ts t l h found e f =
      let more : m - i ≡ suc (m - suc i) = omega (arith, l) in
      let here : suc i ≡ i + 1 = omega arith in
      record {
        kept = h.kept ++ suc i ∷ [];
        is = e ∙ h.is ∙ (λ j. h.kept ++ range_with_len (sym here j) (more j)) ∙ sym (appended h.kept (suc i) (m - suc i));
        below = below_last h.kept (suc i) (subst (AllBelow h.kept) (sym here) h.below);
        alike = ap (λ (us : List Tuple). length us) f ∙ length-append us (t ∷ []) ∙ (let a = h.alike in let b = length-append h.kept (suc i ∷ []) in omega (arith, a, b));
        each = λ k less. subst (λ (S : List ℕ). IsLayout (with_rules p (without (get_or (h.kept ++ suc i ∷ []) k 0) S)) (get_or ts k [])) (sym e)
            (subst (λ (vs : List Tuple). IsLayout (with_rules p (without (get_or (h.kept ++ suc i ∷ []) k 0) Q)) (get_or vs k [])) (sym f) (at k less (cases_lt k (length h.kept))));
      }
    where
      appended : (ks : List ℕ) (k c : ℕ) → (ks ++ k ∷ []) ++ range_with_len (k + 1) c ≡ ks ++ range_with_len k (suc c)
      appended [] k c = refl
      appended (x ∷ ks) k c = ap (λ (xs : List ℕ). x ∷ xs) (appended ks k c)

      at : (k : ℕ) → k < length (h.kept ++ suc i ∷ []) → (k < length h.kept) ⊎ (length h.kept ≤ k) → IsLayout (with_rules p (without (get_or (h.kept ++ suc i ∷ []) k 0) Q)) (get_or (us ++ t ∷ []) k [])
      at k less (inl inside) =
          let a : get_or (h.kept ++ suc i ∷ []) k 0 ≡ get_or h.kept k 0 = get_or_append_left h.kept (suc i ∷ []) 0 k inside in
          let b : get_or (us ++ t ∷ []) k [] ≡ get_or us k [] = get_or_append_left us (t ∷ []) [] k (let g = h.alike in omega (arith, inside, g)) in
          subst (λ (x : ℕ). IsLayout (with_rules p (without x Q)) (get_or (us ++ t ∷ []) k [])) (sym a)
          (subst (λ (u : Tuple). IsLayout (with_rules p (without (get_or h.kept k 0) Q)) u) (sym b) (h.each k inside))
      at k less (inr past) =
          let same : length h.kept ≡ k = (let g = length-append h.kept (suc i ∷ []) in omega (arith, past, less, g)) in
          let a : get_or (h.kept ++ suc i ∷ []) k 0 ≡ suc i = get_or_push h.kept (suc i) 0 k same in
          let b : get_or (us ++ t ∷ []) k [] ≡ t = get_or_push us t [] k (h.alike ∙ same) in
          subst (λ (x : ℕ). IsLayout (with_rules p (without x Q)) (get_or (us ++ t ∷ []) k [])) (sym a)
          (subst (λ (u : Tuple). IsLayout (with_rules p (without (suc i) Q)) u) (sym b) found)

  tried : (i : ℕ) (R : List ℕ) (ts : List Tuple) → Tries p n i R ts → Tried i R ts
  tried zero R ts (e, f, ends) = record {
    kept = [];
    is = e ∙ (let none : m ≡ m - 0 = omega arith in ap (λ (c : ℕ). range_with_len 1 c) none);
    below = tt;
    alike = ap (λ (us : List Tuple). length us) f;
    each = λ k l. absurd (omega (arith, l));
  }
  tried (suc i) R ts (Q, us, before, l, inl (e, f, ends)) = left_out i Q R us ts l (tried i Q us before) e f
  tried (suc i) R ts (Q, us, before, l, inr (t, finds, e, f)) = stays i Q R us ts t l (tried i Q us before) finds.first.layout e f

  -- there is no layout under the rules left
  none_left : (i : ℕ) (R : List ℕ) (ts : List Tuple) → Tries p n i R ts → HasNoLayout (with_rules p R)
  none_left zero R ts (e, f, ends) = subst (λ (q : ProblemData). HasNoLayout q) (sym (ap (with_rules p) e ∙ with_all p)) ends.none
  none_left (suc i) R ts (Q, us, before, l, inl (e, f, ends)) = subst (λ (S : List ℕ). HasNoLayout (with_rules p S)) (sym e) ends.none
  none_left (suc i) R ts (Q, us, before, l, inr (t, finds, e, f)) = subst (λ (S : List ℕ). HasNoLayout (with_rules p S)) (sym e) (none_left i Q us before)

  -- a problem without rules has one
  some_left : IsWellFormed p → (R : List ℕ) → HasNoLayout (with_rules p R) → 0 < length R
  some_left well [] none =
      let t = some_tuple p well in
      absurd (none t.0 (record { tuple = tuple_to p [] t.0 t.1; rules = λ k d l. absurd (omega (arith, l)) }))
  some_left well (x ∷ R) none = omega arith

  pub core_is : IsWellFormed p → (R : List ℕ) (ts : List Tuple) → Tries p n m R ts → IsCore p R ts
  core_is well R ts h =
      let x = tried m R ts h in
      let none : m - m ≡ 0 = omega arith in
      let all : R ≡ x.kept = x.is ∙ ap (λ (c : ℕ). x.kept ++ range_with_len (m + 1) c) none ∙ append-nil x.kept in
      record {
        rules = rules_left p n m R ts h;
        some = some_left well R (none_left m R ts h);
        refuses = none_left m R ts h;
        alike = x.alike ∙ ap (λ (S : List ℕ). length S) (sym all);
        each = λ k l. subst (λ (S : List ℕ). IsLayout (with_rules p (without (get_or S k 0) R)) (get_or ts k [])) (sym all) (x.each k (subst (λ (S : List ℕ). k < length S) all l));
      }
