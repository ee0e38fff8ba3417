-- Leaving one rule out after another: the rules kept stand before those that were not looked at.
use Rattle.std.proofs.Common.{◌≡◌, ◌<◌, ◌≤◌, ◌+◌, ◌-◌, ◌==◌, ℕ, zero, suc, Bool, true, false, not, List, [], ◌∷◌, ◌++◌, length, cond, if◌then◌else◌, refl, sym, subst, ap, ◌∙◌, arith, inl, inr, append_assoc}
use Rattle.std.specs.List.{range_with_len, filter, Contains}
use Rattle.std.proofs.lemmas.Bool.{eq-eqb, cases_Bool}
use Rattle.geo_base.specs.Tuple.{Tuple}
use Rattle.problem_data.specs.Problem.{ProblemData}
use Rattle.problem_data.specs.SomeRules.{AreRules, with_rules, all_rules}
use Rattle.problem_data.proofs.SomeRules.{all_are_rules}
use Rattle.fewer_rules.proofs.Parts.{Above, AtMost, above_less, rules_from, rules_above, rules_most}
use Rattle.geo_core.specs.Cores.{RoundFinds, RoundEnds, RoundSpends, without, Tries, SpendsBehind}

-- all are below a number
abbrev pub AllBelow : List ℕ → ℕ → Type 0
AllBelow [] n = Unit {0}
AllBelow (x ∷ xs) n = (x < n) × AllBelow xs n

other_number : (x i : ℕ) → (x ≡ i → ⊥) → (x == i) ≡ false
other_number x i n = grind (arith, n)

kept_one : (i x : ℕ) (xs : List ℕ) → (x ≡ i → ⊥) → without i (x ∷ xs) ≡ x ∷ without i xs
kept_one i x xs n = ap (λ (b : Bool). if not b then x ∷ without i xs else without i xs) (other_number x i n)

dropped_one : (i : ℕ) (xs : List ℕ) → without i (i ∷ xs) ≡ without i xs
dropped_one i xs = ap (λ (b : Bool). if not b then i ∷ without i xs else without i xs) (eq-eqb i i refl)

-- numbers from one on, above i, stay
range_stays : (i from n : ℕ) → i < from → without i (range_with_len from n) ≡ range_with_len from n
range_stays i from zero l = refl
range_stays i from (suc n) l = kept_one i from (range_with_len (from + 1) n) (λ e. omega (arith, l, e)) ∙ ap (λ (xs : List ℕ). from ∷ xs) (range_stays i (from + 1) n (omega (arith, l)))

-- without i, between the rules kept before it and those behind it
pub without_between : (i n : ℕ) (kept : List ℕ) → AllBelow kept i → without i (kept ++ range_with_len i (suc n)) ≡ kept ++ range_with_len (i + 1) n
without_between i n [] b = dropped_one i (range_with_len (i + 1) n) ∙ range_stays i (i + 1) n (omega arith)
without_between i n (x ∷ kept) (l, b) = kept_one i x (kept ++ range_with_len i (suc n)) (λ e. omega (arith, l, e)) ∙ ap (λ (xs : List ℕ). x ∷ xs) (without_between i n kept b)

pub below_more : (kept : List ℕ) (i : ℕ) → AllBelow kept i → AllBelow kept (i + 1)
below_more [] i b = tt
below_more (x ∷ kept) i (l, b) = (omega (arith, l), below_more kept i b)

pub below_last : (kept : List ℕ) (i : ℕ) → AllBelow kept i → AllBelow (kept ++ i ∷ []) (i + 1)
below_last [] i b = (omega arith, tt)
below_last (x ∷ kept) i (l, b) = (omega (arith, l), below_last kept i b)

-- ---- ranges

pub range_last : (from n : ℕ) → range_with_len from n ++ (from + n) ∷ [] ≡ range_with_len from (suc n)
range_last from zero = let e : from + 0 ≡ from = omega arith in ap (λ (k : ℕ). k ∷ []) e
range_last from (suc n) =
    let e : from + suc n ≡ (from + 1) + n = omega arith in
    ap (λ (k : ℕ). from ∷ (range_with_len (from + 1) n ++ k ∷ [])) e ∙ ap (λ (xs : List ℕ). from ∷ xs) (range_last (from + 1) n)

pub range_more : (kept rules : List ℕ) (from i : ℕ) → from ≤ i → rules ≡ kept ++ range_with_len from (i - from) → rules ++ i ∷ [] ≡ kept ++ range_with_len from ((i + 1) - from)
range_more kept rules from i l e =
    let here : i ≡ from + (i - from) = omega (arith, l) in
    let more : suc (i - from) ≡ (i + 1) - from = omega (arith, l) in
    ap (λ (xs : List ℕ). xs ++ i ∷ []) e
    ∙ append_assoc kept (range_with_len from (i - from)) (i ∷ [])
    ∙ ap (λ (k : ℕ). kept ++ (range_with_len from (i - from) ++ k ∷ [])) here
    ∙ ap (λ (xs : List ℕ). kept ++ xs) (range_last from (i - from))
    ∙ ap (λ (n : ℕ). kept ++ range_with_len from n) more

-- what the rounds are run with: without rule i
pub others_are : (i count : ℕ) (kept : List ℕ) → 1 ≤ i → i < count + 1 → AllBelow kept i → without (suc (i - 1)) (kept ++ range_with_len i ((count + 1) - i)) ≡ kept ++ range_with_len (i + 1) ((count + 1) - (i + 1))
others_are i count kept s l b =
    let here : suc (i - 1) ≡ i = omega (arith, s) in
    let some : (count + 1) - i ≡ suc (count - i) = omega (arith, l) in
    let less : count - i ≡ (count + 1) - (i + 1) = omega (arith, l) in
    ap (λ (k : ℕ). without k (kept ++ range_with_len i ((count + 1) - i))) here
    ∙ ap (λ (n : ℕ). without i (kept ++ range_with_len i n)) some
    ∙ without_between i (count - i) kept b
    ∙ ap (λ (n : ℕ). kept ++ range_with_len (i + 1) n) less

-- with rule i, those kept and those behind are the same as before
pub kept_more : (i count : ℕ) (kept : List ℕ) → i < count + 1 → (kept ++ i ∷ []) ++ range_with_len (i + 1) ((count + 1) - (i + 1)) ≡ kept ++ range_with_len i ((count + 1) - i)
kept_more i count kept l =
    let some : suc ((count + 1) - (i + 1)) ≡ (count + 1) - i = omega (arith, l) in
    append_assoc kept (i ∷ []) (range_with_len (i + 1) ((count + 1) - (i + 1))) ∙ ap (λ (n : ℕ). kept ++ range_with_len i n) some

-- ---- the rules left are rules of the problem

filtered_above : (f : ℕ → Bool) (n : ℕ) (ks : List ℕ) → Above n ks → Above n (filter f ks)
filtered_above f n [] a = tt
filtered_above f n (k ∷ ks) a = by (f k) (filtered_above f k ks a.1)
  where
    by : (b : Bool) → Above k (filter f ks) → Above n (cond b (k ∷ filter f ks) (filter f ks))
    by true h = (a.0, h)
    by false h = above_less n k (filter f ks) (let l = a.0 in omega (arith, l)) h

filtered_most : (f : ℕ → Bool) (m : ℕ) (ks : List ℕ) → AtMost m ks → AtMost m (filter f ks)
filtered_most f m [] a = tt
filtered_most f m (k ∷ ks) a = by (f k) (filtered_most f m ks a.1)
  where
    by : (b : Bool) → AtMost m (filter f ks) → AtMost m (cond b (k ∷ filter f ks) (filter f ks))
    by true h = (a.0, h)
    by false h = h

pub rules_without : (p : ProblemData) (i : ℕ) (R : List ℕ) → AreRules p R → AreRules p (without i R)
rules_without p i R kept = rules_from p (without i R) (filtered_above _ 0 R (rules_above p R kept)) (filtered_most _ (length p.rules) R (rules_most p R kept))

pub rules_left : (p : ProblemData) (n i : ℕ) (R : List ℕ) (ts : List Tuple) → Tries p n i R ts → AreRules p R
rules_left p n zero R ts (e, f, ends) = subst (AreRules p) (sym e) (all_are_rules p)
rules_left p n (suc i) R ts (Q, us, tried, l, inl (e, f, ends)) = subst (AreRules p) (sym e) (rules_without p (suc i) Q (rules_left p n i Q us tried))
rules_left p n (suc i) R ts (Q, us, tried, l, inr (t, finds, e, f)) = subst (AreRules p) (sym e) (rules_left p n i Q us tried)

-- ---- one round more

module _ (p : ProblemData) (n count i : ℕ) (kept : List ℕ) (us : List Tuple) (is : count ≡ length p.rules) (start : 1 ≤ i) (inside : i < count + 1) (below : AllBelow kept i) where
  abbrev pub before : List ℕ
  before = kept ++ range_with_len i ((count + 1) - i)

  abbrev pub behind : List ℕ
  behind = kept ++ range_with_len (i + 1) ((count + 1) - (i + 1))

  one_more : suc (i - 1) ≡ (i + 1) - 1
  one_more = omega (arith, start)

  under : i - 1 < length p.rules
  under = omega (arith, start, inside, is)

  pub rules_behind : Tries p n (i - 1) (kept ++ range_with_len i ((count + 1) - i)) us → AreRules p (kept ++ range_with_len (i + 1) ((count + 1) - (i + 1)))
  rules_behind tried = subst (AreRules p) (others_are i count kept start inside below) (rules_without p (suc (i - 1)) before (rules_left p n (i - 1) before us tried))

  -- a layout is found without rule i
  pub tried_found : (t : Tuple) → Tries p n (i - 1) (kept ++ range_with_len i ((count + 1) - i)) us → RoundFinds (with_rules p (kept ++ range_with_len (i + 1) ((count + 1) - (i + 1)))) n t
      → Tries p n ((i + 1) - 1) ((kept ++ i ∷ []) ++ range_with_len (i + 1) ((count + 1) - (i + 1))) (us ++ t ∷ [])
  tried_found t tried found =
      subst (λ (m : ℕ). Tries p n m ((kept ++ i ∷ []) ++ range_with_len (i + 1) ((count + 1) - (i + 1))) (us ++ t ∷ [])) one_more
      (before, us, tried, under, inr (t, subst (λ (R : List ℕ). RoundFinds (with_rules p R) n t) (sym (others_are i count kept start inside below)) found, kept_more i count kept inside, refl))

  -- none is found without it
  pub tried_ended : Tries p n (i - 1) (kept ++ range_with_len i ((count + 1) - i)) us → RoundEnds (with_rules p (kept ++ range_with_len (i + 1) ((count + 1) - (i + 1)))) n
      → Tries p n ((i + 1) - 1) (kept ++ range_with_len (i + 1) ((count + 1) - (i + 1))) us
  tried_ended tried ended =
      subst (λ (m : ℕ). Tries p n m (kept ++ range_with_len (i + 1) ((count + 1) - (i + 1))) us) one_more
      (before, us, tried, under, inl (sym (others_are i count kept start inside below), refl, subst (λ (R : List ℕ). RoundEnds (with_rules p R) n) (sym (others_are i count kept start inside below)) ended))

  -- the round without it is spent
  pub tried_spent : Tries p n (i - 1) (kept ++ range_with_len i ((count + 1) - i)) us → RoundSpends (with_rules p (kept ++ range_with_len (i + 1) ((count + 1) - (i + 1)))) n → SpendsBehind p n
  tried_spent tried s = (i - 1, before, us, tried, under, subst (λ (R : List ℕ). RoundSpends (with_rules p R) n) (sym (others_are i count kept start inside below)) s)
