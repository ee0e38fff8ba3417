-- Steps of the program's folding.
use Rattle.std.proofs.Common.{◌≡◌, ◌≢◌, ℕ, ◌+◌, eqb, Bool, true, false, cond, List, [], ◌∷◌, ◌++◌, length, map, ℤ, pos, ◌-ℤ◌, ◌≤ℤ◌, ◌<ℤ◌, sym, ap, ◌∙◌, refl, arith, subst, append-nil}
use Rattle.std.specs.Prelude.{int_lt, if◌then◌else◌}
use lib.Signed.{le_z}
use Rattle.std.proofs.lemmas.Bool.Decides.{nat_tests}
use Rattle.std.proofs.lemmas.Int.{ints}
use Rattle.std.proofs.lemmas.List.{map-append}
use Rattle.geo_conditions.specs.declared.cond.Cond.{Cond, AtLeast}
use Rattle.geo_conditions.specs.declared.cond.Conds.{Conds}
use Rattle.linear_conditions.specs.declared.verdict.Verdict.{Verdict}
use Rattle.linear_conditions.specs.declared.verdict.Verdict.TheVariants.{Holds, Fails, Open}
use Rattle.linear_conditions.specs.CondTree.{CondTree, at_least, no_conds, conds, cond_view}
use Rattle.linear_conditions.specs.Folding.{always, never, bare_verdict, certain, verdict, count_holding, still_open, one_or_node, fold_open, fold_count}
use Rattle.linear_conditions.proofs.CondViews.{view-at_least}

pub made-certain : (n : ℤ) (children : Conds) (b holds : Bool) → children.items.items ≡ [] → holds ≡ b → n ≡ cond b (pos 0) (pos 1) → cond_view (AtLeast n children) ≡ certain holds
made-certain n children b holds e h k =
    view-at_least n children ∙ ap (λ (xs : List Cond). at_least n (conds (map cond_view xs))) e ∙ ap (λ (m : ℤ). at_least m no_conds) k ∙ is_certain b ∙ sym (ap certain h)
  where
    is_certain : (b : Bool) → at_least (cond b (pos 0) (pos 1)) no_conds ≡ certain b
    is_certain true = refl
    is_certain false = refl

empty_is : (xs : List Cond) → eqb (length xs) 0 ≡ true → xs ≡ []
empty_is [] h = refl
empty_is (x ∷ xs) h = let e : length (x ∷ xs) ≡ 0 = grind (arith, nat_tests) in absurd (omega arith)

open_node : (n : ℤ) (xs : List Cond) → eqb (length xs) 0 ≡ false → verdict (at_least n (conds (map cond_view xs))) ≡ Open
open_node n [] h = cc
open_node n (x ∷ xs) h = refl

pub verdict-bare : (n : ℤ) (children : Conds) (c : Cond) → c ≡ AtLeast n children → eqb (length children.items.items) 0 ≡ true → verdict (cond_view c) ≡ bare_verdict n
verdict-bare n children c e h = ap (λ (x : Cond). verdict (cond_view x)) e ∙ ap verdict (view-at_least n children) ∙ ap (λ (xs : List Cond). verdict (at_least n (conds (map cond_view xs)))) (empty_is children.items.items h)

pub verdict-open : (n : ℤ) (children : Conds) (c : Cond) → c ≡ AtLeast n children → eqb (length children.items.items) 0 ≡ false → verdict (cond_view c) ≡ Open
verdict-open n children c e h = ap (λ (x : Cond). verdict (cond_view x)) e ∙ ap verdict (view-at_least n children) ∙ open_node n children.items.items h

node_of : (n : ℤ) (cs : List Cond) → length cs ≢ 1 → one_or_node n (map cond_view cs) ≡ at_least n (conds (map cond_view cs))
node_of n [] h = refl
node_of n (c ∷ []) h = absurd (h refl)
node_of n (c ∷ d ∷ cs) h = refl

pub made-node : (n : ℤ) (children : Conds) → length children.items.items ≢ 1 → cond_view (AtLeast n children) ≡ one_or_node n (map cond_view children.items.items)
made-node n children h = view-at_least n children ∙ sym (node_of n children.items.items h)

-- what was kept of the conditions so far, and how many more are wanted
pub record Kept (left n : ℤ) (kept ys : List Cond) : Type 0 where
  pub some : pos 0 <ℤ left → left ≡ n -ℤ pos (count_holding (map cond_view ys))
  pub none : left ≤ℤ pos 0 → (n -ℤ pos (count_holding (map cond_view ys))) ≤ℤ pos 0
  pub open_ones : map cond_view kept ≡ still_open (map cond_view ys)

holding-push : (cs : List CondTree) (c : CondTree) (v : Verdict) → verdict c ≡ v → count_holding (cs ++ c ∷ []) ≡ count_holding cs + (elim v [ Holds ↦ 1 | Fails ↦ 0 | Open ↦ 0 ])
holding-push [] c v e = ap (λ w. (elim w [ Holds ↦ 1 | Fails ↦ 0 | Open ↦ 0 ]) + 0) e ∙ (omega arith)
holding-push (d ∷ cs) c v e = let ih = holding-push cs c v e in omega (arith, ih)

by_head : (d c : CondTree) (cs : List CondTree) (ks : List CondTree) (w : Verdict) → still_open (cs ++ c ∷ []) ≡ still_open cs ++ ks →
    (elim w [ Holds ↦ still_open (cs ++ c ∷ []) | Fails ↦ still_open (cs ++ c ∷ []) | Open ↦ d ∷ still_open (cs ++ c ∷ []) ])
    ≡ (elim w [ Holds ↦ still_open cs | Fails ↦ still_open cs | Open ↦ d ∷ still_open cs ]) ++ ks
by_head d c cs ks Holds ih = ih
by_head d c cs ks Fails ih = ih
by_head d c cs ks Open ih = ap (λ xs. d ∷ xs) ih

open-push : (cs : List CondTree) (c : CondTree) (v : Verdict) → verdict c ≡ v → still_open (cs ++ c ∷ []) ≡ still_open cs ++ (elim v [ Holds ↦ [] | Fails ↦ [] | Open ↦ c ∷ [] ])
open-push [] c v e = ap (λ w. elim w [ Holds ↦ [] | Fails ↦ [] | Open ↦ c ∷ [] ]) e
open-push (d ∷ cs) c v e = by_head d c cs (elim v [ Holds ↦ [] | Fails ↦ [] | Open ↦ c ∷ [] ]) (verdict d) (open-push cs c v e)

pushed : (ys : List Cond) (c : Cond) → map cond_view (ys ++ c ∷ []) ≡ map cond_view ys ++ cond_view c ∷ []
pushed ys c = map-append cond_view ys (c ∷ [])

count-on : (ys : List Cond) (c : Cond) (v : Verdict) → verdict (cond_view c) ≡ v → count_holding (map cond_view (ys ++ c ∷ [])) ≡ count_holding (map cond_view ys) + (elim v [ Holds ↦ 1 | Fails ↦ 0 | Open ↦ 0 ])
count-on ys c v e = ap count_holding (pushed ys c) ∙ holding-push (map cond_view ys) (cond_view c) v e

open-on : (ys : List Cond) (c : Cond) (v : Verdict) → verdict (cond_view c) ≡ v → still_open (map cond_view (ys ++ c ∷ [])) ≡ still_open (map cond_view ys) ++ (elim v [ Holds ↦ [] | Fails ↦ [] | Open ↦ cond_view c ∷ [] ])
open-on ys c v e = ap still_open (pushed ys c) ∙ open-push (map cond_view ys) (cond_view c) v e

lower : (left next n : ℤ) (h k : ℕ) → (pos 0 <ℤ left → left ≡ n -ℤ pos h) → (pos 0 <ℤ left → next ≡ left -ℤ pos 1) → (left ≤ℤ pos 0 → next ≤ℤ pos 0) → k ≡ h + 1 → pos 0 <ℤ next → next ≡ n -ℤ pos k
lower left next n h k a b c e l = by_sign (int_lt (pos 0) left) refl
  where
    by_sign : (s : Bool) → int_lt (pos 0) left ≡ s → next ≡ n -ℤ pos k
    by_sign true q = let p : pos 0 <ℤ left = grind (arith, ints) in let x = a p in let y = b p in omega (arith, ints)
    by_sign false q = let p : left ≤ℤ pos 0 = grind (arith, ints) in let x = c p in absurd (omega (arith, ints))

lower_none : (left next n : ℤ) (h k : ℕ) → (pos 0 <ℤ left → left ≡ n -ℤ pos h) → (left ≤ℤ pos 0 → (n -ℤ pos h) ≤ℤ pos 0) → (pos 0 <ℤ left → next ≡ left -ℤ pos 1) → k ≡ h + 1 → next ≤ℤ pos 0 → (n -ℤ pos k) ≤ℤ pos 0
lower_none left next n h k a d b e l = by_sign (int_lt (pos 0) left) refl
  where
    by_sign : (s : Bool) → int_lt (pos 0) left ≡ s → (n -ℤ pos k) ≤ℤ pos 0
    by_sign true q = let p : pos 0 <ℤ left = grind (arith, ints) in let x = a p in let y = b p in omega (arith, ints)
    by_sign false q = let p : left ≤ℤ pos 0 = grind (arith, ints) in let x = d p in omega (arith, ints)

pub kept-holds : (left next n : ℤ) (kept ys : List Cond) (c : Cond) → Kept left n kept ys → verdict (cond_view c) ≡ Holds → (pos 0 <ℤ left → next ≡ left -ℤ pos 1) → (left ≤ℤ pos 0 → next ≤ℤ pos 0) → Kept next n kept (ys ++ c ∷ [])
kept-holds left next n kept ys c k e a b = record {
  some = lower left next n (count_holding (map cond_view ys)) (count_holding (map cond_view (ys ++ c ∷ []))) k.some a b (count-on ys c Holds e);
  none = lower_none left next n (count_holding (map cond_view ys)) (count_holding (map cond_view (ys ++ c ∷ []))) k.some k.none a (count-on ys c Holds e);
  open_ones = sym (open-on ys c Holds e ∙ append-nil (still_open (map cond_view ys)) ∙ sym k.open_ones);
}

same_left : (left n : ℤ) (h k : ℕ) → left ≡ n -ℤ pos h → k ≡ h + 0 → left ≡ n -ℤ pos k
same_left left n h k a e = omega (arith, ints)

same_none : (n : ℤ) (h k : ℕ) → (n -ℤ pos h) ≤ℤ pos 0 → k ≡ h + 0 → (n -ℤ pos k) ≤ℤ pos 0
same_none n h k a e = omega (arith, ints)

pub kept-fails : (left n : ℤ) (kept ys : List Cond) (c : Cond) → Kept left n kept ys → verdict (cond_view c) ≡ Fails → Kept left n kept (ys ++ c ∷ [])
kept-fails left n kept ys c k e = record {
  some = λ p. same_left left n (count_holding (map cond_view ys)) (count_holding (map cond_view (ys ++ c ∷ []))) (k.some p) (count-on ys c Fails e);
  none = λ p. same_none n (count_holding (map cond_view ys)) (count_holding (map cond_view (ys ++ c ∷ []))) (k.none p) (count-on ys c Fails e);
  open_ones = sym (open-on ys c Fails e ∙ append-nil (still_open (map cond_view ys)) ∙ sym k.open_ones);
}

pub kept-open : (left n : ℤ) (kept more ys : List Cond) (c : Cond) → Kept left n kept ys → verdict (cond_view c) ≡ Open → more ≡ kept ++ c ∷ [] → Kept left n more (ys ++ c ∷ [])
kept-open left n kept more ys c k e m = record {
  some = λ p. same_left left n (count_holding (map cond_view ys)) (count_holding (map cond_view (ys ++ c ∷ []))) (k.some p) (count-on ys c Open e);
  none = λ p. same_none n (count_holding (map cond_view ys)) (count_holding (map cond_view (ys ++ c ∷ []))) (k.none p) (count-on ys c Open e);
  open_ones = ap (map cond_view) m ∙ pushed kept c ∙ ap (λ xs. xs ++ cond_view c ∷ []) k.open_ones ∙ sym (open-on ys c Open e);
}

-- the same, with numbers as they are read from memory
pub kept-at : (left next n m : ℤ) (kept ys : List Cond) → left ≡ next → n ≡ m → Kept left n kept ys → Kept next m kept ys
kept-at left next n m kept ys e h k = subst (λ z. Kept z m kept ys) e (subst (λ z. Kept left z kept ys) h k)

pub lowers : (left next : ℤ) → (left ≤ℤ pos 0 → next ≡ left) → left ≤ℤ pos 0 → next ≤ℤ pos 0
lowers left next h l = let e = h l in omega (arith, ints)

-- nothing is kept yet
pub kept-none : (n : ℤ) → Kept n n [] []
kept-none n = record { some = λ p. omega (arith, ints); none = λ l. omega (arith, ints, l); open_ones = refl }

none-wanted : (z : ℤ) (cs : List CondTree) → le_z z (pos 0) ≡ true → fold_open z cs ≡ always
none-wanted z cs e = ap (λ b. if b then always else if int_lt (pos (length cs)) z then never else one_or_node z cs) e

-- what is kept of all conditions, folded
pub kept-folded : (left n : ℤ) (kept ys : List Cond) → Kept left n kept ys → fold_open left (map cond_view kept) ≡ fold_count n (map cond_view ys)
kept-folded left n kept ys k = by_sign (le_z left (pos 0)) refl
  where
    by_sign : (s : Bool) → le_z left (pos 0) ≡ s → fold_open left (map cond_view kept) ≡ fold_count n (map cond_view ys)
    by_sign true q =
        let l : left ≤ℤ pos 0 = grind (arith, ints) in
        let h = k.none l in
        let e : le_z (n -ℤ pos (count_holding (map cond_view ys))) (pos 0) ≡ true = grind (arith, ints) in
        none-wanted left (map cond_view kept) q ∙ sym (none-wanted (n -ℤ pos (count_holding (map cond_view ys))) (still_open (map cond_view ys)) e)
    by_sign false q =
        let p : pos 0 <ℤ left = grind (arith, ints) in
        ap (λ z. fold_open z (map cond_view kept)) (k.some p) ∙ ap (fold_open (n -ℤ pos (count_holding (map cond_view ys)))) k.open_ones
