-- Entries that are put back.
use Rattle.std.proofs.Common.{◌≡◌, ◌≢◌, ℕ, zero, suc, ◌+◌, ◌-◌, ◌*◌, ◌<◌, ◌≤◌, eqb, List, [], ◌∷◌, ◌++◌, length, drop, set, get_or, refl, sym, ap, ◌∙◌, subst, inl, inr, arith}
use Rattle.std.specs.List.{All}
use Rattle.std.proofs.lemmas.Bool.{cases_eq, eq-eqb, ne_eqb}
use Rattle.std.proofs.lemmas.List.{length-set, get_or_append_left, get_or-set_other, set-set, set_comm, set-get_or, drop_all}
use Rattle.std.proofs.Math.Seq.{get_or-append_seam}
use Rattle.geo_conditions.specs.Reach.{Reach, State, count}
use Rattle.geo_state.specs.Undo.{Entry, undone, state_before, marks_before, count_of, saved_by, marks_by, IsUndoable}

-- ---- a list with entries put back

module _ {A : Type 0} (f : Entry → A) where
  pub length_undone : (xs : List A) (es : List Entry) → length (undone f xs es) ≡ length xs
  length_undone xs [] = refl
  length_undone xs (e ∷ es) = length-set (undone f xs es) e.object (f e) ∙ length_undone xs es

  pub undone_append : (xs : List A) (es ds : List Entry) → undone f xs (es ++ ds) ≡ undone f (undone f xs ds) es
  undone_append xs [] ds = refl
  undone_append xs (e ∷ es) ds = ap (λ (l : List A). set l e.object (f e)) (undone_append xs es ds)

  -- an object was changed, and an entry keeps what stood there
  pub undone_saved : (xs : List A) (es : List Entry) (e : Entry) (x d : A) → f e ≡ get_or xs e.object d → undone f (set xs e.object x) (es ++ e ∷ []) ≡ undone f xs es
  undone_saved xs es e x d h = undone_append (set xs e.object x) es (e ∷ []) ∙ ap (λ (l : List A). undone f l es) (set-set xs e.object x (f e) ∙ ap (set xs e.object) h ∙ set-get_or xs e.object d)

  -- what is put in at a place hides what was put in there before
  pub undone_hides : (xs : List A) (es : List Entry) (o : ℕ) (x y : A) → set (undone f (set xs o x) es) o y ≡ set (undone f xs es) o y
  undone_hides xs [] o x y = set-set xs o x y
  undone_hides xs (e ∷ es) o x y = elim (cases_eq e.object o) [
    | inl is ↦ subst (λ (k : ℕ). set (set (undone f (set xs o x) es) k (f e)) o y ≡ set (set (undone f xs es) k (f e)) o y) (sym is)
        (set-set (undone f (set xs o x) es) o (f e) y ∙ undone_hides xs es o x y ∙ sym (set-set (undone f xs es) o (f e) y))
    | inr ne ↦ set_comm (undone f (set xs o x) es) e.object o (f e) y ne
        ∙ ap (λ (l : List A). set l e.object (f e)) (undone_hides xs es o x y)
        ∙ sym (set_comm (undone f xs es) e.object o (f e) y ne)
  ]

-- where the entries put another level back for an object, they put its reach back too
pub undone_anyway : (S : State) (marks : List ℕ) (es : List Entry) (o : ℕ) (r : Reach) → get_or (marks_before marks es) o 0 ≢ get_or marks o 0 → state_before (set S o r) es ≡ state_before S es
undone_anyway S marks [] o r ne = absurd (ne refl)
undone_anyway S marks (e ∷ es) o r ne = elim (cases_eq e.object o) [
  | inl is ↦ subst (λ (k : ℕ). set (state_before (set S o r) es) k e.reach ≡ set (state_before S es) k e.reach) (sym is) (undone_hides (λ d. d.reach) S es o r e.reach)
  | inr other ↦ ap (λ (T : State). set T e.object e.reach)
      (undone_anyway S marks es o r (λ same. ne (get_or-set_other (marks_before marks es) e.object o e.level 0 (λ k. other (sym k)) ∙ same)))
]

-- ---- how many have a level

pub count_few : (n : ℕ) (ms : List ℕ) → count_of n ms ≤ length ms
count_few n [] = omega arith
count_few n (m ∷ ms) = let rest = count_few n ms in elim (cases_eq m n) [
  | inl e ↦ let one : count (eqb m n) ≡ 1 = ap count (eq-eqb m n e) in omega (arith, rest, one)
  | inr e ↦ let one : count (eqb m n) ≡ 0 = ap count (ne_eqb m n e) in omega (arith, rest, one)
]

pub count_more : (n : ℕ) (ms : List ℕ) (o : ℕ) → o < length ms → get_or ms o 0 ≢ n → count_of n (set ms o n) ≡ suc (count_of n ms)
count_more n [] o b ne = absurd (omega arith)
count_more n (m ∷ ms) zero b ne =
    let one : count (eqb n n) ≡ 1 = ap count (eq-eqb n n refl) in
    let not_one : count (eqb m n) ≡ 0 = ap count (ne_eqb m n ne) in
    omega (arith, one, not_one)
count_more n (m ∷ ms) (suc o) b ne = omega (arith, count_more n ms o (omega arith) ne)

-- ---- the numbers of entries

module _ (es : List Entry) (starts : List ℕ) where
  pub saved_last : saved_by es starts (length starts) ≡ length es
  saved_last = get_or-append_seam starts (length es) [] 0

  -- the number at an open level rests on its start alone
  pub saved_at : (i : ℕ) → i < length starts → saved_by es starts i ≡ get_or starts i 0
  saved_at i b = get_or_append_left starts (length es ∷ []) 0 i b

module _ (es : List Entry) (marks starts : List ℕ) (h : IsUndoable es marks starts) where
  -- no level was opened with more entries than there are at a later one
  pub saved_rises : (k i : ℕ) → i + k ≤ length starts → saved_by es starts i ≤ saved_by es starts (i + k)
  saved_rises zero i l = let same : saved_by es starts (i + 0) ≡ saved_by es starts i = ap (saved_by es starts) (let e : i + 0 ≡ i = omega arith in e) in omega (arith, same)
  saved_rises (suc k) i l =
      let same : saved_by es starts (i + suc k) ≡ saved_by es starts (suc (i + k)) = ap (saved_by es starts) (let e : i + suc k ≡ suc (i + k) = omega arith in e) in
      omega (arith, saved_rises k i (omega arith), h.grows (i + k) (omega arith), same)

  pub saved_within : (i : ℕ) → i ≤ length starts → saved_by es starts i ≤ length es
  saved_within i l =
      let at : i + (length starts - i) ≡ length starts = omega arith in
      omega (arith, saved_rises (length starts - i) i (omega arith), ap (saved_by es starts) at, saved_last es starts)

  -- each level saves each object at most once
  pub saved_few : (i : ℕ) → i ≤ length starts → saved_by es starts i ≤ i * length marks
  saved_few zero l = omega (arith, h.none)
  saved_few (suc i) l =
      let few = count_few (suc i) (marks_by es marks starts (suc i)) in
      let long = length_undone (λ e. e.level) marks (drop (saved_by es starts (suc i)) es) in
      grind (arith, saved_few i (omega arith), h.once i (omega arith), few, long)

  -- the levels now
  pub now_within : All (λ m. m ≤ length starts) marks
  now_within = subst (All (λ m. m ≤ length starts)) (ap (marks_before marks) (drop_all (saved_by es starts (length starts)) es (omega (arith, saved_last es starts)))) (h.levels (length starts) (omega arith))
