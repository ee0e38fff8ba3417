-- Levels are opened and closed, and objects are saved.
use Rattle.std.proofs.Common.{◌≡◌, ℕ, suc, ◌+◌, ◌-◌, ◌*◌, ◌<◌, ◌≤◌, List, [], ◌∷◌, ◌++◌, length, take, drop, map, set, get_or, refl, sym, ap, ◌∙◌, subst, inl, inr, arith}
use Rattle.std.specs.List.{All}
use Rattle.std.proofs.lemmas.Bool.{cases_lt}
use Rattle.std.proofs.lemmas.List.{length-append, length-set, length-take-le, get_or_past, get_or_append_left, drop-append-le, drop_all, take-append-drop, map-append}
use Rattle.std.proofs.lemmas.List.Elements.{All-set, All-weaker}
use Rattle.std.proofs.Math.Seq.{get_or-append_seam}
use Rattle.geo_conditions.specs.Reach.{Reach, State, reach, nowhere}
use Rattle.geo_state.specs.Undo.{Entry, undone, state_before, marks_before, restored, count_of, saved_by, marks_by, IsUndoable}
use Rattle.geo_state.proofs.Undo.{undone_append, undone_saved, undone_anyway, count_few, count_more, saved_last, saved_at, saved_within, saved_few, now_within, saved_rises}

-- ---- what the levels restore

-- maps that agree on each element
map_same : {A B : Type 0} (f g : A → B) (xs : List A) (d : A) → ((i : ℕ) → i < length xs → f (get_or xs i d) ≡ g (get_or xs i d)) → map f xs ≡ map g xs
map_same f g [] d h = refl
map_same f g (x ∷ xs) d h = (λ j. h 0 (omega arith) j ∷ map_same f g xs d (λ i b. h (suc i) (omega arith)) j)

module _ (es : List Entry) (marks starts : List ℕ) (h : IsUndoable es marks starts) where
  start_within : (i : ℕ) → i < length starts → get_or starts i 0 ≤ length es
  start_within i b = omega (arith, saved_within es marks starts h i (omega arith), saved_at es starts i b)

  -- ---- an object is saved

  module _ (o : ℕ) (r : Reach) (in' : o < length marks) where
    abbrev entry : Entry
    entry = record { object = o; reach = r; level = get_or marks o 0 }

    abbrev more : List Entry
    more = es ++ entry ∷ []

    abbrev now : List ℕ
    now = set marks o (length starts)

    more_long : length more ≡ suc (length es)
    more_long = omega (arith, length-append es (entry ∷ []))

    saved_same : (i : ℕ) → i < length starts → saved_by more starts i ≡ saved_by es starts i
    saved_same i b = saved_at more starts i b ∙ sym (saved_at es starts i b)

    marks_same : (i : ℕ) → i < length starts → marks_by more now starts i ≡ marks_by es marks starts i
    marks_same i b =
        ap (λ (n : ℕ). marks_before now (drop n more)) (saved_same i b)
        ∙ ap (marks_before now) (drop-append-le (saved_by es starts i) es (entry ∷ []) (saved_within es marks starts h i (omega arith)))
        ∙ undone_saved (λ e. e.level) marks (drop (saved_by es starts i) es) entry (length starts) 0 refl

    marks_now : marks_by more now starts (length starts) ≡ now
    marks_now = ap (marks_before now) (drop_all (saved_by more starts (length starts)) more (omega (arith, saved_last more starts)))

    pub saves : get_or marks o 0 < length starts → IsUndoable more now starts
    saves lt = record {
      none = saved_same 0 (omega arith) ∙ h.none;
      grows = λ i b. elim (cases_lt (suc i) (length starts)) [
        | inl s ↦ omega (arith, saved_same i b, saved_same (suc i) s, h.grows i b)
        | inr s ↦ let at : suc i ≡ length starts = omega arith in
            omega (arith, saved_same i b, saved_within es marks starts h i (omega arith), more_long, ap (saved_by more starts) at, saved_last more starts)
      ];
      once = λ i b. elim (cases_lt (suc i) (length starts)) [
        | inl s ↦ omega (arith, saved_same i b, saved_same (suc i) s, h.once i b, ap (count_of (suc i)) (marks_same (suc i) s))
        | inr s ↦
            let at : suc i ≡ length starts = omega arith in
            let before = h.once i b in
            let old : marks_by es marks starts (suc i) ≡ marks = ap (marks_by es marks starts) at ∙ ap (marks_before marks) (drop_all (saved_by es starts (length starts)) es (omega (arith, saved_last es starts))) in
            let new : marks_by more now starts (suc i) ≡ now = ap (marks_by more now starts) at ∙ marks_now in
            let one : count_of (suc i) now ≡ suc (count_of (suc i) marks) = ap (λ (n : ℕ). count_of (suc i) (set marks o n)) (sym at) ∙ count_more (suc i) marks o in' (λ e. absurd (omega (arith, lt))) in
            omega (arith, saved_same i b, before, more_long, ap (saved_by more starts) at, saved_last more starts, ap (saved_by es starts) at, saved_last es starts, ap (count_of (suc i)) old, ap (count_of (suc i)) new, one)
      ];
      levels = λ i l. elim (cases_lt i (length starts)) [
        | inl s ↦ subst (All (λ m. m ≤ i)) (sym (marks_same i s)) (h.levels i l)
        | inr s ↦ let at : length starts ≡ i = omega arith in
            subst (λ (n : ℕ). All (λ m. m ≤ n) (marks_by more now starts n)) at
            (subst (All (λ m. m ≤ length starts)) (sym marks_now) (All-set (λ m. m ≤ length starts) marks o (length starts) (omega arith) (now_within es marks starts h)))
      ];
    }

    -- before that there is room for it
    pub saves_room : get_or marks o 0 < length starts → length es < length starts * length marks
    saves_room lt =
        let more_ones : suc (count_of (length starts) marks) ≤ length marks = omega (arith, count_more (length starts) marks o in' (λ e. absurd (omega (arith, lt))), count_few (length starts) now, long) in
        let k = length starts - 1 in let at : suc k ≡ length starts = omega arith in
        let same : marks_by es marks starts (suc k) ≡ marks = ap (marks_by es marks starts) at ∙ ap (marks_before marks) (drop_all (saved_by es starts (length starts)) es (omega (arith, saved_last es starts))) in
        let last : count_of (suc k) (marks_by es marks starts (suc k)) ≡ count_of (length starts) marks = (λ j. count_of (at j) (same j)) in
        let once = h.once k (omega arith) in
        let few = saved_few es marks starts h k (omega arith) in
        let product : suc k * length marks ≡ length starts * length marks = ap (λ (n : ℕ). n * length marks) at in
        grind (arith, more_ones, last, once, few, product, ap (saved_by es starts) at, saved_last es starts)
      where
        long : length now ≡ length marks
        long = grind (arith, length-set)

    -- each level restores what it did
    pub saves_restored : (S : State) (x : Reach) → r ≡ reach S o → restored (set S o x) more starts ≡ restored S es starts
    saves_restored S x is = map_same (λ n. state_before (set S o x) (drop n more)) (λ n. state_before S (drop n es)) starts 0 (λ i b.
        ap (state_before (set S o x)) (drop-append-le (get_or starts i 0) es (entry ∷ []) (start_within i b))
        ∙ undone_saved (λ e. e.reach) S (drop (get_or starts i 0) es) entry x nowhere is)

    -- an object that the last level has saved may change
    pub keeps_restored : (S : State) (x : Reach) → length starts ≤ get_or marks o 0 → restored (set S o x) es starts ≡ restored S es starts
    keeps_restored S x le = map_same (λ n. state_before (set S o x) (drop n es)) (λ n. state_before S (drop n es)) starts 0 (λ i b.
        undone_anyway S marks (drop (get_or starts i 0) es) o x (λ same.
        let level : get_or (marks_by es marks starts i) o 0 ≤ i = at_most (marks_by es marks starts i) i (h.levels i (omega arith)) o in
        let at : marks_by es marks starts i ≡ marks_before marks (drop (get_or starts i 0) es) = ap (λ (n : ℕ). marks_before marks (drop n es)) (saved_at es starts i b) in
        omega (arith, level, same, ap (λ (l : List ℕ). get_or l o 0) at, le)))
      where
        at_most : (ms : List ℕ) (n : ℕ) → All (λ m. m ≤ n) ms → (k : ℕ) → get_or ms k 0 ≤ n
        at_most ms n a k = elim (cases_lt k (length ms)) [
          | inl b ↦ a k 0 b
          | inr past ↦ let e : get_or ms k 0 ≡ 0 = get_or_past ms k 0 past in omega (arith, e)
        ]

  -- ---- a level is opened

  abbrev opened : List ℕ
  opened = starts ++ length es ∷ []

  saved_below : (i : ℕ) → i ≤ length starts → saved_by es opened i ≡ saved_by es starts i
  saved_below i l = get_or_append_left opened (length es ∷ []) 0 i (omega (arith, length-append starts (length es ∷ [])))

  saved_now : saved_by es opened (suc (length starts)) ≡ length es
  saved_now = let at : suc (length starts) ≡ length opened = omega (arith, length-append starts (length es ∷ [])) in ap (saved_by es opened) at ∙ saved_last es opened

  pub opens : IsUndoable es marks opened
  opens = record {
    none = saved_below 0 (omega arith) ∙ h.none;
    grows = λ i b. elim (cases_lt i (length starts)) [
      | inl s ↦ omega (arith, saved_below i (omega arith), saved_below (suc i) (omega arith), h.grows i s)
      | inr s ↦ let at : i ≡ length starts = omega (arith, b, length-append starts (length es ∷ [])) in
          omega (arith, saved_below i (omega arith), saved_within es marks starts h i (omega arith), ap (λ (n : ℕ). saved_by es opened (suc n)) at, saved_now)
    ];
    once = λ i b. elim (cases_lt i (length starts)) [
      | inl s ↦ omega (arith, saved_below i (omega arith), saved_below (suc i) (omega arith), h.once i s, ap (λ (n : ℕ). count_of (suc i) (marks_before marks (drop n es))) (saved_below (suc i) (omega arith)))
      | inr s ↦ let at : i ≡ length starts = omega (arith, b, length-append starts (length es ∷ [])) in
          omega (arith, saved_below i (omega arith), ap (saved_by es starts) at, saved_last es starts, ap (λ (n : ℕ). saved_by es opened (suc n)) at, saved_now)
    ];
    levels = λ i l. elim (cases_lt (length starts) i) [
      | inl s ↦
          let at : suc (length starts) ≡ i = omega (arith, s, l, length-append starts (length es ∷ [])) in
          subst (λ (n : ℕ). All (λ m. m ≤ n) (marks_by es marks opened n)) at
          (subst (All (λ m. m ≤ suc (length starts))) (sym (ap (marks_before marks) (drop_all (saved_by es opened (suc (length starts))) es (omega (arith, saved_now)))))
          (All-weaker (λ m. m ≤ length starts) (λ m. m ≤ suc (length starts)) (λ m a. omega arith) marks (now_within es marks starts h)))
      | inr s ↦ subst (λ (n : ℕ). All (λ m. m ≤ i) (marks_before marks (drop n es))) (sym (saved_below i s)) (h.levels i s)
    ];
  }

pub opens_restored : (S : State) (es : List Entry) (starts : List ℕ) → restored S es (starts ++ length es ∷ []) ≡ restored S es starts ++ S ∷ []
opens_restored S es starts = map-append (λ n. state_before S (drop n es)) starts (length es ∷ [])
    ∙ ap (λ (T : State). restored S es starts ++ T ∷ []) (ap (state_before S) (drop_all (length es) es (omega arith)))

-- ---- a level is closed

module _ (es : List Entry) (marks starts : List ℕ) (m : ℕ) (h : IsUndoable es marks (starts ++ m ∷ [])) where
  abbrev last : List ℕ
  last = starts ++ m ∷ []

  abbrev left : List Entry
  left = take m es

  pub m_within : m ≤ length es
  m_within =
      let at : saved_by es last (length starts) ≡ m = saved_at es last (length starts) (omega (arith, length-append starts (m ∷ []))) ∙ get_or-append_seam starts m [] 0 in
      omega (arith, at, saved_within es marks last h (length starts) (omega (arith, length-append starts (m ∷ []))))

  left_long : length left ≡ m
  left_long = length-take-le m es m_within

  saved_left : (i : ℕ) → i ≤ length starts → saved_by left starts i ≡ saved_by es last i
  saved_left i l =
      ap (λ (n : ℕ). get_or (starts ++ n ∷ []) i 0) left_long ∙ sym (saved_at es last i (omega (arith, length-append starts (m ∷ []))))

  saved_least : (i : ℕ) → i ≤ length starts → saved_by es last i ≤ m
  saved_least i l =
      let at : saved_by es last (length starts) ≡ m = saved_at es last (length starts) (omega (arith, length-append starts (m ∷ []))) ∙ get_or-append_seam starts m [] 0 in
      let e : i + (length starts - i) ≡ length starts = omega arith in
      omega (arith, saved_rises es marks last h (length starts - i) i (omega (arith, length-append starts (m ∷ []))), ap (saved_by es last) e, at)

  -- the entries above m, and those below it from n on
  pub undone_twice : {A : Type 0} (f : Entry → A) (xs : List A) (n : ℕ) → n ≤ m → undone f (undone f xs (drop m es)) (drop n left) ≡ undone f xs (drop n es)
  undone_twice f xs n l =
      sym (undone_append f xs (drop n left) (drop m es))
      ∙ ap (undone f xs) (sym (drop-append-le n left (drop m es) (omega (arith, left_long))) ∙ ap (drop n) (take-append-drop m es))

  marks_left : (i : ℕ) → i ≤ length starts → marks_by left (marks_before marks (drop m es)) starts i ≡ marks_by es marks last i
  marks_left i l =
      ap (λ (n : ℕ). marks_before (marks_before marks (drop m es)) (drop n left)) (saved_left i l)
      ∙ undone_twice (λ e. e.level) marks (saved_by es last i) (saved_least i l)

  pub closes : IsUndoable left (marks_before marks (drop m es)) starts
  closes = record {
    none = saved_left 0 (omega arith) ∙ h.none;
    grows = λ i b. omega (arith, saved_left i (omega arith), saved_left (suc i) (omega arith), h.grows i (omega (arith, b, length-append starts (m ∷ []))));
    once = λ i b. omega (arith, saved_left i (omega arith), saved_left (suc i) (omega arith), h.once i (omega (arith, b, length-append starts (m ∷ []))), ap (count_of (suc i)) (marks_left (suc i) (omega arith)));
    levels = λ i l. subst (All (λ k. k ≤ i)) (sym (marks_left i l)) (h.levels i (omega (arith, l, length-append starts (m ∷ []))));
  }

  pub closes_restored : (S : State) → restored S es last ≡ restored (state_before S (drop m es)) left starts ++ state_before S (drop m es) ∷ []
  closes_restored S =
      map-append (λ n. state_before S (drop n es)) starts (m ∷ [])
      ∙ ap (λ (R : List State). R ++ state_before S (drop m es) ∷ [])
      (sym (map_same (λ n. state_before (state_before S (drop m es)) (drop n left)) (λ n. state_before S (drop n es)) starts 0 (λ i b.
      undone_twice (λ e. e.reach) S (get_or starts i 0)
      (omega (arith, saved_least i (omega arith), saved_at es last i (omega (arith, b, length-append starts (m ∷ []))), get_or_append_left starts (m ∷ []) 0 i b)))))
