-- What the calls of a trailed state keep.
use Rattle.std.proofs.Common.{◌≡◌, ℕ, suc, ◌+◌, ◌*◌, ◌<◌, ◌≤◌, ◌⊎◌, List, [], ◌∷◌, ◌++◌, length, take, drop, set, get_or, replicate, refl, sym, ap, ◌∙◌, subst, inl, inr, arith}
use Rattle.std.specs.List.{All}
use Rattle.std.proofs.lemmas.Bool.{cases_lt}
use Rattle.std.proofs.lemmas.List.{length-append, length-map, length-set, length-take, length-take-le, set-get_or, get_or_past, drop_all, take_all, append-nil}
use Rattle.std.proofs.lemmas.List.Elements.{All-nil, All-push, All-take, All-replicate}
use Rattle.std.proofs.Math.Seq.{take-suc, take-suc-set, take-append_seam, get_or-append_seam, drop-cons}
use Rattle.std.proofs.Math.ListN.{length-replicate}
use Rattle.std.proofs.Math.Nat.{mul-le-mul_right}
use Rattle.geo_conditions.specs.Reach.{State, Reach, reach, Inside}
use Rattle.geo_state.specs.Undo.{Entry, entry_of, state_before, marks_before, restored, saved_by, IsUndoable}
use Rattle.geo_state.specs.Trail.{HasSmallIntervals, IsTrail, IsTrailed}
use Rattle.geo_state.proofs.Undo.{length_undone, now_within}
use Rattle.geo_state.proofs.Levels.{saves, saves_room, saves_restored, keeps_restored, opens, opens_restored, closes, closes_restored, m_within}
use Rattle.geo_state.proofs.Trails.{Narrows, trail_start, trail_push, trail_pop, trail_narrowed}

-- ---- the start

pub undoable_start : (n : ℕ) → IsUndoable [] (replicate n 0) []
undoable_start n = record {
  none = refl;
  grows = λ i b. absurd (omega arith);
  once = λ i b. absurd (omega arith);
  levels = λ i l. subst (λ (es : List Entry). All (λ m. m ≤ i) (marks_before (replicate n 0) es)) (sym (drop_all {X = Entry} (saved_by [] [] i) [] (omega arith))) (All-replicate (λ m. m ≤ i) n 0 (omega arith));
}

pub trailed_start : (S : State) (es : List Entry) (marks starts : List ℕ) (n spare : ℕ) → HasSmallIntervals S → es ≡ [] → marks ≡ replicate (length S) 0 → starts ≡ replicate n 0 → n * length S ≤ spare → IsTrailed S es marks starts 0 spare
trailed_start S es marks starts n spare s none ones zeros l = record {
  within = omega arith;
  objects = ap length ones ∙ length-replicate (length S) 0;
  room = let long : length starts ≡ n = ap length zeros ∙ length-replicate n 0 in let same : length starts * length S ≡ n * length S = ap (λ (k : ℕ). k * length S) long in omega (arith, same, l);
  exist = subst (All (λ e. e.object < length S)) (sym none) (All-nil (λ e. e.object < length S));
  undoable = subst (λ (ds : List Entry). IsUndoable ds marks []) (sym none) (subst (λ (ms : List ℕ). IsUndoable [] ms []) (sym ones) (undoable_start (length S)));
  trail = trail_start S s;
}

-- ---- what is written to a vector through a slice

pub written : (news olds : List ℕ) (n : ℕ) → length olds ≡ n → length news ≡ length olds → take n (news ++ drop (length news) olds) ≡ news
written news olds n e l =
    ap (λ (r : List ℕ). take n (news ++ r)) (drop_all (length news) olds (omega arith)) ∙ ap (take n) (append-nil news) ∙ take_all n news (omega arith)

module _ (S : State) (es : List Entry) (marks starts : List ℕ) (depth spare : ℕ) (t : IsTrailed S es marks starts depth spare) where
  abbrev levels : List ℕ
  levels = take depth starts

  levels_long : length levels ≡ depth
  levels_long = length-take-le depth starts t.within

  -- as many levels are open as states are restored
  pub open_levels : length (restored S es (take depth starts)) ≡ depth
  open_levels = length-map levels (λ n. state_before S (drop n es)) ∙ levels_long

  -- ---- a level is opened

  pub trailed_open : (m : ℕ) → depth < length starts → m ≡ suc depth
      → IsTrailed S es marks (set starts depth (length es)) m spare × (restored S es (take m (set starts depth (length es))) ≡ restored S es (take depth starts) ++ S ∷ [])
  trailed_open m h e =
      let more : take m (set starts depth (length es)) ≡ levels ++ length es ∷ [] = ap (λ (k : ℕ). take k (set starts depth (length es))) e ∙ take-suc-set starts depth (length es) h in
      let back : restored S es (take m (set starts depth (length es))) ≡ restored S es levels ++ S ∷ [] = ap (restored S es) more ∙ opens_restored S es levels in (
        record {
          within = omega (arith, e, h, length-set starts depth (length es));
          objects = t.objects;
          room = let same : length (set starts depth (length es)) * length S ≡ length starts * length S = ap (λ (k : ℕ). k * length S) (length-set starts depth (length es)) in omega (arith, same, t.room);
          exist = t.exist;
          undoable = subst (IsUndoable es marks) (sym more) (opens es marks levels t.undoable);
          trail = subst (IsTrail S) (sym back) (trail_push S (restored S es levels) t.trail);
        },
        back,
      )

  -- ---- an object is saved and changed

  at_most : (ms : List ℕ) (n : ℕ) → All (λ m. m ≤ n) ms → (k : ℕ) → get_or ms k 0 ≤ n
  at_most ms n a k = elim (cases_lt k (length ms)) [
    | inl b ↦ a k 0 b
    | inr past ↦ let e : get_or ms k 0 ≡ 0 = get_or_past ms k 0 past in omega (arith, e)
  ]

  -- no object has a level that is not open
  pub trailed_mark : (o : ℕ) → get_or marks o 0 ≤ depth
  trailed_mark o = omega (arith, at_most marks (length levels) (now_within es marks levels t.undoable) o, levels_long)

  -- where the last level has not saved the object there is room for it
  pub trailed_room : (o : ℕ) → o < length S → get_or marks o 0 < depth → 0 < spare
  trailed_room o b lt =
      let full = saves_room es marks levels t.undoable o (reach S o) (omega (arith, t.objects)) (omega (arith, levels_long)) in
      let same : length levels * length marks ≡ depth * length S = (λ i. levels_long i * t.objects i) in
      let less : depth * length S ≤ length starts * length S = mul-le-mul_right (length S) t.within in
      omega (arith, full, same, less, t.room)

  pub trailed_set : (o : ℕ) (r : Reach) (T : State) (ds : List Entry) (news : List ℕ) (left : ℕ) → o < length S → Narrows S o r → T ≡ set S o r → news ≡ set marks o depth
      → ((get_or marks o 0 < depth) × (ds ≡ es ++ entry_of S o (get_or marks o 0) ∷ [])) ⊎ ((depth ≤ get_or marks o 0) × (ds ≡ es))
      → length ds + left ≡ length es + spare
      → IsTrailed T ds news starts depth left × (restored T ds (take depth starts) ≡ restored S es (take depth starts))
  trailed_set o r T ds news left b n et en (inl h) room =
      let e : Entry = entry_of S o (get_or marks o 0) in
      let lt : get_or marks o 0 < length levels = omega (arith, h.0, levels_long) in
      let in' : o < length marks = omega (arith, t.objects) in
      let same : restored T ds levels ≡ restored S es levels = (λ i. restored (et i) (h.1 i) levels) ∙ saves_restored es marks levels t.undoable o (reach S o) in' S r refl in
      let now : set marks o (length levels) ≡ news = ap (set marks o) levels_long ∙ sym en in
      let long : length T ≡ length S = ap length et ∙ length-set S o r in (
        record {
          within = t.within;
          objects = ap length en ∙ length-set marks o depth ∙ t.objects ∙ sym long;
          room = let k : length starts * length T ≡ length starts * length S = ap (λ (k : ℕ). length starts * k) long in omega (arith, k, room, t.room);
          exist = subst (λ (n : ℕ). All (λ d. d.object < n) ds) (sym long) (subst (All (λ d. d.object < length S)) (sym h.1) (All-push (λ d. d.object < length S) es e t.exist b));
          undoable = subst (λ (x : List Entry × List ℕ). IsUndoable x.0 x.1 levels) (λ i. (sym h.1 i, now i)) (saves es marks levels t.undoable o (reach S o) in' lt);
          trail = subst (IsTrail T) (sym same) (subst (λ (X : State). IsTrail X (restored S es levels)) (sym et) (trail_narrowed S (restored S es levels) o r t.trail b n));
        },
        same,
      )
  trailed_set o r T ds news left b n et en (inr h) room =
      let in' : o < length marks = omega (arith, t.objects) in
      let same : restored T ds levels ≡ restored S es levels = (λ i. restored (et i) (h.1 i) levels) ∙ keeps_restored es marks levels t.undoable o (reach S o) in' S r (omega (arith, h.0, levels_long)) in
      let level : depth ≡ get_or marks o 0 = omega (arith, h.0, trailed_mark o) in
      let now : marks ≡ news = sym (set-get_or marks o 0) ∙ ap (set marks o) (sym level) ∙ sym en in
      let long : length T ≡ length S = ap length et ∙ length-set S o r in (
        record {
          within = t.within;
          objects = ap length en ∙ length-set marks o depth ∙ t.objects ∙ sym long;
          room = let k : length starts * length T ≡ length starts * length S = ap (λ (k : ℕ). length starts * k) long in omega (arith, k, room, t.room);
          exist = subst (λ (n : ℕ). All (λ d. d.object < n) ds) (sym long) (subst (All (λ d. d.object < length S)) (sym h.1) t.exist);
          undoable = subst (λ (x : List Entry × List ℕ). IsUndoable x.0 x.1 levels) (λ i. (sym h.1 i, now i)) t.undoable;
          trail = subst (IsTrail T) (sym same) (subst (λ (X : State). IsTrail X (restored S es levels)) (sym et) (trail_narrowed S (restored S es levels) o r t.trail b n));
        },
        same,
      )

  -- the same where the levels are written to a vector through a slice
  pub trailed_wrote : (o : ℕ) (r : Reach) (T : State) (ds : List Entry) (olds news : List ℕ) (n left : ℕ) → olds ≡ marks → length olds ≡ n → o < length S → Narrows S o r → T ≡ set S o r → news ≡ set olds o depth
      → ((get_or olds o 0 < depth) × (ds ≡ es ++ entry_of S o (get_or olds o 0) ∷ [])) ⊎ ((depth ≤ get_or olds o 0) × (ds ≡ es))
      → length ds + left ≡ length es + spare
      → IsTrailed T ds (take n (news ++ drop (length news) marks)) starts depth left × (restored T ds (take depth starts) ≡ restored S es (take depth starts))
  trailed_wrote o r T ds olds news n left e ln b k et en items room =
      let Saves : List ℕ → Type 0 = λ ms. ((get_or ms o 0 < depth) × (ds ≡ es ++ entry_of S o (get_or ms o 0) ∷ [])) ⊎ ((depth ≤ get_or ms o 0) × (ds ≡ es)) in
      let set_now : news ≡ set marks o depth = en ∙ ap (λ (ms : List ℕ). set ms o depth) e in
      let done = trailed_set o r T ds news left b k et set_now (subst Saves e items) room in
      let same : take n (news ++ drop (length news) marks) ≡ news = written news marks n (sym (ap length e) ∙ ln) (ap length set_now ∙ length-set marks o depth) in
      (subst (λ (ms : List ℕ). IsTrailed T ds ms starts depth left) (sym same) done.0, done.1)

  -- ---- a level is closed

  last : (m n : ℕ) → depth ≡ suc m → n ≡ get_or starts m n → levels ≡ take m starts ++ n ∷ []
  last m n e en = ap (λ (k : ℕ). take k starts) e ∙ take-suc starts m n (omega (arith, e, t.within)) ∙ ap (λ (k : ℕ). take m starts ++ k ∷ []) (sym en)

  -- the level was opened with no more entries than there are
  pub trailed_least : (m n : ℕ) → depth ≡ suc m → n ≡ get_or starts m n → n ≤ length es
  trailed_least m n e en = m_within es marks (take m starts) n (subst (IsUndoable es marks) (last m n e en) t.undoable)

  pub trailed_close : (m n left : ℕ) (T : State) (ds : List Entry) (news : List ℕ) → depth ≡ suc m → n ≡ get_or starts m n → T ≡ state_before S (drop n es) → ds ≡ take n es → news ≡ marks_before marks (drop n es)
      → length ds + left ≡ length es + spare
      → IsTrailed T ds news starts m left × (restored S es (take depth starts) ≡ restored T ds (take m starts) ++ T ∷ []) × Inside S T
  trailed_close m n left T ds news e en et ed em room =
      let shut = last m n e en in
      let u = subst (IsUndoable es marks) shut t.undoable in
      let back : restored S es levels ≡ restored T ds (take m starts) ++ T ∷ [] =
      ap (restored S es) shut ∙ closes_restored es marks (take m starts) n u S ∙ (λ i. restored (sym et i) (sym ed i) (take m starts) ++ sym et i ∷ []) in
      let p = trail_pop S T (restored T ds (take m starts)) (subst (IsTrail S) back t.trail) in
      let long : length T ≡ length S = ap length et ∙ length_undone (λ d. d.reach) S (drop n es) in (
        record {
          within = omega (arith, e, t.within);
          objects = ap length em ∙ length_undone (λ d. d.level) marks (drop n es) ∙ t.objects ∙ sym long;
          room = let k : length starts * length T ≡ length starts * length S = ap (λ (k : ℕ). length starts * k) long in omega (arith, k, room, t.room);
          exist = subst (λ (n : ℕ). All (λ d. d.object < n) ds) (sym long) (subst (All (λ d. d.object < length S)) (sym ed) (All-take (λ d. d.object < length S) n es t.exist));
          undoable = subst (λ (x : List Entry × List ℕ). IsUndoable x.0 x.1 (take m starts)) (λ i. (sym ed i, sym em i)) (closes es marks (take m starts) n u);
          trail = p.0;
        },
        back,
        p.1,
      )

  pub trailed_shut : (m n k left : ℕ) (T : State) (ds : List Entry) (olds news : List ℕ) → olds ≡ marks → length olds ≡ k → depth ≡ suc m → n ≡ get_or starts m n → T ≡ state_before S (drop n es) → ds ≡ take n es → news ≡ marks_before olds (drop n es)
      → length ds + left ≡ length es + spare
      → IsTrailed T ds (take k (news ++ drop (length news) marks)) starts m left × (restored S es (take depth starts) ≡ restored T ds (take m starts) ++ T ∷ []) × Inside S T
  trailed_shut m n k left T ds olds news e lk em en et ed et_marks room =
      let now : news ≡ marks_before marks (drop n es) = et_marks ∙ ap (λ (ms : List ℕ). marks_before ms (drop n es)) e in
      let done = trailed_close m n left T ds news em en et ed now room in
      let same : take k (news ++ drop (length news) marks) ≡ news = written news marks k (sym (ap length e) ∙ lk) (ap length now ∙ length_undone (λ d. d.level) marks (drop n es)) in
      (subst (λ (ms : List ℕ). IsTrailed T ds ms starts m left) (sym same) done.0, done.1, done.2)

-- ---- the last of the entries is taken

pub record IsLast (all xs ys : List Entry) (e : Entry) : Type 0 where
  pub count : length xs ≡ suc (length ys)
  pub left : ys ≡ take (length ys) all
  pub behind : drop (length ys) all ≡ e ∷ drop (length xs) all
  pub exists : (n : ℕ) → All (λ d. d.object < n) all → e.object < n

pub last_of : (all xs ys : List Entry) (e : Entry) → xs ≡ take (length xs) all → xs ≡ ys ++ e ∷ [] → IsLast all xs ys e
last_of all xs ys e front ends =
    let count : length xs ≡ suc (length ys) = omega (arith, ap length ends, length-append ys (e ∷ [])) in
    let within : suc (length ys) ≤ length all = omega (arith, count, ap length front, length-take (length xs) all) in
    let cut : take (suc (length ys)) all ≡ take (length ys) all ++ get_or all (length ys) e ∷ [] = take-suc all (length ys) e within in
    let same : ys ++ e ∷ [] ≡ take (length ys) all ++ get_or all (length ys) e ∷ [] = sym ends ∙ front ∙ ap (λ (k : ℕ). take k all) count ∙ cut in
    let long : length (take (length ys) all) ≡ length ys = length-take-le (length ys) all (omega arith) in
    let there : e ≡ get_or all (length ys) e =
    sym (get_or-append_seam ys e [] e) ∙ ap (λ (l : List Entry). get_or l (length ys) e) same
    ∙ ap (λ (k : ℕ). get_or (take (length ys) all ++ get_or all (length ys) e ∷ []) k e) (sym long)
    ∙ get_or-append_seam (take (length ys) all) (get_or all (length ys) e) [] e in
    record {
      count = count;
      left = sym (take-append_seam ys (e ∷ [])) ∙ ap (take (length ys)) same
          ∙ ap (λ (k : ℕ). take k (take (length ys) all ++ get_or all (length ys) e ∷ [])) (sym long) ∙ take-append_seam (take (length ys) all) (get_or all (length ys) e ∷ []);
      behind = drop-cons all (length ys) e within ∙ (λ i. sym there i ∷ drop (sym count i) all);
      exists = λ n a. subst (λ (d : Entry). d.object < n) (sym there) (a (length ys) e within);
    }
