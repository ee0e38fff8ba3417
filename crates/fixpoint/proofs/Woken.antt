-- Waking the neighbours of an object: what is queued and what is marked.
use Rattle.std.proofs.Common.{◌≡◌, ◌≢◌, ◌⊎◌, ℕ, ◌+◌, ◌-◌, ◌<◌, ◌≤◌, Bool, true, false, List, [], ◌∷◌, ◌++◌, length, set, get_or, refl, sym, ap, ◌∙◌, subst, inl, inr, arith}
use Rattle.std.proofs.lemmas.Bool.{false≢true, cases_eq}
use Rattle.std.proofs.lemmas.List.{get_or-set_same, get_or-set_other}
use Rattle.std.proofs.lemmas.Option.{same_Some, slice_get-get_or, slice_get_within}
use Rattle.std.specs.Prelude.{slice_get, slice_index, Some}
use Rattle.sweep.proofs.PickedConditions.{pick_in}
use Rattle.std.proofs.Math.ListN.{length-set}
use Rattle.geo_conditions.specs.declared.cond.Cond.{Cond}
use Rattle.geo_conditions.specs.Conditions.{AllFit}
use Rattle.geo_conditions.specs.Reach.{State, reach, is_only}
use Rattle.object_pruning.specs.declared.rows.Group.{Group}
use Rattle.object_pruning.specs.declared.rows.Rows.{Rows}
use Rattle.object_pruning.specs.InRows.{HaveNumber, IsInGroup}
use Rattle.object_pruning.proofs.LivePicks.{HaveBelow, fit}
use Rattle.fixpoint.specs.declared.links.Links.{Links}
use Rattle.geo_conditions.specs.declared.object.ObjId.{ObjId}
use Rattle.fixpoint.specs.Links.{AreLinks, AreSomeRows, IsByPlace, row, is_among}
use Rattle.fixpoint.specs.Marks.{MarkRows, is_marked, marks_of, IsSquare, MarksAt, NotesChanges}
use Rattle.fixpoint.specs.Near.{IsPair, Unhinders, Unhindered, UnhinderedBy}
use Rattle.fixpoint.specs.Queue.{Queues, CatchesUp}
use Rattle.fixpoint.proofs.Linking.{nth, each_named, among_not}

-- ---- what is queued

-- nothing is done where all are free
pub queues_none : (Free : ℕ → Type 0) (u : ℕ) (q : List Bool) → ((o : ℕ) → o ≢ u → o < length q → Free o) → Queues Free u q q
queues_none Free u q f = record { objects = refl; itself = refl; others = λ o n h e. (e, f o n h) }

pub queues_weaker : (Free More : ℕ → Type 0) (u : ℕ) (old new : List Bool) → ((o : ℕ) → o ≢ u → o < length old → Free o → More o) → Queues Free u old new → Queues More u old new
queues_weaker Free More u old new f q = record {
  objects = q.objects;
  itself = q.itself;
  others = λ o n h e. let w = q.others o n h e in (w.0, f o n h w.1);
}

-- one after the other
pub queues_both : (First Second Both : ℕ → Type 0) (u : ℕ) (old mid new : List Bool) → ((o : ℕ) → First o → Second o → Both o) → Queues First u old mid → Queues Second u mid new → Queues Both u old new
queues_both First Second Both u old mid new f p q = record {
  objects = q.objects ∙ p.objects;
  itself = q.itself ∙ p.itself;
  others = λ o n h e.
      let w = q.others o n (omega (arith, h, p.objects)) e in
      let v = p.others o n h w.0 in
      (v.0, f o v.1 w.1);
}

-- ---- what is marked

pub marks_none : (Free : ℕ → Type 0) (u : ℕ) (marks : MarkRows) → ((o : ℕ) → o ≢ u → o < length marks → Free o) → MarksAt Free u marks marks
marks_none Free u marks f = record { stay = λ o v e. e; fresh = λ o n h e. f o n h }

pub marks_weaker : (Free More : ℕ → Type 0) (u : ℕ) (old new : MarkRows) → ((o : ℕ) → o ≢ u → o < length old → Free o → More o) → MarksAt Free u old new → MarksAt More u old new
marks_weaker Free More u old new f m = record { stay = m.stay; fresh = λ o n h e. f o n h (m.fresh o n h e) }

pub marks_both : (First Second Both : ℕ → Type 0) (u : ℕ) (old mid new : MarkRows) → length mid ≡ length old → ((o : ℕ) → First o → Second o → Both o) → MarksAt First u old mid → MarksAt Second u mid new → MarksAt Both u old new
marks_both First Second Both u old mid new long f p q = record {
  stay = λ o v e. p.stay o v (q.stay o v e);
  fresh = λ o n h e. f o (p.fresh o n h (q.stay o u e)) (q.fresh o n (omega (arith, h, long)) e);
}

-- a row is replaced by one as long
pub square_put : (n o : ℕ) (marks : MarkRows) (v : List Bool) → o < length marks → length v ≡ n → IsSquare n marks → IsSquare n (set marks o v)
square_put n o marks v h long s = record {
  rows = length-set marks o v ∙ s.rows;
  each = λ p b. elim (cases_eq p o) [
    | inl e ↦ subst (λ (z : ℕ). length (marks_of (set marks o v) z) ≡ n) (sym e) (ap length (get_or-set_same marks o v [] h) ∙ long)
    | inr ne ↦ ap length (get_or-set_other marks o p v [] ne) ∙ s.each p b
  ];
}

-- ---- the loop over the objects that a condition names

-- what is so once the objects of the list were marked
pub record Marked (u : ℕ) (list : List ObjId) (old new : List Bool) (before after : MarkRows) : Type 0 where
  pub queued : Queues (λ o. is_among o list ≡ false) u old new
  pub marked : MarksAt (λ o. is_among o list ≡ false) u before after
  pub square : IsSquare (length old) after

pub marked_put : (u : ℕ) (list : List ObjId) (o : ObjId) (old q new : List Bool) (before marks after : MarkRows) → length marks ≡ length before → Queues (λ v. v ≢ o.0) u q new → MarksAt (λ v. v ≢ o.0) u marks after → IsSquare (length old) after → Marked u list old q before marks → Marked u (list ++ o ∷ []) old new before after
marked_put u list o old q new before marks after rows x y z m = record {
  queued = queues_both _ _ _ u old q new (λ p f n. among_not p list o f n) m.queued x;
  marked = marks_both _ _ _ u before marks after rows (λ p f n. among_not p list o f n) m.marked y;
  square = z;
}

pub marked_skip : (u : ℕ) (list : List ObjId) (o : ObjId) (old q : List Bool) (before marks : MarkRows) → o.0 ≡ u → Queues (λ p. is_among p list ≡ false) u old q → MarksAt (λ p. is_among p list ≡ false) u before marks → IsSquare (length old) marks → Marked u (list ++ o ∷ []) old q before marks
marked_skip u list o old q before marks e x y z = record {
  queued = queues_weaker _ _ u old q (λ p n h f. among_not p list o f (λ s. n (s ∙ e))) x;
  marked = marks_weaker _ _ u before marks (λ p n h f. among_not p list o f (λ s. n (s ∙ e))) y;
  square = z;
}

-- ---- the conditions that name u

-- nothing is done where all are free that are not queued
pub queues_stay : (Free : ℕ → Type 0) (u : ℕ) (q : List Bool) → ((o : ℕ) → o ≢ u → get_or q o false ≡ false → Free o) → Queues Free u q q
queues_stay Free u q f = record { objects = refl; itself = refl; others = λ o n h e. (e, f o n e) }

pub marks_stay : (Free : ℕ → Type 0) (u : ℕ) (marks : MarkRows) → ((o : ℕ) → o ≢ u → is_marked marks o u ≡ false → Free o) → MarksAt Free u marks marks
marks_stay Free u marks f = record { stay = λ o v e. e; fresh = λ o n h e. f o n e }

-- conditions of u and v leave each third object free
pub by_pair : (cs : List Cond) (S : State) (Those : ℕ → Type 0) (u v : ℕ) → ((i : ℕ) (x : Cond) → Those i → slice_get cs (i - 1) ≡ Some x → IsPair x u v) → (o : ℕ) → o ≢ u → o ≢ v → UnhinderedBy cs S Those o
by_pair cs S Those u v pair o first second i x b e n = elim ((pair i x b e).named o n) [ inl s ↦ absurd (first s) | inr s ↦ absurd (second s) ]

module _ (cs : List Cond) (S : State) (o : ℕ) where
  pub free_both : (P Q R : ℕ → Type 0) → ((i : ℕ) → R i → P i ⊎ Q i) → UnhinderedBy cs S P o → UnhinderedBy cs S Q o → UnhinderedBy cs S R o
  free_both P Q R either f g i x r e = elim (either i r) [ inl p ↦ f i x p e | inr q ↦ g i x q e ]

  pub free_one : (number : ℕ) (c : Cond) → slice_get cs (number - 1) ≡ Some c → Unhinders c S o → UnhinderedBy cs S (λ i. i ≡ number) o
  free_one number c at h i x s e = subst (λ (y : Cond). Unhinders y S o) (same_Some _ _ (sym at ∙ subst (λ (m : ℕ). slice_get cs (m - 1) ≡ Some x) s e)) h

  -- the first row and the others have all that name u
  pub free_end : (n u : ℕ) (l : Links) (d : Rows) → AreLinks cs n l → u < n → UnhinderedBy cs S (HaveNumber (row (get_or l.rows.items u d).rows.items 0)) o → UnhinderedBy cs S (IsByPlace (get_or l.rows.items u d)) o → Unhindered cs S u o
  free_end n u l d a h f g =
      let rows = (get_or l.rows.items u d).rows.items in
      let picks = row l.picks.items u in
      let are = a.rows.each u d h in
      let each : (j : ℕ) (y : Cond) → j < length picks → Unhinders (get_or cs (nth l u j) y) S o = λ j y b.
      let k = pick_in (length cs) picks j (a.picks u h).within b in
      let w = are.each j b in
      let i = slice_index picks j in
      let at = slice_get-get_or cs (nth l u j) y k.1 in
      elim (cases_eq w.0 0) [
        | inl z ↦ f i (get_or cs (nth l u j) y) (subst (λ (r : ℕ). HaveNumber (row rows r) i) z w.1) at
        | inr nz ↦ g i (get_or cs (nth l u j) y) (w.0, nz, w.1) at
      ] in
      each_named (λ c. Unhinders c S o) cs n u l a h each

  -- where u has not the place of a row alone, its conditions leave the others free
  pub free_by_place : (u : ℕ) (rows : Rows) → AllFit cs S → u < length S → o ≢ u → AreSomeRows cs u rows → ((r : ℕ) → (is_only (reach S u).places r ≡ false) ⊎ UnhinderedBy cs S (HaveNumber (row rows.rows.items r)) o) → UnhinderedBy cs S (IsByPlace rows) o
  free_by_place u rows fits there other a either i x w e n = elim (either w.0) [
    | inl not_only ↦ λ s p. ((a.2.groups w.0 w.2.0 w.2.1 w.2.2).faces i x w.2.3 e).alone w.1 S (fit cs S u fits there i x e) there not_only o s p other n
    | inr f ↦ f i x w.2 e n
  ]

  -- of the groups of a row, one after another
  pub free_group : (gs : List Group) (k : ℕ) (d : Group) → k < length gs → UnhinderedBy cs S (HaveBelow gs k) o → UnhinderedBy cs S (IsInGroup (get_or gs k d)) o → UnhinderedBy cs S (HaveBelow gs (k + 1)) o
  free_group gs k d h = free_both (HaveBelow gs k) (IsInGroup (get_or gs k d)) (HaveBelow gs (k + 1)) (λ i r. elim (cases_eq r.0 k) [
    | inl e ↦ inr (subst (λ (x : Group). IsInGroup x i) (same_Some _ _ (sym r.3 ∙ ap (slice_get gs) e ∙ slice_get-get_or gs k d h)) r.4)
    | inr ne ↦ inl (r.0, r.1, omega (arith, r.2, ne), r.3, r.4)
  ])

  pub free_groups : (gs : List Group) (k : ℕ) → length gs ≤ k → UnhinderedBy cs S (HaveBelow gs k) o → UnhinderedBy cs S (HaveNumber gs) o
  free_groups gs k h f i x q = f i x (q.0, q.1, omega (arith, h, slice_get_within gs q.0 q.1 q.2), q.2, q.3)

-- ---- the loop over what differs

-- of the objects below k each that differs is queued, with those that it may hinder
pub record CaughtBelow (cs : List Cond) (k : ℕ) (S T : State) (old new : List Bool) : Type 0 where
  pub objects : length new ≡ length old
  pub before : (o : ℕ) → o < length old → get_or new o false ≡ false → get_or old o false ≡ false
  pub same : (o : ℕ) → o < length old → o < k → get_or new o false ≡ false → reach S o ≡ reach T o
  pub others : (o u : ℕ) → o < length old → u < k → get_or new o false ≡ false → (reach S u ≡ reach T u) ⊎ Unhindered cs T u o

pub caught_start : (cs : List Cond) (S T : State) (q : List Bool) → CaughtBelow cs 0 S T q q
caught_start cs S T q = record { objects = refl; before = λ o h e. e; same = λ o h b e. absurd (omega arith); others = λ o u h b e. absurd (omega arith) }

-- an object that is the same
pub caught_same : (cs : List Cond) (k : ℕ) (S T : State) (old q : List Bool) → CaughtBelow cs k S T old q → reach S k ≡ reach T k → CaughtBelow cs (k + 1) S T old q
caught_same cs k S T old q c e = record {
  objects = c.objects;
  before = c.before;
  same = λ o h b f. elim (cases_eq o k) [ inl i ↦ subst (λ (z : ℕ). reach S z ≡ reach T z) (sym i) e | inr ne ↦ c.same o h (omega arith) f ];
  others = λ o u h b f. elim (cases_eq u k) [ inl i ↦ inl (subst (λ (z : ℕ). reach S z ≡ reach T z) (sym i) e) | inr ne ↦ c.others o u h (omega arith) f ];
}

-- an object that differs
pub caught_more : (cs : List Cond) (k : ℕ) (S T : State) (old q new : List Bool) → CaughtBelow cs k S T old q → k < length q → Queues (Unhindered cs T k) k (set q k true) new → CaughtBelow cs (k + 1) S T old new
caught_more cs k S T old q new c h t = record {
  objects = t.objects ∙ length-set q k true ∙ c.objects;
  before = λ o b f. c.before o b (was o b f);
  same = λ o b l f. c.same o b (omega (arith, l, other o f)) (was o b f);
  others = λ o u b l f. elim (cases_eq u k) [
    | inl i ↦ inr (subst (λ (z : ℕ). Unhindered cs T z o) (sym i) (t.others o (other o f) (omega (arith, b, length-set q k true, c.objects)) f).1)
    | inr ne ↦ c.others o u b (omega arith) (was o b f)
  ];
}
  where
    there : get_or new k false ≡ true
    there = t.itself ∙ get_or-set_same q k true false h

    other : (o : ℕ) → get_or new o false ≡ false → o ≢ k
    other o f e = false≢true (sym f ∙ subst (λ (z : ℕ). get_or new z false ≡ true) (sym e) there)

    was : (o : ℕ) → o < length old → get_or new o false ≡ false → get_or q o false ≡ false
    was o b f = sym (get_or-set_other q k o true false (other o f)) ∙ (t.others o (other o f) (omega (arith, b, length-set q k true, c.objects)) f).0

pub caught_end : (cs : List Cond) (k : ℕ) (S T : State) (old new : List Bool) → length S ≡ length old → length old ≤ k → CaughtBelow cs k S T old new → CatchesUp cs S T old new
caught_end cs k S T old new e h c = record {
  objects = c.objects;
  rest = λ o b f. (c.before o b f, record { itself = c.same o b (omega (arith, b, h)) f; others = λ u l. c.others o u b (omega (arith, l, h, e)) f });
}

-- of the objects below k each that differs is marked at those that it may hinder
pub record NotedBelow (cs : List Cond) (k : ℕ) (S T : State) (old new : MarkRows) : Type 0 where
  pub stay : (o v : ℕ) → is_marked new o v ≡ false → is_marked old o v ≡ false
  pub fresh : (o u : ℕ) → o < length S → u < k → o ≢ u → is_marked new o u ≡ false → (reach S u ≡ reach T u) ⊎ Unhindered cs T u o

pub noted_start : (cs : List Cond) (S T : State) (marks : MarkRows) → NotedBelow cs 0 S T marks marks
noted_start cs S T marks = record { stay = λ o v e. e; fresh = λ o u h b ne e. absurd (omega arith) }

pub noted_same : (cs : List Cond) (k : ℕ) (S T : State) (old marks : MarkRows) → NotedBelow cs k S T old marks → reach S k ≡ reach T k → NotedBelow cs (k + 1) S T old marks
noted_same cs k S T old marks n same = record {
  stay = n.stay;
  fresh = λ o u h b ne e. elim (cases_eq u k) [ inl i ↦ inl (subst (λ (z : ℕ). reach S z ≡ reach T z) (sym i) same) | inr m ↦ n.fresh o u h (omega (arith, b, m)) ne e ];
}

pub noted_more : (cs : List Cond) (k : ℕ) (S T : State) (old marks new : MarkRows) → NotedBelow cs k S T old marks → length marks ≡ length S → MarksAt (Unhindered cs T k) k marks new → NotedBelow cs (k + 1) S T old new
noted_more cs k S T old marks new n long m = record {
  stay = λ o v e. n.stay o v (m.stay o v e);
  fresh = λ o u h b ne e. elim (cases_eq u k) [
    | inl i ↦ inr (subst (λ (z : ℕ). Unhindered cs T z o) (sym i) (m.fresh o (λ s. ne (s ∙ sym i)) (omega (arith, h, long)) (subst (λ (z : ℕ). is_marked new o z ≡ false) i e)))
    | inr other ↦ n.fresh o u h (omega (arith, b, other)) ne (m.stay o u e)
  ];
}

pub noted_end : (cs : List Cond) (k : ℕ) (S T : State) (old new : MarkRows) → length S ≤ k → NotedBelow cs k S T old new → NotesChanges cs S T old new
noted_end cs k S T old new h n = record { stay = n.stay; fresh = λ o u a b ne e. n.fresh o u a (omega (arith, b, h)) ne e }
