-- A list of covers, built place by place.
use Rattle.std.proofs.Common.{◌≡◌, ℕ, zero, suc, ◌+◌, ◌<◌, ◌≤◌, Bool, true, false, ◌&&◌, List, [], ◌∷◌, ◌++◌, length, set, get_or, refl, sym, ap, ◌∙◌, subst, arith, Option, Some, None, append_assoc}
use Rattle.std.specs.Prelude.{nat_le, if◌then◌else◌}
use Rattle.std.proofs.lemmas.Bool.{false≢true, le-leb, lt-leb, eq-eqb, and_from}
use Rattle.std.proofs.lemmas.List.{append-nil}
use Rattle.geo_conditions.specs.declared.cond.Cond.{Cond}
use Rattle.geo_conditions.specs.Reach.{State, Region, reach, has, without, dims}
use Rattle.derivation.specs.declared.event.Event.{Event}
use Rattle.derivation.specs.declared.event.Event.TheVariants.{Drop, Gone, Cover, EndCovers}
use Rattle.derivation.specs.declared.side.Side.{Side}
use Rattle.derivation.specs.Covers.{CoverTree, events_of, covers, IsCut, HasNumbersIn}
use Rattle.derivation.specs.Cuts.{far}
use Rattle.derivation.specs.PlaceCovers.{PlaceCover, open_events, next_at, next_place, is_that, is_nothing, all_cover, CoversBelow, HaveNumbersIn, RecordedBelow, RecordedCovers, covers_events}
use Rattle.derivation.specs.Chains.{Drops, Bounds, bound_event, moved, Narrows, Leads, Closes, IsGone}
use Rattle.derivation.proofs.Chains.{leads_one, closes_end, moved_is_cut}

-- ---- the next place

abbrev turn : Bool → ℕ → ℕ → List Bool → Option ℕ
turn x k n bs = if x then Some k else next_at (suc k) n bs

low_same : (k n m : ℕ) (bs : List Bool) → n ≤ k → m ≤ k → next_at k n bs ≡ next_at k m bs
low_same k n m [] h l = refl
low_same k n m (b ∷ bs) h l =
    ap (λ (x : Bool). turn (b && x) k n bs) (le-leb n k h) ∙ ap (λ (z : Option ℕ). if b && true then Some k else z) (low_same (suc k) n m bs (omega arith) (omega arith)) ∙ sym (ap (λ (x : Bool). turn (b && x) k m bs) (le-leb m k l))

past : (n : ℕ) (b : Bool) (k : ℕ) (bs : List Bool) → k < n → next_at k n (b ∷ bs) ≡ next_at (suc k) n bs
past n true k bs l = ap (λ (x : Bool). turn x k n bs) (lt-leb n k l)
past n false k bs l = refl

pub skip_at : (k j : ℕ) (bs : List Bool) → get_or bs j false ≡ false → next_at k (k + j) bs ≡ next_at k (k + j + 1) bs
skip_at k j [] h = refl
skip_at k zero (b ∷ bs) h =
    ap (λ (x : Bool). turn (x && nat_le (k + 0) k) k (k + 0) bs) h ∙ low_same (suc k) (k + 0) (k + 0 + 1) bs (omega arith) (omega arith) ∙ sym (ap (λ (x : Bool). turn (x && nat_le (k + 0 + 1) k) k (k + 0 + 1) bs) h)
skip_at k (suc j) (b ∷ bs) h =
    let e : k + suc j ≡ suc k + j = omega arith in
    past (k + suc j) b k bs (omega arith) ∙ ap (λ (n : ℕ). next_at (suc k) n bs) e ∙ skip_at (suc k) j bs h ∙ ap (λ (n : ℕ). next_at (suc k) n bs) (let f : suc k + j + 1 ≡ k + suc j + 1 = omega arith in f) ∙ sym (past (k + suc j + 1) b k bs (omega arith))

pub here_at : (k j : ℕ) (bs : List Bool) → get_or bs j false ≡ true → next_at k (k + j) bs ≡ Some (k + j)
here_at k j [] h = absurd (false≢true h)
here_at k zero (b ∷ bs) h =
    ap (λ (x : Bool). turn (x && nat_le (k + 0) k) k (k + 0) bs) h ∙ ap (λ (x : Bool). turn x k (k + 0) bs) (le-leb (k + 0) k (omega arith)) ∙ ap (λ (n : ℕ). Some n) (let e : k ≡ k + 0 = omega arith in e)
here_at k (suc j) (b ∷ bs) h =
    past (k + suc j) b k bs (omega arith) ∙ ap (λ (n : ℕ). next_at (suc k) n bs) (let e : k + suc j ≡ suc k + j = omega arith in e) ∙ here_at (suc k) j bs h ∙ ap (λ (n : ℕ). Some n) (let e : suc k + j ≡ k + suc j = omega arith in e)

pub none_at : (k n : ℕ) (bs : List Bool) → k + length bs ≤ n → next_at k n bs ≡ None
none_at k n [] h = refl
none_at k n (b ∷ bs) h = past n b k bs (omega arith) ∙ none_at (suc k) n bs (omega arith)

-- ---- the covers below a place

module _ (cs : List Cond) (S : State) (o : ℕ) (b : Region) where
  pub below_start : CoversBelow cs S o b 1 []
  below_start = record { whole = λ more h. h }

  same_next : (n : ℕ) (more : List PlaceCover) → next_place n (reach S o).places ≡ next_place (n + 1) (reach S o).places → all_cover cs S o b (n + 1) more ≡ true → all_cover cs S o b n more ≡ true
  same_next n [] e h = ap is_nothing e ∙ h
  same_next n (c ∷ more) e h = ap (λ (f : Option ℕ). is_that f c.place && (covers cs S o c.place b c.tree && all_cover cs S o b (c.place + 1) more)) e ∙ h

  -- a place that is not there
  pub below_skip : (n : ℕ) (list : List PlaceCover) → 1 ≤ n → has S o n ≡ false → CoversBelow cs S o b n list → CoversBelow cs S o b (n + 1) list
  below_skip zero list l h c = absurd (omega arith)
  below_skip (suc j) list l h c = record { whole = λ more f. c.whole more (same_next (suc j) more (let e : 1 + j ≡ suc j = omega arith in subst (λ (n : ℕ). next_place n (reach S o).places ≡ next_place (n + 1) (reach S o).places) e (skip_at 1 j (reach S o).places h)) f) }

  next_here : (n : ℕ) → 1 ≤ n → has S o n ≡ true → is_that (next_place n (reach S o).places) n ≡ true
  next_here zero l h = absurd (omega arith)
  next_here (suc j) l h =
      let e : 1 + j ≡ suc j = omega arith in
      ap (λ (f : Option ℕ). is_that f (suc j)) (subst (λ (n : ℕ). next_place n (reach S o).places ≡ Some n) e (here_at 1 j (reach S o).places h)) ∙ eq-eqb (suc j) (suc j) refl

  -- a place that is there, with its cover
  pub below_more : (n : ℕ) (list : List PlaceCover) (t : CoverTree) → 1 ≤ n → has S o n ≡ true → covers cs S o n b t ≡ true → CoversBelow cs S o b n list → CoversBelow cs S o b (n + 1) (list ++ record { place = n; tree = t } ∷ [])
  below_more n list t l h v c = record {
    whole = λ more f.
        subst (λ (ms : List PlaceCover). all_cover cs S o b 1 ms ≡ true) (sym (append_assoc list (record { place = n; tree = t } ∷ []) more))
        (c.whole (record { place = n; tree = t } ∷ more) (and_from _ _ (next_here n l h) (and_from _ _ v f)));
  }

  -- past the last place the list is whole
  pub below_end : (n : ℕ) (list : List PlaceCover) → length (reach S o).places < n → CoversBelow cs S o b n list → all_cover cs S o b 1 list ≡ true
  below_end n list h c = subst (λ (ms : List PlaceCover). all_cover cs S o b 1 ms ≡ true) (append-nil list) (c.whole [] (ap is_nothing (none_at 1 n (reach S o).places (omega arith))))

-- ---- their record

numbers_more : (k m : ℕ) (list : List PlaceCover) (c : PlaceCover) → HaveNumbersIn k m list → HasNumbersIn k m c.tree → HaveNumbersIn k m (list ++ c ∷ [])
numbers_more k m [] c h n = (n, tt)
numbers_more k m (d ∷ list) c h n = (h.0, numbers_more k m list c h.1 n)

open_more : (list : List PlaceCover) (c : PlaceCover) → open_events (list ++ c ∷ []) ≡ open_events list ++ (Cover c.place ∷ events_of c.tree)
open_more [] c = ap (λ (es : List Event). Cover c.place ∷ es) (append-nil (events_of c.tree))
open_more (m ∷ list) c = ap (λ (es : List Event). Cover m.place ∷ (events_of m.tree ++ es)) (open_more list c) ∙ ap (λ (es : List Event). Cover m.place ∷ es) (sym (append_assoc (events_of m.tree) (open_events list) (Cover c.place ∷ events_of c.tree)))

module _ (cs : List Cond) (S : State) (o : ℕ) (b : Region) where
  -- no place is recorded
  pub recorded_start : (old : List Event) → RecordedBelow cs S o b 1 old old
  recorded_start old = record { list = []; events = sym (append-nil old); below = below_start cs S o b; numbers = tt }

  -- a place that is not there
  pub recorded_skip : (n : ℕ) (old now : List Event) → 1 ≤ n → has S o n ≡ false → RecordedBelow cs S o b n old now → RecordedBelow cs S o b (n + 1) old now
  recorded_skip n old now l h r = record { list = r.list; events = r.events; below = below_skip cs S o b n r.list l h r.below; numbers = r.numbers }

  -- a place that is there, and then its cover
  pub recorded_more : (n : ℕ) (t : CoverTree) (old now mid end : List Event) → 1 ≤ n → has S o n ≡ true → mid ≡ now ++ (Cover n ∷ []) → end ≡ mid ++ events_of t → covers cs S o n b t ≡ true
      → HasNumbersIn (dims S o) (length cs) t → RecordedBelow cs S o b n old now → RecordedBelow cs S o b (n + 1) old end
  recorded_more n t old now mid end l h f g v w r = record {
    list = r.list ++ record { place = n; tree = t } ∷ [];
    events =
        g ∙ ap (λ (xs : List Event). xs ++ events_of t) (f ∙ ap (λ (xs : List Event). xs ++ (Cover n ∷ [])) r.events ∙ append_assoc old (open_events r.list) (Cover n ∷ [])) ∙ append_assoc old (open_events r.list ++ (Cover n ∷ [])) (events_of t)
        ∙ ap (λ (xs : List Event). old ++ xs) (append_assoc (open_events r.list) (Cover n ∷ []) (events_of t) ∙ sym (open_more r.list (record { place = n; tree = t })));
    below = below_more cs S o b n r.list t l h v r.below;
    numbers = numbers_more (dims S o) (length cs) r.list (record { place = n; tree = t }) r.numbers w;
  }

  -- past the last place, the end of the list
  pub recorded_end : (n : ℕ) (old now end : List Event) → length (reach S o).places < n → end ≡ now ++ (EndCovers ∷ []) → RecordedBelow cs S o b n old now → RecordedCovers cs S o b old end
  recorded_end n old now end h e r = record {
    list = r.list;
    events = e ∙ ap (λ (xs : List Event). xs ++ (EndCovers ∷ [])) r.events ∙ append_assoc old (open_events r.list) (EndCovers ∷ []);
    all = below_end cs S o b n r.list h r.below;
    numbers = r.numbers;
  }

-- ---- whole links and endings, as they are recorded

-- a place is dropped: its event, and then the cover of the whole region
pub drop_led : (cs : List Cond) (S T : State) (o s : ℕ) (t : CoverTree) (old mid end : List Event) → has S o s ≡ true → covers cs S o s (reach S o).region t ≡ true → HasNumbersIn (dims S o) (length cs) t → mid ≡ old ++ (Drop (record { 0 = o }) s ∷ []) → end ≡ mid ++ events_of t
    → T ≡ set S o (without (reach S o) s) → (es : List Event) × (end ≡ old ++ es) × Leads cs S es T
drop_led cs S T o s t old mid end h v w f g e = (
  Drop (record { 0 = o }) s ∷ events_of t,
  g ∙ ap (λ (xs : List Event). xs ++ events_of t) f ∙ append_assoc old (Drop (record { 0 = o }) s ∷ []) (events_of t),
  subst (Leads cs S (Drop (record { 0 = o }) s ∷ events_of t)) (sym e) (leads_one cs S (Drops o s t) (h, v, w)),
)

-- a bound moves: its event, and then a whole list of covers of the rest
pub bound_led : (cs : List Cond) (S T : State) (o : ℕ) (side : Side) (old mid end : List Event) → o < length S → IsCut (dims S o) side → Narrows S o side → mid ≡ old ++ (bound_event o side ∷ []) → RecordedCovers cs S o (far side (reach S o).region) mid end
    → T ≡ set S o (moved side (reach S o)) → (es : List Event) × (end ≡ old ++ es) × Leads cs S es T
bound_led cs S T o side old mid end x k n f r e = (
  bound_event o side ∷ covers_events r.list,
  r.events ∙ ap (λ (xs : List Event). xs ++ covers_events r.list) f ∙ append_assoc old (bound_event o side ∷ []) (covers_events r.list),
  subst (Leads cs S (bound_event o side ∷ covers_events r.list)) (sym (e ∙ ap (set S o) (moved_is_cut S o side n))) (leads_one cs S (Bounds o side r.list) (x, k, n, r.all, r.numbers)),
)

-- an object has no point: its event, and then a whole list of covers of its region
pub gone_closed : (cs : List Cond) (S : State) (o : ℕ) (old mid end : List Event) → o < length S → mid ≡ old ++ (Gone (record { 0 = o }) ∷ []) → RecordedCovers cs S o (reach S o).region mid end → (es : List Event) × (end ≡ old ++ es) × Closes cs S es
gone_closed cs S o old mid end there f r = (
  Gone (record { 0 = o }) ∷ covers_events r.list,
  r.events ∙ ap (λ (xs : List Event). xs ++ covers_events r.list) f ∙ append_assoc old (Gone (record { 0 = o }) ∷ []) (covers_events r.list),
  closes_end cs S (IsGone o r.list) (there, r.all, r.numbers),
)
