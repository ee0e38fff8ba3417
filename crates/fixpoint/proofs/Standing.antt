-- Points that are kept of the objects stand as long as each condition that sees a change is asked anew.
use Rattle.std.proofs.Common.{◌≡◌, ◌≢◌, ◌⊎◌, ℕ, zero, suc, ◌-◌, ◌<◌, Bool, true, false, List, [], ◌∷◌, ◌++◌, length, map, set, get_or, refl, sym, ap, ◌∙◌, subst, inl, inr, arith, Some, None, Option, slice_index, eqb-true, eq-eqb, Vec, Global}
use Rattle.std.specs.Prelude.{nat_eq, if◌then◌else◌, IfSome}
use Rattle.std.specs.List.{All, list_any}
use Rattle.std.proofs.lemmas.Bool.{false≢true, or_cases, or_left, or_right, cases_eq, cases_lt}
use Rattle.std.proofs.lemmas.List.{get_or_past, get_or_default}
use Rattle.std.proofs.lemmas.Option.{slice_get-get_or, same_Some}
use Rattle.geo_conditions.specs.declared.cond.Cond.{Cond}
use Rattle.geo_conditions.specs.declared.object.ObjId.{ObjId}
use Rattle.geo_conditions.specs.Conditions.{possible}
use Rattle.geo_conditions.specs.Reach.{State, reach}
use Rattle.geo_conditions.specs.Supported.{NoneRefuted}
use Rattle.indexical.specs.Names.{names}
use Rattle.indexical.specs.Free.{SparesAnywhere}
use Rattle.indexical.specs.Sole.{Decides}
use Rattle.indexical.specs.declared.sole.SoleTerm.{SoleTerm}
use Rattle.sweep.specs.Picks.{picked}
use Rattle.sweep.proofs.PickedConditions.{picked_all, pick_in}
use Rattle.object_pruning.specs.declared.kept.Placed.{Placed}
use Rattle.object_pruning.specs.Kept.{AllSupport, placed, retried}
use Rattle.object_pruning.specs.Same.{SameBut}
use Rattle.object_pruning.proofs.Supports.{supports_at}
use Rattle.fixpoint.specs.Links.{PicksOf, NamedBy, is_among, row}
use Rattle.fixpoint.specs.Near.{NearUnrefuted, Unhindered}
use Rattle.fixpoint.specs.Kept.{at_most_0, Slots, IsBlank, AllStand, StandBut, Stand, RetriesMarked, StandsAlone}
use Rattle.fixpoint.specs.Marks.{MarkRows, marks_of, IsCleared, MarksAt, NotesChanges}
use Rattle.fixpoint.proofs.Names.{still_possible}
use Rattle.fixpoint.proofs.Linking.{named_all, row_set_same, row_set_other, or_first, or_second}

-- ---- one condition asks again

map_slot : {K : ℕ} (f : Option (Placed K) → Option (Placed K)) (xs : List (Option (Placed K))) (i : ℕ) → f None ≡ None → get_or (map f xs) i None ≡ f (get_or xs i None)
map_slot f [] i e = sym e
map_slot f (x ∷ xs) zero e = refl
map_slot f (x ∷ xs) (suc i) e = map_slot f xs i e

still : {K : ℕ} (b : Bool) (p q : Placed K) → (if b then Some p else None) ≡ Some q → (p ≡ q) × (b ≡ true)
still true p q e = (cc, refl)
still false p q e = absurd (cc)

-- what is still kept was kept, and the condition is possible there
retried_some : {K : ℕ} (c : Cond) (S : State) (o : ℕ) (x : Option (Placed K)) (q : Placed K) → retried c S o x ≡ Some q → (x ≡ Some q) × (possible c (placed S o q) ≡ true)
retried_some c S o None q e = absurd (cc)
retried_some c S o (Some p) q e = let y = still (possible c (placed S o p)) p q e in (ap Some y.0, subst (λ (r : Placed _). possible c (placed S o r) ≡ true) y.0 y.1)

-- where the condition is possible wherever the object is put, all that is kept stays
pub retried_anywhere : {K : ℕ} (c : Cond) (S : State) (o : ℕ) → SparesAnywhere c S o → (xs : List (Option (Placed K))) → map (retried c S o) xs ≡ xs
retried_anywhere c S o f [] = refl
retried_anywhere {K} c S o f (None ∷ xs) = ap (λ (l : List (Option (Placed K))). None ∷ l) (retried_anywhere c S o f xs)
retried_anywhere {K} c S o f (Some q ∷ xs) =
    ap (λ (b : Bool). (if b then Some q else None) ∷ map (retried c S o) xs) (f q.place q.point.coordinates)
    ∙ ap (λ (l : List (Option (Placed K))). Some q ∷ l) (retried_anywhere c S o f xs)

-- where what a form comes to decides whether the condition is possible, the same is kept
pub retried_sole : {K : ℕ} (c : Cond) (S : State) (o : ℕ) (x : SoleTerm K) → Decides c S o x → (xs : List (Option (Placed K))) → map (at_most_0 x) xs ≡ map (retried c S o) xs
retried_sole c S o x f [] = refl
retried_sole {K} c S o x f (None ∷ xs) = ap (λ (l : List (Option (Placed K))). None ∷ l) (retried_sole c S o x f xs)
retried_sole {K} c S o x f (Some q ∷ xs) =
    ap (λ (b : Bool). (if b then Some q else None) ∷ map (at_most_0 x) xs) (sym (f q.place q.point.coordinates))
    ∙ ap (λ (l : List (Option (Placed K))). retried c S o (Some q) ∷ l) (retried_sole c S o x f xs)

-- asked again, points stay at which the condition is possible
pub retries_asked : {K : ℕ} (c : Cond) (S : State) (o : ℕ) (marks : List Bool) (old new : List (Option (Placed K))) → new ≡ map (retried c S o) old → RetriesMarked c S o marks old new
retries_asked {K} c S o marks old new m = record { stay = λ i q e. (at i q e).0; tried = inr (λ i q e. (at i q e).1) }
  where
    at : (i : ℕ) (q : Placed K) → get_or new i None ≡ Some q → (get_or old i None ≡ Some q) × (possible c (placed S o q) ≡ true)
    at i q e = retried_some c S o (get_or old i None) q (sym (map_slot (retried c S o) old i refl) ∙ sym (ap (λ (l : List (Option (Placed K))). get_or l i None) m) ∙ e)

among_unmarked : (u : ℕ) (marks : List Bool) (list : List ObjId) → list_any (λ (v : ObjId). get_or marks v.0 false) list ≡ false → is_among u list ≡ true → get_or marks u false ≡ false
among_unmarked u marks [] n a = absurd (false≢true a)
among_unmarked u marks (v ∷ vs) n a = elim (or_cases (nat_eq v.0 u) (is_among u vs) a) [
  | inl e ↦ subst (λ (z : ℕ). get_or marks z false ≡ false) (eqb-true v.0 u e) (or_first (get_or marks v.0 false) (list_any (λ (w : ObjId). get_or marks w.0 false) vs) n)
  | inr e ↦ among_unmarked u marks vs (or_second (get_or marks v.0 false) (list_any (λ (w : ObjId). get_or marks w.0 false) vs) n) e
]

-- a condition that names no marked object is not asked
pub retries_skipped : {K : ℕ} (c : Cond) (S : State) (o : ℕ) (marks : List Bool) (list : List ObjId) (slots : List (Option (Placed K))) → NamedBy c (length S) list → length marks ≡ length S → list_any (λ (v : ObjId). get_or marks v.0 false) list ≡ false → RetriesMarked c S o marks slots slots
retries_skipped c S o marks list slots k long none = record {
  stay = λ i q e. e;
  tried = inl (λ u n. elim (cases_lt u (length S)) [
    | inl l ↦ among_unmarked u marks list none (k.each u l ∙ n)
    | inr l ↦ get_or_past marks u false (omega (arith, l, long))
  ]);
}

-- ---- after a change

-- what stands but for marked neighbours stands so after a change of neighbours that are marked
noted_one : {K : ℕ} (cs : List Cond) (S T : State) (o : ℕ) (before after : List Bool) (slots : List (Option (Placed K))) → length S ≡ length T → o < length S → ((u : ℕ) → get_or after u false ≡ false → get_or before u false ≡ false)
    → ((u : ℕ) → u < length S → u ≢ o → get_or after u false ≡ false → (reach S u ≡ reach T u) ⊎ Unhindered cs T u o) → StandBut cs S o before slots → StandBut cs T o after slots
noted_one cs S T o before after slots same h stay fresh f i q e m d hm nm un =
    still_possible (get_or cs m d) S T o q.place q.point.coordinates same h (λ u b ne nu. elim (fresh u b ne (un u nu)) [ inl y ↦ inl y | inr g ↦ inr (g m d hm nu nm) ]) (f i q e m d hm nm (λ u nu. stay u (un u nu)))

pub stand_noted : {K : ℕ} (cs : List Cond) (S T : State) (before after : MarkRows) (kept : Slots K) → length S ≡ length T → AllStand cs S before kept → NotesChanges cs S T before after → AllStand cs T after kept
stand_noted cs S T before after kept same f n o h =
    let hs : o < length S = omega (arith, h, same) in
    noted_one cs S T o (marks_of before o) (marks_of after o) (row kept o) same hs (λ u. n.stay o u) (λ u b ne. n.fresh o u hs b (λ e. ne (sym e))) (f o hs)

-- an object whose row is cleared after what is kept of it was asked again
pub stand_cleared : {K : ℕ} (cs : List Cond) (S : State) (o : ℕ) (before after : MarkRows) (old new : Slots K) → AllStand cs S before old → IsCleared o before after → StandsAlone cs S o old new → AllStand cs S after new
stand_cleared {K} cs S o before after old new f c y u h = elim (cases_eq u o) [
  | inl s ↦ subst (λ (z : ℕ). StandBut cs S z (marks_of after z) (row new z)) (sym s) (λ i q e m d hm nm un. y.itself i q e m d hm nm)
  | inr ne ↦ subst (λ (l : List Bool). StandBut cs S u l (row new u)) (sym (c.others u ne)) (subst (λ (l : List (Option (Placed K))). StandBut cs S u (marks_of before u) l) (sym (y.others u ne)) (f u h))
]

-- one object changed, and is marked at those that it may hinder
pub stand_changed : {K : ℕ} (cs : List Cond) (S T : State) (o : ℕ) (before after : MarkRows) (old new : Slots K) → SameBut o S T → length before ≡ length S → AllStand cs S before old → StandsAlone cs T o old new → MarksAt (Unhindered cs T o) o before after → AllStand cs T after new
stand_changed {K} cs S T o before after old new alone long f y m u h = elim (cases_eq u o) [
  | inl s ↦ subst (λ (z : ℕ). StandBut cs T z (marks_of after z) (row new z)) (sym s) (λ i q e k d hm nm un. y.itself i q e k d hm nm)
  | inr ne ↦
      let hs : u < length S = omega (arith, h, alone.objects) in
      noted_one cs S T u (marks_of before u) (marks_of after u) (row new u) alone.objects hs (λ v. m.stay u v) (λ v b nv un. elim (cases_eq v o) [
        | inl s ↦ inr (subst (λ (z : ℕ). Unhindered cs T z u) (sym s) (m.fresh u ne (omega (arith, hs, long)) (subst (λ (z : ℕ). get_or (marks_of after u) z false ≡ false) s un)))
        | inr other ↦ inl (alone.each v other)
      ]) (subst (λ (l : List (Option (Placed K))). StandBut cs S u (marks_of before u) l) (sym (y.others u ne)) (f u hs))
]

-- no object changed
pub stand_same : {K : ℕ} (cs : List Cond) (S T : State) (o : ℕ) (marks : MarkRows) (old new : Slots K) → T ≡ S → AllStand cs S marks old → StandsAlone cs T o old new → AllStand cs T marks new
stand_same {K} cs S T o marks old new same f y u h = elim (cases_eq u o) [
  | inl s ↦ subst (λ (z : ℕ). StandBut cs T z (marks_of marks z) (row new z)) (sym s) (λ i q e m d hm nm un. y.itself i q e m d hm nm)
  | inr ne ↦ subst (λ (l : List (Option (Placed K))). StandBut cs T u (marks_of marks u) l) (sym (y.others u ne)) ((subst (λ (X : State). AllStand cs X marks old) (sym same) f) u h)
]

-- ---- what is kept of one object

any_at : (i : ℕ) (xs : List ℕ) (k : ℕ) → k < length xs → slice_index xs k ≡ i → list_any (nat_eq i) xs ≡ true
any_at i [] k h e = absurd (omega arith)
any_at i (x ∷ xs) zero h e = or_left (nat_eq i x) (list_any (nat_eq i) xs) (eq-eqb i x (sym e))
any_at i (x ∷ xs) (suc k) h e = or_right (nat_eq i x) (list_any (nat_eq i) xs) (any_at i xs k (omega (arith, h)) e)

-- what holds of each condition that names the object holds of all that is picked for it
picked_named : (P : Cond → Type 0) (cs : List Cond) (o : ℕ) (picks : List ℕ) → PicksOf cs o picks → All (λ c. names o c ≡ true → P c) cs → All P (picked cs picks)
picked_named P cs o picks p a = picked_all P cs picks (λ k x y.
    let w = pick_in (length cs) picks k p.within y.0 in
    let j = slice_index picks k - 1 in
    let s : slice_index picks k ≡ suc j = omega (arith, w.0) in
    let here : get_or cs j x ≡ x = same_Some _ _ (sym (slice_get-get_or cs j x w.1) ∙ y.1) in
    let named : names o (get_or cs j x) ≡ true = sym (p.each j x w.1) ∙ any_at (suc j) picks k y.0 s in
    subst P here (a j x w.1 named))

stands_slot : {K : ℕ} (cs : List Cond) (S : State) (o : ℕ) (picks : List ℕ) (x : Option (Placed K)) → PicksOf cs o picks → ((q : Placed K) → x ≡ Some q → NearUnrefuted cs (placed S o q) o) → IfSome x (λ q. NoneRefuted (picked cs picks) (placed S o q))
stands_slot cs S o picks None p f = tt
stands_slot cs S o picks (Some q) p f = picked_named (λ c. possible c (placed S o q) ≡ true) cs o picks p (f q refl)

-- what stands is kept as the pruning of the object wants it
pub supports_of : {K : ℕ} (cs : List Cond) (S : State) (o : ℕ) (picks : List ℕ) (slots : List (Option (Placed K))) → PicksOf cs o picks → Stand cs S o slots → AllSupport (picked cs picks) S o slots
supports_of cs S o picks slots p f i d b = stands_slot cs S o picks (get_or slots i d) p (λ q e. f i q (get_or_default slots i None d b ∙ e))

-- and what the pruning keeps stands
pub stand_of : {K : ℕ} (cs : List Cond) (S : State) (o : ℕ) (picks : List ℕ) (slots : List (Option (Placed K))) → PicksOf cs o picks → AllSupport (picked cs picks) S o slots → Stand cs S o slots
stand_of cs S o picks slots p a i q e = named_all (λ c. possible c (placed S o q) ≡ true) cs o picks p (supports_at (picked cs picks) S o slots i q a e)

-- the slots of one object are replaced by what stands
pub stands_alone : {K : ℕ} (cs : List Cond) (S : State) (o : ℕ) (kept : Slots K) (v : Vec (Option (Placed K)) Global) → o < length kept → Stand cs S o v.items → StandsAlone cs S o kept (set kept o v)
stands_alone {K} cs S o kept v h f = record {
  others = λ u ne. row_set_other kept o u v ne;
  itself = subst (λ (l : List (Option (Placed K))). Stand cs S o l) (sym (row_set_same kept o v h)) f;
}

-- ---- at the start

-- nothing stands in the way where nothing is kept
pub blank_stands : {K : ℕ} (cs : List Cond) (S : State) (marks : MarkRows) (kept : Slots K) → IsBlank kept → AllStand cs S marks kept
blank_stands cs S marks kept f o h i q e = let n = f o i in absurd (cc)

pub blank_more : {K : ℕ} (xs : List (Option (Placed K))) → ((i : ℕ) → get_or xs i None ≡ None) → (i : ℕ) → get_or (xs ++ None ∷ []) i None ≡ None
blank_more [] f zero = refl
blank_more [] f (suc i) = refl
blank_more (x ∷ xs) f zero = f 0
blank_more (x ∷ xs) f (suc i) = blank_more xs (λ j. f (suc j)) i

pub blank_rows : {K : ℕ} (kept : Slots K) (v : Vec (Option (Placed K)) Global) → ((i : ℕ) → get_or v.items i None ≡ None) → IsBlank kept → IsBlank (kept ++ v ∷ [])
blank_rows [] v f g zero i = f i
blank_rows [] v f g (suc o) i = refl
blank_rows (w ∷ kept) v f g zero i = g 0 i
blank_rows (w ∷ kept) v f g (suc o) i = blank_rows kept v f (λ p. g (suc p)) o i
