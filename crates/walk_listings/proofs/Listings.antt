-- Listings of a walk that is a list: there is one from each front on, and no other.
use Rattle.std.proofs.Common.{◌≡◌, ◌+◌, ◌-◌, ◌<◌, ◌≤◌, ℕ, Contains, zero, suc, ℤ, Bool, List, [], ◌∷◌, ◌++◌, length, take, drop, get_or, refl, sym, ap, ◌∙◌, subst, inl, inr, arith}
use Rattle.std.specs.Prelude.{filter, if◌then◌else◌}
use Rattle.std.proofs.lemmas.Bool.{cases_Bool, cases_lt}
use Rattle.std.proofs.lemmas.List.{take_all, take-take, take-append-drop, length-take, length-take-le, get_or-take}
use Rattle.std.proofs.Math.Seq.{take-append-add}
use Rattle.std.proofs.lemmas.List.Elements.{filter-append}
use Rattle.geo_conditions.specs.Walk.{Tree, Precedes, IsWalk, IsFront, IsWhole, GoesOn, is_full, EndWord, More, End, OutOfBudget, IsListing, IsEndWord, Lists}
use Rattle.geo_conditions.proofs.Beginnings.{walk_is_front, take_front, front_begins, listing_follows}
use Rattle.geo_conditions.proofs.Defaults.{any_default}

-- some first elements have that many of those that are kept
prefix_with : {X : Type 0} (p : X → Bool) (l : List X) (m : ℕ) → m ≤ length (filter p l) → (j : ℕ) × (j ≤ length l) × (filter p (take j l) ≡ take m (filter p l))
prefix_with p l zero h = (0, omega arith, refl)
prefix_with p [] (suc m) h = absurd (omega arith)
prefix_with p (x ∷ l) (suc m) h = elim (cases_Bool (p x)) [
  | inl e ↦
      let kept : (u : List _) → filter p (x ∷ u) ≡ x ∷ filter p u = λ u. subst (λ (b : Bool). (if b then x ∷ filter p u else filter p u) ≡ x ∷ filter p u) (sym e) refl in
      let r = prefix_with p l m (omega (arith, h, ap length (kept l))) in
      (suc r.0, omega (arith, r.1), kept (take r.0 l) ∙ ap (λ u. x ∷ u) r.2 ∙ ap (take (suc m)) (sym (kept l)))
  | inr e ↦
      let left : (u : List _) → filter p (x ∷ u) ≡ filter p u = λ u. subst (λ (b : Bool). (if b then x ∷ filter p u else filter p u) ≡ filter p u) (sym e) refl in
      let r = prefix_with p l (suc m) (omega (arith, h, ap length (left l))) in
      (suc r.0, omega (arith, r.1), left (take r.0 l) ∙ r.2 ∙ ap (take (suc m)) (sym (left l)))
]

module _ (W : Tree) (w : List (List ℤ)) (walk : IsWalk W w) where
  first : (n : ℕ) → IsFront W (take n w)
  first n = take_front W w n (walk_is_front W w walk)

  -- the member at that place comes after those before it
  goes_on : (n : ℕ) → n < length w → GoesOn W (take n w)
  goes_on n h = (
    get_or w n [],
    walk.members n [] h,
    λ k d b.
        let l = length-take n w in
        let e : get_or (take n w) k d ≡ get_or w k [] = get_or-take n w k d (omega arith) ∙ any_default w k d [] (omega arith) in
        subst (λ (r : List ℤ). Precedes W.variables r (get_or w n [])) (sym e) (walk.in_order k n [] (omega arith) h),
  )

  -- a part of the first n members
  within : (j n : ℕ) → take j (take n w) ≡ take (length (take j (take n w))) w
  within j n = front_begins W w (take j (take n w)) walk (take_front W (take n w) j (first n))

  whole : (n : ℕ) → length w ≤ n → IsWhole W (take n w)
  whole n h q m = subst (λ (u : List (List ℤ)). Contains u q) (sym (take_all n w h)) (walk.whole q m)

  pub lists_listing : (most n : ℕ) (found : List (List ℤ)) (word : EndWord) → Lists W w most n found word → IsListing W most n found word
  lists_listing most n found More l =
      let kept = filter (is_full W) (take n w) in
      let enough : most ≤ length kept = omega (arith, ap length l.full, l.ends, length-take most kept) in
      let r = prefix_with (is_full W) (take n w) most enough in
      record {
        walked = take r.0 (take n w);
        front = take_front W (take n w) r.0 (first n);
        few = omega (arith, length-take r.0 (take n w), length-take n w);
        full = l.full ∙ sym r.2;
        ends = l.ends;
      }
  lists_listing most n found End l =
      let kept = filter (is_full W) (take n w) in
      record {
        walked = take n w;
        front = first n;
        few = omega (arith, length-take n w);
        full = l.full ∙ take_all most kept (omega (arith, ap length l.full, l.ends.0, length-take most kept));
        ends = (l.ends.0, whole n l.ends.1);
      }
  lists_listing most n found OutOfBudget l =
      let kept = filter (is_full W) (take n w) in
      record {
        walked = take n w;
        front = first n;
        few = omega (arith, length-take n w);
        full = l.full ∙ take_all most kept (omega (arith, ap length l.full, l.ends.0, length-take most kept));
        ends = (l.ends.0, length-take-le n w (omega (arith, l.ends.1)), goes_on n l.ends.1);
      }

  -- the first so many full members have an end word
  listed : (most n : ℕ) → (word : EndWord) × Lists W w most n (take most (filter (is_full W) (take n w))) word
  listed most n =
      let kept = filter (is_full W) (take n w) in
      elim (cases_lt (length kept) most) [
        | inr b ↦ (More, record { full = refl; ends = length-take-le most kept b })
        | inl b ↦
            let few : length (take most kept) < most = omega (arith, b, length-take most kept) in
            elim (cases_lt n (length w)) [ inl c ↦ (OutOfBudget, record { full = refl; ends = (few, c) }) | inr c ↦ (End, record { full = refl; ends = (few, c) }) ]
      ]

  pub goes_on_from : (v : List (List ℤ)) (most n : ℕ) → IsFront W v → length v ≤ n → length (filter (is_full W) v) ≤ most
      → (rest : List (List ℤ)) × (word : EndWord) × IsListing W most n (filter (is_full W) v ++ rest) word
  goes_on_from v most n front few short =
      let l = take n w in
      let own = filter (is_full W) v in
      let back = filter (is_full W) (drop (length v) l) in
      let begins : v ≡ take (length v) l = front_begins W w v walk front ∙ sym (take-take (length v) n w few) in
      let cut : v ++ drop (length v) l ≡ l = ap (λ (x : List (List ℤ)). x ++ drop (length v) l) begins ∙ take-append-drop (length v) l in
      let parts : filter (is_full W) l ≡ own ++ back = ap (filter (is_full W)) (sym cut) ∙ filter-append (is_full W) v (drop (length v) l) in
      let most_is : most ≡ length own + (most - length own) = omega arith in
      let e : take most (filter (is_full W) l) ≡ own ++ take (most - length own) back = ap (take most) parts ∙ ap (λ (k : ℕ). take k (own ++ back)) most_is ∙ take-append-add own back (most - length own) in
      let h = listed most n in
      (take (most - length own) back, h.0, lists_listing most n (own ++ take (most - length own) back) h.0 (record { full = sym e; ends = subst (λ (f : List (List ℤ)). IsEndWord W most n w f h.0) e h.1.ends }))

  same_word : (most n : ℕ) (found : List (List ℤ)) (word last : EndWord) → IsEndWord W most n w found word → IsEndWord W most n w found last → word ≡ last
  same_word most n found More More a b = refl
  same_word most n found More End a b = absurd (omega (arith, a, b.0))
  same_word most n found More OutOfBudget a b = absurd (omega (arith, a, b.0))
  same_word most n found End More a b = absurd (omega (arith, a.0, b))
  same_word most n found End End a b = refl
  same_word most n found End OutOfBudget a b = absurd (omega (arith, a.1, b.1))
  same_word most n found OutOfBudget More a b = absurd (omega (arith, a.0, b))
  same_word most n found OutOfBudget End a b = absurd (omega (arith, a.1, b.1))
  same_word most n found OutOfBudget OutOfBudget a b = refl

  pub one_listing : (most n : ℕ) (found other : List (List ℤ)) (word last : EndWord) → IsListing W most n found word → IsListing W most n other last → (found ≡ other) × (word ≡ last)
  one_listing most n found other word last a b =
      let x = listing_follows W w most n found word walk a in
      let y = listing_follows W w most n other last walk b in
      let e : found ≡ other = x.full ∙ sym y.full in
      (e, same_word most n other word last (subst (λ (f : List (List ℤ)). IsEndWord W most n w f word) e x.ends) y.ends)
