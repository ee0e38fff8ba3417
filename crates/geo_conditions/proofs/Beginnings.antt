-- Fronts are beginnings of the walk, and a listing by fronts is the listing by the whole walk.
use Rattle.std.proofs.Common.{◌≡◌, ℕ, ◌<◌, ◌≤◌, Bool, List, [], ◌++◌, length, take, drop, get_or, sym, ap, ◌∙◌, subst, inl, inr, arith, ℤ}
use Rattle.std.specs.Prelude.{filter}
use Rattle.std.proofs.lemmas.Bool.{cases_lt}
use Rattle.std.proofs.lemmas.List.{take_all, take-take, take-append-drop, take-append-le, length-take, length-take-le, get_or-take}
use Rattle.std.proofs.lemmas.List.Elements.{All-take, filter-append}
use Rattle.geo_conditions.specs.Walk.{Precedes, Tree, IsIn, IsFront, IsWalk, IsWhole, GoesOn, is_full, EndWord, More, End, OutOfBudget, IsListing, Lists}
use Rattle.geo_conditions.proofs.Fronts.{precedes_once, fronts_agree}
use Rattle.geo_conditions.proofs.Defaults.{any_default}

pub walk_is_front : (W : Tree) (w : List (List ℤ)) → IsWalk W w → IsFront W w
walk_is_front W w h = record { members = h.members; in_order = h.in_order; first = λ q m. inl (h.whole q m) }

-- the first members of a front are a front
pub take_front : (W : Tree) (w : List (List ℤ)) (n : ℕ) → IsFront W w → IsFront W (take n w)
take_front W w n f = record {
  members = All-take (IsIn W) n w f.members;
  in_order = λ i j d h b.
      let s = length-take n w in
      let j_in : j < length w = omega arith in
      subst (λ (q : List ℤ). Precedes W.variables q (get_or (take n w) j d)) (sym (get_or-take n w i d (omega arith)))
      (subst (λ (q : List ℤ). Precedes W.variables (get_or w i d) q) (sym (get_or-take n w j d (omega arith))) (f.in_order i j d h j_in));
  first = λ q m. elim (f.first q m) [
    | inr all ↦ inr (All-take (λ r. Precedes W.variables r q) n w all)
    | inl c ↦ elim (cases_lt c.0 n) [
      | inl b ↦ inl (c.0, omega (arith, length-take n w, c.1), get_or-take n w c.0 q b ∙ c.2)
      | inr b ↦ inr (λ j d l.
          let s = length-take n w in
          let j_in : j < length w = omega arith in
          let e : get_or (take n w) j d ≡ get_or w j q = get_or-take n w j d (omega arith) ∙ any_default w j d q j_in in
          subst (λ (r : List ℤ). Precedes W.variables r q) (sym e) (subst (λ (r : List ℤ). Precedes W.variables (get_or w j q) r) c.2 (f.in_order j c.0 q (omega (arith, l)) c.1)))
    ]
  ];
}

-- a member is not listed before itself
twice : (W : Tree) (u : List (List ℤ)) (i j : ℕ) (q : List ℤ) → IsFront W u → i < j → j < length u → get_or u i q ≡ q → get_or u j q ≡ q → ⊥
twice W u i j q f h b e g =
    let p : Precedes W.variables q q = subst (λ (r : List ℤ). Precedes W.variables r q) e (subst (λ (r : List ℤ). Precedes W.variables (get_or u i q) r) g (f.in_order i j q h b)) in
    precedes_once W.variables q q p p

-- no front is longer than the walk
front_short : (W : Tree) (w u : List (List ℤ)) → IsWalk W w → IsFront W u → length u ≤ length w
front_short W w u h f = elim (cases_lt (length w) (length u)) [
  | inr b ↦ b
  | inl b ↦
      let t = take (length w) u in
      let long : length t ≡ length w = length-take-le (length w) u (omega arith) in
      let same : t ≡ w = fronts_agree W t w (take_front W u (length w) f) (walk_is_front W w h) long in
      let q = get_or u (length w) [] in
      let own : get_or u (length w) q ≡ q = any_default u (length w) q [] b in
      let c = h.whole q (f.members (length w) [] b) in
      let there : get_or u c.0 q ≡ q = sym (get_or-take (length w) u c.0 q c.1) ∙ ap (λ (l : List (List ℤ)). get_or l c.0 q) same ∙ c.2 in
      absurd (twice W u c.0 (length w) q f c.1 b there own)
]

pub front_begins : (W : Tree) (w u : List (List ℤ)) → IsWalk W w → IsFront W u → u ≡ take (length u) w
front_begins W w u h f =
    fronts_agree W u (take (length u) w) f (take_front W w (length u) (walk_is_front W w h)) (sym (length-take-le (length u) w (front_short W w u h f)))

pub beginning_front : (W : Tree) (w u : List (List ℤ)) → IsWalk W w → u ≡ take (length u) w → IsFront W u
beginning_front W w u h e = subst (IsFront W) (sym e) (take_front W w (length u) (walk_is_front W w h))

-- ---- listings

-- the full members of a beginning of the first n, as many as are wanted
cut_listing : (p : List ℤ → Bool) (w v : List (List ℤ)) (n most : ℕ) → v ≡ take (length v) w → length v ≤ n → length (filter p v) ≡ most → filter p v ≡ take most (filter p (take n w))
cut_listing p w v n most e h m =
    let l = take n w in
    let front : v ≡ take (length v) l = e ∙ sym (take-take (length v) n w h) in
    let cut : v ++ drop (length v) l ≡ l = ap (λ (x : List (List ℤ)). x ++ drop (length v) l) front ∙ take-append-drop (length v) l in
    let parts : filter p l ≡ filter p v ++ filter p (drop (length v) l) = ap (filter p) (sym cut) ∙ filter-append p v (drop (length v) l) in
    sym (ap (take most) parts ∙ take-append-le most (filter p v) (filter p (drop (length v) l)) (omega (arith, m)) ∙ take_all most (filter p v) (omega (arith, m)))

whole_length : (W : Tree) (w v : List (List ℤ)) → IsWalk W w → IsFront W v → IsWhole W v → length w ≤ length v
whole_length W w v h f whole =
    front_short W v w (record { members = f.members; in_order = f.in_order; whole = whole }) (walk_is_front W w h)

-- where a member comes after all of a front, the walk is longer than it
goes_on_longer : (W : Tree) (w v : List (List ℤ)) → IsWalk W w → IsFront W v → GoesOn W v → length v < length w
goes_on_longer W w v h f g = elim (cases_lt (length v) (length w)) [
  | inl b ↦ b
  | inr b ↦
      let q = g.0 in
      let c = h.whole q g.1 in
      let e : v ≡ w = front_begins W w v h f ∙ take_all (length v) w b in
      let there : get_or v c.0 q ≡ q = ap (λ (l : List (List ℤ)). get_or l c.0 q) e ∙ c.2 in
      let p : Precedes W.variables q q = subst (λ (r : List ℤ). Precedes W.variables r q) there (g.2 c.0 q (omega (arith, c.1, ap length e))) in
      absurd (precedes_once W.variables q q p p)
]

-- the listing ends with that word, found by the front v of the walk w
listed : (W : Tree) (w v : List (List ℤ)) (most n : ℕ) (found : List (List ℤ)) (word : EndWord) → IsWalk W w → IsFront W v → length v ≤ n → found ≡ filter (is_full W) v → Rattle.geo_conditions.specs.Walk.EndsWith W most n v found word → Lists W w most n found word
listed W w v most n found More h f few full ends = record {
  full = full ∙ cut_listing (is_full W) w v n most (front_begins W w v h f) few (sym (ap length full) ∙ ends);
  ends = ends;
}
listed W w v most n found End h f few full ends =
    let long = whole_length W w v h f ends.1 in
    let e : v ≡ take n w = front_begins W w v h f ∙ take_all (length v) w long ∙ sym (take_all n w (omega (arith, long))) in
    let same : found ≡ filter (is_full W) (take n w) = full ∙ ap (filter (is_full W)) e in
    record {
      full = same ∙ sym (take_all most (filter (is_full W) (take n w)) (omega (arith, ends.0, ap length same)));
      ends = (ends.0, omega (arith, long));
    }
listed W w v most n found OutOfBudget h f few full ends =
    let e : v ≡ take n w = front_begins W w v h f ∙ ap (λ (k : ℕ). take k w) ends.1 in
    let same : found ≡ filter (is_full W) (take n w) = full ∙ ap (filter (is_full W)) e in
    record {
      full = same ∙ sym (take_all most (filter (is_full W) (take n w)) (omega (arith, ends.0, ap length same)));
      ends = (ends.0, omega (arith, goes_on_longer W w v h f ends.2, ends.1));
    }

pub listing_follows : (W : Tree) (w : List (List ℤ)) (most n : ℕ) (found : List (List ℤ)) (word : EndWord) → IsWalk W w → IsListing W most n found word → Lists W w most n found word
listing_follows W w most n found word h l = listed W w l.walked most n found word h l.front l.few l.full l.ends
