-- The invariant of a search, and what each step does to it.
use Rattle.std.proofs.Common.{◌≡◌, ℕ, suc, ◌+◌, ◌<◌, ◌≤◌, Bool, true, false, List, [], ◌∷◌, ◌++◌, length, take, get_or, refl, sym, ap, ◌∙◌, subst, inl, inr, ◌⊎◌, arith, ℤ, pos, Option, Some, None}
use Rattle.std.specs.Prelude.{IfSome}
use Rattle.std.specs.List.{All}
use Rattle.std.proofs.lemmas.Bool.{cases_lt, cases_eq}
use Rattle.std.proofs.lemmas.List.{get_or_append_left, take-append-le}
use Rattle.std.proofs.Math.Seq.{get_or-append_seam, take-append_seam}
use Rattle.std.proofs.Math.ListN.{length-append}
use Rattle.std.proofs.lemmas.List.Elements.{All-nil, All-push}
use Rattle.geo_conditions.specs.declared.cond.Cond.{Cond}
use Rattle.geo_conditions.specs.Reach.{State, Inside, HasNoEmpty}
use Rattle.geo_conditions.specs.Supported.{IsSupported, IsGreatest, NoneInside}
use Rattle.geo_conditions.proofs.Points.{inside_trans, inside_self}
use Rattle.geo_conditions.proofs.Steps.{front_none, front_push, front_whole}
use Rattle.geo_conditions.proofs.Fronts.{precedes_once}
use Rattle.geo_conditions.specs.Walk.{Variable, AreOf, Precedes, IsAfter, IsFixed, IsFirstValue, Begins, Tree, IsIn, IsMember, IsFront, IsWhole}
use Rattle.trail_search.specs.Cursor.{HasDimension, HasNoneFrom, IsValueOf, AreValues, after, IsFrom, AtNext, Meets, Rest, IsBest, IsLeft, NoneMeets, Narrows, IsLevel, AreLevels, FollowsToken, Stands, bound_at}
use Rattle.trail_search.specs.Walker.{Position, tree_of, depth, path, SameWalk, Searches, Rests, IsStuck, IsDone, StaysOn, Closes, IsWell, IsToken}
use Rattle.trail_search.proofs.Walking.{last_of, before_last}
use Rattle.std.specs.Prelude.{Result, Ok, Err}
use Rattle.geo_state.specs.declared.propagate.Settled.{Settled}
use Rattle.geo_state.specs.declared.propagate.Settled.TheVariants.{Kept, Dead}
use Rattle.geo_state.specs.Settle.{SettlesOr}
use Rattle.trail_search.specs.Walker.{SettledAs}
use Rattle.geo_conditions.proofs.Defaults.{any_default}
use Rattle.std.proofs.Common.{set}
use Rattle.std.proofs.Math.Seq.{take-suc, take-suc-set}
use Rattle.std.proofs.Math.ListN.{length-set}
use Rattle.std.proofs.lemmas.List.{length-take-le, get_or-set_same, get_or-set_other}
use Rattle.trail_search.proofs.Visit.{meets_inside, meets_push, meets_pop, meets_bound, meets_looser, meets_some, begins_push, begins_from, rest_here, rest_visited, rest_precedes, visit_cases, close_cases, close_full, rest_closed, are_of}
use Rattle.trail_search.proofs.Token.{token_in, token_off, token_leave, token_close, token_stay, rest_along, begins_length, onway_start}

-- ---- what follows a settle

-- the greatest supported state of what is left is the best one
pub best_of_left : (W : Tree) (q : List ℤ) (b : Option ℤ) (N H : State) → IsLeft W q b N → IsGreatest W.conditions N H → IsBest W q b H
best_of_left W q b N H n h = record {
  supported = h.supported;
  inside = inside_trans H N W.first h.inside n.inside;
  meets = n.meet H h.supported.nonempty h.inside;
  greatest = λ T s i m. h.greatest T s (n.all T s i m);
}

-- no supported state inside what is left, so none that meets the path
pub none_of_left : (W : Tree) (q : List ℤ) (b : Option ℤ) (N : State) → IsLeft W q b N → NoneInside W.conditions N → NoneMeets W q b
none_of_left W q b N n h T s i m = h T s (n.all T s i m)

-- at the start the first state is left
pub left_start : (W : Tree) → IsLeft W [] None W.first
left_start W = record {
  inside = inside_self W.first;
  meet = λ T n i. none W.variables T;
  all = λ T s i m. i;
}
  where
    none : (xs : List Variable) (T : State) → Meets xs [] None T
    none [] T = tt
    none (x ∷ xs) T = tt

-- two facts of the next variable
at_both : (xs : List Variable) (q : List ℤ) (P Q R : Variable → Type 0) → ((x : Variable) → P x → Q x → R x) → AtNext xs q P → AtNext xs q Q → AtNext xs q R
at_both [] q P Q R f h k = h
at_both (x ∷ xs) [] P Q R f h k = f x h k
at_both (x ∷ xs) (v ∷ q) P Q R f h k = at_both xs q P Q R f h k

-- one fact of the next variable gives another
pub at_map : (xs : List Variable) (q : List ℤ) (P Q : Variable → Type 0) → ((x : Variable) → P x → Q x) → AtNext xs q P → AtNext xs q Q
at_map [] q P Q f h = h
at_map (x ∷ xs) [] P Q f h = f x h
at_map (x ∷ xs) (v ∷ q) P Q f h = at_map xs q P Q f h

-- the variable by its number
pub at_number : (xs : List Variable) (q : List ℤ) (P : Variable → Type 0) (d : Variable) → length q < length xs → P (get_or xs (length q) d) → AtNext xs q P
at_number [] q P d h p = absurd (omega arith)
at_number (x ∷ xs) [] P d h p = p
at_number (x ∷ xs) (v ∷ q) P d h p = at_number xs q P d (omega arith) p

-- a fact of the next variable, by its number
pub at_number_out : (xs : List Variable) (q : List ℤ) (P : Variable → Type 0) (d : Variable) → AtNext xs q P → P (get_or xs (length q) d)
at_number_out [] q P d h = absurd h
at_number_out (x ∷ xs) [] P d h = h
at_number_out (x ∷ xs) (v ∷ q) P d h = at_number_out xs q P d h

-- one variable narrowed, by its number
pub left_fix : (W : Tree) (q : List ℤ) (b : Option ℤ) (u : ℤ) (x : Variable) (G N : State) → AreOf W.first W.variables → length q < length W.variables → IsBest W q b G → get_or W.variables (length q) x ≡ x → IsFirstValue G x u → Narrows G N (λ T. IsFixed T x u) → IsLeft W (q ++ u ∷ []) None N
left_fix W q b u x G N a l g e f n = record {
  inside = inside_trans N G W.first n.inside g.inside;
  meet = λ T o i. let j : Inside T G = inside_trans T N G i n.inside in
      meets_push T W.variables q b u (meets_inside T G W.variables q b o (are_of W.first T W.variables (inside_trans T G W.first j g.inside).objects a) j g.meets)
      (at_number W.variables q (λ y. IsFixed T y u) x l (subst (λ (y : Variable). IsFixed T y u) (sym e) (n.meet T o i)));
  all = λ T s i m.
      let r = meets_pop T G W.variables q b None u g.meets (at_number W.variables q (λ y. IsFirstValue G y u) x l (subst (λ (y : Variable). IsFirstValue G y u) (sym e) f)) m in
      n.all T s.nonempty (g.greatest T s i r.0) (subst (λ (y : Variable). IsFixed T y u) e (at_number_out W.variables q (λ y. IsFixed T y u) x r.1));
}

-- what is left past the first value
pub left_past : (W : Tree) (q : List ℤ) (b : Option ℤ) (u v : ℤ) (x : Variable) (G N : State) → AreOf W.first W.variables → length q < length W.variables → IsBest W q b G → get_or W.variables (length q) x ≡ x → IsFirstValue G x u → v ≡ after x u → Narrows G N (λ T. IsFrom T x v) → IsLeft W q (Some v) N
left_past W q b u v x G N a l g e f p n = record {
  inside = inside_trans N G W.first n.inside g.inside;
  meet = λ T o i. let j : Inside T G = inside_trans T N G i n.inside in
      meets_bound T W.variables q b v (meets_inside T G W.variables q b o (are_of W.first T W.variables (inside_trans T G W.first j g.inside).objects a) j g.meets)
      (at_number W.variables q (λ y. IsFrom T y v) x l (subst (λ (y : Variable). IsFrom T y v) (sym e) (n.meet T o i)));
  all = λ T s i m.
      let r = meets_looser T G W.variables q b u v g.meets (at_number W.variables q (λ y. IsFirstValue G y u × (v ≡ after y u)) x l (subst (λ (y : Variable). IsFirstValue G y u × (v ≡ after y u)) (sym e) (f, p))) m in
      n.all T s.nonempty (g.greatest T s i r.0) (subst (λ (y : Variable). IsFrom T y v) e (at_number_out W.variables q (λ y. IsFrom T y v) x r.1));
}

-- what is left from a bound on
pub left_bound : (W : Tree) (q : List ℤ) (v : ℤ) (x : Variable) (G N : State) → AreOf W.first W.variables → length q < length W.variables → IsLeft W q None G → get_or W.variables (length q) x ≡ x → Narrows G N (λ T. IsFrom T x v) → IsLeft W q (Some v) N
left_bound W q v x G N a l g e n = record {
  inside = inside_trans N G W.first n.inside g.inside;
  meet = λ T o i. let j : Inside T G = inside_trans T N G i n.inside in
      meets_bound T W.variables q None v (g.meet T o j)
      (at_number W.variables q (λ y. IsFrom T y v) x l (subst (λ (y : Variable). IsFrom T y v) (sym e) (n.meet T o i)));
  all = λ T s i m.
      let r = meets_some T W.variables q v l m in
      n.all T s.nonempty (g.all T s i r.0) (subst (λ (y : Variable). IsFrom T y v) e (at_number_out W.variables q (λ y. IsFrom T y v) x r.1));
}

-- ---- levels

-- no level is open
pub levels_none : (W : Tree) → AreLevels W [] []
levels_none W = record { number = refl; each = λ i h. absurd (omega arith) }

-- one level more
pub levels_push : (W : Tree) (q : List ℤ) (saved : List State) (u : ℤ) (G : State) → AreLevels W q saved → IsLevel W q u G → AreLevels W (q ++ u ∷ []) (saved ++ G ∷ [])
levels_push W q saved u G a g = record {
  number = length-append saved (G ∷ []) ∙ ap (λ (n : ℕ). n + 1) a.number ∙ sym (length-append q (u ∷ []));
  each = λ i h. elim (cases_lt i (length q)) [
    | inl l ↦ let m : i < length saved = omega (arith, a.number) in
        let e : take i q ≡ take i (q ++ u ∷ []) = sym (take-append-le i q (u ∷ []) (omega arith)) in
        let f : get_or q i (pos 0) ≡ get_or (q ++ u ∷ []) i (pos 0) = sym (get_or_append_left q (u ∷ []) (pos 0) i l) in
        let k : get_or saved i [] ≡ get_or (saved ++ G ∷ []) i [] = sym (get_or_append_left saved (G ∷ []) [] i m) in
        moved W (take i q) (take i (q ++ u ∷ [])) (get_or q i (pos 0)) (get_or (q ++ u ∷ []) i (pos 0)) (get_or saved i []) (get_or (saved ++ G ∷ []) i []) e f k (a.each i l)
    | inr l ↦ let n : i ≡ length q = omega (arith, h, length-append q (u ∷ [])) in
        let e : q ≡ take i (q ++ u ∷ []) = sym (take-append_seam q (u ∷ [])) ∙ ap (λ (j : ℕ). take j (q ++ u ∷ [])) (sym n) in
        let f : u ≡ get_or (q ++ u ∷ []) i (pos 0) = sym (get_or-append_seam q u [] (pos 0)) ∙ ap (λ (j : ℕ). get_or (q ++ u ∷ []) j (pos 0)) (sym n) in
        let k : G ≡ get_or (saved ++ G ∷ []) i [] = sym (get_or-append_seam saved G [] []) ∙ ap (λ (j : ℕ). get_or (saved ++ G ∷ []) j []) (a.number ∙ sym n) in
        moved W q (take i (q ++ u ∷ [])) u (get_or (q ++ u ∷ []) i (pos 0)) G (get_or (saved ++ G ∷ []) i []) e f k g
  ];
}
  where
    moved : (W : Tree) (q p : List ℤ) (u v : ℤ) (G H : State) → q ≡ p → u ≡ v → G ≡ H → IsLevel W q u G → IsLevel W p v H
    moved W q p u v G H e f k l = subst (λ (S : State). IsLevel W p v S) k (subst (λ (z : ℤ). IsLevel W p z G) f (subst (λ (s : List ℤ). IsLevel W s u G) e l))

-- one level less
pub levels_pop : (W : Tree) (q : List ℤ) (saved : List State) (u : ℤ) (G : State) → AreLevels W (q ++ u ∷ []) (saved ++ G ∷ []) → AreLevels W q saved × IsLevel W q u G
levels_pop W q saved u G a =
    let n : length saved ≡ length q = omega (arith, a.number, length-append saved (G ∷ []), length-append q (u ∷ [])) in
    let h : length q < length (q ++ u ∷ []) = omega (arith, length-append q (u ∷ [])) in (
      record {
        number = n;
        each = λ i l. let m : i < length saved = omega (arith, n) in
            let o : i < length (q ++ u ∷ []) = omega (arith, h) in
            moved W (take i (q ++ u ∷ [])) (take i q) (get_or (q ++ u ∷ []) i (pos 0)) (get_or q i (pos 0)) (get_or (saved ++ G ∷ []) i []) (get_or saved i [])
            (take-append-le i q (u ∷ []) (omega arith)) (get_or_append_left q (u ∷ []) (pos 0) i l) (get_or_append_left saved (G ∷ []) [] i m) (a.each i o);
      },
      moved W (take (length q) (q ++ u ∷ [])) q (get_or (q ++ u ∷ []) (length q) (pos 0)) u (get_or (saved ++ G ∷ []) (length q) []) G
          (take-append_seam q (u ∷ [])) (get_or-append_seam q u [] (pos 0)) (ap (λ (j : ℕ). get_or (saved ++ G ∷ []) j []) (sym n) ∙ get_or-append_seam saved G [] []) (a.each (length q) h),
    )
  where
    moved : (W : Tree) (q p : List ℤ) (u v : ℤ) (G H : State) → q ≡ p → u ≡ v → G ≡ H → IsLevel W q u G → IsLevel W p v H
    moved W q p u v G H e f k l = subst (λ (S : State). IsLevel W p v S) k (subst (λ (z : ℤ). IsLevel W p z G) f (subst (λ (s : List ℤ). IsLevel W s u G) e l))

-- ---- the invariant

-- a supported state that begins with the prefix shows that it is a member
member_of : (cs : List Cond) (S : State) (xs : List Variable) (q r : List ℤ) (P : Variable → Type 0) → AtNext xs q P → ((T : State) × IsSupported cs T × Inside T S × Begins T xs r) → IsMember cs S xs r
member_of cs S [] q r P h m = absurd h
member_of cs S (x ∷ xs) q r P h m = m

-- a member has such a state
pub member_out : (cs : List Cond) (S : State) (xs : List Variable) (r : List ℤ) → 0 < length xs → IsMember cs S xs r → (T : State) × IsSupported cs T × Inside T S × Begins T xs r
member_out cs S [] r h m = absurd (omega arith)
member_out cs S (x ∷ xs) r h m = m

-- where there is a next variable, there is a variable
in_range : (xs : List Variable) (q : List ℤ) (P : Variable → Type 0) → AtNext xs q P → 0 < length xs
in_range [] q P h = absurd h
in_range (x ∷ xs) q P h = omega arith

-- the first value of the next variable makes a member that comes after those walked
pub visit_in : (W : Tree) (along : Bool) (q : List ℤ) (b : Option ℤ) (w : List (List ℤ)) (u : ℤ) (G : State) → Stands W along q b w → IsBest W q b G → AtNext W.variables q (λ x. IsFirstValue G x u) → IsIn W (q ++ u ∷ []) × All (λ r. Precedes W.variables r (q ++ u ∷ [])) w
visit_in W along q b w u G s g f =
    let h = rest_here G W.variables q b u g.meets f in (
      (member_of W.conditions W.first W.variables q (q ++ u ∷ []) (λ x. IsFirstValue G x u) f (G, g.supported, g.inside, begins_push G W.variables q b u g.meets f), token_in W W.after along q b u s.token h),
      s.beyond (q ++ u ∷ []) h,
    )

-- where its walk goes on: what is left is beyond it
visit_rest : (W : Tree) (along : Bool) (q : List ℤ) (b : Option ℤ) (w : List (List ℤ)) (u : ℤ) (G : State) → AreOf W.first W.variables → Stands W along q b w → IsBest W q b G → AtNext W.variables q (λ x. IsFirstValue G x u) → (r : List ℤ) → IsIn W r → All (λ v. Precedes W.variables v r) w → (r ≡ q ++ u ∷ []) ⊎ Rest W.variables (q ++ u ∷ []) None r
visit_rest W along q b w u G a s g f r n p =
    let m = member_out W.conditions W.first W.variables r (in_range W.variables q (λ x. IsFirstValue G x u) f) n.0 in
    visit_cases m.0 G W.variables q b u r m.1.nonempty (are_of W.first m.0 W.variables m.2.objects a) m.3 (s.rest r n p) f (λ k. g.greatest m.0 m.1 m.2 k)

-- the path with the first value is the next member of the walk
visit_front : (W : Tree) (along : Bool) (q : List ℤ) (b : Option ℤ) (w : List (List ℤ)) (u : ℤ) (G : State) → AreOf W.first W.variables → Stands W along q b w → IsBest W q b G → AtNext W.variables q (λ x. IsFirstValue G x u) → IsFront W (w ++ (q ++ u ∷ []) ∷ [])
visit_front W along q b w u G a s g f =
    let i = visit_in W along q b w u G s g f in
    front_push W w (q ++ u ∷ []) s.front i.0 i.1 (λ r n p. elim (visit_rest W along q b w u G a s g f r n p) [
      | inl e ↦ inl e
      | inr h ↦ inr (rest_precedes W.variables (q ++ u ∷ []) r h)
    ])

-- each prefix below it comes after all members walked
visit_beyond : (W : Tree) (along : Bool) (q : List ℤ) (b : Option ℤ) (w : List (List ℤ)) (u : ℤ) (G : State) → Stands W along q b w → IsBest W q b G → AtNext W.variables q (λ x. IsFirstValue G x u) → (r : List ℤ) → Rest W.variables (q ++ u ∷ []) None r → All (λ v. Precedes W.variables v r) (w ++ (q ++ u ∷ []) ∷ [])
visit_beyond W along q b w u G s g f r h =
    All-push (λ v. Precedes W.variables v r) w (q ++ u ∷ []) (s.beyond r (rest_visited G W.variables q b u r g.meets f h)) (rest_precedes W.variables (q ++ u ∷ []) r h)

-- what holds of each prefix holds of the last one and of those before it
all_last : (P : List ℤ → Type 0) (w : List (List ℤ)) (q : List ℤ) → All P (w ++ q ∷ []) → All P w × P q
all_last P w q h = (
  λ k d l. subst P (get_or_append_left w (q ∷ []) d k l) (h k d (omega (arith, length-append w (q ∷ [])))),
  subst P (get_or-append_seam w q [] []) (h (length w) [] (omega (arith, length-append w (q ∷ [])))),
)

-- each other member comes before it, is it, or is left below it or past it
visit_left : (W : Tree) (along : Bool) (q : List ℤ) (b : Option ℤ) (w : List (List ℤ)) (u : ℤ) (G : State) → AreOf W.first W.variables → Stands W along q b w → IsBest W q b G → AtNext W.variables q (λ x. IsFirstValue G x u) → (r : List ℤ) → IsIn W r → All (λ v. Precedes W.variables v r) (w ++ (q ++ u ∷ []) ∷ []) → Rest W.variables (q ++ u ∷ []) None r
visit_left W along q b w u G a s g f r n p =
    let l = all_last (λ v. Precedes W.variables v r) w (q ++ u ∷ []) p in
    elim (visit_rest W along q b w u G a s g f r n l.0) [
      | inl e ↦ absurd (let z : Precedes W.variables (q ++ u ∷ []) (q ++ u ∷ []) = subst (Precedes W.variables (q ++ u ∷ [])) e l.1 in precedes_once W.variables (q ++ u ∷ []) (q ++ u ∷ []) z z)
      | inr h ↦ h
    ]

-- a visit off the token
pub visit_off : (W : Tree) (q : List ℤ) (b : Option ℤ) (w : List (List ℤ)) (u : ℤ) (G : State) → AreOf W.first W.variables → Stands W false q b w → IsBest W q b G → AtNext W.variables q (λ x. IsFirstValue G x u) → Stands W false (q ++ u ∷ []) None (w ++ (q ++ u ∷ []) ∷ [])
visit_off W q b w u G a s g f = record {
  front = visit_front W false q b w u G a s g f;
  beyond = visit_beyond W false q b w u G s g f;
  rest = visit_left W false q b w u G a s g f;
  token = token_off W W.after q (q ++ u ∷ []) b None s.token (λ r h. rest_visited G W.variables q b u r g.meets f h);
}

-- a visit that leaves the token
pub visit_leave : (W : Tree) (q : List ℤ) (b : Option ℤ) (w : List (List ℤ)) (u : ℤ) (G : State) → AreOf W.first W.variables → Stands W true q b w → IsBest W q b G → AtNext W.variables q (λ x. IsFirstValue G x u) → ((t : List ℤ) → W.after ≡ Some t → get_or t (length q) (pos 0) ≡ u → suc (length q) ≡ length W.variables) → Stands W false (q ++ u ∷ []) None (w ++ (q ++ u ∷ []) ∷ [])
visit_leave W q b w u G a s g f e = record {
  front = visit_front W true q b w u G a s g f;
  beyond = visit_beyond W true q b w u G s g f;
  rest = visit_left W true q b w u G a s g f;
  token = token_leave W W.after q b u s.token (rest_here G W.variables q b u g.meets f) e;
}

-- what is left of a walk after a token lies from its bound on
rest_bound : (W : Tree) (t q : List ℤ) (c : ℤ) (r : List ℤ) → W.after ≡ Some t → 0 < length W.variables → FollowsToken W (Some t) true q (Some c) → IsIn W r → Rest W.variables q None r → Rest W.variables q (Some c) r
rest_bound W t q c r e l f n h =
    let m = member_out W.conditions W.first W.variables r l n.0 in
    let k : IsAfter W.variables t r = subst (λ (a : Option (List ℤ)). IfSome a (λ t. IsAfter W.variables t r)) e n.1 in
    rest_along W.variables t q c r f.0 (begins_length m.0 W.variables r m.3) k f.1 h

-- what is left from a bound on is left
bound_rest : (xs : List Variable) (q : List ℤ) (c : ℤ) (r : List ℤ) → Rest xs q (Some c) r → Rest xs q None r
bound_rest [] q c r h = h
bound_rest (x ∷ xs) q c [] h = absurd h
bound_rest (x ∷ xs) [] c (w ∷ r) h = tt
bound_rest (x ∷ xs) (v ∷ q) c (w ∷ r) (inl h) = inl h
bound_rest (x ∷ xs) (v ∷ q) c (w ∷ r) (inr h) = inr (h.0, bound_rest xs q c r h.1)

-- a visit along the token
pub visit_stay : (W : Tree) (t q : List ℤ) (b : Option ℤ) (w : List (List ℤ)) (u : ℤ) (G : State) → AreOf W.first W.variables → Stands W true q b w → IsBest W q b G → AtNext W.variables q (λ x. IsFirstValue G x u) → W.after ≡ Some t → get_or t (length q) (pos 0) ≡ u → suc (length q) < length W.variables → Stands W true (q ++ u ∷ []) (Some (bound_at W.variables t (suc (length q)))) (w ++ (q ++ u ∷ []) ∷ [])
visit_stay W t q b w u G a s g f e k l =
    let c = bound_at W.variables t (suc (length q)) in
    let z : FollowsToken W (Some t) true (q ++ u ∷ []) (Some c) = token_stay W t q b u (subst (λ (o : Option (List ℤ)). FollowsToken W o true q b) e s.token) k l in
    record {
      front = visit_front W true q b w u G a s g f;
      beyond = λ r h. visit_beyond W true q b w u G s g f r (bound_rest W.variables (q ++ u ∷ []) c r h);
      rest = λ r n p. rest_bound W t (q ++ u ∷ []) c r e (omega (arith, l)) z n (visit_left W true q b w u G a s g f r n p);
      token = subst (λ (o : Option (List ℤ)). FollowsToken W o true (q ++ u ∷ []) (Some c)) (sym e) z;
    }

-- a level is closed, where no supported state meets its demand
pub stands_close : (W : Tree) (along : Bool) (q : List ℤ) (v c : ℤ) (b : Option ℤ) (w : List (List ℤ)) → AreOf W.first W.variables → Stands W along (q ++ v ∷ []) b w → NoneMeets W (q ++ v ∷ []) b → AtNext W.variables q (λ x. c ≡ after x v) → Stands W false q (Some c) w
stands_close W along q v c b w a s none e = record {
  front = s.front;
  beyond = λ r h. s.beyond r (rest_closed W.variables q v c b r e h);
  rest = λ r n p.
      let m = member_out W.conditions W.first W.variables r (in_range W.variables q (λ x. c ≡ after x v) e) n.0 in
      elim (close_cases m.0 W.variables q v c b r m.1.nonempty (are_of W.first m.0 W.variables m.2.objects a) m.3 e (s.rest r n p)) [
        | inl h ↦ h
        | inr k ↦ absurd (none m.0 m.1 m.2 k)
      ];
  token = token_close W W.after along q v c b s.token e (λ r h. rest_closed W.variables q v c b r e h);
}

-- a level is closed, where its prefix is full
pub stands_full : (W : Tree) (along : Bool) (q : List ℤ) (v c : ℤ) (b : Option ℤ) (w : List (List ℤ)) → Stands W along (q ++ v ∷ []) b w → length W.variables ≡ suc (length q) → AtNext W.variables q (λ x. c ≡ after x v) → Stands W false q (Some c) w
stands_full W along q v c b w s l e = record {
  front = s.front;
  beyond = λ r h. s.beyond r (rest_closed W.variables q v c b r e h);
  rest = λ r n p. close_full W.variables q v c b r l e (s.rest r n p);
  token = token_close W W.after along q v c b s.token e (λ r h. rest_closed W.variables q v c b r e h);
}

-- where no supported state meets the first demand the walk is used up
pub stands_whole : (W : Tree) (along : Bool) (b : Option ℤ) (w : List (List ℤ)) → AreOf W.first W.variables → 0 < length W.variables → Stands W along [] b w → NoneMeets W [] b → IsWhole W w
stands_whole W along b w a l s none = front_whole W w s.front (λ r n p.
    let m = member_out W.conditions W.first W.variables r l n.0 in
    none m.0 m.1 m.2 (met W.variables m.0 b r m.1.nonempty (are_of W.first m.0 W.variables m.2.objects a) m.3 (s.rest r n p)))
  where
    met : (xs : List Variable) (T : State) (b : Option ℤ) (r : List ℤ) → HasNoEmpty T → AreOf T xs → Begins T xs r → Rest xs [] b r → Meets xs [] b T
    met [] T b r n a g h = absurd h
    met (x ∷ xs) T b [] n a g h = absurd h
    met (x ∷ xs) T b (w ∷ r) n a g h = begins_from T x xs w r b n a.0 g h

-- ---- the start

-- at the start each prefix is left
starts : (xs : List Variable) (T : State) (r : List ℤ) → Begins T xs r → Rest xs [] None r
starts xs T [] g = absurd g
starts [] T (w ∷ r) g = absurd g
starts (x ∷ xs) T (w ∷ r) g = tt

-- the search stands at its start, without a token
pub stands_start : (W : Tree) → 0 < length W.variables → W.after ≡ None → Stands W false [] None []
stands_start W l e = record {
  front = front_none W;
  beyond = λ r h. All-nil (λ u. Precedes W.variables u r);
  rest = λ r n p. let m = member_out W.conditions W.first W.variables r l n.0 in starts W.variables m.0 r m.3;
  token = subst (λ (o : Option (List ℤ)). FollowsToken W o false [] None) (sym e) refl;
}

-- and with one
pub stands_after : (W : Tree) (t : List ℤ) → 0 < length W.variables → W.after ≡ Some t → length t ≡ length W.variables → Stands W true [] (Some (bound_at W.variables t 0)) []
stands_after W t l e k =
    let z : FollowsToken W (Some t) true [] (Some (bound_at W.variables t 0)) = (k, onway_start W.variables t k l) in
    record {
      front = front_none W;
      beyond = λ r h. All-nil (λ u. Precedes W.variables u r);
      rest = λ r n p. let m = member_out W.conditions W.first W.variables r l n.0 in rest_bound W t [] (bound_at W.variables t 0) r e l z n (starts W.variables m.0 r m.3);
      token = subst (λ (o : Option (List ℤ)). FollowsToken W o true [] (Some (bound_at W.variables t 0))) (sym e) z;
    }

-- ---- the steps of the walker

-- the walk of those conditions, state, variables and token
abbrev tree : List Cond → State → List Variable → Option (List ℤ) → Tree
tree cs f v t = record { conditions = cs; first = f; variables = v; after = t }

-- the same walk has the same tree
pub tree_same : (cs : List Cond) (p r : Position) → SameWalk p r → tree_of cs p ≡ tree_of cs r
tree_same cs p r s =
    ap (λ (f : State). tree cs f p.variables p.token) (sym s.first) ∙ ap (λ (v : List Variable). tree cs r.first v p.token) (sym s.variables) ∙ ap (λ (t : Option (List ℤ)). tree cs r.first r.variables t) (sym s.token)

-- a search stands at its own path and levels
pub searches_as : (cs : List Cond) (r : Position) (W : Tree) (along : Bool) (q : List ℤ) (b : Option ℤ) (w : List (List ℤ)) (saved : List State) → W ≡ tree_of cs r → along ≡ r.along → q ≡ path r → saved ≡ r.trail.restores → Stands W along q b w → AreLevels W q saved → IsLeft W q b r.trail.state → length w ≡ r.walked → Searches cs r w
searches_as cs r W along q b w saved e f g h s a l n = (
  b,
  subst (λ (V : Tree). Stands V r.along (path r) b w) e (subst (λ (c : Bool). Stands W c (path r) b w) f (subst (λ (p : List ℤ). Stands W along p b w) g s)),
  subst (λ (V : Tree). AreLevels V (path r) r.trail.restores) e (subst (λ (p : List ℤ). AreLevels W p r.trail.restores) g (subst (AreLevels W q) h a)),
  subst (λ (V : Tree). IsLeft V (path r) b r.trail.state) e (subst (λ (p : List ℤ). IsLeft W p b r.trail.state) g l),
  n,
)

-- the path has one value for each level
pub path_length : (p : Position) → depth p ≤ length p.values → length (path p) ≡ depth p
path_length p h = length-take-le (depth p) p.values h

-- a level more has one value more
pub path_entered : (p r : Position) (u : ℤ) → depth p < length p.values → r.trail.restores ≡ p.trail.restores ++ p.trail.state ∷ [] → r.values ≡ set p.values (depth p) u → path r ≡ path p ++ u ∷ []
path_entered p r u h e f =
    let n : depth r ≡ suc (depth p) = ap length e ∙ length-append p.trail.restores (p.trail.state ∷ []) ∙ (let z : depth p + 1 ≡ suc (depth p) = omega arith in z) in
    ap (λ (m : ℕ). take m r.values) n ∙ ap (take (suc (depth p))) f ∙ take-suc-set p.values (depth p) u h

-- the member is walked, and the search stands below it
enter_stands : (W : Tree) (along : Bool) (q : List ℤ) (b : Option ℤ) (w : List (List ℤ)) (u : ℤ) (G : State) → AreOf W.first W.variables → Stands W along q b w → IsBest W q b G → AtNext W.variables q (λ x. IsFirstValue G x u) → (along ≡ true → (t : List ℤ) → W.after ≡ Some t → get_or t (length q) (pos 0) ≡ u → suc (length q) ≡ length W.variables) → Stands W false (q ++ u ∷ []) None (w ++ (q ++ u ∷ []) ∷ [])
enter_stands W false q b w u G a s g f e = visit_off W q b w u G a s g f
enter_stands W true q b w u G a s g f e = visit_leave W q b w u G a s g f (e refl)

-- a level is opened off the token
pub descend_off : (cs : List Cond) (p r : Position) (w : List (List ℤ)) (u : ℤ) (x : Variable) → AreOf p.first p.variables → depth p < length p.variables → length p.values ≡ length p.variables → get_or p.variables (depth p) x ≡ x → IsFirstValue p.trail.state x u → SameWalk p r → r.trail.restores ≡ p.trail.restores ++ p.trail.state ∷ [] → r.values ≡ set p.values (depth p) u → r.walked ≡ p.walked + 1 → r.along ≡ false → Narrows p.trail.state r.trail.state (λ T. IsFixed T x u) → StaysOn p u None → Rests cs p w → Searches cs r (w ++ (path p ++ u ∷ []) ∷ [])
descend_off cs p r w u x a m v e f s o i k l n t h =
    let W = tree_of cs p in
    let q = path p in
    let z : length q ≡ depth p = path_length p (omega (arith, m, v)) in
    let m' : length q < length p.variables = omega (arith, z, m) in
    let e' : get_or p.variables (length q) x ≡ x = ap (λ (j : ℕ). get_or p.variables j x) z ∙ e in
    let g : AtNext p.variables q (λ y. IsFirstValue p.trail.state y u) = at_number p.variables q (λ y. IsFirstValue p.trail.state y u) x m' (subst (λ (y : Variable). IsFirstValue p.trail.state y u) (sym e') f) in
    let leave : p.along ≡ true → (c : List ℤ) → p.token ≡ Some c → get_or c (length q) (pos 0) ≡ u → suc (length q) ≡ length p.variables =
    λ y c d j. ap suc z ∙ t y c d (ap (λ (n : ℕ). get_or c n (pos 0)) (sym z) ∙ j) in
    let st : Stands W p.along q h.0 w = h.1 in
    let bs : IsBest W q h.0 p.trail.state = h.3 in
    searches_as cs r W false (q ++ u ∷ []) None (w ++ (q ++ u ∷ []) ∷ []) (p.trail.restores ++ p.trail.state ∷ []) (tree_same cs p r s) (sym l) (sym (path_entered p r u (omega (arith, m, v)) o i)) (sym o)
    (enter_stands W p.along q h.0 w u p.trail.state a st bs g leave)
    (levels_push W q p.trail.restores u p.trail.state h.2 (h.0, bs, g))
    (left_fix W q h.0 u x p.trail.state r.trail.state a m' bs e' f n)
    (length-append w ((q ++ u ∷ []) ∷ []) ∙ ap (λ (j : ℕ). j + 1) h.4 ∙ sym k)

-- a level is opened along the token
pub descend_on : (cs : List Cond) (p r : Position) (w : List (List ℤ)) (u c : ℤ) (x y : Variable) (N : State) → AreOf p.first p.variables → depth p < length p.variables → length p.values ≡ length p.variables → get_or p.variables (depth p) x ≡ x → IsFirstValue p.trail.state x u → SameWalk p r → r.trail.restores ≡ p.trail.restores ++ p.trail.state ∷ [] → r.values ≡ set p.values (depth p) u → r.walked ≡ p.walked + 1 → r.along ≡ p.along → Narrows p.trail.state N (λ T. IsFixed T x u) → StaysOn p u (Some c) → get_or p.variables (suc (depth p)) y ≡ y → Narrows N r.trail.state (λ T. IsFrom T y c) → Rests cs p w → Searches cs r (w ++ (path p ++ u ∷ []) ∷ [])
descend_on cs p r w u c x y N a m v e f s o i k l n t d j h =
    let W = tree_of cs p in
    let q = path p in
    let z : length q ≡ depth p = path_length p (omega (arith, m, v)) in
    let m' : length q < length p.variables = omega (arith, z, m) in
    let e' : get_or p.variables (length q) x ≡ x = ap (λ (j : ℕ). get_or p.variables j x) z ∙ e in
    let g : AtNext p.variables q (λ y. IsFirstValue p.trail.state y u) = at_number p.variables q (λ y. IsFirstValue p.trail.state y u) x m' (subst (λ (y : Variable). IsFirstValue p.trail.state y u) (sym e') f) in
    let T = t.0 in
    let st : Stands W true q h.0 w = subst (λ (b : Bool). Stands W b q h.0 w) t.1 h.1 in
    let bs : IsBest W q h.0 p.trail.state = h.3 in
    let ce : bound_at p.variables T (suc (length q)) ≡ c = ap (λ (j : ℕ). bound_at p.variables T (suc j)) z ∙ sym t.5 in
    let len : length (q ++ u ∷ []) ≡ suc (depth p) = length-append q (u ∷ []) ∙ (let b : length q + 1 ≡ suc (depth p) = omega (arith, z) in b) in
    let d' : get_or p.variables (length (q ++ u ∷ [])) y ≡ y = ap (λ (j : ℕ). get_or p.variables j y) len ∙ d in
    let sn : Stands W true (q ++ u ∷ []) (Some c) (w ++ (q ++ u ∷ []) ∷ []) = subst (λ (b : ℤ). Stands W true (q ++ u ∷ []) (Some b) (w ++ (q ++ u ∷ []) ∷ [])) ce
    (visit_stay W T q h.0 w u p.trail.state a st bs g t.2 (ap (λ (n : ℕ). get_or T n (pos 0)) z ∙ t.3) (omega (arith, z, t.4))) in
    searches_as cs r W true (q ++ u ∷ []) (Some c) (w ++ (q ++ u ∷ []) ∷ []) (p.trail.restores ++ p.trail.state ∷ []) (tree_same cs p r s) (sym (l ∙ t.1)) (sym (path_entered p r u (omega (arith, m, v)) o i)) (sym o)
    sn
    (levels_push W q p.trail.restores u p.trail.state h.2 (h.0, bs, g))
    (left_bound W (q ++ u ∷ []) c y N r.trail.state a (omega (arith, len, t.4)) (left_fix W q h.0 u x p.trail.state N a m' bs e' f n) d' j)
    (length-append w ((q ++ u ∷ []) ∷ []) ∙ ap (λ (j : ℕ). j + 1) h.4 ∙ sym k)

-- the same of a search that is stuck
stuck_as : (cs : List Cond) (r : Position) (W : Tree) (along : Bool) (q : List ℤ) (b : Option ℤ) (w : List (List ℤ)) (saved : List State) → W ≡ tree_of cs r → along ≡ r.along → q ≡ path r → saved ≡ r.trail.restores → Stands W along q b w → AreLevels W q saved → IsDone W q b → length w ≡ r.walked → IsStuck cs r w
stuck_as cs r W along q b w saved e f g h s a l n = (
  b,
  subst (λ (V : Tree). Stands V r.along (path r) b w) e (subst (λ (c : Bool). Stands W c (path r) b w) f (subst (λ (p : List ℤ). Stands W along p b w) g s)),
  subst (λ (V : Tree). AreLevels V (path r) r.trail.restores) e (subst (λ (p : List ℤ). AreLevels W p r.trail.restores) g (subst (AreLevels W q) h a)),
  subst (λ (V : Tree). IsDone V (path r) b) e (subst (λ (p : List ℤ). IsDone W p b) g l),
  n,
)

-- no supported state has all values of the variable from the next one on
none_past : (W : Tree) (q : List ℤ) (b : Option ℤ) (u v : ℤ) (x : Variable) (G : State) → length q < length W.variables → IsBest W q b G → get_or W.variables (length q) x ≡ x → IsFirstValue G x u → v ≡ after x u → HasNoneFrom G x v → NoneMeets W q (Some v)
none_past W q b u v x G l g e f p n T s i m =
    let r = meets_looser T G W.variables q b u v g.meets (at_number W.variables q (λ y. IsFirstValue G y u × (v ≡ after y u)) x l (subst (λ (y : Variable). IsFirstValue G y u × (v ≡ after y u)) (sym e) (f, p))) m in
    n T s.nonempty (g.greatest T s i r.0) (subst (λ (y : Variable). IsFrom T y v) e (at_number_out W.variables q (λ y. IsFrom T y v) x r.1))

-- a level is closed: where the walk stands then
module _ (cs : List Cond) (p r : Position) (w : List (List ℤ)) (G : State) (x : Variable) (c : ℤ) (a : AreOf p.first p.variables) (m : depth p ≤ length p.variables) (v : length p.values ≡ length p.variables) (s : SameWalk p r) (l : Closes p r G x c) (i : r.values ≡ p.values) (h : IsStuck cs p w) where
  closed_depth : depth p ≡ suc (depth r)
  closed_depth = ap length l.restored ∙ length-append r.trail.restores (G ∷ []) ∙ (let z : depth r + 1 ≡ suc (depth r) = omega arith in z)

  abbrev closed_value : ℤ
  closed_value = get_or p.values (depth r) (pos 0)

  abbrev closed_path : List ℤ
  closed_path = take (depth r) p.values

  closed_length : length closed_path ≡ depth r
  closed_length = length-take-le (depth r) p.values (omega (arith, closed_depth, m, v))

  closed_was : path p ≡ closed_path ++ closed_value ∷ []
  closed_was = ap (λ (j : ℕ). take j p.values) closed_depth ∙ take-suc p.values (depth r) (pos 0) (omega (arith, closed_depth, m, v))

  closed_open : length closed_path < length p.variables
  closed_open = omega (arith, closed_length, closed_depth, m)

  closed_variable : get_or p.variables (length closed_path) x ≡ x
  closed_variable = ap (λ (j : ℕ). get_or p.variables j x) closed_length ∙ l.variable

  closed_past : AtNext p.variables closed_path (λ y. c ≡ after y closed_value)
  closed_past = at_number p.variables closed_path (λ y. c ≡ after y closed_value) x closed_open (subst (λ (y : Variable). c ≡ after y closed_value) (sym closed_variable) l.next)

  closed_stands : Stands (tree_of cs p) p.along (closed_path ++ closed_value ∷ []) h.0 w
  closed_stands = subst (λ (j : List ℤ). Stands (tree_of cs p) p.along j h.0 w) closed_was h.1

  closed_levels : AreLevels (tree_of cs p) closed_path r.trail.restores × IsLevel (tree_of cs p) closed_path closed_value G
  closed_levels = levels_pop (tree_of cs p) closed_path r.trail.restores closed_value G
      (subst (AreLevels (tree_of cs p) (closed_path ++ closed_value ∷ [])) l.restored (subst (λ (j : List ℤ). AreLevels (tree_of cs p) j p.trail.restores) closed_was h.2))

  closed_first : IsFirstValue G x closed_value
  closed_first = subst (λ (y : Variable). IsFirstValue G y closed_value) closed_variable (at_number_out p.variables closed_path (λ y. IsFirstValue G y closed_value) x closed_levels.1.2)

  closed_on : Stands (tree_of cs p) false closed_path (Some c) w
  closed_on = elim h.3 [
    | inl full ↦ stands_full (tree_of cs p) p.along closed_path closed_value c h.0 w closed_stands (let y : length (path p) ≡ length p.variables = full in omega (arith, ap length closed_was, length-append closed_path (closed_value ∷ []), y)) closed_past
    | inr none ↦ stands_close (tree_of cs p) p.along closed_path closed_value c h.0 w a closed_stands (subst (λ (j : List ℤ). NoneMeets (tree_of cs p) j h.0) closed_was none) closed_past
  ]

  -- the walk goes on past its value
  pub retreated : r.walked ≡ p.walked → r.along ≡ false → Narrows G r.trail.state (λ T. IsFrom T x c) → Searches cs r w
  retreated k f n = searches_as cs r (tree_of cs p) false closed_path (Some c) w r.trail.restores (tree_same cs p r s) (sym f) (sym (ap (take (depth r)) i)) refl
      closed_on
      closed_levels.0
      (left_past (tree_of cs p) closed_path closed_levels.1.0 closed_value c x G r.trail.state a closed_open closed_levels.1.1 closed_variable closed_first l.next n)
      (h.4 ∙ sym k)

  -- there is no value past it
  pub still_stuck : r.walked ≡ p.walked → r.along ≡ false → HasNoneFrom G x c → IsStuck cs r w
  still_stuck k f n = stuck_as cs r (tree_of cs p) false closed_path (Some c) w r.trail.restores (tree_same cs p r s) (sym f) (sym (ap (take (depth r)) i)) refl
      closed_on
      closed_levels.0
      (inr (none_past (tree_of cs p) closed_path closed_levels.1.0 closed_value c x G closed_open closed_levels.1.1 closed_variable closed_first l.next n))
      (h.4 ∙ sym k)

-- ---- what is true of each walker

-- one value more that fits its variable
pub values_set : (xs : List Variable) (vs : List ℤ) (m : ℕ) (x : Variable) (u : ℤ) → m < length xs → length vs ≡ length xs → get_or xs m x ≡ x → IsValueOf x u → AreValues xs vs → AreValues xs (set vs m u)
values_set xs vs m x u h l e k a i y b = elim (cases_eq i m) [
  | inl q ↦ subst (λ (n : ℕ). IsValueOf (get_or xs n y) (get_or (set vs m u) n (pos 0))) (sym q)
      (subst (λ (z : ℤ). IsValueOf (get_or xs m y) z) (sym (get_or-set_same vs m u (pos 0) (omega (arith, h, l))))
      (subst (λ (z : Variable). IsValueOf z u) (sym (any_default xs m y x h ∙ e)) k))
  | inr ne ↦ subst (λ (z : ℤ). IsValueOf (get_or xs i y) z) (sym (get_or-set_other vs m i u (pos 0) ne)) (a i y b)
]

-- a walker stays well when a level is opened
pub well_entered : (k : ℕ) (p r : Position) (x : Variable) (u : ℤ) → IsWell k p → depth p < length p.variables → get_or p.variables (depth p) x ≡ x → IsValueOf x u → SameWalk p r → r.trail.levels ≡ p.trail.levels → r.trail.restores ≡ p.trail.restores ++ p.trail.state ∷ [] → r.values ≡ set p.values (depth p) u → Inside r.trail.state p.trail.state → IsWell k r
well_entered k p r x u w m y n s l o v i = record {
  objects = subst (λ (x : List Variable). AreOf r.first x) (sym s.variables) (subst (λ (f : State). AreOf f p.variables) (sym s.first) w.objects);
  dimensions = subst (All (HasDimension k)) (sym s.variables) w.dimensions;
  token = subst (λ (t : Option (List ℤ)). IsToken r.variables t) (sym s.token) (subst (λ (x : List Variable). IsToken x p.token) (sym s.variables) w.token);
  room = omega (arith, ap length s.variables, l, w.room);
  values = ap length v ∙ length-set p.values (depth p) u ∙ w.values ∙ ap length (sym s.variables);
  depth = omega (arith, ap length o, length-append p.trail.restores (p.trail.state ∷ []), m, ap length s.variables);
  inside = inside_trans r.trail.state p.trail.state r.first i (subst (Inside p.trail.state) (sym s.first) w.inside);
  saved = subst (All (λ S. Inside S r.first)) (sym o) (All-push (λ S. Inside S r.first) p.trail.restores p.trail.state (subst (λ (f : State). All (λ S. Inside S f) p.trail.restores) (sym s.first) w.saved) (subst (Inside p.trail.state) (sym s.first) w.inside));
  numbers = subst (λ (z : List ℤ). AreValues r.variables z) (sym v) (subst (λ (z : List Variable). AreValues z (set p.values (depth p) u)) (sym s.variables) (values_set p.variables p.values (depth p) x u m w.values y n w.numbers));
}

-- when one is closed
pub well_left : (k : ℕ) (p r : Position) (G : State) (x : Variable) (c : ℤ) → IsWell k p → SameWalk p r → Closes p r G x c → Inside r.trail.state G → r.values ≡ p.values → IsWell k r
well_left k p r G x c w s l i v =
    let all : All (λ S. Inside S p.first) (r.trail.restores ++ G ∷ []) = subst (All (λ S. Inside S p.first)) l.restored w.saved in
    record {
      objects = subst (λ (x : List Variable). AreOf r.first x) (sym s.variables) (subst (λ (f : State). AreOf f p.variables) (sym s.first) w.objects);
      dimensions = subst (All (HasDimension k)) (sym s.variables) w.dimensions;
      token = subst (λ (t : Option (List ℤ)). IsToken r.variables t) (sym s.token) (subst (λ (x : List Variable). IsToken x p.token) (sym s.variables) w.token);
      room = omega (arith, ap length s.variables, l.levels, w.room);
      values = ap length v ∙ w.values ∙ ap length (sym s.variables);
      depth = omega (arith, ap length l.restored, length-append r.trail.restores (G ∷ []), w.depth, ap length s.variables);
      inside = inside_trans r.trail.state G r.first i (subst (Inside G) (sym s.first) (last_of (λ S. Inside S p.first) r.trail.restores G all));
      saved = subst (λ (f : State). All (λ S. Inside S f) r.trail.restores) (sym s.first) (λ i d b. before_last (λ S. Inside S p.first) r.trail.restores G all i d b);
      numbers = subst (λ (z : List ℤ). AreValues r.variables z) (sym v) (subst (λ (z : List Variable). AreValues z p.values) (sym s.variables) w.numbers);
    }

-- ---- a settle

-- the same levels and values give the same path
path_kept : (p r : Position) → r.trail.restores ≡ p.trail.restores → r.values ≡ p.values → path p ≡ path r
path_kept p r o v = ap (λ (l : List State). take (length l) p.values) (sym o) ∙ ap (take (depth r)) (sym v)

-- the same of a search whose state is settled
rests_as : (cs : List Cond) (r : Position) (W : Tree) (along : Bool) (q : List ℤ) (b : Option ℤ) (w : List (List ℤ)) (saved : List State) → W ≡ tree_of cs r → along ≡ r.along → q ≡ path r → saved ≡ r.trail.restores → Stands W along q b w → AreLevels W q saved → IsBest W q b r.trail.state → length w ≡ r.walked → Rests cs r w
rests_as cs r W along q b w saved e f g h s a l n = (
  b,
  subst (λ (V : Tree). Stands V r.along (path r) b w) e (subst (λ (c : Bool). Stands W c (path r) b w) f (subst (λ (p : List ℤ). Stands W along p b w) g s)),
  subst (λ (V : Tree). AreLevels V (path r) r.trail.restores) e (subst (λ (p : List ℤ). AreLevels W p r.trail.restores) g (subst (AreLevels W q) h a)),
  subst (λ (V : Tree). IsBest V (path r) b r.trail.state) e (subst (λ (p : List ℤ). IsBest W p b r.trail.state) g l),
  n,
)

-- what a settle gives a search
pub settled_in : {E : Type 0} (cs : List Cond) (p q : Position) (a : Result Settled E) → SameWalk p q → SettlesOr cs p.trail.state a q.trail.state → q.trail.restores ≡ p.trail.restores → q.values ≡ p.values → q.along ≡ p.along → q.walked ≡ p.walked → SettledAs cs p a q
settled_in cs p q (Ok Kept) s h o v l n = (
  h.supported.nonempty,
  λ w t.
      let e = path_kept p q o v in
      rests_as cs q (tree_of cs p) p.along (path p) t.0 w p.trail.restores (tree_same cs p q s) (sym l) e (sym o) t.1 t.2 (best_of_left (tree_of cs p) (path p) t.0 p.trail.state q.trail.state t.3 h) (t.4 ∙ sym n),
)
settled_in cs p q (Ok Dead) s h o v l n = λ w t.
    let e = path_kept p q o v in
    stuck_as cs q (tree_of cs p) p.along (path p) t.0 w p.trail.restores (tree_same cs p q s) (sym l) e (sym o) t.1 t.2 (inr (none_of_left (tree_of cs p) (path p) t.0 p.trail.state t.3 h.0)) (t.4 ∙ sym n)
settled_in cs p q (Err e) s h o v l n = tt

-- a settle only narrows
pub settles_inside : {E : Type 0} (cs : List Cond) (S T : State) (a : Result Settled E) → SettlesOr cs S a T → Inside T S
settles_inside cs S T (Ok Kept) h = h.inside
settles_inside cs S T (Ok Dead) h = h.1
settles_inside cs S T (Err e) h = h

-- a walker stays well when its state is settled
pub well_settled : (k : ℕ) (p r : Position) → IsWell k p → SameWalk p r → r.trail.levels ≡ p.trail.levels → r.trail.restores ≡ p.trail.restores → r.values ≡ p.values → Inside r.trail.state p.trail.state → IsWell k r
well_settled k p r w s l o v i = record {
  objects = subst (λ (x : List Variable). AreOf r.first x) (sym s.variables) (subst (λ (f : State). AreOf f p.variables) (sym s.first) w.objects);
  dimensions = subst (All (HasDimension k)) (sym s.variables) w.dimensions;
  token = subst (λ (t : Option (List ℤ)). IsToken r.variables t) (sym s.token) (subst (λ (x : List Variable). IsToken x p.token) (sym s.variables) w.token);
  room = omega (arith, ap length s.variables, l, w.room);
  values = ap length v ∙ w.values ∙ ap length (sym s.variables);
  depth = omega (arith, ap length o, w.depth, ap length s.variables);
  inside = inside_trans r.trail.state p.trail.state r.first i (subst (Inside p.trail.state) (sym s.first) w.inside);
  saved = subst (All (λ S. Inside S r.first)) (sym o) (subst (λ (f : State). All (λ S. Inside S f) p.trail.restores) (sym s.first) w.saved);
  numbers = subst (λ (z : List ℤ). AreValues r.variables z) (sym v) (subst (λ (z : List Variable). AreValues z p.values) (sym s.variables) w.numbers);
}
