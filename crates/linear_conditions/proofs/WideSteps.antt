-- Steps of the program's loops over the terms of sums.
use Rattle.std.proofs.Common.{◌≡◌, ℕ, zero, suc, ◌<◌, ◌≤◌, ltb, ◌&&◌, Bool, true, false, cond, not, List, [], ◌∷◌, ◌++◌, length, get_or, take, drop, ℤ, pos, ◌+◌, ◌+ℤ◌, ◌*ℤ◌, sym, ap, ◌∙◌, refl, arith, subst, FitsSigned, to_z, of_z, to_z-of_z, append-nil, append_assoc}
use Rattle.std.specs.Prelude.{slice_set, insert, remove}
use Rattle.std.specs.Int.{w64, w128}
use Rattle.std.specs.List.{All, list_all}
use Rattle.std.proofs.lemmas.Bool.Decides.{nat_tests}
use Rattle.std.proofs.lemmas.Int.{ints}
use Rattle.std.proofs.lemmas.List.{drop_more, take-append-drop, length-map, get_or-map}
use Rattle.std.proofs.lemmas.List.Sums.{position_or_len_is, prefix_len-le-length}
use Rattle.std.proofs.Math.ListN.{drop_of_length-le}
use Rattle.geo_conditions.specs.declared.form.Term.{Term}
use Rattle.geo_conditions.specs.Form.{IsBounded, IsForm}
use Rattle.linear_conditions.specs.declared.wide.WideTerm.{WideTerm}
use Rattle.linear_conditions.specs.Sums.{is_zero, scale_terms, term, unless_zero, same_coordinate, add_at, place_among, raised, is_bounded}
use Rattle.linear_conditions.specs.Room.{HasRoom}
use Rattle.linear_conditions.specs.Views.{wide_term, wide_terms}
use Rattle.linear_conditions.proofs.Places.{belongs, none, added-raised, added-new}

-- the first terms, one after another, up to the place where a belongs
pub place-found : (a : Term) (ws : List WideTerm) (i : ℕ) (e : WideTerm) → i < length ws → ((k : ℕ) → k < i → (d : WideTerm) → belongs a (wide_term (get_or ws k d)) ≡ false) →
    belongs a (wide_term (get_or ws i e)) ≡ true → i ≡ place_among a (wide_terms ws)
place-found a ws i e l h b =
    sym (position_or_len_is (belongs a) (wide_terms ws) i none (omega (arith, length-map ws wide_term))
    (λ k m. ap (belongs a) (get_or-map wide_term ws k e none (omega (arith, m, l))) ∙ h k m e)
    (λ m. ap (belongs a) (get_or-map wide_term ws i e none l) ∙ b))

pub place-ended : (a : Term) (ws : List WideTerm) (i : ℕ) (e : WideTerm) → i ≡ length ws → ((k : ℕ) → k < i → (d : WideTerm) → belongs a (wide_term (get_or ws k d)) ≡ false) → i ≡ place_among a (wide_terms ws)
place-ended a ws i e l h =
    sym (position_or_len_is (belongs a) (wide_terms ws) i none (omega (arith, length-map ws wide_term))
    (λ k m. ap (belongs a) (get_or-map wide_term ws k e none (omega (arith, m, l))) ∙ h k m e)
    (λ m. absurd (omega (arith, m, l, length-map ws wide_term))))

-- the term that the program reads where there is none
abbrev pub nothing : WideTerm
nothing = record { object = record { 0 = 0 }; dimension = 0; factor = pos 0 }

abbrev pub factors_fit : List Term → Bool
factors_fit ts = list_all (λ (t : Term). is_bounded t.factor) ts

-- what an element has room for
pub room-at : (ws : List WideTerm) (i : ℕ) (z : ℤ) (e : WideTerm) → HasRoom (wide_terms ws) z → i < length ws → FitsSigned w128 ((get_or ws i e).factor +ℤ z)
room-at ws i z e h l = subst (λ (t : Term). FitsSigned w128 (t.factor +ℤ z)) (get_or-map wide_term ws i e none l) (h i none (omega (arith, l, length-map ws wide_term)))

set-split : (ts : List Term) (i : ℕ) (t : Term) → i < length ts → slice_set ts i t ≡ take i ts ++ t ∷ drop (suc i) ts
set-split [] i t l = absurd (omega arith)
set-split (u ∷ ts) zero t l = refl
set-split (u ∷ ts) (suc i) t l = ap (λ xs. u ∷ xs) (set-split ts i t (omega arith))

map-set : (ws : List WideTerm) (i : ℕ) (w : WideTerm) → wide_terms (slice_set ws i w) ≡ slice_set (wide_terms ws) i (wide_term w)
map-set [] i w = refl
map-set (v ∷ ws) zero w = refl
map-set (v ∷ ws) (suc i) w = ap (λ xs. wide_term v ∷ xs) (map-set ws i w)

map-remove : (ws : List WideTerm) (i : ℕ) → wide_terms (remove ws i) ≡ remove (wide_terms ws) i
map-remove [] zero = refl
map-remove [] (suc i) = refl
map-remove (v ∷ ws) zero = refl
map-remove (v ∷ ws) (suc i) = ap (λ xs. wide_term v ∷ xs) (map-remove ws i)

map-insert : (ws : List WideTerm) (i : ℕ) (w : WideTerm) → wide_terms (insert ws i w) ≡ insert (wide_terms ws) i (wide_term w)
map-insert [] zero w = refl
map-insert [] (suc i) w = refl
map-insert (v ∷ ws) zero w = refl
map-insert (v ∷ ws) (suc i) w = ap (λ xs. wide_term v ∷ xs) (map-insert ws i w)

zero-gone : (t : Term) (ts : List Term) → is_zero t.factor ≡ true → unless_zero t ts ≡ ts
zero-gone t ts h = ap (λ b. cond b ts (t ∷ ts)) h

not-zero-kept : (t : Term) (ts : List Term) → is_zero t.factor ≡ false → unless_zero t ts ≡ t ∷ ts
not-zero-kept t ts h = ap (λ b. cond b ts (t ∷ ts)) h

-- the term at a place with a's factor added
abbrev pub at_place : List WideTerm → ℕ → WideTerm → WideTerm → Term
at_place ws i e a = term (get_or ws i e).object.0 (get_or ws i e).dimension ((get_or ws i e).factor +ℤ a.factor)

raised-is : (ws : List WideTerm) (i : ℕ) (e a : WideTerm) → i < length ws → raised (wide_term a) (wide_terms ws) i ≡ take i (wide_terms ws) ++ unless_zero (at_place ws i e a) (drop (suc i) (wide_terms ws))
raised-is ws i e a l = ap (λ (t : Term). take i (wide_terms ws) ++ unless_zero (term t.object.0 t.dimension (t.factor +ℤ a.factor)) (drop (suc i) (wide_terms ws))) (get_or-map wide_term ws i e none l)

pub raise-removed : (ws : List WideTerm) (i : ℕ) (e a changed : WideTerm) → i < length ws → wide_term changed ≡ at_place ws i e a → is_zero changed.factor ≡ true → wide_terms (remove ws i) ≡ raised (wide_term a) (wide_terms ws) i
raise-removed ws i e a changed l c z =
    map-remove ws i ∙ sym (raised-is ws i e a l ∙ ap (λ xs. take i (wide_terms ws) ++ xs) (zero-gone (at_place ws i e a) (drop (suc i) (wide_terms ws)) (ap (λ (t : Term). is_zero t.factor) (sym c) ∙ z)))

pub raise-put : (ws : List WideTerm) (i : ℕ) (e a changed : WideTerm) → i < length ws → wide_term changed ≡ at_place ws i e a → is_zero changed.factor ≡ false → wide_terms (slice_set ws i changed) ≡ raised (wide_term a) (wide_terms ws) i
raise-put ws i e a changed l c z =
    map-set ws i changed ∙ set-split (wide_terms ws) i (wide_term changed) (omega (arith, l, length-map ws wide_term))
    ∙ ap (λ (t : Term). take i (wide_terms ws) ++ t ∷ drop (suc i) (wide_terms ws)) c
    ∙ sym (raised-is ws i e a l ∙ ap (λ xs. take i (wide_terms ws) ++ xs) (not-zero-kept (at_place ws i e a) (drop (suc i) (wide_terms ws)) (ap (λ (t : Term). is_zero t.factor) (sym c) ∙ z)))

both-true : (a b : Bool) → (a && b) ≡ true → (a ≡ true) × (b ≡ true)
both-true true b h = (refl, h)
both-true false b h = cc

-- a place where the coordinate of a stands, or does not
abbrev pub found_at : WideTerm → List WideTerm → ℕ → Bool
found_at a ws i = ltb i (length ws) && same_coordinate (wide_term a) (wide_term (get_or ws i a))

pub found-below : (a : WideTerm) (ws : List WideTerm) (i : ℕ) → found_at a ws i ≡ true → i < length ws
found-below a ws i h = let b = both-true (ltb i (length ws)) (same_coordinate (wide_term a) (wide_term (get_or ws i a))) h in let c = b.0 in grind (arith, nat_tests)

pub add-found : (a : WideTerm) (ws : List WideTerm) (i : ℕ) → i ≡ place_among (wide_term a) (wide_terms ws) → found_at a ws i ≡ true → raised (wide_term a) (wide_terms ws) i ≡ add_at (wide_term a) (wide_terms ws)
add-found a ws i e h =
    let b = both-true (ltb i (length ws)) (same_coordinate (wide_term a) (wide_term (get_or ws i a))) h in
    let l = found-below a ws i h in
    sym (added-raised (wide_term a) (wide_terms ws) i e (omega (arith, l, length-map ws wide_term)) (ap (same_coordinate (wide_term a)) (get_or-map wide_term ws i a none l) ∙ b.1))

not_found : (l s : Bool) → (l && s) ≡ false → l ≡ true → s ≡ false
not_found true s h e = h
not_found false s h e = cc

add-missing : (a : WideTerm) (ws : List WideTerm) (i : ℕ) → i ≡ place_among (wide_term a) (wide_terms ws) → i ≤ length ws → found_at a ws i ≡ false →
    add_at (wide_term a) (wide_terms ws) ≡ take i (wide_terms ws) ++ unless_zero (wide_term a) (drop i (wide_terms ws))
add-missing a ws i e m h =
    added-new (wide_term a) (wide_terms ws) i e (omega (arith, m, length-map ws wide_term)) (λ l.
    let k : i < length ws = omega (arith, l, length-map ws wide_term) in
    ap (same_coordinate (wide_term a)) (get_or-map wide_term ws i a none k)
    ∙ not_found (ltb i (length ws)) (same_coordinate (wide_term a) (wide_term (get_or ws i a))) h (grind (arith, nat_tests)))

pub place-within : (a : Term) (ws : List WideTerm) (i : ℕ) → i ≡ place_among a (wide_terms ws) → i ≤ length ws
place-within a ws i e = let l : place_among a (wide_terms ws) ≤ length (wide_terms ws) = prefix_len-le-length (λ t. not (belongs a t)) (wide_terms ws) in omega (arith, l, e, length-map ws wide_term)

pub add-inserted : (a : WideTerm) (ws : List WideTerm) (i : ℕ) → i ≡ place_among (wide_term a) (wide_terms ws) → found_at a ws i ≡ false → is_zero a.factor ≡ false → wide_terms (insert ws i a) ≡ add_at (wide_term a) (wide_terms ws)
add-inserted a ws i e h z =
    map-insert ws i a ∙ sym (add-missing a ws i e (place-within (wide_term a) ws i e) h ∙ ap (λ xs. take i (wide_terms ws) ++ xs) (not-zero-kept (wide_term a) (drop i (wide_terms ws)) z))

pub add-nothing : (a : WideTerm) (ws : List WideTerm) (i : ℕ) → i ≡ place_among (wide_term a) (wide_terms ws) → found_at a ws i ≡ false → is_zero a.factor ≡ true → wide_terms ws ≡ add_at (wide_term a) (wide_terms ws)
add-nothing a ws i e h z =
    sym (add-missing a ws i e (place-within (wide_term a) ws i e) h ∙ ap (λ xs. take i (wide_terms ws) ++ xs) (zero-gone (wide_term a) (drop i (wide_terms ws)) z) ∙ take-append-drop i (wide_terms ws))

-- a property of each term, at one place
pub all-at : (P : Term → Type 0) (ws : List WideTerm) (i : ℕ) (e : WideTerm) → All P (wide_terms ws) → i < length ws → P (wide_term (get_or ws i e))
all-at P ws i e h l = subst P (get_or-map wide_term ws i e none l) (h i none (omega (arith, l, length-map ws wide_term)))

pub taken-all : (ws : List WideTerm) (i : ℕ) → length ws ≤ i → wide_terms (take i ws) ≡ wide_terms ws
taken-all ws i l = ap wide_terms (sym (append-nil (take i ws)) ∙ ap (λ xs. take i ws ++ xs) (sym (drop_of_length-le ws l)) ∙ take-append-drop i ws)

pub bounded-fits : (z : ℤ) → IsBounded z → FitsSigned w64 z
bounded-fits z h = let a = h.0 in let b = h.1 in omega (arith, ints)

pub narrow-is : (z : ℤ) → IsBounded z → to_z w64 (of_z w64 (to_z w128 (of_z w128 z))) ≡ z
narrow-is z h =
    let a = h.0 in let b = h.1 in
    let wide : FitsSigned w128 z = omega (arith, ints) in
    ap (λ y. to_z w64 (of_z w64 y)) (to_z-of_z wide) ∙ to_z-of_z (bounded-fits z h)

pub form-at : (ts us : List Term) (z y : ℤ) → us ≡ ts → y ≡ z → IsForm ts z → IsForm us y
form-at ts us z y e h f = subst (λ x. IsForm us x) (sym h) (subst (λ xs. IsForm xs z) (sym e) f)

unless-append : (t : Term) (ts : List Term) → unless_zero t [] ++ ts ≡ unless_zero t ts
unless-append t ts = by_test (is_zero t.factor)
  where
    by_test : (b : Bool) → cond b [] (t ∷ []) ++ ts ≡ cond b ts (t ∷ ts)
    by_test true = refl
    by_test false = refl

-- one more term multiplied
pub scaled-more : (z : ℤ) (done next : List Term) (ws : List WideTerm) (i : ℕ) (w : WideTerm) (total : List Term) → i < length ws → next ≡ done ++ unless_zero (wide_term w) [] →
    wide_term w ≡ term (get_or ws i nothing).object.0 (get_or ws i nothing).dimension (z *ℤ (get_or ws i nothing).factor) →
    done ++ scale_terms z (wide_terms (drop i ws)) ≡ total → next ++ scale_terms z (wide_terms (drop (i + 1) ws)) ≡ total
scaled-more z done next ws i w total l n s inv =
    let rest = scale_terms z (wide_terms (drop (i + 1) ws)) in
    ap (λ ts. ts ++ rest) n ∙ append_assoc done (unless_zero (wide_term w) []) rest ∙ ap (λ ts. done ++ ts) (unless-append (wide_term w) rest ∙ ap (λ (t : Term). unless_zero t rest) s)
    ∙ sym (ap (λ (vs : List WideTerm). done ++ scale_terms z (wide_terms vs)) (drop_more ws i nothing l)) ∙ inv
