-- What lists of names are like that have no fault: they are short, and no two names are the same.
use Rattle.std.proofs.Common.{◌≡◌, ℕ, zero, suc, ◌+◌, ◌≤◌, List, [], ◌∷◌, ◌++◌, length, take, map, get_or, Bool, true, false, Some, None, inl, inr, cond, refl, sym, ap, ◌∙◌, subst, append_assoc, arith}
use Rattle.std.proofs.lemmas.List.{append-nil, take-map, length-take-le}
use Rattle.std.proofs.lemmas.List.Sums.{prefix_len-le-length}
use Rattle.std.proofs.lemmas.Bool.{cases_lt}
use Rattle.std.proofs.lemmas.Bool.Decides.{nat_tests}
use Rattle.std.proofs.lemmas.Option.{slice_get-get_or}
use Rattle.std.specs.Prelude.{slice_get, fold, if◌then◌else◌, position, not, nat_lt}
use Rattle.std.specs.List.{list_any, Contains, position_or_len, range_with_len}
use Rattle.std.specs.Str.{bytes_eq}
use Rattle.geo_tokens.specs.declared.fault.FaultWord.TheVariants as words
use Rattle.rule_syntax.specs.declared.tree.PlacedName.{PlacedName}
use Rattle.problem_data.specs.declared.fault.Fault.{Fault}
use Rattle.problem_data.specs.Least.{fault}
use Rattle.problem_data.specs.Seen.{meet, met}
use Rattle.problem_data.specs.Faults.{PastLimit, Repeated, text_of}
use Rattle.problem_data.proofs.InLists.{get_back}
use Rattle.problem_data.proofs.MetNames.{found}

some_name : PlacedName
some_name = record { place = 0; name = [] }

-- names of which none is past the limit
pub few : (most : ℕ) (names : List PlacedName) → ((f : Fault) → PastLimit most names f → ⊥) → length names ≤ most
few most names right =
    elim (cases_lt most (length names)) [
      | inl lt ↦ absurd (right (fault (get_or names most some_name).place words.Limit) (record {
        index = most;
        item = get_or names most some_name;
        there = slice_get-get_or names most some_name lt;
        wrong = ((let e : length (take most names) ≡ most = length-take-le most names (omega arith) in omega arith), refl);
      }))
      | inr le ↦ le
    ]

meet_new : (seen : List (List ℕ)) (n : List ℕ) → (Contains seen n → ⊥) → meet seen n ≡ seen ++ n ∷ []
meet_new seen n new = by (list_any (bytes_eq n) seen) refl where
  by : (b : Bool) → list_any (bytes_eq n) seen ≡ b → (if b then seen else seen ++ n ∷ []) ≡ seen ++ n ∷ []
  by true e = absurd (new (found n seen e))
  by false e = refl

met_all : (seen others : List (List ℕ)) → ((i : ℕ) (n : List ℕ) → slice_get others i ≡ Some n → Contains (seen ++ take i others) n → ⊥) → fold meet seen others ≡ seen ++ others
met_all seen [] h = sym (append-nil seen)
met_all seen (n ∷ others) h =
    ap (λ ns. fold meet ns others) (meet_new seen n (λ c. h 0 n refl (subst (λ (ns : List (List ℕ)). Contains ns n) (sym (append-nil seen)) c)))
    ∙ met_all (seen ++ n ∷ []) others (λ i m e c. h (suc i) m e (subst (λ (ns : List (List ℕ)). Contains ns m) (append_assoc seen (n ∷ []) (take i others)) c))
    ∙ append_assoc seen (n ∷ []) others

-- names of which none is repeated are met as they are
pub differ : (names : List PlacedName) → ((f : Fault) → Repeated names f → ⊥) → met (map text_of names) ≡ map text_of names
differ names right = met_all [] (map text_of names) (λ i n e c.
    let x : (x : PlacedName) × (slice_get names i ≡ Some x) × (text_of x ≡ n) = get_back text_of (λ before y f. ⊥) names i n e in
    right (fault x.0.place words.Twice) (record {
      index = i;
      item = x.0;
      there = x.1;
      wrong = (subst (λ (m : List ℕ). Contains (map text_of (take i names)) m) (sym x.2) (subst (λ (ns : List (List ℕ)). Contains ns n) (take-map text_of i names) (subst (λ (ns : List (List ℕ)). Contains ns n) (no_front (take i (map text_of names))) c)), refl);
    }))
  where
    no_front : (ns : List (List ℕ)) → [] ++ ns ≡ ns
    no_front ns = refl

-- a name that was not met has the position behind all
below_or_same : (a b : ℕ) → a ≤ b → nat_lt a b ≡ false → b ≡ a
below_or_same a b le h = grind (arith, nat_tests)

pub behind_all : {X : Type 0} (p : X → Bool) (xs : List X) → position p xs ≡ None → length xs ≡ position_or_len p xs
behind_all p xs h = by (nat_lt (position_or_len p xs) (length xs)) refl h where
  by : (b : Bool) → nat_lt (position_or_len p xs) (length xs) ≡ b → cond b (Some (position_or_len p xs)) None ≡ None → length xs ≡ position_or_len p xs
  by true e g = absurd cc
  by false e g = below_or_same (position_or_len p xs) (length xs) (prefix_len-le-length (λ x. not (p x)) xs) e

range_more : (a n : ℕ) → range_with_len a (suc n) ≡ range_with_len a n ++ (a + n) ∷ []
range_more a zero = λ i. (let e : a ≡ a + 0 = omega arith in e i) ∷ []
range_more a (suc n) =
    let e : (a + 1) + n ≡ a + suc n = omega arith in
    ap (λ (ns : List ℕ). a ∷ ns) (range_more (a + 1) n ∙ ap (λ (m : ℕ). range_with_len (a + 1) n ++ m ∷ []) e)

pub range_push : (n : ℕ) → range_with_len 0 (n + 1) ≡ range_with_len 0 n ++ n ∷ []
range_push n =
    let e : n + 1 ≡ suc n = omega arith in
    let d : 0 + n ≡ n = omega arith in
    ap (range_with_len 0) e ∙ range_more 0 n ∙ ap (λ (m : ℕ). range_with_len 0 n ++ m ∷ []) d
