-- What lists are that have no fault.
use Rattle.std.proofs.Common.{◌≡◌, ◌<◌, ◌≤◌, ℕ, pos, List, [], length, take, map, get_or, subst, sym, ◌∙◌, arith, refl, inl, inr, min}
use Rattle.std.specs.Prelude.{All}
use Rattle.std.proofs.Math.Logic.{⊎_elim}
use Rattle.std.proofs.lemmas.Bool.{cases_lt}
use Rattle.std.proofs.lemmas.Option.{slice_get-get_or}
use Rattle.std.proofs.lemmas.List.{length-take, get_or-map, length-map}
use Rattle.geo_tokens.specs.declared.fault.FaultWord.TheVariants as words
use Rattle.rule_syntax.specs.declared.tree.PlacedName.{PlacedName}
use Rattle.problem_data.specs.declared.fault.Fault.{Fault}
use Rattle.problem_data.specs.declared.tree.Int.{Int}
use Rattle.problem_data.specs.declared.tree.RangeText.{RangeText}
use Rattle.problem_data.specs.Least.{fault}
use Rattle.problem_data.specs.Limits.{IsSmall, IsSize}
use Rattle.problem_data.specs.Faults.{Among, PastLimit, Miscounted, first_place, OffsetFault, SizeFault, RangeFault, RangesFault, range_place}
use Rattle.problem_data.specs.Meaning.{range_of}
use Rattle.problem_data.specs.WellFormed.{IsRange}
use Rattle.problem_data.proofs.Signs.{at_most, above, same_number}

-- none of these is a fault
abbrev pub NoFault : (Fault → Type 0) → Type 0
NoFault F = (f : Fault) → F f → ⊥

-- no item of a list has a fault
pub none_among : {A : Type 0} (R : List A → A → Fault → Type 0) (xs : List A) → NoFault (Among R xs) → (i : ℕ) (d : A) → i < length xs → NoFault (R (take i xs) (get_or xs i d))
none_among R xs h i d l f w = h f (record { index = i; item = get_or xs i d; there = slice_get-get_or xs i d l; wrong = w })

-- a list with no item past its limit
pub within_limit : (most : ℕ) (xs : List PlacedName) → NoFault (PastLimit most xs) → length xs ≤ most
within_limit most xs h = ⊎_elim (λ l. absurd (past l)) (λ l. l) (cases_lt most (length xs))
  where
    none : PlacedName
    none = record { place = 0; name = [] }

    past : most < length xs → ⊥
    past l = none_among (λ before n f. (most ≤ length before) × (f ≡ fault n.place words.Limit)) xs h most none l (fault (get_or xs most none).place words.Limit)
        (let e : length (take most xs) ≡ min most (length xs) = length-take most xs in omega (arith, e), refl)

pub counted : {A : Type 0} (place_of : A → ℕ) (k : ℕ) (xs : List A) → NoFault (Miscounted place_of k xs) → length xs ≡ k
counted place_of k xs h = same_number (length xs) k (λ ne. h (fault (first_place place_of xs) words.Limit) (ne, refl))

pub small_number : (i : Int) → NoFault (OffsetFault i) → IsSmall i.value
small_number i h = (at_most _ _ (λ n. h (fault i.place words.Limit) ((λ s. n s.0), refl)), at_most _ _ (λ n. h (fault i.place words.Limit) ((λ s. n s.1), refl)))

pub size_number : (i : Int) → NoFault (SizeFault i) → IsSize i.value
size_number i h = (at_most _ _ (λ n. h (fault i.place words.Size) ((λ s. n s.0), refl)), at_most _ _ (λ n. h (fault i.place words.Size) ((λ s. n s.1), refl)))

-- each item of a mapped list
pub all_mapped : {A B : Type 0} (g : A → B) (P : B → Type 0) (xs : List A) (a : A) → ((i : ℕ) → i < length xs → P (g (get_or xs i a))) → All P (map g xs)
all_mapped g P xs a h k d l =
    let m : k < length xs = subst (λ n. k < n) (length-map xs g) l in
    subst P (sym (get_or-map g xs k a d m)) (h k m)

pub no_range_text : RangeText
no_range_text = record { low = record { place = 0; value = pos 0 }; high = record { place = 0; value = pos 0 } }

pub range_fits : (r : RangeText) → NoFault (RangeFault r) → IsRange (range_of r)
range_fits r n =
    let low = small_number r.low (λ f w. n f (inl w)) in
    let high = small_number r.high (λ f w. n f (inr (inl w))) in
    record {
      low = low.0;
      filled = at_most r.low.value r.high.value (λ down. n (fault r.low.place words.Range) (inr (inr (above r.low.value r.high.value down, refl))));
      high = high.1;
    }

pub ranges_fit : (k : ℕ) (rs : List RangeText) → NoFault (RangesFault k rs) → (length (map range_of rs) ≡ k) × All IsRange (map range_of rs)
ranges_fit k rs h = (
  length-map rs range_of ∙ counted range_place k rs (λ f w. h f (inl w)),
  all_mapped range_of IsRange rs no_range_text (λ i l. range_fits (get_or rs i no_range_text) (none_among (λ before. RangeFault) rs (λ f w. h f (inr w)) i no_range_text l)),
)
