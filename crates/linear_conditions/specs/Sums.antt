-- Sums of coordinates with factors: adding, multiplying, and their bounds.
use Rattle.std.specs.Prelude.{ℕ, suc, ◌-◌, ◌^◌, ◌==◌, ◌&&◌, ◌||◌, nat_lt, Bool, true, false, if◌then◌else◌, List, [], ◌∷◌, ◌++◌, take, drop, slice_index_or, ℤ, pos, negsuc, ◌+ℤ◌, ◌*ℤ◌}
use Rattle.std.specs.List.{list_all, position_or_len}
use lib.Signed.{le_z}
use Rattle.geo_conditions.specs.declared.form.Term.{Term}
use Rattle.geo_conditions.specs.Form.{Sum}

abbrev pub is_zero : ℤ → Bool
is_zero (pos n) = n == 0
is_zero (negsuc n) = false

-- the coordinate d of the object o with a factor
abbrev pub term : ℕ → ℕ → ℤ → Term
term o d factor = record { object = record { 0 = o }; dimension = d; factor = factor }

abbrev pub term_at : List Term → ℕ → Term
term_at ts place = slice_index_or ts place (term 0 0 (pos 0))

-- a term in front of others; nothing, where its factor is 0
abbrev pub unless_zero : Term → List Term → List Term
unless_zero a ts = if is_zero a.factor then ts else a ∷ ts

abbrev pub same_coordinate : Term → Term → Bool
same_coordinate a t = (a.object.0 == t.object.0) && (a.dimension == t.dimension)

-- by object, and then by dimension
abbrev pub is_before : Term → Term → Bool
is_before a t = nat_lt a.object.0 t.object.0 || ((a.object.0 == t.object.0) && nat_lt a.dimension t.dimension)

-- a term added to terms in their order: to the factor of its coordinate, or at its place
abbrev pub add_at : Term → List Term → List Term
add_at a [] = unless_zero a []
add_at a (t ∷ ts) =
    if same_coordinate a t then unless_zero (term t.object.0 t.dimension (t.factor +ℤ a.factor)) ts
    else if is_before a t then unless_zero a (t ∷ ts)
    else t ∷ add_at a ts

-- where a term belongs among terms in their order: at the term of its coordinate, or before the first one behind it
abbrev pub place_among : Term → List Term → ℕ
place_among a ts = position_or_len (λ t. same_coordinate a t || is_before a t) ts

-- terms, with a's factor added to the one at a place
abbrev pub raised : Term → List Term → ℕ → List Term
raised a ts place = take place ts ++ unless_zero (term (term_at ts place).object.0 (term_at ts place).dimension ((term_at ts place).factor +ℤ a.factor)) (drop (suc place) ts)

-- terms added one after another
abbrev pub add_terms : List Term → List Term → List Term
add_terms ts [] = ts
add_terms ts (a ∷ more) = add_terms (add_at a ts) more

abbrev pub add_sums : Sum → Sum → Sum
add_sums f g = record { terms = add_terms f.terms g.terms; constant = f.constant +ℤ g.constant }

abbrev pub scale_terms : ℤ → List Term → List Term
scale_terms z [] = []
scale_terms z (t ∷ ts) = unless_zero (term t.object.0 t.dimension (z *ℤ t.factor)) (scale_terms z ts)

abbrev pub scale : ℤ → Sum → Sum
scale z f = record { terms = scale_terms z f.terms; constant = z *ℤ f.constant }

abbrev pub constant_sum : ℤ → Sum
constant_sum z = record { terms = []; constant = z }

abbrev pub has_terms : Sum → Bool
has_terms f = elim f.terms [ [] ↦ false | t ∷ ts ↦ true ]

-- from -10^15 to 10^15
abbrev pub is_bounded : ℤ → Bool
is_bounded z = le_z (negsuc (10 ^ 15 - 1)) z && le_z z (pos (10 ^ 15))

abbrev pub fits_sum : Sum → Bool
fits_sum f = list_all (λ (t : Term). is_bounded t.factor) f.terms && is_bounded f.constant

-- a product, where one factor at least has no terms
abbrev pub times_sum : Sum → Sum → Sum
times_sum f g = if has_terms f then scale g.constant f else scale f.constant g
