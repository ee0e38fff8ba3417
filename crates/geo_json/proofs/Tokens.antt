-- The token of a tuple of a problem is ASCII, since its numbers are small.
use Rattle.std.proofs.Common.{ℕ, suc, ℤ, pos, negsuc, ◌<◌, ◌≤ℤ◌, List, [], ◌∷◌, length, refl, arith, codes}
use Rattle.std.specs.Prelude.{flat_map, decimal}
use Rattle.std.specs.Fmt.{signed_decimal}
use Rattle.std.specs.Str.{IsAscii}
use Rattle.std.proofs.lemmas.Int.{ints}
use Rattle.std.proofs.lemmas.Fmt.{IsAscii-decimal, IsAscii-signed}
use Rattle.std.proofs.lemmas.Str.{IsAscii-append}
use Rattle.std.proofs.lemmas.Str.Ascii.{IsAscii-nil}
use Rattle.geo_base.specs.Boxes.{coordinate}
use Rattle.problem_data.specs.Problem.{ObjectData, no_object, ProblemData}
use Rattle.problem_data.specs.Pieces.{no_range}
use Rattle.problem_data.specs.Tuple.{Spot, Tuple, spot, object_of}
use Rattle.problem_data.specs.Cells.{IsSpotOf, IsTuple, IsShaped}
use Rattle.problem_data.specs.WellFormed.{IsObject, IsWellFormed}
use Rattle.layout_text.specs.Block.{behind, coordinates, group_of, later_group, token_of}
use Rattle.geo_json.proofs.Shown.{plain_ascii}

pub shaped : (p : ProblemData) (t : Tuple) → IsTuple p t → IsShaped p t
shaped p t h = record { objects = h.objects; each = λ o l. (h.each o l).form }

small_ascii : (z : ℤ) → negsuc 999999 ≤ℤ z → z ≤ℤ pos 1000000 → IsAscii (signed_decimal z)
small_ascii (pos n) l h = IsAscii-signed (pos n) (omega (arith, ints, h))
small_ascii (negsuc n) l h = IsAscii-signed (negsuc n) (omega (arith, ints, l))

le_trans : (a b c : ℤ) → a ≤ℤ b → b ≤ℤ c → a ≤ℤ c
le_trans a b c h k = omega (arith, ints)

coordinates_ascii : (xs : List ℤ) → ((d : ℕ) → d < length xs → IsAscii (signed_decimal (coordinate xs d))) → IsAscii (coordinates (codes ",") xs)
coordinates_ascii [] h = IsAscii-nil
coordinates_ascii (x ∷ xs) h =
    IsAscii-append (behind (codes ",") x) (coordinates (codes ",") xs) (IsAscii-append (codes ",") (signed_decimal x) (plain_ascii (codes ",") refl) (h 0 (omega arith)))
    (coordinates_ascii xs (λ d l. h (suc d) (omega (arith, l))))

later_ascii : (ss : List Spot) → ((k : ℕ) → k < length ss → IsAscii (group_of (spot ss k))) → IsAscii (flat_map later_group ss)
later_ascii [] h = IsAscii-nil
later_ascii (s ∷ ss) h =
    IsAscii-append (later_group s) (flat_map later_group ss) (IsAscii-append (codes "/") (group_of s) (plain_ascii (codes "/") refl) (h 0 (omega arith)))
    (later_ascii ss (λ k l. h (suc k) (omega (arith, l))))

groups_ascii : (t : Tuple) → ((k : ℕ) → k < length t → IsAscii (group_of (spot t k))) → IsAscii (token_of t)
groups_ascii [] h = plain_ascii (codes "-") refl
groups_ascii (s ∷ ss) h = IsAscii-append (group_of s) (flat_map later_group ss) (h 0 (omega arith)) (later_ascii ss (λ k l. h (suc k) (omega (arith, l))))

group_ascii : (p : ProblemData) (o : ObjectData) (s : Spot) → IsObject p o → IsSpotOf p o s → IsAscii (group_of s)
group_ascii p o s made put =
    IsAscii-append (decimal s.place) (coordinates (codes ",") s.origin) (IsAscii-decimal s.place (let l = put.form.last in let f = made.few in omega (arith, l, f)))
    (coordinates_ascii s.origin (λ d l.
    let size = put.form.dimensions in
    let pieces = made.dimensions in
    let stands = put.pieces d (omega (arith, l, size)) in
    let range = (made.pieces d [] (omega (arith, l, size, pieces))).ranges stands.0 no_range stands.1 in
    small_ascii (coordinate s.origin d) (le_trans _ _ _ range.low stands.2.0) (le_trans _ _ _ stands.2.1 range.high)))

pub token_ascii : (p : ProblemData) (t : Tuple) → IsWellFormed p → IsTuple p t → IsAscii (token_of t)
token_ascii p t well is =
    let size = is.objects in
    groups_ascii t (λ o l. (let there : o < length p.objects = omega (arith, l, size) in group_ascii p (object_of p o) (spot t o) (well.objects o no_object there) (is.each o there)))
