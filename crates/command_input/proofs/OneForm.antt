-- Words are of one command: what two forms of the same words have in common.
use Rattle.std.proofs.Common.{◌≡◌, ℕ, ◌<◌, ◌^◌, ◌+◌, ◌*◌, ◌≤ℤ◌, ℤ, pos, negsuc, List, [], ◌∷◌, length, refl, sym, ◌∙◌, ap, arith}
use Rattle.std.specs.Prelude.{Option, None, Some, sum}
use Rattle.std.specs.Option.{option_copied, option_to_list}
use Rattle.std.proofs.lemmas.Fmt.{decimal_injective, signed_decimal_injective}
use Rattle.std.proofs.lemmas.Int.{ints}
use lib.Signed.{mag}
use Rattle.command_input.specs.declared.command.Command.{Command}
use Rattle.command_input.specs.declared.command.Command.TheVariants.{First, All, Make, Best, CheckBest, Load, Why, FirstJson}
use Rattle.command_input.specs.declared.command.PageRequest.{PageRequest}
use Rattle.command_input.specs.Words.{HasForm, IsExtent, form_of}

-- a number of the first word and of how many words there are, which no two commands share
abbrev pub mark : List (List ℕ) → ℕ
mark [] = 0
mark (word ∷ words) = sum word + 1000 * length words

pub same_mark : (words : List (List ℕ)) (c d : Command) → HasForm words c → HasForm words d → mark (form_of c).words ≡ mark (form_of d).words
same_mark words c d f g = ap mark (sym f.0 ∙ g.0)

-- ---- the same words have the same numbers

second : (a b c d : List ℕ) (xs ys : List (List ℕ)) → a ∷ c ∷ xs ≡ b ∷ d ∷ ys → c ≡ d
second a b c d xs ys e = cc

third : (a b c d u v : List ℕ) (xs ys : List (List ℕ)) → a ∷ c ∷ u ∷ xs ≡ b ∷ d ∷ v ∷ ys → u ≡ v
third a b c d u v xs ys e = cc

behind : (a b c d u v : List ℕ) (xs ys : List (List ℕ)) → a ∷ c ∷ u ∷ xs ≡ b ∷ d ∷ v ∷ ys → xs ≡ ys
behind a b c d u v xs ys e = cc

one_token : (o p : Option (List ℕ)) → option_to_list o ≡ option_to_list p → o ≡ p
one_token None None e = refl
one_token None (Some w) e = absurd (omega (arith, ap length e))
one_token (Some v) None e = absurd (omega (arith, ap length e))
one_token (Some v) (Some w) e = cc

pub one_number : (words : List (List ℕ)) (n m : ℕ) → HasForm words (First n) → HasForm words (First m) → n ≡ m
one_number words n m f g = decimal_injective n m (omega (arith, f.1)) (omega (arith, g.1)) (second _ _ _ _ _ _ (sym f.0 ∙ g.0))

pub one_seed : (words : List (List ℕ)) (seed n other m : ℕ) → HasForm words (Make seed n) → HasForm words (Make other m) → (seed ≡ other) × (n ≡ m)
one_seed words seed n other m f g = (
  decimal_injective seed other (omega (arith, f.1)) (omega (arith, g.1)) (second _ _ _ _ _ _ (sym f.0 ∙ g.0)),
  decimal_injective n m (omega (arith, f.1)) (omega (arith, g.1)) (third _ _ _ _ _ _ _ _ (sym f.0 ∙ g.0)),
)

pub one_page : (words : List (List ℕ)) (x y : PageRequest) → HasForm words (All x) → HasForm words (All y)
    → (x.most ≡ y.most) × (x.budget ≡ y.budget) × (option_copied x.token ≡ option_copied y.token)
one_page words x y f g = (
  decimal_injective x.most y.most (omega (arith, f.1)) (omega (arith, g.1)) (second _ _ _ _ _ _ (sym f.0 ∙ g.0)),
  decimal_injective x.budget y.budget (omega (arith, f.1)) (omega (arith, g.1)) (third _ _ _ _ _ _ _ _ (sym f.0 ∙ g.0)),
  one_token (option_copied x.token) (option_copied y.token) (behind _ _ _ _ _ _ _ _ (sym f.0 ∙ g.0)),
)

pub one_best : (words : List (List ℕ)) (d n e m : ℕ) → HasForm words (Best d n) → HasForm words (Best e m) → (d ≡ e) × (n ≡ m)
one_best words d n e m f g = (
  decimal_injective d e (omega (arith, f.1.0)) (omega (arith, g.1.0)) (second _ _ _ _ _ _ (sym f.0 ∙ g.0)),
  decimal_injective n m (omega (arith, f.1)) (omega (arith, g.1)) (third _ _ _ _ _ _ _ _ (sym f.0 ∙ g.0)),
)

-- an end that may be asked for has few digits
pub small_extent : (e : ℤ) → IsExtent e → mag e < 2 ^ 63
small_extent (pos n) h = let a : pos n ≤ℤ pos 3000000 = h.1 in omega (arith, ints, a)
small_extent (negsuc n) h = let a : negsuc 1999999 ≤ℤ negsuc n = h.0 in omega (arith, ints, a)

pub one_check_best : (words : List (List ℕ)) (d : ℕ) (x : ℤ) (e : ℕ) (y : ℤ) → HasForm words (CheckBest d x) → HasForm words (CheckBest e y) → (d ≡ e) × (x ≡ y)
one_check_best words d x e y f g = (
  decimal_injective d e (omega (arith, f.1.0)) (omega (arith, g.1.0)) (second _ _ _ _ _ _ (sym f.0 ∙ g.0)),
  signed_decimal_injective x y (small_extent x f.1.1) (small_extent y g.1.1) (third _ _ _ _ _ _ _ _ (sym f.0 ∙ g.0)),
)

pub one_load : (words : List (List ℕ)) (d e : ℕ) → HasForm words (Load d) → HasForm words (Load e) → d ≡ e
one_load words d e f g = decimal_injective d e (omega (arith, f.1)) (omega (arith, g.1)) (second _ _ _ _ _ _ (sym f.0 ∙ g.0))

pub one_why : (words : List (List ℕ)) (n m : ℕ) → HasForm words (Why n) → HasForm words (Why m) → n ≡ m
one_why words n m f g = decimal_injective n m (omega (arith, f.1)) (omega (arith, g.1)) (second _ _ _ _ _ _ (sym f.0 ∙ g.0))

pub one_first_json : (words : List (List ℕ)) (n m : ℕ) → HasForm words (FirstJson n) → HasForm words (FirstJson m) → n ≡ m
one_first_json words n m f g = decimal_injective n m (omega (arith, f.1)) (omega (arith, g.1)) (second _ _ _ _ _ _ (sym f.0 ∙ g.0))
