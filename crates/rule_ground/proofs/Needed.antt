-- Whether one of a list passes, as far as a loop has come.
use Rattle.std.proofs.Common.{◌≡◌, ℕ, ◌+◌, ◌<◌, ◌≤◌, Bool, true, false, ◌||◌, List, [], ◌∷◌, length, drop, get_or, sym, ap, ◌∙◌}
use Rattle.std.proofs.lemmas.List.{drop_more}
use Rattle.std.proofs.Math.ListN.{drop_of_length-le}

here : {X : Type 0} (test : X → Bool) (some : List X → Bool) → ((x : X) (xs : List X) → some (x ∷ xs) ≡ (test x || some xs)) → (xs : List X) (i : ℕ) (x : X) (b : Bool) → i < length xs → x ≡ get_or xs i x → test x ≡ b →
    some (drop i xs) ≡ (b || some (drop (i + 1) xs))
here test some cons xs i x b h e g =
    ap some (drop_more xs i x h) ∙ ap (λ y. some (y ∷ drop (i + 1) xs)) (sym e) ∙ cons x (drop (i + 1) xs) ∙ ap (λ c. c || some (drop (i + 1) xs)) g

pub none-yet : {X : Type 0} (test : X → Bool) (some : List X → Bool) → ((x : X) (xs : List X) → some (x ∷ xs) ≡ (test x || some xs)) → (xs : List X) (i : ℕ) (x : X) → i < length xs → x ≡ get_or xs i x → test x ≡ false → some (drop i xs) ≡ some xs →
    some (drop (i + 1) xs) ≡ some xs
none-yet test some cons xs i x h e g k = sym (here test some cons xs i x false h e g) ∙ k

pub one-found : {X : Type 0} (test : X → Bool) (some : List X → Bool) → ((x : X) (xs : List X) → some (x ∷ xs) ≡ (test x || some xs)) → (xs : List X) (i : ℕ) (x : X) → i < length xs → x ≡ get_or xs i x → test x ≡ true → some (drop i xs) ≡ some xs →
    true ≡ some xs
one-found test some cons xs i x h e g k = sym (here test some cons xs i x true h e g) ∙ k

pub none-left : {X : Type 0} (some : List X → Bool) → some [] ≡ false → (xs : List X) (i : ℕ) → length xs ≤ i → some (drop i xs) ≡ some xs → false ≡ some xs
none-left some z xs i h k = sym (ap some (drop_of_length-le xs h) ∙ z) ∙ k
