-- A loop that takes the items of a list one by one.
use Rattle.std.proofs.Common.{◌≡◌, ℕ, ◌+◌, List, [], ◌∷◌, ◌++◌, length, map, refl, sym, ap, ◌∙◌, arith, append_assoc}
use Rattle.std.proofs.lemmas.List.{append-nil}
use Rattle.std.specs.Prelude.{fold}

module _ {X : Type 0} where
  -- what is left after one was taken
  pub fewer : (xs ys : List X) (x : X) (m n : ℕ) → xs ≡ x ∷ ys → n + 1 ≡ m → length xs ≡ m → length ys ≡ n
  fewer xs ys x m n e f h = let g : length xs ≡ length (x ∷ ys) = ap length e in omega arith

  pub none_left : (xs : List X) (m : ℕ) → length xs ≡ m → m ≡ 0 → xs ≡ []
  none_left [] m h e = refl
  none_left (x ∷ xs) m h e = absurd (omega arith)

-- a fold goes on by what one step gave
pub folded : {X A B : Type 0} (f : B → A → B) (view : X → A) (b c : B) (x : X) (xs ys : List X) (total : B) → xs ≡ x ∷ ys → c ≡ f b (view x) → fold f b (map view xs) ≡ total → fold f c (map view ys) ≡ total
folded f view b c x xs ys total e g h = ap (λ z. fold f z (map view ys)) g ∙ ap (λ zs. fold f b (map view zs)) (sym e) ∙ h

pub folded_all : {X A B : Type 0} (f : B → A → B) (view : X → A) (b : B) (xs : List X) (total : B) → xs ≡ [] → fold f b (map view xs) ≡ total → b ≡ total
folded_all f view b xs total e h = ap (λ zs. fold f b (map view zs)) (sym e) ∙ h

-- items that are made of the items of a list, one of each
module _ {X B : Type 0} (f : X → B) where
  pub made_more : (bs cs : List B) (b : B) (x : X) (xs ys : List X) (total : List B) → xs ≡ x ∷ ys → cs ≡ bs ++ b ∷ [] → b ≡ f x → bs ++ map f xs ≡ total → cs ++ map f ys ≡ total
  made_more bs cs b x xs ys total e g m h =
      ap (λ zs. zs ++ map f ys) g ∙ append_assoc bs (b ∷ []) (map f ys) ∙ ap (λ y. bs ++ (y ∷ map f ys)) m ∙ ap (λ zs. bs ++ map f zs) (sym e) ∙ h

  pub made_all : (bs : List B) (xs : List X) (total : List B) → xs ≡ [] → bs ++ map f xs ≡ total → bs ≡ total
  made_all bs xs total e h = sym (append-nil bs) ∙ ap (λ zs. bs ++ map f zs) (sym e) ∙ h
