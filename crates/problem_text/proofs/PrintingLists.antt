-- Members with commas between them that are still to be spelled: from the first one on, or behind
-- it. And one member more: what was spelled, and what is left to spell, is the whole.
use Rattle.std.proofs.Common.{◌≡◌, ◌<◌, ◌≤◌, ◌+◌, ◌++◌, ◌∷◌, [], ℕ, List, Bool, true, false, drop, length, get_or, append_assoc, refl, sym, ap, ◌∙◌}
use Rattle.std.specs.Prelude.{if◌then◌else◌, not}
use Rattle.std.proofs.lemmas.List.{append-nil, drop_more, get_or_default}
use Rattle.std.proofs.Math.ListN.{drop_of_length-le}
use Rattle.geo_tokens.specs.declared.token.Sym.TheVariants as syms
use Rattle.rule_print.specs.Canonical.{Written, symbol}
use Rattle.problem_text.specs.Canonical.{listed, more_listed}

abbrev pub left_listed : {A : Type 0} → Bool → (A → List Written) → List A → List Written
left_listed true s xs = listed s xs
left_listed false s xs = more_listed s xs

next : {X : Type 0} (xs : List X) (i : ℕ) (x : X) → i < length xs → x ≡ get_or xs i x → drop i xs ≡ x ∷ drop (i + 1) xs
next xs i x h e = drop_more xs i x h ∙ ap (λ y. y ∷ drop (i + 1) xs) (sym e)

-- behind what was spelled, the next member, and the rest
pub joined : {X Y : Type 0} (spell : List X → List Y) (one : X → List Y) → ((x : X) (xs : List X) → spell (x ∷ xs) ≡ one x ++ spell xs) →
    (xs : List X) (i : ℕ) (x : X) (now later whole : List Y) → i < length xs → x ≡ get_or xs i x → later ≡ now ++ one x → now ++ spell (drop i xs) ≡ whole → later ++ spell (drop (i + 1) xs) ≡ whole
joined spell one cons xs i x now later whole h e is k =
    let rest = spell (drop (i + 1) xs) in
    ap (λ l. l ++ rest) is ∙ append_assoc now (one x) rest ∙ sym (ap (λ l. now ++ l) (ap spell (next xs i x h e) ∙ cons x (drop (i + 1) xs))) ∙ k

-- the same, with a comma before each member but the first
pub comma_joined : {X : Type 0} (left : Bool → List X → List Written) (one : X → List Written) → ((x : X) (xs : List X) → left true (x ∷ xs) ≡ one x ++ left false xs) → ((x : X) (xs : List X) → left false (x ∷ xs) ≡ symbol syms.Comma ∷ (one x ++ left false xs)) →
    (b : Bool) (xs : List X) (i : ℕ) (x : X) (now marked later whole : List Written) → i < length xs → x ≡ get_or xs i x → marked ≡ now ++ (if not b then symbol syms.Comma ∷ [] else []) → later ≡ marked ++ one x →
    now ++ left b (drop i xs) ≡ whole → later ++ left false (drop (i + 1) xs) ≡ whole
comma_joined left one first more true xs i x now marked later whole h e m is k =
    let rest = left false (drop (i + 1) xs) in
    ap (λ l. l ++ rest) (is ∙ ap (λ l. l ++ one x) (m ∙ append-nil now)) ∙ append_assoc now (one x) rest
    ∙ sym (ap (λ l. now ++ l) (ap (left true) (next xs i x h e) ∙ first x (drop (i + 1) xs))) ∙ k
comma_joined left one first more false xs i x now marked later whole h e m is k =
    let rest = left false (drop (i + 1) xs) in
    ap (λ l. l ++ rest) (is ∙ ap (λ l. l ++ one x) m ∙ append_assoc now (symbol syms.Comma ∷ []) (one x)) ∙ append_assoc now (symbol syms.Comma ∷ one x) rest
    ∙ sym (ap (λ l. now ++ l) (ap (left false) (next xs i x h e) ∙ more x (drop (i + 1) xs))) ∙ k

-- the same where the member is read with something to stand for it past the end
pub joined_at : {X Y : Type 0} (spell : List X → List Y) (one : X → List Y) → ((x : X) (xs : List X) → spell (x ∷ xs) ≡ one x ++ spell xs) →
    (xs : List X) (i : ℕ) (d x : X) (now later whole : List Y) → i < length xs → x ≡ get_or xs i d → later ≡ now ++ one x → now ++ spell (drop i xs) ≡ whole → later ++ spell (drop (i + 1) xs) ≡ whole
joined_at spell one cons xs i d x now later whole h e = joined spell one cons xs i x now later whole h (e ∙ sym (get_or_default xs i x d h))

pub comma_joined_at : {X : Type 0} (left : Bool → List X → List Written) (one : X → List Written) → ((x : X) (xs : List X) → left true (x ∷ xs) ≡ one x ++ left false xs) → ((x : X) (xs : List X) → left false (x ∷ xs) ≡ symbol syms.Comma ∷ (one x ++ left false xs)) →
    (b : Bool) (xs : List X) (i : ℕ) (d x : X) (now marked later whole : List Written) → i < length xs → x ≡ get_or xs i d → marked ≡ now ++ (if not b then symbol syms.Comma ∷ [] else []) → later ≡ marked ++ one x →
    now ++ left b (drop i xs) ≡ whole → later ++ left false (drop (i + 1) xs) ≡ whole
comma_joined_at left one first more b xs i d x now marked later whole h e = comma_joined left one first more b xs i x now marked later whole h (e ∙ sym (get_or_default xs i x d h))

pub none_left : {A : Type 0} (s : A → List Written) (b : Bool) → left_listed b s [] ≡ []
none_left s true = refl
none_left s false = refl

-- all members are spelled
pub comma_joined_end : {X : Type 0} (left : Bool → List X → List Written) → ((b : Bool) → left b [] ≡ []) → (b : Bool) (xs : List X) (i : ℕ) (now whole : List Written) → length xs ≤ i → now ++ left b (drop i xs) ≡ whole → now ≡ whole
comma_joined_end left none b xs i now whole h k = sym (append-nil now) ∙ sym (ap (λ l. now ++ l) (ap (left b) (drop_of_length-le xs h) ∙ none b)) ∙ k
