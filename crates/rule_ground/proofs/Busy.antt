-- Idle conditions aside: what is left of a list says the same.
use Rattle.std.proofs.Common.{◌≡◌, ℕ, ◌+◌, Bool, true, false, List, [], ◌∷◌, ◌++◌, length, map, append-nil, ℤ, pos, ◌-ℤ◌, ◌+ℤ◌, sym, ap, ◌∙◌, refl, arith, subst}
use Rattle.std.proofs.lemmas.Int.{ints}
use Rattle.std.specs.Prelude.{if◌then◌else◌, Result, MatchResult, ⊤}
use Rattle.geo_conditions.specs.declared.cond.Cond.{Cond}
use Rattle.rule_syntax.specs.declared.tree.QuantKind.{QuantKind}
use Rattle.rule_syntax.specs.declared.tree.QuantKind.TheVariants.{ForAll, Exists, AtLeast, AtMost}
use Rattle.linear_conditions.specs.declared.verdict.Verdict.{Verdict}
use Rattle.linear_conditions.specs.declared.verdict.Verdict.TheVariants.{Holds, Fails, Open}
use Rattle.linear_conditions.specs.CondTree.{CondTree, cond_view}
use Rattle.linear_conditions.specs.Counts.{Counts, Outcome, Fault, Done, and_then}
use Rattle.linear_conditions.specs.Faults.{IsFault}
use Rattle.linear_conditions.specs.Folding.{certain, count_holding, still_open, fold_open, fold_count, verdict}
use Rattle.linear_conditions.specs.declared.fault.GroundFault.{GroundFault}
use Rattle.linear_conditions.specs.declared.fault.GroundFault.TheVariants.{Overflow, TooMany, Memory}
use Rattle.rule_ground.specs.declared.quantifiers.Manner.{Manner}
use Rattle.rule_ground.specs.declared.quantifiers.Manner.TheVariants.{All, One, Holding, Failing}
use Rattle.rule_ground.specs.Answers.{behind, busy, busy_ones, is_idle_one, Appends, AppendsBusy, Gives}
use Rattle.rule_ground.specs.Grounding.{alone, gather, is_idle, manner, quantifier_node}
use Rattle.rule_ground.proofs.Arms.{gives-made}
use Rattle.rule_ground.proofs.Behind.{behind-alone, behind-end, both_ways, gather-fault, go_on, then-fault}

-- ---- lists

passed : (b : Bool) (c : CondTree) (xs ys zs : List CondTree) → xs ≡ ys ++ zs → (if b then xs else c ∷ xs) ≡ (if b then ys else c ∷ ys) ++ zs
passed true c xs ys zs e = e
passed false c xs ys zs e = ap (λ l. c ∷ l) e

busy-append : (m : Manner) (cs ds : List CondTree) → busy_ones m (cs ++ ds) ≡ busy_ones m cs ++ busy_ones m ds
busy-append m [] ds = refl
busy-append m (c ∷ cs) ds = passed (is_idle_one m c) c (busy_ones m (cs ++ ds)) (busy_ones m cs) (busy_ones m ds) (busy-append m cs ds)

open-stays : (m : Manner) (c : CondTree) → verdict c ≡ Open → is_idle_one m c ≡ false
open-stays m c e = ap (λ w. elim w [ Holds ↦ is_idle m true | Fails ↦ is_idle m false | Open ↦ false ]) e

still-pass : (b : Bool) (c : CondTree) (xs ys : List CondTree) (v : Verdict) → verdict c ≡ v → (v ≡ Open → b ≡ false) → still_open xs ≡ ys →
    still_open (if b then xs else c ∷ xs) ≡ (elim v [ Holds ↦ ys | Fails ↦ ys | Open ↦ c ∷ ys ])
still-pass true c xs ys Holds e o h = h
still-pass true c xs ys Fails e o h = h
still-pass true c xs ys Open e o h = let q = o refl in cc
still-pass false c xs ys v e o h =
    ap (λ w. elim w [ Holds ↦ still_open xs | Fails ↦ still_open xs | Open ↦ c ∷ still_open xs ]) e
    ∙ ap (λ l. elim v [ Holds ↦ l | Fails ↦ l | Open ↦ c ∷ l ]) h

still-busy : (m : Manner) (cs : List CondTree) → still_open (busy_ones m cs) ≡ still_open cs
still-busy m [] = refl
still-busy m (c ∷ cs) = still-pass (is_idle_one m c) c (busy_ones m cs) (still_open cs) (verdict c) refl (open-stays m c) (still-busy m cs)

abbrev one_of : Verdict → ℕ
one_of v = elim v [ Holds ↦ 1 | Fails ↦ 0 | Open ↦ 0 ]

count-pass : (b : Bool) (c : CondTree) (xs : List CondTree) (n : ℕ) (v : Verdict) → verdict c ≡ v → (v ≡ Holds → b ≡ false) → count_holding xs ≡ n →
    count_holding (if b then xs else c ∷ xs) ≡ one_of v + n
count-pass true c xs n Holds e o h = let q = o refl in cc
count-pass true c xs n Fails e o h = omega (arith, h)
count-pass true c xs n Open e o h = omega (arith, h)
count-pass false c xs n v e o h = ap (λ w. one_of w + count_holding xs) e ∙ ap (λ k. one_of v + k) h

-- where not all must hold, none that holds is idle
count-busy : (m : Manner) → is_idle m true ≡ false → (cs : List CondTree) → count_holding (busy_ones m cs) ≡ count_holding cs
count-busy m h [] = refl
count-busy m h (c ∷ cs) =
    count-pass (is_idle_one m c) c (busy_ones m cs) (count_holding cs) (verdict c) refl
    (λ e. ap (λ w. elim w [ Holds ↦ is_idle m true | Fails ↦ is_idle m false | Open ↦ false ]) e ∙ h) (count-busy m h cs)

all-pass : (c : CondTree) (xs ys : List CondTree) (v : Verdict) (b : Bool) → verdict c ≡ v → b ≡ (elim v [ Holds ↦ true | Fails ↦ false | Open ↦ false ]) →
    length xs + count_holding ys ≡ length ys + count_holding xs →
    length (if b then xs else c ∷ xs) + (one_of v + count_holding ys) ≡ length (c ∷ ys) + count_holding (if b then xs else c ∷ xs)
all-pass c xs ys Holds true e o h = omega (arith, h)
all-pass c xs ys Holds false e o h = cc
all-pass c xs ys Fails true e o h = cc
all-pass c xs ys Fails false e o h =
    let g : count_holding (c ∷ xs) ≡ 0 + count_holding xs = ap (λ w. one_of w + count_holding xs) e in omega (arith, h, g)
all-pass c xs ys Open true e o h = cc
all-pass c xs ys Open false e o h =
    let g : count_holding (c ∷ xs) ≡ 0 + count_holding xs = ap (λ w. one_of w + count_holding xs) e in omega (arith, h, g)

all-busy : (cs : List CondTree) → length (busy_ones All cs) + count_holding cs ≡ length cs + count_holding (busy_ones All cs)
all-busy [] = refl
all-busy (c ∷ cs) = all-pass c (busy_ones All cs) cs (verdict c) (is_idle_one All c) refl refl (all-busy cs)

-- ---- conditions that come together

fold-same : (n k : ℤ) (cs ds : List CondTree) → (n -ℤ pos (count_holding cs)) ≡ (k -ℤ pos (count_holding ds)) → still_open cs ≡ still_open ds → fold_count n cs ≡ fold_count k ds
fold-same n k cs ds e h = (λ i. fold_open (e i) (h i))

some-node : (m : Manner) → is_idle m true ≡ false → (n : ℤ) (cs : List CondTree) → fold_count n cs ≡ fold_count n (busy_ones m cs)
some-node m h n cs =
    fold-same n n cs (busy_ones m cs) (ap (λ k. n -ℤ pos k) (sym (count-busy m h cs))) (sym (still-busy m cs))

less : (a b c d : ℕ) → a + d ≡ c + b → (pos c -ℤ pos d) ≡ (pos a -ℤ pos b)
less a b c d h = omega (arith, ints, h)

all-node : (cs : List CondTree) → fold_count (pos (length cs)) cs ≡ fold_count (pos (length (busy_ones All cs))) (busy_ones All cs)
all-node cs =
    fold-same (pos (length cs)) (pos (length (busy_ones All cs))) cs (busy_ones All cs)
    (less (length (busy_ones All cs)) (count_holding (busy_ones All cs)) (length cs) (count_holding cs) (all-busy cs)) (sym (still-busy All cs))

node-idle : (kind : QuantKind) (sign : Bool) (n : ℕ) (cs : List CondTree) → quantifier_node kind sign n cs ≡ quantifier_node kind sign n (busy_ones (manner kind sign) cs)
node-idle ForAll true n cs = all-node cs
node-idle ForAll false n cs = some-node One refl (pos 1) cs
node-idle Exists true n cs = some-node One refl (pos 1) cs
node-idle Exists false n cs = all-node cs
node-idle (AtLeast k) true n cs = some-node Holding refl (pos k) cs
node-idle (AtLeast k) false n cs = some-node Failing refl ((pos n -ℤ pos k) +ℤ pos 1) cs
node-idle (AtMost k) true n cs = some-node Failing refl (pos n -ℤ pos k) cs
node-idle (AtMost k) false n cs = some-node Holding refl (pos (k + 1)) cs

pub node-busy : (kind : QuantKind) (sign : Bool) (m : Manner) (n : ℕ) (cs ds : List CondTree) → m ≡ manner kind sign → busy_ones m cs ≡ busy_ones m ds → quantifier_node kind sign n cs ≡ quantifier_node kind sign n ds
node-busy kind sign m n cs ds h e =
    let f : busy_ones (manner kind sign) cs ≡ busy_ones (manner kind sign) ds = subst (λ x. busy_ones x cs ≡ busy_ones x ds) h e in
    node-idle kind sign n cs ∙ ap (quantifier_node kind sign n) f ∙ sym (node-idle kind sign n ds)

-- ---- outcomes

pub busy-done : (m : Manner) (cs : List CondTree) (k : Counts) → busy m (Done cs k) ≡ Done (busy_ones m cs) k
unfolding busy and_then
busy-done m cs k = refl

busy-behind : (m : Manner) (cs ds : List CondTree) (o : Outcome (List CondTree)) → busy_ones m cs ≡ busy_ones m ds → busy m (behind cs o) ≡ busy m (behind ds o)
unfolding busy behind and_then
busy-behind m cs ds (Fault w) e = refl
busy-behind m cs ds (Done es k) e = ap (λ l. Done l k) (busy-append m cs es ∙ ap (λ l. l ++ busy_ones m es) e ∙ sym (busy-append m ds es))

pub fault-busy : (m : Manner) (o : Outcome (List CondTree)) (e : GroundFault) → IsFault (List CondTree) (busy m o) e → IsFault (List CondTree) o e
unfolding busy and_then
fault-busy m (Fault w) e h = h
fault-busy m (Done ds k) Overflow h = cc
fault-busy m (Done ds k) TooMany h = cc
fault-busy m (Done ds k) Memory h = tt

pub gives-busy : (m : Manner) (o : Outcome (List CondTree)) (f : List CondTree → CondTree) (cs : List CondTree) (j : Counts) (r : Result Cond GroundFault) →
    ((xs ys : List CondTree) → busy_ones m xs ≡ busy_ones m ys → f xs ≡ f ys) → busy m o ≡ Done (busy_ones m cs) j →
    MatchResult r (λ c. cond_view c ≡ f cs) (λ e. e ≡ Memory) → Gives (and_then (List CondTree) CondTree o (λ x i. Done (f x) i)) j r
unfolding busy and_then
gives-busy m (Fault w) f cs j r same h q = cc
gives-busy m (Done xs i) f cs j r same h q =
    let e : busy_ones m xs ≡ busy_ones m cs = cc in
    let k : i ≡ j = cc in
    gives-made (List CondTree) (Done xs i) f xs j r (ap (λ n. Done xs n) k)
    (subst (λ y. MatchResult r (λ c. cond_view c ≡ y) (λ e. e ≡ Memory)) (sym (same xs cs e)) q)

-- what is appended as it is
pub busied : (m : Manner) (old new : List Cond) (o : Outcome (List CondTree)) (j : Counts) (r : Result ⊤ GroundFault) → Appends o old new j r → AppendsBusy m o old new j r
busied m old new o j r h = both_ways ⊤ GroundFault r _ _ _ _ h (λ u v. ap (busy m) v ∙ busy-done m (map cond_view new) j) (λ e v. v)

idle-certain : (m : Manner) (holds : Bool) → is_idle m holds ≡ true → is_idle_one m (certain holds) ≡ true
idle-certain m true h = h
idle-certain m false h = h

-- an idle one is left out
pub idle-passed : (m : Manner) (old new : List Cond) (o : Outcome CondTree) (holds : Bool) (j : Counts) → o ≡ Done (certain holds) j → is_idle m holds ≡ true → new ≡ old →
    busy m (behind (map cond_view old) (alone o)) ≡ Done (busy_ones m (map cond_view new)) j
idle-passed m old new o holds j e h n =
    ap (busy m) (behind-alone (map cond_view old) o (certain holds) j e)
    ∙ busy-done m (map cond_view old ++ (certain holds ∷ [])) j
    ∙ ap (λ l. Done l j)
    (busy-append m (map cond_view old) (certain holds ∷ [])
    ∙ ap (λ b. busy_ones m (map cond_view old) ++ (if b then [] else certain holds ∷ [])) (idle-certain m holds h)
    ∙ append-nil (busy_ones m (map cond_view old))
    ∙ ap (λ l. busy_ones m (map cond_view l)) (sym n))

-- ---- a walk over any list

stepped : (A : Type 0) (m : Manner) (go : A → Counts → Outcome (List CondTree)) (cs ds : List CondTree) (xs : List A) (o : Outcome (List CondTree)) (j : Counts) → busy m (behind cs o) ≡ Done (busy_ones m ds) j →
    busy m (behind cs (and_then (List CondTree) (List CondTree) o (λ bs i. and_then (List CondTree) (List CondTree) (gather go xs i) (λ es n. Done (bs ++ es) n)))) ≡ busy m (behind ds (gather go xs j))
unfolding busy behind and_then
stepped A m go cs ds xs (Fault w) j h = cc
stepped A m go cs ds xs (Done bs i) j h =
    let e : busy_ones m (cs ++ bs) ≡ busy_ones m ds = cc in
    let f : i ≡ j = cc in
    ap (busy m) (go_on cs bs (gather go xs i)) ∙ busy-behind m (cs ++ bs) ds (gather go xs i) e ∙ ap (λ n. busy m (behind ds (gather go xs n))) f

pub busy-walk : (A : Type 0) (m : Manner) (go : A → Counts → Outcome (List CondTree)) (whole : Outcome (List CondTree)) (items rest : List A) (x : A) (k j : Counts) (parts more : List Cond) →
    busy m whole ≡ busy m (behind (map cond_view parts) (gather go items k)) → items ≡ x ∷ rest → busy m (behind (map cond_view parts) (go x k)) ≡ Done (busy_ones m (map cond_view more)) j →
    busy m whole ≡ busy m (behind (map cond_view more) (gather go rest j))
busy-walk A m go whole items rest x k j parts more w e g =
    w ∙ ap (λ l. busy m (behind (map cond_view parts) (gather go l k))) e ∙ stepped A m go (map cond_view parts) (map cond_view more) rest (go x k) j g

pub busy-failed : (A : Type 0) (m : Manner) (go : A → Counts → Outcome (List CondTree)) (whole : Outcome (List CondTree)) (items rest : List A) (x : A) (k : Counts) (parts : List Cond) (e : GroundFault) →
    busy m whole ≡ busy m (behind (map cond_view parts) (gather go items k)) → items ≡ x ∷ rest → IsFault (List CondTree) (go x k) e → IsFault (List CondTree) whole e
unfolding busy
busy-failed A m go whole items rest x k parts e w i g =
    fault-busy m whole e
    (subst (λ o. IsFault (List CondTree) o e) (sym (w ∙ ap (λ l. busy m (behind (map cond_view parts) (gather go l k))) i))
    (then-fault (List CondTree) (List CondTree) _ _ e (gather-fault A go (map cond_view parts) x rest k e g)))

pub busy-over : (A : Type 0) (m : Manner) (go : A → Counts → Outcome (List CondTree)) (whole : Outcome (List CondTree)) (items : List A) (k : Counts) (parts : List Cond) →
    busy m whole ≡ busy m (behind (map cond_view parts) (gather go items k)) → items ≡ [] → busy m whole ≡ Done (busy_ones m (map cond_view parts)) k
busy-over A m go whole items k parts w e =
    w ∙ ap (λ l. busy m (behind (map cond_view parts) (gather go l k))) e ∙ ap (busy m) (behind-end (map cond_view parts) k) ∙ busy-done m (map cond_view parts) k
