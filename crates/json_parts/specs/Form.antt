-- What values of JSON say.
use Rattle.std.specs.Prelude.{◌≡◌, ◌<◌, ◌≤◌, ◌≤ℤ◌, ◌==◌, ◌||◌, ℕ, ℤ, pos, negsuc, true, false, List, length, map, All}
use Rattle.geo_tokens.specs.Bytes.{is_word_byte}
use Rattle.serde_json.specs.Data.{Data, number, unsigned, string, array, object, item, no_items, Members, member}
use Rattle.serde_json.specs.Find.{of_integer}
use Rattle.serde_json.specs.View.{items_of}

-- ---- values that say something, and those that say nothing

-- the value says this, which may be said
pub record HasForm {S : Type 0} (IsRight : S → Type 0) (json : S → Data) (d : Data) (s : S) : Type 0 where
  pub right : IsRight s
  pub value : d ≡ json s

-- the value says nothing that may be said
abbrev pub HasNoForm : {S : Type 0} → (S → Type 0) → (S → Data) → Data → Type 0
HasNoForm {S} IsRight json d = (s : S) → IsRight s → d ≡ json s → ⊥

-- each of the values says what stands in its place
pub record HaveForm {S : Type 0} (IsRight : S → Type 0) (json : S → Data) (ds : List Data) (xs : List S) : Type 0 where
  pub right : All IsRight xs
  pub values : ds ≡ map json xs

-- one of the values says nothing that may be said
abbrev pub HaveNoForm : {S : Type 0} → (S → Type 0) → (S → Data) → List Data → Type 0
HaveNoForm {S} IsRight json ds = (xs : List S) → All IsRight xs → ds ≡ map json xs → ⊥

-- ---- members

abbrev pub IsObject : Data → Type 0
IsObject d = (ms : Members) × (d ≡ object ms)

-- the members do not begin with this key
abbrev pub HasNoFirst : Members → List ℕ → Type 0
HasNoFirst ms key = (d : Data) (more : Members) → ms ≡ member key d more → ⊥

-- the first member has this key and says this, and the others stand behind it
pub record IsMember {S : Type 0} (IsRight : S → Type 0) (json : S → Data) (key : List ℕ) (ms : Members) (s : S) (more : Members) : Type 0 where
  pub right : IsRight s
  pub members : ms ≡ member key (json s) more

-- the first member has not this key, or it says nothing that may be said
abbrev pub HasNoMember : {S : Type 0} → (S → Type 0) → (S → Data) → List ℕ → Members → Type 0
HasNoMember {S} IsRight json key ms = (s : S) (more : Members) → IsRight s → ms ≡ member key (json s) more → ⊥

-- ---- lists, numbers and texts

abbrev pub list_json : {S : Type 0} → (S → Data) → List S → Data
list_json json xs = array (items_of (map json xs))

-- -1,000,000,000 to 1,000,000,000
abbrev pub IsInt : ℤ → Type 0
IsInt z = (negsuc 999999999 ≤ℤ z) × (z ≤ℤ pos 1000000000)

abbrev pub int_json : ℤ → Data
int_json z = number (of_integer z)

-- 0 to 1,000,000,000
abbrev pub IsCount : ℕ → Type 0
IsCount n = n ≤ 1000000000

abbrev pub count_json : ℕ → Data
count_json n = number (unsigned n)

abbrev pub text_json : List ℕ → Data
text_json bytes = string bytes

-- letters, digits and _, one at least
pub record IsWord (text : List ℕ) : Type 0 where
  pub some : 0 < length text
  pub bytes : All (λ c. is_word_byte c ≡ true) text

-- neither ; nor #
abbrev pub IsFree : List ℕ → Type 0
IsFree text = All (λ c. ((c == 59) || (c == 35)) ≡ false) text

-- a list of two
abbrev pub pair_json : Data → Data → Data
pair_json a b = array (item a (item b no_items))
