-- Pieces of a grammar.
use Rattle.std.specs.Prelude.{ℕ, zero, suc, ◌+◌, ◌≡◌, ◌≤◌, ◌<◌, Bool, true, List, [], ◌∷◌, ◌++◌, length, ◌⊎◌}
use Rattle.std.specs.List.{list_all}
use Rattle.cg_reading.specs.Bytes.{Class, has, Ends}

-- A piece of a grammar: which value a text has that starts at a column.
abbrev pub Piece : Type 0 → Type 1
Piece A = ℕ → A → List ℕ → Type 0

-- A text is one text and then another; the second is told the length of the first.
pub record Split (P : List ℕ → Type 0) (Q : ℕ → List ℕ → Type 0) (text : List ℕ) : Type 0 where
  pub before : List ℕ
  pub behind : List ℕ
  pub first : P before
  pub second : Q (length before) behind
  pub spelled : text ≡ before ++ behind

-- one piece and then another
abbrev pub Then : {A B : Type 0} → Piece A → Piece B → Piece (A × B)
Then R S i v text = Split (R i v.0) (λ n y. S (i + n) v.1 y) text

-- either piece
abbrev pub Or : {A : Type 0} → Piece A → Piece A → Piece A
Or R S i a text = R i a text ⊎ S i a text

-- any number of pieces
abbrev pub Many : {A : Type 0} → Piece A → Piece (List A)
Many R i [] text = text ≡ []
Many R i (a ∷ others) text = Split (R i a) (λ n y. Many R (i + n) others y) text

-- the piece's value under a function
pub record Made {A B : Type 0} (h : A → B) (R : Piece A) (i : ℕ) (b : B) (text : List ℕ) : Type 0 where
  pub made_of : A
  pub is : R i made_of text
  pub same : b ≡ h made_of

-- nothing, with this value
abbrev pub Nothing : {A : Type 0} → A → Piece A
Nothing v i a text = (a ≡ v) × (text ≡ [])

-- one byte of a set
pub record One (c : Class) (i : ℕ) (b : ℕ) (text : List ℕ) : Type 0 where
  pub within : has c b ≡ true
  pub spelled : text ≡ b ∷ []

-- any number of bytes of a set
pub record Bytes (c : Class) (i : ℕ) (bs : List ℕ) (text : List ℕ) : Type 0 where
  pub within : list_all (has c) bs ≡ true
  pub spelled : text ≡ bs

-- one byte of a set or more, so many at most
pub record Run (c : Class) (most : ℕ) (i : ℕ) (bs : List ℕ) (text : List ℕ) : Type 0 where
  pub within : list_all (has c) bs ≡ true
  pub some : 0 < length bs
  pub few : length bs ≤ most
  pub spelled : text ≡ bs

-- so many bytes of a set at most
pub record Few (c : Class) (most : ℕ) (i : ℕ) (bs : List ℕ) (text : List ℕ) : Type 0 where
  pub within : list_all (has c) bs ≡ true
  pub few : length bs ≤ most
  pub spelled : text ≡ bs

-- the bytes that would still belong to these bytes of a set, of which there are so many at most
abbrev pub more_of : Class → ℕ → List ℕ → Class
more_of c zero bs = []
more_of c (suc most) [] = c
more_of c (suc most) (b ∷ bs) = more_of c most bs

-- this word, with this value
abbrev pub Word : {A : Type 0} → List ℕ → A → Piece A
Word w v i a text = (a ≡ v) × (text ≡ w)

-- the piece, with the column where it starts
abbrev pub Placed : {A : Type 0} → Piece A → Piece (ℕ × A)
Placed R i v text = (v.0 ≡ i) × R i v.1 text

-- One piece and then another, which begins with no byte that would still belong to the first: the first is as long as possible.
pub record Longest {A B : Type 0} (goes_on : A → Class) (R : Piece A) (S : Piece B) (i : ℕ) (v : A × B) (text : List ℕ) : Type 0 where
  pub before : List ℕ
  pub behind : List ℕ
  pub first : R i v.0 before
  pub second : S (i + length before) v.1 behind
  pub ended : Ends (goes_on v.0) behind
  pub spelled : text ≡ before ++ behind

-- the piece, with a value of which the test holds
pub record Such {A : Type 0} (test : A → Bool) (R : Piece A) (i : ℕ) (a : A) (text : List ℕ) : Type 0 where
  pub is : R i a text
  pub holds : test a ≡ true

-- One piece, and then another one that the first one's value tells. Nothing is kept of the first.
pub record Telling {A B : Type 0} (R : Piece A) (S : A → Piece B) (i : ℕ) (b : B) (text : List ℕ) : Type 0 where
  pub told : A
  pub before : List ℕ
  pub behind : List ℕ
  pub first : R i told before
  pub second : S told (i + length before) b behind
  pub spelled : text ≡ before ++ behind
