-- That a text is a piece, from the texts of the piece's parts.
use Rattle.std.proofs.Common.{◌≡◌, refl, sym, ℕ, ◌+◌, true, List, [], ◌∷◌, ◌++◌, append-nil, length}
use Rattle.std.specs.List.{list_all}
use Rattle.cg_reading.specs.Bytes.{Class, has}
use Rattle.cg_reading.specs.Pieces.{Piece, Split, Made, One, Bytes, Longest}
use Rattle.cg_reading.specs.Tokens.{behind_blanks, gap, with_blanks}

-- one text and then another
pub then_as : {P : List ℕ → Type 0} {Q : ℕ → List ℕ → Type 0} {text : List ℕ} (x y : List ℕ)
    → P x → Q (length x) y → text ≡ x ++ y → Split P Q text
then_as x y first second spelled = record { before = x; behind = y; first = first; second = second; spelled = spelled }

pub then_is : {P : List ℕ → Type 0} {Q : ℕ → List ℕ → Type 0} (x y : List ℕ) → P x → Q (length x) y → Split P Q (x ++ y)
then_is x y first second = then_as x y first second refl

-- nothing behind the first
pub then_none : {P : List ℕ → Type 0} {Q : ℕ → List ℕ → Type 0} (x : List ℕ) → P x → Q (length x) [] → Split P Q x
then_none x first second = then_as x [] first second (sym (append-nil x))

-- one byte, alone and in front
pub byte_is : {c : Class} {i : ℕ} (b : ℕ) → has c b ≡ true → One c i b (b ∷ [])
byte_is b h = record { within = h; spelled = refl }

pub byte_then : {Q : ℕ → List ℕ → Type 0} {c : Class} {i : ℕ} (b : ℕ) (y : List ℕ) → has c b ≡ true → Q 1 y → Split (One c i b) Q (b ∷ y)
byte_then b y h second = then_is (b ∷ []) y (byte_is b h) second

-- bytes of a set
pub bytes_are : {c : Class} {i : ℕ} {bs : List ℕ} → list_all (has c) bs ≡ true → Bytes c i bs bs
bytes_are h = record { within = h; spelled = refl }

pub no_bytes_then : {Q : ℕ → List ℕ → Type 0} {c : Class} {i : ℕ} (y : List ℕ) → Q 0 y → Split (Bytes c i []) Q y
no_bytes_then y second = then_is [] y (bytes_are refl) second

-- a function of a piece's value
pub made_as : {A B : Type 0} {h : A → B} {R : Piece A} {i : ℕ} {b : B} {text : List ℕ} (a : A) → R i a text → b ≡ h a → Made h R i b text
made_as a is same = record { made_of = a; is = is; same = same }

pub made_is : {A B : Type 0} {h : A → B} {R : Piece A} {i : ℕ} {text : List ℕ} (a : A) → R i a text → Made h R i (h a) text
made_is a is = record { made_of = a; is = is; same = refl }

-- a piece as long as possible, with nothing behind it
pub longest_none : {A B : Type 0} {more : A → Class} {R : Piece A} {S : Piece B} {i : ℕ} {v : A × B} (x : List ℕ)
    → R i v.0 x → S (i + length x) v.1 [] → Longest more R S i v x
longest_none x first second = record { before = x; behind = []; first = first; second = second; ended = tt; spelled = sym (append-nil x) }

-- ---- blanks

-- no blank before the piece
pub behind_none : {A : Type 0} (R : Piece A) (i : ℕ) (a : A) (text : List ℕ) → R (i + 0) a text → behind_blanks R i a text
behind_none R i a text m = made_is ([], a) (no_bytes_then text m)

-- no blank behind it
pub before_none : {A : Type 0} (R : Piece A) (i : ℕ) (a : A) (text : List ℕ) → R i a text → with_blanks R i a text
before_none R i a text m = made_is (a, []) (then_none text m (bytes_are refl))

-- one space
pub gap_is : (i : ℕ) → gap i (tt {0}) (32 ∷ [])
gap_is i = made_is (32, []) (byte_then 32 [] refl (bytes_are refl))
