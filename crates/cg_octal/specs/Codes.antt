-- The codes of octal games.
use Rattle.std.specs.Prelude.{◌≡◌, ℕ, ◌+◌, ◌-◌, ◌<◌, ◌≤◌, List, [], ◌∷◌, ◌++◌, drop, map, length, codes, Result, Ok, Err}
use Rattle.cg_octal.specs.declared.fault.OctalFault.{OctalFault}
use Rattle.cg_octal.specs.declared.fault.OctalFault.TheVariants.{Code, Heap, Memory}

-- an octal game and a heap of it; the first digit is that of removing one token
pub record OctalHeap : Type 0 where
  pub digits : List ℕ
  pub heap : ℕ

-- each digit is from 0 to 7
abbrev pub AreOctal : List ℕ → Type 0
AreOctal [] = Unit {0}
AreOctal (d ∷ ds) = (d < 8) × AreOctal ds

-- what holds of each: 1 to 16 digits from 0 to 7, and at most 1,000 tokens
pub record IsOctalHeap (o : OctalHeap) : Type 0 where
  pub octal : AreOctal o.digits
  pub some : 1 ≤ length o.digits
  pub few : length o.digits ≤ 16
  pub heap : o.heap ≤ 1000

-- the text is `0.` and 1 to 16 digits from 0 to 7
pub record IsCode (text digits : List ℕ) : Type 0 where
  pub spelled : text ≡ codes "0." ++ map (λ d. 48 + d) digits
  pub octal : AreOctal digits
  pub some : 1 ≤ length digits
  pub few : length digits ≤ 16

-- the digits that a code has behind `0.`
abbrev pub digits_of : List ℕ → List ℕ
digits_of text = map (λ b. b - 48) (drop 2 text)

-- the text can be completed to a code
pub record Begun (text : List ℕ) : Type 0 where
  pub behind : List ℕ
  pub digits : List ℕ
  pub code : IsCode (text ++ behind) digits

-- the text is no code, and the place is 1 plus the length of its longest prefix that can be completed to one
pub record NoCodeAt (text : List ℕ) (place : ℕ) : Type 0 where
  pub no_code : (digits : List ℕ) → ¬ IsCode text digits
  pub before : List ℕ
  pub behind : List ℕ
  pub cut : text ≡ before ++ behind
  pub begun : Begun before
  pub longest : (x y : List ℕ) → text ≡ x ++ y → Begun x → length x ≤ length before
  pub place_is : place ≡ length before + 1

-- the game and the heap that were read, or why they were refused: a text that is no code comes before a heap that is too
-- large, and want of memory has no cause here
abbrev pub IsRead : List ℕ → ℕ → Result OctalHeap OctalFault → Type 0
IsRead text heap (Ok o) = IsCode text o.digits × (o.heap ≡ heap) × (heap ≤ 1000)
IsRead text heap (Err (Code place)) = NoCodeAt text place
IsRead text heap (Err Heap) = ((digits : List ℕ) × IsCode text digits) × (1000 < heap)
IsRead text heap (Err Memory) = Unit {0}
