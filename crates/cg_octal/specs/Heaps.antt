-- Heaps of tokens in an octal game, as games.
-- Berlekamp, Conway and Guy, Winning Ways, chapter 4; Siegel, Combinatorial Game Theory (2013), IV.2: octal games.
use Rattle.std.specs.Prelude.{◌≡◌, ℕ, zero, suc, ◌-◌, ◌/◌, ◌%◌, ◌==◌, ◌≤◌, ◌&&◌, nat_lt, Bool, if◌then◌else◌, List, [], ◌∷◌, ◌++◌, Some, slice_get}
use Rattle.cg_form.specs.Game.{Game, node}
use Rattle.cg_form.specs.Order.{Equal}
use Rattle.cg_form.specs.Sum.{sum}
use Rattle.cg_nimbers.specs.Nimbers.{nimber_form, zero_form}

-- A digit says what may be left of a heap when its tokens are removed: its bit 1 nothing, its bit 2 one heap, its bit 4 two
-- heaps.
abbrev pub leaves_nothing : ℕ → ℕ → Bool
leaves_nothing digit left = (left == 0) && (digit % 2 == 1)

abbrev pub leaves_one_heap : ℕ → ℕ → Bool
leaves_one_heap digit left = nat_lt 0 left && (digit / 2 % 2 == 1)

abbrev pub leaves_two_heaps : ℕ → Bool
leaves_two_heaps digit = digit / 4 % 2 == 1

-- the sums of two heaps that have n tokens together, the first of 1 token, of 2 and so on up to k
abbrev pub two_heaps : (ℕ → Game) → ℕ → ℕ → List Game
two_heaps heap n zero = []
two_heaps heap n (suc k) = two_heaps heap n k ++ (sum (heap (suc k)) (heap (n - suc k)) ∷ [])

-- the options by one digit, with this many tokens left; of two heaps the first is no greater than the second
abbrev pub digit_options : (ℕ → Game) → ℕ → ℕ → List Game
digit_options heap digit left = (if leaves_nothing digit left then zero_form ∷ [] else [])
    ++ ((if leaves_one_heap digit left then heap left ∷ [] else [])
    ++ (if leaves_two_heaps digit then two_heaps heap left (left / 2) else []))

-- the options of a heap of n tokens, where the first of the digits is that of removing one token, the next that of
-- removing two, and so on
abbrev pub heap_options : (ℕ → Game) → List ℕ → ℕ → List Game
heap_options heap [] n = []
heap_options heap (digit ∷ digits) zero = []
heap_options heap (digit ∷ digits) (suc left) = digit_options heap digit left ++ heap_options heap digits left

-- as far as heaps have fewer than so many tokens
unfoldable pub heap_within : ℕ → List ℕ → ℕ → Game
heap_within zero digits n = zero_form
heap_within (suc bound) digits n = node (heap_options (λ i. heap_within bound digits i) digits n)
    (heap_options (λ i. heap_within bound digits i) digits n)

-- the heap of n tokens in the game of these digits: both sides have the same options. The law function `heaps` states this
-- rule without the bound
unfoldable pub heap : List ℕ → ℕ → Game
heap digits n = heap_within (suc n) digits n

-- the n-th number is the k with heap n = *k, and is at most n
pub record AreValues (digits ks : List ℕ) : Type 0 where
  pub equal : (n k : ℕ) → slice_get ks n ≡ Some k → Equal (heap digits n) (nimber_form k)
  pub at_most : (n k : ℕ) → slice_get ks n ≡ Some k → k ≤ n
