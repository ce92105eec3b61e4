-- The rule of the words of a shared table and of the views of its passes.
use Rattle.std.specs.Prelude.{◌≡◌, ◌≢◌, ◌⊎◌, ℕ, ◌+◌, ◌-◌, ◌*◌, ◌^◌, ◌<◌, ◌≤◌, min, List, [], ◌∷◌}
use Rattle.std.specs.Prelude.{length, true, false, Some, if◌then◌else◌, nat_lt, ◌==◌, slice_index}
use mathlib.Core.Option.{some}
use lib.ListN.{get_elem?}
use Rattle.cg_cells.specs.Meaning.{Meaning, Has, Stands, Sound}
use Rattle.cg_cells.specs.Index.{place}
use Rattle.cg_cells.specs.Words.{filled}
use Rattle.cg_cells.specs.Views.{Sizes, ViewOf, cells_of}

-- what a table may be started with
pub record IsAllowed (z : Sizes) : Type 0 where
  pub cells : (1 ≤ cells_of z) × (cells_of z ≤ 2 ^ 26)
  pub passes : (1 ≤ z.passes) × (z.passes ≤ 65536)

-- The words of a table are a counter, then the key words, then the value words
abbrev pub key_at : ℕ → List ℕ → ℕ → ℕ
key_at size words i = if nat_lt i size then slice_index words (1 + i) else 0

abbrev pub value_at : ℕ → List ℕ → ℕ → ℕ
value_at size words i = if nat_lt i size then slice_index words (1 + size + i) else 0

-- The cell comes so many after the home, going round at the end, with no empty cell between
pub record IsPlaced (size : ℕ) (keys : ℕ → ℕ) (home cell : ℕ) : Type 0 where
  pub steps : ℕ
  pub within : steps < size
  pub here : cell ≡ place size home steps
  pub between : (k : ℕ) → k < steps → keys (place size home k) ≢ 0

-- how often a number stands in a list
abbrev pub times : ℕ → List ℕ → ℕ
times n [] = 0
times n (x ∷ xs) = (if x == n then 1 else 0) + times n xs

module _ {X : Type 0} where
  -- a number of a view, if its pass is live
  abbrev pub live : (ViewOf X → ℕ) → ViewOf X → ℕ
  live f v = if v.gone then 0 else f v

  -- the sum of a number over the live views
  abbrev pub total : (ViewOf X → ℕ) → List (ViewOf X) → ℕ
  total f [] = 0
  total f (v ∷ vs) = live f v + total f vs

  -- the passes that a view stands for: itself, those that may come of it, and those that were met into it
  abbrev pub passes_of : ViewOf X → ℕ
  passes_of v = 1 + v.heirs + v.met

  -- how many of these may still draw
  abbrev pub may_draw : ViewOf X → ℕ
  may_draw v = v.heirs + (if v.over then 0 else 1)

  -- the pair is in the list
  abbrev pub Tells : List (ℕ × X) → ℕ → X → Type 0
  Tells [] i t = ⊥
  Tells (e ∷ es) i t = ((e.0 ≡ i) × (e.1 ≡ t)) ⊎ Tells es i t

  -- the pass is live and has this view
  abbrev pub IsLive : List (ViewOf X) → ℕ → ViewOf X → Type 0
  IsLive views j v = (get_elem? views j ≡ some v) × (v.gone ≡ false)

  -- each line was drawn once, by this pass or by one that was met into it
  abbrev pub HasAllTickets : ViewOf X → Type 0
  HasAllTickets v = (n : ℕ) → times n v.tickets ≡ (if nat_lt n v.sizes.lines then 1 else 0)

module _ {X : Type 0} (m : Meaning X) where
  -- the search has passed full cells alone, and none with the key
  abbrev pub HasPassed : (ℕ → ℕ) → ℕ → ℕ → ℕ → Type 0
  HasPassed keys size key n = (j : ℕ) → j < n
      → (keys (place size (m.home key size) j) ≢ 0) × (keys (place size (m.home key size) j) ≢ key)

  -- What holds of the key words and the value words: they are sound, and each key stands at its home or after it, with no
  -- empty cell between
  pub record SoundAndPlaced (size : ℕ) (words : List ℕ) : Type 0 where
    pub sound : Sound m (key_at size words) (value_at size words)
    pub placed : (i : ℕ) → key_at size words i ≢ 0
        → IsPlaced size (key_at size words) (m.home (key_at size words i) size) i

  -- What the rule says of a live view, by the counter, the keys and the values
  pub record Fits (z : Sizes) (count : ℕ) (keys values : ℕ → ℕ) (v : ViewOf X) : Type 0 where
    pub sized : v.sizes ≡ z
    -- each known id stands for its thing
    pub stands : (i : ℕ) (t : X) → Tells v.known i t → Stands m keys i t
    -- where a draw found no line left, none is
    pub over : v.over ≡ true → z.lines ≤ count
    -- what the search has counted, it has passed
    pub probes : (key n : ℕ) → v.probe ≡ Some (key, n) → HasPassed keys (cells_of z) key n
    -- each noted id has a value
    pub noted : (i : ℕ) → Has v.noted i → values i ≢ 0

  -- The rule of the words and of all views
  pub record Whole (z : Sizes) (words : List ℕ) (views : List (ViewOf X)) : Type 0 where
    pub allowed : IsAllowed z
    pub long : length words ≡ 1 + cells_of z + cells_of z
    pub cells : SoundAndPlaced (cells_of z) words
    pub each : (j : ℕ) (v : ViewOf X) → IsLive views j v
        → Fits z (slice_index words 0) (key_at (cells_of z) words) (value_at (cells_of z) words) v
    -- the cells that are full, and the claims to spare, are paid for by the lines that were drawn
    pub enough : filled (key_at (cells_of z) words) (cells_of z) + total (λ v. v.spare) views
        ≤ z.share * min (slice_index words 0) z.lines
    -- each line that was drawn is the ticket of one pass, once
    pub drawn : (n : ℕ) → total (λ v. times n v.tickets) views ≡ (if nat_lt n (min (slice_index words 0) z.lines) then 1 else 0)
    pub counted : total passes_of views ≡ z.passes
    -- what the counter has above the lines, and the draws that may still come
    pub excess : (slice_index words 0 - z.lines) + total may_draw views ≤ z.passes
