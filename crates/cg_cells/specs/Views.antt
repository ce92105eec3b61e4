-- What one pass of a shared table knows and owns, and what each kind of step makes of it.
use Rattle.std.specs.Prelude.{ℕ, zero, suc, ◌+◌, ◌-◌, ◌*◌, List, [], ◌∷◌, ◌++◌, Bool, true, false, ◌||◌, Option, Some, None, if◌then◌else◌, nat_lt}
use Rattle.std.specs.Ordering.{nat_cmp}
use Rattle.std.specs.FinMap as map
use Rattle.cg_cells.specs.Meaning.{Meaning}
use Rattle.cg_cells.specs.Parts.{names_of}
use Rattle.cg_cells.specs.Words.{entry}

-- How many lines a table serves, how many cells each gets, and how many passes there are
pub record Sizes : Type 0 where
  pub lines : ℕ
  pub share : ℕ
  pub passes : ℕ

abbrev pub cells_of : Sizes → ℕ
cells_of z = z.lines * z.share

-- A step without the number of its pass, as its pass keeps it. A look of which nothing is learnt isn't kept
pub data Action : Type 0 where
  -- the heirs of the new pass
  a_split : ℕ → Action
  a_join : Action
  a_draw : Action
  -- a look at the key word of an id, at the value word of an id
  a_look : ℕ → Action
  a_read : ℕ → Action
  -- of a key
  a_probe : ℕ → Action
  a_claim : ℕ → Action
  -- the id and its value
  a_note : ℕ → ℕ → Action

pub record ViewOf (X : Type 0) : Type 0 where
  -- those of the table
  pub sizes : Sizes
  -- the things that ids are known to be, as pairs. The rule of the table says that no two differ, so they make up a map
  pub known : List (ℕ × X)
  pub noted : List ℕ
  -- an entry for each load that found a value word empty: the cell
  pub empties : List ℕ
  pub spare : ℕ
  pub tickets : List ℕ
  -- how many further passes may come of this one, and how many were met into it
  pub heirs : ℕ
  pub met : ℕ
  -- a draw found no line left
  pub over : Bool
  -- the key that is searched for, and how many cells from its home on had another key
  pub probe : Option (ℕ × ℕ)
  -- what the pass has made, and those that were met into it, the latest first
  pub made : List Action
  -- the pass has ended
  pub gone : Bool

-- how far the search has come
abbrev pub searched : Option (ℕ × ℕ) → ℕ
searched None = 0
searched (Some p) = p.1

module _ {X : Type 0} where
  -- the map of what is known
  abbrev pub known_of : ViewOf X → map.FinMap nat_cmp X
  known_of v = map.from_entries v.known

  abbrev pub knows : ViewOf X → ℕ → Option X
  knows v = map.get (known_of v)

  -- these ids become known, each as the thing that f gives
  abbrev pub learn : List (ℕ × X) → List ℕ → (ℕ → X) → List (ℕ × X)
  learn k [] f = k
  learn k (i ∷ is) f = (i, f i) ∷ learn k is f

  -- the pass makes these steps
  abbrev pub makes : List Action → ViewOf X → ViewOf X
  makes ds v = record v { made = ds ++ v.made }

  -- Make
  abbrev pub first_view : Sizes → ViewOf X
  first_view z = record {
    sizes = z;
    known = [];
    noted = [];
    empties = [];
    spare = 0;
    tickets = [];
    heirs = z.passes - 1;
    met = 0;
    over = false;
    probe = None;
    made = [];
    gone = false;
  }

  -- Split: so many heirs go to the new pass
  abbrev pub after_split : ℕ → ViewOf X → ViewOf X
  after_split heirs v = record v { heirs = v.heirs - (heirs + 1) }

  abbrev pub split_off : ℕ → ViewOf X → ViewOf X
  split_off heirs v = record {
    sizes = v.sizes;
    known = v.known;
    noted = v.noted;
    empties = [];
    spare = 0;
    tickets = [];
    heirs = heirs;
    met = 0;
    over = false;
    probe = None;
    made = [];
    gone = false;
  }

  -- Join: the second pass ends
  abbrev pub after_meet : ViewOf X → ViewOf X → ViewOf X
  after_meet v w = record v {
    known = v.known ++ w.known;
    noted = v.noted ++ w.noted;
    empties = v.empties ++ w.empties;
    spare = v.spare + w.spare;
    tickets = v.tickets ++ w.tickets;
    heirs = v.heirs + w.heirs;
    met = v.met + w.met + 1;
    over = v.over || w.over;
    made = v.made ++ w.made;
  }

  -- the view of a pass that has ended, which counts for nothing
  abbrev pub ended : ViewOf X
  ended = record {
    sizes = record { lines = 0; share = 0; passes = 0 };
    known = [];
    noted = [];
    empties = [];
    spare = 0;
    tickets = [];
    heirs = 0;
    met = 0;
    over = false;
    probe = None;
    made = [];
    gone = true;
  }

  -- Draw: the counter was at this number
  abbrev pub after_draw : ViewOf X → ℕ → ViewOf X
  after_draw v number =
      if nat_lt number v.sizes.lines
      then record v { spare = v.spare + v.sizes.share; tickets = v.tickets ++ number ∷ [] }
      else record v { over = true }

  -- Claim of a key that spells t, which was written or found at the cell id, or probe that found it there
  abbrev pub after_claim : ViewOf X → ℕ → X → ViewOf X
  after_claim v id t = record v { known = (id, t) ∷ v.known; spare = v.spare - 1; probe = None }

  -- Probe or claim that found another key
  abbrev pub after_pass : ViewOf X → ℕ → ViewOf X
  after_pass v key = record v { probe = Some (key, searched v.probe + 1) }

  -- Note on a cell
  abbrev pub after_note : ViewOf X → ℕ → ViewOf X
  after_note v id = record v { noted = id ∷ v.noted }

module _ {X : Type 0} (m : Meaning X) where
  -- Look at a key word: it has the key, which spells t
  abbrev pub after_look : ViewOf X → ℕ → X → ViewOf X
  after_look v key t = record v { known = learn v.known (names_of key) (m.part key t) }

  -- Look at the value word of the cell id, which stands for t: the word is 0 or the value plus 1
  abbrev pub after_read : ViewOf X → ℕ → ℕ → X → ViewOf X
  after_read v id zero t = record v { empties = id ∷ v.empties }
  after_read v id (suc value) t = record v { known = entry value (m.note_of t) v.known; noted = id ∷ v.noted }
