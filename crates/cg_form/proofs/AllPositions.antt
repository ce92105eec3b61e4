-- The positions of a game: the game is the last, each comes once, each comes behind the positions of its options, and those of
-- a canonical game are canonical.
use Rattle.std.proofs.Common.{◌≡◌, refl, ◌<◌, ◌≤◌, ◌⊎◌, inl, inr, List, [], ◌∷◌, ◌++◌, arith, ap, sym, ◌∙◌}
use Rattle.cg_dyadic.specs.Number.{Number}
use Rattle.cg_form.specs.Canonical.{AllCanonical, Canonical}
use Rattle.cg_form.specs.Depth.{deepest_of, depth_of}
use Rattle.cg_form.specs.Extended.{IsClosed, extended, positions_before}
use Rattle.cg_form.specs.Game.{Among, Game, Games, IsNode, lefts, more, none, number, options, rights, to_list}
use Rattle.cg_form.specs.Positions.{EachOnce, all_positions, positions_in, positions_of}
use Rattle.cg_form.proofs.Among.{among-append, among-append_left, among-append_right, carry}
use Rattle.cg_form.proofs.Firsts.{extended-among, extended-append, extended-has, extended-once}
use Rattle.cg_form.proofs.Firsts.{extended-there, in_or_not, once-extended, one_more-new, one_more-there}
use Rattle.cg_form.proofs.Structure.{games}

-- ---- all positions

pub positions-own : (g : Game) → Among g (all_positions g)
positions-own (number x) = inl refl
positions-own (options ls rs) = among-append_right (options ls rs) (positions_in ls ++ positions_in rs) (options ls
    rs ∷ []) (inl refl)

mutual
  pub positions-depth : (g k : Game) → Among k (all_positions g) → depth_of k ≤ depth_of g
  positions-depth (number x) k (inl e) = let d = ap depth_of e in omega arith
  positions-depth (number x) k (inr m) = absurd m
  positions-depth (options ls rs) k m = elim (among-append k (positions_in ls ++ positions_in rs) (options ls rs ∷
      []) m) [
        | inl n ↦ elim (among-append k (positions_in ls) (positions_in rs) n) [
          | inl o ↦ (let d = positions_in-depth ls k o in omega arith)
          | inr o ↦ (let d = positions_in-depth rs k o in omega arith)
        ]
        | inr n ↦ elim n [ inl e ↦ (let d = ap depth_of e in omega arith) | inr nothing ↦ absurd nothing ]
      ]

  pub positions_in-depth : (gs : Games) (k : Game) → Among k (positions_in gs) → depth_of k ≤ deepest_of gs
  positions_in-depth none k m = absurd m
  positions_in-depth (more g gs) k m = elim (among-append k (all_positions g) (positions_in gs) m) [
    | inl n ↦ (let d = positions-depth g k n in omega arith)
    | inr n ↦ (let d = positions_in-depth gs k n in omega arith)
  ]

mutual
  pub positions-canonical : (g k : Game) → Canonical g → Among k (all_positions g) → Canonical k
  positions-canonical (number x) k c (inl e) = rw e tt
  positions-canonical (number x) k c (inr m) = absurd m
  positions-canonical (options ls rs) k c m =
      elim (among-append k (positions_in ls ++ positions_in rs) (options ls rs ∷ []) m) [
        | inl n ↦ elim (among-append k (positions_in ls) (positions_in rs) n) [
          | inl o ↦ positions_in-canonical ls k c.1 o
          | inr o ↦ positions_in-canonical rs k c.2 o
        ]
        | inr n ↦ elim n [ inl e ↦ rw e c | inr nothing ↦ absurd nothing ]
      ]

  positions_in-canonical : (gs : Games) (k : Game) → AllCanonical gs → Among k (positions_in gs) → Canonical k
  positions_in-canonical none k c m = absurd m
  positions_in-canonical (more g gs) k c m = elim (among-append k (all_positions g) (positions_in gs) m) [
    | inl n ↦ positions-canonical g k c.0 n
    | inr n ↦ positions_in-canonical gs k c.1 n
  ]

-- the positions of a list are those of its games
pub positions_in-own : (gs : Games) (a : Game) → Among a (to_list gs) → Among a (positions_in gs)
positions_in-own none a m = absurd m
positions_in-own (more g gs) a (inl e) =
    rw e (among-append_left g (all_positions g) (positions_in gs) (positions-own g))
positions_in-own (more g gs) a (inr m) = among-append_right a (all_positions g) (positions_in gs) (positions_in-own
    gs a m)

-- ---- options come first

-- an option of a game that isn't written as a number
abbrev pub IsOption : Game → Game → Type 0
IsOption a g = IsNode g × (Among a (lefts g) ⊎ Among a (rights g))

-- with what was seen before, the options of each game of the list come before it
abbrev pub OptionsFirst : List Game → List Game → Type 0
OptionsFirst seen [] = Unit {0}
OptionsFirst seen (g ∷ gs) = ((a : Game) → IsOption a g → Among a seen) × OptionsFirst (g ∷ seen) gs

options_first-more : (seen wider gs : List Game) → ((a : Game) → Among a seen → Among a wider)
    → OptionsFirst seen gs → OptionsFirst wider gs
options_first-more seen wider [] sub f = tt
options_first-more seen wider (g ∷ gs) sub f = (
  λ a o. sub a (f.0 a o),
  options_first-more (g ∷ seen) (g ∷ wider) gs (λ a m. elim m [ inl e ↦ inl e | inr n ↦ inr (sub a n) ]) f.1,
)

options_first-append : (seen gs hs : List Game) → OptionsFirst seen gs → OptionsFirst (seen ++ gs) hs
    → OptionsFirst seen (gs ++ hs)
options_first-append seen [] hs f h = options_first-more (seen ++ []) seen hs (λ a m. elim (among-append a seen [] m)
    [ inl n ↦ n | inr n ↦ absurd n ]) h
options_first-append seen (g ∷ gs) hs f h = (
  f.0,
  options_first-append (g ∷ seen) gs hs f.1 (options_first-more (seen ++ (g ∷ gs)) (g ∷ (seen ++ gs)) hs (λ a m. elim
      (among-append a seen (g ∷ gs) m) [
        | inl n ↦ inr (among-append_left a seen gs n)
        | inr n ↦ elim n [ inl e ↦ inl e | inr o ↦ inr (among-append_right a seen gs o) ]
      ]) h),
)

mutual
  positions-options_first : (seen : List Game) (g : Game) → OptionsFirst seen (all_positions g)
  positions-options_first seen (number x) = (λ a o. absurd o.0, tt)
  positions-options_first seen (options ls rs) =
      options_first-append seen (positions_in ls ++ positions_in rs) (options ls rs ∷ [])
      (options_first-append seen (positions_in ls) (positions_in rs) (positions_in-options_first seen ls)
      (positions_in-options_first (seen ++ positions_in ls) rs)) (
        λ a o. among-append_right a seen (positions_in ls ++ positions_in rs) (elim o.1 [
          | inl m ↦ among-append_left a (positions_in ls) (positions_in rs) (positions_in-own ls a m)
          | inr m ↦ among-append_right a (positions_in ls) (positions_in rs) (positions_in-own rs a m)
        ]),
        tt,
      )

  positions_in-options_first : (seen : List Game) (gs : Games) → OptionsFirst seen (positions_in gs)
  positions_in-options_first seen none = tt
  positions_in-options_first seen (more g gs) =
      options_first-append seen (all_positions g) (positions_in gs) (positions-options_first seen g)
      (positions_in-options_first (seen ++ all_positions g) gs)

extended-options_first : (before seen gs : List Game) → ((a : Game) → Among a before → Among a seen)
    → OptionsFirst [] seen → OptionsFirst before gs → OptionsFirst [] (extended seen gs)
extended-options_first before seen [] sub f h = f
extended-options_first before seen (g ∷ gs) sub f h =
    elim (in_or_not games seen g) [
      | inl there ↦ rw (one_more-there games seen g there) (extended-options_first (g ∷ before) seen gs
          (λ a m. elim m [
            | inl e ↦ rw e there
            | inr n ↦ sub a n
          ]) f h.1)
      | inr out ↦ rw (one_more-new games seen g out) (extended-options_first (g ∷ before) (seen ++ (g ∷ [])) gs
          (λ a m. elim m [
            | inl e ↦ among-append_right a seen (g ∷ []) (inl e)
            | inr n ↦ among-append_left a seen (g ∷
                []) (sub a n)
          ])
          (options_first-append [] seen (g ∷ []) f (λ a o. sub a (h.0 a o), tt)) h.1)
    ]

options_first-at : (seen front back : List Game) (f a : Game) → OptionsFirst seen (front ++ (f ∷ back))
    → IsOption a f → Among a seen ⊎ Among a front
options_first-at seen [] back f a h o = inl (h.0 a o)
options_first-at seen (g ∷ front) back f a h o = elim (options_first-at (g ∷ seen) front back f a h.1 o) [
  | inl m ↦ elim m [ inl e ↦ inr (inl e) | inr n ↦ inl n ]
  | inr m ↦ inr (inr m)
]

-- ---- the positions, each once

pub positions_of-extended : (g : Game) → positions_of g ≡ extended [] (all_positions g)
unfolding positions_of
positions_of-extended g = once-extended games (all_positions g)

-- a game is a position of another exactly where play can come to it
pub positions_of-among : (g k : Game) → Among k (positions_of g) → Among k (all_positions g)
positions_of-among g k m = elim (extended-among games [] (all_positions g) k (carry k (positions_of g) (extended []
    (all_positions g)) (positions_of-extended g) m)) [
      | inl n ↦ absurd n
      | inr n ↦ n
    ]

pub among-positions_of : (g k : Game) → Among k (all_positions g) → Among k (positions_of g)
among-positions_of g k m = carry k (extended [] (all_positions g)) (positions_of g) (sym (positions_of-extended g))
    (extended-has games [] (all_positions g) k m)

-- no position stands twice
pub positions_of-once : (g : Game) → EachOnce (positions_of g)
positions_of-once g = rw (positions_of-extended g) (extended-once games [] (all_positions g) tt)

-- the positions of a canonical game are canonical
pub positions_of-canonical : (g k : Game) → Canonical g → Among k (positions_of g) → Canonical k
positions_of-canonical g k c m = positions-canonical g k c (positions_of-among g k m)

-- the options of a position that isn't a number stand before it
pub positions_of-options_first : (g : Game) (front : List Game) (f : Game) (back : List Game)
    → positions_of g ≡ front ++ (f ∷ back)
    → IsNode f → (a : Game) → Among a (lefts f) ⊎ Among a (rights f) → Among a front
positions_of-options_first g front f back e is a o =
    let h = extended-options_first [] [] (all_positions g) (λ a m. m) tt (positions-options_first [] g) in
    elim (options_first-at [] front back f a (rw (sym (positions_of-extended g) ∙ e) at h) (is, o)) [
      | inl nothing ↦ absurd nothing
      | inr m ↦ m
    ]

pub positions-last : (g : Game) → all_positions g ≡ positions_before g ++ (g ∷ [])
positions-last (number x) = refl
positions-last (options ls rs) = refl

pub positions_before-depth : (g k : Game) → Among k (positions_before g) → depth_of k < depth_of g
positions_before-depth (number x) k m = absurd m
positions_before-depth (options ls rs) k m = elim (among-append k (positions_in ls) (positions_in rs) m) [
  | inl o ↦ (let d = positions_in-depth ls k o in omega arith)
  | inr o ↦ (let d = positions_in-depth rs k o in omega arith)
]

-- a game that wasn't seen is the last that its positions add
pub extended-last : (seen : List Game) (g : Game) → ¬ Among g seen
    → extended seen (all_positions g) ≡ extended seen (positions_before g) ++ (g ∷ [])
extended-last seen g out =
    ap (extended seen) (positions-last g) ∙ extended-append games seen (positions_before g) (g ∷ [])
    ∙ one_more-new games (extended seen (positions_before g)) g (λ m. elim (extended-among games seen (positions_before g) g m) [
      | inl n ↦ out n
      | inr n ↦ (let d = positions_before-depth g g n in absurd (omega arith))
    ])

-- the game itself is the last of its positions
pub positions_of-last : (g : Game) → positions_of g ≡ extended [] (positions_before g) ++ (g ∷ [])
positions_of-last g = positions_of-extended g ∙ extended-last [] g (λ m. m)

pub positions_of-number : (x : Number) → positions_of (number x) ≡ number x ∷ []
positions_of-number x = positions_of-last (number x)

-- ---- closed lists

pub closed_none : IsClosed []
closed_none g m k n = absurd m

-- a list that has all positions of a game before it stays closed with that game
pub closed_more : (seen : List Game) (g : Game) → IsClosed seen → ((k : Game) → Among k (positions_before g)
    → Among k seen) → IsClosed (seen ++ (g ∷ []))
closed_more seen g closed before h m k n = elim (among-append h seen (g ∷ []) m) [
  | inl there ↦ among-append_left k seen (g ∷ []) (closed h there k n)
  | inr last ↦ elim last [
    | inl e ↦
        elim (among-append k (positions_before g) (g ∷ []) (carry k (all_positions g) (positions_before g ++ (g ∷
        [])) (positions-last g) (rw e at n))) [
          | inl o ↦ among-append_left k seen (g ∷ []) (before k o)
          | inr o ↦ among-append_right k seen (g ∷ []) o
        ]
    | inr nothing ↦ absurd nothing
  ]
]

-- a closed list that has a game has its positions
pub closed_there : (seen : List Game) (g : Game) → IsClosed seen → Among g seen → extended seen (all_positions g) ≡ seen
closed_there seen g closed m = extended-there games seen (all_positions g) (closed g m)
