-- The pairs of walls of the positions that were walked, and the error that says that a temperature needs more places.
use Rattle.std.proofs.Common.{◌≡◌, ◌⊎◌, refl, ℕ, zero, suc, ◌+◌, ◌<◌, ◌≤◌, arith, inl, inr, ap, sym}
use Rattle.std.proofs.Common.{◌∙◌, subst, List, [], ◌∷◌, ◌++◌, get_or, length, Result, Err}
use Rattle.std.proofs.Math.ListN.{get_or-append}
use Rattle.std.proofs.Math.Seq.{get_or-append_seam}
use Rattle.std.proofs.lemmas.Bool.{cases_Bool}
use Rattle.std.proofs.lemmas.List.{length-append}
use Rattle.cg_arena.specs.Arena.{game_of, games_of}
use Rattle.cg_arena.proofs.Interning.{some_at}
use Rattle.cg_canon.proofs.WalkPositions.{place}
use Rattle.cg_canon.specs.Walk.{IsWalk, lefts_of, rights_of}
use Rattle.cg_canon.specs.declared.walk.Position.{Position}
use Rattle.cg_canon.specs.declared.walk.Walk.{Walk}
use Rattle.cg_dyadic.specs.Wide.{places}
use Rattle.cg_form.proofs.AllPositions.{positions_of-last}
use Rattle.cg_form.proofs.Among.{carry, lefts-node, rights-node}
use Rattle.cg_form.specs.Extended.{extended, positions_before}
use Rattle.cg_form.specs.Game.{Among, Game, IsNode, lefts, node, rights}
use Rattle.cg_form.specs.Positions.{positions_of}
use Rattle.cg_thermo.specs.declared.wall_pair.WallPair.{WallPair}
use Rattle.cg_thermo.specs.declared.fault.ThermoFault.{ThermoFault}
use Rattle.cg_thermo.specs.declared.fault.ThermoFault.TheVariants.{Range}
use Rattle.cg_thermo.specs.Progress.{AreWallPairs, HasWallPair, Rough, SomeRough}
use Rattle.cg_thermo.specs.Thermal.{NeedsMore}
use Rattle.cg_thermo.proofs.Drawing.{le_or_lt_n}

-- ---- games by their places

pub among_place : (fs : List Game) (i : ℕ) → i < length fs → Among (game_of fs i) fs
among_place [] i h = absurd (omega arith)
among_place (f ∷ fs) zero h = inl refl
among_place (f ∷ fs) (suc i) h = inr (among_place fs i (omega arith))

pub place_of : (fs : List Game) (g : Game) → Among g fs → (i : ℕ) × (i < length fs) × (game_of fs i ≡ g)
place_of [] g m = absurd m
place_of (f ∷ fs) g (inl e) = (0, omega arith, sym e)
place_of (f ∷ fs) g (inr m) = let (i, l, e) = place_of fs g m in (suc i, omega arith, e)

-- the last position is the game itself
pub last_position : (g : Game) (fs : List Game) (i : ℕ) → fs ≡ positions_of g → i + 1 ≡ length fs → game_of fs i ≡ g
last_position g fs i e l =
    let front : List Game = extended [] (positions_before g) in
    let is : fs ≡ front ++ (g ∷ []) = e ∙ positions_of-last g in
    let n = length-append front (g ∷ []) in
    let k = ap length is in
    let at : i ≡ length front = omega (arith, n, k, l) in
    ap (λ z. game_of z i) is ∙ ap (game_of (front ++ (g ∷ []))) at ∙ get_or-append_seam front g [] (node [] [])

pub some_positions : (g : Game) (fs : List Game) → fs ≡ positions_of g → 1 ≤ length fs
some_positions g fs e =
    let front : List Game = extended [] (positions_before g) in
    let n = length-append front (g ∷ []) in
    let k = ap length (e ∙ positions_of-last g) in
    omega (arith, n, k)

-- ---- the options of a position that was walked, where its game is no number

module _ (gs : List Game) (w : Walk) (fs : List Game) (is : IsWalk gs w fs) (i : ℕ) (p : Position) (within : i < length fs)
    (read : p ≡ get_or w.positions.items i p) (isnode : IsNode (game_of fs i)) where
  abbrev ls : List Game
  ls = games_of fs (lefts_of w.options.items p)

  abbrev rs : List Game
  rs = games_of fs (rights_of w.options.items p)

  both : game_of fs i ≡ node ls rs
  both =
      let here = place gs w fs is i p within read in
      elim (cases_Bool p.is_number) [
        | inl e ↦ (let n = here.as_number e in let P : Game → Type 0 = λ z. IsNode z in absurd (subst P n.is isnode))
        | inr e ↦ here.as_node e
      ]

  pub lefts_here : lefts (game_of fs i) ≡ ls
  lefts_here = ap lefts both ∙ lefts-node ls rs

  pub rights_here : rights (game_of fs i) ≡ rs
  rights_here = ap rights both ∙ rights-node ls rs

-- ---- pairs of walls

pub wall_pairs_none : (fs : List Game) (cs : List WallPair) → cs ≡ [] → AreWallPairs fs cs
wall_pairs_none fs cs e = record { each = λ i c l is. absurd (let n = ap length e in omega (arith, n, l)) }

pub wall_pairs_more : (fs : List Game) (cs ds : List WallPair) (c : WallPair) → AreWallPairs fs cs → HasWallPair (game_of fs (length cs)) c
    → ds ≡ cs ++ (c ∷ []) → AreWallPairs fs ds
wall_pairs_more fs cs ds c h k e = rw e (record {
  each = λ i d l is. elim (before i l) [
    | inl b ↦ h.each i d b (is ∙ get_or-append cs (c ∷ []) d i b)
    | inr n ↦
        let own : c ≡ d = sym (is ∙ ap (λ z. get_or (cs ++ (c ∷ [])) z d) n ∙ get_or-append_seam cs c [] d) in
        rw (← own) (rw n k)
  ];
})
  where
    before : (i : ℕ) → i < length (cs ++ (c ∷ [])) → (i < length cs) ⊎ (i ≡ length cs)
    before i l = let n = length-append cs (c ∷ []) in elim (le_or_lt_n (length cs) i) [
      | inl a ↦ inr (omega (arith, n, l, a))
      | inr b ↦ inl b
    ]

-- ---- the pairs of walls of all positions

module _ (g : Game) (fs : List Game) (cs : List WallPair) (is : fs ≡ positions_of g) (wall_pairs : AreWallPairs fs cs)
    (count : length cs ≡ length fs) where
  -- the last is that of the game
  pub own_wall_pair : (i : ℕ) (c : WallPair) → i + 1 ≡ length cs → c ≡ get_or cs i c → HasWallPair g c
  own_wall_pair i c last read =
      let P : Game → Type 0 = λ z. HasWallPair z c in
      subst P (last_position g fs i is (last ∙ count)) (wall_pairs.each i c (omega (arith, last)) read)

  pub each_walls_paired : (p : Game) → Among p (positions_of g) → (c : WallPair) × HasWallPair p c
  each_walls_paired p m =
      let (i, l, e) = place_of fs p (carry p (positions_of g) fs (sym is) m) in
      let (c, read) = some_at cs i (omega (arith, l, count)) in
      let P : Game → Type 0 = λ z. HasWallPair z c in
      (c, subst P e (wall_pairs.each i c (omega (arith, l, count)) read))

-- ---- temperatures that need more places

pub rough_at : (fs : List Game) (i : ℕ) → i < length fs → Rough (game_of fs i) → SomeRough fs
rough_at fs i l r = record { game = game_of fs i; among = among_place fs i l; rough = r }

pub rough-needs : (fs : List Game) (g : Game) → fs ≡ positions_of g → SomeRough fs → NeedsMore places g
rough-needs fs g e r = record {
  position = r.game;
  among = carry r.game fs (positions_of g) e r.among;
  mean = r.rough.mean;
  temp = r.rough.temp;
  thermal = r.rough.thermal;
  more = inr r.rough.more;
}

pub err_range : {A B : Type 0} (r : Result A ThermoFault) (q : Result B ThermoFault) (x y : ThermoFault) → r ≡ Err x → x ≡ y → q ≡ Err y
    → r ≡ Err Range → q ≡ Err Range
err_range r q x y e f h k = let i : x ≡ Range = cc in h ∙ ap Err (sym f ∙ i)
