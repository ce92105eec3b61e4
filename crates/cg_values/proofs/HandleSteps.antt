-- Handles that stand for values, by places.
use Rattle.std.proofs.Common.{◌≡◌, refl, ℕ, zero, suc, ◌≤◌, ◌<◌, arith, ap, sym, ◌∙◌, List, [], ◌∷◌, ◌++◌, drop, get_or, length, take, Some}
use Rattle.std.specs.Prelude.{slice_index}
use Rattle.std.proofs.lemmas.List.{get_or_default, get_or-map, length-map}
use Rattle.cg_cells.specs.Meaning.{Grows}
use Rattle.cg_cells.specs.Store.{State, thing_at}
use Rattle.cg_form.specs.Game.{Game}
use Rattle.cg_nodes.proofs.Later.{stand_later, stands_game, stands_is_game}
use Rattle.cg_nodes.specs.Boards.{AreBelow}
use Rattle.cg_nodes.specs.Can.{can}
use Rattle.cg_nodes.specs.Games.{StandFor, StandsFor, game_at, games_at}
use Rattle.cg_nodes.specs.Meant.{Meant, form}
use Rattle.cg_moves.specs.Grid.{Grid}
use Rattle.cg_moves.specs.Graph.{IsAt, StandAt}
use Rattle.cg_moves.specs.Raw.{raw}
use Rattle.cg_moves.specs.Rules.{GameRules}
use Rattle.cg_values.specs.Parts.{HoldAt, handles_at, values_of}

-- ---- places

pub place-within : (n : ℕ) (places : List ℕ) (i : ℕ) → AreBelow n places → i < length places → slice_index places i < n
place-within n [] i below within = absurd (omega arith)
place-within n (p ∷ places) zero below within = below.0
place-within n (p ∷ places) (suc i) below within = place-within n places i below.1 (omega arith)

pub handle-read : (handles places : List ℕ) (i h : ℕ) → AreBelow (length handles) places → i < length places
    → h ≡ get_or handles (slice_index places i) h → h ≡ get_or (handles_at handles places) i h
handle-read handles places i h below within read =
    read ∙ get_or_default handles (slice_index places i) h 0 (place-within (length handles) places i below within)
    ∙ sym (get_or-map (slice_index handles) places i 0 h within)

pub handles-first : (handles places : List ℕ) (first h : ℕ) (others : List ℕ) → places ≡ first ∷ others
    → AreBelow (length handles) places → h ≡ get_or handles first h → handles_at handles places ≡ h ∷ handles_at handles others
handles-first handles places first h others e below read =
    let both = rw e at below in
    ap (handles_at handles) e
    ∙ ap (λ z. z ∷ handles_at handles others) (sym (read ∙ get_or_default handles first h 0 both.0))

handles-many : (handles places : List ℕ) → length (handles_at handles places) ≡ length places
handles-many handles places = length-map places (slice_index handles)

pub handle-within : (handles places : List ℕ) (i : ℕ) → i < length places → i < length (handles_at handles places)
handle-within handles places i l = let n = handles-many handles places in omega (arith, l, n)

pub handles-end : (handles places : List ℕ) (i : ℕ) → length places ≤ i → length (handles_at handles places) ≤ i
handles-end handles places i l = let n = handles-many handles places in omega (arith, l, n)

-- ---- handles that stand for games

module _ {R : Type 0} (s : State Meant R) where
  pub stand-first : (h : ℕ) (hs : List ℕ) (g : Game) (gs : List Game) → StandFor s (h ∷ hs) (g ∷ gs) → StandsFor s h g
  stand-first h hs g gs all =
      let e = all.1 in let a : game_at s h ≡ g = cc in all.0.0 ∙ ap (λ z. Some (form z)) a

  pub stand-rest : (h : ℕ) (hs : List ℕ) (g : Game) (gs : List Game) → StandFor s (h ∷ hs) (g ∷ gs) → StandFor s hs gs
  stand-rest h hs g gs all = let e = all.1 in let b : games_at s hs ≡ gs = cc in (all.0.1, b)

  pub stand-both : (h : ℕ) (hs : List ℕ) (g : Game) (gs : List Game) → StandsFor s h g → StandFor s hs gs
      → StandFor s (h ∷ hs) (g ∷ gs)
  stand-both h hs g gs one all = (
    (stands_is_game s h g one, all.0),
    ap (λ z. z ∷ games_at s hs) (stands_game s h g one) ∙ ap (λ z. g ∷ z) all.1,
  )

  pub stand-length : (hs : List ℕ) (gs : List Game) → StandFor s hs gs → length hs ≡ length gs
  stand-length [] [] all = refl
  stand-length [] (g ∷ gs) all = let e = all.1 in absurd (cc)
  stand-length (h ∷ hs) [] all = let e = all.1 in absurd (cc)
  stand-length (h ∷ hs) (g ∷ gs) all = ap suc (stand-length hs gs (stand-rest h hs g gs all))

  -- one handle more
  pub stand-more : (hs : List ℕ) (gs : List Game) (h : ℕ) (g : Game) → StandFor s hs gs → StandsFor s h g
      → StandFor s (hs ++ (h ∷ [])) (gs ++ (g ∷ []))
  stand-more [] [] h g all one = stand-both h [] g [] one all
  stand-more [] (f ∷ gs) h g all one = let e = all.1 in absurd (cc)
  stand-more (k ∷ hs) [] h g all one = let e = all.1 in absurd (cc)
  stand-more (k ∷ hs) (f ∷ gs) h g all one =
      stand-both k (hs ++ (h ∷ [])) f (gs ++ (g ∷ [])) (stand-first k hs f gs all)
      (stand-more hs gs h g (stand-rest k hs f gs all) one)

  -- the first handles stand for the first games, and the others for the others
  pub stand-split : (hs : List ℕ) (gs fs : List Game) (n : ℕ) → n ≡ length gs → StandFor s hs (gs ++ fs)
      → StandFor s (take n hs) gs × StandFor s (drop n hs) fs
  stand-split hs [] fs zero e all = ((tt, refl), all)
  stand-split hs [] fs (suc n) e all = absurd (omega arith)
  stand-split hs (g ∷ gs) fs zero e all = absurd (omega arith)
  stand-split [] (g ∷ gs) fs (suc n) e all = let f = all.1 in absurd (cc)
  stand-split (h ∷ hs) (g ∷ gs) fs (suc n) e all =
      let rest = stand-split hs gs fs n (omega arith) (stand-rest h hs g (gs ++ fs) all) in
      (stand-both h (take n hs) g gs (stand-first h hs g (gs ++ fs) all) rest.0, rest.1)

-- ---- handles at places

module _ {R : Type 0} (s : State Meant R) (r : GameRules) where
  is-held : (before : List Grid) (handles : List ℕ) (n : ℕ) (p : Grid) → IsAt before n p → StandFor s handles (values_of r before)
      → (n < length handles) × StandsFor s (slice_index handles n) (can (raw r p))
  is-held [] handles n p at all = absurd at
  is-held (q ∷ before) [] n p at all = let e = all.1 in absurd (cc)
  is-held (q ∷ before) (h ∷ handles) zero p at all =
      (omega arith, rw (← at) (stand-first s h handles (can (raw r q)) (values_of r before) all))
  is-held (q ∷ before) (h ∷ handles) (suc n) p at all =
      let rest = is-held before handles n p at (stand-rest s h handles (can (raw r q)) (values_of r before) all) in
      let l = rest.0 in (omega (arith, l), rest.1)

  -- the handles of the boards before hold at the places of boards among them
  pub held : (before : List Grid) (handles places : List ℕ) (ps : List Grid) → StandAt before places ps
      → StandFor s handles (values_of r before) → HoldAt s r handles places ps
  held before handles [] [] at all = record { within = tt; values = (tt, refl) }
  held before handles [] (p ∷ ps) at all = absurd at
  held before handles (n ∷ places) [] at all = absurd at
  held before handles (n ∷ places) (p ∷ ps) at all =
      let one = is-held before handles n p at.0 all in
      let rest = held before handles places ps at.1 all in record {
        within = (one.0, rest.within);
        values = stand-both s (slice_index handles n) (handles_at handles places) (can (raw r p)) (values_of r ps) one.1 rest.values;
      }

  pub hold-as : (hs ks ns ms : List ℕ) (ps : List Grid) → hs ≡ ks → ns ≡ ms → HoldAt s r ks ms ps → HoldAt s r hs ns ps
  hold-as hs ks ns ms ps e f all =
      rw f (rw e all)

  -- the first places hold the first boards, and the others the others
  pub record HeldApart (handles places : List ℕ) (qs rest : List Grid) (n : ℕ) : Type 0 where
    pub fits : n ≤ length places
    pub own : HoldAt s r handles (take n places) qs
    pub others : HoldAt s r handles (drop n places) rest

  pub held-apart : (handles places : List ℕ) (qs rest : List Grid) (n : ℕ) → n ≡ length qs
      → HoldAt s r handles places (qs ++ rest) → HeldApart handles places qs rest n
  held-apart handles places [] rest zero e all = record {
    fits = omega arith;
    own = record { within = tt; values = (tt, refl) };
    others = all;
  }
  held-apart handles places [] rest (suc n) e all = absurd (omega arith)
  held-apart handles places (q ∷ qs) rest zero e all = absurd (omega arith)
  held-apart handles [] (q ∷ qs) rest (suc n) e all = let f = all.values.1 in absurd (cc)
  held-apart handles (p ∷ places) (q ∷ qs) rest (suc n) e all =
      let h = slice_index handles p in
      let hs = handles_at handles places in
      let g = can (raw r q) in
      let gs = values_of r (qs ++ rest) in
      let more = held-apart handles places qs rest n (omega arith)
      (record { within = all.within.1; values = stand-rest s h hs g gs all.values }) in
      let l = more.fits in record {
        fits = omega (arith, l);
        own = record {
          within = (all.within.0, more.own.within);
          values = stand-both s h (handles_at handles (take n places)) g (values_of r qs) (stand-first s h hs g gs all.values) more.own.values;
        };
        others = more.others;
      }

pub hold-later : {R Q : Type 0} (s : State Meant R) (t : State Meant Q) (r : GameRules) (handles places : List ℕ)
    (ps : List Grid) → Grows (thing_at s) (thing_at t) → HoldAt s r handles places ps → HoldAt t r handles places ps
hold-later s t r handles places ps grows all = record {
  within = all.within;
  values = stand_later s t grows (handles_at handles places) (values_of r ps) all.values;
}
