-- Searches through lists of indexes.
use Rattle.std.proofs.Common.{◌≡◌, refl, ℕ, zero, suc, ◌+◌, ◌<◌, ◌≤◌, arith, ap, sym, ◌∙◌, List, []}
use Rattle.std.proofs.Common.{◌∷◌, ◌++◌, ◌-◌, take, drop, get_or, length, length-append, Bool, true, false, not, ◌&&◌, inl, inr}
use Rattle.std.specs.List.{Contains, slice_range}
use Rattle.std.proofs.Math.Seq.{drop-append_seam, take-append_seam, take-suc}
use Rattle.std.proofs.lemmas.List.{drop-append-le, get_or_append_left, get_or_default, length-drop, map-append, take-append-le, take_all}
use Rattle.std.proofs.lemmas.List.Elements.{All-push, Contains-append_right, Contains-get_or}
use Rattle.cg_form.specs.Game.{Among, Game, node}
use Rattle.cg_form.specs.Order.{no_one}
use Rattle.cg_arena.specs.Arena.{AreIndexes, IsIndex, game_of, games_of}
use Rattle.cg_arena.proofs.Profiling.{no_one-last}

-- an item, read with another default
pub item_is : (ps : List ℕ) (i k : ℕ) → k ≡ get_or ps i k → i < length ps → k ≡ get_or ps i 0
item_is ps i k e l = e ∙ get_or_default ps i k 0 l

pub index_of_item : (gs : List Game) (ps : List ℕ) (i k : ℕ) → AreIndexes gs ps → i < length ps → k ≡ get_or ps i 0 → IsIndex gs k
index_of_item gs ps i k a h e = rw e (a i 0 h)

pub games_take_suc : (gs : List Game) (ps : List ℕ) (i d : ℕ) → i < length ps
    → games_of gs (take (suc i) ps) ≡ games_of gs (take i ps) ++ game_of gs (get_or ps i d) ∷ []
games_take_suc gs ps i d h = ap (games_of gs) (take-suc ps i d h) ∙ map-append (game_of gs) (take i ps) (get_or ps i d ∷ [])

pub games_take_all : (gs : List Game) (ps : List ℕ) (i : ℕ) → length ps ≤ i → games_of gs (take i ps) ≡ games_of gs ps
games_take_all gs ps i h = ap (games_of gs) (take_all i ps h)

-- no index up to this one passes
pub slice_miss : (gs : List Game) (p : Game → Bool) (ps : List ℕ) (i k : ℕ) → i < length ps → k ≡ get_or ps i 0
    → no_one p (games_of gs (take i ps)) ≡ true → p (game_of gs k) ≡ false → no_one p (games_of gs (take (i + 1) ps)) ≡ true
slice_miss gs p ps i k h e n f =
    let one : i + 1 ≡ suc i = omega arith in
    ap (λ n. no_one p (games_of gs (take n ps))) one
    ∙ ap (no_one p) (games_take_suc gs ps i 0 h)
    ∙ ap (λ z. no_one p (games_of gs (take i ps) ++ game_of gs z ∷ [])) (sym e)
    ∙ no_one-last p (games_of gs (take i ps)) (game_of gs k)
    ∙ ap (λ z. z && not (p (game_of gs k))) n ∙ ap not f

-- this index passes
pub slice_hit : (gs : List Game) (p : Game → Bool) (ps : List ℕ) (i k : ℕ) → i < length ps → k ≡ get_or ps i 0
    → p (game_of gs k) ≡ true → no_one p (games_of gs ps) ≡ false
slice_hit gs p [] i k h e f = absurd (omega arith)
slice_hit gs p (m ∷ ps) zero k h e f =
    ap (λ z. not (p (game_of gs z)) && no_one p (games_of gs ps)) (sym e)
    ∙ ap (λ z. not z && no_one p (games_of gs ps)) f
slice_hit gs p (m ∷ ps) (suc i) k h e f =
    ap (λ z. not (p (game_of gs m)) && z) (slice_hit gs p ps i k (omega arith) e f) ∙ and_false (not (p (game_of gs m)))
  where
    and_false : (b : Bool) → (b && false) ≡ false
    and_false true = refl
    and_false false = refl

pub item_among : (gs : List Game) (ps : List ℕ) (i k : ℕ) → i < length ps → k ≡ get_or ps i 0 → Among (game_of gs k) (games_of gs ps)
item_among gs [] i k h e = absurd (omega arith)
item_among gs (m ∷ ps) zero k h e = inl (ap (game_of gs) e)
item_among gs (m ∷ ps) (suc i) k h e = inr (item_among gs ps i k (omega arith) e)

-- ---- an index more at the end

pub games_pushed : (gs : List Game) (ps qs : List ℕ) (p : ℕ) → qs ≡ ps ++ p ∷ [] → games_of gs qs ≡ games_of gs ps ++ game_of gs p ∷ []
games_pushed gs ps qs p e = ap (games_of gs) e ∙ map-append (game_of gs) ps (p ∷ [])

pub indexes_pushed : (gs : List Game) (ps qs : List ℕ) (p : ℕ) → AreIndexes gs ps → IsIndex gs p → qs ≡ ps ++ p ∷ [] → AreIndexes gs qs
indexes_pushed gs ps qs p a l e =
    rw e (All-push (IsIndex gs) ps p a l)

-- ---- the games at indexes

pub member_of : (gs : List Game) (ps : List ℕ) (g : Game) → Among g (games_of gs ps) → (p : ℕ) × Contains ps p × (g ≡ game_of gs p)
member_of gs [] g m = absurd m
member_of gs (p ∷ ps) g (inl e) = (p, Contains-get_or (p ∷ ps) 0 p (omega arith), e)
member_of gs (p ∷ ps) g (inr m) = let (q, k, e) = member_of gs ps g m in (q, Contains-append_right (p ∷ []) ps q k, e)

pub game_there : (gs : List Game) (ps : List ℕ) (p : ℕ) → Contains ps p → Among (game_of gs p) (games_of gs ps)
game_there gs ps p m = item_among gs ps m.0 p m.1 (sym (get_or_default ps m.0 0 p m.1 ∙ m.2))

-- ---- more games behind

pub game_before : (gs hs : List Game) (p : ℕ) → IsIndex gs p → game_of (gs ++ hs) p ≡ game_of gs p
game_before gs hs p h = get_or_append_left gs hs (node [] []) p h

pub index_before : (gs hs : List Game) (p : ℕ) → IsIndex gs p → IsIndex (gs ++ hs) p
index_before gs hs p h = let e = length-append gs hs in omega arith

pub games_before : (gs hs : List Game) (ps : List ℕ) → AreIndexes gs ps → games_of (gs ++ hs) ps ≡ games_of gs ps
games_before gs hs [] a = refl
games_before gs hs (p ∷ ps) a =
    ap (λ z. z ∷ games_of (gs ++ hs) ps) (game_before gs hs p (a zero 0 (omega arith)))
    ∙ ap (λ z. game_of gs p ∷ z) (games_before gs hs ps (λ k d h. a (suc k) d (omega arith)))

pub indexes_before : (gs hs : List Game) (ps : List ℕ) → AreIndexes gs ps → AreIndexes (gs ++ hs) ps
indexes_before gs hs ps a = λ k d h. index_before gs hs (get_or ps k d) (a k d h)

-- ---- ranges of a list

pub range_before : (opts more : List ℕ) (a b : ℕ) → a ≤ b → b ≤ length opts → slice_range (opts ++ more) a b ≡ slice_range opts a b
range_before opts more a b l h =
    let n = length-drop a opts in
    ap (take (b - a)) (drop-append-le a opts more (omega arith)) ∙ take-append-le (b - a) (drop a opts) more (omega arith)

pub range_behind : (opts own more : List ℕ) (a b : ℕ) → a ≡ length opts → b ≡ a + length own → slice_range (opts ++ (own ++ more)) a b ≡ own
range_behind opts own more a b e f =
    ap (λ z. take (b - a) (drop z (opts ++ (own ++ more)))) e ∙ ap (take (b - a)) (drop-append_seam opts (own ++ more))
    ∙ ap (λ z. take z (own ++ more)) (omega arith) ∙ take-append_seam own more

pub range_none : (opts : List ℕ) (a b : ℕ) → a ≡ b → slice_range opts a b ≡ []
range_none opts a b e = let z : b - a ≡ 0 = omega arith in ap (λ k. take k (drop a opts)) z
