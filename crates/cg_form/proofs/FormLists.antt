-- Lists of forms, seen as lists of games.
use Rattle.std.proofs.Common.{◌≡◌, refl, ℕ, ◌+◌, ◌≤◌, ◌<◌, arith, zero, suc, inl, inr, ap, sym, ◌∙◌, List, [], ◌∷◌, ◌++◌, Bool, true, false, not, ◌&&◌}
use Rattle.std.proofs.Common.{get_or, take, drop, length}
use Rattle.cg_form.specs.declared.form.Form.{Form}
use Rattle.cg_form.specs.declared.form.Form.TheVariants.{Node}
use Rattle.cg_form.specs.Forms.{game_of, games_of}
use Rattle.cg_form.specs.Game.{Among, Game}
use Rattle.cg_form.specs.Order.{no_one}
use Rattle.cg_form.specs.Size.{list_size, size}

pub games_of-take_suc : (fs : List Form) (i : ℕ) (f : Form) → i < length fs → f ≡ get_or fs i f
    → games_of (take (suc i) fs) ≡ games_of (take i fs) ++ (game_of f ∷ [])
games_of-take_suc [] i f h e = absurd (omega arith)
games_of-take_suc (k ∷ fs) zero f h e = ap (λ z. game_of z ∷ []) (sym e)
games_of-take_suc (k ∷ fs) (suc i) f h e = ap (λ z. game_of k ∷ z) (games_of-take_suc fs i f (omega arith) e)

pub games_of-append : (fs ks : List Form) → games_of (fs ++ ks) ≡ games_of fs ++ games_of ks
games_of-append [] ks = refl
games_of-append (f ∷ fs) ks = ap (λ z. game_of f ∷ z) (games_of-append fs ks)

pub games_of-all : (fs : List Form) (i : ℕ) → length fs ≤ i → games_of (take i fs) ≡ games_of fs
games_of-all [] zero h = refl
games_of-all [] (suc i) h = refl
games_of-all (f ∷ fs) zero h = absurd (omega arith)
games_of-all (f ∷ fs) (suc i) h = ap (λ z. game_of f ∷ z) (games_of-all fs i (omega arith))

pub games_of-take : (fs : List Form) (i : ℕ) → games_of (take i fs) ≡ take i (games_of fs)
games_of-take [] zero = refl
games_of-take [] (suc i) = refl
games_of-take (f ∷ fs) zero = refl
games_of-take (f ∷ fs) (suc i) = ap (λ z. game_of f ∷ z) (games_of-take fs i)

pub games_of-drop : (fs : List Form) (i : ℕ) → games_of (drop i fs) ≡ drop i (games_of fs)
games_of-drop [] zero = refl
games_of-drop [] (suc i) = refl
games_of-drop (f ∷ fs) zero = refl
games_of-drop (f ∷ fs) (suc i) = games_of-drop fs i

pub length-games_of : (fs : List Form) → length (games_of fs) ≡ length fs
length-games_of [] = refl
length-games_of (f ∷ fs) = ap suc (length-games_of fs)

pub take_drop : (fs : List Form) (i : ℕ) → games_of (take i fs) ++ games_of (drop i fs) ≡ games_of fs
take_drop [] zero = refl
take_drop [] (suc i) = refl
take_drop (f ∷ fs) zero = refl
take_drop (f ∷ fs) (suc i) = ap (λ z. game_of f ∷ z) (take_drop fs i)

pub games_of-with : (fs ks : List Form) (f : Form)
    → games_of (fs ++ (f ∷ ks)) ≡ games_of fs ++ (game_of f ∷ games_of ks)
games_of-with [] ks f = refl
games_of-with (k ∷ fs) ks f = ap (λ z. game_of k ∷ z) (games_of-with fs ks f)

-- ---- one item

pub drop_at : (fs : List Form) (i : ℕ) (f : Form) → i < length fs → f ≡ get_or fs i f
    → games_of (drop i fs) ≡ game_of f ∷ games_of (drop (suc i) fs)
drop_at [] i f h e = absurd (omega arith)
drop_at (k ∷ fs) zero f h e = ap (λ z. game_of z ∷ games_of fs) (sym e)
drop_at (k ∷ fs) (suc i) f h e = drop_at fs i f (omega arith) e

pub among_item : (fs : List Form) (os : List Game) (i : ℕ) (f : Form) → i < length fs → f ≡ get_or fs i f
    → games_of fs ≡ os → Among (game_of f) os
among_item fs os i f h e g = rw g at (item fs i f h e)
  where
    item : (fs : List Form) (i : ℕ) (f : Form) → i < length fs → f ≡ get_or fs i f → Among (game_of f) (games_of fs)
    item [] i f h e = absurd (omega arith)
    item (k ∷ fs) zero f h e = inl (ap game_of e)
    item (k ∷ fs) (suc i) f h e = inr (item fs i f (omega arith) e)

pub size_le_list : (fs : List Form) (i : ℕ) (d : Form) → i < length fs
    → size (game_of (get_or fs i d)) ≤ list_size (games_of fs)
size_le_list [] i d h = absurd (omega arith)
size_le_list (f ∷ fs) zero d h = omega arith
size_le_list (f ∷ fs) (suc i) d h = let ih = size_le_list fs i d (omega arith) in omega arith

-- an option is no larger than its list
pub size_of_item : (fs : List Form) (os : List Game) (i : ℕ) (f : Form) → games_of fs ≡ os → f ≡ get_or fs i f
    → i < length fs → size (game_of f) ≤ list_size os
size_of_item fs os i f g e h =
    let a : size (game_of f) ≡ size (game_of (get_or fs i f)) = ap (λ (x : Form). size (game_of x)) e in
    let b = size_le_list fs i f h in
    let d : list_size (games_of fs) ≡ list_size os = ap list_size g in
    omega arith

-- the measure of a list of options of a node
pub size_of_lists : (f : Form) (ls rs : List Game) → f ≡ Node ls rs
    → size (game_of f) ≡ suc (list_size ls + list_size rs)
size_of_lists f ls rs e = ap (λ (k : Form). size (game_of k)) e

-- ---- tests of one item more

pub no_one-more : (t : Game → Bool) (fs : List Form) (i : ℕ) (d : Form) → i < length fs →
    no_one t (games_of (take (suc i) fs)) ≡ (no_one t (games_of (take i fs)) && not (t (game_of (get_or fs i d))))
no_one-more t [] i d h = absurd (omega arith)
no_one-more t (f ∷ fs) zero d h = and_swap (not (t (game_of f)))
  where
    and_swap : (b : Bool) → (b && true) ≡ (true && b)
    and_swap true = refl
    and_swap false = refl
no_one-more t (f ∷ fs) (suc i) d h =
    let ih = no_one-more t fs i d (omega arith) in
    ap (λ b. not (t (game_of f)) && b) ih
    ∙ and_regroup (not (t (game_of f))) (no_one t (games_of (take i fs))) (not (t (game_of (get_or fs i d))))
  where
    and_regroup : (a b c : Bool) → (a && (b && c)) ≡ ((a && b) && c)
    and_regroup true b c = refl
    and_regroup false b c = refl
