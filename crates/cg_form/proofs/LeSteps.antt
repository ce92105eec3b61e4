-- The steps of the code that decides the order.
use Rattle.std.proofs.Common.{◌≡◌, refl, ℕ, ◌+◌, ◌<◌, arith, zero, suc, ap, sym, ◌∙◌, List, [], ◌∷◌, Bool, true, false, not, ◌&&◌, IsTrue}
use Rattle.std.proofs.Common.{get_or, take, length}
use Rattle.cg_form.specs.declared.form.Form.{Form}
use Rattle.cg_form.specs.declared.form.Form.TheVariants.{Num, Node}
use Rattle.cg_dyadic.specs.Number.{Number, number_le}
use Rattle.cg_form.specs.Forms.{game_of, games_of}
use Rattle.cg_form.specs.Game.{Game, node, number, rights}
use Rattle.cg_form.specs.Order.{le, no_one}
use Rattle.cg_form.proofs.Among.{lefts-node, rights-node}
use Rattle.cg_form.proofs.Cut.{same_when}
use Rattle.cg_form.proofs.FormLists.{no_one-more}
use Rattle.cg_form.proofs.Numbers.{le-numbers, numbers-le}
use Rattle.cg_form.proofs.Order.{le-options}

pub le_of_numbers : (x y : Number) → number_le x y ≡ le (number x) (number y)
le_of_numbers x y = same_when (number_le x y) (le (number x) (number y)) (numbers-le x y) (le-numbers x y)

pub le_of_nodes : (al ar bl br : List Game) →
    le (node al ar) (node bl br) ≡ (no_one (λ a. le (node bl br) a) al && no_one (λ b. le b (node al ar)) br)
le_of_nodes al ar bl br =
    le-options (node al ar) (node bl br)
    ∙ ap (λ gs. no_one (λ a. le (node bl br) a) gs && no_one (λ b. le b (node al ar)) (rights (node bl br)))
    (lefts-node al ar)
    ∙ ap (λ gs. no_one (λ a. le (node bl br) a) al && no_one (λ b. le b (node al ar)) gs) (rights-node bl br)

pub numbers_returns : (f g : Form) (x y : Number) (r : Bool) → f ≡ Num x → g ≡ Num y → r ≡ number_le x y
    → r ≡ le (game_of f) (game_of g)
numbers_returns f g x y r e h k =
    k ∙ le_of_numbers x y ∙ ap (λ z. le (game_of z) (number y)) (sym e) ∙ ap (λ z. le (game_of f) (game_of z)) (sym h)

pub nodes_returns : (f g : Form) (al ar bl br : List Game) (u v : Bool) → f ≡ Node al ar → g ≡ Node bl br
    → u ≡ no_one (λ a. le (game_of g) a) al → v ≡ no_one (λ b. le b (game_of f)) br
    → (u && v) ≡ le (game_of f) (game_of g)
nodes_returns f g al ar bl br u v e h p q =
    ap (λ z. z && v) (p ∙ ap (λ z. no_one (λ a. le (game_of z) a) al) h)
    ∙ ap (λ z. no_one (λ a. le (node bl br) a) al && z) (q ∙ ap (λ z. no_one (λ b. le b (game_of z)) br) e)
    ∙ sym (le_of_nodes al ar bl br)
    ∙ ap (λ z. le (game_of z) (node bl br)) (sym e) ∙ ap (λ z. le (game_of f) (game_of z)) (sym h)

and_first : (u v : Bool) → u ≡ true → (u && v) ≡ v
and_first true v e = refl
and_first false v e = absurd (cc)

and_false : (u v : Bool) → u ≡ false → (u && v) ≡ u
and_false true v e = absurd (cc)
and_false false v e = refl

pub nodes_then : (f g : Form) (al ar bl br : List Game) (u v : Bool) → f ≡ Node al ar → g ≡ Node bl br
    → u ≡ no_one (λ a. le (game_of g) a) al → u ≡ true → v ≡ no_one (λ b. le b (game_of f)) br
    → v ≡ le (game_of f) (game_of g)
nodes_then f g al ar bl br u v e h p t q = sym (and_first u v t) ∙ nodes_returns f g al ar bl br u v e h p q

pub nodes_else : (f g : Form) (al ar bl br : List Game) (u : Bool) → f ≡ Node al ar → g ≡ Node bl br
    → u ≡ no_one (λ a. le (game_of g) a) al → u ≡ false → u ≡ le (game_of f) (game_of g)
nodes_else f g al ar bl br u e h p t =
    sym (and_false u (no_one (λ b. le b (game_of f)) br) t)
    ∙ nodes_returns f g al ar bl br u (no_one (λ b. le b (game_of f)) br) e h p refl

-- ---- over a list

no_one_hit : (t : Game → Bool) (fs : List Form) (i : ℕ) (d : Form) → i < length fs
    → IsTrue (t (game_of (get_or fs i d))) → no_one t (games_of fs) ≡ false
no_one_hit t [] i d h k = absurd (omega arith)
no_one_hit t (f ∷ fs) zero d h k = ap (λ b. not b && no_one t (games_of fs)) k
no_one_hit t (f ∷ fs) (suc i) d h k =
    ap (λ b. not (t (game_of f)) && b) (no_one_hit t fs i d (omega arith) k) ∙ and_no (not (t (game_of f)))
  where
    and_no : (b : Bool) → (b && false) ≡ false
    and_no true = refl
    and_no false = refl

pub hit_returns : (t : Game → Bool) (fs : List Form) (os : List Game) (i : ℕ) (f : Form) (r : Bool) → i < length fs
    → f ≡ get_or fs i f
    → games_of fs ≡ os → r ≡ t (game_of f) → r ≡ true → false ≡ no_one t os
hit_returns t fs os i f r h e g k l =
    sym (no_one_hit t fs i f h (sym (ap (λ z. t (game_of z)) e) ∙ sym k ∙ l)) ∙ ap (no_one t) g

pub miss_more : (t : Game → Bool) (fs : List Form) (i : ℕ) (f : Form) (r : Bool) → i < length fs → f ≡ get_or fs i f
    → no_one t (games_of (take i fs)) ≡ true → r ≡ t (game_of f) → r ≡ false
    → no_one t (games_of (take (i + 1) fs)) ≡ true
miss_more t fs i f r h e p k l =
    ap (λ n. no_one t (games_of (take n fs))) a
    ∙ no_one-more t fs i f h
    ∙ ap (λ b. b && not (t (game_of (get_or fs i f)))) p
    ∙ ap not (sym (ap (λ z. t (game_of z)) e) ∙ sym k ∙ l)
  where
    a : i + 1 ≡ suc i
    a = omega arith
