-- A table of forms, to which one is added after another.
use Rattle.std.proofs.Common.{◌≡◌, ℕ, suc, ◌+◌, ◌*◌, ◌%◌, ◌<◌, ◌≤◌, arith, refl, ap, sym, ◌∙◌, List, [], ◌∷◌, ◌++◌, length, map, inl, inr}
use Rattle.std.specs.Prelude.{slice_index}
use Rattle.std.proofs.Math.Nat.{mul-add-mod_self_right, mul-le-mul_right, mod-eq_of_lt}
use Rattle.std.proofs.lemmas.Bool.{cases_lt}
use Rattle.std.proofs.lemmas.List.{get_or_append_left, get_or_push, length_push}
use Rattle.std.proofs.lemmas.List.Elements.{All-map}
use Rattle.std.proofs.lemmas.Nat.{div-mul-add}
use Rattle.std.specs.List.{All}
use Rattle.cg_arena.specs.Arena.{IsIndex, StandFor, game_of, games_of}
use Rattle.cg_canon.specs.Arena.{Begins, IsAt}
use Rattle.cg_form.specs.Game.{Game}
use Rattle.cg_form.specs.Sum.{sum}
use Rattle.cg_nodes.specs.Can.{can}
use Rattle.cg_sum.specs.Progress.{HoldsForms, sum_at_place}
use Rattle.cg_canon.proofs.InternerSteps.{at_later}

module _ (form : ℕ → Game) where
  pub holds_none : (gs : List Game) (table : List ℕ) → table ≡ [] → HoldsForms gs form 0 table
  holds_none gs table e = record { count = ap length e; each = λ m l. absurd (omega (arith, l)) }

  pub holds_later : (gs hs : List Game) → Begins gs hs → (n : ℕ) (table : List ℕ) → HoldsForms gs form n table → HoldsForms hs form n table
  holds_later gs hs b n table h = record { count = h.count; each = λ m l. at_later gs hs _ _ b (h.each m l) }

  pub holds_more : (gs : List Game) (n i k : ℕ) (table more : List ℕ) → HoldsForms gs form n table → IsAt gs i (form n)
      → more ≡ table ++ (i ∷ []) → k ≡ n + 1 → HoldsForms gs form k more
  holds_more gs n i k table more h at e next =
      rw e (record {
        count = length_push table i ∙ ap (λ z. z + 1) h.count ∙ sym next;
        each = λ m l. elim (cases_lt m n) [
          | inl before ↦
              let c = h.count in
              rw (get_or_append_left table (i ∷ []) 0 m (omega arith)) (h.each m before)
          | inr not_before ↦
              let same : n ≡ m = omega arith in
              rw (get_or_push table i 0 m (h.count ∙ same)) (rw (← same) at)
        ];
      })

-- ---- indexes of a table

-- indexes that stand for games made of those of places
pub stand_mapped : (gs : List Game) (F : ℕ → ℕ) (G : ℕ → Game) (ps : List ℕ) → All (λ p. IsAt gs (F p) (G p)) ps
    → StandFor gs (map F ps) (map G ps)
stand_mapped gs F G ps all = (All-map (λ z. IsIndex gs z) F ps (λ k d l. (all k d l).within), games ps all)
  where
    games : (qs : List ℕ) → All (λ p. IsAt gs (F p) (G p)) qs → games_of gs (map F qs) ≡ map G qs
    games [] a = refl
    games (q ∷ qs) a =
        ap (λ z. z ∷ games_of gs (map F qs)) (a 0 q (omega arith)).is
        ∙ ap (λ z. G q ∷ z) (games qs (λ k d l. a (suc k) d (omega (arith, l))))

-- ---- rows

-- the place of a row and a column is before that of another row, or of another column of the same row
pub before_row : (p i n q : ℕ) → p < i → q < n → p * n + q < i * n
before_row p i n q h l =
    let e : suc p * n ≤ i * n = mul-le-mul_right n (let k : suc p ≤ i = omega arith in k) in omega (arith, e)

-- the sum at the place of a row and a column
pub sum_placed : (games : List Game × List Game) (p q : ℕ) → q < length games.1
    → sum_at_place games (p * length games.1 + q) ≡ can (sum (game_of games.0 p) (game_of games.1 q))
sum_placed games p q l =
    let n = length games.1 in
    ap (λ z. can (sum (game_of games.0 z) (game_of games.1 ((p * n + q) % n)))) (div-mul-add p n q l)
    ∙ ap (λ z. can (sum (game_of games.0 p) (game_of games.1 z))) (mul-add-mod_self_right p n q ∙ mod-eq_of_lt l)

-- where an index of the table stands for a form, the place of which is this
pub at_place : (gs : List Game) (form : ℕ → Game) (n : ℕ) (table : List ℕ) → HoldsForms gs form n table → (m k : ℕ) (g : Game)
    → k ≡ m → m < n → form m ≡ g → IsAt gs (slice_index table k) g
at_place gs form n table h m k g e l f =
    rw e (rw (← f) (h.each m l))
