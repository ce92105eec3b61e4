-- The steps of a multiple, made one after another.
use Rattle.std.proofs.Common.{◌≡◌, ℕ, zero, suc, ◌+◌, ◌-◌, ◌≤◌, ◌<◌, pos, arith, refl, ap, sym, ◌∙◌, subst, List, [], ◌∷◌, ◌++◌, append_assoc, Result, Ok, Err}
use Rattle.std.specs.Prelude.{IfOk}
use Rattle.std.proofs.lemmas.List.{append-nil}
use Rattle.cg_canon.proofs.Keeping.{keeps_all, keeps_then}
use Rattle.cg_canon.proofs.ItemLaws.{all_pass-none}
use Rattle.cg_canon.specs.Items.{AllPass, Item, made as form_item}
use Rattle.cg_canon.specs.Works.{Keeps}
use Rattle.cg_canon.specs.declared.fault.ValueFault.{ValueFault}
use Rattle.cg_canon.specs.declared.rest.WorkRest.{WorkRest}
use Rattle.cg_cells.specs.Store.{State}
use Rattle.cg_dyadic.specs.Number.{Number, whole}
use Rattle.cg_form.specs.Canonical.{Canonical}
use Rattle.cg_form.specs.Game.{Game, number}
use Rattle.cg_form.specs.Multiple.{multiple}
use Rattle.cg_form.specs.Sum.{sum}
use Rattle.cg_nodes.proofs.Later.{game_later, is_game_later, stands_game, stands_is_game}
use Rattle.cg_nodes.specs.Can.{can}
use Rattle.cg_nodes.specs.Games.{IsGame, StandsFor, game_at}
use Rattle.cg_nodes.specs.Meant.{Meant}
use Rattle.cg_canon.specs.SumItems.{sum_items}
use Rattle.cg_sum.specs.Lists.{multiple_items, step_items}
use Rattle.cg_canon.specs.Made.{Gives, ItemsMade}
use Rattle.cg_canon.proofs.MadeSteps.{made_as, made_then, passed, stopped}
use Rattle.cg_sum.proofs.SumEnds.{gives_refused}
use Rattle.cg_sum.proofs.Sums.{can-multiple_more, can-multiple_one, can-multiple_zero}

-- ---- the list

pub one_step : (limit : ℕ) (g : Game) → multiple_items limit 1 g ≡ []
unfolding step_items
one_step limit g = refl

step_more : (limit n : ℕ) (g : Game) → 1 ≤ n
    → multiple_items limit (suc n) g ≡ multiple_items limit n g ++ sum_items limit (can (multiple n g)) g
unfolding step_items
step_more limit zero g h = absurd (omega arith)
step_more limit (suc n) g h = refl

-- more steps extend the list
step_later : (limit n d : ℕ) (g : Game) → 1 ≤ n
    → (rest : List Item) × (multiple_items limit (n + d) g ≡ multiple_items limit n g ++ rest)
step_later limit n zero g h =
    ([], ap (λ k. multiple_items limit k g) (let e : n + 0 ≡ n = omega arith in e) ∙ sym (append-nil (multiple_items limit n g)))
step_later limit n (suc d) g h =
    let (rest, e) = step_later limit n d g h in
    let more : List Item = sum_items limit (can (multiple (n + d) g)) g in (
      rest ++ more,
      ap (λ k. multiple_items limit k g) (let p : n + suc d ≡ suc (n + d) = omega arith in p)
          ∙ (step_more limit (n + d) g (omega arith)
          ∙ (ap (λ z. z ++ more) e ∙ append_assoc (multiple_items limit n g) rest more)),
    )

list_later : (limit n m : ℕ) (g : Game) → 1 ≤ n → n ≤ m
    → (rest : List Item) × (multiple_items limit m g ≡ multiple_items limit n g ++ rest)
list_later limit n m g h l =
    let d : (d : ℕ) × (n + d ≡ m) = difference n m l in
    let (rest, e) = step_later limit n d.0 g h in
    (rest, ap (λ k. multiple_items limit k g) (sym d.1) ∙ e)
  where
    difference : (a b : ℕ) → a ≤ b → (d : ℕ) × (a + d ≡ b)
    difference a b l = (b - a, omega arith)

-- ---- the steps

-- total is n copies of the game of a, and the steps up to it were made
pub record StepsMade {R : Type 0} (w v : State Meant (WorkRest R)) (a total n : ℕ) : Type 0 where
  pub keeps : Keeps w v
  pub passed : AllPass w.rest.share w.rest.spent (multiple_items w.rest.limit n (game_at w a)) v.rest.spent
  pub stands : StandsFor v total (can (multiple n (game_at w a)))
  pub spare : w.spare ≤ v.spare

module _ {R : Type 0} (w : State Meant (WorkRest R)) (a : ℕ) (ga : IsGame w a) where
  pub steps_none : Canonical (game_at w a) → StepsMade w w a a 1
  steps_none c =
      let g : Game = game_at w a in
      record {
        keeps = keeps_all w;
        passed = rw (one_step w.rest.limit g) (all_pass-none w.rest.share w.rest.spent);
        stands = rw (can-multiple_one g c) ga;
        spare = omega arith;
      }

  module _ (v : State Meant (WorkRest R)) (total n : ℕ) (positive : 1 ≤ n) (done : StepsMade w v a total n) where
    pub step_game_a : IsGame v a
    step_game_a = is_game_later w v done.keeps.known a ga

    pub step_game_total : IsGame v total
    step_game_total = stands_is_game v total (can (multiple n (game_at w a))) done.stands

    both_same : (f : ℕ → Game → Game → List Item)
        → f v.rest.limit (game_at v total) (game_at v a)
        ≡ f w.rest.limit (can (multiple n (game_at w a))) (game_at w a)
    both_same f =
        let g : Game = game_at w a in
        ap (λ k. f k (game_at v total) (game_at v a)) done.keeps.limit
        ∙ (ap (λ z. f w.rest.limit z (game_at v a)) (stands_game v total (can (multiple n g)) done.stands)
        ∙ ap (λ z. f w.rest.limit (can (multiple n g)) z) (game_later w v done.keeps.known a ga))

    next_list : multiple_items w.rest.limit n (game_at w a)
        ++ sum_items w.rest.limit (can (multiple n (game_at w a))) (game_at w a)
        ≡ multiple_items w.rest.limit (n + 1) (game_at w a)
    next_list =
        sym (ap (λ k. multiple_items w.rest.limit k (game_at w a)) (let e : n + 1 ≡ suc n = omega arith in e)
        ∙ step_more w.rest.limit n (game_at w a) positive)

    items_made : {T : Type 0} (x : State Meant (WorkRest R)) (r : Result T ValueFault)
        → ItemsMade v x (sum_items v.rest.limit (game_at v total) (game_at v a)) r
        → ItemsMade w x (multiple_items w.rest.limit (n + 1) (game_at w a)) r
    items_made x r step =
        let g : Game = game_at w a in
        made_as w x (multiple_items w.rest.limit n g ++ sum_items w.rest.limit (can (multiple n g)) g) (multiple_items w.rest.limit (n + 1) g) r next_list
        (made_then w v x (multiple_items w.rest.limit n g) (sum_items w.rest.limit (can (multiple n g)) g) r done.passed done.keeps
        (made_as v x (sum_items v.rest.limit (game_at v total) (game_at v a))
        (sum_items w.rest.limit (can (multiple n g)) g) r (both_same sum_items) step))

    pub steps_stopped : {T : Type 0} (x : State Meant (WorkRest R)) (count : ℕ) → n < count → (r : Result T ValueFault)
        (q : Result ℕ ValueFault) (e : ValueFault) → r ≡ Err e → q ≡ Err e
        → ItemsMade v x (sum_items v.rest.limit (game_at v total) (game_at v a)) r → v.spare ≤ x.spare
        → Gives w x (multiple_items w.rest.limit count (game_at w a)) (can (multiple count (game_at w a))) q
    steps_stopped x count l r q e p b step spare =
        let g : Game = game_at w a in
        let before = done.spare in
        let (rest, is) = list_later w.rest.limit (n + 1) count g (omega arith) (omega arith) in
        gives_refused w x _ _ q e b (made_as w x (multiple_items w.rest.limit (n + 1) g ++ rest)
        (multiple_items w.rest.limit count g) q (sym is)
        (stopped w x (multiple_items w.rest.limit (n + 1) g) rest r q e p b (items_made x r step))) (omega arith)

    pub steps_more : (x : State Meant (WorkRest R)) (r : Result ℕ ValueFault) (h : ℕ) → r ≡ Ok h
        → Gives v x (sum_items v.rest.limit (game_at v total) (game_at v a)) (can (sum (game_at v total) (game_at v a))) r
        → StepsMade w x a h (n + 1)
    steps_more x r h ok step =
        let g : Game = game_at w a in
        let P : Game → Type 0 = λ z. StandsFor x h z in
        let Q : Result ℕ ValueFault → Type 0 = λ z. IfOk z (λ k. StandsFor x k (can (sum (game_at v total) (game_at v a)))) in
        let before = done.spare in
        let total_is : can (sum (game_at v total) (game_at v a)) ≡ can (multiple (n + 1) g) =
        ap (λ z. can (sum z (game_at v a))) (stands_game v total (can (multiple n g)) done.stands)
        ∙ (ap (λ z. can (sum (can (multiple n g)) z)) (game_later w v done.keeps.known a ga)
        ∙ (can-multiple_more n g ∙ ap (λ k. can (multiple k g)) (let e : suc n ≡ n + 1 = omega arith in e))) in
        record {
          keeps = keeps_then w v x done.keeps step.made.keeps;
          passed = passed w x (multiple_items w.rest.limit (n + 1) g) r h ok (items_made x r step.made);
          stands = subst P total_is (subst Q ok step.game);
          spare = omega (arith, step.more);
        }

-- ---- none at all

pub zero_given : {R : Type 0} (w x : State Meant (WorkRest R)) (a n : ℕ) (z : Number) (r : Result ℕ ValueFault) → z ≡ whole (pos 0)
    → n ≡ 0 → Gives w x (form_item (number z) 0 ∷ []) (number z) r
    → Gives w x (multiple_items w.rest.limit n (game_at w a)) (can (multiple n (game_at w a))) r
zero_given w x a n z r is none given =
    rw none (rw (can-multiple_zero (game_at w a)) (rw (← is) given))

-- ---- the end

pub same_count : (n count : ℕ) → 1 ≤ count → count ≤ n → (1 ≤ count → n ≤ count) → n ≡ count
same_count n count some l up = let u : n ≤ count = up some in omega arith

pub steps_given : {R : Type 0} (w v : State Meant (WorkRest R)) (a total n count : ℕ) → n ≡ count → StepsMade w v a total n
    → Gives w v (multiple_items w.rest.limit count (game_at w a)) (can (multiple count (game_at w a))) (Ok total)
steps_given w v a total n count e done =
    rw (← e) (record {
      game = done.stands;
      made = record { charged = done.passed; refused = tt; keeps = done.keeps };
      more = done.spare;
    })
