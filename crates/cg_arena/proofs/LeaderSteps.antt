-- The cuts and the depth of a list of indexes, and what they say of the game of two lists.
use Rattle.std.proofs.Common.{◌≡◌, refl, ℕ, ◌+◌, ◌<◌, ◌≤◌, arith, suc, ap, sym, ◌∙◌, subst, inl, inr, max}
use Rattle.std.proofs.Common.{Option, Some, List, [], ◌∷◌, ◌++◌, get_or, length, take, Bool, true, false, not}
use Rattle.cg_dyadic.specs.Cut.{in_gap, in_cut}
use Rattle.cg_dyadic.specs.Number.{Number}
use Rattle.cg_dyadic.specs.Simplest.{NoOptionPasses, NonePasses}
use Rattle.cg_dyadic.specs.declared.cut.Cut.{Cut}
use Rattle.cg_dyadic.proofs.Truth.{false-from, not_true}
use Rattle.cg_form.specs.Cut.{AnyNumber, CutOf}
use Rattle.cg_form.specs.Depth.{deepest, depth_of}
use Rattle.cg_form.specs.Game.{Among, Game, node, number}
use Rattle.cg_form.specs.Order.{Equal, no_one}
use Rattle.cg_form.specs.Side.{at_most}
use Rattle.cg_form.specs.Simple.{NoNumber}
use Rattle.cg_form.specs.Canonical.{IsCanonicalForm}
use Rattle.cg_form.proofs.Cut.{any-closed, same_when}
use Rattle.cg_form.proofs.CutSteps.{gap_misses, gap_value}
use Rattle.cg_form.proofs.Order.{no_one-all, no_one-each}
use Rattle.cg_form.proofs.Simplicity.{equal-fits}
use Rattle.cg_form.proofs.Unique.{canonical_form-same}
use Rattle.cg_arena.specs.declared.summary.Summary.{Summary}
use Rattle.cg_arena.specs.declared.canonicalizing.NewForm.{NewForm}
use Rattle.cg_arena.specs.Arena.{AreIndexes, IsIndex, game_of, games_of}
use Rattle.cg_arena.specs.Summaries.{HasCuts, IsSummary, chosen_cut}
use Rattle.cg_arena.specs.Canonicalized.{IsNewForm}
use Rattle.cg_arena.specs.Decided.{NoFurther}
use Rattle.cg_arena.proofs.Profiling.{deepest-last, equal_cuts, summary_cut}
use Rattle.cg_arena.proofs.Slices.{games_take_all, games_take_suc, item_among, index_of_item}
use Rattle.cg_arena.proofs.Undominating.{among_last}

-- ---- the option that reaches furthest

next_games : (gs : List Game) (ps : List ℕ) (i : ℕ) → i < length ps
    → games_of gs (take (i + 1) ps) ≡ games_of gs (take i ps) ++ game_of gs (get_or ps i 0) ∷ []
next_games gs ps i l =
    let one : i + 1 ≡ suc i = omega arith in
    ap (λ n. games_of gs (take n ps)) one ∙ games_take_suc gs ps i 0 l

-- the game is one of the list, and none that was seen reaches past it
pub record Leads (s : Bool) (all seen : List Game) (g : Game) : Type 0 where
  pub inside : Among g all
  pub no_further : (c : Game) → Among c seen → NoFurther s c g

-- the index is that of the option that reaches furthest among the first ones
abbrev pub IsLeader : List Game → Bool → List ℕ → ℕ → ℕ → Type 0
IsLeader gs s ps i index = IsIndex gs index × Leads s (games_of gs ps) (games_of gs (take i ps)) (game_of gs index)

leads_next : (gs : List Game) (s : Bool) (ps : List ℕ) (i : ℕ) (g h : Game) → i < length ps
    → Leads s (games_of gs ps) (games_of gs (take i ps)) g → Among h (games_of gs ps) → NoFurther s g h
    → NoFurther s (game_of gs (get_or ps i 0)) h → Leads s (games_of gs ps) (games_of gs (take (i + 1) ps)) h
leads_next gs s ps i g h l so_far inside past own =
    rw (next_games gs ps i l) (record {
      inside = inside;
      no_further = λ c m. elim (among_last c (game_of gs (get_or ps i 0)) (games_of gs (take i ps)) m) [
        | inl k ↦ (λ x t. past x (so_far.no_further c k x t))
        | inr e ↦ (rw e own)
      ];
    })

pub next_leads : (gs : List Game) (s : Bool) (ps : List ℕ) (i index k next : ℕ) → i < length ps → AreIndexes gs ps
    → IsLeader gs s ps i index → k ≡ get_or ps i 0 → NoFurther s (game_of gs index) (game_of gs k) → next ≡ k
    → IsLeader gs s ps (i + 1) next
next_leads gs s ps i index k next l a h is furthest e =
    let own = get_or ps i 0 in
    let P : ℕ → Type 0 = λ z. NoFurther s (game_of gs index) (game_of gs z) in
    let past = subst P is furthest in
    rw (e ∙ is) (
      index_of_item gs ps i own a l refl,
      leads_next gs s ps i (game_of gs index) (game_of gs own) l h.1 (item_among gs ps i own l refl) past (λ x t. t),
    )

pub still_leads : (gs : List Game) (s : Bool) (ps : List ℕ) (i index k next : ℕ) → i < length ps → IsLeader gs s ps i index
    → k ≡ get_or ps i 0 → NoFurther s (game_of gs k) (game_of gs index) → next ≡ index → IsLeader gs s ps (i + 1) next
still_leads gs s ps i index k next l h is own e =
    let g = game_of gs index in
    let P : ℕ → Type 0 = λ z. NoFurther s (game_of gs z) g in
    rw e (h.0, leads_next gs s ps i g g l h.1 h.1.inside (λ x t. t) (subst P is own))

furthest_cut : (s : Bool) (gs : List Game) (g : Game) (p : Summary) (c : Cut) → Leads s gs gs g → IsSummary g p
    → c ≡ chosen_cut s p.low p.high → CutOf AnyNumber s (Some c) gs
furthest_cut s gs g p c h k e = record {
  tells = λ x y.
      same_when (no_one (λ a. at_most s (number x) a) gs) (not (at_most s (number x) g))
      (λ n. ap not (no_one-each (λ a. at_most s (number x) a) gs n g h.inside))
      (λ n. no_one-all (λ a. at_most s (number x) a) gs (λ a m. false-from (at_most s (number x) a) (λ t.
      not_true (at_most s (number x) g) n (h.no_further a m x t))))
      ∙ ap not ((summary_cut s g p k).tells x y) ∙ ap (λ z. not (in_cut s z x)) (sym e);
}

-- its cut is that of the list
pub leader_cut : (gs : List Game) (s : Bool) (ps : List ℕ) (i index : ℕ) (p : Summary) (c : Cut) → length ps ≤ i
    → IsLeader gs s ps i index → IsSummary (game_of gs index) p → c ≡ chosen_cut s p.low p.high
    → CutOf AnyNumber s (Some c) (games_of gs ps)
leader_cut gs s ps i index p c l h k e =
    let P : List Game → Type 0 = λ z. Leads s (games_of gs ps) z (game_of gs index) in
    furthest_cut s (games_of gs ps) (game_of gs index) p c (subst P (games_take_all gs ps i l) h.1) k e

-- ---- the greatest depth

pub deepest_next : (gs : List Game) (ps : List ℕ) (i own : ℕ) (p : Summary) (m n : ℕ) → i < length ps
    → m ≡ deepest (games_of gs (take i ps)) → own ≡ get_or ps i 0 → IsSummary (game_of gs own) p → n ≡ max p.depth m
    → n ≡ deepest (games_of gs (take (i + 1) ps))
deepest_next gs ps i own p m n l so_far is known e =
    let P : ℕ → Type 0 = λ z. IsSummary (game_of gs z) p in
    let k = subst P is known in
    let d = deepest-last (games_of gs (take i ps)) (game_of gs (get_or ps i 0)) in
    let f : n ≡ max (deepest (games_of gs (take i ps))) (depth_of (game_of gs (get_or ps i 0))) = omega (arith, k.depth) in
    f ∙ sym d ∙ sym (ap deepest (next_games gs ps i l))

-- ---- the game of two lists

-- the number between the cuts is the canonical form
pub number_case : (ls rs : List Game) (o q : Option Cut) (x : Number) → CutOf AnyNumber true o ls → CutOf AnyNumber false q rs
    → NoOptionPasses (in_gap o q) x → (form : Game) → IsCanonicalForm (node ls rs) form → form ≡ number x
number_case ls rs o q x l h k form f =
    canonical_form-same (node ls rs) form (number x) f (record { canonical = tt; equal = gap_value AnyNumber any-closed ls rs o q l h x tt k })

-- no number lies between the cuts
pub nothing_case : (ls rs : List Game) (o q : Option Cut) → CutOf AnyNumber true o ls → CutOf AnyNumber false q rs
    → NonePasses (in_gap o q) → NoNumber (node ls rs)
nothing_case ls rs o q l h k x e = gap_misses AnyNumber ls rs o q l h (λ y p. k y) x tt (equal-fits x (node ls rs) e)

-- an equal game makes the same cuts
pub cuts_at : (gs : List Game) (g : Game) (p : Summary) (us vs ls rs : List ℕ) → Equal (node (games_of gs ls) (games_of gs rs)) g
    → us ≡ ls → vs ≡ rs → HasCuts g p → HasCuts (node (games_of gs us) (games_of gs vs)) p
cuts_at gs g p us vs ls rs equal e f h =
    rw (ap (λ z. node (games_of gs z) (games_of gs vs)) e ∙ ap (λ z. node (games_of gs ls) (games_of gs z)) f)
    (equal_cuts g (node (games_of gs ls) (games_of gs rs)) p equal h)

pub new_form : (gs : List Game) (g : Game) (new : NewForm) (us vs : List ℕ) → AreIndexes gs new.form.lefts.items
    → AreIndexes gs new.form.rights.items
    → IsCanonicalForm g (node (games_of gs new.form.lefts.items) (games_of gs new.form.rights.items))
    → us ≡ new.form.lefts.items → vs ≡ new.form.rights.items → IsSummary (node (games_of gs us) (games_of gs vs)) new.summary
    → (form : Game) → IsCanonicalForm g form → IsNewForm gs form new
new_form gs g new us vs a b c e f h form k =
    let own : Game = node (games_of gs new.form.lefts.items) (games_of gs new.form.rights.items) in
    let is : form ≡ own = canonical_form-same g form own k c in
    record {
      lefts = a;
      rights = b;
      is = is;
      summary = rw (← (ap (λ z. node (games_of gs z) (games_of gs vs)) e ∙ ap (λ z. node (games_of gs new.form.lefts.items) (games_of gs z)) f ∙ sym is)) h;
    }
