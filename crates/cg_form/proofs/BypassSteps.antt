-- The steps of the code that bypasses options.
use Rattle.std.proofs.Common.{◌≡◌, refl, ℕ, ◌+◌, ◌≤◌, ◌<◌, arith, suc, inl, inr, ap, sym, ◌∙◌, List, [], ◌∷◌, ◌++◌, Bool, true, false}
use Rattle.std.proofs.Common.{get_or, take, length, ◌*◌}
use Rattle.std.specs.Prelude.{Result, Ok, Err, IfOk}
use Rattle.cg_form.specs.declared.form.Form.{Form}
use Rattle.cg_form.specs.declared.form.Form.TheVariants.{Num, Node}
use Rattle.cg_dyadic.specs.Number.{Number}
use Rattle.cg_dyadic.proofs.Truth.{differ}
use Rattle.cg_form.specs.Best.{Best, with_one}
use Rattle.cg_form.specs.Bypass.{AllCovered, Covered, Fine, Grown, Replaces, Stands, Taken, bypassed, under}
use Rattle.cg_form.specs.Canonical.{Canonical}
use Rattle.cg_form.specs.Forms.{game_of, games_of}
use Rattle.cg_form.specs.Game.{Among, Game, number}
use Rattle.cg_form.specs.Known.{EachCanonical, EachLess}
use Rattle.cg_form.specs.Order.{no_one}
use Rattle.cg_form.specs.Side.{AtMost, at_most, chosen, far, near}
use Rattle.cg_form.specs.Simple.{NoNumber}
use Rattle.cg_form.specs.Size.{list_size, size}
use Rattle.cg_form.proofs.Among.{among-append, among-append_left, among-append_right, carry}
use Rattle.cg_form.proofs.Best.{best_step}
use Rattle.cg_form.proofs.Bypass.{covered_by}
use Rattle.cg_form.proofs.FormLists.{games_of-all, games_of-take_suc, size_of_lists}
use Rattle.cg_form.proofs.Order.{no_one-each}
use Rattle.cg_form.proofs.Reduced.{canonical-far, canonical-near}
use Rattle.cg_form.proofs.Sides.{not_both, far-node, near-node, near_number, not_near, side_refl, side_trans, size-far}

-- ---- the options of a node

pub far_of : (s : Bool) (f : Form) (ls rs os : List Game) → f ≡ Node ls rs → os ≡ chosen s rs ls → (b : Game)
    → Among b os → Among b (far s (game_of f))
far_of s f ls rs os e h b m = rw e (rw (h ∙ sym (far-node s ls rs)) at m)

pub of_far : (s : Bool) (f : Form) (ls rs os : List Game) → f ≡ Node ls rs → os ≡ chosen s rs ls → (b : Game)
    → Among b (far s (game_of f)) → Among b os
of_far s f ls rs os e h b m = rw (far-node s ls rs ∙ sym h) at (rw e at m)

pub near_of : (s : Bool) (f : Form) (ls rs os : List Game) → f ≡ Node ls rs → os ≡ chosen s ls rs → (b : Game)
    → Among b os → Among b (near s (game_of f))
near_of s f ls rs os e h b m = rw e (rw (h ∙ sym (near-node s ls rs)) at m)

pub of_near : (s : Bool) (f : Form) (ls rs os : List Game) → f ≡ Node ls rs → os ≡ chosen s ls rs → (b : Game)
    → Among b (near s (game_of f)) → Among b os
of_near s f ls rs os e h b m = rw (near-node s ls rs ∙ sym h) at (rw e at m)

-- ---- lists that grow

pub grown_trans : (s : Bool) (g : Game) (us vs ws : List Game) → Grown s g us vs → Grown s g vs ws → Grown s g us ws
grown_trans s g us vs ws p q = record {
  keeps = λ x m. q.keeps x (p.keeps x m);
  fine = λ x m. elim (q.fine x m) [ inl k ↦ p.fine x k | inr f ↦ inr f ];
}

-- ---- the best, one option more at a time

pub taken_none : (s : Bool) (g : Game) (gs : List Game) → Stands s g gs → Taken s g gs [] gs
taken_none s g gs h =
    record { stands = h; above = λ x m. (x, m, side_refl s x); covered = record { each = λ c m. absurd m } }

pub taken_for : (s : Bool) (g a : Game) (gs os us : List Game) → Taken s g gs os us → Covered s g us a
    → Taken s g gs (a ∷ []) us
taken_for s g a gs os us t c = record {
  stands = t.stands;
  above = t.above;
  covered = record {
    each = λ d m. elim m [
      | inl e ↦ rw e c
      | inr j ↦ absurd j
    ];
  };
}

pub taken_one : (s : Bool) (g x a : Game) (gs us : List Game) → Stands s g gs → Fine s g x → Covered s g (x ∷ []) a
    → us ≡ with_one s gs x → Taken s g gs (a ∷ []) us
taken_one s g x a gs us h f c e =
    let b : Best s (gs ++ (x ∷ [])) us = rw e (best_step s gs gs x h.best) in
    taken_for s g a gs [] us (record {
      stands = record {
        fine = λ y m. elim (among-append y gs (x ∷ []) (b.inside y m)) [
          | inl k ↦ h.fine y k
          | inr k ↦ elim k [
            | inl q ↦ rw q f
            | inr j ↦ absurd j
          ]
        ];
        best = record { inside = λ y m. m; top = λ y m. (y, m, side_refl s y); apart = b.apart; rises = b.rises };
      };
      above = λ y m. b.top y (among-append_left y gs (x ∷ []) m);
      covered = record { each = λ d m. absurd m };
    }) (covered_by s g (x ∷ []) us a (λ y m. b.top y (among-append_right y gs (x ∷ []) m)) c)

pub taken_replaces : (s : Bool) (g : Game) (old gs new : List Game) → Taken s g old gs new → Replaces s g gs new
taken_replaces s g old gs new t =
    record { candidates = new; covered = t.covered; fine = t.stands.fine; best = t.stands.best }

-- a number as an option
pub fine_number : (s : Bool) (g : Game) (f : Form) (x : Number) → f ≡ Num x → ¬ AtMost s g (game_of f)
    → Fine s g (game_of f)
fine_number s g f x e n = record { canonical = rw e tt; less = n; way = inl (x, ap game_of e) }

-- a number through which the option is reversible
pub fine_through : (s : Bool) (g : Game) (f : Form) (x : Number) (t : Bool) → f ≡ Num x → NoNumber g
    → t ≡ at_most s (game_of f) g → t ≡ true → Fine s g (game_of f)
fine_through s g f x t e n l k = fine_number s g f x e (rw e (not_both s g x n (rw e at (sym l ∙ k))))

pub covered_through : (s : Bool) (g a : Game) (f : Form) (x : Number) (t : Bool) → f ≡ Num x
    → t ≡ at_most s (game_of f) g → t ≡ true → Among (game_of f) (far s a) → Covered s g (game_of f ∷ []) a
covered_through s g a f x t e l k m =
    bypassed (game_of f) m (sym l ∙ k) (rw e (λ c w. under (number x) (inl refl) (near_number s x c w)))

-- a node through which the option is reversible
pub through_node_covered : (s : Bool) (g a : Game) (f : Form) (ls rs os us : List Game) (t : Bool) → f ≡ Node ls rs
    → os ≡ chosen s ls rs → t ≡ at_most s (game_of f) g → t ≡ true → Among (game_of f) (far s a)
    → AllCovered s g us os → Covered s g us a
through_node_covered s g a f ls rs os us t e h l k m cov =
    bypassed (game_of f) m (sym l ∙ k) (λ c w. cov.each c (of_near s f ls rs os e h c w))

pub through_canonical : (s : Bool) (a : Game) (f : Form) (ls rs os : List Game) → Canonical a
    → Among (game_of f) (far s a) → f ≡ Node ls rs → os ≡ chosen s ls rs → EachCanonical os
through_canonical s a f ls rs os ca m e h =
    record {
      each =
          λ c w. canonical-near s (game_of f) c (canonical-far s a (game_of f) ca m) (near_of s f ls rs os e h c w);
    }

pub through_less : (s : Bool) (g : Game) (f : Form) (ls rs os : List Game) (t : Bool) → f ≡ Node ls rs
    → os ≡ chosen s ls rs → t ≡ at_most s (game_of f) g → t ≡ true → EachLess s g os
through_less s g f ls rs os t e h l k =
    record {
      each =
          λ c w q. not_near s (game_of f) c (near_of s f ls rs os e h c w) (side_trans s (game_of f) g c (sym l ∙ k) q);
    }

pub through_size : (s : Bool) (a : Game) (f : Form) (ls rs os : List Game) → Among (game_of f) (far s a)
    → f ≡ Node ls rs → os ≡ chosen s ls rs → 2 * list_size os + 1 < 2 * size a
through_size s a f ls rs os m e h =
    let x = size-far s a (game_of f) m in
    let y = size_of_lists f ls rs e in
    let w : list_size os ≡ list_size (chosen s ls rs) = ap list_size h in
    let v = part s in
    omega arith
  where
    part : (s : Bool) → list_size (chosen s ls rs) ≤ list_size ls + list_size rs
    part true = omega arith
    part false = omega arith

-- an option that is not reversible
pub fine_irreversible : (s : Bool) (g : Game) (f : Form) (ls rs os : List Game) (xs : List Form) (i : ℕ) → f ≡ Node ls rs
    → os ≡ chosen s rs ls → games_of xs ≡ os → length xs ≤ i
    → no_one (λ b. at_most s b g) (games_of (take i xs)) ≡ true → Canonical (game_of f) → ¬ AtMost s g (game_of f)
    → Fine s g (game_of f)
fine_irreversible s g f ls rs os xs i e h j l never c n = record {
  canonical = c;
  less = n;
  way = inr (λ b m t.
      let w : Among b os = of_far s f ls rs os e h b m in
      differ (at_most s b g) t (no_one-each (λ b. at_most s b g) (games_of (take i xs)) never b
      (rw (sym j ∙ sym (games_of-all xs i l)) at w)));
}

-- ---- over the list

pub taken_next : (s : Bool) (g : Game) (fs : List Form) (i : ℕ) (f : Form) (us vs ws : List Game) → i < length fs
    → f ≡ get_or fs i f → Taken s g us (games_of (take i fs)) vs → Taken s g vs (game_of f ∷ []) ws
    → Taken s g us (games_of (take (i + 1) fs)) ws
taken_next s g fs i f us vs ws h e p q = record {
  stands = q.stands;
  above = λ x m. let (c, k, l) = p.above x m in let (d, w, j) = q.above c k in (d, w, side_trans s x c d l j);
  covered = record {
    each = λ c m.
        elim (among-append c (games_of (take i fs)) (game_of f ∷ [])
        (carry c (games_of (take (i + 1) fs)) (games_of (take i fs) ++ (game_of f ∷ []))
        (ap (λ n. games_of (take n fs)) next ∙ games_of-take_suc fs i f h e) m)) [
          | inl k ↦ covered_by s g vs ws c q.above (p.covered.each c k)
          | inr k ↦ q.covered.each c k
        ];
  };
}
  where
    next : i + 1 ≡ suc i
    next = omega arith

pub taken_all : (s : Bool) (g : Game) (fs : List Form) (i : ℕ) (us os vs : List Game) → games_of fs ≡ os → length fs ≤ i
    → Taken s g us (games_of (take i fs)) vs → Taken s g us os vs
taken_all s g fs i us os vs e h t = rw (games_of-all fs i h ∙ e) at t

-- ---- results

pub if_ok : {A E : Type 0} (r : Result A E) (P Q : A → Type 0) → ((x : A) → P x → Q x) → IfOk r P → IfOk r Q
if_ok (Ok x) P Q f h = f x h
if_ok (Err e) P Q f h = h
