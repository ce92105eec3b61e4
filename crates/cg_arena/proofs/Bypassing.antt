-- What stands in the places of options.
use Rattle.std.proofs.Common.{◌≡◌, refl, ℕ, suc, ◌+◌, ◌<◌, inl, inr, arith, ap, sym, ◌∙◌, subst, List}
use Rattle.std.proofs.Common.{[], ◌∷◌, ◌++◌, take, get_or, length, Bool, true, false, cond, IsTrue}
use Rattle.std.specs.Prelude.{◌⊎◌}
use Rattle.std.proofs.lemmas.List.Elements.{All-nil}
use Rattle.cg_dyadic.specs.Number.{Number}
use Rattle.cg_dyadic.proofs.Truth.{differ}
use Rattle.cg_form.specs.Bypass.{AllCovered, Covered, Fine, Grown, bypassed, kept, under}
use Rattle.cg_form.specs.Canonical.{Canonical}
use Rattle.cg_form.specs.Game.{Among, Game, number}
use Rattle.cg_form.specs.Known.{EachLess}
use Rattle.cg_form.specs.Order.{no_one}
use Rattle.cg_form.specs.Side.{AtMost, at_most, far, near}
use Rattle.cg_form.specs.Simple.{NoNumber}
use Rattle.cg_form.proofs.Among.{among-append, among-append_left, among-append_right, carry, lefts-node, rights-node}
use Rattle.cg_form.proofs.Bypass.{covered_more}
use Rattle.cg_form.proofs.BypassSteps.{grown_trans}
use Rattle.cg_form.proofs.Order.{no_one-each}
use Rattle.cg_form.proofs.Sides.{near_number, not_both, not_near, side_trans}
use Rattle.cg_arena.specs.declared.substitutes.Substitutes.{Substitutes}
use Rattle.cg_arena.specs.declared.unreduced.Unreduced.{Unreduced}
use Rattle.cg_arena.specs.Arena.{AreIndexes, IsIndex, game_of, games_of}
use Rattle.cg_arena.specs.Passed.{AreSubstitutes, Replaced, WasPassed}
use Rattle.cg_arena.specs.UnreducedGames.{UnreducedHolds, unreduced_game}
use Rattle.cg_arena.proofs.Slices.{games_pushed, games_take_suc, indexes_pushed}

-- ---- games that may stand as options

pub number_fine : (s : Bool) (g h : Game) (x : Number) → h ≡ number x → ¬ AtMost s g h → Fine s g h
number_fine s g h x e n =
    record { canonical = rw e tt; less = n; way = inl (x, e) }

pub stays_fine : (s : Bool) (g h : Game) → Canonical h → ¬ AtMost s g h
    → IsTrue (no_one (λ b. at_most s b g) (far s h)) → Fine s g h
stays_fine s g h c n never = record {
  canonical = c;
  less = n;
  way = inr (λ b m t. differ (at_most s b g) t (no_one-each (λ b. at_most s b g) (far s h) never b m));
}

-- a number through which an option is reversible
pub through_fine : (s : Bool) (g h : Game) (x : Number) → h ≡ number x → NoNumber g → AtMost s h g → Fine s g h
through_fine s g h x e never l =
    number_fine s g h x e (rw e (not_both s g x never (rw (← e) l)))

pub through_number : (s : Bool) (g h : Game) (x : Number) (us : List Game) → h ≡ number x → AtMost s h g → Among h us
    → (a : Game) → Among h (far s a) → Covered s g us a
through_number s g h x us e l m a k =
    let P : Game → Type 0 = λ z. (c : Game) → Among c (near s z) → AtMost s c z in
    bypassed h k l (λ c w. under h m (subst P (sym e) (near_number s x) c w))

-- another game through which an option is reversible
pub through_less : (s : Bool) (g b : Game) (gs : List Game) → gs ≡ near s b → AtMost s b g → EachLess s g gs
through_less s g b gs e l = record {
  each = λ c w q. not_near s b c (carry c gs (near s b) e w) (side_trans s b g c l q);
}

pub through_node : (s : Bool) (g b : Game) (gs us : List Game) → gs ≡ near s b → AtMost s b g → AllCovered s g us gs
    → (a : Game) → Among b (far s a) → Covered s g us a
through_node s g b gs us e l all a m = bypassed b m l (λ c w. all.each c (carry c (near s b) gs (sym e) w))

-- ---- lists that grow

grown_last : (s : Bool) (g x : Game) (gs : List Game) → Fine s g x → Grown s g gs (gs ++ x ∷ [])
grown_last s g x gs f = record {
  keeps = λ y m. among-append_left y gs (x ∷ []) m;
  fine = λ y m. elim (among-append y gs (x ∷ []) m) [
    | inl k ↦ inl k
    | inr k ↦ elim k [
      | inl q ↦ (inr (rw q f))
      | inr j ↦ absurd j
    ]
  ];
}

grown_same : (s : Bool) (g : Game) (gs : List Game) → Grown s g gs gs
grown_same s g gs = record { keeps = λ x m. m; fine = λ x m. inl m }

-- ---- a candidate that is put at the end of others

record Pushed (gs : List Game) (left : Bool) (g x : Game) (os rs : List ℕ) : Type 0 where
  pub indexes : AreIndexes gs rs
  pub grown : Grown left g (games_of gs os) (games_of gs rs)
  pub last : Among x (games_of gs rs)

pushed_one : (gs : List Game) (left : Bool) (g : Game) (os rs : List ℕ) (h : ℕ) → AreIndexes gs os → IsIndex gs h → rs ≡ os ++ h ∷ []
    → Fine left g (game_of gs h) → Pushed gs left g (game_of gs h) os rs
pushed_one gs left g os rs h a b e f =
    let x = game_of gs h in
    let same = games_pushed gs os rs h e in
    record {
      indexes = indexes_pushed gs os rs h a b e;
      grown = rw same (grown_last left g x (games_of gs os) f);
      last = carry x (games_of gs os ++ x ∷ []) (games_of gs rs) (sym same)
          (among-append_right x (games_of gs os) (x ∷ []) (inl refl));
    }

-- ---- options in whose places others stand

pub no_substitutes : (gs : List Game) (left : Bool) (w : Unreduced) (o : Substitutes) → o.items.items ≡ []
    → ((index : ℕ) → ¬ WasPassed o index) → AreSubstitutes gs left w o
no_substitutes gs left w o e none =
    record { indexes = rw e (All-nil (IsIndex gs)); passed = λ index p. absurd (none index p) }

-- with one candidate more
pub replaced_by_one : (gs : List Game) (left : Bool) (w : Unreduced) (o r : Substitutes) (x : ℕ) (P : Game → Type 0)
    → AreSubstitutes gs left w o → IsIndex gs x → r.items.items ≡ o.items.items ++ x ∷ []
    → ((index : ℕ) → WasPassed r index → WasPassed o index) → Fine left (unreduced_game gs w) (game_of gs x)
    → (Among (game_of gs x) (games_of gs r.items.items) → (a : Game) → P a
    → Covered left (unreduced_game gs w) (games_of gs r.items.items) a)
    → Replaced gs left w o r P
replaced_by_one gs left w o r x P h known e same fine covers =
    let p = pushed_one gs left (unreduced_game gs w) o.items.items r.items.items x h.indexes known e fine in
    record {
      out = record {
        indexes = p.indexes;
        passed = λ index q.
            let before = h.passed index (same index q) in (
              before.0,
              covered_more left (unreduced_game gs w) (games_of gs o.items.items) (games_of gs r.items.items)
                  (game_of gs index) p.grown.keeps before.1,
            );
      };
      grown = p.grown;
      covered = covers p.last;
    }

-- as they stand, where they cover the game already
pub replaced_by_none : (gs : List Game) (left : Bool) (w : Unreduced) (o : Substitutes) (x : Game) → AreSubstitutes gs left w o
    → Covered left (unreduced_game gs w) (games_of gs o.items.items) x → Replaced gs left w o o (λ a. a ≡ x)
replaced_by_none gs left w o x h c = record {
  out = h;
  grown = grown_same left (unreduced_game gs w) (games_of gs o.items.items);
  covered = λ a e. rw e c;
}

-- which cover an option that is passed now
passing_substitutes : (gs : List Game) (left : Bool) (w : Unreduced) (o r : Substitutes) (x : ℕ) → AreSubstitutes gs left w o
    → IsIndex gs x → Covered left (unreduced_game gs w) (games_of gs o.items.items) (game_of gs x) → r.items.items ≡ o.items.items
    → ((index : ℕ) → WasPassed r index → WasPassed o index ⊎ (index ≡ x)) → AreSubstitutes gs left w r
passing_substitutes gs left w o r x h known c e updates =
    record { indexes = rw e h.indexes; passed = one }
  where
    one : (index : ℕ) → WasPassed r index
        → IsIndex gs index × Covered left (unreduced_game gs w) (games_of gs r.items.items) (game_of gs index)
    one index p =
        elim (updates index p) [
          | inr same ↦ (
              (rw same known, rw e (rw same c)))
          | inl old ↦ (
              let before = h.passed index old in
              (before.0, rw e before.1))
        ]

pub replaced_and_passed : (gs : List Game) (left : Bool) (w : Unreduced) (o m r : Substitutes) (x : ℕ)
    → Replaced gs left w o m (λ a. a ≡ game_of gs x) → IsIndex gs x → r.items.items ≡ m.items.items
    → ((index : ℕ) → WasPassed r index → WasPassed m index ⊎ (index ≡ x)) → Replaced gs left w o r (λ a. a ≡ game_of gs x)
replaced_and_passed gs left w o m r x d known e updates =
    record {
      out = passing_substitutes gs left w m r x d.out known (d.covered (game_of gs x) refl) e updates;
      grown = rw e d.grown;
      covered = rw e d.covered;
    }

-- ---- a game by another name

pub kept_there : (s : Bool) (g x : Game) (us : List Game) (a : Game) → Among x us → a ≡ x → Covered s g us a
kept_there s g x us a m e = rw e (kept m)

pub far_of_same : (s : Bool) (x b a : Game) → a ≡ x → Among b (far s x) → Among b (far s a)
far_of_same s x b a e m = rw e m

-- ---- over a list of options

covered_last : (s : Bool) (g x : Game) (us vs gs : List Game) → AllCovered s g us gs → Grown s g us vs → Covered s g vs x
    → AllCovered s g vs (gs ++ x ∷ [])
covered_last s g x us vs gs all grown c = record {
  each = λ y m. elim (among-append y gs (x ∷ []) m) [
    | inl k ↦ covered_more s g us vs y grown.keeps (all.each y k)
    | inr k ↦ elim k [
      | inl e ↦ (rw e c)
      | inr j ↦ absurd j
    ]
  ];
}

-- the items us, which began as os, cover the options so far
pub record Bypassed (gs : List Game) (left : Bool) (g : Game) (options os us : List ℕ) : Type 0 where
  pub grown : Grown left g (games_of gs os) (games_of gs us)
  pub covered : AllCovered left g (games_of gs us) (games_of gs options)

pub bypassed_more : (gs : List Game) (left : Bool) (g : Game) (options os us ws : List ℕ) (i k : ℕ)
    → Bypassed gs left g (take i options) os us → i < length options → k ≡ get_or options i 0
    → Grown left g (games_of gs us) (games_of gs ws) → Covered left g (games_of gs ws) (game_of gs k)
    → Bypassed gs left g (take (i + 1) options) os ws
bypassed_more gs left g options os us ws i k h l e grown covered =
    let one : i + 1 ≡ suc i = omega arith in
    record {
      grown = grown_trans left g (games_of gs os) (games_of gs us) (games_of gs ws) h.grown grown;
      covered = rw (ap (λ n. games_of gs (take n options)) one ∙ games_take_suc gs options i 0 l
          ∙ ap (λ z. games_of gs (take i options) ++ game_of gs z ∷ []) (sym e))
          (covered_last left g (game_of gs k) (games_of gs us) (games_of gs ws) (games_of gs (take i options)) h.covered grown covered);
    }

-- ---- the options of the unreduced game

near_own : (gs : List Game) (w : Unreduced) (left : Bool) (own : List ℕ) → own ≡ cond left w.lefts.now w.rights.now
    → games_of gs own ≡ near left (unreduced_game gs w)
near_own gs w left own e = ap (games_of gs) e ∙ by left
  where
    by : (l : Bool) → games_of gs (cond l w.lefts.now w.rights.now) ≡ near l (unreduced_game gs w)
    by true = sym (lefts-node (games_of gs w.lefts.now) (games_of gs w.rights.now))
    by false = sym (rights-node (games_of gs w.lefts.now) (games_of gs w.rights.now))

-- no own option is as good as the unreduced game
pub own_less : (gs : List Game) (w : Unreduced) (left : Bool) (own : List ℕ) → own ≡ cond left w.lefts.now w.rights.now
    → EachLess left (unreduced_game gs w) (games_of gs own)
own_less gs w left own e = record {
  each = λ c m. not_near left (unreduced_game gs w) c (carry c (games_of gs own) (near left (unreduced_game gs w)) (near_own gs w left own e) m);
}

pub unreduced_indexes : (gs : List Game) (w : Unreduced) (left : Bool) (own : List ℕ) → UnreducedHolds gs w → own ≡ cond left w.lefts.now w.rights.now
    → AreIndexes gs own
unreduced_indexes gs w true own h e = rw e h.lefts
unreduced_indexes gs w false own h e = rw e h.rights

-- ---- where nothing is bypassed

pub fine_more : (gs : List Game) (left : Bool) (g : Game) (ps : List ℕ) (i k : ℕ)
    → ((x : Game) → Among x (games_of gs (take i ps)) → Fine left g x) → i < length ps → k ≡ get_or ps i 0
    → Fine left g (game_of gs k) → (x : Game) → Among x (games_of gs (take (i + 1) ps)) → Fine left g x
fine_more gs left g ps i k h l e f = λ x m.
    let next : i + 1 ≡ suc i = omega arith in
    let list : games_of gs (take (i + 1) ps) ≡ games_of gs (take i ps) ++ game_of gs k ∷ [] =
    ap (λ n. games_of gs (take n ps)) next ∙ games_take_suc gs ps i 0 l ∙ ap (λ z. games_of gs (take i ps) ++ game_of gs z ∷ []) (sym e) in
    elim (among-append x (games_of gs (take i ps)) (game_of gs k ∷ []) (carry x (games_of gs (take (i + 1) ps)) (games_of gs (take i ps) ++ game_of gs k ∷ [])
    list m)) [
      | inl j ↦ h x j
      | inr j ↦ elim j [
        | inl q ↦ (rw q f)
        | inr n ↦ absurd n
      ]
    ]
