-- The games that entries say, one after the other.
use Rattle.std.proofs.Common.{◌≡◌, ℕ, zero, suc, ◌+◌, ◌<◌, ◌≤◌, ◌^◌, arith, inl, inr, ap, sym, ◌∙◌, subst, List}
use Rattle.std.proofs.Common.{[], ◌∷◌, ◌++◌, length, length-append, get_or, zip, Bool, true, false, cond}
use Rattle.std.proofs.Math.Seq.{get_or-append_seam}
use Rattle.std.proofs.lemmas.Bool.Decides.{eqb_tells}
use Rattle.std.proofs.lemmas.List.{get_or_default, get_or_push, append_assoc, append-nil, length_push}
use Rattle.std.proofs.lemmas.Slice.Zip.{length-zip, get_or-zip}
use Rattle.cg_form.specs.Canonical.{Canonical}
use Rattle.cg_form.specs.Depth.{deepest, depth_of}
use Rattle.cg_form.specs.Game.{Game, node, number}
use Rattle.cg_arena.specs.declared.arena.Entry.{Entry}
use Rattle.cg_arena.specs.declared.arena.Arena.TheInside.{Inside}
use Rattle.cg_arena.specs.declared.summary.Summary.{Summary}
use Rattle.cg_arena.specs.Keys.{AreKeys, HasKeys}
use Rattle.cg_arena.specs.Arena.{AreWritten, AreIndexes, IsArena, IsIndex, IsWritten, game_of, games_of, left_indexes, right_indexes, said, said_by}
use Rattle.cg_arena.specs.Summaries.{IsSummary}
use Rattle.cg_arena.proofs.Slices.{game_before, games_before, indexes_before}

-- ---- what is said, with more games behind

said_before : (opts : List ℕ) (gs hs : List Game) (p : Entry) (f : Summary) → AreIndexes gs (left_indexes opts p) → AreIndexes gs (right_indexes opts p)
    → said opts (gs ++ hs) p f ≡ said opts gs p f
said_before opts gs hs p f l r =
    ap (λ z. cond p.is_number (number f.low.at) (node z (games_of (gs ++ hs) (right_indexes opts p)))) (games_before gs hs (left_indexes opts p) l)
    ∙ ap (λ z. cond p.is_number (number f.low.at) (node (games_of gs (left_indexes opts p)) z)) (games_before gs hs (right_indexes opts p) r)

-- ---- what all entries say begins with what was said before

record Longer (all gs : List Game) : Type 0 where
  more : List Game
  is : all ≡ gs ++ more

longer : (opts : List ℕ) (gs : List Game) (ps : List (Entry × Summary)) → Longer (said_by opts gs ps) gs
longer opts gs [] = record { more = []; is = sym (append-nil gs) }
longer opts gs ((p, f) ∷ ps) =
    let m = said opts gs p f in
    let l = longer opts (gs ++ (m ∷ [])) ps in
    record { more = m ∷ l.more; is = l.is ∙ append_assoc gs (m ∷ []) l.more }

pub count_said : (opts : List ℕ) (gs : List Game) (ps : List (Entry × Summary)) → length (said_by opts gs ps) ≡ length gs + length ps
count_said opts gs [] = omega arith
count_said opts gs ((p, f) ∷ ps) =
    let n = length_push gs (said opts gs p f) in
    let rest = count_said opts (gs ++ (said opts gs p f ∷ [])) ps in
    omega arith

-- ---- what an entry says

-- the game at the index among all games
pub record Says (opts : List ℕ) (all : List Game) (p : Entry) (f : Summary) (g : Game) : Type 0 where
  pub says : g ≡ said opts all p f
  pub lefts : AreIndexes all (left_indexes opts p)
  pub rights : AreIndexes all (right_indexes opts p)
  pub first : p.lefts ≤ p.rights
  pub second : p.rights ≤ p.end
  pub end : p.end ≤ length opts
  pub canonical : Canonical g
  pub is_summary : IsSummary g f
  pub keys : AreKeys f p.keys

says_here : (opts : List ℕ) (gs all more : List Game) (p : Entry) (f : Summary) → IsWritten opts gs p f → all ≡ (gs ++ (said opts gs p f ∷ [])) ++ more
    → Says opts all p f (game_of all (length gs + 0))
says_here opts gs all more p f w e =
    let m = said opts gs p f in
    let front : all ≡ gs ++ (m ∷ more) = e ∙ append_assoc gs (m ∷ []) more in
    let z : length gs + 0 ≡ length gs = omega arith in
    let is : game_of all (length gs + 0) ≡ m =
    ap (game_of all) z ∙ ap (λ k. game_of k (length gs)) front ∙ get_or-append_seam gs m more (node [] []) in
    record {
      says = is ∙ sym (said_before opts gs (m ∷ more) p f w.lefts w.rights) ∙ ap (λ k. said opts k p f) (sym front);
      lefts = rw front (indexes_before gs (m ∷ more) (left_indexes opts p) w.lefts);
      rights = rw front (indexes_before gs (m ∷ more) (right_indexes opts p) w.rights);
      first = w.first;
      second = w.second;
      end = w.end;
      canonical = rw is w.canonical;
      is_summary = rw is w.is_summary;
      keys = w.keys;
    }

pub says_at : (opts : List ℕ) (gs : List Game) (ps : List (Entry × Summary)) (i : ℕ) (p : Entry) (f : Summary) → AreWritten opts gs ps
    → i < length ps → get_or ps i (p, f) ≡ (p, f) → Says opts (said_by opts gs ps) p f (game_of (said_by opts gs ps) (length gs + i))
says_at opts gs [] i p f w h e = absurd (omega arith)
says_at opts gs ((q, r) ∷ ps) zero p f w h e =
    let all = said_by opts (gs ++ (said opts gs q r ∷ [])) ps in
    let l = longer opts (gs ++ (said opts gs q r ∷ [])) ps in
    let P : Entry × Summary → Type 0 = λ k. Says opts all k.0 k.1 (game_of all (length gs + 0)) in
    subst P e (says_here opts gs all l.more q r w.0 l.is)
says_at opts gs ((q, r) ∷ ps) (suc i) p f w h e =
    let m = said opts gs q r in
    let all = said_by opts (gs ++ (m ∷ [])) ps in
    let n = length-append gs (m ∷ []) in
    let z : length (gs ++ (m ∷ [])) + i ≡ length gs + suc i = omega arith in
    let P : ℕ → Type 0 = λ k. Says opts all p f (game_of all k) in
    subst P z (says_at opts (gs ++ (m ∷ [])) ps i p f w.1 (omega arith) e)

-- ---- how deep they are, and how many

-- no game is deeper than there are games
abbrev IsShallow : List Game → Type 0
IsShallow gs = (p : ℕ) → IsIndex gs p → depth_of (game_of gs p) ≤ length gs

deepest_few : (gs : List Game) (ps : List ℕ) → AreIndexes gs ps → IsShallow gs → deepest (games_of gs ps) ≤ length gs
deepest_few gs [] a h = omega arith
deepest_few gs (p ∷ ps) a h =
    let first = h p (a zero 0 (omega arith)) in
    let rest = deepest_few gs ps (λ k d l. a (suc k) d (omega arith)) h in
    omega arith

shallow_index : (opts : List ℕ) (gs : List Game) (p : Entry) (f : Summary) → IsWritten opts gs p f → IsShallow gs
    → depth_of (said opts gs p f) ≤ suc (length gs)
shallow_index opts gs p f w h =
    let l = deepest_few gs (left_indexes opts p) w.lefts h in
    let r = deepest_few gs (right_indexes opts p) w.rights h in
    by p.is_number l r
  where
    by : (t : Bool) → deepest (games_of gs (left_indexes opts p)) ≤ length gs → deepest (games_of gs (right_indexes opts p)) ≤ length gs
        → depth_of (cond t (number f.low.at) (node (games_of gs (left_indexes opts p)) (games_of gs (right_indexes opts p)))) ≤ suc (length gs)
    by true l r = omega arith
    by false l r = omega arith

shallow_more : (gs : List Game) (g : Game) → IsShallow gs → depth_of g ≤ suc (length gs) → IsShallow (gs ++ g ∷ [])
shallow_more gs g h d p k =
    let n = length_push gs g in
    elim (eqb_tells p (length gs)) [
      | inl t ↦ (let e = ap depth_of (get_or_push gs g (node [] []) p (sym t.1)) in omega arith)
      | inr t ↦
          let differ = t.1 in
          let before : p < length gs = omega arith in
          let e = ap depth_of (game_before gs (g ∷ []) p before) in
          let own = h p before in
          omega arith
    ]

shallow_said : (opts : List ℕ) (gs : List Game) (ps : List (Entry × Summary)) → AreWritten opts gs ps → IsShallow gs
    → IsShallow (said_by opts gs ps)
shallow_said opts gs [] w h = h
shallow_said opts gs ((p, f) ∷ ps) w h =
    shallow_said opts (gs ++ (said opts gs p f ∷ [])) ps w.1 (shallow_more gs (said opts gs p f) h (shallow_index opts gs p f w.0 h))

few_said : (opts : List ℕ) (gs : List Game) (ps : List (Entry × Summary)) → AreWritten opts gs ps → length (said_by opts gs ps) ≤ 2 ^ 32
few_said opts gs [] w = w
few_said opts gs ((p, f) ∷ ps) w = few_said opts (gs ++ (said opts gs p f ∷ [])) ps w.1

-- ---- the entries of the arena, from its first on

pub some_at : {X : Type 0} (xs : List X) (i : ℕ) → i < length xs → (x : X) × (x ≡ get_or xs i x)
some_at [] i h = absurd (omega arith)
some_at (x ∷ xs) i h = (get_or (x ∷ xs) i x, get_or_default (x ∷ xs) i x (get_or (x ∷ xs) i x) h)

pub found_at : {X : Type 0} (xs : List X) (i j : ℕ) (x : X) → x ≡ get_or xs i x → i ≡ j → x ≡ get_or xs j x
found_at xs i j x h e = h ∙ ap (λ z. get_or xs z x) e

module _ (b : Inside) (gs : List Game) (h : IsArena b.options.items b.entries.items b.summaries.items)
    (e : said_by b.options.items [] (zip b.entries.items b.summaries.items) ≡ gs) where
  abbrev all : List (Entry × Summary)
  all = zip b.entries.items b.summaries.items

  pub counted : length b.entries.items ≡ length gs
  counted =
      let n = count_said b.options.items [] all in
      let l = length-zip b.entries.items b.summaries.items in
      let m = ap length e in
      let o = h.one_each in
      omega arith

  pub few : length gs ≤ 2 ^ 32
  few =
      let f = few_said b.options.items [] all h.written in
      let P : List Game → Type 0 = λ z. length z ≤ 2 ^ 32 in
      subst P e f

  pub both_say : (i : ℕ) (p : Entry) (f : Summary) → i < length gs → p ≡ get_or b.entries.items i p → f ≡ get_or b.summaries.items i f
      → Says b.options.items gs p f (game_of gs i)
  both_say i p f lt k r =
      let n = counted in
      let o = h.one_each in
      let l = length-zip b.entries.items b.summaries.items in
      let at : get_or all i (p, f) ≡ (p, f) =
      get_or-zip b.entries.items b.summaries.items i (p, f) (omega arith) (omega arith)
      ∙ ap (λ z. (z, get_or b.summaries.items i f)) (sym k) ∙ ap (λ z. (p, z)) (sym r) in
      let P : List Game → Type 0 = λ z. Says b.options.items z p f (game_of z i) in
      let z : 0 + i ≡ i = omega arith in
      subst P e (rw (← z) (says_at b.options.items [] all i p f h.written (omega arith) at))

  pub entry_says : (i : ℕ) (p : Entry) → i < length gs → p ≡ get_or b.entries.items i p → (f : Summary) × Says b.options.items gs p f (game_of gs i)
  entry_says i p lt k =
      let n = counted in
      let o = h.one_each in
      let f = some_at b.summaries.items i (omega arith) in
      (f.0, both_say i p f.0 lt k f.1)

  pub summary_says : (i : ℕ) (f : Summary) → i < length gs → f ≡ get_or b.summaries.items i f → IsSummary (game_of gs i) f
  summary_says i f lt r =
      let n = counted in
      let p = some_at b.entries.items i (omega arith) in
      (both_say i p.0 f lt p.1 r).is_summary

  pub summary_small : (i : ℕ) (f : Summary) → i < length gs → f ≡ get_or b.summaries.items i f → f.depth ≤ 2 ^ 32
  summary_small i f lt r =
      let deep = (summary_says i f lt r).depth in
      let few = few_said b.options.items [] all h.written in
      let P : List Game → Type 0 = λ z. IsShallow z × (length z ≤ 2 ^ 32) in
      let known = subst P e (shallow_said b.options.items [] all h.written (λ p k. absurd (omega arith)), few) in
      let own = known.0 i lt in
      omega (arith, deep, own, known.1)

pub says_number : (opts : List ℕ) (gs : List Game) (p : Entry) (f : Summary) (g : Game) → Says opts gs p f g → p.is_number ≡ true
    → g ≡ number f.low.at
says_number opts gs p f g s e =
    s.says ∙ ap (λ z. cond z (number f.low.at) (node (games_of gs (left_indexes opts p)) (games_of gs (right_indexes opts p)))) e

pub says_game : (opts : List ℕ) (gs : List Game) (p : Entry) (f : Summary) (g : Game) (ls rs : List ℕ) → Says opts gs p f g → p.is_number ≡ false
    → ls ≡ left_indexes opts p → rs ≡ right_indexes opts p
    → AreIndexes gs ls × AreIndexes gs rs × (g ≡ node (games_of gs ls) (games_of gs rs))
says_game opts gs p f g ls rs s e l r = (
  rw l s.lefts,
  rw r s.rights,
  s.says ∙ ap (λ z. cond z (number f.low.at) (node (games_of gs (left_indexes opts p)) (games_of gs (right_indexes opts p)))) e
      ∙ ap (λ z. node (games_of gs z) (games_of gs (right_indexes opts p))) (sym l)
      ∙ ap (λ z. node (games_of gs ls) (games_of gs z)) (sym r),
)

pub says_keys : (opts : List ℕ) (gs : List Game) (p : Entry) (f : Summary) (g : Game) → Says opts gs p f g → HasKeys g p.keys
says_keys opts gs p f g s = record { summary = f; cuts = s.is_summary.cuts; keys = s.keys }
