-- What an interner keeps, as its store and its indexes grow.
use Rattle.std.proofs.Common.{◌≡◌, ℕ, ◌+◌, ◌<◌, ◌≤◌, arith, ap, sym, ◌∙◌, subst, ◌⊎◌, inl, inr, List, [], ◌∷◌, ◌++◌, length, length-append, get_or, true, Some}
use Rattle.std.proofs.lemmas.Bool.Decides.{eqb_tells}
use Rattle.std.proofs.lemmas.List.Elements.{All-contains, All-nil, All-push, All-same, All-weaker}
use Rattle.cg_form.specs.Sum.{sum}
use Rattle.cg_nodes.specs.Can.{can}
use Rattle.std.proofs.lemmas.List.{get_or_append_left, get_or_push, append_assoc, append-nil, length_push}
use Rattle.cg_form.specs.Game.{Game, node}
use Rattle.cg_cells.specs.Meaning.{Grows}
use Rattle.cg_cells.specs.Store.{State, thing_at}
use Rattle.cg_nodes.specs.Games.{IsGame, StandsFor, game_at}
use Rattle.cg_nodes.specs.Meant.{Meant, form}
use Rattle.cg_nodes.proofs.Later.{game_later, is_game_later}
use Rattle.cg_arena.specs.declared.order_memo.Answer.{Answer}
use Rattle.cg_arena.specs.declared.order_memo.OrderMemo.{OrderMemo}
use Rattle.cg_arena.specs.Arena.{AreIndexes, IsIndex, StandFor, game_of, games_of}
use Rattle.cg_arena.specs.OrderMemos.{AreRight, IsKept}
use Rattle.cg_arena.proofs.Slices.{game_before, games_before, index_before, indexes_before}
use Rattle.cg_canon.specs.declared.interner.Interner.{Interner}
use Rattle.cg_canon.specs.declared.recognized.Recognized.{Recognized}
use Rattle.cg_canon.specs.Arena.{Begins, IsAt}
use Rattle.cg_canon.specs.Recognized.{AreRecognized}
use Rattle.cg_canon.specs.declared.kept_sums.KeptSum.{KeptSum}
use Rattle.cg_canon.specs.declared.kept_sums.KeptSums.{KeptSums}
use Rattle.cg_canon.specs.KeptSums.{IsKeptSum, SumStands, SumsStand, kept_of}
use Rattle.cg_canon.specs.Interners.{AreApart, InternerHolds, HasHandle, IsNamed, IsNew, handle_of}
use Rattle.cg_canon.proofs.InternerHandles.{apart_more}

-- ---- more games behind

pub begins_none : (gs : List Game) → Begins gs gs
begins_none gs = record { more = []; is = sym (append-nil gs) }

pub begins_one : (gs hs : List Game) (g : Game) → hs ≡ gs ++ (g ∷ []) → Begins gs hs
begins_one gs hs g e = record { more = g ∷ []; is = e }

pub begins_then : (fs gs hs : List Game) → Begins fs gs → Begins gs hs → Begins fs hs
begins_then fs gs hs a b = record {
  more = a.more ++ b.more;
  is = b.is ∙ ap (λ z. z ++ b.more) a.is ∙ append_assoc fs a.more b.more;
}

pub index_begins : (gs hs : List Game) (p : ℕ) → Begins gs hs → IsIndex gs p → IsIndex hs p
index_begins gs hs p b h = rw b.is (index_before gs b.more p h)

pub game_begins : (gs hs : List Game) (p : ℕ) → Begins gs hs → IsIndex gs p → game_of hs p ≡ game_of gs p
game_begins gs hs p b h = ap (λ z. game_of z p) b.is ∙ game_before gs b.more p h

pub indexes_begin : (gs hs : List Game) (ps : List ℕ) → Begins gs hs → AreIndexes gs ps → AreIndexes hs ps
indexes_begin gs hs ps b h = rw b.is (indexes_before gs b.more ps h)

pub games_begin : (gs hs : List Game) (ps : List ℕ) → Begins gs hs → AreIndexes gs ps → games_of hs ps ≡ games_of gs ps
games_begin gs hs ps b h = ap (λ z. games_of z ps) b.is ∙ games_before gs b.more ps h

pub stand_begins : (gs hs : List Game) (ps : List ℕ) (all : List Game) → Begins gs hs → StandFor gs ps all → StandFor hs ps all
stand_begins gs hs ps all b h = (indexes_begin gs hs ps b h.0, games_begin gs hs ps b h.0 ∙ h.1)

pub length_begins : (gs hs : List Game) → Begins gs hs → length gs ≤ length hs
length_begins gs hs b = let e = ap length b.is in let n = length-append gs b.more in omega arith

pub right_begins : (gs hs : List Game) (r : OrderMemo) → Begins gs hs → AreRight gs r → AreRight hs r
right_begins gs hs r b h = λ x k.
    let i = h x k in
    let low = game_begins gs hs x.low b i.low in
    let high = game_begins gs hs x.high b i.high in
    record {
      low = index_begins gs hs x.low b i.low;
      high = index_begins gs hs x.high b i.high;
      order = rw (low, high) i.order;
    }

pub at_later : (gs hs : List Game) (i : ℕ) (g : Game) → Begins gs hs → IsAt gs i g → IsAt hs i g
at_later gs hs i g b h = record { within = index_begins gs hs i b h.within; is = game_begins gs hs i b h.within ∙ h.is }

-- ---- sums of pairs

sum_begins : (gs hs : List Game) → Begins gs hs → (k : KeptSum) → SumStands gs k → SumStands hs k
sum_begins gs hs b k h =
    let P : Game → Game → Type 0 = λ x y. IsAt hs k.sum (can (sum x y)) in
    let low = game_begins gs hs k.low b h.low in
    let high = game_begins gs hs k.high b h.high in
    record {
      low = index_begins gs hs k.low b h.low;
      high = index_begins gs hs k.high b h.high;
      is = subst (λ x. P x (game_of hs k.high)) (sym low) (subst (P (game_of gs k.low)) (sym high) (at_later gs hs k.sum _ b h.is));
    }

sums_begin : (gs hs : List Game) (t u : KeptSums) → Begins gs hs → u ≡ t → SumsStand gs t → SumsStand hs u
unfolding SumsStand
sums_begin gs hs t u b e h =
    rw e (All-weaker (SumStands gs) (SumStands hs) (sum_begins gs hs b) t.sums.items h)

sums_none : (gs : List Game) (t : KeptSums) → t.sums.items ≡ [] → SumsStand gs t
unfolding SumsStand
sums_none gs t e = All-same (SumStands gs) t.sums.items [] e (All-nil (SumStands gs))

pub sums_more : (gs : List Game) (t u : KeptSums) (low high sum : ℕ)
    → (u.sums.items ≡ t.sums.items) ⊎ (u.sums.items ≡ t.sums.items ++ (kept_of low high sum ∷ []))
    → SumStands gs (kept_of low high sum) → SumsStand gs t → SumsStand gs u
unfolding SumsStand
sums_more gs t u low high sum (inl e) h all = All-same (SumStands gs) u.sums.items t.sums.items e all
sums_more gs t u low high sum (inr e) h all =
    All-same (SumStands gs) u.sums.items _ e (All-push (SumStands gs) t.sums.items (kept_of low high sum) all h)

pub sum_stands : (gs : List Game) (t : KeptSums) (low high sum : ℕ) → SumsStand gs t → IsKeptSum t low high sum
    → SumStands gs (kept_of low high sum)
unfolding SumsStand
sum_stands gs t low high sum all k = All-contains (SumStands gs) t.sums.items (kept_of low high sum) all k

-- ---- an interner

-- when the store has grown
pub interner_later : {R Q : Type 0} (s : State Meant R) (t : State Meant Q) (b : Interner) → Grows (thing_at s) (thing_at t)
    → InternerHolds s b → InternerHolds t b
interner_later s t b grows h = record {
  count = h.count;
  each = λ index k.
      let i = h.each index k in
      record {
        game = is_game_later s t grows (handle_of b index) i.game;
        same = game_later s t grows (handle_of b index) i.game ∙ i.same;
      };
  right = h.right;
  pairs = h.pairs;
  apart = h.apart;
  recognized = h.recognized;
}

-- of no games
pub new_holds : {R : Type 0} (s : State Meant R) (b : Interner) → b.arena ≡ [] → b.handles.items ≡ []
    → ((x : Answer) → IsKept b.answers x → ⊥) → AreApart b.handles.items b.by_id b.is_complete
    → b.pairs.sums.items ≡ [] → AreRecognized [] b.recognized → InternerHolds s b
new_holds s b p e empty apart none known =
    let n = ap length e in
    record {
      count = n ∙ sym (ap length p);
      each = λ index k. absurd (omega arith);
      right = λ x k. absurd (empty x k);
      pairs = sums_none b.arena b.pairs none;
      apart = apart;
      recognized = rw p known;
    }

-- where nothing was added
pub holds_same : {R : Type 0} (s : State Meant R) (b c : Interner) → InternerHolds s b → c.arena ≡ b.arena
    → c.handles.items ≡ b.handles.items → c.answers ≡ b.answers → c.by_id ≡ b.by_id → c.is_complete ≡ b.is_complete
    → c.pairs ≡ b.pairs → c.recognized ≡ b.recognized → InternerHolds s c
holds_same s b c h p e r l w k known =
    let n = ap length e in
    let count = h.count in
    record {
      count = ap length e ∙ h.count ∙ ap length (sym p);
      each = λ index k.
          let i = h.each index (omega arith) in
          let own = ap (λ z. get_or z index 0) e in
          record {
            game = rw own i.game;
            same = ap (game_at s) own ∙ i.same ∙ ap (λ z. game_of z index) (sym p);
          };
      right = rw p (rw r h.right);
      pairs = rw (p, k) h.pairs;
      apart = rw (e, l, w) h.apart;
      recognized = rw (p, known) h.recognized;
    }

-- with one game more, and its handle
pub holds_more : {R : Type 0} (s : State Meant R) (b c : Interner) (handle : ℕ) (k : Game) → InternerHolds s b
    → c.arena ≡ b.arena ++ (k ∷ []) → game_at s handle ≡ k
    → c.handles.items ≡ b.handles.items ++ (handle ∷ []) → c.answers ≡ b.answers
    → IsNew b.handles.items handle → (c.is_complete ≡ true → (b.is_complete ≡ true) × (c.by_id ≡ b.by_id ++ (handle ∷ [])))
    → c.pairs ≡ b.pairs → IsGame s handle → AreRecognized c.arena c.recognized → InternerHolds s c
holds_more {R} s b c handle k h p is e r new indexed pairs game known =
    let n = count in
    record {
      count = count;
      each = λ q less. named q (omega (arith, more));
      right = rw r (right_begins b.arena c.arena b.answers begins h.right);
      pairs = sums_begin b.arena c.arena b.pairs c.pairs begins pairs h.pairs;
      apart = apart_more b c handle h.apart new e indexed;
      recognized = known;
    }
  where
    begins : Begins b.arena c.arena
    begins = begins_one b.arena c.arena k p

    more : length c.handles.items ≡ length b.handles.items + 1
    more = ap length e ∙ length_push b.handles.items handle

    count : length c.handles.items ≡ length c.arena
    count = more ∙ ap (λ z. z + 1) h.count ∙ sym (ap length p ∙ length_push b.arena k)

    old : (q : ℕ) → q < length b.handles.items → handle_of c q ≡ handle_of b q
    old q less = ap (λ z. get_or z q 0) e ∙ get_or_append_left b.handles.items (handle ∷ []) 0 q less

    last : (q : ℕ) → q ≡ length b.handles.items → handle_of c q ≡ handle
    last q at = ap (λ z. get_or z q 0) e ∙ get_or_push b.handles.items handle 0 q (sym at)

    last_game : (q : ℕ) → q ≡ length b.handles.items → game_of c.arena q ≡ k
    last_game q at = ap (λ z. game_of z q) p ∙ get_or_push b.arena k (node [] []) q (sym (at ∙ h.count))

    named : (q : ℕ) → q < length b.handles.items + 1 → IsNamed s c q
    named q less = elim (eqb_tells q (length b.handles.items)) [
      | inl t ↦
          record {
            game = rw (last q t.1) game;
            same = ap (game_at s) (last q t.1) ∙ is ∙ sym (last_game q t.1);
          }
      | inr t ↦
          let d = t.1 in
          let below : q < length b.handles.items = omega arith in
          let i = h.each q below in
          let same = h.count in
          record {
            game = rw (old q below) i.game;
            same = ap (game_at s) (old q below) ∙ i.same ∙ sym (game_begins b.arena c.arena q begins (omega arith));
          }
    ]

-- with other answers
pub holds_answers : {R : Type 0} (s : State Meant R) (b : Interner) (r : OrderMemo) → InternerHolds s b → AreRight b.arena r
    → InternerHolds s (record b { answers = r })
holds_answers s b r h right = record {
  count = h.count;
  each = λ index k. let i = h.each index k in record { game = i.game; same = i.same };
  right = right;
  pairs = h.pairs;
  apart = h.apart;
  recognized = h.recognized;
}

-- with something else that games are known as
pub holds_known : {R : Type 0} (s : State Meant R) (b : Interner) (t : Recognized) → InternerHolds s b → AreRecognized b.arena t
    → InternerHolds s (record b { recognized = t })
holds_known s b t h known = record {
  count = h.count;
  each = λ index k. let i = h.each index k in record { game = i.game; same = i.same };
  right = h.right;
  pairs = h.pairs;
  apart = h.apart;
  recognized = known;
}

-- with other sums of pairs
pub holds_pairs : {R : Type 0} (s : State Meant R) (b : Interner) (t : KeptSums) → InternerHolds s b → SumsStand b.arena t
    → InternerHolds s (record b { pairs = t })
holds_pairs s b t h pairs = record {
  count = h.count;
  each = λ index k. let i = h.each index k in record { game = i.game; same = i.same };
  right = h.right;
  pairs = pairs;
  apart = h.apart;
  recognized = h.recognized;
}

-- the index that has a handle
pub known_index : {R : Type 0} (s : State Meant R) (b : Interner) (handle index : ℕ) → InternerHolds s b → HasHandle b index handle
    → IsIndex b.arena index × (game_of b.arena index ≡ game_at s handle)
known_index s b handle index h i =
    let count = h.count in
    let w = i.within in
    (omega arith, sym (h.each index i.within).same ∙ ap (game_at s) i.is)

pub named_stands : {R : Type 0} (s : State Meant R) (b : Interner) (handle index : ℕ) → InternerHolds s b → HasHandle b index handle
    → StandsFor s handle (game_of b.arena index)
named_stands s b handle index h i =
    let n = h.each index i.within in
    rw (← i.is) (n.game ∙ ap (λ z. Some (form z)) n.same)
