-- What a work keeps, as its store and its memo change.
use Rattle.std.proofs.Common.{◌≡◌, refl, ℕ, ◌+◌, ◌≤◌, arith, sym, subst, []}
use Rattle.std.specs.FinMap as map
use Rattle.std.specs.Ordering.{nat_cmp}
use Rattle.std.proofs.lemmas.List.Elements.{All-contains, All-nil, All-same, All-weaker}
use Rattle.cg_form.specs.Game.{Game}
use Rattle.cg_cells.specs.Store.{Spends, State}
use Rattle.cg_form.specs.Sum.{sum}
use Rattle.cg_cells.specs.Meaning.{Grows}
use Rattle.cg_cells.specs.Store.{thing_at}
use Rattle.cg_nodes.specs.Can.{can}
use Rattle.cg_nodes.specs.Games.{StandsFor, game_at}
use Rattle.cg_canon.specs.Items.{AllPass}
use Rattle.cg_canon.specs.SumItems.{sum_items}
use Rattle.cg_nodes.specs.Meant.{Meant}
use Rattle.cg_nodes.proofs.Later.{game_later, is_game_later, stands_later}
use Rattle.cg_canon.specs.declared.cache.Cache.{Cache}
use Rattle.cg_canon.specs.declared.interner.Interner.{Interner}
use Rattle.cg_canon.specs.declared.made.MadeForms.{MadeForms}
use Rattle.cg_canon.specs.declared.memo.AddedSum.{AddedSum}
use Rattle.cg_canon.specs.declared.memo.KnownSum.{KnownSum}
use Rattle.cg_canon.specs.declared.memo.Memo.{Memo}
use Rattle.cg_canon.specs.Added.{IsKnownSum}
use Rattle.cg_canon.specs.Interners.{InternerHolds}
use Rattle.cg_canon.specs.Cache.{CacheHolds, SumHolds, SumsHold, knowing}
use Rattle.cg_canon.specs.MadeForms.{FormsHold}
use Rattle.cg_canon.specs.Memos.{IsAdded, added_sum}
use Rattle.cg_canon.proofs.InternerSteps.{interner_later}
use Rattle.cg_canon.proofs.FormTables.{forms_later, forms_none}
use Rattle.cg_canon.specs.Works.{MeterHolds}

-- a known sum stays one
known_sum_later : {R Q : Type 0} (s : State Meant R) (t : State Meant Q) → Grows (thing_at s) (thing_at t)
    → (m : AddedSum) → SumHolds s m → SumHolds t m
known_sum_later s t grows m h =
    let x = game_later s t grows m.a h.first in
    let y = game_later s t grows m.b h.second in
    let P : Game → Game → Type 0 = λ p q. StandsFor t m.known.sum (can (sum p q)) in
    let Q : Game → Game → Type 0 = λ p q. AllPass m.known.cost 0 (sum_items m.known.limit p q) m.known.cost in
    record {
      first = is_game_later s t grows m.a h.first;
      second = is_game_later s t grows m.b h.second;
      sum = subst (λ p. P p (game_at t m.b)) (sym x) (subst (P (game_at s m.a)) (sym y) (stands_later s t grows m.known.sum _ h.sum));
      items = subst (λ p. Q p (game_at t m.b)) (sym x) (subst (Q (game_at s m.a)) (sym y) h.items);
    }

-- ---- when the store has grown

-- what a work has found out holds of a store that knows at least as much
pub cache_later : {R Q : Type 0} (s : State Meant R) (t : State Meant Q) (h : Cache) → Grows (thing_at s) (thing_at t)
    → CacheHolds s h → CacheHolds t h
cache_later s t h grows k = record {
  interner = interner_later s t h.memo.interner grows k.interner;
  sums = All-weaker (SumHolds s) (SumHolds t) (known_sum_later s t grows) h.memo.sums.items k.sums;
  forms = forms_later s t grows h.made k.forms;
}

-- and nothing more was charged
pub work_later : {R : Type 0} (n : ℕ) (s t : State Meant R) (spent share start : ℕ) (h : Cache)
    → MeterHolds s spent share start × CacheHolds s h → Spends n s t → start + n ≤ s.spare + spent
    → MeterHolds t spent share start × CacheHolds t h
work_later n s t spent share start h w k room =
    let e = k.spare in
    let f = w.0.fallen in (
      record { within = w.0.within; room = w.0.room; small = w.0.small; fallen = omega arith; enough = omega arith },
      cache_later s t h k.known w.1,
    )

-- ---- what a work has found out

-- that holds whatever is known
pub cache_anyhow : {R : Type 0} (s : State Meant R) (h : Cache) → ((known : map.FinMap nat_cmp Meant) → CacheHolds (knowing known) h)
    → CacheHolds s h
cache_anyhow s h f = cache_later (knowing s.known) s h (λ i x e. e) (f s.known)

-- of nothing
pub cache_nothing : {R : Type 0} (s : State Meant R) (h : Cache) → InternerHolds s h.memo.interner → h.memo.sums.items ≡ []
    → h.made.forms.items ≡ [] → CacheHolds s h
cache_nothing s h b none empty = record {
  interner = b;
  sums = All-same (SumHolds s) h.memo.sums.items [] none (All-nil (SumHolds s));
  forms = forms_none s h.made empty;
}

-- a sum that was found
pub sum_found : {R : Type 0} (s : State Meant R) (m : Memo) (a b : ℕ) (known : KnownSum) → SumsHold s m → IsAdded m a b known
    → IsKnownSum s a b known
sum_found s m a b known k at = All-contains (SumHolds s) m.sums.items (added_sum a b known) k at

-- with another interner and other sums
pub cache_memo : {R : Type 0} (s : State Meant R) (h : Cache) (n : Memo) → CacheHolds s h → InternerHolds s n.interner → SumsHold s n
    → CacheHolds s (record h { memo = n })
cache_memo s h n k interner sums = record { interner = interner; sums = sums; forms = k.forms }

module _ {R : Type 0} (s : State Meant R) (h : Cache) (n : Memo) (holds : CacheHolds s h) where
  -- with the same sums
  pub cache_interner : InternerHolds s n.interner → n.sums.items ≡ h.memo.sums.items → CacheHolds s (record h { memo = n })
  cache_interner b e = cache_memo s h n holds b (All-same (SumHolds s) n.sums.items h.memo.sums.items e holds.sums)

  -- with the same interner
  pub cache_sums : n.interner ≡ h.memo.interner → SumsHold s n → CacheHolds s (record h { memo = n })
  cache_sums e = cache_memo s h n holds (rw e holds.interner)

-- with other forms
pub cache_forms : {R : Type 0} (s : State Meant R) (h : Cache) (m : MadeForms) → CacheHolds s h → FormsHold s m
    → CacheHolds s (record h { made = m })
cache_forms s h m k f = record { interner = k.interner; sums = k.sums; forms = f }

-- the memo has this interner and the same sums
pub searched : {R : Type 0} (s t : State Meant R) (spent share start : ℕ) (h : Cache) (b : Interner)
    → MeterHolds s spent share start × CacheHolds s h → Spends 0 s t → InternerHolds t b
    → MeterHolds t spent share start
    × CacheHolds t (record h { memo = record h.memo { interner = b } })
searched s t spent share start h b w k holds =
    let room = w.0.enough in
    let later = work_later 0 s t spent share start h w k (omega arith) in (
      later.0,
      cache_interner t h (record h.memo { interner = b }) later.1 holds refl,
    )
