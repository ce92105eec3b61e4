-- What holds of what a work has found out.
use Rattle.std.specs.Prelude.{[]}
use Rattle.std.specs.List.{All}
use Rattle.std.specs.FinMap as map
use Rattle.std.specs.Ordering.{nat_cmp}
use Rattle.cg_cells.specs.Store.{State}
use Rattle.cg_nodes.specs.Meant.{Meant}
use Rattle.cg_canon.specs.declared.cache.Cache.{Cache}
use Rattle.cg_canon.specs.declared.memo.AddedSum.{AddedSum}
use Rattle.cg_canon.specs.declared.memo.Memo.{Memo}
use Rattle.cg_canon.specs.Added.{IsKnownSum}
use Rattle.cg_canon.specs.Interners.{InternerHolds}
use Rattle.cg_canon.specs.MadeForms.{FormsHold}

abbrev pub SumHolds : {R : Type 0} → State Meant R → AddedSum → Type 0
SumHolds {R} s x = IsKnownSum s x.a x.b x.known

-- each sum of the memo is that of its two games
abbrev pub SumsHold : {R : Type 0} → State Meant R → Memo → Type 0
SumsHold {R} s m = All (SumHolds s) m.sums.items

-- the indexes, the sums and the forms are those of games that the store knows
pub record CacheHolds {R : Type 0} (s : State Meant R) (h : Cache) : Type 0 where
  pub interner : InternerHolds s h.memo.interner
  pub sums : SumsHold s h.memo
  pub forms : FormsHold s h.made

-- a state of which nothing is said but what it knows
abbrev pub knowing : map.FinMap nat_cmp Meant → State Meant (Unit {0})
knowing known = record { known = known; noted = []; spare = 0; rest = tt }
