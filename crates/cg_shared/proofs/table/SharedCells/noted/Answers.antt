use Rattle.std.proofs.Common.{◌≡◌, ◌≢◌, ◌-◌, ℕ, suc, ap, subst, arith}
use Rattle.cg_cells.specs.Meaning.{Has}
use Rattle.cg_cells.specs.Views.{cells_of}
use Rattle.cg_shared.specs.Passes.{CellsOf}
use Rattle.cg_shared.proofs.table.SharedCells.noted.Goals as goal

-- a word that isn't 0 is a value plus 1
above : (word : ℕ) → word ≢ 0 → word ≡ suc (word - 1)
above word has = omega arith

pub overflow_cast-word : goal.overflow_cast-word
overflow_cast-word g c =
    let lt = (c.read-word.ensures.value (c.read-word.result - 1) (above _ c.if-word-eq0.false)).0 in
    let size = c.size-size.ensures in
    let same = ap (λ (s : CellsOf). cells_of s.sizes) c.self.view_is in
    let most = c.self.invariant.3.cells.1 in
    omega arith

pub new-requires : goal.new-requires
new-requires g c =
    let lt = (c.read-word.ensures.value (c.read-word.result - 1) (above _ c.if-word-eq0.false)).0 in
    let size = c.size-size.ensures in
    let same = ap (λ (s : CellsOf). cells_of s.sizes) c.self.view_is in
    let most = c.self.invariant.3.cells.1 in
    omega arith

pub returns-clause-some : goal.returns-clause-some
returns-clause-some g c = subst (λ id. Has c.read-word.new.seat.me.0.noted id) c.number.ensures.value (c.read-word.ensures.value (c.read-word.result - 1) (above _ c.if-word-eq0.false)).3
