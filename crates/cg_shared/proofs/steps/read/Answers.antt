use Rattle.std.proofs.Common.{◌≡◌, ◌+◌, ◌<◌, ℕ, [], ◌∷◌, sym, ap, ◌∙◌, subst}
use Rattle.cg_cells.specs.Meaning.{note_for}
use Rattle.cg_cells.specs.Views.{Sizes, a_read, makes, cells_of, after_read}
use Rattle.cg_cells.proofs.Notes.{some_is, is_some}
use Rattle.cg_shared.proofs.Telling.{still_read, read_spends, read_has, read_stands}
use Rattle.cg_shared.proofs.Allowed.{read_allowed}
use Rattle.cg_shared.proofs.steps.read.Goals as goal

-- the word of a value, by the sizes of the view
word_is : (size cell : ℕ) (y z : Sizes) → size ≡ cells_of z → y ≡ z → 1 + size + cell ≡ 1 + cells_of y + cell
word_is size cell y z a b = ap (λ n. 1 + n + cell) (a ∙ sym (ap cells_of b))

pub load-requires : goal.load-requires
load-requires g c = (c.requires.table.0, c.requires.table.1, read_allowed g.F.Facts.meaning g.met.F.Facts.lawful c.args.shared.now.key _ _ _ c.requires.live c.args.size c.args.cell c.requires.sized.0 c.requires.sized.1 c.requires.known)

pub returns-clause-view : goal.returns-clause-view
returns-clause-view g c = λ t e. (c.load.ensures.2.1 c.args.cell t (word_is c.args.size c.args.cell _ _ c.requires.sized.0 c.requires.sized.1) e).0

pub returns-clause-still : goal.returns-clause-still
returns-clause-still g c =
    let k = some_is _ c.requires.known in
    still_read g.F.Facts.meaning (a_read c.args.cell ∷ []) _ _ c.args.cell c.load.result k.0 (c.load.ensures.2.1 c.args.cell k.0 (word_is c.args.size c.args.cell _ _ c.requires.sized.0 c.requires.sized.1) k.1).0

pub returns-clause-sure : goal.returns-clause-sure
returns-clause-sure g c = let k = some_is _ c.requires.known in (c.load.ensures.2.1 c.args.cell k.0 (word_is c.args.size c.args.cell _ _ c.requires.sized.0 c.requires.sized.1) k.1).1

pub returns-clause-value : goal.returns-clause-value
returns-clause-value g c = λ value is.
    let k = some_is _ c.requires.known in
    let r = c.load.ensures.2.1 c.args.cell k.0 (word_is c.args.size c.args.cell _ _ c.requires.sized.0 c.requires.sized.1) k.1 in
    let s = r.2 value is in
    let at = r.0 ∙ ap (λ n. after_read g.F.Facts.meaning (makes (a_read c.args.cell ∷ []) c.args.seat.now.me.0) c.args.cell n k.0) is in
    let e = read_stands g.F.Facts.meaning _ _ c.load.ensures.0 (makes (a_read c.args.cell ∷ []) c.args.seat.now.me.0) c.load.new.seat.me.0 r.1 c.args.cell k.0 value at s.0 in
    let d = some_is _ s.0 in (
      subst (λ n. value < n) (sym (c.requires.sized.0 ∙ sym (ap cells_of c.requires.sized.1))) s.1,
      is_some _ d.0 (e ∙ d.1),
      e ∙ sym (ap (note_for g.F.Facts.meaning) k.1),
      read_has g.F.Facts.meaning _ _ c.load.ensures.0 (makes (a_read c.args.cell ∷ []) c.args.seat.now.me.0) c.load.new.seat.me.0 r.1 c.args.cell k.0 value at,
    )

pub returns-clause-empty : goal.returns-clause-empty
returns-clause-empty g c = λ is.
    let k = some_is _ c.requires.known in
    (c.load.ensures.2.1 c.args.cell k.0 (word_is c.args.size c.args.cell _ _ c.requires.sized.0 c.requires.sized.1) k.1).0
    ∙ ap (λ n. after_read g.F.Facts.meaning (makes (a_read c.args.cell ∷ []) c.args.seat.now.me.0) c.args.cell n k.0) is

pub returns-clause-none : goal.returns-clause-none
returns-clause-none g c = let k = some_is _ c.requires.known in (c.load.ensures.2.1 c.args.cell k.0 (word_is c.args.size c.args.cell _ _ c.requires.sized.0 c.requires.sized.1) k.1).3

pub returns-clause-spends : goal.returns-clause-spends
returns-clause-spends g c =
    let k = some_is _ c.requires.known in
    let r = c.load.ensures.2.1 c.args.cell k.0 (word_is c.args.size c.args.cell _ _ c.requires.sized.0 c.requires.sized.1) k.1 in
    read_spends g.F.Facts.meaning _ _ c.load.ensures.0 (makes (a_read c.args.cell ∷ []) c.args.seat.now.me.0) c.load.new.seat.me.0 r.1 c.args.cell k.0 c.load.result r.0
