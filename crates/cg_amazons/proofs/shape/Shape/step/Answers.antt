use Rattle.std.proofs.Common.{◌*◌}
use Rattle.std.specs.Prelude.{option_and_then}
use Rattle.cg_amazons.specs.Amazons.{back, down, forth, up}
use Rattle.cg_amazons.specs.declared.way.Way.TheVariants as ways
use Rattle.cg_amazons.proofs.CellBits.{step_is, then_cell, down_below, up_below}
use Rattle.cg_amazons.proofs.shape.Shape.step.Goals as goal

pub returns-in-UpBack : goal.returns-in-UpBack
returns-in-UpBack c cell below is =
    step_is c.args.self.columns (c.args.self.rows * c.args.self.columns) c.args.way ways.UpBack cell c.back.result c.in-UpBack.is
    (then_cell (back c.args.self.columns) (up c.args.self.columns) cell c.back.result
    (c.back.ensures (option_and_then (up c.args.self.columns) cell) (up_below c.args.self.columns (c.args.self.rows * c.args.self.columns) cell below)
    (c.up.ensures cell is)))

pub returns-in-Up : goal.returns-in-Up
returns-in-Up c cell below is =
    step_is c.args.self.columns (c.args.self.rows * c.args.self.columns) c.args.way ways.Up cell c.up-in-Up.result c.in-Up.is
    (c.up-in-Up.ensures cell is)

pub returns-in-UpForth : goal.returns-in-UpForth
returns-in-UpForth c cell below is =
    step_is c.args.self.columns (c.args.self.rows * c.args.self.columns) c.args.way ways.UpForth cell c.forth.result c.in-UpForth.is
    (then_cell (forth c.args.self.columns) (up c.args.self.columns) cell c.forth.result
    (c.forth.ensures (option_and_then (up c.args.self.columns) cell) (up_below c.args.self.columns (c.args.self.rows * c.args.self.columns) cell below)
    (c.up-in-UpForth.ensures cell is)))

pub returns-in-Back : goal.returns-in-Back
returns-in-Back c cell below is =
    step_is c.args.self.columns (c.args.self.rows * c.args.self.columns) c.args.way ways.Back cell c.back-in-Back.result c.in-Back.is
    (c.back-in-Back.ensures cell below is)

pub returns-in-Forth : goal.returns-in-Forth
returns-in-Forth c cell below is =
    step_is c.args.self.columns (c.args.self.rows * c.args.self.columns) c.args.way ways.Forth cell c.forth-in-Forth.result c.in-Forth.is
    (c.forth-in-Forth.ensures cell below is)

pub returns-in-DownBack : goal.returns-in-DownBack
returns-in-DownBack c cell below is =
    step_is c.args.self.columns (c.args.self.rows * c.args.self.columns) c.args.way ways.DownBack cell c.back-in-DownBack.result c.in-DownBack.is
    (then_cell (back c.args.self.columns) (down c.args.self.columns (c.args.self.rows * c.args.self.columns)) cell c.back-in-DownBack.result
    (c.back-in-DownBack.ensures (option_and_then (down c.args.self.columns (c.args.self.rows * c.args.self.columns)) cell) (down_below c.args.self.columns
    (c.args.self.rows * c.args.self.columns) cell) (c.down.ensures cell is)))

pub returns-in-Down : goal.returns-in-Down
returns-in-Down c cell below is =
    step_is c.args.self.columns (c.args.self.rows * c.args.self.columns) c.args.way ways.Down cell c.down-in-Down.result c.in-Down.is
    (c.down-in-Down.ensures cell is)

pub returns-in-DownForth : goal.returns-in-DownForth
returns-in-DownForth c cell below is =
    step_is c.args.self.columns (c.args.self.rows * c.args.self.columns) c.args.way ways.DownForth cell c.forth-in-DownForth.result c.in-DownForth.is
    (then_cell (forth c.args.self.columns) (down c.args.self.columns (c.args.self.rows * c.args.self.columns)) cell c.forth-in-DownForth.result
    (c.forth-in-DownForth.ensures (option_and_then (down c.args.self.columns (c.args.self.rows * c.args.self.columns)) cell) (down_below c.args.self.columns
    (c.args.self.rows * c.args.self.columns) cell) (c.down-in-DownForth.ensures cell is)))
