use Rattle.std.proofs.Common.{◌≡◌, Bool, false, subst, sym, true}
use Rattle.cg_form.specs.Known.{EachLess}
use Rattle.cg_arena.proofs.Reaching.{above_highs, above_lows, below_highs, below_lows}
use Rattle.cg_arena.proofs.reach.Bounds.are_passed.Goals as goal

pub returns-then-game-self : goal.returns-then-game-self
returns-then-game-self c gs g h p e =
    let P : Bool → Type 0 = λ z. EachLess z g gs in
    let is : c.args.left ≡ true = c.if-left.true in
    subst P (sym is) (above_lows gs g c.args.self.now c.args.game.now h p c.if-game-self.true)

pub returns-then-left : goal.returns-then-left
returns-then-left c gs g h p e =
    let P : Bool → Type 0 = λ z. EachLess z g gs in
    let is : c.args.left ≡ true = c.if-left.true in
    subst P (sym is) (above_highs gs g c.args.self.now c.args.game.now h p e)

pub returns-then-game-self-2 : goal.returns-then-game-self-2
returns-then-game-self-2 c gs g h p e =
    let P : Bool → Type 0 = λ z. EachLess z g gs in
    let is : c.args.left ≡ false = c.if-left.false in
    subst P (sym is) (below_lows gs g c.args.self.now c.args.game.now h p c.if-game-self-2.true)

pub returns : goal.returns
returns c gs g h p e =
    let P : Bool → Type 0 = λ z. EachLess z g gs in
    let is : c.args.left ≡ false = c.if-left.false in
    subst P (sym is) (below_highs gs g c.args.self.now c.args.game.now h p e)
