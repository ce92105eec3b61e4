use Rattle.std.proofs.Common.{◌≤◌, ℕ, List, length, ap, sym, arith}
use Rattle.std.proofs.lemmas.List.{length-map}
use Rattle.std.proofs.lemmas.Option.{MatchOption-at_some}
use Rattle.cg_syntax.specs.Session.{IsSession, answered_lines, format_number}
use Rattle.cg_syntax.specs.SessionViews.{line_of, lines_in}
use Rattle.cg_syntax.specs.declared.session.SessionLine.{SessionLine}
use Rattle.cg_syntax.proofs.ClosedSessions.{session_closed}
use Rattle.cg_syntax.proofs.OneSession.{session_long}
use Rattle.cg_syntax.proofs.SessionSteps.{session_one, session_two}
use Rattle.cg_syntax.proofs.session.read_session_within.Goals as goal

-- the lines that were read are few enough
few : (text : List ℕ) (lines : List SessionLine) (most : ℕ) → IsSession text (lines_in lines) → length lines ≤ most → length (answered_lines text) ≤ most
few text lines most is within = omega (arith, session_long text (lines_in lines) is, length-map lines line_of, within)

pub returns-in-Some-2 : goal.returns-in-Some-2
returns-in-Some-2 c =
    let text = c.args.text.now in
    let lines = c.in-Some-2.lines in
    let r = MatchOption-at_some _ _ lines c.in-Some-2.is c.in_ok-lines-in-None.ensures in
    let is = session_one text (lines_in lines) c.in-None.ensures r.0 in (
      record { format = ap format_number (sym c.in-None.ensures); lines = is; closed = session_closed text (lines_in lines) is },
      few text lines c.args.most is r.1,
    )

pub returns-in-Some-3 : goal.returns-in-Some-3
returns-in-Some-3 c =
    let text = c.args.text.now in
    let lines = c.in-Some-3.lines in
    let r = MatchOption-at_some _ _ lines c.in-Some-3.is c.in_ok-lines-in-Some.ensures in
    let is = session_two text c.in-Some.ensures.0 c.in-Some.rest.now (lines_in lines) c.in-Some.ensures.1 c.in-Some.ensures.2 r.0 in (
      record { format = ap format_number (sym c.in-Some.ensures.2); lines = is; closed = session_closed text (lines_in lines) is },
      few text lines c.args.most is r.1,
    )
