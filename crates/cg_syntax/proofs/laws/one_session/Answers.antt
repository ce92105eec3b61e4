use Rattle.cg_syntax.proofs.ClosedSessions.{session_closed}
use Rattle.cg_syntax.proofs.SessionLevels.{session_low}
use Rattle.cg_syntax.proofs.OneSession.{session_long, session_once, session_some}
use Rattle.cg_syntax.proofs.laws.one_session.Goals as goal

pub returns-clause-some : goal.returns-clause-some
returns-clause-some c = session_some

pub returns-clause-unique : goal.returns-clause-unique
returns-clause-unique c = session_once

pub returns-clause-counted : goal.returns-clause-counted
returns-clause-counted c = session_long

pub returns-clause-closed : goal.returns-clause-closed
returns-clause-closed c = session_closed

pub returns-clause-low : goal.returns-clause-low
returns-clause-low c = session_low
