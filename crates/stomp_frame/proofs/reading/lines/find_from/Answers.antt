use Rattle.std.proofs.Common.{arith}
use Rattle.stomp_frame.proofs.Cuts.{cut_found}
use Rattle.stomp_frame.proofs.Unfound.{place_none, place_found}
use Rattle.stomp_frame.proofs.reading.lines.find_from.Goals as goal

pub returns-then-text-searched-clause-found : goal.returns-then-text-searched-clause-found
returns-then-text-searched-clause-found c = (c.if-searched-end.true, cut_found c.args.octet c.args.text.now c.args.searched (omega (arith, c.requires.within, c.if-searched-end.true)) c.if-text-searched.true c.requires.unfound)

pub returns-in_err-at-clause-none : goal.returns-in_err-at-clause-none
returns-in_err-at-clause-none c = λ none. place_none c.args.octet c.args.text.now c.args.searched c.args.end c.requires.order c.requires.within c.requires.unfound c.in_err-at.ensures

pub returns-clause-found : goal.returns-clause-found
returns-clause-found c = place_found c.args.octet c.args.text.now c.args.searched c.args.end c.in_ok-at.at c.requires.order c.requires.within c.requires.unfound c.in_ok-at.ensures
