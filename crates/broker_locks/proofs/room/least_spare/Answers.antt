use Rattle.std.proofs.Common.{◌≡◌, ℕ, List, Some, not, subst, sym}
use Rattle.std.specs.List.{find}
use Rattle.mcast_txn.specs.Lists.{In}
use Rattle.broker_locks.specs.Room.{asked_from, fits}
use Rattle.broker_locks.proofs.Adding.{err_is}
use Rattle.broker_locks.proofs.Waiting.{above_first, below_first, both_asked, both_none, err_one, ok_both, ok_both_on}
use Rattle.broker_locks.proofs.room.least_spare.Goals as goal

pub returns-in_err-least-clause-first : goal.returns-in_err-least-clause-first
returns-in_err-least-clause-first g c =
    let number = c.in_err-least.field-0.0 in
    let lacks = λ (n : ℕ). not (fits c.args.due c.least_among.new.place.cells.group n) in
    let found = subst (λ (ys : List ℕ). find lacks ys ≡ Some number) c.split_at.ensures.back c.in_err-least.ensures.first in
    err_is c.from_residual.result number (λ (k : ℕ). find lacks (asked_from c.args.start c.args.waited.now) ≡ Some k) c.from_residual.ensures.1
    (above_first lacks c.args.start c.first_from.result number c.args.waited.now c.first_from.ensures.parts found)

pub returns-clause-each : goal.returns-clause-each
returns-clause-each g c =
    ok_both c.least_among-2.result
    (λ least le low. both_asked c.args.due c.args.start c.first_from.result c.in_ok-least.least c.args.waited.now c.least_among.new.place c.least_among-2.new.place c.least_among-2.ensures.heard c.first_from.ensures.parts
    (λ n m. c.in_ok-least.ensures.each n (subst (λ (ys : List ℕ). In n ys) (sym c.split_at.ensures.back) m)) least le
    (λ n m. low n (subst (λ (ys : List ℕ). In n ys) (sym c.split_at.ensures.front) m)))
    c.least_among-2.ensures.at_most c.least_among-2.ensures.each

pub returns-clause-none : goal.returns-clause-none
returns-clause-none g c =
    ok_both_on c.least_among-2.result
    (λ least le low. both_none c.args.due c.args.start c.first_from.result c.in_ok-least.least c.args.waited.now c.least_among.new.place c.least_among-2.new.place c.least_among-2.ensures.heard c.first_from.ensures.parts
    (λ n m. c.in_ok-least.ensures.each n (subst (λ (ys : List ℕ). In n ys) (sym c.split_at.ensures.back) m)) least le
    (λ n m. low n (subst (λ (ys : List ℕ). In n ys) (sym c.split_at.ensures.front) m)))
    c.least_among-2.ensures.at_most c.least_among-2.ensures.each

pub returns-clause-first : goal.returns-clause-first
returns-clause-first g c =
    err_one c.least_among-2.result
    (λ number found. below_first c.args.due c.args.start c.first_from.result c.in_ok-least.least c.args.waited.now c.least_among.new.place c.least_among-2.new.place c.least_among-2.ensures.heard c.first_from.ensures.parts
    (λ n m. c.in_ok-least.ensures.each n (subst (λ (ys : List ℕ). In n ys) (sym c.split_at.ensures.back) m))
    (Some number)
    (subst (λ (ys : List ℕ). find (λ n. not (fits c.args.due c.least_among-2.new.place.cells.group n)) ys ≡ Some number) c.split_at.ensures.front found))
    c.least_among-2.ensures.first
