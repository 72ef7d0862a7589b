use Rattle.std.proofs.Common.{◌≡◌, ◌∙◌, nat_lt, true, false, sym, arith}
use Rattle.stomp_session.specs.Inner.Stored.{names_in}
use Rattle.stomp_session.proofs.Firsts.{index_in_front, known_in_front, unknown_in_front}
use Rattle.stomp_session.proofs.names.Names.find_by.Goals as goal

pub returns-in_err-index-clause-known : goal.returns-in_err-index-clause-known
returns-in_err-index-clause-known c =
    let names = names_in c.self.inside.shared in
    rw (c.from_residual.ensures, ← c.self.view_is) (sym (unknown_in_front c.args.name.now names c.self.inside.count (sym c.index_in.ensures ∙ c.in_err-index.was) c.self.invariant.0))

pub returns-then-index-self-clause-known : goal.returns-then-index-self-clause-known
returns-then-index-self-clause-known c =
    let names = names_in c.self.inside.shared in
    let at = c.in_ok-index.index in
    let within : nat_lt at c.self.inside.count ≡ true = grind (arith, c.if-index-self.true) in
    rw (← c.self.view_is) (sym (known_in_front c.args.name.now names c.self.inside.count at (sym c.index_in.ensures ∙ c.in_ok-index.was) c.self.invariant.0 ∙ within))

pub returns-then-index-self-clause-index : goal.returns-then-index-self-clause-index
returns-then-index-self-clause-index c =
    let names = names_in c.self.inside.shared in
    let at = c.in_ok-index.index in
    rw (← c.self.view_is) (sym (index_in_front c.args.name.now names c.self.inside.count at (sym c.index_in.ensures ∙ c.in_ok-index.was) c.if-index-self.true))

pub returns-else-index-self-clause-known : goal.returns-else-index-self-clause-known
returns-else-index-self-clause-known c =
    let names = names_in c.self.inside.shared in
    let at = c.in_ok-index.index in
    let beyond : nat_lt at c.self.inside.count ≡ false = grind (arith, c.if-index-self.false) in
    rw (← c.self.view_is) (sym (known_in_front c.args.name.now names c.self.inside.count at (sym c.index_in.ensures ∙ c.in_ok-index.was) c.self.invariant.0 ∙ beyond))
