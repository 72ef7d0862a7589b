use Rattle.std.proofs.Common.{◌≡◌, ◌∙◌, sym, ap, false, is_some}
use Rattle.stomp_session.specs.Names.{is_known}
use Rattle.stomp_session.proofs.Later.{index-unknown}
use Rattle.stomp_session.proofs.names.Names.judge.Goals as goal

pub returns-clause-topic : goal.returns-clause-topic
returns-clause-topic c =
    let unknown : is_known c.args.name.now c.args.self.now ≡ false = sym c.find_by.ensures.known ∙ ap is_some c.in_default.is in
    c.len-count.ensures ∙ sym (index-unknown c.args.name.now c.args.self.now unknown)
