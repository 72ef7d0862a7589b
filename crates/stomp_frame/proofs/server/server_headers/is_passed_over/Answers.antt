use Rattle.std.proofs.Common.{◌≡◌, false, sym, ◌∙◌, rules}
use Rattle.std.specs.Prelude.{is_some}
use Rattle.stomp_frame.specs.Headers.{first_of}
use Rattle.stomp_frame.specs.ServerFrames.{withheld}
use Rattle.stomp_frame.proofs.Names.{seen_is}
use Rattle.stomp_frame.proofs.server.server_headers.is_passed_over.Goals as goal

pub returns-else-is_withheld : goal.returns-else-is_withheld
returns-else-is_withheld c =
    let found : c.is_some.result ≡ is_some (first_of c.args.name.now c.args.headers.now) = search rules in
    seen_is withheld c.args.headers.now c.args.name.now false c.is_some.result (sym c.if-is_withheld.false ∙ c.is_withheld.ensures) found
