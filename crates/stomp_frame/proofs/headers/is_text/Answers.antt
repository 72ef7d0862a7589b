use Rattle.std.proofs.Common.{◌∙◌, arith}
use Rattle.std.proofs.lemmas.Str.{IsUtf8-from_is_utf8, is_utf8-from_IsUtf8}
use Rattle.stomp_frame.proofs.Bare.{no_null}
use Rattle.stomp_frame.proofs.headers.is_text.Goals as goal

pub returns-then-is_utf8 : goal.returns-then-is_utf8
returns-then-is_utf8 c = rw c.has_null.ensures (
  λ e. record { utf8 = IsUtf8-from_is_utf8 c.args.octets.now (grind arith); no_null = (no_null c.args.octets.now).0 e },
  λ w. (no_null c.args.octets.now).1 w.no_null,
)

pub returns-else-is_utf8 : goal.returns-else-is_utf8
returns-else-is_utf8 c = (
  λ e. absurd (grind arith),
  λ w. c.is_utf8.ensures ∙ is_utf8-from_IsUtf8 c.args.octets.now w.utf8,
)
