-- The checks in their order, each with what the earlier ones leave: what reading goes by. FirstFailed ties it to Checks.
use Rattle.std.specs.Prelude.{◌≡◌, ◌≢◌, ℕ, ◌+◌, ◌≤◌, ◌<◌, ◌⊎◌, Bool, List, [], ◌∷◌, ◌++◌, length, Some, None}
use Rattle.std.specs.List.{AllByRecursion}
use Rattle.std.specs.Str.{IsUtf8}
use Rattle.stomp_frame.specs.declared.command.Command.{Command}
use Rattle.stomp_frame.specs.declared.limits.Limits.{Limits}
use Rattle.stomp_frame.specs.declared.fault.Check.{Check}
use Rattle.stomp_frame.specs.declared.fault.Check.TheVariants.{BadCommand, BadLine, BadHeader, BadEscape, BadText, BadLength, BadEnd, LineTooLong, TooManyHeaders, BodyTooLong}
use Rattle.stomp_frame.specs.Headers.{Header}
use Rattle.stomp_frame.specs.Commands.{word, has_escapes}
use Rattle.stomp_frame.specs.ContentLength.{length_of, content_length}
use Rattle.stomp_frame.specs.Grammar.{IsLine, AreHeaders}
use Rattle.stomp_frame.specs.Checks.{Progress, AtCommand, AtHeader, AtBody, HasLine, IsNameless, HasBadEscape, IsCounted}

-- So much of the rest is complete, and this is what comes then.
abbrev pub IsReached : Limits → List ℕ → Progress → List ℕ → Type 0
IsReached limits rest AtCommand after = rest ≡ after
IsReached limits rest (AtHeader command headers) after = (first middle : List ℕ) × IsLine limits first (word command) × AreHeaders limits (has_escapes command) middle headers × (length headers ≤ limits.headers) × (rest ≡ first ++ (middle ++ after))
IsReached limits rest (AtBody command headers) after = (first middle last : List ℕ) × IsLine limits first (word command) × AreHeaders limits (has_escapes command) middle headers × (length headers ≤ limits.headers) × IsLine limits last [] × (rest ≡ first ++ (middle ++ (last ++ after)))

-- The next line fails the checks of any line: its content is over the limit, or two octets more than the limit
-- come there without LF; else it has a CR or a NULL; else it isn't UTF-8.
abbrev pub FailsAsLine : Limits → List ℕ → Check → Type 0
FailsAsLine limits text LineTooLong = ((content more : List ℕ) × HasLine text content more × (limits.line < length content)) ⊎ ((limits.line + 2 ≤ length text) × AllByRecursion (λ b. b ≢ 10) text)
FailsAsLine limits text BadLine = (content more : List ℕ) × HasLine text content more × (length content ≤ limits.line) × ¬ (AllByRecursion (λ b. (b ≢ 13) × (b ≢ 0)) content)
FailsAsLine limits text BadText = (content more : List ℕ) × HasLine text content more × (length content ≤ limits.line) × AllByRecursion (λ b. (b ≢ 13) × (b ≢ 0)) content × ¬ (IsUtf8 content)
FailsAsLine limits text _ = ⊥

-- The next line passes these, and has this content, which isn't empty.
abbrev pub Passes : Limits → List ℕ → List ℕ → Type 0
Passes limits text content = (line more : List ℕ) × IsLine limits line content × (content ≢ []) × (text ≡ line ++ more)

-- where a command is due: the line is no command
abbrev pub FailsAsCommand : Limits → List ℕ → Check → Type 0
FailsAsCommand limits text BadCommand = (content : List ℕ) × Passes limits text content × ((command : Command) → content ≢ word command)
FailsAsCommand limits text k = FailsAsLine limits text k

-- where a header is due: there are as many as may be; else the line has no name; else an escape is undefined or cut
abbrev pub FailsAsHeader : Limits → Bool → ℕ → List ℕ → Check → Type 0
FailsAsHeader limits escapes count text TooManyHeaders = (content : List ℕ) × Passes limits text content × (limits.headers ≤ count)
FailsAsHeader limits escapes count text BadHeader = (content : List ℕ) × Passes limits text content × (count < limits.headers) × IsNameless content
FailsAsHeader limits escapes count text BadEscape = (content : List ℕ) × Passes limits text content × (count < limits.headers) × HasBadEscape escapes content
FailsAsHeader limits escapes count text k = FailsAsLine limits text k

-- after the headers: the first content-length isn't 1 to 10 digits; else it is over the limit; else another octet
-- than NULL comes after so many; without one, more octets than the limit come there without NULL
abbrev pub FailsAsBody : Limits → List Header → List ℕ → Check → Type 0
FailsAsBody limits headers text BadLength = (digits : List ℕ) × (content_length headers ≡ Some digits) × (length_of digits ≡ None)
FailsAsBody limits headers text BodyTooLong = ((n : ℕ) × IsCounted headers n × (limits.body < n)) ⊎ ((content_length headers ≡ None) × (front more : List ℕ) × (text ≡ front ++ more) × (length front ≡ limits.body + 1) × AllByRecursion (λ b. b ≢ 0) front)
FailsAsBody limits headers text BadEnd = (body : List ℕ) × (b : ℕ) × (more : List ℕ) × IsCounted headers (length body) × (length body ≤ limits.body) × (text ≡ body ++ b ∷ more) × (b ≢ 0)
FailsAsBody limits headers text _ = ⊥

-- the text fails check k, and no earlier one, where so much is complete
abbrev pub FailsAt : Limits → Progress → List ℕ → Check → Type 0
FailsAt limits AtCommand text k = FailsAsCommand limits text k
FailsAt limits (AtHeader command headers) text k = FailsAsHeader limits (has_escapes command) (length headers) text k
FailsAt limits (AtBody command headers) text k = FailsAsBody limits headers text k

-- the rest is at this fault
abbrev pub IsFaulty : Limits → List ℕ → Check → Type 0
IsFaulty limits rest k = (progress : Progress) × (after : List ℕ) × IsReached limits rest progress after × FailsAt limits progress after k
