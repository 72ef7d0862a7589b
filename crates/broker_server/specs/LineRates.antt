-- Lines of the log of which a hundred a second are written, and the others counted.
use Rattle.std.specs.Prelude.{ℕ, ◌+◌, ◌-◌, Bool, true, nat_le, nat_lt, ◌==◌, if◌then◌else◌, Option, None, Some}
use Rattle.broker_server.specs.declared.serving.line_rate.LineRate.{LineRate}
use Rattle.broker_server.specs.declared.serving.line_rate.Admitted.{Admitted}
use Rattle.broker_server.specs.declared.serving.line_rate.Admitted.TheVariants.{Written, FirstLeftOut, LeftOut}
use Rattle.broker_server.specs.declared.serving.moment.Moment.{Moment}

-- no line came
abbrev pub no_lines : LineRate
no_lines = record { began = None; written = 0; left_out = record { said = None; count = 0 } }

-- Whether a second is over that began there; where none has begun it is.
abbrev pub is_over : Option Moment → Moment → Bool
is_over None now = true
is_over (Some began) now = nat_le 1000000000 (now.0 - began.0)

-- when the second began in which a line at this moment comes
abbrev pub begins : LineRate → Moment → Option Moment
begins lines now = if is_over lines.began now then Some now else lines.began

-- how many were written in that second before
abbrev pub written_before : LineRate → Moment → ℕ
written_before lines now = if is_over lines.began now then 0 else lines.written

-- what becomes of a line at this moment
abbrev pub admitted : LineRate → Moment → Admitted
admitted lines now =
    if nat_lt (written_before lines now) 100 then Written
    else (if lines.left_out.count == 0 then FirstLeftOut else LeftOut)

-- how many were written in its second with it
abbrev pub written_with : LineRate → Moment → ℕ
written_with lines now =
    if nat_lt (written_before lines now) 100 then written_before lines now + 1 else written_before lines now
