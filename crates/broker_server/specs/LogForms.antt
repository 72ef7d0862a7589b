-- How the lines of the log begin (own).
use Rattle.std.specs.Prelude.{ℕ, List, [], codes}
use Rattle.log.specs.declared.level.Level.{Level}
use Rattle.log.specs.declared.level.Level.TheVariants.{Error, Warn}
use Rattle.broker_server.specs.declared.log_form.LogForm.{LogForm}
use Rattle.broker_server.specs.declared.log_form.LogForm.TheVariants.{Plain, Prioritized}

-- What stands before a line of this level: where priorities are asked for, that of syslog, 3 of an error, 4 of a
-- warning, and 6 of any other. So a warning's begins with `<4>[WARN`, and with `[WARN` without.
abbrev pub front_of : LogForm → Level → List ℕ
front_of Plain level = []
front_of Prioritized Error = codes "<3>"
front_of Prioritized Warn = codes "<4>"
front_of Prioritized _ = codes "<6>"
