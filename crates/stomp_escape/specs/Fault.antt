-- The numbers of the faults.
use Rattle.std.specs.Prelude.{ℕ}
use Rattle.stomp_escape.specs.declared.fault.EscapeFault.{EscapeFault}
use Rattle.stomp_escape.specs.declared.fault.EscapeFault.TheVariants.{Undefined, Cut, NoMemory}

-- the number under which each fault is documented (own)
abbrev pub escape_number : EscapeFault → ℕ
escape_number (Undefined at) = 1
escape_number Cut = 2
escape_number NoMemory = 3
