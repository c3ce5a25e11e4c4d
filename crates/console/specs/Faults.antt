-- The number by which a fault is printed.
use Rattle.std.specs.Prelude.{ℕ}
use Rattle.elmd.specs.Refusals.{number}
use Rattle.console.specs.declared.line.LineFault.TheVariants.{UnknownLetter, Malformed}
use Rattle.console.specs.declared.fault.Fault.{Fault}
use Rattle.console.specs.declared.fault.Fault.TheVariants.{Line, NotGiven, Refused}

abbrev pub fault_number : Fault → ℕ
fault_number (Line UnknownLetter) = 91
fault_number (Line Malformed) = 92
fault_number NotGiven = 93
fault_number (Refused why) = number why
