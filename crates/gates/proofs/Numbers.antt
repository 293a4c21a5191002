-- The numbers to try that are marked P hold of the definitions: each line of the table is computed. Assumes nothing.
use mathlib.Core.Path.{◌≡◌, refl}
use mathlib.Core.List.{map}
use lib.Ieee.{div, of_int}
use Rattle.le.specs.Le.{le, items}
use Rattle.gates.specs.Gates.{is_measurement, float_of, other_of, gate_of, magnitude_of, rounded_of, told_of}
use Rattle.gates.specs.Codes.{codes_of}
use Rattle.gates.specs.Numbers.{as_defined, table}

pub table-holds : map as_defined table ≡ table
unfolding le items is_measurement float_of other_of gate_of magnitude_of rounded_of told_of codes_of div of_int table
table-holds = refl
