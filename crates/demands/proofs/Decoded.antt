-- Rows that somebody decoded, by citing the crate `decoded`, and the table by computing. Assumes nothing.
use mathlib.Core.List.{map}
use mathlib.Core.Path.{◌≡◌, refl}
use Rattle.gates.specs.Gates.{is_measurement, other_of, gate_of, magnitude_of, rounded_of, told_of}
use Rattle.decoded.specs.Decoded.{alike, checked}
use Rattle.decoded.proofs.Rows.{exactly, filled-is-row}
use Rattle.demands.specs.Decoded.{computed, table, DecodedRows}

worked : map computed table ≡ table
unfolding table checked alike told_of gate_of other_of is_measurement rounded_of magnitude_of
worked = refl

pub decoded-rows : DecodedRows
decoded-rows = record { exactly = exactly; filled = filled-is-row; worked = worked }
