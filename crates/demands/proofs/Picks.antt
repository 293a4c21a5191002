-- Only the moments asked for, by citing the crate `pick`, and the tables by computing. Assumes nothing.
use mathlib.Core.List.{map}
use mathlib.Core.Path.{◌≡◌, refl}
use Rattle.rules.specs.Masks.{bit}
use Rattle.rules.specs.Ranges.{within}
use Rattle.pick.proofs.Again.{twice}
use Rattle.pick.proofs.First.{by-questions, first-at-0}
use Rattle.pick.proofs.Picking.{given_back, picking}
use Rattle.demands.specs.Picks.{computed, cut_down, mask_table, table, Picks}

worked : map computed table ≡ table
unfolding table bit within
worked = refl

masked : map cut_down mask_table ≡ mask_table
unfolding mask_table
masked = refl

pub picks : Picks
picks = record { taken = picking; asked = by-questions; nothing = first-at-0; twice = twice; back = given_back; worked = worked; masked = masked }
