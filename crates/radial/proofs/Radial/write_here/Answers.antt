-- Each call lays the next run behind those that stand already. Assumes nothing.
use mathlib.Core.List.{[], ◌∷◌}
use native.Mathlib.Omega.{arith}
use Rattle.le.specs.Le.{bytes}
use Rattle.le.proofs.Laws.{length-bytes, length_run, laid-first, laid_next}
use Rattle.radial.specs.Radial.{radial_bytes}
use Rattle.radial.proofs.Radial.write_here.Goals as goal

pub returns : goal.returns
unfolding radial_bytes
returns c =
    let r = c.args.self in
    let fits = c.requires in
    let l0 = laid-first c.args.at 44 c.put_words.ensures (length_run (bytes 4) 4 (length-bytes 4) (r.state ∷ r.spot_blank ∷ r.sequence ∷ r.radial_number ∷ r.elevation_number ∷ r.azimuth ∷ r.elevation ∷ r.seconds ∷ r.microseconds ∷ r.length_of_data ∷ r.moment_number ∷ [])) (omega arith) in
    let l1 = laid_next 20 r.reserved l0 c.put_bytes.ensures.stored c.put_bytes.ensures.len (omega arith) in
    l1.is
