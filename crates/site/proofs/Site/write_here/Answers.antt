-- Each call lays the next run behind those that stand already. Assumes nothing.
use mathlib.Core.List.{[], ◌∷◌}
use native.Mathlib.Omega.{arith}
use Rattle.le.specs.Le.{bytes, run}
use Rattle.le.proofs.Laws.{length-bytes, length_run, laid-first, laid_next}
use Rattle.site.specs.Site.{site_bytes}
use Rattle.site.proofs.Site.write_here.Goals as goal

pub returns : goal.returns
unfolding site_bytes
returns c =
    let r = c.args.self in
    let fits = c.requires in
    let l0 = laid-first c.args.at 8 c.put_bytes.ensures.stored c.put_bytes.ensures.len (omega arith) in
    let l1 = laid_next 32 r.name l0 c.put_bytes-2.ensures.stored c.put_bytes-2.ensures.len (omega arith) in
    let l2 = laid_next 32 (run (bytes 4) (r.latitude ∷ r.longitude ∷ r.antenna_height ∷ r.ground_height ∷ r.frequency ∷ r.beam_width_h ∷ r.beam_width_v ∷ r.rda_version ∷ [])) l1 c.put_words.ensures (length_run (bytes 4) 4 (length-bytes 4) (r.latitude ∷ r.longitude ∷ r.antenna_height ∷ r.ground_height ∷ r.frequency ∷ r.beam_width_h ∷ r.beam_width_v ∷ r.rda_version ∷ [])) (omega arith) in
    let l3 = laid_next 2 (bytes 2 r.radar_type) l2 c.put_u16.ensures (length-bytes 2 r.radar_type) (omega arith) in
    let l4 = laid_next 54 r.reserved l3 c.put_bytes-3.ensures.stored c.put_bytes-3.ensures.len (omega arith) in
    l4.is
