-- Each call lays the next run behind those that stand already. Assumes nothing.
use mathlib.Core.List.{[], ◌∷◌}
use native.Mathlib.Omega.{arith}
use Rattle.le.specs.Le.{bytes, run}
use Rattle.le.proofs.Laws.{length-bytes, length_run, laid-first, laid_next}
use Rattle.generic.specs.Generic.{generic_bytes}
use Rattle.generic.proofs.Generic.write_here.Goals as goal

pub returns : goal.returns
unfolding generic_bytes
returns c =
    let r = c.args.self in
    let fits = c.requires in
    let l0 = laid-first c.args.at 4 c.put_u32.ensures (length-bytes 4 r.magic) (omega arith) in
    let l1 = laid_next 4 (run (bytes 2) (r.major ∷ r.minor ∷ [])) l0 c.put_halves.ensures (length_run (bytes 2) 2 (length-bytes 2) (r.major ∷ r.minor ∷ [])) (omega arith) in
    let l2 = laid_next 8 (run (bytes 4) (r.generic_type ∷ r.product_type ∷ [])) l1 c.put_words.ensures (length_run (bytes 4) 4 (length-bytes 4) (r.generic_type ∷ r.product_type ∷ [])) (omega arith) in
    let l3 = laid_next 16 r.reserved l2 c.put_bytes.ensures.stored c.put_bytes.ensures.len (omega arith) in
    l3.is
