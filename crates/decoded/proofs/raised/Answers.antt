use native.Mathlib.Omega.{arith}
use mir.Syntax.{w64}
use mir.Facts.{to_z-of_z, to_z_pos}
use Rattle.decoded.proofs.Signs.{wide, raised}
use Rattle.decoded.proofs.raised.Goals as goal

pub overflow_cast-result : goal.overflow_cast-result
overflow_cast-result c = rw (to_z-of_z c.ranges.h) (wide c.args.h c.ranges.h)

pub overflow_add-result : goal.overflow_add-result
overflow_add-result c =
    let r = raised c.args.h c.ranges.h in
    let small = r.2 in
    rw (to_z-of_z c.ranges.h, to_z-of_z (wide c.args.h c.ranges.h), r.1) (record { sfits = omega arith })

pub overflow_cast-result-2 : goal.overflow_cast-result-2
overflow_cast-result-2 c =
    let r = raised c.args.h c.ranges.h in
    let small = r.2 in
    rw (to_z-of_z c.ranges.h, to_z-of_z (wide c.args.h c.ranges.h), r.1, to_z_pos w64 {n = r.0} (omega arith)) (tt, record { fits = omega arith })

pub returns : goal.returns
returns c =
    let r = raised c.args.h c.ranges.h in
    let small = r.2 in
    rw (to_z-of_z c.ranges.h, to_z-of_z (wide c.args.h c.ranges.h), r.1, to_z_pos w64 {n = r.0} (omega arith))
