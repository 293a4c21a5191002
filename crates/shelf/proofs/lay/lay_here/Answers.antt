-- The header is laid down, and each moment where the one before it ends. Assumes nothing.
use Rattle.std.proofs.Common.{refl, arith, rules}
use Rattle.le.proofs.Laws.{laid-first}
use Rattle.radial.specs.Radial.{radial_size, RadialFits}
use Rattle.radial.proofs.Trips.{length-is}
use Rattle.old.specs.declared.codes.Quantity.TheVariants.{Reflectivity, Velocity, Width}
use Rattle.old.specs.Headers.{gates_of}
use Rattle.old.proofs.Lengths.{within}
use Rattle.shelf.proofs.Laying.{moment_run, long, laid-behind, moments-run}
use Rattle.shelf.proofs.lay.lay_here.Goals as goal

pub lay_moment-next-requires : goal.lay_moment-next-requires
unfolding gates_of
lay_moment-next-requires c =
    let w = within c.args.o c.requires.2 Reflectivity in
    (omega arith, omega arith)

pub lay_moment-next-requires-2 : goal.lay_moment-next-requires-2
unfolding gates_of
lay_moment-next-requires-2 c =
    let w = within c.args.o c.requires.2 Velocity in
    (omega arith, omega arith)

pub lay_moment-requires : goal.lay_moment-requires
unfolding gates_of
lay_moment-requires c =
    let w = within c.args.o c.requires.2 Width in
    (omega arith, omega arith)

radial-fits : (s : goal.After-slice_known-5-1) → RadialFits s.args.r
radial-fits s = search (rules, s.well_formed.1.1.1.1.1.0)

pub returns : goal.returns
unfolding moment_run gates_of
returns c =
    let a = c.args in
    let f = a.old.now in
    let fits = c.requires.0 in
    let l0 = laid-first a.at radial_size c.write.ensures (length-is a.r (radial-fits c)) (omega arith) in
    let l1 =
    laid-behind _ _ (moment_run Reflectivity a.o f a.from) l0 refl c.lay_moment-next.ensures.1
    (long Reflectivity a.o f a.from c.requires.2) (omega arith) in
    let l2 =
    laid-behind _ _ (moment_run Velocity a.o f a.from) l1 (omega (arith, c.lay_moment-next.ensures)) c.lay_moment-next-2.ensures.1
    (long Velocity a.o f a.from c.requires.2) (omega arith) in
    let l3 =
    laid-behind _ _ (moment_run Width a.o f a.from) l2 (omega (arith, c.lay_moment-next.ensures, c.lay_moment-next-2.ensures)) c.lay_moment.ensures.1
    (long Width a.o f a.from c.requires.2) (omega arith) in
    rw (moments-run a.o f a.from a.r) l3.is
