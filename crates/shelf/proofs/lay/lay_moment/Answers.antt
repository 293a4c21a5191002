-- The header is laid down, and the codes behind it; of no gates, nothing. Assumes nothing.
use Rattle.std.proofs.Common.{ℕ, ◌+◌, ◌*◌, ◌<◌, [], length, sym, ap, ◌∙◌, arith, le-leb}
use lib.Seq.{paste-zero}
use Rattle.le.specs.Le.{part, patch, run}
use Rattle.le.proofs.Laws.{laid-first, laid_next, length_part}
use Rattle.moment.specs.Moment.{moment_size}
use Rattle.moment.proofs.Trips.{length-is}
use Rattle.old.specs.Codes.{new_bytes}
use Rattle.old.specs.Headers.{gates_of, place_of, moment_from}
use Rattle.old.proofs.Back.{new-length}
use Rattle.old.proofs.Fitting.{moment-fits}
use Rattle.shelf.proofs.Laying.{moment_run, none, some}
use Rattle.shelf.proofs.lay.lay_moment.Goals as goal

pub returns-then-n-eq0 : goal.returns-then-n-eq0
unfolding moment_run patch
returns-then-n-eq0 c =
    let a = c.args in
    let n = none a.q a.o a.old.now a.from (sym c.gates-n.ensures ∙ c.if-n-eq0.true) in
    (omega (arith, n.0), paste-zero a.room.now a.at [] ∙ sym (ap (patch a.room.now a.at) n.1))

pub returns : goal.returns
unfolding moment_run
returns c =
    let a = c.args in
    let g = gates_of a.q a.o in
    let p = a.from + place_of a.q a.o in
    let f = a.old.now in
    let e = c.gates-n.ensures in
    let fits = c.requires in
    let m = some a.q a.o f a.from (omega arith) in
    let t = le-leb (p + g) (length f) fits.1 in
    let small : g < 65536 = omega arith in
    let h = moment_from a.q a.o.resolution g in
    let l0 =
    laid-first a.at moment_size (rw (c.moment_from.ensures, e) at c.write.ensures)
    (length-is h (moment-fits a.q a.o.resolution g small)) (omega arith) in
    let l1 =
    laid_next (2 * g) (run new_bytes (part g f p)) l0 (rw (c.place.ensures, e, t) at c.put_moment.ensures)
    (new-length (part g f p) ∙ ap (λ (n : ℕ). 2 * n) (length_part g f p)) (omega arith) in
    (rw (c.moment_length.ensures, e), rw m.1 l1.is)
