use borrow.Author.Tests.{eq-eqb, ne_eqb}
use lib.Dec.{lit<}
use mir.Syntax.{w32}
use Rattle.rules.specs.States.{state_ok, opening, closing}
use Rattle.rules.proofs.Numbers.{exactly, opening-small, closing-small}
use Rattle.rules.proofs.states.state_ok.Goals as goal

pub returns-in-0 : goal.returns-in-0
unfolding state_ok
returns-in-0 c =
    let a = c.args in
    rw (eq-eqb a.in_cut 0 c.in-0.is, exactly w32 (opening a.scan a.cut) a.x (opening-small a.scan a.cut), c.opening.ensures)

pub returns-in-1 : goal.returns-in-1
unfolding state_ok
returns-in-1 c =
    let a = c.args in
    rw (ne_eqb a.in_cut 0 c.in_default.in_default-own.rest.1, exactly w32 1 a.x (lit< tt), eq-eqb _ _ c.in-1.is)

pub returns-in_default-x : goal.returns-in_default-x
unfolding state_ok
returns-in_default-x c =
    let a = c.args in
    rw (
      ne_eqb a.in_cut 0 c.in_default.in_default-own.rest.1,
      exactly w32 1 a.x (lit< tt),
      ne_eqb a.x 1 c.in_default-x.in_default-x-own.rest.1,
      exactly w32 (closing a.scan a.cuts a.cut) a.x (closing-small a.scan a.cuts a.cut),
      c.closing.ensures,
    )
