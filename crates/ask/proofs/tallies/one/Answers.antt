use borrow.Author.Tests.{eq-eqb, ne_eqb}
use Rattle.ask.proofs.Tallying.{azimuth-is}
use Rattle.ask.proofs.tallies.one.Goals.{else-s-cut-via-then-s-cut+else-holds, else-s-cut-via-else-s-cut}
use Rattle.ask.proofs.tallies.one.Goals as goal

pub returns-then-holds : goal.returns-then-holds
returns-then-holds c =
    rw (
      eq-eqb _ _ c.if-s-cut.true,
      ← c.own-b.ensures,
      azimuth-is c.own-b.result.now,
      ← c.u32_at.ensures,
      ← c.holds.ensures,
      c.if-holds.true,
      ← c.in_stretch.ensures,
    )
    c.carry.ensures

pub returns-else-s-cut : goal.returns-else-s-cut
returns-else-s-cut c =
    elim c.else-s-cut.branch [
      | else-s-cut-via-then-s-cut+else-holds w ↦
          rw (
            eq-eqb _ _ w.if-s-cut.true,
            ← c.own-b.ensures,
            azimuth-is c.own-b.result.now,
            ← w.u32_at.ensures,
            ← w.holds.ensures,
            w.if-holds.false,
          )
          c.none.ensures
      | else-s-cut-via-else-s-cut w ↦ rw (ne_eqb _ _ w.if-s-cut.false) c.none.ensures
    ]
