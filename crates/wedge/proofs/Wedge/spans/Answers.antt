use borrow.Author.Tests.{le-leb, lt-leb}
use Rattle.wedge.proofs.Wedges.{upwards, through}
use Rattle.wedge.proofs.Wedge.spans.Goals as goal

pub returns-then-self-h : goal.returns-then-self-h
returns-then-self-h c = λ x w.
    let a = c.args in
    rw (upwards a.self.start a.self.end a.h x w c.if-self.true, le-leb _ _ c.if-self-h.true)

pub returns-else-self-h : goal.returns-else-self-h
returns-else-self-h c = λ x w.
    let a = c.args in
    rw (upwards a.self.start a.self.end a.h x w c.if-self.true, lt-leb _ _ c.if-self-h.false)

pub returns-then-self-h-2 : goal.returns-then-self-h-2
returns-then-self-h-2 c = λ x w.
    let a = c.args in
    rw (through a.self.start a.self.end a.h x w c.if-self.false, le-leb _ _ c.if-self-h-2.true)

pub returns-else-self-h-2 : goal.returns-else-self-h-2
returns-else-self-h-2 c = λ x w.
    let a = c.args in
    rw (through a.self.start a.self.end a.h x w c.if-self.false, lt-leb _ _ c.if-self-h-2.false)
