use mathlib.Core.Path.{sym}
use Rattle.reading.proofs.Run.{astray}
use Rattle.reading.proofs.Loops.{advance-stops}
use Rattle.reading.proofs.advance.Goals as goal

pub returns-then-file-from : goal.returns-then-file-from
returns-then-file-from c =
    let a = c.args in
    sym (advance-stops a.file.now a.from (astray a.file.now a.from c.if-file-from.true))
