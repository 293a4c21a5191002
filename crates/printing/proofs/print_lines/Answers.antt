-- Each line leaves fewer ahead. Assumes nothing.
use Rattle.std.proofs.Common.{sym, ◌∙◌}
use Rattle.listing.proofs.Laws.{line-fewer}
use Rattle.printing.proofs.print_lines.Goals as goal

pub loop-line-smaller : goal.loop-line-smaller
loop-line-smaller g c = line-fewer _ _ c.in-Some.line c.in-Some.next (sym c.next_line.ensures ∙ c.in-Some.is)
