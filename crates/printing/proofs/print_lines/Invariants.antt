-- Each line leaves fewer ahead, so the loop ends. Nothing has to hold from turn to turn. Assumes nothing.
use Rattle.std.proofs.Common.{length}
use Rattle.listing.proofs.Laws.{lines_at}
use Rattle.printing.proofs.print_lines.Given as goal

abbrev pub decreases-loop-line : goal.decreases-loop-line
decreases-loop-line g l = length (lines_at l.file l.c)
