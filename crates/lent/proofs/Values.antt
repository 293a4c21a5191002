-- The machine values of a tally and of a wedge, whole and field by field. Assumes nothing.
use mathlib.Core.List.{List}
use mir.Val.{Val}
use denote.Struct.Laws as LL
use Rattle.wedge.specs.declared.Wedge.{Wedge}
use Rattle.wedge.specs.contracts.Wedge as P
use Rattle.wedge.proofs.Wedge.TheLaws as P'
use Rattle.ask.specs.declared.tallies.Tally.{Tally}
use Rattle.ask.specs.contracts.tallies.Tally as T
use Rattle.ask.proofs.tallies.Tally.TheLaws as T'

abbrev pub val : Tally → Val
val = LL.val T.the_type T'.the_laws

abbrev pub vals : Tally → List Val
vals = LL.vals T.the_type T'.the_laws

abbrev pub wedge_val : Wedge → Val
wedge_val = LL.val P.the_type P'.the_laws

abbrev pub wedge_vals : Wedge → List Val
wedge_vals = LL.vals P.the_type P'.the_laws
