-- How an index is made in one pass over the radials' headers: what the private functions promise. Who reads "The house
-- index" (document 01) needs nothing of it.
use Rattle.std.specs.Prelude.{ℕ, ◌+◌, ◌*◌, cond, ◌&&◌, List, eqb, leb, ltb, length}
use Rattle.le.specs.Le.{le}
use Rattle.cut.specs.Cut.{cut_size}
use Rattle.walk.specs.Due.{cut_place}
use Rattle.reading.specs.Reading.{stop, stretches}
use Rattle.index.specs.declared.making.Entry.{Entry}
use Rattle.index.specs.declared.making.Entry.TheVariants.{Count, Place, End}
use Rattle.index.specs.declared.Layout.{Layout}
use Rattle.index.specs.declared.Layout.TheVariants.{Fits, Short, Unfinished}
use Rattle.index.specs.Answer.{complete}
use Rattle.index.specs.Index.{start_of}

-- the number of cuts in a file's bytes: the task's, which stands behind the generic and site blocks ("Blocks")
abbrev pub cuts_in : List ℕ → ℕ
cuts_in f = le 4 f 336

-- where the first radial starts: behind the last cut's block ("Blocks")
abbrev pub first_radial : ℕ → ℕ
first_radial cuts = cut_place cuts + cut_size

-- the entry due, by how many radials are to come and the cut of the next: the count of a cut that has no further radial,
-- else a radial's place, else none ("The house index")
unfoldable pub entry_of : ℕ → ℕ → ℕ → ℕ → Entry
entry_of left next cut cuts = cond (eqb left 0) (cond (leb cut cuts) Count End) (cond (leb cut cuts && ltb cut next) Count Place)

-- where the second section starts: behind the start and 2 bytes for each cut ("The house index")
abbrev pub second_at : ℕ → ℕ
second_at cuts = length (start_of cuts) + 2 * cuts

-- how long an index is: 4 bytes more for the number of radials, and 8 for each ("The house index")
abbrev pub size_for : ℕ → ℕ → ℕ
size_for cuts radials = second_at cuts + 4 + 8 * radials

-- how many cuts, radials and bytes an index has, where it has no more than len ("The house index": 33)
unfoldable pub layout_for : ℕ → ℕ → ℕ → Layout
layout_for cuts radials len = cond (leb (size_for cuts radials) len) (Fits cuts radials (size_for cuts radials)) Short

-- the same for a file, where it is complete ("The house index": 36)
unfoldable pub layout_of : List ℕ → ℕ → Layout
layout_of f len = cond (complete f) (layout_for (stop f).plan.cuts (length (stretches f)) len) Unfinished
