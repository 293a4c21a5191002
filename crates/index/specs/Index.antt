-- The index of a file (document 01, "The house index"; document 02, #106): two sections, each after its count.
use Rattle.std.specs.Prelude.{ℕ, zero, suc, ◌+◌, cond, List, [], ◌∷◌, ◌++◌, eqb, leb, length}
use Rattle.le.specs.Le.{bytes, run}
use Rattle.reading.specs.declared.Stretch.{Stretch}
use Rattle.reading.specs.Reading.{stop, stretches}

-- how many of some whole radials are of a cut ("What reading tells")
unfoldable pub radials_in : ℕ → List Stretch → ℕ
radials_in cut [] = 0
radials_in cut (s ∷ ss) = cond (eqb s.cut cut) 1 0 + radials_in cut ss

-- the same for each of n cuts, from a cut on ("The house index")
unfoldable pub per_cut : ℕ → ℕ → List Stretch → List ℕ
per_cut zero cut ss = []
per_cut (suc n) cut ss = radials_in cut ss ∷ per_cut n (suc cut) ss

-- what an index of the old form starts with: the number of cuts, in 1 byte ("The house index")
unfoldable pub old_start : ℕ → List ℕ
old_start cuts = bytes 1 cuts

-- and one of the new form: a 0 byte, and the number of cuts in 2 (#106)
unfoldable pub new_start : ℕ → List ℕ
new_start cuts = 0 ∷ bytes 2 cuts

-- the most cuts of the old form (#106)
abbrev pub most_old : ℕ
most_old = 50

-- what an index starts with: by its number of cuts the old form, or the new one (#106)
unfoldable pub start_of : ℕ → List ℕ
start_of cuts = cond (leb cuts most_old) (old_start cuts) (new_start cuts)

-- how many radials a cut has, in 2 bytes ("The house index")
unfoldable pub count_of : ℕ → List ℕ
count_of n = bytes 2 n

-- the first section, by what it starts with: the cuts, which are numbered from 1 ("The house index")
unfoldable pub cut_section : (ℕ → List ℕ) → ℕ → List Stretch → List ℕ
cut_section start cuts ss = start cuts ++ run count_of (per_cut cuts 1 ss)

-- where a radial starts, in 8 bytes ("The house index")
unfoldable pub place_of : Stretch → List ℕ
place_of s = bytes 8 s.start

-- the second section: how many radials there are, in 4 bytes, and where each one is ("The house index")
unfoldable pub radial_section : List Stretch → List ℕ
radial_section ss = bytes 4 (length ss) ++ run place_of ss

-- both sections, for a number of cuts and some radials ("The house index")
unfoldable pub index_by : (ℕ → List ℕ) → ℕ → List Stretch → List ℕ
index_by start cuts ss = cut_section start cuts ss ++ radial_section ss

-- in the form that the number of cuts has (#106)
abbrev pub index_for : ℕ → List Stretch → List ℕ
index_for cuts ss = index_by start_of cuts ss

-- the index of a file: as many cuts as its task says, and its whole radials ("The house index")
abbrev pub index_of : List ℕ → List ℕ
index_of f = index_for (stop f).plan.cuts (stretches f)

-- the same in one form alone, whatever the number of cuts: the old one is the index of document 01
abbrev pub old_index_of : List ℕ → List ℕ
old_index_of f = index_by old_start (stop f).plan.cuts (stretches f)

abbrev pub new_index_of : List ℕ → List ℕ
new_index_of f = index_by new_start (stop f).plan.cuts (stretches f)
