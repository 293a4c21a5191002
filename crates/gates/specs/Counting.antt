-- The seven counts of a tally (document 01, "What reading tells"; document 02, #101).
use Rattle.std.specs.Prelude.{cond, List, [], ◌∷◌, ℕ, ◌+◌, eqb}
use Rattle.gates.specs.declared.Counts.{Counts}

-- how many of the kinds are k
unfoldable pub count_of : ℕ → List ℕ → ℕ
count_of k [] = 0
count_of k (x ∷ kinds) = cond (eqb x k) 1 0 + count_of k kinds

-- the counts of a list of kinds
abbrev pub counts_of : List ℕ → Counts
counts_of kinds = record {
  below = count_of 0 kinds;
  folded = count_of 1 kinds;
  not_scanned = count_of 2 kinds;
  unknown = count_of 3 kinds;
  reserved = count_of 4 kinds;
  value = count_of 5 kinds;
  class = count_of 6 kinds;
}

-- the counts in the order of the kinds
abbrev pub in_order : Counts → List ℕ
in_order a = a.below ∷ a.folded ∷ a.not_scanned ∷ a.unknown ∷ a.reserved ∷ a.value ∷ a.class ∷ []

-- two counts, added field by field
abbrev pub summed : Counts → Counts → Counts
summed a b = record {
  below = a.below + b.below;
  folded = a.folded + b.folded;
  not_scanned = a.not_scanned + b.not_scanned;
  unknown = a.unknown + b.unknown;
  reserved = a.reserved + b.reserved;
  value = a.value + b.value;
  class = a.class + b.class;
}

-- how many gates were counted
abbrev pub total_of : Counts → ℕ
total_of a = a.below + a.folded + a.not_scanned + a.unknown + a.reserved + a.value + a.class
