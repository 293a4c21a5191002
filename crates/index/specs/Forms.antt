-- What the bytes of an index say, by themselves, in either form (document 02, #106), and what they are to say of a file.
use Rattle.std.specs.Prelude.{ℕ, ◌+◌, ◌-◌, ◌*◌, ◌^◌, ◌<◌, ◌≤◌, Bool, cond, ◌&&◌, List, [], ◌∷◌, map, eqb, leb, length, Option, Some, None}
use Rattle.le.specs.Le.{le, items}
use Rattle.reading.specs.declared.Stretch.{Stretch}
use Rattle.reading.specs.Reading.{stop, stretches}
use Rattle.index.specs.Index.{per_cut, most_old}

-- how many cuts there are, how many radials each has, and where each radial is
pub record Contents : Type 0 where
  pub cuts : ℕ
  pub counts : List ℕ
  pub places : List ℕ

-- the number of cuts to a reader of the old form alone: the first byte ("The house index")
abbrev pub old_cuts : List ℕ → ℕ
old_cuts x = le 1 x 0

-- the new form is told by that byte, which is then 0 (#106)
abbrev pub is_new : List ℕ → Bool
is_new x = eqb (old_cuts x) 0

-- by the form: the number of cuts, and where the first cut's count stands
unfoldable pub cuts_said : List ℕ → ℕ
cuts_said x = cond (is_new x) (le 2 x 1) (old_cuts x)

unfoldable pub counts_at : List ℕ → ℕ
counts_at x = cond (is_new x) 3 1

-- behind the counts, 2 bytes each: the number of radials in 4 bytes, and their places in 8 bytes each ("The house index")
unfoldable pub radials_at : List ℕ → ℕ
radials_at x = counts_at x + 2 * cuts_said x

abbrev pub places_at : List ℕ → ℕ
places_at x = radials_at x + 4

unfoldable pub said_by : List ℕ → Contents
said_by x =
    record {
      cuts = cuts_said x;
      counts = items (le 2) 2 (cuts_said x) x (counts_at x);
      places = items (le 8) 8 (le 4 x (radials_at x)) x (places_at x);
    }

-- so, whichever form an index has, one radial's place stands here, by its sequence number from 1 (#109)
abbrev pub place_at : List ℕ → ℕ → ℕ
place_at x n = places_at x + 8 * (n - 1)

-- and so it says where that radial is, or that there is none
unfoldable pub place_said : List ℕ → ℕ → Option ℕ
place_said x n = cond (leb 1 n && leb n (le 4 x (radials_at x))) (Some (le 8 x (place_at x n))) None

-- what it is to say: where a radial that was found starts
abbrev pub start_of_found : Option Stretch → Option ℕ
start_of_found None = None
start_of_found (Some s) = Some s.start

-- what is to be said for a number of cuts and some radials, and so of a file ("The house index")
abbrev pub contents_for : ℕ → List Stretch → Contents
contents_for cuts ss = record { cuts = cuts; counts = per_cut cuts 1 ss; places = map (λ (s : Stretch). s.start) ss }

abbrev pub contents_of : List ℕ → Contents
contents_of f = contents_for (stop f).plan.cuts (stretches f)

-- each number fits its bytes: those of the cuts, of each cut's radials, of all radials, and of each one's place
abbrev pub Below : {A : Type 0} → (A → ℕ) → ℕ → List A → Type 0
Below value n [] = Unit {0}
Below value n (x ∷ xs) = (value x < n) × Below value n xs

pub record Fit (cuts : ℕ) (ss : List Stretch) : Type 0 where
  pub some : 1 ≤ cuts
  pub old : cuts ≤ most_old → cuts < 256
  pub new : cuts < 256 ^ 2
  pub counts : Below (λ (n : ℕ). n) (256 ^ 2) (per_cut cuts 1 ss)
  pub radials : length ss < 256 ^ 4
  pub places : Below (λ (s : Stretch). s.start) (256 ^ 8) ss
