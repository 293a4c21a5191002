-- The wanted moments of a radial (document 02, #111); b is the radial's own stretch of the file. Type t is bit t - 1 of the mask.
use Rattle.std.specs.Prelude.{ℕ, ◌+◌, cond, List, [], ◌∷◌, ◌++◌, length, take, drop}
use Rattle.le.specs.Le.{bytes, patch, run}
use Rattle.rules.specs.Masks.{bit}
use Rattle.moment.specs.Moment.{moment_at, moment_size}
use Rattle.moments.specs.Moments.{moments_of}
use Rattle.radial.specs.Radial.{radial_size}
use Rattle.pick.specs.declared.keep.Kept.{Kept}

-- those of some moments whose type is wanted, in their order
unfoldable pub wanted_in : ℕ → List ℕ → List ℕ → List ℕ
wanted_in wanted b [] = []
wanted_in wanted b (at ∷ ats) = cond (bit wanted (moment_at b at).data_type) (at ∷ wanted_in wanted b ats) (wanted_in wanted b ats)

abbrev pub wanted_of : ℕ → List ℕ → List ℕ
wanted_of wanted b = wanted_in wanted b (moments_of b)

-- the header and the data of the moment at a place
abbrev pub moment_run : List ℕ → ℕ → List ℕ
moment_run b at = take (moment_size + (moment_at b at).length) (drop at b)

-- those of the wanted ones, one behind the other
abbrev pub kept_bytes : ℕ → List ℕ → List ℕ
kept_bytes wanted b = run (moment_run b) (wanted_of wanted b)

abbrev pub kept_of : ℕ → List ℕ → Kept
kept_of wanted b = record { moments = length (wanted_of wanted b); bytes = length (kept_bytes wanted b) }

-- the radial with these moments: its header, in which length of data and moment number are set anew (table 3-1), and they
unfoldable pub picked_radial : ℕ → List ℕ → List ℕ
picked_radial wanted b =
    patch (patch (take radial_size b ++ kept_bytes wanted b) 36 (bytes 4 (length (kept_bytes wanted b)))) 40 (bytes 4 (length (wanted_of wanted b)))
