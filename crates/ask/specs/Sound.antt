-- What stands behind an answered moment: its header kept its rules, so 16 bits hold its scale and offset, its data are all
-- there, it has length over bin length gates, and the float of a value loses nothing (document 01, numbers 21 to 24,
-- "Tiling" and "What reading tells").
use Rattle.std.specs.Prelude.{ℕ, ◌≤◌, ◌<◌, List, ◌⊎◌, ◌≡◌, length}
use Rattle.gates.specs.Codes.{gates_in, codes_of}
use Rattle.gates.specs.Exact.{Lossless}
use Rattle.moment.specs.Moment.{moment_at}
use Rattle.moments.specs.Moments.{data_at}
use Rattle.ask.specs.Answers.{coding_of}

pub record Sound (b : List ℕ) (p : ℕ) : Type 0 where
  pub scale : (1 ≤ (moment_at b p).scale) × ((moment_at b p).scale ≤ 32768)
  pub offset : (moment_at b p).offset ≤ 32768
  pub bin : ((moment_at b p).bin_length ≡ 1) ⊎ ((moment_at b p).bin_length ≡ 2)
  pub coding : coding_of (moment_at b p) ≡ record { data_type = (moment_at b p).data_type; scale = (moment_at b p).scale; offset = (moment_at b p).offset }
  pub bytes : length (data_at b p) ≡ (moment_at b p).length
  pub gates : length (codes_of (moment_at b p).bin_length (data_at b p)) ≡ gates_in (moment_at b p).length (moment_at b p).bin_length
  pub float : (code : ℕ) → code < 65536 → Lossless (coding_of (moment_at b p)) code
