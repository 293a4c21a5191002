-- The old file (document 003, SA/SB; document 02, #102): radials of 2432 bytes, one after the other.
use Rattle.std.specs.Prelude.{ℕ, ◌*◌, ◌/◌, ◌%◌, Bool, ◌&&◌, eqb, leb}
use Rattle.old.specs.Old.{old_size}

-- number 50 (document 02, #102): a length that is a positive multiple of 2432
unfoldable pub shelf_ok : ℕ → Bool
shelf_ok n = leb 1 n && eqb (n % old_size) 0

-- how many radials a file of n bytes has, and where radial k begins, counted from 0 (document 003)
abbrev pub radials_in : ℕ → ℕ
radials_in n = n / old_size

abbrev pub radial_place : ℕ → ℕ
radial_place k = k * old_size
