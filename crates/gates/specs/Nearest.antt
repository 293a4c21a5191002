-- What it is to round to hundredths (document 01, "What reading tells"): to nearest, halves away from zero.
use Rattle.std.specs.Prelude.{◌≡◌, ℕ, ◌+◌, ◌*◌, ◌≤◌, ◌<◌, ℤ, pos, negsuc, neg_ℤ, nat_abs}

-- n, with the sign of d
abbrev pub like : ℤ → ℕ → ℤ
like (pos d) n = pos n
like (negsuc d) n = neg_ℤ (pos n)

-- h is 100 * d / scale, to nearest, halves away from zero: it has the sign of d, and the size of 100 * d / scale is at least
-- that of h less a half, and under that of h and a half (each side taken 2 * scale times)
pub record Nearest (d : ℤ) (scale : ℕ) (h : ℤ) : Type 0 where
  pub sign : h ≡ like d (nat_abs h)
  pub at_least : nat_abs h * (2 * scale) ≤ 200 * nat_abs d + scale
  pub under : 200 * nat_abs d < nat_abs h * (2 * scale) + scale
