use mathlib.Core.Path.{◌≡◌, ap}
use Prim.Native.Nat.{ℕ, ◌+◌, ◌^◌, ◌<◌}
use native.Mathlib.Nat.{lt_of_le_of_lt}
use native.Mathlib.Omega.{arith}
use lib.Bits.{bit_and, and_le_l}
use lib.Count.{ones}
use Rattle.coming.specs.Moments.{lacks, can_fill, fills, singles, doubles}
use Rattle.coming.proofs.Counts.{ones-parts}
use Rattle.coming.proofs.fills.Goals as goal

all : (mask sizes seen : ℕ) → mask < 2 ^ 64 → ones (lacks mask seen) ≡ ones (lacks (lacks mask seen) sizes) + ones (bit_and (lacks mask seen) sizes)
all mask sizes seen h = ones-parts (lacks mask seen) sizes (lt_of_le_of_lt (and_le_l mask _) h)

pub can_fill-requires : goal.can_fill-requires
can_fill-requires c =
    let a = c.args in
    let e = all a.mask a.sizes a.seen (omega arith) in
    rw (c.ones_of-n1.ensures, c.ones_of-n.ensures, c.lacks-one.ensures, c.lacks-free.ensures) (omega arith)

pub returns : goal.returns
unfolding fills singles doubles
returns c =
    let a = c.args in
    let e = all a.mask a.sizes a.seen (omega arith) in
    rw (c.can_fill.ensures, c.ones_of-n1.ensures, c.ones_of-n.ensures, c.lacks-one.ensures, c.lacks-free.ensures)
    (ap (λ (n : ℕ). can_fill (singles a.mask a.sizes a.seen) n a.todo a.rest) (omega arith))
