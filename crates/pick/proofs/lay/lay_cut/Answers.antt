-- Both stores lie in the room. Assumes nothing.
use Prim.Native.Nat.{ℕ, ◌+◌}
use mathlib.Core.Path.{ap, ◌∙◌}
use lib.Bits.{bit_and}
use Rattle.le.specs.Le.{bytes, stored}
use Rattle.le.proofs.Laws.{part-is}
use Rattle.pick.proofs.Laying.{cut-laid}
use Rattle.pick.proofs.lay.lay_cut.Goals as goal

pub returns : goal.returns
returns c =
    let a = c.args in
    let mask = ap (λ (m : ℕ). stored 8 c.put.new.room (a.at + 84) (bytes 8 (bit_and m a.wanted))) c.u64_at.ensures in
    cut-laid a.file.now a.room.now c.put.new.room c.put_u64.new.room a.at a.wanted _ c.requires.cut_size_in_bounds_2 (part-is 256 a.file.now a.at c.requires.cut_size_in_bounds) c.put.ensures
    (c.put_u64.ensures ∙ mask)
