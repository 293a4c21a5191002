-- The four stores lie in the room. Assumes nothing.
use Prim.Native.Nat.{ℕ, ◌+◌, ◌%◌, ◌^◌}
use native.Mathlib.Omega.{arith}
use mathlib.Core.List.{List}
use mathlib.Core.Path.{sym, ap, ◌∙◌}
use lib.ListN.{length}
use Rattle.le.specs.Le.{bytes, stored}
use Rattle.le.proofs.Laws.{part-here}
use Rattle.pick.specs.declared.keep.Kept.{Kept}
use Rattle.pick.proofs.Laying.{radial-laid}
use Rattle.pick.proofs.lay.lay_radial.Goals as goal

pub overflow_add-result-2 : goal.overflow_add-result-2
overflow_add-result-2 c =
    let k = ap {B = ℕ} (λ (x : Kept). x.bytes) c.lay_moments-kept.ensures.value in
    omega (arith, c.requires.b_in_bounds, c.well_formed)

pub returns : goal.returns
returns c =
    let a = c.args in
    let kept = c.lay_moments-kept.ensures.value in record {
      value = ap (λ (x : Kept). a.to + 64 + x.bytes) kept;
      room_after = radial-laid a.wanted a.b.now a.room.now c.put_bytes.new.room c.lay_moments-kept.new.room c.put_u32.new.room c.put_u32-2.new.room a.to c.requires.radial_size_in_bounds c.requires.b_in_bounds
          (c.put_bytes.ensures.stored ∙ ap (λ (n : ℕ). stored n a.room.now a.to c.bytes_at-head.result) (sym c.put_bytes.ensures.len) ∙ ap (λ (x : List ℕ). stored (length x) a.room.now a.to x) (c.bytes_at-head.ensures ∙ sym (part-here 64 a.b.now 0 c.requires.radial_size_in_bounds))) c.lay_moments-kept.ensures.room_after
          (c.put_u32.ensures ∙ ap (λ (x : Kept). stored 4 c.lay_moments-kept.new.room (a.to + 36) (bytes 4 (x.bytes % 256 ^ 4))) kept)
          (c.put_u32-2.ensures ∙ ap (λ (x : Kept). stored 4 c.put_u32.new.room (a.to + 40) (bytes 4 (x.moments % 256 ^ 4))) kept);
    }
