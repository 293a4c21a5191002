-- What a fresh state and any blocks taken after it have written is read to its end, complete or open. Assumes nothing.
use Prim.Native.Nat.{ℕ, ◌≤◌}
use native.Mathlib.Omega.{arith}
use mathlib.Core.Path.{◌≡◌, refl, sym, ap, subst, subst⁻¹, ◌∙◌}
use mathlib.Core.Bool.{false, true}
use mathlib.Core.List.{List, []}
use lib.ListN.{length}
use lib.Seq.{length-take-le}
use Rattle.walk.specs.declared.due.Due.{Due}
use Rattle.walk.specs.declared.due.Due.TheVariants as due
use Rattle.walk.specs.declared.due.Walk.{Walk}
use Rattle.walk.specs.Due.{size_at, is_end, at_start}
use Rattle.reading.specs.Reading.{stop, fuel, ending_told}
use Rattle.reading.specs.Step.{block_at, take_data, hope_at, hoping, say_block, step_of}
use Rattle.reading.proofs.Run.{Stays, View, here, short, over, done, view, is-here, is-short, is-done, run-stays, last_off, enough}
use Rattle.writer.specs.Agree.{written, Agrees}
use Rattle.writer.specs.Block.{Block}
use Rattle.writer.specs.Trips.{Run, fresh, more, Ends, is_complete, is_open, ReadBack}
use Rattle.writer.proofs.Agreeing.{keeps}

-- no block is taken where there are no bytes
pub nothing_read : Stays (step_of [] at_start)
unfolding Stays is_end size_at
nothing_read = subst⁻¹ Stays (is-short true [] at_start refl (omega arith)) tt

-- a fresh state agrees with every room
pub start : (room : List ℕ) → Agrees at_start room
start room = record { within = omega arith; stops = run-stays true (λ v. v) (λ v n r. r) (fuel []) [] at_start nothing_read }

pub agrees-along : {bs : List Block} {w : Walk} {room : List ℕ} → Run bs w room → Agrees w room
agrees-along (fresh room) = start room
agrees-along (more {bs} {w} {room} b fits r t) = (keeps b fits w room).agree t

-- a block with no byte is data, which the reader takes
empty-goes : (d : Due) (p : List ℕ) (w : Walk) → is_end d ≡ false → size_at d w.rest.length ≤ 0 → Stays (say_block d p w) → ⊥
unfolding is_end size_at block_at hope_at hoping take_data Stays
empty-goes due.Generic p w i h s = omega arith
empty-goes due.Site p w i h s = omega arith
empty-goes due.Task p w i h s = omega arith
empty-goes due.Cut p w i h s = omega arith
empty-goes due.Radial p w i h s = omega arith
empty-goes due.Moment p w i h s = omega arith
empty-goes due.Data p w i h s = s
empty-goes due.Nothing p w i h s = let z : ◌≡◌ {A = ℕ} 0 1 = cc in omega arith

-- a reading that stops at a file's end is complete or open
ends-at : (f : List ℕ) → (stop f).at ≡ length f → Ends f
unfolding ending_told
ends-at f l = go (view f (stop f))
  where
    go : View f (stop f) → Ends f
    go (here i h) = absurd (empty-goes (stop f).due _ (stop f) i (omega arith) (subst Stays (is-here f (stop f) i h) (last_off true (fuel f) f at_start (enough f at_start))))
    go (short i h) = is_open _ (ap ending_told (is-short true f (stop f) i h))
    go (over i h) = absurd (omega arith)
    go (done i h) = is_complete (ap ending_told (is-done true f (stop f) i h))

pub read_back : (w : Walk) (room : List ℕ) → Agrees w room → ReadBack w room
read_back w room a =
    let all = ap (λ (x : Walk). x.at) a.stops ∙ sym (length-take-le w.at room a.within) in
    record { agree = a; all = all; ends = ends-at (written w room) all }

pub run-back : {bs : List Block} {w : Walk} {room : List ℕ} → Run bs w room → ReadBack w room
run-back {bs} {w} {room} r = read_back w room (agrees-along r)
