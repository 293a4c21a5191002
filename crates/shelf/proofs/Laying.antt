-- The bytes of an old radial as an import lays them down: which, and how many. Assumes nothing.
use Rattle.std.proofs.Common.{◌≡◌, ℕ, ◌+◌, ◌*◌, ◌<◌, ◌≤◌, true, List, [], ◌∷◌, ◌++◌, length, sym, refl, ap, ◌∙◌, append_assoc, append-nil, arith, length-append, eq-eqb, ne_eqb}
use mathlib.Core.Logic.{dite}
use native.Mathlib.Decide.{dec_lt}
use Rattle.le.specs.Le.{bytes, part, patch, run}
use Rattle.le.proofs.Laws.{length_part, stored-in, Laid, laid_next}
use Rattle.moment.specs.Moment.{moment_bytes, moment_size}
use Rattle.moment.proofs.Trips.{length-is}
use Rattle.radial.specs.declared.Radial.{Radial}
use Rattle.radial.specs.Radial.{radial_bytes, radial_size}
use Rattle.writer.specs.Block.{bytes_of}
use Rattle.retold.specs.Retold.{Pair, moment_blocks, radial_blocks}
use Rattle.old.specs.declared.record.OldRadial.{OldRadial}
use Rattle.old.specs.declared.codes.Quantity.{Quantity}
use Rattle.old.specs.declared.codes.Quantity.TheVariants.{Reflectivity, Velocity, Width}
use Rattle.old.specs.Codes.{new_bytes}
use Rattle.old.specs.Headers.{gates_of, place_of, moment_length, moment_from, radial_from, data_length}
use Rattle.old.specs.Old.{counts_ok}
use Rattle.old.proofs.Back.{new-length}
use Rattle.old.proofs.Fitting.{moment-fits}
use Rattle.old.proofs.Lengths.{within}
use Rattle.shelf.specs.Import.{moment_of, moments_of}

-- one run more behind what is laid already
pub laid-behind : {f g h : List ℕ} {at n : ℕ} {x : List ℕ} (p m : ℕ) (y : List ℕ) → Laid f at g n x → p ≡ at + n → h ≡ patch g p y
    → length y ≡ m → at + n + m ≤ length f → Laid f at h (n + m) (x ++ y)
laid-behind {f} {g} {h} {at} {n} p m y l e is long b =
    let same = l.same in
    laid_next m y l (is ∙ ap (λ (k : ℕ). patch g k y) e ∙ sym (stored-in m g (at + n) y (omega arith))) long b

-- ---- a moment

unfoldable pub moment_run : Quantity → OldRadial → List ℕ → ℕ → List ℕ
moment_run q o f from = run bytes_of (moment_blocks (moment_of q o f from))

module _ (q : Quantity) (o : OldRadial) (f : List ℕ) (from : ℕ) where
  -- of no gates there is nothing
  pub none : gates_of q o ≡ 0 → (moment_length (gates_of q o) ≡ 0) × (moment_run q o f from ≡ [])
  unfolding moment_run run moment_blocks moment_of moment_length
  none e = let t = eq-eqb (gates_of q o) 0 e in (rw t, rw t)

  -- else a header, and two bytes a gate
  pub some : 0 < gates_of q o
      → (moment_length (gates_of q o) ≡ moment_size + 2 * gates_of q o)
      × (moment_run q o f from
      ≡ moment_bytes (moment_from q o.resolution (gates_of q o)) ++ run new_bytes (part (gates_of q o) f (from + place_of q o)))
  unfolding moment_run run moment_blocks moment_of moment_length
  some h = let t = ne_eqb (gates_of q o) 0 (λ e. omega arith) in (rw t, rw (t, append-nil))

  pub long : counts_ok o.reflectivity o.doppler ≡ true → length (moment_run q o f from) ≡ moment_length (gates_of q o)
  long ok =
      let g = gates_of q o in
      let w = within o ok q in
      dite (dec_lt 0 g)
      (λ m. let s = some m in
      let a = length-is (moment_from q o.resolution g) (moment-fits q o.resolution g (omega arith)) in
      let b = new-length (part g f (from + place_of q o)) in
      let n = length_part g f (from + place_of q o) in
      rw (s.1, s.0, length-append) (omega arith))
      (λ m. let s = none (omega arith) in rw (s.1, s.0))

-- ---- all moments

run-pairs : (a b : List Pair) → run bytes_of (moment_blocks (a ++ b)) ≡ run bytes_of (moment_blocks a) ++ run bytes_of (moment_blocks b)
unfolding run moment_blocks
run-pairs [] b = refl
run-pairs (p ∷ a) b = rw (run-pairs a b) (simp append_assoc)

-- a radial's bytes, whatever its header
pub moments-run : (o : OldRadial) (f : List ℕ) (from : ℕ) (r : Radial)
    → run bytes_of (radial_blocks r (moments_of o f from))
    ≡ radial_bytes r ++ moment_run Reflectivity o f from ++ moment_run Velocity o f from ++ moment_run Width o f from
unfolding moment_run run
moments-run o f from r =
    let a = moment_of Reflectivity o f from in
    let b = moment_of Velocity o f from in
    let d = moment_of Width o f from in
    rw (run-pairs a (b ++ d), run-pairs b d) (simp append_assoc)

-- and with the header that it gives, as many as that says
module _ (o : OldRadial) (sequence number : ℕ) (ok : counts_ok o.reflectivity o.doppler ≡ true) where
  header-long : length (radial_bytes (radial_from o sequence number)) ≡ radial_size
  unfolding radial_bytes radial_from run bytes
  header-long = refl

  pub radial-long : (f : List ℕ) (from : ℕ)
      → length (run bytes_of (radial_blocks (radial_from o sequence number) (moments_of o f from))) ≡ radial_size + data_length o
  unfolding gates_of
  radial-long f from =
      let h = header-long in
      let a = long Reflectivity o f from ok in
      let b = long Velocity o f from ok in
      let d = long Width o f from ok in
      rw (moments-run o f from (radial_from o sequence number)) (simp length-append (omega arith))
