-- The wanted moments of a radial, put one behind the other: what is in the room, and what is still to come. Assumes nothing.
use Prim.Native.Nat.{ℕ, ◌+◌, ◌-◌, ◌≤◌}
use native.Mathlib.Omega.{arith}
use mathlib.Core.List.{List, []}
use mathlib.Core.Path.{◌≡◌, refl, ap, subst, ◌∙◌}
use lib.ListN.{length}
use Rattle.le.specs.Le.{patch, run, stored}
use Rattle.le.proofs.Laws.{stored-in}
use Rattle.moments.specs.declared.Place.{Place}
use Rattle.moments.specs.Moments.{first_of}
use Rattle.pick.specs.Keep.{kept_bytes, moment_run, wanted_of}
use Rattle.pick.proofs.Keeping.{still, still_run, Gets, Counted, counted_none, counted-more, counted-fits, counted_same, counted-all}
use Rattle.pick.proofs.Putting.{Still, still-all, still-rest, still-none}

module _ (wanted : ℕ) (b room₀ : List ℕ) (to : ℕ) where
  pub record Filling (room : List ℕ) (p : Place) (count end : ℕ) : Type 0 where
    pub from : to ≤ end
    pub counted : Counted wanted b p count (end - to)
    pub still : Still room end (still_run wanted b p) (patch room₀ to (kept_bytes wanted b))

  pub filling-none : (p : Place) → p ≡ first_of b → to + length (kept_bytes wanted b) ≤ length room₀ → Filling room₀ p 0 to
  filling-none p e h =
      let z : 0 ≡ to - to = omega arith in
      record {
        from = omega arith;
        counted = subst (Counted wanted b p 0) z (counted_none wanted b p e);
        still = rw e (still-all room₀ to (kept_bytes wanted b) h);
      }

  -- a wanted moment is put
  pub filling-more : {room : List ℕ} {p q : Place} {count end : ℕ} (m now : List ℕ) → Filling room p count end → Gets wanted b p q m → now ≡ stored (length m) room end m → Filling now q (count + 1) (end + length m)
  filling-more {room} {p} {q} {count} {end} m now f g e =
      let k = f.from in
      let n : end - to + length m ≡ end + length m - to = omega arith in
      let l = f.still.fits in
      let r = g.long in
      record {
        from = omega arith;
        counted = subst (Counted wanted b q (count + 1)) n (counted-more wanted b f.counted g);
        still = still-rest (length m) m (still_run wanted b q) (rw g.front at f.still) refl (e ∙ stored-in (length m) room end m (omega arith));
      }

  -- no sum wraps
  pub filling-fits : {room : List ℕ} {p q : Place} {m : List ℕ} {count end : ℕ} → Filling room p count end → Gets wanted b p q m → (count + 1 ≤ length b) × (end + length m ≤ length room)
  filling-fits f g = let l = f.still.fits in let r = g.long in ((counted-fits wanted b f.counted g).0, omega arith)

  -- another moment is passed
  pub filling-same : {room : List ℕ} {p q : Place} {count end : ℕ} → Filling room p count end → still wanted b p ≡ still wanted b q → Filling room q count end
  filling-same f e = record { from = f.from; counted = counted_same wanted b f.counted e; still = rw e at f.still }

  -- all are put
  pub record Filled (room : List ℕ) (count long : ℕ) : Type 0 where
    pub many : count ≡ length (wanted_of wanted b)
    pub long-is : long ≡ length (kept_bytes wanted b)
    pub room-is : room ≡ patch room₀ to (kept_bytes wanted b)

  pub filling-all : {room : List ℕ} {p : Place} {count end : ℕ} → Filling room p count end → still wanted b p ≡ [] → Filled room count (end - to)
  unfolding run
  filling-all f e =
      let c = counted-all wanted b f.counted e in
      record { many = c.0; long-is = c.1; room-is = still-none f.still (ap (run (moment_run b)) e) }
