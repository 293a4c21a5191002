-- The cut blocks and the radials, laid down one behind the other: what is in the room, and what is still to come. Assumes nothing.
use Prim.Native.Nat.{ℕ, zero, suc, ◌+◌, ◌-◌, ◌*◌, ◌≤◌, ◌<◌}
use native.Mathlib.Omega.{arith}
use mathlib.Core.List.{List, [], ◌∷◌, ◌++◌}
use mathlib.Core.Path.{◌≡◌, refl, sym, ap, ap₂, subst, ◌∙◌}
use lib.Bits.{bit_and}
use lib.ListN.{length, take, drop, length-append}
use lib.Seq.{length-take-le}
use Rattle.le.specs.Le.{le, items, part, patch, run, stored}
use Rattle.le.proofs.Laws.{le-part, length-bytes, length_part, length-patch, patch-join, stored-in}
use Rattle.radial.specs.Radial.{radial_at, radial_of}
use Rattle.reading.specs.declared.Stretch.{Stretch}
use Rattle.reading.specs.Reading.{bytes_of, stretches}
use Rattle.volume.specs.InPlace.{task_block}
use Rattle.ask.proofs.Growing.{AllPlaced, all_placed}
use Rattle.pick.specs.Keep.{kept_bytes, picked_radial}
use Rattle.pick.specs.Pick.{picked_cut, cut_blocks, picked, picked_radials, radials_at}
use Rattle.pick.proofs.Putting.{Still, still-all, still-rest, still-none}
use Rattle.pick.proofs.Standing.{Row, none, more, row, row-short, only, sized, Stands}

-- ---- the cuts

-- how long a picked cut block is
cut-long : (wanted : ℕ) (f : List ℕ) (at : ℕ) → length (picked_cut wanted (part 256 f at)) ≡ 256
unfolding picked_cut
cut-long wanted f at =
    let b = part 256 f at in
    let l = length_part 256 f at in
    let m = length-bytes 8 (bit_and (le 8 b 84) wanted) in
    length-patch b 84 _ (omega arith) ∙ l

module _ (wanted : ℕ) (f : List ℕ) where
  -- n blocks from place `at` on, picked
  abbrev pub blocks : ℕ → ℕ → List ℕ
  blocks n at = run (picked_cut wanted) (items (part 256) 256 n f at)

  blocks-long : (n at : ℕ) → length (blocks n at) ≡ 256 * n
  unfolding run items
  blocks-long zero at = omega arith
  blocks-long (suc n) at =
      let k = blocks-long n (at + 256) in
      let c = cut-long wanted f at in
      length-append (picked_cut wanted (part 256 f at)) (blocks n (at + 256)) ∙ omega arith

  pub cuts-long : Stands f → 416 + length (run (picked_cut wanted) (cut_blocks f)) ≡ radials_at f
  cuts-long s = let l = blocks-long (task_block f).cut_number 416 in let k = s.at in omega arith

  -- where the radial at a place ends, as its header says
  abbrev pub end_at : ℕ → ℕ
  end_at at = at + 64 + (radial_at f at).length_of_data

  pub end-in : (at : ℕ) → end_at at ≡ at + 64 + le 4 f (at + 36)
  unfolding radial_at radial_of
  end-in at = ap (λ (n : ℕ). at + 64 + n) (le-part 4 64 f at 36 (omega arith))

  -- how long the volume is
  pub picked-long : Stands f → length (picked wanted f) ≡ radials_at f + length (picked_radials wanted f)
  unfolding picked
  picked-long s =
      let k = s.at in
      let w = s.within in
      let c = cuts-long s in
      let l = length-take-le 416 f (omega arith) in
      length-append (take 416 f ++ run (picked_cut wanted) (cut_blocks f)) (picked_radials wanted f)
      ∙ ap (λ (n : ℕ). n + length (picked_radials wanted f)) (length-append (take 416 f) (run (picked_cut wanted) (cut_blocks f)) ∙ omega arith)

  -- which is no more than the file has
  pub picked-short : Stands f → length (picked wanted f) ≤ length f
  picked-short s =
      let l = picked-long s in
      let w = s.within in
      let r = row-short wanted f (radials_at f) (stretches f) (row f) (all_placed f) in
      omega arith

module _ (wanted : ℕ) (f room₀ : List ℕ) where
  -- ---- the cuts

  -- so many blocks are still to come
  pub record Cuts (room : List ℕ) (at : ℕ) : Type 0 where
    pub left : ℕ
    pub here : at + 256 * left ≡ radials_at f
    pub still : Still room at (blocks wanted f left at) (patch room₀ 416 (run (picked_cut wanted) (cut_blocks f)))

  pub cuts_first : Stands f → radials_at f ≤ length room₀ → (at : ℕ) → at ≡ 416 → Cuts room₀ at
  cuts_first s h at e =
      let k = s.at in
      let l = cuts-long wanted f s in
      record { left = (task_block f).cut_number; here = omega arith; still = rw e (still-all room₀ 416 _ (omega arith)) }

  -- one is laid
  pub record CutTurn (room : List ℕ) (at : ℕ) : Type 0 where
    pub file : at + 256 ≤ radials_at f
    pub room_fits : at + 256 ≤ length room
    pub then : (now : List ℕ) → now ≡ patch room at (picked_cut wanted (part 256 f at)) → Cuts now (at + 256)

  pub cuts-more : {room : List ℕ} {at : ℕ} → Cuts room at → at < radials_at f → CutTurn room at
  unfolding run items
  cuts-more {room} {at} c h = go c.left c.here c.still
    where
      go : (n : ℕ) → at + 256 * n ≡ radials_at f → Still room at (blocks wanted f n at) (patch room₀ 416 (run (picked_cut wanted) (cut_blocks f))) → CutTurn room at
      go zero e s = absurd (omega arith)
      go (suc n) e s =
          let l = cut-long wanted f at in
          let k = length-append (picked_cut wanted (part 256 f at)) (blocks wanted f n (at + 256)) in
          let z = s.fits in
          record {
            file = omega arith;
            room_fits = omega arith;
            then = λ now d. record { left = n; here = omega arith; still = still-rest 256 (picked_cut wanted (part 256 f at)) (blocks wanted f n (at + 256)) s l d };
          }

  -- all are laid
  pub cuts-all : {room : List ℕ} {at : ℕ} → Cuts room at → radials_at f ≤ at → room ≡ patch room₀ 416 (run (picked_cut wanted) (cut_blocks f))
  unfolding run items
  cuts-all {room} {at} c h = go c.left c.here c.still
    where
      go : (n : ℕ) → at + 256 * n ≡ radials_at f → Still room at (blocks wanted f n at) (patch room₀ 416 (run (picked_cut wanted) (cut_blocks f))) → room ≡ patch room₀ 416 (run (picked_cut wanted) (cut_blocks f))
      go zero e s = still-none s refl
      go (suc n) e s = absurd (omega arith)

  -- ---- the radials

  -- these are still to come
  pub record Radials (room : List ℕ) (at to left : ℕ) : Type 0 where
    pub rest : List Stretch
    pub placed : AllPlaced f rest
    pub stand : Row f at rest
    pub many : left ≡ length rest
    pub still : Still room to (run (only wanted f) rest) (patch room₀ (radials_at f) (picked_radials wanted f))

  pub radials-first : radials_at f + length (picked_radials wanted f) ≤ length room₀ → (at left : ℕ) → at ≡ radials_at f → left ≡ length (stretches f) → Radials room₀ at at left
  radials-first h at left e n =
      record { rest = stretches f; placed = all_placed f; stand = rw e (row f); many = n; still = rw e (still-all room₀ (radials_at f) (picked_radials wanted f) h) }

  -- one is laid: b is what the file has up to where its header says
  pub record RadialTurn (room : List ℕ) (at to left : ℕ) : Type 0 where
    pub file : end_at wanted f at ≤ length f
    pub header : (b : List ℕ) → b ≡ take (end_at wanted f at - at) (drop at f) → 64 ≤ length b
    pub room_fits : (b : List ℕ) → b ≡ take (end_at wanted f at - at) (drop at f) → to + 64 + length (kept_bytes wanted b) ≤ length room
    pub then : (b now : List ℕ) → b ≡ take (end_at wanted f at - at) (drop at f) → now ≡ patch room to (picked_radial wanted b) → Radials now (end_at wanted f at) (to + 64 + length (kept_bytes wanted b)) (left - 1)

  pub radials-more : {room : List ℕ} {at to left : ℕ} → Radials room at to left → 0 < left → RadialTurn room at to left
  unfolding run
  radials-more {room} {at} {to} {left} r h = go r.rest r.placed r.stand r.many r.still
    where
      go : (ss : List Stretch) → AllPlaced f ss → Row f at ss → left ≡ length ss → Still room to (run (only wanted f) ss) (patch room₀ (radials_at f) (picked_radials wanted f)) → RadialTurn room at to left
      go [] p none n s = absurd (omega arith)
      go (x ∷ ss) p (more start end within stand) n s =
          let z = sized wanted f x ss p in
          let own : take (end_at wanted f at - at) (drop at f) ≡ bytes_of f x = sym (ap₂ (λ (i j : ℕ). take (j - i) (drop i f)) start end) in
          let l = length-append (only wanted f x) (run (only wanted f) ss) in
          let k = s.fits in
          let long = z.long in
          record {
            file = omega arith;
            header = λ b e. subst (λ (y : List ℕ). 64 ≤ length y) (sym (e ∙ own)) z.header;
            room_fits = λ b e. subst (λ (y : List ℕ). to + 64 + length (kept_bytes wanted y) ≤ length room) (sym (e ∙ own)) (omega arith);
            then = λ b now e d.
                record {
                  rest = ss;
                  placed = p.1;
                  stand = subst (λ (m : ℕ). Row f m ss) end stand;
                  many = omega arith;
                  still = subst (λ (m : ℕ). Still now m (run (only wanted f) ss) (patch room₀ (radials_at f) (picked_radials wanted f))) (ap (λ (m : ℕ). to + m) long ∙ (let q = ap (λ (y : List ℕ). length (kept_bytes wanted y)) (e ∙ own) in omega arith))
                      (still-rest (length (only wanted f x)) (only wanted f x) (run (only wanted f) ss) s refl (d ∙ ap (λ (y : List ℕ). patch room to (picked_radial wanted y)) (e ∙ own)));
                };
          }

  -- all are laid
  pub radials-all : {room : List ℕ} {at to left : ℕ} → Radials room at to left → left ≡ 0 → room ≡ patch room₀ (radials_at f) (picked_radials wanted f)
  unfolding run
  radials-all {room} {at} {to} {left} r h = go r.rest r.many r.still
    where
      go : (ss : List Stretch) → left ≡ length ss → Still room to (run (only wanted f) ss) (patch room₀ (radials_at f) (picked_radials wanted f)) → room ≡ patch room₀ (radials_at f) (picked_radials wanted f)
      go [] n s = still-none s refl
      go (x ∷ ss) n s = absurd (omega arith)

  -- ---- all of it: the blocks before the cuts, the cuts, the radials

  pub all_laid : Stands f → length (picked wanted f) ≤ length room₀ → (n : ℕ) → n ≡ 416 → (r₁ r₂ r₃ : List ℕ)
      → r₁ ≡ stored (length (take n f)) room₀ 0 (take n f) → r₂ ≡ patch r₁ 416 (run (picked_cut wanted) (cut_blocks f)) → r₃ ≡ patch r₂ (radials_at f) (picked_radials wanted f)
      → r₃ ≡ patch room₀ 0 (picked wanted f)
  unfolding picked
  all_laid s h n e r₁ r₂ r₃ e₁ e₂ e₃ =
      let a = take 416 f in
      let c = run (picked_cut wanted) (cut_blocks f) in
      let r = picked_radials wanted f in
      let k = s.at in
      let w = s.within in
      let p = picked-long wanted f s in
      let l : length a ≡ 416 = length-take-le 416 f (omega arith) in
      let m = cuts-long wanted f s in
      let lac : length (a ++ c) ≡ radials_at f = length-append a c ∙ omega arith in
      let p₁ : r₁ ≡ patch room₀ 0 a = e₁ ∙ ap (λ (i : ℕ). stored (length (take i f)) room₀ 0 (take i f)) e ∙ stored-in (length a) room₀ 0 a (omega arith) in
      let p₂ : r₂ ≡ patch room₀ 0 (a ++ c) = e₂ ∙ ap (λ (x : List ℕ). patch x 416 c) p₁ ∙ patch-join room₀ 0 416 a c l (omega arith) in
      let z : radials_at f ≡ 0 + radials_at f = omega arith in
      e₃ ∙ ap₂ (λ (x : List ℕ) (i : ℕ). patch x i r) p₂ z ∙ patch-join room₀ 0 (radials_at f) (a ++ c) r lac (omega arith)
