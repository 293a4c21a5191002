-- Where the blocks of a file stand: its radials one behind the other, as their headers say; and in a complete one, behind the cuts of its
-- task. Assumes nothing.
use Prim.Native.Nat.{ℕ, ◌+◌, ◌-◌, ◌*◌, ◌≤◌}
use native.Mathlib.Omega.{arith}
use mathlib.Core.List.{List, [], ◌∷◌, append-nil}
use mathlib.Core.Path.{◌≡◌, sym, ap, subst, ◌∙◌}
use lib.ListN.{length, length-append}
use Rattle.le.specs.Le.{Bytes, run}
use Rattle.rules.proofs.Numbers.{some-cut}
use Rattle.task.specs.declared.Task.{Task}
use Rattle.radial.specs.Radial.{radial_at}
use Rattle.reading.specs.declared.Stretch.{Stretch}
use Rattle.reading.specs.Reading.{bytes_of, stretches}
use Rattle.reading.specs.Tiling.{AllWhole}
use Rattle.reading.proofs.Radials.{all_whole, said}
use Rattle.volume.specs.InPlace.{task_block}
use Rattle.volume.specs.Volume.{bytes_of_volume}
use Rattle.volume.proofs.Placed.{front}
use Rattle.hope.proofs.Meaning.{means}
use Rattle.index.specs.Making.{cuts_in, first_radial}
use Rattle.index.proofs.Chained.{Chain, chained}
use Rattle.ask.proofs.Growing.{AllPlaced, all_placed}
use Rattle.ask.proofs.Sounding.{own-long}
use Rattle.mend.proofs.Behind.{volume-long}
use Rattle.mend.proofs.Fields.{number_in}
use Rattle.pick.specs.Keep.{kept_bytes, picked_radial}
use Rattle.pick.specs.Pick.{Complete, radials_at}
use Rattle.pick.proofs.Keeping.{short}
use Rattle.pick.proofs.Laying.{radial-long}

-- ---- radials one behind the other

pub data Row (f : List ℕ) : ℕ → List Stretch → Type 0 where
  none : {at : ℕ} → Row f at []
  more : {at : ℕ} {s : Stretch} {ss : List Stretch} → s.start ≡ at → s.end ≡ at + 64 + (radial_at f at).length_of_data → s.end ≤ length f → Row f s.end ss → Row f at (s ∷ ss)

row_of : (f : List ℕ) (at : ℕ) (ss : List Stretch) → Chain f at ss → AllWhole f ss → AllPlaced f ss → Row f at ss
unfolding Chain
row_of f at [] c w p = none
row_of f at (s ∷ ss) c w p =
    let start = c.0 in
    let end : s.end ≡ at + 64 + (radial_at f at).length_of_data = (said f s w.0).end ∙ ap (λ (n : ℕ). n + 64 + (radial_at f n).length_of_data) start in
    more start end p.0.within (row_of f s.end ss (subst (λ (n : ℕ). Chain f n ss) (sym end) c.3) w.1 p.1)

pub row : (f : List ℕ) → Row f (radials_at f) (stretches f)
row f =
    subst (λ (n : ℕ). Row f n (stretches f)) (ap first_radial (number_in f))
    (row_of f (first_radial (cuts_in f)) (stretches f) (chained f) (all_whole f) (all_placed f))

-- ---- a picked radial is no longer than it was

module _ (wanted : ℕ) (f : List ℕ) where
  abbrev pub only : Stretch → List ℕ
  only s = picked_radial wanted (bytes_of f s)

  -- each is whole
  pub record Sized (s : Stretch) : Type 0 where
    pub header : 64 ≤ length (bytes_of f s)
    pub long : length (only s) ≡ 64 + length (kept_bytes wanted (bytes_of f s))
    pub shorter : s.start + length (only s) ≤ s.end

  pub sized : (s : Stretch) (ss : List Stretch) → AllPlaced f (s ∷ ss) → Sized s
  sized s ss p =
      let own = own-long f s p.0 in
      let h = p.0.header in
      let header : 64 ≤ length (bytes_of f s) = omega arith in
      let long = radial-long wanted (bytes_of f s) header in
      let k = short wanted (bytes_of f s) in
      record { header = header; long = long; shorter = omega arith }

  -- so all of them are no longer than the file behind the cuts
  pub row-short : (at : ℕ) (ss : List Stretch) → Row f at ss → AllPlaced f ss → length (run only ss) ≤ length f - at
  unfolding run
  row-short at [] none p = omega arith
  row-short at (s ∷ ss) (more start end within r) p =
      let k = row-short s.end ss r p.1 in
      let l = length-append (only s) (run only ss) in
      let z = (sized s ss p).shorter in
      omega arith

-- ---- a complete file

pub record Stands (f : List ℕ) : Type 0 where
  pub some : 1 ≤ (task_block f).cut_number
  pub at : radials_at f ≡ 416 + 256 * (task_block f).cut_number
  pub within : radials_at f ≤ length f

pub stands : (f : List ℕ) → Bytes f → Complete f → Stands f
stands f bs e =
    let h = means.holds f bs e in
    let v = h.volume in
    let t = ap (λ (t : Task). t.cut_number) (front f v [] h.is.headed (append-nil (bytes_of_volume v) ∙ h.bytes)).task in
    let n = h.is.headed.number in
    let l = sym (ap length h.bytes) ∙ volume-long v h.is.headed in
    let k = some-cut v.task.scan_type v.task.cut_number h.is.headed.task.1.1.1.1.0 in
    let some : 1 ≤ (task_block f).cut_number = omega arith in
    let at : radials_at f ≡ 416 + 256 * (task_block f).cut_number = omega arith in
    record { some = some; at = at; within = omega arith }
